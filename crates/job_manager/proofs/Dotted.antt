-- The keys of jobs are keys, and their texts are written with the dotted text of the job's id.
use Rattle.std.proofs.Common.{◌≡◌, ℕ, zero, suc, ◌==◌, ◌/◌, ◌%◌, ◌<◌, ◌≤◌, Bool, true, false, List, [], ◌∷◌, ◌++◌, length, codes, not, Result, Ok, Err, refl, sym, ap, ◌∙◌, arith, subst}
use Rattle.std.specs.Prelude.{◌&&◌, IfOk, nat_lt, slice_index}
use Rattle.std.specs.List.{All, AllByRecursion, list_all}
use Rattle.std.proofs.lemmas.List.{length-append}
use Rattle.std.proofs.lemmas.List.Elements.{All-cons, All-nil}
use Rattle.json.proofs.Printed.Utf8.{are_ascii, IsUtf8-are_ascii}
use Rattle.fluid_ids.specs.Texts.{base_16, group_text, printed}
use Rattle.fluid_ids.specs.declared.forms.Form.TheVariants.{Dothex}
use Rattle.kvs_txn.specs.Keys.{IsComponent, IsKey}
use Rattle.kvs_txn.specs.Words.{path_text}
use Rattle.manager_rules.specs.Keys.{job_path}

-- a byte of ASCII that is no dot
pub record IsPlain (b : ℕ) : Type 0 where
  pub low : nat_lt b 128 ≡ true
  pub other : (b == 46) ≡ false

abbrev pub ArePlain : List ℕ → Type 0
ArePlain text = AllByRecursion IsPlain text

plain-at : (text : List ℕ) → ArePlain text → (i : ℕ) → IsPlain (slice_index text i)
plain-at [] h i = record { low = refl; other = refl }
plain-at (b ∷ text) h zero = h.0
plain-at (b ∷ text) h (suc i) = plain-at text h.1 i

plain-ascii : (text : List ℕ) → ArePlain text → are_ascii text ≡ true
plain-ascii [] h = refl
plain-ascii (b ∷ text) h = ap (λ t. t && are_ascii text) h.0.low ∙ plain-ascii text h.1

plain-dots : (text : List ℕ) → ArePlain text → All (λ b. (b == 46) ≡ false) text
plain-dots [] h = All-nil (λ b. (b == 46) ≡ false)
plain-dots (b ∷ text) h = All-cons (λ c. (c == 46) ≡ false) b text h.0.other (plain-dots text h.1)

pub component : (text : List ℕ) → ArePlain text → 0 < length text → IsComponent text
component text h some = record { text = IsUtf8-are_ascii text (plain-ascii text h); some = some; no_dot = plain-dots text h }

-- texts that are written out are tested
abbrev pub plain-test : ℕ → Bool
plain-test b = nat_lt b 128 && not (b == 46)

plain-from : (b : ℕ) → plain-test b ≡ true → IsPlain b
plain-from b e = by (nat_lt b 128) (b == 46) refl refl e
  where
    by : (s t : Bool) → nat_lt b 128 ≡ s → (b == 46) ≡ t → (s && not t) ≡ true → IsPlain b
    by true false l o e = record { low = l; other = o }
    by true true l o e = cc
    by false t l o e = cc

tested : (text : List ℕ) → list_all plain-test text ≡ true → ArePlain text
tested [] e = tt
tested (b ∷ text) e = by (plain-test b) refl (tested text) e
  where
    by : (t : Bool) → plain-test b ≡ t → (list_all plain-test text ≡ true → ArePlain text) → (t && list_all plain-test text) ≡ true → IsPlain b × ArePlain text
    by true is more e = (plain-from b is, more e)
    by false is more e = cc

pub written : (text : List ℕ) → list_all plain-test text ≡ true → 0 < length text → IsComponent text
written text e = component text (tested text e)

pub is-jobspec : IsComponent (codes "jobspec")
is-jobspec = written (codes "jobspec") refl (omega arith)

pub is-r : IsComponent (codes "R")
is-r = written (codes "R") refl (omega arith)

pub is-eventlog : IsComponent (codes "eventlog")
is-eventlog = written (codes "eventlog") refl (omega arith)

is-job : IsComponent (codes "job")
is-job = written (codes "job") refl (omega arith)

digits-plain : ArePlain base_16
unfolding base_16
digits-plain = tested base_16 refl

digit-plain : (i : ℕ) → IsPlain (slice_index base_16 i)
digit-plain i = plain-at base_16 digits-plain i

is-group : (g : ℕ) → IsComponent (group_text g)
is-group g = component (group_text g) (digit-plain (g / 16 / 16 / 16), (digit-plain (g / 16 / 16 % 16), (digit-plain (g / 16 % 16), (digit-plain (g % 16), tt)))) (omega arith)

width : (i : ℕ) → length ((codes "job." ++ printed Dothex i) ++ codes ".") ≡ 24
unfolding printed
width i = refl

pub text-is : (id : ℕ) (name : List ℕ) → path_text (job_path id ++ name ∷ []) ≡ ((codes "job." ++ printed Dothex id) ++ codes ".") ++ name
unfolding job_path printed
text-is id name = refl

pub key-is : (id : ℕ) (name : List ℕ) → IsComponent name → length name ≤ 8 → IsKey (job_path id ++ name ∷ [])
unfolding job_path
key-is id name is short = record {
  named = (is-job, (is-group (id / 65536 / 65536 / 65536), (is-group (id / 65536 / 65536 % 65536), (is-group (id / 65536 % 65536), (is-group (id % 65536), (is, tt))))));
  short = long;
  few = omega arith;
}
  where
    long : length (path_text (job_path id ++ name ∷ [])) ≤ 255
    long = subst (λ t. length t ≤ 255) (sym (text-is id name)) (let n = length-append ((codes "job." ++ printed Dothex id) ++ codes ".") name in let m = width id in omega arith)

pub if-ok : {A E : Type 0} {P Q : A → Type 0} (r : Result A E) → ((a : A) → P a → Q a) → IfOk r P → IfOk r Q
if-ok (Ok a) f h = f a h
if-ok (Err e) f h = tt
