-- What adding blobs, one after another, leaves.
use Rattle.std.proofs.Common.{◌≡◌, ℕ, zero, suc, List, [], ◌∷◌, ◌++◌, Some, refl, sym, ap, ◌∙◌, subst, arith, append_assoc, append-nil}
use Rattle.std.specs.Prelude.{Contains, Result, Ok, Err, OnOk, OnErr}
use Rattle.std.specs.List.{AllByRecursion}
use Rattle.fl_digest.specs.declared.BlobRef.{BlobRef}
use Rattle.fl_digest.specs.declared.Hash.{Hash}
use Rattle.fl_digest.specs.Reference.{reference_of}
use Rattle.blob_store.specs.Blobs.{blob_at}
use Rattle.tree_rules.specs.Held.{Keeps}
use Rattle.tree_store.specs.Fresh.{Blobs, IsClashOf, AddsSome, HasAll, ClashesIn}
use Rattle.tree_rules.specs.Objects.{Entries, dir, tree_text}
use Rattle.tree_store.specs.Landing.{table}
use Rattle.tree_store.specs.Shown.{entries_text, all_shortened}
use Rattle.tree_store.specs.declared.faults.TreeFault.{TreeFault}
use Rattle.tree_store.specs.declared.faults.TreeFault.TheVariants.{NoMemory, Refused, Clash}
use Rattle.tree_store.proofs.Landed.{keeps_append}

abbrev pub IsAdded : Hash → List (List ℕ) → BlobRef × List ℕ → Type 0
IsAdded h allowed blob = Contains allowed blob.1 × (blob.0 ≡ reference_of h blob.1)

pub adds_none : (h : Hash) (allowed : List (List ℕ)) (blobs : Blobs) → AddsSome h allowed blobs blobs
adds_none h allowed blobs = ([], sym (append-nil blobs), tt)

both_added : (P : BlobRef × List ℕ → Type 0) (xs ys : Blobs) → AllByRecursion P xs → AllByRecursion P ys → AllByRecursion P (xs ++ ys)
both_added P [] ys a b = b
both_added P (x ∷ xs) ys a b = (a.0, both_added P xs ys a.1 b)

pub adds_more : (h : Hash) (allowed : List (List ℕ)) (a b c : Blobs) → AddsSome h allowed a b → AddsSome h allowed b c → AddsSome h allowed a c
adds_more h allowed a b c one two = (
  one.0 ++ two.0,
  two.1 ∙ ap (λ (xs : Blobs). xs ++ two.0) one.1 ∙ append_assoc a one.0 two.0,
  both_added (IsAdded h allowed) one.0 two.0 one.2 two.2,
)

each_added : (h : Hash) (some all : List (List ℕ)) → ((bytes : List ℕ) → Contains some bytes → Contains all bytes) → (xs : Blobs) → AllByRecursion (IsAdded h some) xs → AllByRecursion (IsAdded h all) xs
each_added h some all within [] each = tt
each_added h some all within (x ∷ xs) each = ((within x.1 each.0.0, each.0.1), each_added h some all within xs each.1)

pub adds_of : (h : Hash) (some all : List (List ℕ)) (a b : Blobs) → ((bytes : List ℕ) → Contains some bytes → Contains all bytes) → AddsSome h some a b → AddsSome h all a b
adds_of h some all a b within adds = (adds.0, adds.1, each_added h some all within adds.0 adds.2)

pub clashes_of : (h : Hash) (some all : List (List ℕ)) (blobs : Blobs) (fault : TreeFault) → ((bytes : List ℕ) → Contains some bytes → Contains all bytes) → ClashesIn h some blobs fault → ClashesIn h all blobs fault
clashes_of h some all blobs fault within clash = (clash.0, within clash.0 clash.1, clash.2)

-- what a store has with some blobs it has with more
pub adds_keep : (h : Hash) (allowed : List (List ℕ)) (store a b : Blobs) → AddsSome h allowed a b → Keeps (table (store ++ a)) (table (store ++ b))
adds_keep h allowed store a b adds =
    subst (λ (xs : Blobs). Keeps (table (store ++ a)) (table xs)) (append_assoc store a adds.0 ∙ sym (ap (λ (xs : Blobs). store ++ xs) adds.1)) (keeps_append (store ++ a) adds.0)

each_kept : (h : Hash) (before after : Blobs) → Keeps (table before) (table after) → (all : List (List ℕ)) → HasAll h all before → HasAll h all after
each_kept h before after keeps [] has = tt
each_kept h before after keeps (bytes ∷ all) has = (keeps (reference_of h bytes) bytes has.0, each_kept h before after keeps all has.1)

pub held_still : (h : Hash) (allowed all : List (List ℕ)) (store a b : Blobs) → AddsSome h allowed a b → HasAll h all (store ++ a) → HasAll h all (store ++ b)
held_still h allowed all store a b adds has = each_kept h (store ++ a) (store ++ b) (adds_keep h allowed store a b adds) all has

pub one_held : (h : Hash) (allowed : List (List ℕ)) (store a b : Blobs) (bytes : List ℕ) → AddsSome h allowed a b → blob_at (reference_of h bytes) (store ++ a) ≡ Some bytes → blob_at (reference_of h bytes) (store ++ b) ≡ Some bytes
one_held h allowed store a b bytes adds has = adds_keep h allowed store a b adds (reference_of h bytes) bytes has

-- each of all that are there is there
pub held_each : (h : Hash) (blobs : Blobs) (all : List (List ℕ)) → HasAll h all blobs → (bytes : List ℕ) → Contains all bytes → blob_at (reference_of h bytes) blobs ≡ Some bytes
held_each h blobs [] has bytes (k, within, is) = absurd (omega (arith, within))
held_each h blobs (x ∷ all) has bytes (zero, within, is) = subst (λ (b : List ℕ). blob_at (reference_of h b) blobs ≡ Some b) is has.0
held_each h blobs (x ∷ all) has bytes (suc k, within, is) = held_each h blobs all has.1 bytes (k, omega (arith, within), is)

pub first_one : (bytes : List ℕ) (rest : List (List ℕ)) → Contains (bytes ∷ rest) bytes
first_one bytes rest = (0, omega arith, refl)

pub behind_one : (x bytes : List ℕ) (rest : List (List ℕ)) → Contains rest bytes → Contains (x ∷ rest) bytes
behind_one x bytes rest c = (suc c.0, omega (arith, c.1), c.2)

pub one_of : (x : List ℕ) (rest : List (List ℕ)) (bytes : List ℕ) → Contains (x ∷ []) bytes → Contains (x ∷ rest) bytes
one_of x rest bytes (zero, within, is) = (0, omega arith, is)
one_of x rest bytes (suc k, within, is) = absurd (omega (arith, within))

pub adds_last : (h : Hash) (blobs after : Blobs) (bytes : List ℕ) (r : BlobRef) → r ≡ reference_of h bytes → after ≡ blobs ++ (r, bytes) ∷ [] → AddsSome h (bytes ∷ []) blobs after
adds_last h blobs after bytes r named is = ((r, bytes) ∷ [], is, ((first_one bytes [], named), tt))

-- a clash stays one where more is added
pub clash_still : (h : Hash) (before after : Blobs) (bytes : List ℕ) (fault : TreeFault) → Keeps (table before) (table after) → IsClashOf h before bytes fault → IsClashOf h after bytes fault
clash_still h before after bytes NoMemory keeps clash = clash
clash_still h before after bytes (Refused refusal) keeps clash = clash
clash_still h before after bytes (Clash reference kept offered) keeps clash = (clash.0, clash.1, keeps reference kept clash.2, clash.3)

-- the text and the values of a directory
pub text_is : (h : Hash) (es : Entries) → entries_text h es ≡ tree_text (dir (all_shortened h es))
unfolding entries_text
text_is h es = refl

pub adds_result : {V E : Type 0} (result : Result V E) (h : Hash) (blobs after : Blobs) (bytes : List ℕ) (r : BlobRef) → r ≡ reference_of h bytes → OnOk result (after ≡ blobs ++ (r, bytes) ∷ []) → OnErr result (after ≡ blobs) → AddsSome h (bytes ∷ []) blobs after
adds_result (Ok v) h blobs after bytes r named added kept = adds_last h blobs after bytes r named added
adds_result (Err e) h blobs after bytes r named added kept = subst (AddsSome h (bytes ∷ []) blobs) (sym kept) (adds_none h (bytes ∷ []) blobs)
