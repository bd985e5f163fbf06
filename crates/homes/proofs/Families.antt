-- The instances of a run, where instances are born or go.
use Rattle.std.proofs.Common.{◌≡◌, ◌∙◌, ℕ, ◌<◌, ◌==◌, List, ◌++◌, Bool, true, false, ◌&&◌, ◌||◌, Option, Some, None, cond, get_or, refl, sym, ap, subst}
use Rattle.std.specs.Prelude.{is_some, option_and_then, option_map, slice_get}
use Rattle.std.specs.List.{list_any}
use Rattle.std.specs.Option.{option_map_or}
use Rattle.std.proofs.lemmas.Option.{get_or_from_slice_get, slice_get_within}
use Rattle.instance.specs.answers.Chronicle.{Setup, top}
use Rattle.instance.specs.answers.Jobs.{instance_of}
use Rattle.instance.specs.answers.declared.chronicle.Entry.{Entry}
use Rattle.hierarchy.specs.Births.{Birth, birth_of, is_born, is_gone, lives}
use Rattle.hierarchy.specs.Families.{living_in, shuts_down}
use Rattle.hierarchy.specs.Grows.{GrowsOwn, StaysAs}
use Rattle.hierarchy.specs.Legal.{IsLegalRun}
use Rattle.hierarchy.specs.Own.{child_setup, own_of, setup_in, work_for}
use Rattle.hierarchy.proofs.Numbering.{born_exactly, parents_first}
use Rattle.hierarchy.proofs.Owning.{is_alive}
use Rattle.instance.specs.Agrees.{AgreesOwn}
use Rattle.instance.specs.instance_rules.Log.{IsInstance}
use Rattle.homes.specs.Homes.{AreHomes, AreValid, IsHome, Lives, if_living, living_at}
use Rattle.homes.specs.Inside.{AreRising}
use Rattle.homes.specs.declared.homes.Home.{Home}
use Rattle.homes.specs.declared.homes.Origin.{Origin}

-- ---- by number

-- whose child the instance of a birth is
abbrev pub origin_by : Birth → Origin
origin_by b = record { parent = b.parent; job = b.job; label = b.label }

-- the birth that an origin tells
pub record IsBornAs (c : List Entry) (k : ℕ) (o : Origin) : Type 0 where
  pub b : Birth
  pub birth : birth_of c k ≡ Some b
  pub is : o ≡ origin_by b

module _ (set : Setup) (c : List Entry) (homes : List Home) (all : AreHomes set c homes) (run : IsLegalRun set c) where
  pub home_born : (k : ℕ) (h : Home) → slice_get homes k ≡ Some h → is_born c k ≡ true
  home_born k h e = (born_exactly set c k run).1 (subst (λ n. k < n) all.all (slice_get_within homes k h e))

  pub home_lives : (k : ℕ) (h : Home) → slice_get homes k ≡ Some h → h.gone ≡ false → lives c k ≡ true
  home_lives k h e here = is_alive c k (home_born k h e) (sym (all.each k h e).gone ∙ here)

  pub born_as : (k : ℕ) (h : Home) (o : Origin) → slice_get homes k ≡ Some h → h.origin ≡ Some o → IsBornAs c k o
  born_as k h o e is = by (birth_of c k) refl (sym (all.each k h e).origin ∙ is)
    where
      by : (birth : Option Birth) → birth_of c k ≡ birth → option_map origin_by birth ≡ Some o → IsBornAs c k o
      by None at same = cc
      by (Some b) at same = record { b = b; birth = at; is = cc }

  -- parents are born before their children
  pub rising : AreRising homes
  rising i h o e is =
      let from = born_as i h o e is in
      subst (λ p. p < i) (sym (ap (λ o. o.parent) from.is)) (parents_first set c run i from.b from.birth)

-- what a living instance says, of what is read at its number
pub says_here : (homes : List Home) (says : Home → Bool) (number : ℕ) (h : Home) → option_map_or says (living_at homes number) false ≡ true → h ≡ get_or homes number h
    → (slice_get homes number ≡ Some h) × (h.gone ≡ false) × (says h ≡ true)
says_here homes says number h can read = by (slice_get homes number) refl can
  where
    living : (one : Home) (b : Bool) → one.gone ≡ b → option_map_or says (cond b None (Some one)) false ≡ true → (one.gone ≡ false) × (says one ≡ true)
    living one true is never = cc
    living one false is ever = (is, ever)

    by : (x : Option Home) → slice_get homes number ≡ x → option_map_or says (option_and_then if_living x) false ≡ true → (slice_get homes number ≡ Some h) × (h.gone ≡ false) × (says h ≡ true)
    by None at never = cc
    by (Some one) at ever =
        let same : one ≡ h = sym (read ∙ get_or_from_slice_get homes number one h at) in
        let lives = living one one.gone refl ever in
        (at ∙ ap Some same, subst (λ x. x.gone ≡ false) same lives.0, subst (λ x. says x ≡ true) same lives.1)

-- ---- one instance

and_false : (b : Bool) → (b && false) ≡ false
and_false true = refl
and_false false = refl

pub or_false : (b : Bool) → (b || false) ≡ b
or_false true = refl
or_false false = refl

module _ (set : Setup) (c more : List Entry) (k : ℕ) (h one : Home) (was : IsHome set c k h) where
  -- the same instance, whether it has gone or not
  pub home_kept : birth_of (c ++ more) k ≡ birth_of c k → one.origin ≡ h.origin → one.work ≡ h.work → one.instance.spent ≡ false
      → one.gone ≡ is_gone (c ++ more) k → (one.gone ≡ false → Lives set (c ++ more) k one) → IsHome set (c ++ more) k one
  home_kept birth origin work ready gone alive = record {
    origin = origin ∙ was.origin ∙ sym (ap (option_map origin_by) birth);
    gone = gone;
    work = work ∙ was.work ∙ sym (ap (λ b. (option_map_or (child_setup set) b (record set { work = work_for set.work None set.size })).work) birth);
    ready = ready;
    lives = alive;
  }

  -- one of which nothing changes
  pub lives_on : h.gone ≡ false → StaysAs set c more k → one.shuts ≡ h.shuts → one.instance ≡ h.instance → Lives set (c ++ more) k one
  lives_on here stays shuts same =
      let lived = was.lives here in
      record {
        shuts = shuts ∙ lived.shuts ∙ sym (ap (λ l. l.shuts) stays.living);
        agrees = subst (λ v. AgreesOwn v (setup_in set (c ++ more) k) (own_of set (c ++ more) k)) (sym same)
            (subst (λ s. AgreesOwn h.instance s (own_of set (c ++ more) k)) (sym stays.setup)
            (subst (λ o. AgreesOwn h.instance (setup_in set c k) o) (sym stays.own) lived.agrees));
      }

  -- one that is told something which is no shutdown
  pub lives_told : (told : List Entry) → h.gone ≡ false → GrowsOwn set c more k told → list_any (shuts_down set.work) told ≡ false → one.shuts ≡ h.shuts
      → AgreesOwn one.instance (setup_in set c k) (own_of set c k ++ told) → Lives set (c ++ more) k one
  lives_told told here grows none shuts agrees = record {
    shuts = shuts ∙ (was.lives here).shuts
        ∙ sym (or_false (living_in set c k).shuts)
        ∙ sym (ap (λ b. (living_in set c k).shuts || b) (and_false (is_some (birth_of c k))))
        ∙ sym (ap (λ b. (living_in set c k).shuts || (is_some (birth_of c k) && b)) none)
        ∙ sym grows.shuts;
    agrees = subst (λ s. AgreesOwn one.instance s (own_of set (c ++ more) k)) (sym grows.setup)
        (subst (λ o. AgreesOwn one.instance (setup_in set c k) o) (sym grows.own) agrees);
  }

-- ---- what instances are given

pub valid_kept : (set : Setup) (c more : List Entry) → ((k : ℕ) → birth_of (c ++ more) k ≡ birth_of c k) → AreValid set c → AreValid set (c ++ more)
valid_kept set c more births valid = λ k born.
    subst (λ s. IsInstance (instance_of s))
    (sym (ap (λ b. option_map_or (child_setup set) b (record set { work = work_for set.work None set.size })) (births k)))
    (valid k (sym (ap (λ b. (k == top) || is_some b) (births k)) ∙ born))
