-- The next second, as the walks over the instances find it.
use Rattle.std.proofs.Common.{◌≡◌, ◌∙◌, ℕ, ◌<◌, List, [], ◌∷◌, ◌++◌, true, false, ◌&&◌, Option, length, sym, ap₂, refl, subst, arith}
use Rattle.std.specs.Prelude.{Some, None, IfSome, is_some, not}
use Rattle.std.specs.List.{list_any}
use Rattle.std.proofs.lemmas.Bool.{lt-ltb}
use Rattle.instance.specs.job_book.Seconds.{IsSoonest}
use Rattle.instance.proofs.job_rules_proofs.Among.{Among, among_from, among_left}
use Rattle.instance.specs.manager_rules.Times.{IsLeast}
use Rattle.homes.specs.Times.{all_ends, all_targets, has_due, is_left, may_go}
use Rattle.world.specs.Steps.{can_tick, keeps_time}
use Rattle.world.specs.Value.{WorldValue}

pub if_least : (xs : List ℕ) (o : Option ℕ) → IsSoonest xs o → IfSome o (λ second. IsLeast xs second)
if_least xs None h = tt
if_least xs (Some second) h = h

pub if_some : {P : Type 0} (o : Option ℕ) → P → IfSome o (λ second. P)
if_some None p = tt
if_some (Some second) p = p

some_there : (xs : List ℕ) (x : ℕ) → Among x xs → 0 < length xs
some_there [] x i = absurd i
some_there (y ∷ xs) x i = omega arith

is_there : (xs : List ℕ) (x : ℕ) (o : Option ℕ) → Among x xs → IsSoonest xs o → is_some o ≡ true
is_there xs x None i h = absurd (subst (Among x) h i)
is_there xs x (Some y) i h = refl

pub can_so : (v : WorldValue) (target : ℕ) (o : Option ℕ) → list_any has_due v.homes ≡ false → list_any (may_go v.homes) v.homes ≡ false → list_any (is_left v.homes) v.places ≡ false
    → IsLeast (all_targets v.homes) target → IsSoonest (all_targets v.homes ++ all_ends v.homes) o → is_some o ≡ can_tick v
can_so v target o due going left l h =
    let i = among_from (all_targets v.homes) target l.one in
    let free : keeps_time v ≡ false = rw (due, going, left) refl in
    is_there (all_targets v.homes ++ all_ends v.homes) target o (among_left (all_targets v.homes) (all_ends v.homes) target i) h
    ∙ sym (ap₂ (λ a b. not a && b) free (lt-ltb 0 (length (all_targets v.homes)) (some_there (all_targets v.homes) target i)))
