use Rattle.std.proofs.Common.{rules, ◌≡◌, ◌<◌, ◌^◌, ℕ, Bool, true, List, length, arith, subst}
use Rattle.std.specs.Prelude.{All, IfSome, MatchBool}
use Rattle.std.specs.List.{AllWithin, HoldsAt}
use Rattle.std.proofs.lemmas.Iterator.{YieldsList-from_slice, cases_from_all}
use Rattle.job_clock.specs.Targets.{target_in}
use Rattle.job_clock.proofs.Least.{bounded_from}
use Rattle.service_tests.proofs.clocks.all_fit.Goals as goal

all_of : {A : Type 0} (P Q : A → Type 0) (b : Bool) (xs : List A) → b ≡ true → MatchBool b (AllWithin P xs 0 (length xs)) ((k : ℕ) × (k < length xs) × HoldsAt Q xs k) → All P xs
all_of P Q b xs e cases =
    let within = subst (λ t. MatchBool t (AllWithin P xs 0 (length xs)) ((k : ℕ) × (k < length xs) × HoldsAt Q xs k)) e cases in
    λ k d w. within k d (omega arith) w

pub returns : goal.returns
returns c = λ e.
    let cases = cases_from_all _ _ _ (λ row. IfSome (target_in row) (λ target. target < 2 ^ 64)) (λ row. Unit {0}) c.all.ensures.ran (YieldsList-from_slice c.args.rows.now cc) (λ x q k. search rules) (λ x q k. tt) in
    bounded_from (λ target. target < 2 ^ 64) target_in c.args.rows.now (all_of (λ row. IfSome (target_in row) (λ target. target < 2 ^ 64)) (λ row. Unit {0}) c.all.result c.args.rows.now e cases)
