-- What a stable sort leaves of the dependencies of one job.
use Rattle.std.proofs.Common.{◌≡◌, ℕ, ◌==◌, List, not, ◌&&◌, false, filter, sym, ap, ◌∙◌, arith, Bor}
use Rattle.std.specs.Fn.{Called, ComputesKey}
use Rattle.std.specs.List.Sorted.{IsStableByKey}
use Rattle.std.specs.Ordering.{nat_cmp, is_lt}
use Rattle.std.proofs.lemmas.Bool.Decides.{nat_tests}
use Rattle.std.proofs.lemmas.Fn.{always_returns_same}
use Rattle.job_queue.specs.declared.dependencies.Scheme.TheVariants.{After}
use Rattle.job_queue.specs.declared.dependencies.Settled.{Settled}
use denote.Param.Members.{Mut}

-- two ids tie just where they are one
tie : (a b : ℕ) → (not (is_lt (nat_cmp a b)) && not (is_lt (nat_cmp b a))) ≡ (b == a)
tie a b = grind (arith, nat_tests)

of_job : ℕ → Settled
of_job id = record { id = id; on = 0; scheme = After; met = false }

-- they stay in their order
pub arrival_kept : {F : Type 0} {g : Mut F (Bor Settled × Unit {0}) ℕ} {f : F} (xs ys : List Settled)
    → ((key : Settled → ℕ) → ComputesKey g key f → IsStableByKey key nat_cmp xs ys)
    → ((a : Bor Settled × Unit {0}) (r : ℕ) (f' : F) → Called g f a r f' → (r ≡ a.0.now.id) × (f' ≡ f))
    → (id : ℕ) → filter (λ s. s.id == id) ys ≡ filter (λ s. s.id == id) xs
unfolding of_job
arrival_kept {g = g} {f = f} xs ys stable h id =
    let kept = stable (λ s. s.id) (always_returns_same g (λ a r. r ≡ a.0.now.id) f h) (of_job id) in
    let same : (λ (s : Settled). not (is_lt (nat_cmp id s.id)) && not (is_lt (nat_cmp s.id id))) ≡ (λ s. s.id == id) = λ i s. tie id s.id i in
    ap (λ p. filter p ys) (sym same) ∙ kept ∙ ap (λ p. filter p xs) same
