-- What changes of the table leave open.
use Rattle.std.proofs.Common.{◌≡◌, ℕ, ◌==◌, List, [], Option, None, Some, Bool, true, false, cond, is_some, refl, sym, ap, ◌∙◌, subst, arith}
use Rattle.std.specs.Option.{unwrap_or}
use Rattle.std.specs.Ordering.{nat_cmp, is_eq}
use Rattle.std.specs.BTreeMap.{is_at}
use Rattle.std.specs.Map.{lookup, set_value}
use Rattle.std.proofs.lemmas.Bool.Decides.{nat_tests}
use Rattle.std.proofs.lemmas.Cmp.{eq_by_cmp_equiv, nat_cmp_total}
use Rattle.std.proofs.lemmas.Map.{lookup-set_value}
use Rattle.std.proofs.lemmas.Map.Steps.{set_value_same}
use Rattle.job_queue.specs.declared.dependencies.Open.{Open}
use Rattle.job_queue.specs.Dependencies.{Table, open_on, ChangesOpen}

same_job : (job other : ℕ) → is_at (nat_cmp job) other ≡ (job == other)
same_job job other = grind (arith, nat_tests)

equal_jobs : (job other : ℕ) → is_at (nat_cmp job) other ≡ true → job ≡ other
equal_jobs job other e = grind (arith, nat_tests)

at_job : (b c : Bool) (found : Option (List Open)) (list : List Open) → b ≡ c → unwrap_or (cond b (Some list) found) [] ≡ cond c list (unwrap_or found [])
at_job true c found list e = ap (λ d. cond d list (unwrap_or found [])) e
at_job false c found list e = ap (λ d. cond d list (unwrap_or found [])) e

-- a job's new list
pub changes_open : (old new : Table) (job : ℕ) (list : List Open) → ((other : ℕ) → lookup (is_at (nat_cmp other)) new ≡ cond (is_at (nat_cmp job) other) (Some list) (lookup (is_at (nat_cmp other)) old)) → ChangesOpen old new job list
changes_open old new job list h other = ap (λ found. unwrap_or found []) (h other) ∙ at_job (is_at (nat_cmp job) other) (job == other) (lookup (is_at (nat_cmp other)) old) list (same_job job other)

set_list : (table : Table) (job : ℕ) (was list : List Open) → lookup (is_at (nat_cmp job)) table ≡ Some was → ChangesOpen table (set_value (is_at (nat_cmp job)) table list) job list
set_list table job was list found = changes_open table (set_value (is_at (nat_cmp job)) table list) job list (λ other. lookup-set_value (eq_by_cmp_equiv nat_cmp_total) (is_at (nat_cmp job)) (λ x y e. ap (λ j. is_eq (nat_cmp j y)) (equal_jobs job x e)) other list table (ap is_some found))

-- a list that is written in its place
pub rewritten : (f : List Open → List Open) (old new : Table) (job : ℕ) (was list : List Open) → lookup (is_at (nat_cmp job)) old ≡ Some was → new ≡ set_value (is_at (nat_cmp job)) old list → list ≡ f was → ChangesOpen old new job (f (open_on old job))
rewritten f old new job was list found written is =
    let all : list ≡ f (open_on old job) = is ∙ sym (ap (λ o. f (unwrap_or o [])) found) in
    let changed : ChangesOpen old new job list = subst (λ t. ChangesOpen old t job list) (sym written) (set_list old job was list found) in
    subst (ChangesOpen old new job) all changed

-- a list that is written back as it was
pub written_back : (old new : Table) (job : ℕ) (was list : List Open) → lookup (is_at (nat_cmp job)) old ≡ Some was → new ≡ set_value (is_at (nat_cmp job)) old list → list ≡ was → new ≡ old
written_back old new job was list found written is = written ∙ ap (set_value (is_at (nat_cmp job)) old) is ∙ set_value_same (is_at (nat_cmp job)) old was found

none_at_job : (b : Bool) (found mine : Option (List Open)) → unwrap_or mine [] ≡ [] → (b ≡ true → found ≡ mine) → unwrap_or (cond b None found) [] ≡ unwrap_or found []
none_at_job true found mine e same = sym (ap (λ o. unwrap_or o []) (same refl) ∙ e)
none_at_job false found mine e same = refl

-- a list that is empty may go
pub empty_goes : (old new : Table) (job : ℕ) → open_on old job ≡ [] → ((other : ℕ) → lookup (is_at (nat_cmp other)) new ≡ cond (is_at (nat_cmp job) other) None (lookup (is_at (nat_cmp other)) old)) → (other : ℕ) → open_on new other ≡ open_on old other
empty_goes old new job empty h other = ap (λ found. unwrap_or found []) (h other) ∙ none_at_job (is_at (nat_cmp job) other) (lookup (is_at (nat_cmp other)) old) (lookup (is_at (nat_cmp job)) old) empty (λ e. ap (λ j. lookup (is_at (nat_cmp j)) old) (sym (equal_jobs job other e)))
