-- When dependencies are decided.
use Rattle.std.specs.Prelude.{◌≡◌, ℕ, Bool, true, not, ◌==◌, List, [], Option, Some, None, cond, filter, filter_map}
use Rattle.std.specs.Option.{is_some, option_map, unwrap_or}
use Rattle.std.specs.Ordering.{nat_cmp}
use Rattle.std.specs.BTreeMap.{is_at}
use Rattle.std.specs.List.Sorted.{IsPermutation, IsNonDecreasingBy}
use Rattle.std.specs.Map.{lookup}
use Rattle.job_queue.specs.declared.dependencies.Scheme.{Scheme}
use Rattle.job_queue.specs.declared.dependencies.Scheme.TheVariants.{After, AfterAny, AfterOk, AfterNotOk}
use Rattle.job_queue.specs.declared.dependencies.Outcome.{Outcome}
use Rattle.job_queue.specs.declared.dependencies.Outcome.TheVariants.{Started, Ended}
use Rattle.job_queue.specs.declared.dependencies.Open.{Open}
use Rattle.job_queue.specs.declared.dependencies.Settled.{Settled}

-- whether a dependency is met once the other job started, or ended (ok, started); none where that
-- is open (RFC 26, dependencies)
abbrev pub verdict : Scheme → Outcome → Option Bool
verdict After Started = Some true
verdict After (Ended ok started) = Some started
verdict AfterAny Started = None
verdict AfterAny (Ended ok started) = Some true
verdict AfterOk Started = None
verdict AfterOk (Ended ok started) = Some ok
verdict AfterNotOk Started = None
verdict AfterNotOk (Ended ok started) = Some (not ok)

-- what the outcome of a job makes of an open dependency, none where it stays open
abbrev pub settled_of : ℕ → Outcome → Open → Option Settled
settled_of job outcome o = cond (o.on == job) (option_map (λ met. record {
  id = o.id;
  on = o.on;
  scheme = o.scheme;
  met = met;
}) (verdict o.scheme outcome)) None

-- the outcome of the job leaves the dependency open
abbrev pub stays_open : ℕ → Outcome → Open → Bool
stays_open job outcome o = not (is_some (settled_of job outcome o))

-- the settled ones in order: by id, and those of one job as they were found
pub record AreInOrder (found list : List Settled) : Type 0 where
  pub same : IsPermutation found list
  pub by_id : IsNonDecreasingBy (λ s. s.id) list
  pub arrival : (id : ℕ) → filter (λ s. s.id == id) list ≡ filter (λ s. s.id == id) found

-- the open dependencies by the job that is waited for, those on one job in order of their arrival
abbrev pub Table : Type 0
Table = List (ℕ × List Open)

-- the open dependencies on a job, in order of their arrival
abbrev pub open_on : Table → ℕ → List Open
open_on table job = unwrap_or (lookup (is_at (nat_cmp job)) table) []

-- the open dependencies that the outcome of the job decides, as it decides them, in order of their
-- arrival
abbrev pub decided_by : Table → ℕ → Outcome → List Settled
decided_by table job outcome = filter_map (settled_of job outcome) (open_on table job)

-- the dependency is of another job
abbrev pub is_of_another : ℕ → Open → Bool
is_of_another id o = not (o.id == id)

-- these are the open dependencies on the job afterwards, and those on each other job stay
abbrev pub ChangesOpen : Table → Table → ℕ → List Open → Type 0
ChangesOpen old new job list = (other : ℕ)
    → open_on new other ≡ cond (job == other) list (open_on old other)
