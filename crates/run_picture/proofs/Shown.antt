-- What a column shows of the rows is what it says of the jobs.
use Rattle.std.proofs.Common.{◌≡◌, List, [], ◌∷◌, Bool, true, false, cond, ◌&&◌, map, Option, Some, None, option_map, refl, sym, ap, ap₂, ◌∙◌}
use Rattle.std.specs.Prelude.{filter, if◌then◌else◌}
use Rattle.std.specs.List.{AllByRecursion as Each, list_any}
use Rattle.std.specs.Option.{option_map_or}
use Rattle.kvs_model.specs.Store.{Store}
use Rattle.manager_rules.specs.Jobs.{AreJobsOf, IsStored, StoredJob, ids_of, is_live}
use Rattle.resource_set.specs.Units.{units_of, units_of_node}
use Rattle.resource_set.specs.declared.node.Resources.{Resources}
use Rattle.run_picture.specs.Cells.{cell_in, holds_at, is_at}
use Rattle.run_picture.specs.Rows.{AreRowsOf, Known, cell_of, known_in, known_of}
use Rattle.run_picture.specs.declared.jobs.JobRow.{JobRow}
use Rattle.run_picture.specs.declared.picture.Place.{Place}
use Rattle.run_picture.proofs.Units.{any_unit}

-- whether what is kept of a job has a unit at the place
abbrev holds_known : Place → Known → Bool
holds_known place k = option_map_or (λ nodes. list_any (λ node. list_any (is_at place) (units_of_node node)) nodes) k.held false

ids_filtered : {A : Type 0} (f : A → Known) (p : Known → Bool) (xs : List A) → map (λ k. k.id) (filter p (map f xs)) ≡ map (λ x. (f x).id) (filter (λ x. p (f x)) xs)
ids_filtered f p [] = refl
ids_filtered f p (x ∷ xs) = by (p (f x)) (ids_filtered f p xs)
  where
    by : (b : Bool) → map (λ k. k.id) (filter p (map f xs)) ≡ map (λ x. (f x).id) (filter (λ x. p (f x)) xs)
        → map (λ k. k.id) (cond b (f x ∷ filter p (map f xs)) (filter p (map f xs))) ≡ map (λ x. (f x).id) (cond b (x ∷ filter (λ x. p (f x)) xs) (filter (λ x. p (f x)) xs))
    by true again = ap (λ l. (f x).id ∷ l) again
    by false again = again

one_job : (st : Store) (place : Place) (j : StoredJob) → IsStored st j → holds_known place (known_of j) ≡ holds_at place j
one_job st place j is = by (is_live j.job) j.r is.r_is
  where
    lone : (o : Option Resources) → option_map_or (λ nodes. list_any (λ node. list_any (is_at place) (units_of_node node)) nodes) (option_map (λ r. r.nodes) o) false
        ≡ option_map_or (λ r. list_any (is_at place) (units_of r.nodes)) o false
    lone None = refl
    lone (Some r) = sym (any_unit (is_at place) r.nodes)

    by : (b : Bool) (o : Option Resources) → o ≡ (if b then Rattle.manager_rules.specs.Jobs.r_in st j.id else None)
        → option_map_or (λ nodes. list_any (λ node. list_any (is_at place) (units_of_node node)) nodes) (option_map (λ r. r.nodes) o) false
        ≡ (b && option_map_or (λ r. list_any (is_at place) (units_of r.nodes)) o false)
    by true o e = lone o
    by false None e = refl
    by false (Some r) e = cc

all_jobs : (st : Store) (place : Place) (jobs : List StoredJob) → Each (IsStored st) jobs → filter (λ j. holds_known place (known_of j)) jobs ≡ filter (holds_at place) jobs
all_jobs st place [] h = refl
all_jobs st place (j ∷ jobs) h = ap₂ (λ b l. cond b (j ∷ l) l) (one_job st place j h.0) (all_jobs st place jobs h.1)

cell_same : (st : Store) (rows : List JobRow) (jobs : List StoredJob) → AreJobsOf st jobs → AreRowsOf rows jobs → (place : Place) → cell_of rows place ≡ cell_in jobs place
cell_same st rows jobs are kept place =
    sym (ids_filtered known_in (holds_known place) rows)
    ∙ ap (λ ks. map (λ k. k.id) (filter (holds_known place) ks)) kept
    ∙ ids_filtered known_of (holds_known place) jobs
    ∙ ap ids_of (all_jobs st place jobs are.stored)

pub cells_same : (st : Store) (rows : List JobRow) (jobs : List StoredJob) → AreJobsOf st jobs → AreRowsOf rows jobs → (places : List Place) → map (cell_of rows) places ≡ map (cell_in jobs) places
cells_same st rows jobs are kept [] = refl
cells_same st rows jobs are kept (place ∷ places) = ap₂ (λ c cs. c ∷ cs) (cell_same st rows jobs are kept place) (cells_same st rows jobs are kept places)
