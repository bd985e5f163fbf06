-- A book with one job more.
use Rattle.std.proofs.Common.{◌≡◌, ℕ, ◌<◌, ◌≤◌, ◌^◌, ltb, Bool, true, false, cond, List, [], ◌∷◌, ◌++◌, take, drop, None, refl, sym, ap, ◌∙◌, arith}
use Rattle.std.specs.Prelude.{Contains, IfSome}
use Rattle.std.specs.List.{AllByRecursion as Each, cons_option}
use Rattle.job_deeds.specs.event_log.declared.event.Event.{Event}
use Rattle.job_deeds.specs.job_spec.declared.spec.Depend.{Depend}
use Rattle.job_deeds.specs.job_spec.declared.spec.JobSpec.{JobSpec}
use Rattle.job_deeds.specs.job_spec.Sound.{IsSpec}
use Rattle.job_deeds.specs.resource_set.Valid.{IsR}
use Rattle.job_deeds.specs.graph_match.Allotment.{Allotment}
use Rattle.job_deeds.proofs.graph_match_proofs.Holds.{rise_of, rises}
use Rattle.job_deeds.specs.manager_rules.Jobs.{StoredJob, ids_of}
use Rattle.job_deeds.specs.manager_rules.Posts.{with_job}
use Rattle.job_deeds.specs.manager_rules.Sound.{HoldsInTime, hold_of, holds_of}
use Rattle.job_deeds.proofs.manager_rules_proofs.Others.{new_jobs_sound}
use Rattle.job_book.specs.Contract.{new_job, with_new}
use Rattle.job_book.specs.Kept.{IsBook}
use Rattle.job_deeds.specs.Waiting.{IsRanked}
use Rattle.job_book.specs.Value.{BookValue}
use Rattle.job_deeds.proofs.Places.{each_with, inserted, not_among, rise_with}

pub added : (j : StoredJob) (at : ℕ) (jobs new : List StoredJob) → Each (λ k. k.id < j.id) (take at jobs) → Each (λ k. j.id ≤ k.id) (drop at jobs) → (Contains (ids_of jobs) j.id → ⊥) → new ≡ take at jobs ++ j ∷ drop at jobs → new ≡ with_job j jobs
added j at jobs new b a none e = e ∙ inserted j at jobs b a (not_among j.id jobs none)

-- a job without resources holds nothing
holds_with : (j : StoredJob) (jobs : List StoredJob) → j.r ≡ None → holds_of (with_job j jobs) ≡ holds_of jobs
holds_with j [] e = rw e refl
holds_with j (x ∷ xs) e = at (ltb j.id x.id) (holds_with j xs e)
  where
    at : (b : Bool) → holds_of (with_job j xs) ≡ holds_of xs → holds_of (cond b (j ∷ x ∷ xs) (x ∷ with_job j xs)) ≡ holds_of (x ∷ xs)
    at true more = rw e refl
    at false more = ap (cons_option (hold_of x)) more

pub book_with : (book : BookValue) (g : Allotment) → IsBook book g → (id : ℕ) (spec : JobSpec) (needs : List Depend) (userid urgency : ℕ) (event : Event) → id < 2 ^ 64 → IsSpec spec → (Contains (ids_of book.jobs) id → ⊥)
    → IsBook (with_new book (new_job id spec needs userid urgency)) g
book_with book g is id spec needs userid urgency event small sound none =
    let j = new_job id spec needs userid urgency in
    let rising = rises 0 _ (rise_with 0 j book.jobs (rise_of 0 (ids_of book.jobs) (λ w. omega arith) is.kept.rising) (omega arith) (not_among id book.jobs none)) in
    record {
      kept = record {
        grant = is.kept.grant;
        sets = is.kept.sets;
        rising = rising;
        small = each_with (λ k. k.id < 2 ^ 64) j book.jobs small is.kept.small;
        specs = each_with (λ k. IsSpec k.spec) j book.jobs sound is.kept.specs;
        held = each_with (λ k. IfSome k.r IsR) j book.jobs tt is.kept.held;
        sound = new_jobs_sound book.grant.nodes (record { id = id; text = []; spec = spec; event = event; needs = needs; command = record { actor = 0; command = 0 } }) userid urgency book.jobs is.kept.sound;
      };
      in_time = record {
        rising = rising;
        each = each_with HoldsInTime j book.jobs (record { early = λ e. record { allocated = refl; freed = refl }; none = λ e. refl }) is.in_time.each;
      };
      ranked = each_with IsRanked j book.jobs (λ e. cc) is.ranked;
      graph = is.graph ∙ ap (λ hs. record { grant = book.grant.nodes; expiration = book.grant.expiration; live = hs }) (sym (holds_with j book.jobs refl));
    }
