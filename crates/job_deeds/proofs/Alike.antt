-- Jobs that ask for the same are answered the same.
use Rattle.std.proofs.Common.{◌≡◌, ◌≢◌, ℕ, ◌<◌, ◌-◌, List, [], ◌∷◌, ◌++◌, Option, Some, None, refl, sym, ap, ◌∙◌, subst}
use Rattle.std.specs.Prelude.{Contains, IsSomeAnd, min, option_map}
use Rattle.std.specs.List.{AllByRecursion as Each}
use Rattle.backfill.specs.declared.hold.Hold.{Hold}
use Rattle.job_rules.proofs.Among.{among_from}
use Rattle.job_rules.specs.Fits as fits
use Rattle.job_rules.specs.Fits.{first_fit, first_fit_as, lowest, room_on, spread, with_host}
use Rattle.job_spec.specs.declared.spec.JobSpec.{JobSpec}
use Rattle.job_states.specs.declared.job.State.TheVariants as state
use Rattle.resource_set.specs.declared.node.Node.{Node}
use Rattle.resource_set.specs.declared.node.Resources.{Resources}
use Rattle.manager_rules.specs.Due.{IsFirstFit}
use Rattle.manager_rules.specs.Jobs.{StoredJob}
use Rattle.manager_rules.specs.Scene.{Scene}
use Rattle.manager_rules.specs.Sound.{AreInTime, holds_of}
use Rattle.job_deeds.specs.Passing.{IsRefused, Leaves, asks_of}
use Rattle.job_deeds.specs.Waiting.{waits_with}
use Rattle.job_deeds.specs.declared.passing.Asks.{Asks}
use Rattle.job_deeds.proofs.Heads.{so_waits}
use Rattle.job_deeds.proofs.Offers.{holds_none, waits_in}
use Rattle.job_deeds.proofs.Passers.{keeps_back, keeps_there}

-- ---- first fit looks at nothing else

abbrev asking : Asks → JobSpec → JobSpec
asking asks spec = record spec {
  nodes = asks.nodes;
  exclusive = asks.exclusive;
  slots = asks.slots;
  cores = asks.cores;
  gpus = asks.gpus;
  duration = asks.duration;
}

same_spread : (asks : Asks) (a b : JobSpec) (wanted : ℕ) (free : List Node) → spread (asking asks a) wanted free ≡ spread (asking asks b) wanted free
same_spread asks a b wanted [] = refl
same_spread asks a b wanted (node ∷ nodes) =
    let here = min wanted (room_on (asking asks a) node) in
    ap (option_map (with_host here (lowest (asking asks a) here node))) (same_spread asks a b (wanted - here) nodes)

same_as : (o : Option ℕ) (asks : Asks) (a b : JobSpec) (grant free : List Node) → first_fit_as o (asking asks a) grant free ≡ first_fit_as o (asking asks b) grant free
same_as None asks a b grant free = same_spread asks a b asks.slots free
same_as (Some count) asks a b grant free = refl

same_fit : (a b : JobSpec) (grant free : List Node) → asks_of a ≡ asks_of b → first_fit a grant free ≡ first_fit b grant free
same_fit a b grant free e = same_as a.nodes (asks_of a) a b grant free ∙ ap (λ asks. first_fit (asking asks b) grant free) e

same_end : (a b : JobSpec) (now : ℕ) → asks_of a ≡ asks_of b → fits.end_of a now ≡ fits.end_of b now
same_end a b now e = ap (λ asks. fits.end_of (asking asks b) now) e

-- ---- a job that leaves the reserved second answers for one that asks for the same

module _ (s : Scene) (are : AreInTime s.jobs) (head j k : StoredJob) (there : Contains s.jobs j) (known : Contains s.jobs k) (above : 0 < waits_with k) (behind : k.id ≢ head.id) (same : asks_of j.spec ≡ asks_of k.spec) where
  waits : k.job.state ≡ state.Sched
  waits = waits_in k.job.state (so_waits k above).state

  fit_as : (r : Resources) → IsFirstFit s j r → IsFirstFit s k r
  fit_as r f = record {
    nodes = sym (same_fit j.spec k.spec s.grant.nodes (fits.free_of s.grant.nodes (holds_of s.jobs)) same) ∙ f.nodes;
    start = f.start;
    end = f.end ∙ ap (λ n. fits.sooner n s.grant.expiration) (same_end j.spec k.spec s.now same);
    free = f.free;
    written = f.written;
  }

  alike : Leaves s head j → Leaves s head k
  alike l =
      let hold : Hold = record { id = 0; units = l.0; until = l.0.expiration } in
      let keeps = keeps_back head.spec s.grant.nodes s.now s.jobs are.rising j (among_from s.jobs j there) (holds_none s.jobs are j there l.1.waits) hold refl l.1.second l.1.reserved l.1.kept in
      let here = keeps_there head.spec s.grant.nodes s.now s.jobs are.rising k (among_from s.jobs k known) (holds_none s.jobs are k known waits) hold refl keeps in (
        l.0,
        record {
          waits = waits;
          behind = behind;
          ranked = subst (λ o. IsSomeAnd o (λ p. 0 < p)) (sym (so_waits k above).priority) above;
          fit = fit_as l.0 l.1.fit;
          second = here.0;
          reserved = here.1;
          kept = here.2;
        },
      )

pub refused : (s : Scene) → AreInTime s.jobs → (head k : StoredJob) → Contains s.jobs k → 0 < waits_with k → k.id ≢ head.id → (Leaves s head k → ⊥) → IsRefused s head (asks_of k.spec)
refused s are head k known above behind none j there same l = none (alike s are head j k there known above behind same l)

pub refused_more : (s : Scene) (head : StoredJob) (all : List Asks) (asks : Asks) → Each (IsRefused s head) all → IsRefused s head asks → Each (IsRefused s head) (all ++ asks ∷ [])
refused_more s head [] asks e more = (more, tt)
refused_more s head (x ∷ xs) asks e more = (e.0, refused_more s head xs asks e.1 more)
