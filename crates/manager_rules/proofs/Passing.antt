-- A worked scene of EASY backfill: one host with two cores, of which one is held until second 10, a first in the queue that asks for both, and behind it a long job and a short one.
use Rattle.std.proofs.Common.{◌≡◌, ◌≢◌, ℕ, suc, zero, ◌+◌, ◌-◌, ◌<◌, ◌≤◌, ◌⊎◌, inl, inr, Bool, true, false, List, [], ◌∷◌, map, Some, None, is_none, codes, refl, sym, ap, ap₂, ◌∙◌, subst, arith}
use Rattle.std.specs.Prelude.{nat_lt, Contains, Ok, cond, if◌then◌else◌}
use Rattle.std.specs.BTreeMap.{is_at}
use Rattle.std.specs.Fmt.{digits}
use Rattle.std.specs.List.{AllByRecursion, cons_option, join_with_byte, range_with_len}
use Rattle.std.specs.List.Sorted.{IsStrictlyIncreasing}
use Rattle.std.specs.Ordering.{nat_cmp}
use Rattle.std.specs.Str.{IsUtf8}
use Rattle.std.proofs.lemmas.Bool.Decides.{nat_tests}
use Rattle.std.proofs.lemmas.List.Elements.{All-cons, All-nil}
use Rattle.json.specs.Print.{escape_byte}
use Rattle.json.proofs.Printed.Utf8.{IsUtf8-are_ascii}
use Rattle.fl_json.specs.Reading.{reading}
use Rattle.fl_json.proofs.Canonical.{canonical_reading}
use Rattle.event_log.proofs.JsonTexts.{text_back}
use Rattle.idset.specs.Ranges.{AreApart, ids_in, single}
use Rattle.idset.specs.Runs.{printed, range_text}
use Rattle.idset.specs.Text.{first_fault, spelled}
use Rattle.idset.specs.declared.ranges.IdRange.{IdRange}
use Rattle.idset.proofs.Rereads.{read_again, sound_again}
use Rattle.idset.proofs.Sets.{is_set, no_ids, one_range, runs_in}
use Rattle.hostlist.specs.Printing.{canonical, group_text}
use Rattle.hostlist.proofs.RoundTrip.{canonical_spells}
use Rattle.job_queue.specs.Queue as queue
use Rattle.job_rules.specs.declared.hold.Hold.{Hold}
use Rattle.job_rules.specs.Fits.{AreWithin, IsGrant, IsSpec, first_fit, free_of, nodes_of}
use Rattle.job_rules.proofs.Among.{Among, among_from}
use Rattle.job_rules.proofs.Sets.{free_is, none_exactly, sound as fit_is_sound}
use Rattle.job_spec.specs.declared.spec.JobSpec.{JobSpec}
use Rattle.job_spec.specs.declared.spec.Tasks.TheVariants.{PerSlot}
use Rattle.job_states.specs.declared.job.Job.{Job}
use Rattle.job_states.specs.declared.job.State.TheVariants as state
use Rattle.job_states.specs.Table.{made, submitted_job}
use Rattle.resource_set.specs.Reading.{told}
use Rattle.resource_set.specs.Units.{AreHosts}
use Rattle.resource_set.specs.Writing.{AreNamesSpelled, IsEntrySpelled, IsSpelled, data_of, entries_of, r_text}
use Rattle.resource_set.specs.declared.node.Node.{Node}
use Rattle.resource_set.specs.declared.node.Resources.{Resources}
use Rattle.resource_set.proofs.Again.{data_flat, data_valid, told_again}
use Rattle.manager_rules.specs.declared.policy.Policy.{Policy}
use Rattle.manager_rules.specs.declared.policy.Policy.TheVariants.{Easy, FirstFit}
use Rattle.manager_rules.specs.declared.why.Why.TheVariants.{Behind, Ready}
use Rattle.manager_rules.specs.Deeds.{Deed, Validates, Depends, Prioritizes, Takes, Starts, change_by}
use Rattle.manager_rules.specs.Dependencies.{IsHead, queue_of}
use Rattle.manager_rules.specs.Due.{FindsNone, IsBefore, LeavesReserved, MayTake, Passes, with_r}
use Rattle.manager_rules.specs.Jobs.{StoredJob, ids_of}
use Rattle.manager_rules.specs.Limits.{no_limits}
use Rattle.manager_rules.specs.Reserved.{FitsAt, IsReserved, holds_at}
use Rattle.manager_rules.specs.Scene.{Scene}
use Rattle.manager_rules.specs.Sound.{holds_of}
use Rattle.manager_rules.specs.Whys.{IsSaidOf}
use Rattle.manager_rules.proofs.Reserving.{same_second}
use Rattle.manager_rules.proofs.Rules.{first_is_one, same_job}

-- ---- the scene

abbrev node : List ℕ → Node
node cores = record { rank = 0; host = codes "node0"; cores = cores; gpus = [] }

abbrev host : List ℕ → List Node
host cores = node cores ∷ []

abbrev both : List Node
both = host (0 ∷ 1 ∷ [])

-- so many cores for so many seconds
abbrev asks : ℕ → ℕ → JobSpec
asks slots duration = record { nodes = None; exclusive = false; slots = slots; cores = 1; gpus = 0; command = []; tasks = PerSlot 1; duration = duration; depends = []; text = [] }

abbrev held_until : ℕ → ℕ → Resources
held_until core second = record { nodes = host (core ∷ []); starttime = 0; expiration = second }

abbrev after : Deed → Job → Job
after deed job = made (change_by deed) job

abbrev waiting : Job
waiting = after (Prioritizes 16) (after Depends (after Validates (submitted_job 0 16)))

abbrev runs : StoredJob
runs = record { id = 0; spec = asks 1 10; needs = []; job = after Starts (after (Takes (held_until 0 10)) waiting); start = Some 0; r = Some (held_until 0 10) }

abbrev waits : ℕ → ℕ → ℕ → StoredJob
waits id slots duration = record { id = id; spec = asks slots duration; needs = []; job = waiting; start = None; r = None }

abbrev first : StoredJob
first = waits 1 2 20

abbrev long : StoredJob
long = waits 2 1 20

abbrev short : StoredJob
short = waits 3 1 5

abbrev jobs : List StoredJob
jobs = runs ∷ first ∷ long ∷ short ∷ []

abbrev scene : Policy → Scene
scene policy = record { now = 0; grant = record { nodes = both; starttime = 0; expiration = 0 }; jobs = jobs; asked = []; answer = λ ask. ask.urgency; policy = policy; limits = no_limits; old = λ id. false }

-- ---- the first in the queue

-- who waits has priority 16
picked : (a b c : Bool) (q : ℕ) → cond a (Some 16) (cond b (Some 16) (cond c (Some 16) None)) ≡ Some q → q ≡ 16
picked true b c q e = cc
picked false true c q e = cc
picked false false true q e = cc
picked false false false q e = cc

all_behind : (other q : ℕ) → queue.priority_of (queue_of jobs) other ≡ Some q → (q < 16) ⊎ ((q ≡ 16) × (1 ≤ other))
all_behind zero q e = cc
all_behind (suc other) q e = let test = is_at (nat_cmp (suc other)) in inr (picked (test 1) (test 2) (test 3) q e, omega arith)

-- the job that asks for both cores is the first
is_first : IsHead jobs 1
is_first = (16, refl, omega arith, all_behind)

-- it finds no units now, under either policy
finds_none : (policy : Policy) → FindsNone (scene policy) first
finds_none policy = refl

-- ---- its reserved second

are_hosts : (cores : List ℕ) → AreHosts (host cores)
are_hosts cores = record {
  rising = λ k h. absurd (omega (arith, h));
  small = All-cons (λ (n : Node). n.rank < 65536) (node cores) [] (omega arith) (All-nil (λ (n : Node). n.rank < 65536));
  hosts = (All-nil (λ name. codes "node0" ≢ name), tt);
}

is_grant : IsGrant both
is_grant = record {
  hosts = are_hosts (0 ∷ 1 ∷ []);
  sets = ((is_set (record { first = 0; last = 1 } ∷ []) (0 ∷ 1 ∷ []) (one_range _ 0 1 refl (omega arith) (omega arith)), is_set [] [] (no_ids [] refl)), tt);
}

is_spec : IsSpec first.spec
is_spec = record { slots = (omega arith, omega arith); cores = (omega arith, omega arith); gpus = omega arith; nodes = λ count e. cc }

-- what first fit says at a second is whether it fits then
module _ (later : List StoredJob) (second : ℕ) where
  fits_then : first_fit first.spec both (free_of both (holds_at second later)) ≡ Some both → FitsAt both later first.spec second
  fits_then e =
      let good = fit_is_sound first.spec both (free_of both (holds_at second later)) (free_is both (nodes_of (holds_at second later)) is_grant) is_spec both e in
      record { nodes = both; set = good.0; inside = good.1; satisfied = good.2 }

  full_then : first_fit first.spec both (free_of both (holds_at second later)) ≡ None → FitsAt both later first.spec second → ⊥
  full_then e = (none_exactly first.spec both (free_of both (holds_at second later)) is_spec (free_is both (nodes_of (holds_at second later)) is_grant)).0 e

-- what is held where the one that runs and the short one hold a core, or don't
abbrev held : Bool → Bool → List Hold
held one other = cons_option (if one then Some (record { id = 0; nodes = host (0 ∷ []) }) else None) (cons_option (if other then Some (record { id = 3; nodes = host (1 ∷ []) }) else None) [])

full_beside : (one other : Bool) → one ≡ true → first_fit first.spec both (free_of both (held one other)) ≡ None
full_beside true true e = refl
full_beside true false e = refl
full_beside false other e = cc

-- the one that runs holds its core before second 10
holds_before : (t : ℕ) → t < 10 → nat_lt t 10 ≡ true
holds_before t h = grind (arith, nat_tests, h)

-- both cores are free from second 10 on
reserved_then : IsReserved both jobs first.spec 0 10
reserved_then = record {
  from = omega arith;
  fits = fits_then jobs 10 refl;
  least = λ t from below. full_then jobs t (full_beside _ false (holds_before t below));
}

-- and that is its only reserved second
no_other_second : (second : ℕ) → IsReserved both jobs first.spec 0 second → second ≡ 10
no_other_second second is = same_second both jobs first.spec 0 second 10 is reserved_then

-- ---- the long one would let it rise

some_same : {A : Type 0} → (a b : A) → Some a ≡ Some b → a ≡ b
some_same a b e = cc

-- on the free core until second 20 it leaves one core at second 10
long_lets_it_rise : (r : Resources) → LeavesReserved (scene Easy) first long r → ⊥
long_lets_it_rise r leaves =
    let units : host (1 ∷ []) ≡ r.nodes = some_same _ _ leaves.fit.nodes in
    let ten = no_other_second leaves.second leaves.reserved in
    full_then (with_r 2 (held_until 1 20) jobs) 10 refl
    (subst (λ nodes. FitsAt both (with_r 2 (record { nodes = nodes; starttime = 0; expiration = 20 }) jobs) first.spec 10) (sym units)
    (subst (λ end. FitsAt both (with_r 2 (record { nodes = r.nodes; starttime = 0; expiration = end }) jobs) first.spec 10) leaves.fit.end
    (subst (FitsAt both (with_r 2 r jobs) first.spec) ten leaves.kept.fits)))

rising : IsStrictlyIncreasing (ids_of jobs)
rising zero h = omega arith
rising (suc zero) h = omega arith
rising (suc (suc zero)) h = omega arith
rising (suc (suc (suc k))) h = absurd (omega (arith, h))

-- so it doesn't pass, whatever it would be given
long_stays : (r : Resources) → Passes (scene Easy) long r → ⊥
long_stays r p =
    let same = same_job (scene Easy) rising p.head first p.known (1, omega arith, refl) (first_is_one jobs p.head.id 1 p.first is_first) in
    long_lets_it_rise r (subst (λ head. LeavesReserved (scene Easy) head long r) same p.leaves)

-- ---- the short one passes both

-- no job before it leaves the second: the one runs, the other is the first, and the long one lets it rise
none_before : (k : StoredJob) (r : Resources) → Contains jobs k → IsBefore k short → LeavesReserved (scene Easy) first k r → ⊥
none_before k r known before leaves = by (among_from jobs k known)
  where
    by : Among k jobs → ⊥
    by (inl is) = let wrong = subst (λ j. j.job.state ≡ state.Sched) (sym is) leaves.waits in cc
    by (inr (inl is)) = leaves.behind (ap (λ j. j.id) (sym is))
    by (inr (inr (inl is))) = long_lets_it_rise r (subst (λ j. LeavesReserved (scene Easy) first j r) (sym is) leaves)
    by (inr (inr (inr (inl is)))) = itself (subst (λ j. IsBefore j short) (sym is) before)
      where
        itself : IsBefore short short → ⊥
        itself b = elim b.4 [
          | inl below ↦ let p : 16 ≡ b.0 = some_same _ _ b.2 in let q : 16 ≡ b.1 = some_same _ _ b.3 in absurd (omega (arith, below, p, q))
          | inr same ↦ let less = same.1 in absurd (omega (arith, less))
        ]
    by (inr (inr (inr (inr none)))) = absurd none

-- the core that the one that runs leaves, until second 5
abbrev given : Resources
given = held_until 1 5

given_within : AreWithin given.nodes (free_of both (holds_of jobs))
given_within = record {
  hosts = are_hosts (1 ∷ []);
  inside = ((node (1 ∷ []), (0, omega arith, refl), record { rank = refl; host = refl; cores = λ id h. h; gpus = λ id h. h }), tt);
}

-- the first fits at second 10 as before, and no sooner
reserved_still : IsReserved both (with_r 3 given jobs) first.spec 0 10
reserved_still = record {
  from = omega arith;
  fits = fits_then (with_r 3 given jobs) 10 refl;
  least = λ t from below. full_then (with_r 3 given jobs) t (full_beside _ _ (holds_before t below));
}

-- ---- the text of its R tells it

-- the text of the ids of ranges that lie apart spells these ids
spelled_by : (rs : List IdRange) (ids : List ℕ) → AreApart 0 rs → ids_in rs ≡ ids → IsSpelled ids
unfolding printed
spelled_by rs ids apart e = subst IsSpelled e (record {
  sound = ap (λ (found : List IdRange). first_fault (join_with_byte 44 (map range_text found))) (runs_in rs apart) ∙ sound_again rs apart;
  same = ap (λ (found : List IdRange). spelled (join_with_byte 44 (map range_text found))) (runs_in rs apart) ∙ read_again rs apart;
})

-- so does the text of no id
no_id_spelled : IsSpelled []
no_id_spelled = spelled_by [] [] tt (no_ids [] refl)

-- and the text of one id
one_id_spelled : (id : ℕ) → id < 65536 → IsSpelled (id ∷ [])
one_id_spelled id small =
    let one : id + 1 - id ≡ 1 = omega arith in
    spelled_by (single id ∷ []) (id ∷ []) (omega arith, record { some = omega arith; small = small }, tt) (one_range _ id id refl (omega arith) small ∙ ap (range_with_len id) one)

-- its one entry has rank 0 and core 1
entries_spelled : AllByRecursion IsEntrySpelled (entries_of given.nodes)
entries_spelled = (record { ranks = one_id_spelled 0 (omega arith); cores = one_id_spelled 1 (omega arith); gpus = no_id_spelled }, tt)

-- its one host has a name, which the hostlist spells again
names_spelled : AreNamesSpelled given.nodes
names_spelled some = let again = canonical_spells (codes "node0" ∷ []) refl in ap₂ (λ fault hosts. if is_none fault then Some hosts else None) again.fault again.hosts

-- the text is ASCII, and so UTF-8
text_utf8 : IsUtf8 (r_text given)
unfolding data_of printed canonical group_text escape_byte digits
text_utf8 = IsUtf8-are_ascii (r_text given) refl

-- it is the canonical text of a valid value, and so it is read as that value
text_read : reading (r_text given) ≡ Ok (data_of given)
text_read =
    let valid = data_valid given (omega arith) (omega arith) in
    canonical_reading (data_of given) valid text_utf8 (text_back (data_of given) valid (data_flat given))

-- and that value tells the R
written : told (r_text given) ≡ Ok given
written = told_again (r_text given) (data_of given) given text_read refl (are_hosts (1 ∷ [])) entries_spelled names_spelled

-- ---- so the short one passes, may take that core and is ready

passes : Passes (scene Easy) short given
passes = record {
  easy = refl;
  head = first;
  known = (1, omega arith, refl);
  first = is_first;
  full = finds_none Easy;
  leaves = record {
    waits = refl;
    behind = λ e. cc;
    ranked = omega arith;
    fit = record { nodes = refl; start = refl; end = refl; free = given_within; written = written };
    second = 10;
    reserved = reserved_then;
    kept = reserved_still;
  };
  next = none_before;
}

may_take : MayTake (scene Easy) short given
may_take = inr passes

short_is_ready : IsSaidOf (scene Easy) short Ready
short_is_ready = inr (given, passes)

-- under first fit it may not take that core
waits_under_first_fit : (r : Resources) → MayTake (scene FirstFit) short r → ⊥
waits_under_first_fit r (inl head) = let same = first_is_one jobs 3 1 head is_first in absurd (omega (arith, same))
waits_under_first_fit r (inr p) = let wrong = p.easy in cc

-- ---- the long one doesn't

long_may_not_take : (r : Resources) → MayTake (scene Easy) long r → ⊥
long_may_not_take r (inl head) = let same = first_is_one jobs 2 1 head is_first in absurd (omega (arith, same))
long_may_not_take r (inr p) = long_stays r p

long_is_behind : IsSaidOf (scene Easy) long (Behind 1)
long_is_behind = (refl, λ e. cc, is_first, λ e. cc, long_stays)
