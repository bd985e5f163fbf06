-- The log of a job in a broker's store, and what a feed makes of it.
use Rattle.std.proofs.Common.{◌≡◌, ℕ, ◌+◌, ◌-◌, ◌<◌, ◌≤◌, ◌^◌, ◌||◌, inl, inr, List, [], ◌∷◌, ◌++◌, Bool, true, false, length, Option, Some, None, Ok, Contains, refl, sym, ap, ◌∙◌, subst, arith}
use Rattle.std.specs.Prelude.{IsSome, option_and_then}
use Rattle.std.specs.List.{AllByRecursion as Each}
use Rattle.std.proofs.lemmas.Bool.{cases_lt}
use Rattle.std.proofs.lemmas.List.{length-append}
use Rattle.job_deeds.specs.event_log.Events.{line_text}
use Rattle.job_deeds.specs.event_log.Logs.{log_text}
use Rattle.job_deeds.specs.event_log.declared.event.Event.{Event}
use Rattle.job_deeds.specs.job_states.Replay.{replayed}
use Rattle.job_deeds.specs.kvs_model.Store.{Node, Store, node_at}
use Rattle.job_deeds.specs.manager_rules.Jobs.{AreJobsOf, IsLogged, IsStored, StoredJob, ids_of}
use Rattle.job_deeds.specs.manager_rules.Keys.{bytes_of, log_path, value_at}
use Rattle.job_deeds.proofs.job_rules_proofs.Among.{Among, among_from, contains_from}
use Rattle.job_manager.specs.Managed.{IsManaged}
use Rattle.job_manager.specs.Places.{log_seen}
use Rattle.job_manager.specs.Value.{ManagerValue}
use Rattle.kvs_core.specs.Seen.{primary_heard, store_at}

-- a job with its log in a store
record HasLog (st : Store) (jobs : List StoredJob) (id : ℕ) : Type 0 where
  j : StoredJob
  known : Among j jobs
  named : j.id ≡ id
  first : Event
  more : List Event
  logged : IsLogged st id (first ∷ more)
  replays : replayed (first ∷ more) ≡ Ok j.job

has-log : (st : Store) (jobs : List StoredJob) (id : ℕ) → Each (IsStored st) jobs → Among id (ids_of jobs) → HasLog st jobs id
has-log st [] id each i = absurd i
has-log st (j ∷ jobs) id each (inl same) = record {
  j = j;
  known = inl refl;
  named = same;
  first = each.0.first;
  more = each.0.more;
  logged = subst (λ n. IsLogged st n (each.0.first ∷ each.0.more)) same each.0.logged;
  replays = each.0.replays;
}
has-log st (j ∷ jobs) id each (inr i) =
    let h = has-log st jobs id each.1 i in
    record { j = h.j; known = inr h.known; named = h.named; first = h.first; more = h.more; logged = h.logged; replays = h.replays }

some-node : (o : Option Node) (text : List ℕ) → option_and_then bytes_of o ≡ Some text → IsSome o
some-node None text e = cc
some-node (Some node) text e = refl

-- what a broker's store has of a job's log
pub record SeenLog (m : ManagerValue) (rank id : ℕ) (text : List ℕ) : Type 0 where
  pub store : Store
  pub stands : store_at m.core rank ≡ Some store
  pub jobs : List StoredJob
  pub are : AreJobsOf store jobs
  pub j : StoredJob
  pub known : Contains jobs j
  pub named : j.id ≡ id
  pub first : Event
  pub more : List Event
  pub logged : IsLogged store id (first ∷ more)
  pub replays : replayed (first ∷ more) ≡ Ok j.job
  pub text_is : text ≡ log_text (first ∷ more)

pub seen-log : (m : ManagerValue) → IsManaged m → (rank id : ℕ) (text : List ℕ) → id < 2 ^ 64 → log_seen m.core rank id ≡ Some text → SeenLog m rank id text
seen-log m h rank id text small e = by (store_at m.core rank) refl e
  where
    one-text : {a b : List ℕ} → Some a ≡ Some b → a ≡ b
    one-text e = cc

    by : (o : Option Store) → store_at m.core rank ≡ o → option_and_then (λ st. value_at st (log_path id)) o ≡ Some text → SeenLog m rank id text
    by None stands e = cc
    by (Some st) stands e =
        let root = h.roots (primary_heard m.core rank) st stands in
        let there : Among id (ids_of root.sound.jobs) = among_from _ id (root.sound.are.all id small (some-node (node_at st (log_path id)) text e)) in
        let l = has-log st root.sound.jobs id root.sound.are.stored there in
        record {
          store = st;
          stands = stands;
          jobs = root.sound.jobs;
          are = root.sound.are;
          j = l.j;
          known = contains_from root.sound.jobs l.j l.known;
          named = l.named;
          first = l.first;
          more = l.more;
          logged = l.logged;
          replays = l.replays;
          text_is = one-text (sym e ∙ l.logged.text);
        }

-- ---- of two first parts of one log the shorter one has the shorter text

pub shorter : (a b more rest : List Event) → a ++ more ≡ b ++ rest → length b ≤ length a → length (log_text b) ≤ length (log_text a)
shorter a [] more rest e low = omega arith
shorter [] (y ∷ b) more rest e low = absurd (omega (arith, low))
shorter (x ∷ a) (y ∷ b) more rest e low =
    let same : x ≡ y = cc in
    let tails : a ++ more ≡ b ++ rest = cc in
    let rec = shorter a b more rest tails (omega (arith, low)) in
    let la = length-append (line_text x) (log_text a) in
    let lb = length-append (line_text y) (log_text b) in
    let heads : length (line_text x) ≡ length (line_text y) = ap (λ z. length (line_text z)) same in
    omega (arith, rec, la, lb, heads)

pub longer : (a b more rest : List Event) → a ++ more ≡ b ++ rest → length (log_text a) < length (log_text b) → length a < length b
longer a b more rest e low = elim (cases_lt (length a) (length b)) [
  | inl l ↦ l
  | inr l ↦ let s = shorter a b more rest e l in absurd (omega (arith, low, s))
]

cons-some : (x : ℕ) (xs : List ℕ) → 0 < length (x ∷ xs)
cons-some x xs = omega arith

-- no line is empty
pub line-some : (event : Event) → 0 < length (line_text event)
line-some event = cons-some (Prim.Native.Char.code "{") _

-- ---- names that are shown

-- of tests from the left, and from the right
abbrev pub from_left : Bool → List Bool → Bool
from_left a [] = a
from_left a (b ∷ bs) = from_left (a || b) bs

abbrev pub from_right : Bool → List Bool → Bool
from_right a [] = a
from_right a (b ∷ bs) = a || from_right b bs

pub or_nested : (a : Bool) (bs : List Bool) → from_left a bs ≡ from_right a bs
or_nested a [] = refl
or_nested a (b ∷ bs) = or_nested (a || b) bs ∙ split a b bs
  where
    split : (a b : Bool) (bs : List Bool) → from_right (a || b) bs ≡ a || from_right b bs
    split true b [] = refl
    split true b (x ∷ bs) = refl
    split false b bs = refl
