-- Along a legal chronicle the second that is reserved for the first in the queue never rises.
use Rattle.std.proofs.Common.{◌≡◌, ℕ, ◌<◌, ◌≤◌, ◌^◌, inl, inr, List, [], ◌∷◌, ◌++◌, Some, None, unwrap_or, refl, sym, ap, ◌∙◌, subst, arith, append-nil, append_assoc}
use Rattle.std.specs.Prelude.{All, Contains}
use Rattle.job_rules.specs.Fits.{IsGrant, IsSpec}
use Rattle.job_rules.proofs.Among.{among_from, each_at}
use Rattle.kvs_model.specs.Store.{IsStore, Store}
use Rattle.kvs_rules.proofs.Sequences.{each_both, each_left, each_parts, each_push}
use Rattle.kvs_rules.specs.Namespaces.{primary}
use Rattle.kvs_rules.specs.Sequence.{EachAfter}
use Rattle.resource_set.specs.Writing.{r_text}
use Rattle.manager_rules.specs.Dependencies.{IsHead}
use Rattle.manager_rules.specs.Jobs.{IsStored}
use Rattle.manager_rules.specs.Keys.{spec_path, value_at}
use Rattle.manager_rules.specs.Posts.{Desk, Does}
use Rattle.manager_rules.specs.Reserved.{IsReserved}
use Rattle.manager_rules.specs.Sound.{IsSoundStore}
use Rattle.manager_rules.proofs.Posting.{read_from}
use Rattle.manager_rules.proofs.Soundness.{in_time}
use Rattle.manager_rules.proofs.Unique.{jobs_are_one}
use Rattle.manager_rules.specs.Times.{IsIdle, seconds_ahead}
use Rattle.instance_rules.specs.Desks.{IsDeskOf}
use Rattle.instance_rules.specs.Log.{IsInstance}
use Rattle.instance_rules.proofs.Feeding.{none_old}
use Rattle.answers.specs.declared.chronicle.Entry.{Entry}
use Rattle.answers.specs.declared.chronicle.Entry.TheVariants as entry
use Rattle.answers.specs.Chronicle.{Setup}
use Rattle.answers.specs.Jobs.{instance_of, log_in, second_of}
use Rattle.answers.specs.Legal.{IsLegal, IsLegalEntry}
use Rattle.run_laws.specs.Jobs.{store_of}
use Rattle.run_laws.specs.Reserved.{EndsComeFirst, EndsFirst, HeadsKeepTheirSeconds, IsNamed, StaysFirst, WaitsFirst, WaitsIn}
use Rattle.run_laws.specs.Times.{KeepsTime}
use Rattle.run_laws.proofs.EachJob.{apart, jobs_at}
use Rattle.run_laws.proofs.Landings.{AllJobs, WaitsOn, landing_waits}
use Rattle.run_laws.proofs.Moves.{entry_lands, silent_store, stands}
use Rattle.run_laws.proofs.Newest.{same_one}
use Rattle.run_laws.proofs.Over.{IsOver, posts_over}
use Rattle.run_laws.proofs.Sounds.{stay_sound}
use Rattle.run_laws.proofs.Ticks.{TellsWhatFits, no_further}
use Rattle.run_laws.proofs.Times.{second_push, ticks}
use Rattle.run_laws.proofs.Written.{tells_what_fits}

-- ---- entry by entry

-- over this entry the second of the first in the queue doesn't rise, where it stays first
abbrev pub KeepsSecond : Setup → List Entry → Entry → Type 0
KeepsSecond set c e = (id second : ℕ) → WaitsFirst set c id second → StaysFirst set id c e
    → (later : ℕ) × (later ≤ second) × WaitsFirst set (c ++ e ∷ []) id later

along : (set : Setup) (id second : ℕ) (past between : List Entry) → EachAfter (KeepsSecond set) past between → EachAfter (StaysFirst set id) past between → WaitsFirst set past id second
    → (later : ℕ) × (later ≤ second) × WaitsFirst set (past ++ between) id later
along set id second past [] keeps stays w = (second, omega arith, subst (λ d. WaitsFirst set d id second) (sym (append-nil past)) w)
along set id second past (e ∷ between) keeps stays w =
    let one = keeps.0 id second w stays.0 in
    let rest = along set id one.0 (past ++ e ∷ []) between keeps.1 stays.1 one.2 in
    (rest.0, omega (arith, one.1, rest.1), subst (λ d. WaitsFirst set d id rest.0) (append_assoc past (e ∷ []) between) rest.2)

part_of : (set : Setup) (past between more : List Entry) → EachAfter (KeepsSecond set) [] ((past ++ between) ++ more) → EachAfter (KeepsSecond set) past between
part_of set past between more h =
    let front = (each_parts (KeepsSecond set) [] (past ++ between) more h).0 in
    (each_parts (KeepsSecond set) [] past between front).1

pub all_along : (set : Setup) (c : List Entry) → EachAfter (KeepsSecond set) [] c → HeadsKeepTheirSeconds set c
all_along set c h past between more id second split w stays = along set id second past between (part_of set past between more (subst (EachAfter (KeepsSecond set) []) split h)) stays w

-- an entry at which nothing happens to the service and no time passes
pub silent_keeps : (set : Setup) (c : List Entry) (e : Entry) → store_of set (c ++ e ∷ []) ≡ store_of set c → ticks e ≡ None → KeepsSecond set c e
silent_keeps set c e same still id second (st, was, w) stays =
    (second, omega arith, (st, same ∙ was, subst (λ n. WaitsIn set.resources.nodes n id second st) (sym (second_push set c e ∙ ap (λ o. unwrap_or o (second_of set c)) still)) w))

module _ (set : Setup) (valid : IsInstance (instance_of set)) (named : IsNamed set.resources) where
  abbrev grant : List ℕ
  grant = r_text set.resources

  -- an entry may follow, its second has its place, and at a tick no end is due
  Fits : List Entry → Entry → Type 0
  Fits c e = (IsLegalEntry set c e × (second_of set c < 2 ^ 64)) × EndsFirst set c e

  timely_of : (c : List Entry) → EachAfter Fits [] c → IsLegal set c × KeepsTime set c
  unfolding Fits
  timely_of c fits = apart set c (each_left (λ d e. IsLegalEntry set d e × (second_of set d < 2 ^ 64)) (EndsFirst set) [] c fits)

  tells : TellsWhatFits set.resources
  tells = tells_what_fits set.resources valid.grant named

  sound_at : (c : List Entry) → EachAfter Fits [] c → (st : Store) → store_of set c ≡ Some st → IsSoundStore set.resources.nodes st
  sound_at c fits = let t = timely_of c fits in stay_sound set valid c t.0 t.1 c [] (sym (append-nil c))

  over_at : (c : List Entry) → EachAfter Fits [] c → (st : Store) → store_of set c ≡ Some st → AllJobs IsOver st
  over_at c fits = let t = timely_of c fits in jobs_at set valid IsOver (posts_over set.resources) c t.0 t.1

  -- ---- the first in the queue

  module _ (c : List Entry) (before : EachAfter Fits [] c) where
    legal : IsLegal set c
    legal = (timely_of c before).0

    -- a tick goes on at most to its second
    module _ (next : ℕ) (fits : Fits c (entry.Ticked next)) (id second : ℕ) (st : Store) (was : store_of set c ≡ Some st) (w : WaitsIn set.resources.nodes (second_of set c) id second st) where
      spec : IsSpec w.head.spec
      spec = read_from (value_at st (spec_path w.head.id)) w.head.spec (each_at (IsStored st) w.jobs w.head w.are.stored (among_from w.jobs w.head w.known)).spec_is

      on_desk : (d : Desk) → IsDeskOf (instance_of set) (log_in set.work c) st d → IsIdle d → All (λ other. next ≤ other) (seconds_ahead d.scene) → next ≤ second
      unfolding Fits
      on_desk d is idle low =
          let jobs : w.jobs ≡ d.scene.jobs = jobs_are_one st w.jobs d.scene.jobs w.are is.jobs in
          no_further d.scene (λ due h. idle.posts (Does due) h) (fits.1 st d was is) (in_time st d.scene.jobs is.jobs) (over_at c before st was d.scene.jobs is.jobs)
          (subst (λ g. IsGrant g.nodes) (sym is.grant) valid.grant) (subst (λ n. n < 2 ^ 64) (sym is.now) fits.0.1) (subst TellsWhatFits (sym is.grant) tells)
          (λ k. is.old k ∙ none_old (instance_of set) grant st k valid.text) w.head (subst (λ js. Contains js w.head) jobs w.known) (subst (IsHead d.scene.jobs) (sym w.named) (subst (λ js. IsHead js id) jobs w.first)) spec second next
          (subst (λ n. IsReserved d.scene.grant.nodes d.scene.jobs w.head.spec n second) (sym is.now) (subst (λ g. IsReserved g.nodes d.scene.jobs w.head.spec (second_of set c) second) (sym is.grant) (subst (λ js. IsReserved set.resources.nodes js w.head.spec (second_of set c) second) jobs w.reserved))) low

      ticks_so : (second_of set c < next) × (next ≤ second)
      unfolding Fits
      ticks_so =
          let grounds = fits.0.0.grounds in
          let seen = grounds.1.2 in
          let same : grounds.1.0 ≡ st = same_one grounds.1.0 st (sym grounds.1.1 ∙ was) in
          (grounds.0, on_desk seen.0 (subst (λ x. IsDeskOf (instance_of set) (log_in set.work c) x seen.0) same seen.1) seen.2.0 seen.2.1)

      behind : (later : ℕ) × (later ≤ second) × WaitsFirst set (c ++ entry.Ticked next ∷ []) id later
      behind =
          let t = ticks_so in
          let up = t.0 in
          let low = t.1 in
          let r = w.reserved in (
            second,
            omega arith,
            (
              st,
              silent_store set c (entry.Ticked next) refl ∙ was,
              subst (λ n. WaitsIn set.resources.nodes n id second st) (sym (second_push set c (entry.Ticked next))) (record {
                jobs = w.jobs;
                are = w.are;
                head = w.head;
                known = w.known;
                named = w.named;
                first = w.first;
                reserved = record { from = low; fits = r.fits; least = λ sooner from below. r.least sooner (omega (arith, up, from)) below };
              }),
            ),
          )

    tick_keeps : (next : ℕ) → Fits c (entry.Ticked next) → KeepsSecond set c (entry.Ticked next)
    tick_keeps next fits id second (st, was, w) stays = behind next fits id second st was w

    landing_keeps : (e : Entry) → Fits c e → ticks e ≡ None → KeepsSecond set c e
    unfolding Fits
    landing_keeps e fits still id second (st, was, w) stays =
        let after = stands set grant valid.text (c ++ e ∷ []) (each_push (IsLegalEntry set) c e legal fits.0.0) in
        let here = stands set grant valid.text c legal in
        let same : here.store ≡ st = same_one here.store st (sym here.standing ∙ was) in
        let stood : second_of set (c ++ e ∷ []) ≡ second_of set c = second_push set c e ∙ ap (λ o. unwrap_or o (second_of set c)) still in
        elim (entry_lands set grant valid.text c legal e fits.0.0 st after.store was after.standing) [
          | inl one ↦ (second, omega arith, (after.store, after.standing, subst (λ n. WaitsIn set.resources.nodes n id second after.store) (sym stood) (subst (WaitsIn set.resources.nodes (second_of set c) id second) (sym one) w)))
          | inr l ↦
              let on : WaitsOn set.resources.nodes (second_of set c) id second after.store =
              landing_waits (instance_of set) valid (log_in set.work c) fits.0.1 id second l.groups st after.store (subst IsStore same here.is) (sound_at c before st was) l.due l.made
              (λ done left mid split at_. stays.within l.instance l.number l.authors done left st mid (l.is ∙ ap (entry.Landed l.instance primary l.number l.authors) split) was at_) w in
              (on.0, on.1, (after.store, after.standing, subst (λ n. WaitsIn set.resources.nodes n id on.0 after.store) (sym stood) on.2))
        ]

    entry_keeps : (e : Entry) → Fits c e → KeepsSecond set c e
    entry_keeps (entry.Ticked next) fits = tick_keeps next fits
    entry_keeps e fits = landing_keeps e fits refl

  keeps_on : (past more : List Entry) → EachAfter Fits [] past → EachAfter Fits past more → EachAfter (KeepsSecond set) past more
  keeps_on past [] before fits = tt
  keeps_on past (e ∷ more) before fits = (entry_keeps past before e fits.0, keeps_on (past ++ e ∷ []) more (each_push Fits past e before fits.0) fits.1)

  pub all_keep : (c : List Entry) → IsLegal set c → KeepsTime set c → EndsComeFirst set c → EachAfter (KeepsSecond set) [] c
  unfolding Fits
  all_keep c legal timely ends = keeps_on [] c tt (each_both (λ d e. IsLegalEntry set d e × (second_of set d < 2 ^ 64)) (EndsFirst set) [] c (each_both (IsLegalEntry set) (λ d e. second_of set d < 2 ^ 64) [] c legal timely) ends)
