-- Along a legal chronicle the store of `primary` stays sound, and the logs of its jobs only grow.
use Rattle.std.proofs.Common.{◌≡◌, ℕ, ◌<◌, ◌^◌, inl, inr, List, [], ◌∷◌, ◌++◌, refl, sym, ◌∙◌, subst, arith, append-nil, append_assoc}
use Rattle.std.specs.Prelude.{IsSome, None, Some}
use Rattle.event_log.specs.declared.event.Event.{Event}
use Rattle.kvs_model.specs.History.{first_store}
use Rattle.kvs_model.specs.Store.{Store}
use Rattle.kvs_rules.proofs.Sequences.{each_along, each_both, each_left, each_parts, each_push}
use Rattle.kvs_rules.specs.Namespaces.{Base, newest_store, primary}
use Rattle.kvs_rules.specs.Sequence.{EachAfter}
use Rattle.resource_set.specs.Writing.{r_text}
use Rattle.manager_rules.specs.Jobs.{IsLogged}
use Rattle.manager_rules.specs.Sound.{IsSoundStore}
use Rattle.manager_rules.proofs.Others.{first_jobs}
use Rattle.instance_rules.specs.Legal.{IsSound}
use Rattle.instance_rules.specs.Log.{IsInstance}
use Rattle.instance_rules.proofs.Sounds.{groups_keep}
use Rattle.answers.specs.declared.chronicle.Entry.{Entry}
use Rattle.answers.specs.Chronicle.{Setup}
use Rattle.answers.specs.Jobs.{instance_of, log_in, second_of}
use Rattle.answers.specs.Legal.{IsLegal, IsLegalEntry}
use Rattle.answers.specs.Services.{setting_of}
use Rattle.answers.proofs.JobLogs.{begins_anew}
use Rattle.run_laws.specs.Jobs.{HasLog, JobsStaySound, LogsOnlyGrow, store_of}
use Rattle.run_laws.specs.Times.{KeepsTime}
use Rattle.run_laws.proofs.Growing.{Grows, groups_grow, unchanged}
use Rattle.run_laws.proofs.Moves.{entry_moves, stands}
use Rattle.run_laws.proofs.Newest.{same_one}

pub stands_there : (set : Setup) (c : List Entry) → set.base ≡ None → IsLegal set c → IsSome (store_of set c)
stands_there set c anew legal = let s = stands set set.grant (begins_anew set anew) c legal in subst IsSome (sym s.standing) refl

module _ (set : Setup) (valid : IsInstance (instance_of set)) where
  is_one : IsInstance (instance_of set)
  is_one = valid

  abbrev grant : List ℕ
  grant = r_text set.resources

  -- an entry may follow, and its second has its place
  Fits : List Entry → Entry → Type 0
  Fits c e = IsLegalEntry set c e × (second_of set c < 2 ^ 64)

  legal_of : (c : List Entry) → EachAfter Fits [] c → IsLegal set c
  unfolding Fits
  legal_of c fits = each_left (IsLegalEntry set) (λ past e. second_of set past < 2 ^ 64) [] c fits

  all_fit : (c : List Entry) → IsLegal set c → KeepsTime set c → EachAfter Fits [] c
  unfolding Fits
  all_fit c legal timely = each_both (IsLegalEntry set) (λ past e. second_of set past < 2 ^ 64) [] c legal timely

  IsSoundAt : List Entry → Type 0
  IsSoundAt c = IsSound (instance_of set) (log_in set.work c)

  IsFirst : Base → Type 0
  IsFirst base = (st : Store) → newest_store (record (setting_of set) { base = base }) [] primary ≡ Some st → IsSoundStore set.resources.nodes st

  begins : IsSoundAt []
  unfolding IsSoundAt IsFirst
  begins = subst IsFirst (sym valid.text) (λ st e. subst (IsSoundStore set.resources.nodes) (same_one (first_store grant) st e) (record {
    jobs = [];
    are = first_jobs grant;
    sound = record { served = tt; apart = record { rising = λ k w. absurd (omega (arith, w)); within = tt; apart = tt } };
  }))

  sound_step : (c : List Entry) (e : Entry) → EachAfter Fits [] c → Fits c e → IsSoundAt c → IsSoundAt (c ++ e ∷ [])
  unfolding Fits IsSoundAt
  sound_step c e before fits h st now =
      let legal = legal_of c before in
      let s = stands set grant valid.text c legal in
      elim (entry_moves set grant valid.text c legal e fits.0 s.store st s.standing now) [
        | inl same ↦ subst (IsSoundStore set.resources.nodes) (sym same) (h s.store s.standing)
        | inr l ↦ groups_keep (instance_of set) is_one (log_in set.work c) fits.1 l.groups s.store st s.is (h s.store s.standing) l.due l.made
      ]

  sound_at : (c : List Entry) → EachAfter Fits [] c → IsSoundAt c
  sound_at c fits = each_along Fits IsSoundAt sound_step [] c tt fits begins

  pub stay_sound : (c : List Entry) → IsLegal set c → KeepsTime set c → JobsStaySound set c
  unfolding IsSoundAt
  stay_sound c legal timely past more split = sound_at past (each_parts Fits [] past more (subst (EachAfter Fits []) split (all_fit c legal timely))).0

  -- ---- logs

  module _ (id : ℕ) (small : id < 2 ^ 64) (events : List Event) where
    HasGrown : List Entry → Type 0
    HasGrown c = (further : List Event) × HasLog set c id (events ++ further)

    entry_grows : (c : List Entry) (e : Entry) → EachAfter Fits [] c → Fits c e → (log : List Event) → HasLog set c id log → (further : List Event) × HasLog set (c ++ e ∷ []) id (log ++ further)
    unfolding Fits IsSoundAt
    entry_grows c e before fits log (st, was, l) =
        let legal = legal_of c before in
        let s = stands set grant valid.text c legal in
        let next = stands set grant valid.text (c ++ e ∷ []) (each_push (IsLegalEntry set) c e legal fits.0) in
        let same : s.store ≡ st = same_one s.store st (sym s.standing ∙ was) in
        let grown : Grows next.store id log = elim (entry_moves set grant valid.text c legal e fits.0 s.store next.store s.standing next.standing) [
          | inl one ↦ unchanged next.store id log (subst (λ x. IsLogged x id log) (sym (one ∙ same)) l)
          | inr d ↦ groups_grow (instance_of set) is_one (log_in set.work c) fits.1 id small d.groups s.store next.store s.is (sound_at c before s.store s.standing) d.due d.made log (subst (λ x. IsLogged x id log) (sym same) l)
        ] in
        (grown.0, (next.store, next.standing, grown.1))

    grown_step : (c : List Entry) (e : Entry) → EachAfter Fits [] c → Fits c e → HasGrown c → HasGrown (c ++ e ∷ [])
    unfolding HasGrown
    grown_step c e before fits h =
        let one = entry_grows c e before fits (events ++ h.0) h.1 in
        (h.0 ++ one.0, subst (HasLog set (c ++ e ∷ []) id) (append_assoc events h.0 one.0) one.1)

    grown : (past between : List Entry) → EachAfter Fits [] (past ++ between) → HasLog set past id events → (further : List Event) × HasLog set (past ++ between) id (events ++ further)
    unfolding HasGrown
    grown past between fits h =
        let parts = each_parts Fits [] past between fits in
        each_along Fits HasGrown grown_step past between parts.0 parts.1 ([], subst (HasLog set past id) (sym (append-nil events)) h)

  pub only_grow : (c : List Entry) → IsLegal set c → KeepsTime set c → LogsOnlyGrow set c
  only_grow c legal timely past between more id log split small h =
      grown id small log past between (each_parts Fits [] (past ++ between) more (subst (EachAfter Fits []) split (all_fit c legal timely))).0 h
