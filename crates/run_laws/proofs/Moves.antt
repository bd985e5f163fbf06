-- How the store of `primary` goes on along a legal chronicle: by landings whose transactions of the
-- manager are due.
use Rattle.std.proofs.Common.{◌≡◌, ℕ, ◌⊎◌, inl, inr, List, [], ◌∷◌, ◌++◌, Option, Some, None, refl, sym, ap, ◌∙◌, subst, append-nil}
use Rattle.std.specs.List.{cons_option}
use Rattle.kvs_model.specs.History.{after_groups}
use Rattle.kvs_model.specs.Store.{IsStore, Store}
use Rattle.kvs_rules.proofs.Logs.{legal_parts}
use Rattle.kvs_rules.proofs.Sequences.{each_push}
use Rattle.kvs_rules.specs.Answers.{IsLegalLog, IsLegalMoment}
use Rattle.kvs_rules.specs.Log as service
use Rattle.kvs_rules.specs.Namespaces.{Base, fresh, newest_store, primary}
use Rattle.kvs_txn.specs.declared.txn.By.{By}
use Rattle.kvs_txn.specs.declared.txn.Group.{Group}
use Rattle.kvs_txn.specs.declared.txn.Scope.TheVariants as scope
use Rattle.instance_rules.specs.Desks.{AreDueFrom}
use Rattle.answers.specs.declared.chronicle.Entry.{Entry}
use Rattle.answers.specs.declared.chronicle.Entry.TheVariants as entry
use Rattle.answers.specs.Chronicle.{Setup, top}
use Rattle.answers.specs.Jobs.{instance_of, log_in}
use Rattle.answers.specs.Legal.{IsLegal, IsLegalEntry}
use Rattle.answers.specs.Services.{base_of, log_of, moment_of, setting_of}
use Rattle.answers.proofs.Carried.{lands_so}
use Rattle.answers.proofs.JobLogs.{service_kept}
use Rattle.answers.proofs.Services.{log_push, service_legal}
use Rattle.run_laws.specs.Jobs.{store_of}
use Rattle.kvs_model.proofs.Histories.{IsStore-first_store}
use Rattle.run_laws.proofs.Newest.{Newest, goes_on, newest_of, same_one}

-- a landing whose transactions are due makes one store of another
pub record LandsDue (set : Setup) (c : List Entry) (st new : Store) : Type 0 where
  pub groups : List Group
  pub due : AreDueFrom (instance_of set) (log_in set.work c) groups st
  pub made : after_groups scope.Primary groups st ≡ Some new

-- and the entry is this landing
pub record IsLanding (set : Setup) (c : List Entry) (e : Entry) (st new : Store) : Type 0 where
  pub instance : ℕ
  pub number : ℕ
  pub authors : List (Option By)
  pub groups : List Group
  pub is : e ≡ entry.Landed instance primary number authors groups
  pub due : AreDueFrom (instance_of set) (log_in set.work c) groups st
  pub made : after_groups scope.Primary groups st ≡ Some new

-- the store of a chronicle
pub record Stands (set : Setup) (c : List Entry) : Type 0 where
  pub store : Store
  pub is : IsStore store
  pub standing : store_of set c ≡ Some store

module _ (set : Setup) (grant : List ℕ) (begins : base_of set ≡ fresh grant) where
  none : (base_of set).number ≡ 0
  none = ap (λ (b : Base). b.number) begins

  kept : (c : List Entry) → store_of set c ≡ newest_store (setting_of set) (log_of set.work top c) primary
  kept c = ap (λ l. newest_store (setting_of set) l primary) (service_kept set.work c)

  newest_in : (c : List Entry) → IsLegal set c → Newest (setting_of set) none (log_of set.work top c)
  newest_in c legal = newest_of (setting_of set) none (subst (λ (b : Base). IsStore b.store) (sym begins) (IsStore-first_store grant)) (log_of set.work top c) (service_legal set c legal)

  pub stands : (c : List Entry) → IsLegal set c → Stands set c
  stands c legal = let n = newest_in c legal in record { store = n.store; is = n.is; standing = kept c ∙ n.stands }

  module _ (c : List Entry) (legal : IsLegal set c) (e : Entry) (fits : IsLegalEntry set c e) where
    abbrev log : service.Log
    log = log_of set.work top c

    pub next_legal : (m : service.Moment) → moment_of set.work top c e ≡ Some m → IsLegalMoment (setting_of set) log m
    next_legal m is =
        let whole : IsLegalLog (setting_of set) (log_of set.work top (c ++ e ∷ [])) = service_legal set (c ++ e ∷ []) (each_push (IsLegalEntry set) c e legal fits) in
        let pushed : log_of set.work top (c ++ e ∷ []) ≡ log ++ m ∷ [] = log_push set.work top c e ∙ ap (λ o. log ++ cons_option o []) is in
        (legal_parts (setting_of set) [] log (m ∷ []) (subst (IsLegalLog (setting_of set)) pushed whole)).1.0

    moves : (o : Option service.Moment) → moment_of set.work top c e ≡ o → (st new : Store) → newest_store (setting_of set) log primary ≡ Some st
        → newest_store (setting_of set) (log ++ cons_option o []) primary ≡ Some new → (new ≡ st) ⊎ IsLanding set c e st new
    moves None is st new was now = inl (same_one new st (sym now ∙ ap (λ l. newest_store (setting_of set) l primary) (append-nil log) ∙ was))
    moves (Some m) is st new was now =
        let n = newest_in c legal in
        let next = goes_on (setting_of set) none log m (next_legal m is) n in
        let old : n.store ≡ st = same_one n.store st (sym n.stands ∙ was) in
        let made : next.newest.store ≡ new = same_one next.newest.store new (sym next.newest.stands ∙ now) in
        elim next.how [
          | inl same ↦ inl (sym made ∙ same ∙ old)
          | inr l ↦
              let so = lands_so set c e l.number l.authors l.groups (is ∙ ap Some l.is) in
              let it : IsLegalEntry set c (entry.Landed so.instance primary l.number l.authors l.groups) = subst (IsLegalEntry set c) so.is fits in
              inr (record {
                instance = so.instance;
                number = l.number;
                authors = l.authors;
                groups = l.groups;
                is = so.is;
                due = it.grounds.2 refl st (kept c ∙ was);
                made = subst (λ x. after_groups scope.Primary l.groups x ≡ Some new) old (l.made ∙ ap Some made);
              })
        ]

    -- an entry leaves the store as it is, or is a landing of what is due
    pub entry_lands : (st new : Store) → store_of set c ≡ Some st → store_of set (c ++ e ∷ []) ≡ Some new → (new ≡ st) ⊎ IsLanding set c e st new
    entry_lands st new was now = moves (moment_of set.work top c e) refl st new (sym (kept c) ∙ was)
        (ap (λ l. newest_store (setting_of set) l primary) (sym (log_push set.work top c e)) ∙ sym (kept (c ++ e ∷ [])) ∙ now)

    pub entry_moves : (st new : Store) → store_of set c ≡ Some st → store_of set (c ++ e ∷ []) ≡ Some new → (new ≡ st) ⊎ LandsDue set c st new
    entry_moves st new was now = elim (entry_lands st new was now) [
      | inl same ↦ inl same
      | inr l ↦ inr (record { groups = l.groups; due = l.due; made = l.made })
    ]

-- an entry that is no moment of the service leaves the store
pub silent_store : (set : Setup) (c : List Entry) (e : Entry) → moment_of set.work top c e ≡ None → store_of set (c ++ e ∷ []) ≡ store_of set c
silent_store set c e none =
    ap (λ l. newest_store (setting_of set) l primary)
    (service_kept set.work (c ++ e ∷ []) ∙ log_push set.work top c e ∙ ap (λ o. log_of set.work top c ++ cons_option o []) none ∙ append-nil _ ∙ sym (service_kept set.work c))
