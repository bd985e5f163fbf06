-- What a due transaction of the manager carries out waits, and what a landing or a denial names has
-- asked the service or is such a command.
use Rattle.std.proofs.Common.{◌≡◌, ◌⊎◌, inl, inr, ℕ, List, [], ◌∷◌, map, Bool, true, false, cond, refl, sym, ap, ◌∙◌, subst, Option, Some, None, true≢false, Result, Ok, Err}
use Rattle.std.specs.Prelude.{IfSome, IsSome, option_and_then}
use Rattle.std.specs.Option.{option_map_or}
use Rattle.std.specs.List.{AllByRecursion as Each, list_any}
use Rattle.std.proofs.lemmas.List.Folds.{list_any-append}
use Rattle.kvs_txn.specs.declared.answers.Refusal.{Refusal}
use Rattle.kvs_txn.specs.declared.txn.Author.{Author}
use Rattle.kvs_txn.specs.declared.txn.Author.TheVariants as author
use Rattle.kvs_txn.specs.declared.txn.By.{By}
use Rattle.kvs_txn.specs.declared.txn.Group.{Group}
use Rattle.kvs_txn.specs.declared.txn.Op.{Op}
use Rattle.kvs_txn.specs.declared.txn.Scope.TheVariants as scope
use Rattle.kvs_model.specs.History.{after_groups, landed_on}
use Rattle.kvs_model.specs.Operation.{effect}
use Rattle.kvs_model.specs.Store.{Name, Store}
use Rattle.kvs_rules.specs.declared.events.KvsEvent.TheVariants as event
use Rattle.kvs_rules.specs.Landings.{names_of, names_of_group, commands_of, IsFreshCommand, IsUsers, IsManagers, AreMembers, IsLegalLanding, IsLegalDenial}
use Rattle.kvs_rules.specs.Log as service
use Rattle.kvs_rules.specs.Log.{is_asked, is_author, same_command}
use Rattle.kvs_rules.specs.Namespaces.{Request, Setting, is_primary, newest_store, scope_of}
use Rattle.kvs_rules.proofs.Asking.{command_is}
use Rattle.manager_rules.specs.declared.asked.Asked.TheVariants as asked
use Rattle.manager_rules.specs.declared.due.Due.{Due}
use Rattle.manager_rules.specs.Deeds.{Deed, Carries, due_of}
use Rattle.manager_rules.specs.Due.{MayDo}
use Rattle.manager_rules.specs.Posts.{Desk, Post, Submits, Does, IsDuePost, authors_of}
use Rattle.instance_rules.specs.Desks.{AreDueFrom, IsDeskOf, IsDueFor}
use Rattle.instance_rules.specs.Legal.{IsDueEvent}
use Rattle.instance_rules.specs.Log.{Instance, IsPending, JobAsk, Log, service_of}
use Rattle.answers.proofs.Services.{or_cases}

is_no_author : {A : Type 0} (by : By) → false ≡ true → A
is_no_author by h = absurd (true≢false (sym h))

-- ---- what the service is asked

-- the command asks something of the service
abbrev pub DoesAsk : Setting → By → Type 0
DoesAsk set by = (request : Request) × (set.asks by ≡ Some request)

members_ask : (set : Setting) (space : Name) (name : List ℕ) (count : ℕ) (bys : List By) (ops : List Op) → AreMembers set space name count bys ops → (by : By) → list_any (is_author by) (map Some bys) ≡ true → DoesAsk set by
members_ask set space name count [] ops m by h = is_no_author by h
members_ask set space name count (b ∷ bys) ops m by h = elim (or_cases (same_command by b) (list_any (is_author by) (map Some bys)) h) [
  | inl own ↦ (m.2.request, ap set.asks (command_is by b own) ∙ m.2.made)
  | inr rest ↦ members_ask set space name count bys m.1 m.4 by rest
]

group_asks : (set : Setting) (space : Name) (group : Group) → IsUsers set space group → (by : By) → list_any (is_author by) (names_of_group group.authors) ≡ true → DoesAsk set by
group_asks set space group users by h = elim users.1 [
  | inl c ↦ elim (or_cases (same_command by c.by) false (ap (λ bys. list_any (is_author by) (names_of_group bys)) (sym c.alone) ∙ h)) [
    | inl own ↦ (c.asked.request, ap set.asks (command_is by c.by own) ∙ c.asked.made)
    | inr none ↦ is_no_author by none
  ]
  | inr f ↦ on f.name f.count group.txn.ops group.authors f.members h
]
  where
    on : (name : List ℕ) (count : ℕ) (ops : List Op) (bys : List By) → AreMembers set space name count bys ops → list_any (is_author by) (names_of_group bys) ≡ true → DoesAsk set by
    on name count ops [] m h = is_no_author by h
    on name count ops (b ∷ bys) m h = members_ask set space name count (b ∷ bys) ops m by h

pub fresh_asked : (set : Setting) (log : service.Log) (authors : List (Option By)) → Each (IsFreshCommand set log) (commands_of authors) → (by : By) → list_any (is_author by) authors ≡ true → DoesAsk set by → is_asked by log ≡ true
fresh_asked set log [] fresh by h asks = is_no_author by h
fresh_asked set log (None ∷ authors) fresh by h asks = fresh_asked set log authors fresh by h asks
fresh_asked set log (Some b ∷ authors) fresh by h asks = elim (or_cases (same_command by b) (list_any (is_author by) authors) h) [
  | inl own ↦ let same = command_is by b own in ap (λ x. is_asked x log) same ∙ fresh.0.asked (subst IsSome (sym (ap set.asks (sym same) ∙ asks.1)) refl)
  | inr rest ↦ fresh_asked set log authors fresh.1 by rest asks
]

pub denial_asked : (set : Setting) (log : service.Log) (space : Name) (authors : List (Option By)) (group : Group) (refusal : Refusal) → IsLegalDenial set log space authors group refusal → (by : By) → list_any (is_author by) authors ≡ true → is_asked by log ≡ true
denial_asked set log space authors group refusal legal by h =
    fresh_asked set log authors legal.fresh.fresh by h (group_asks set space group legal.users by (ap (list_any (is_author by)) (sym legal.named) ∙ h))

only_author : (by b : By) (authors : List (Option By)) → authors ≡ Some b ∷ [] → list_any (is_author by) authors ≡ true → by ≡ b
only_author by b authors alone h = elim (or_cases (same_command by b) false (ap (list_any (is_author by)) (sym alone) ∙ h)) [
  | inl own ↦ command_is by b own
  | inr none ↦ is_no_author by none
]

-- ---- what the manager carries out

-- an open command on jobs that no landing has carried out
pub record IsWaiting (inst : Instance) (log : Log) (by : By) : Type 0 where
  pub ask : JobAsk
  pub made : inst.asks by ≡ Some ask
  pub pending : IsPending by log

waits_as : (inst : Instance) (log : Log) (by b : By) → list_any (is_author by) (names_of_group (b ∷ [])) ≡ true → IsWaiting inst log b → IsWaiting inst log by
waits_as inst log by b h w = subst (IsWaiting inst log) (sym (only_author by b (Some b ∷ []) refl h)) w

module _ (inst : Instance) (log : Log) (by : By) where
  abbrev IsNamed : List By → Type 0
  IsNamed bys = list_any (is_author by) (names_of_group bys) ≡ true

  deed_waits : (st : Store) (desk : Desk) → IsDeskOf inst log st desk → (now : ℕ) (j : Rattle.manager_rules.specs.Jobs.StoredJob) (deed : Deed) → MayDo desk.scene j deed → IsNamed (option_map_or (λ b. b ∷ []) (due_of now j deed).command []) → IsWaiting inst log by
  deed_waits st desk is now j (Carries (asked.Cancel b job)) may h =
      let a = (is.asked (asked.Cancel b job)).0 may.0 in
      waits_as inst log by b h (record { ask = _; made = a.asks; pending = a.pending })
  deed_waits st desk is now j (Carries (asked.Raise b job kind severity note)) may h =
      let a = (is.asked (asked.Raise b job kind severity note)).0 may.0 in
      waits_as inst log by b h (record { ask = _; made = a.asks; pending = a.pending })
  deed_waits st desk is now j (Carries (asked.Urgency b job urgency)) may h =
      let a = (is.asked (asked.Urgency b job urgency)).0 may.0 in
      waits_as inst log by b h (record { ask = _; made = a.asks; pending = a.pending })
  deed_waits st desk is now j (Carries (asked.Child job living shut)) may h = is_no_author by h
  deed_waits st desk is now j _ may h = is_no_author by h

  post_waits : (st : Store) (desk : Desk) → IsDeskOf inst log st desk → (post : Post) → IsDuePost desk post → IsNamed (authors_of post) → IsWaiting inst log by
  post_waits st desk is (Submits x) due h =
      let s = (is.submits due.from).0 due.waits in
      waits_as inst log by due.from.by (subst (λ b. IsNamed (b ∷ [])) due.command h) (record { ask = _; made = s.asks; pending = s.pending })
  post_waits st desk is (Does d) due h =
      deed_waits st desk is desk.scene.now due.j due.deed due.may (subst (λ (x : Due). IsNamed (option_map_or (λ b. b ∷ []) x.command [])) due.is h)

  due_waits : (st : Store) (group : Group) (who : Author) → group.txn.author ≡ who → who ≡ author.Manager → IsDueFor inst log st group who → IsNamed group.authors → IsWaiting inst log by
  due_waits st group author.Manager is manager due h = post_waits st due.desk due.is due.post due.due (subst IsNamed due.authors h)
  due_waits st group (author.User id) is manager due h = cc

  module _ (space : Name) where
    abbrev Kinds : List Group → Type 0
    Kinds groups = Each (λ group. IsUsers inst.service space group ⊎ IsManagers inst.service space group) groups

    abbrev Named : Type 0
    Named = DoesAsk inst.service by ⊎ IsWaiting inst log by

    -- in `primary`
    groups_name : (groups : List Group) (st new : Store) → Kinds groups → AreDueFrom inst log groups st → after_groups scope.Primary groups st ≡ Some new → list_any (is_author by) (names_of groups) ≡ true → Named
    groups_name [] st new kinds due made h = is_no_author by h
    groups_name (group ∷ groups) st new kinds due made h = elim (or_cases _ _ (sym (list_any-append (is_author by) (names_of_group group.authors) (names_of groups)) ∙ h)) [
      | inl here ↦ elim kinds.0 [
        | inl u ↦ inl (group_asks inst.service space group u by here)
        | inr m ↦ inr (due_waits st group group.txn.author refl m.author due.0 here)
      ]
      | inr rest ↦ on (effect st group.txn scope.Primary) (λ mid d e. groups_name groups mid new kinds.1 d e rest) due.1 made
    ]
      where
        on : (r : Result Store Refusal) → ((mid : Store) → AreDueFrom inst log groups mid → after_groups scope.Primary groups mid ≡ Some new → Named)
            → IfSome (landed_on r) (AreDueFrom inst log groups) → option_and_then (λ mid. after_groups scope.Primary groups mid) (landed_on r) ≡ Some new → Named
        on (Ok mid) more later e = more mid later e
        on (Err why) more later e = cc

    -- in every other namespace
    users_name : is_primary space ≡ false → (groups : List Group) → Kinds groups → list_any (is_author by) (names_of groups) ≡ true → Named
    users_name other [] kinds h = is_no_author by h
    users_name other (group ∷ groups) kinds h = elim (or_cases _ _ (sym (list_any-append (is_author by) (names_of_group group.authors) (names_of groups)) ∙ h)) [
      | inl here ↦ elim kinds.0 [
        | inl u ↦ inl (group_asks inst.service space group u by here)
        | inr m ↦ absurd (true≢false (sym m.inside ∙ other))
      ]
      | inr rest ↦ users_name other groups kinds.1 rest
    ]

    -- a command that the landing names, or one of its transactions
    abbrev pub IsOfLanding : List (Option By) → List Group → Type 0
    IsOfLanding authors groups = (list_any (is_author by) authors ≡ true) ⊎ (list_any (is_author by) (names_of groups) ≡ true)

    either_way : {P : Type 0} → (authors : List (Option By)) (groups : List Group) → (list_any (is_author by) authors ≡ true → P) → groups ≡ [] → IsOfLanding authors groups → P
    either_way authors groups f empty (inl h) = f h
    either_way authors groups f empty (inr h) = is_no_author by (ap (λ gs. list_any (is_author by) (names_of gs)) (sym empty) ∙ h)

    advance_names : (groups : List Group) (old new : Store) → Kinds groups → newest_store inst.service (service_of log) space ≡ Some old → after_groups (scope_of space) groups old ≡ Some new
        → (number : ℕ) (authors : List (Option By)) → IsDueEvent inst log (event.Landed space number authors groups) → list_any (is_author by) (names_of groups) ≡ true → (b : Bool) → is_primary space ≡ b → Named
    advance_names groups old new kinds standing made number authors due h true e =
        let same : space ≡ Rattle.kvs_rules.specs.Namespaces.primary = (Rattle.std.specs.Cmp.Lexicographic.bytes_decides space Rattle.kvs_rules.specs.Namespaces.primary).0 e in
        groups_name groups old new kinds
        (due e old (subst (λ s. newest_store inst.service (service_of log) s ≡ Some old) same standing))
        (subst (λ b. after_groups (cond b scope.Primary scope.Other) groups old ≡ Some new) e made) h
    advance_names groups old new kinds standing made number authors due h false e = users_name e groups kinds h

    -- such a command asks the service, or waits as one on jobs
    pub landing_names : (number : ℕ) (authors : List (Option By)) (groups : List Group) → IsLegalLanding inst.service (service_of log) space number authors groups
        → IsDueEvent inst log (event.Landed space number authors groups) → IsOfLanding authors groups → Named
    landing_names number authors groups legal due h = elim legal.form [
      | inl o ↦ inl (o.asked.request, ap inst.service.asks (either_way authors groups (only_author by o.by authors o.alone) o.empty h) ∙ o.asked.made)
      | inr more ↦ elim more [
        | inl r ↦ inl (r.asked.request, ap inst.service.asks (either_way authors groups (only_author by r.by authors r.alone) r.empty h) ∙ r.asked.made)
        | inr a ↦ advance_names groups a.old a.new a.kinds a.standing a.made number authors due (elim h [ inl x ↦ ap (list_any (is_author by)) (sym a.named) ∙ x | inr y ↦ y ]) _ refl
      ]
    ]
