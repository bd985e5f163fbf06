-- Which job commands an event of the service is about: none, but for those that the job manager's transactions carry out.
use Rattle.std.proofs.Common.{◌≡◌, ℕ, ◌⊎◌, inl, inr, List, [], ◌∷◌, true, false, Option, Some, None, IsSome, refl, sym, ap, ◌∙◌, subst, true≢false}
use Rattle.std.specs.List.{AllByRecursion as Each, list_any}
use Rattle.std.proofs.lemmas.Bool.{false_from_ne_true, or_from}
use Rattle.job_rules.proofs.Among.{Among, among_flat, among_from, among_map, any_from, each_at}
use Rattle.kvs_keys.specs.Posted.{LandsUsers}
use Rattle.kvs_model.specs.Store.{Name}
use Rattle.kvs_rules.proofs.Asking.{command_is}
use Rattle.kvs_rules.specs.Answers.{IsLegalEvent}
use Rattle.kvs_rules.specs.Landings.{AreMembers, IsAdvance, IsLegalDenial, IsLegalLanding, IsManagers, IsUser, IsUsers, names_of_group}
use Rattle.kvs_rules.specs.Log as service
use Rattle.kvs_rules.specs.Log.{is_author}
use Rattle.kvs_rules.specs.Namespaces.{Asks, Request, Setting}
use Rattle.kvs_rules.specs.declared.events.KvsAsk.{KvsAsk}
use Rattle.kvs_rules.specs.declared.events.KvsEvent.{KvsEvent}
use Rattle.kvs_rules.specs.declared.events.KvsEvent.TheVariants as event
use Rattle.kvs_txn.specs.declared.answers.Refusal.{Refusal}
use Rattle.kvs_txn.specs.declared.txn.By.{By}
use Rattle.kvs_txn.specs.declared.txn.Group.{Group}
use Rattle.kvs_txn.specs.declared.txn.Op.{Op}
use Rattle.instance_rules.specs.Log.{Instance, IsInstance, Served}
use Rattle.job_commands.specs.Moments.{IsAside, IsBeside}

-- the command asks something of the service
abbrev pub DoesAsk : Setting → By → Type 0
DoesAsk set by = (request : Request) × (set.asks by ≡ Some request)

asks_as : (set : Setting) (space : Name) (by other : By) (ask : KvsAsk) → by ≡ other → Asks set space other ask → DoesAsk set by
asks_as set space by other ask same a = (a.request, ap set.asks same ∙ a.made)

members_ask : (set : Setting) (space : Name) (name : List ℕ) (count : ℕ) (bys : List By) (ops : List Op) → AreMembers set space name count bys ops → (by : By) → Among by bys → DoesAsk set by
members_ask set space name count [] ops m by i = absurd i
members_ask set space name count (b ∷ bys) ops m by (inl same) = asks_as set space by b _ (sym same) m.2
members_ask set space name count (b ∷ bys) ops m by (inr i) = members_ask set space name count bys m.1 m.4 by i

-- each author of a user's transaction asks something
authors_ask : (set : Setting) (space : Name) (group : Group) → IsUsers set space group → (by : By) → Among by group.authors → DoesAsk set by
authors_ask set space group users by i = elim users.1 [
  | inl c ↦ only c.by c.asked (subst (Among by) c.alone i)
  | inr f ↦ members_ask set space f.name f.count group.authors group.txn.ops f.members by i
]
  where
    only : {a : KvsAsk} (b : By) → Asks set space b a → Among by (b ∷ []) → DoesAsk set by
    only {a} b asked (inl same) = asks_as set space by b a (sym same) asked
    only b asked (inr none) = absurd none

in_group : (by : By) (o : Option By) (bys : List By) → Among o (names_of_group bys) → is_author by o ≡ true → Among by bys
in_group by o [] (inl e) t = absurd (true≢false (sym t ∙ ap (is_author by) (sym e)))
in_group by o [] (inr i) t = absurd i
in_group by o (b ∷ bs) i t =
    let at = among_map Some (b ∷ bs) o i in
    subst (λ y. Among y (b ∷ bs)) (sym (command_is by at.0 (ap (is_author by) at.2 ∙ t))) at.1

only_author : (by b : By) → list_any (is_author by) (Some b ∷ []) ≡ true → by ≡ b
only_author by b t = let o = any_from (is_author by) (Some b ∷ []) t in at o.0 o.1 o.2
  where
    at : (x : Option By) → Among x (Some b ∷ []) → is_author by x ≡ true → by ≡ b
    at x (inl e) u = command_is by b (ap (is_author by) e ∙ u)
    at x (inr none) u = absurd none

module _ (inst : Instance) (valid : IsInstance inst) (log : service.Log) where
  never : (by : By) → IsSome (inst.asks by) → DoesAsk inst.service by → ⊥
  never by some does = let wrong : None ≡ Some does.0 = sym (valid.apart by some) ∙ does.1 in cc

  -- a user's transaction is for no job command
  pub users_none : (space : Name) (group : Group) → IsUsers inst.service space group → (by : By) → IsSome (inst.asks by) → Among by group.authors → ⊥
  users_none space group users by some i = never by some (authors_ask inst.service space group users by i)

  module _ (space : Name) (number : ℕ) (authors : List (Option By)) (groups : List Group) (legal : IsLegalLanding inst.service log space number authors groups) where
    -- a job command that no transaction of an advance is for
    pub landing_aside : (by : By) → IsSome (inst.asks by) → (IsAdvance inst.service log space number authors groups → (group : Group) → Among group groups → Among by group.authors → ⊥)
        → IsAside by (Served (service.Happened (event.Landed space number authors groups)))
    landing_aside by some none = record {
      issues = refl;
      replies = refl;
      decides = or_from (list_any (is_author by) authors) false (false_from_ne_true _ named_none) refl;
      groups = λ group here named. in_none group (among_from groups group here) (among_from group.authors by named);
    }
      where
        alone_none : {a : KvsAsk} (b : By) → authors ≡ Some b ∷ [] → Asks inst.service space b a → list_any (is_author by) authors ≡ true → ⊥
        alone_none {a} b alone asked t = never by some (asks_as inst.service space by b a (only_author by b (ap (list_any (is_author by)) (sym alone) ∙ t)) asked)

        named_none : list_any (is_author by) authors ≡ true → ⊥
        named_none t = elim legal.form [
          | inl o ↦ alone_none o.by o.alone o.asked t
          | inr rest ↦ elim rest [
            | inl r ↦ alone_none r.by r.alone r.asked t
            | inr a ↦
                let o = any_from (is_author by) authors t in
                let at = among_flat (λ (g : Group). names_of_group g.authors) groups o.0 (subst (Among o.0) a.named o.1) in
                none a at.0 at.1 (in_group by o.0 at.0.authors at.2 o.2)
          ]
        ]

        in_none : (group : Group) → Among group groups → Among by group.authors → ⊥
        in_none group here i = elim legal.form [
          | inl o ↦ absurd (subst (Among group) o.empty here)
          | inr rest ↦ elim rest [
            | inl r ↦ absurd (subst (Among group) r.empty here)
            | inr a ↦ none a group here i
          ]
        ]

    users_only : (group : Group) → IsUser group.txn.author → IsUsers inst.service space group ⊎ IsManagers inst.service space group → IsUsers inst.service space group
    users_only group user (inl u) = u
    users_only group user (inr m) = absurd (subst IsUser m.author user)

    landing_beside : Each (λ group. IsUser group.txn.author) groups → IsBeside inst (Served (service.Happened (event.Landed space number authors groups)))
    landing_beside users by some =
        landing_aside by some (λ a group here i.
        users_none space group
        (users_only group (each_at (λ g. IsUser g.txn.author) groups group users here) (each_at (λ g. IsUsers inst.service space g ⊎ IsManagers inst.service space g) groups group a.kinds here))
        by some i)

  denial_beside : (space : Name) (authors : List (Option By)) (group : Group) (refusal : Refusal) → IsLegalDenial inst.service log space authors group refusal
      → IsBeside inst (Served (service.Happened (event.Denied space authors group refusal)))
  denial_beside space authors group refusal legal by some = record {
    issues = refl;
    replies = refl;
    decides = false_from_ne_true _ none;
    groups = λ g here. absurd (among_from [] g here);
  }
    where
      none : list_any (is_author by) authors ≡ true → ⊥
      none t =
          let o = any_from (is_author by) authors t in
          users_none space group legal.users by some (in_group by o.0 group.authors (subst (Among o.0) legal.named o.1) o.2)

  pub event_beside : (e : KvsEvent) → LandsUsers e → IsLegalEvent inst.service log e → IsBeside inst (Served (service.Happened e))
  event_beside (event.Landed space number authors groups) users legal = landing_beside space number authors groups legal users
  event_beside (event.Denied space authors group refusal) users legal = denial_beside space authors group refusal legal
  event_beside (event.Heard broker space number) users legal = λ by some. record { issues = refl; replies = refl; decides = refl; groups = λ g here. absurd (among_from [] g here) }
  event_beside (event.Got broker reference) users legal = λ by some. record { issues = refl; replies = refl; decides = refl; groups = λ g here. absurd (among_from [] g here) }
  event_beside (event.Dropped broker reference) users legal = λ by some. record { issues = refl; replies = refl; decides = refl; groups = λ g here. absurd (among_from [] g here) }
  event_beside (event.Answered by number given) users legal = λ other some. record { issues = refl; replies = refl; decides = refl; groups = λ g here. absurd (among_from [] g here) }

  pub asked_beside : (by : By) (floors : Name → ℕ) → IsBeside inst (Served (service.Asked by floors))
  asked_beside by floors other some = record { issues = refl; replies = refl; decides = refl; groups = λ g here. absurd (among_from [] g here) }
