-- A member of a fence joins it in the namespace of its name.
use Rattle.std.proofs.Common.{◌≡◌, ◌∙◌, ℕ, ◌<◌, ◌+◌, ◌==◌, inl, inr, List, [], length, Bool, true, false, if◌then◌else◌, Some, None, option_map, refl, sym, ap, subst, get_or, set}
use Rattle.std.specs.Prelude.{IsTrue}
use Rattle.std.proofs.lemmas.Bool.{cases_eq}
use Rattle.std.specs.List.{position, AllByRecursion as Each}
use Rattle.kvs_txn.specs.declared.txn.By.{By}
use Rattle.kvs_txn.specs.declared.txn.Txn.{Txn}
use Rattle.fence_merge.specs.declared.member.Member.{Member}
use Rattle.fence_merge.specs.Fences.{AreFences, fence_of}
use Rattle.fence_merge.specs.Merging.{joined}
use Rattle.kvs_rules.specs.declared.events.KvsAsk.TheVariants as ask
use Rattle.kvs_rules.specs.Log.{Log}
use Rattle.kvs_rules.specs.Namespaces.{Setting}
use Rattle.kvs_rules.specs.Landings.{IsUnrivalled, IsUser}
use Rattle.kvs_model.specs.Store.{Name}
use Rattle.kvs_requests.specs.Agreement.{RowAgrees}
use Rattle.kvs_space.proofs.Finding.{eq-is}
use Rattle.kvs_requests.specs.declared.rows.Row.{Row}
use Rattle.kvs_requests.specs.declared.rows.Stage.TheVariants as stage
use Rattle.kvs_requests.specs.declared.rows.Work.TheVariants as work
use Rattle.kvs_keys.specs.Agrees.{Agrees, SpaceAgrees}
use Rattle.kvs_requests.specs.Rows.{IsRisingAsk, with_stage}
use Rattle.kvs_keys.specs.Sound.{IsSound}
use Rattle.kvs_requests.specs.Stages.{all_services, is_arrived_stage, other_than}
use Rattle.kvs_keys.specs.Value.{KeysValue}
use Rattle.kvs_space.specs.Sound.{ArePosted, IsSoundSpace}
use Rattle.kvs_space.specs.Space.{SpaceValue, is_named, members_in, queued}
use Rattle.store_laws.specs.Posts.{posts_in}
use Rattle.kvs_keys.proofs.Carried.{waiting}
use Rattle.kvs_keys.proofs.Counting.{times, one_if, joined-times}
use Rattle.kvs_keys.proofs.Moving.{found-there}
use Rattle.kvs_keys.proofs.Queueing.{waiting-posts}
use Rattle.kvs_keys.proofs.Joining.{joined-users, joined-posts, joined-taken, joined-joining, joined-kinds, whole-user}
use Rattle.kvs_keys.proofs.Taking.{joined-sound, joined-order, joined-fewer, joined-agrees, arrived-staged, asks-there, named-so, placed-ask, row-agrees}
use Rattle.kvs_keys.specs.Turns.{HasFence, is_coming_stage}
use Rattle.kvs_keys.proofs.Delivering.{other-names}
use Rattle.kvs_keys.proofs.Turns.{asks-once, comes-last, some-same, waited-other}

module _ {v : KeysValue} (s : IsSound v) (i : ℕ) (within : i < length v.rows) (row : Row) (read : row ≡ get_or v.rows i row) (k : ℕ) (found : Some k ≡ position (is_named row.namespace) v.spaces) (name : List ℕ) (count : ℕ) (txn : Txn)
    (is : row.stage ≡ stage.Arrived (ask.Fence name count txn)) (old new : SpaceValue) (read-space : old ≡ get_or v.spaces k old)
    (now : new ≡ record { name = old.name; removed = old.removed; history = old.history; known = old.known; stores = old.stores; links = old.links; merger = joined old.merger name count (record { actor = row.by.actor; command = row.by.command; txn = txn }) })
    (fences : AreFences new.merger.fences) (live : old.removed ≡ false) where
  abbrev member : Member
  member = record { actor = row.by.actor; command = row.by.command; txn = txn }

  sound-old : IsSoundSpace v.fanout v.grant old
  sound-old = subst (IsSoundSpace v.fanout v.grant) (sym read-space) (s.spaces k old (found-there s row.namespace k found))

  risen : IsRisingAsk (ask.Fence name count txn)
  risen = placed-ask s i within row read (ask.Fence name count txn) is

  arrived : is_arrived_stage row.stage ≡ true
  arrived = ap is_arrived_stage is

  more : (x : By) → times x (waiting (queued (joined old.merger name count member))) ≡ times x (waiting (queued old.merger)) + one_if x row.by
  more x = joined-times x name old.merger count member

  fences-now : AreFences (joined old.merger name count member).fences
  fences-now = subst (λ x. AreFences x.merger.fences) now fences

  members : Each (λ m. IsUser m.txn.author) (members_in (joined old.merger name count member).fences)
  members = joined-users name old.merger count member risen.0 sound-old.members

  posts : posts_in (joined old.merger name count member).ready ≡ posts_in old.merger.ready
  posts = joined-posts name old.merger count member risen.0 sound-old.members

  taken : ArePosted old.name (joined old.merger name count member).ready (get_or old.stores 0 [])
  taken = joined-taken name old.merger count member risen.0 sound-old.members old.name (get_or old.stores 0 []) sound-old.posts

  pub fence-sound : (rows : List Row) → rows ≡ set v.rows i (with_stage (stage.Joined k work.Fence) row) → (spent : Bool) → IsSound (record { spent = spent; size = v.size; fanout = v.fanout; grant = v.grant; spaces = set v.spaces k new; rows = rows })
  fence-sound = joined-sound s i within row read k found work.Fence arrived old new read-space (joined old.merger name count member) now more fences-now members posts taken live tt

  pub fence-order : waiting-posts (set v.spaces k new) ≡ waiting-posts v.spaces
  fence-order = joined-order s i within row read k found work.Fence arrived old new read-space (joined old.merger name count member) now more fences-now members posts taken live tt

  pub fence-fewer : (rows : List Row) → rows ≡ set v.rows i (with_stage (stage.Joined k work.Fence) row) → all_services rows < all_services v.rows
  fence-fewer = joined-fewer s i within row read k found work.Fence arrived old new read-space (joined old.merger name count member) now more fences-now members posts taken live tt

  module _ (same : other_than (option_map (λ f. f.count) (fence_of name old.merger.fences)) count ≡ None) {set₀ : Setting} {log : Log} (a : Agrees v set₀ log) where
    there : SpaceAgrees set₀ log v.size old
    there = subst (SpaceAgrees set₀ log v.size) (sym read-space) (a.spaces k old (found-there s row.namespace k found))

    pub fence-agrees : (rows : List Row) → rows ≡ set v.rows i (with_stage (stage.Joined k work.Fence) row) → Agrees (record { spent = false; size = v.size; fanout = v.fanout; grant = v.grant; spaces = set v.spaces k new; rows = rows }) set₀ log
    fence-agrees =
        let staged = arrived-staged s i within row read a (ask.Fence name count txn) is in
        let asks = asks-there s i within row read a (ask.Fence name count txn) is old.name (named-so s i within row read k found old read-space) in
        joined-agrees s i within row read k found work.Fence arrived old new read-space (joined old.merger name count member) now more fences-now members posts taken live tt a staged.0 (name, count, txn, staged.1)
        (joined-kinds name set₀ old.name old.merger count member asks there.joining same risen.1 (whole-user name old.merger count member risen.0 sound-old.members) there.kinds)
        (joined-joining name set₀ old.name old.merger count member asks there.joining same)
        unrivalled
      where
        r : RowAgrees a.entered set₀ log v.spaces row
        r = row-agrees s i within row read a

        inside : k < length v.spaces
        inside = found-there s row.namespace k found

        kept-is : (other : ℕ) → other_than (Some other) count ≡ None → other ≡ count
        kept-is other e = at (other == count) refl e
          where
            at : (b : Bool) → (other == count) ≡ b → (if b then None else Some other) ≡ None → other ≡ count
            at true t q = eq-is other count t
            at false t q = cc

        -- the fence of an earlier member is open, and has the count of this one
        unrivalled : IsTrue set₀.settled → (space : Name) → IsUnrivalled set₀ log space row.by
        unrivalled settled space earlier fence₀ count₀ other here beside before =
            let request₀ = here.1.1.request in
            let one : request₀ ≡ r.request = some-same request₀ r.request (sym here.1.1.made ∙ r.made) in
            let asked : ask.Fence fence₀ count₀ here.1.0 ≡ ask.Fence name count txn = asks-once set₀ row.by space (ask.Fence fence₀ count₀ here.1.0) (ask.Fence name count txn) r.request here.1.1 r.made (arrived-staged s i within row read a (ask.Fence name count txn) is).1 in
            let fences : fence₀ ≡ name = cc in
            let counts : count₀ ≡ count = cc in
            let spaces : space ≡ old.name = sym here.1.1.inside ∙ ap (λ q. q.namespace) one ∙ r.inside ∙ named-so s i within row read k found old read-space in
            let met = (comes-last (a.turns settled) a.apart i within row read (ap is_coming_stage is)).met earlier space fence₀ other (waited-other row.by earlier log before) beside in
            let open_one : HasFence v.spaces space fence₀ other = met.1 in
            let place : open_one.place ≡ k = one-place open_one.place open_one.within (open_one.named old ∙ spaces ∙ ap (λ x. x.name) read-space) in
            let kept : option_map (λ f. f.count) (fence_of name old.merger.fences) ≡ Some other =
            ap (λ n. option_map (λ f. f.count) (fence_of n old.merger.fences)) (sym fences) ∙ ap (λ x. option_map (λ f. f.count) (fence_of fence₀ x.merger.fences)) (read-space ∙ ap (λ j. get_or v.spaces j old) (sym place)) ∙ open_one.kept old in
            kept-is other (ap (λ o. other_than o count) (sym kept) ∙ same) ∙ sym counts
          where
            one-place : (j : ℕ) → j < length v.spaces → (get_or v.spaces j old).name ≡ (get_or v.spaces k old).name → j ≡ k
            one-place j l e = elim (cases_eq j k) [
              | inl q ↦ q
              | inr ne ↦ absurd (other-names v.spaces s.apart k inside j old l ne e)
            ]
