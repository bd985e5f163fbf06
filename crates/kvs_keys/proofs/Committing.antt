-- A commit joins the namespace of its name.
use Rattle.std.proofs.Common.{◌≡◌, ℕ, ◌<◌, ◌+◌, List, [], ◌∷◌, length, Bool, true, false, Some, inl, refl, sym, ap, subst, get_or, set, append-nil}
use Rattle.std.specs.List.{position}
use Rattle.kvs_txn.specs.declared.txn.By.{By}
use Rattle.kvs_txn.specs.declared.txn.Txn.{Txn}
use Rattle.fence_merge.specs.declared.member.Member.{Member}
use Rattle.fence_merge.specs.Groups.{group_of}
use Rattle.fence_merge.specs.Merging.{pushed}
use Rattle.kvs_rules.specs.declared.events.KvsAsk.TheVariants as ask
use Rattle.kvs_rules.specs.Log.{Log}
use Rattle.kvs_rules.specs.Namespaces.{Setting, Asks}
use Rattle.kvs_rules.specs.Landings.{IsUser, IsUsers}
use Rattle.kvs_requests.specs.declared.rows.Row.{Row}
use Rattle.kvs_requests.specs.declared.rows.Stage.TheVariants as stage
use Rattle.kvs_requests.specs.declared.rows.Work.TheVariants as work
use Rattle.kvs_keys.specs.Agrees.{Agrees, IsWaiting, SpaceAgrees}
use Rattle.kvs_requests.specs.Rows.{with_stage}
use Rattle.kvs_keys.specs.Sound.{IsSound}
use Rattle.kvs_requests.specs.Stages.{all_services, is_arrived_stage}
use Rattle.kvs_keys.specs.Value.{KeysValue}
use Rattle.kvs_space.specs.Sound.{ArePosted, IsSoundSpace}
use Rattle.kvs_space.specs.Space.{SpaceValue, is_named, queued}
use Rattle.kvs_space.proofs.Posting.{no-manager, posted-user, user-behind}
use Rattle.store_laws.specs.Posts.{posts_in}
use Rattle.kvs_keys.proofs.Carried.{waiting, each-join}
use Rattle.kvs_keys.proofs.Counting.{times, one_if, pushed-times}
use Rattle.kvs_keys.proofs.Moving.{found-there}
use Rattle.kvs_keys.proofs.Queueing.{waiting-posts}
use Rattle.kvs_keys.proofs.Taking.{joined-sound, joined-order, joined-fewer, joined-agrees, arrived-staged, asks-there, named-so, placed-ask, row-agrees}
use Rattle.kvs_keys.proofs.Turns.{asks-once, fence-not-commit, unrivalled-else}

-- the group of a commit
solo-txn : (txn : Txn) (by : By) → (group_of [] (record { actor = by.actor; command = by.command; txn = txn })).txn ≡ txn
solo-txn txn by = λ j. record { author = txn.author; ops = append-nil txn.ops j }

module _ {v : KeysValue} (s : IsSound v) (i : ℕ) (within : i < length v.rows) (row : Row) (read : row ≡ get_or v.rows i row) (k : ℕ) (found : Some k ≡ position (is_named row.namespace) v.spaces) (txn : Txn) (is : row.stage ≡ stage.Arrived (ask.Commit txn))
    (old new : SpaceValue) (read-space : old ≡ get_or v.spaces k old)
    (now : new ≡ record { name = old.name; removed = old.removed; history = old.history; known = old.known; stores = old.stores; links = old.links; merger = pushed old.merger (record { actor = row.by.actor; command = row.by.command; txn = txn }) }) (live : old.removed ≡ false) where
  abbrev member : Member
  member = record { actor = row.by.actor; command = row.by.command; txn = txn }

  sound-old : IsSoundSpace v.fanout v.grant old
  sound-old = subst (IsSoundSpace v.fanout v.grant) (sym read-space) (s.spaces k old (found-there s row.namespace k found))

  user : IsUser txn.author
  user = placed-ask s i within row read (ask.Commit txn) is

  arrived : is_arrived_stage row.stage ≡ true
  arrived = ap is_arrived_stage is

  more : (x : By) → times x (waiting (queued (pushed old.merger member))) ≡ times x (waiting (queued old.merger)) + one_if x row.by
  more x = pushed-times x old.merger member

  posts : posts_in (pushed old.merger member).ready ≡ posts_in old.merger.ready
  posts = user-behind old.merger.ready (group_of [] member) (no-manager txn.author user)

  taken : ArePosted old.name (pushed old.merger member).ready (get_or old.stores 0 [])
  taken = posted-user old.name old.merger.ready (group_of [] member) (get_or old.stores 0 []) (no-manager txn.author user) sound-old.posts

  pub commit-sound : (rows : List Row) → rows ≡ set v.rows i (with_stage (stage.Joined k work.Commit) row) → (spent : Bool) → IsSound (record { spent = spent; size = v.size; fanout = v.fanout; grant = v.grant; spaces = set v.spaces k new; rows = rows })
  commit-sound = joined-sound s i within row read k found work.Commit arrived old new read-space (pushed old.merger member) now more sound-old.fences sound-old.members posts taken live tt

  pub commit-order : waiting-posts (set v.spaces k new) ≡ waiting-posts v.spaces
  commit-order = joined-order s i within row read k found work.Commit arrived old new read-space (pushed old.merger member) now more sound-old.fences sound-old.members posts taken live tt

  pub commit-fewer : (rows : List Row) → rows ≡ set v.rows i (with_stage (stage.Joined k work.Commit) row) → all_services rows < all_services v.rows
  commit-fewer = joined-fewer s i within row read k found work.Commit arrived old new read-space (pushed old.merger member) now more sound-old.fences sound-old.members posts taken live tt

  module _ {set₀ : Setting} {log : Log} (a : Agrees v set₀ log) where
    there : SpaceAgrees set₀ log v.size old
    there = subst (SpaceAgrees set₀ log v.size) (sym read-space) (a.spaces k old (found-there s row.namespace k found))

    users : IsUsers set₀ old.name (group_of [] member)
    users = (user, inl (record { by = row.by; alone = refl; asked = subst (λ t. Asks set₀ old.name row.by (ask.Commit t)) (sym (solo-txn txn row.by)) asks }))
      where
        asks : Asks set₀ old.name row.by (ask.Commit txn)
        asks = asks-there s i within row read a (ask.Commit txn) is old.name (named-so s i within row read k found old read-space)

    pub commit-agrees : (rows : List Row) → rows ≡ set v.rows i (with_stage (stage.Joined k work.Commit) row) → Agrees (record { spent = false; size = v.size; fanout = v.fanout; grant = v.grant; spaces = set v.spaces k new; rows = rows }) set₀ log
    commit-agrees =
        let staged = arrived-staged s i within row read a (ask.Commit txn) is in
        joined-agrees s i within row read k found work.Commit arrived old new read-space (pushed old.merger member) now more sound-old.fences sound-old.members posts taken live tt a staged.0 (txn, staged.1)
        (each-join (IsWaiting set₀ old.name) old.merger.ready (group_of [] member ∷ []) there.kinds (inl users, tt)) there.joining
        (λ settled. unrivalled-else set₀ log row.by (λ space fence count other h. fence-not-commit fence count other txn (asks-once set₀ row.by space (ask.Fence fence count other) (ask.Commit txn) (row-agrees s i within row read a).request h (row-agrees s i within row read a).made staged.1)))
