-- A member of a fence comes.
use Rattle.std.proofs.Common.{◌≡◌, ◌≢◌, Contains, ℕ, suc, ◌+◌, ◌<◌, ◌==◌, List, [], ◌∷◌, ◌++◌, length, Bool, true, false, cond, if◌then◌else◌, Option, Some, None, inl, inr, map, option_map, refl, sym, ap, ◌∙◌, subst, arith, bytes_eq, length-append, true≢false}
use Rattle.std.specs.List.{list_any, AllByRecursion as Each}
use Rattle.std.proofs.lemmas.List.Folds.{list_any-append, list_any_at}
use Rattle.std.specs.Option.{option_map_or}
use Rattle.std.specs.Map.{remove_entry}
use Rattle.std.specs.Cmp.Lexicographic.{bytes_decides}
use Rattle.indexmap.specs.IndexMap.{insert_entry}
use Rattle.kvs_txn.specs.declared.txn.By.{By}
use Rattle.kvs_model.specs.Store.{Name, Store}
use Rattle.fence_merge.specs.declared.member.Member.{Member}
use Rattle.fence_merge.specs.Groups.{author_of, authors_of, ops_of, group_of}
use Rattle.fence_merge.specs.Fences.{AreOpen, Fence, Fences, fence_of, members_of}
use Rattle.fence_merge.specs.Merging.{MergerValue, completes, joined}
use Rattle.kvs_rules.specs.declared.events.KvsAsk.TheVariants as ask
use Rattle.kvs_rules.specs.declared.events.KvsAnswer.{KvsAnswer}
use Rattle.kvs_rules.specs.declared.events.KvsEvent.TheVariants as event
use Rattle.kvs_rules.specs.Log.{Log, Happened, answers_now, is_answered, same_command}
use Rattle.kvs_rules.specs.Namespaces.{Setting, Asks}
use Rattle.kvs_rules.specs.Landings.{AreMembers, IsOfFirst, IsUser}
use Rattle.store_laws.specs.Posts.{posts_in}
use Rattle.kvs_space.specs.Space.{is_authored, members_in, queued}
use Rattle.kvs_space.specs.Sound.{ArePosted}
use Rattle.kvs_space.proofs.Posting.{no-manager, posted-user, user-behind}
use Rattle.kvs_space.proofs.Finding.{eq-is, eq-true}
use Rattle.kvs_keys.specs.Agrees.{AreJoining, IsWaiting}
use Rattle.kvs_requests.specs.Stages.{other_than}
use Rattle.kvs_keys.proofs.Carried.{bringer, each-join, each-left, each-right, map-append, or-one, or-other}
use Rattle.kvs_keys.proofs.Counting.{come}
use Rattle.kvs_requests.proofs.Tables.{same-self}

pub long-authors : (ms : List Member) → length (authors_of ms) ≡ length ms
long-authors [] = refl
long-authors (x ∷ xs) = ap suc (long-authors xs)

-- each member's transaction is a user's
abbrev pub AreUsers : List Member → Type 0
AreUsers ms = Each (λ m. IsUser m.txn.author) ms

module _ (name : List ℕ) where
  users-of : (fs : Fences) → AreUsers (members_in fs) → AreUsers (members_of name fs)
  users-of [] h = tt
  users-of (e ∷ fs) h = by (bytes_eq name e.0) (users-of fs (each-right (λ m. IsUser m.txn.author) e.1.members (members_in fs) h))
    where
      by : (b : Bool) → AreUsers (members_of name fs) → AreUsers (option_map_or (λ g. g.members) (cond b (Some e.1) (fence_of name fs)) [])
      by true rest = each-left (λ m. IsUser m.txn.author) e.1.members (members_in fs) h
      by false rest = rest

  inserted-users : (f : Fence) (fs : Fences) → AreUsers f.members → AreUsers (members_in fs) → AreUsers (members_in (insert_entry bytes_eq fs name f))
  inserted-users f [] g h = each-join (λ m. IsUser m.txn.author) f.members [] g tt
  inserted-users f (e ∷ fs) g h = by (bytes_eq name e.0) (inserted-users f fs g (each-right (λ m. IsUser m.txn.author) e.1.members (members_in fs) h))
    where
      by : (b : Bool) → AreUsers (members_in (insert_entry bytes_eq fs name f)) → AreUsers (members_in (cond b ((e.0, f) ∷ fs) (e ∷ insert_entry bytes_eq fs name f)))
      by true rest = each-join (λ m. IsUser m.txn.author) f.members (members_in fs) g (each-right (λ m. IsUser m.txn.author) e.1.members (members_in fs) h)
      by false rest = each-join (λ m. IsUser m.txn.author) e.1.members (members_in (insert_entry bytes_eq fs name f)) (each-left (λ m. IsUser m.txn.author) e.1.members (members_in fs) h) rest

  removed-users : (fs : Fences) → AreUsers (members_in fs) → AreUsers (members_in (remove_entry (bytes_eq name) fs))
  removed-users [] h = tt
  removed-users (e ∷ fs) h = by (bytes_eq name e.0) (removed-users fs (each-right (λ m. IsUser m.txn.author) e.1.members (members_in fs) h))
    where
      by : (b : Bool) → AreUsers (members_in (remove_entry (bytes_eq name) fs)) → AreUsers (members_in (cond b fs (e ∷ remove_entry (bytes_eq name) fs)))
      by true rest = each-right (λ m. IsUser m.txn.author) e.1.members (members_in fs) h
      by false rest = each-join (λ m. IsUser m.txn.author) e.1.members (members_in (remove_entry (bytes_eq name) fs)) (each-left (λ m. IsUser m.txn.author) e.1.members (members_in fs) h) rest

  module _ (old : MergerValue) (count : ℕ) (m : Member) (user : IsUser m.txn.author) (users : AreUsers (members_in old.fences)) where
    pub joined-users : AreUsers (members_in (joined old name count m).fences)
    joined-users = by (completes old.fences name count)
      where
        by : (b : Bool) → AreUsers (members_in (come name old count m b).fences)
        by true = removed-users old.fences users
        by false = inserted-users (record { count = count; members = members_of name old.fences ++ m ∷ [] }) old.fences (each-join (λ x. IsUser x.txn.author) (members_of name old.fences) (m ∷ []) (users-of old.fences users) (user, tt)) users

    author-user : (ms : List Member) → AreUsers ms → IsUser (author_of ms m)
    author-user [] h = user
    author-user (x ∷ xs) h = h.0

    pub whole-user : IsUser (group_of (members_of name old.fences) m).txn.author
    whole-user = author-user (members_of name old.fences) (users-of old.fences users)

    pub joined-posts : posts_in (joined old name count m).ready ≡ posts_in old.ready
    joined-posts = by (completes old.fences name count)
      where
        by : (b : Bool) → posts_in (come name old count m b).ready ≡ posts_in old.ready
        by true = user-behind old.ready (group_of (members_of name old.fences) m) (no-manager _ whole-user)
        by false = refl

    pub joined-taken : (space : Name) (st : Store) → ArePosted space old.ready st → ArePosted space (joined old name count m).ready st
    joined-taken space st h = by (completes old.fences name count)
      where
        by : (b : Bool) → ArePosted space (come name old count m b).ready st
        by true = posted-user space old.ready (group_of (members_of name old.fences) m) st (no-manager _ whole-user) h
        by false = h

  module _ (set₀ : Setting) (space : Name) where
    -- each of these asks to join the fence
    abbrev pub AllAsk : ℕ → List Member → Type 0
    AllAsk count ms = Each (λ x. Asks set₀ space (bringer x) (ask.Fence name count x.txn)) ms

    pub found-asks : (fs : Fences) → Each (AreJoining set₀ space) fs → (f : Fence) → fence_of name fs ≡ Some f → AllAsk f.count f.members
    found-asks [] h f e = cc
    found-asks (x ∷ fs) h f e = by (bytes_eq name x.0) refl (found-asks fs h.1 f) e
      where
        by : (b : Bool) → bytes_eq name x.0 ≡ b → (fence_of name fs ≡ Some f → AllAsk f.count f.members) → cond b (Some x.1) (fence_of name fs) ≡ Some f → AllAsk f.count f.members
        by true t rest g =
            let same : x.1 ≡ f = cc in
            subst (λ y. AllAsk y.count y.members) same (subst (λ n. Each (λ y. Asks set₀ space (bringer y) (ask.Fence n x.1.count y.txn)) x.1.members) (sym ((bytes_decides name x.0).0 t)) h.0)
        by false t rest g = rest g

    members-ask : (fs : Fences) (count : ℕ) → Each (AreJoining set₀ space) fs → other_than (option_map (λ f. f.count) (fence_of name fs)) count ≡ None → AllAsk count (members_of name fs)
    members-ask fs count h same = at (fence_of name fs) refl same
      where
        equal : (kept : ℕ) (b : Bool) → (kept == count) ≡ b → (if b then None else Some kept) ≡ None → kept ≡ count
        equal kept true e q = eq-is kept count e
        equal kept false e q = cc

        at : (o : Option Fence) → fence_of name fs ≡ o → other_than (option_map (λ f. f.count) o) count ≡ None → AllAsk count (option_map_or (λ g. g.members) o [])
        at None e q = tt
        at (Some f) e q = subst (λ n. AllAsk n f.members) (equal f.count (f.count == count) refl q) (found-asks fs h f e)

    inserted-asks : (f : Fence) (fs : Fences) → AllAsk f.count f.members → Each (AreJoining set₀ space) fs → Each (AreJoining set₀ space) (insert_entry bytes_eq fs name f)
    inserted-asks f [] g h = (g, tt)
    inserted-asks f (e ∷ fs) g h = by (bytes_eq name e.0) refl (inserted-asks f fs g h.1)
      where
        by : (b : Bool) → bytes_eq name e.0 ≡ b → Each (AreJoining set₀ space) (insert_entry bytes_eq fs name f) → Each (AreJoining set₀ space) (cond b ((e.0, f) ∷ fs) (e ∷ insert_entry bytes_eq fs name f))
        by true t rest = (subst (λ n. Each (λ y. Asks set₀ space (bringer y) (ask.Fence n f.count y.txn)) f.members) ((bytes_decides name e.0).0 t) g, h.1)
        by false t rest = (h.0, rest)

    removed-asks : (fs : Fences) → Each (AreJoining set₀ space) fs → Each (AreJoining set₀ space) (remove_entry (bytes_eq name) fs)
    removed-asks [] h = tt
    removed-asks (e ∷ fs) h = by (bytes_eq name e.0) (removed-asks fs h.1)
      where
        by : (b : Bool) → Each (AreJoining set₀ space) (remove_entry (bytes_eq name) fs) → Each (AreJoining set₀ space) (cond b fs (e ∷ remove_entry (bytes_eq name) fs))
        by true rest = h.1
        by false rest = (h.0, rest)

    are-members : (count : ℕ) (ms : List Member) → AllAsk count ms → AreMembers set₀ space name count (authors_of ms) (ops_of ms)
    are-members count [] h = refl
    are-members count (x ∷ xs) h = (x.txn, ops_of xs, h.0, refl, are-members count xs h.1)

    is-of-first : (count : ℕ) (ms : List Member) (m : Member) → AllAsk count (ms ++ m ∷ []) → IsOfFirst set₀ space name count (authors_of (ms ++ m ∷ [])) (author_of ms m)
    is-of-first count [] m h = (m.txn, h.0, refl)
    is-of-first count (x ∷ xs) m h = (x.txn, h.0, refl)

    module _ (old : MergerValue) (count : ℕ) (m : Member) (asks : Asks set₀ space (bringer m) (ask.Fence name count m.txn)) (joining : Each (AreJoining set₀ space) old.fences)
        (same : other_than (option_map (λ f. f.count) (fence_of name old.fences)) count ≡ None) where
      all-ask : AllAsk count (members_of name old.fences ++ m ∷ [])
      all-ask = each-join (λ x. Asks set₀ space (bringer x) (ask.Fence name count x.txn)) (members_of name old.fences) (m ∷ []) (members-ask old.fences count joining same) (asks, tt)

      pub joined-joining : Each (AreJoining set₀ space) (joined old name count m).fences
      joined-joining = by (completes old.fences name count)
        where
          by : (b : Bool) → Each (AreJoining set₀ space) (come name old count m b).fences
          by true = removed-asks old.fences joining
          by false = inserted-asks (record { count = count; members = members_of name old.fences ++ m ∷ [] }) old.fences all-ask joining

      pub joined-kinds : 0 < count → IsUser (group_of (members_of name old.fences) m).txn.author → Each (IsWaiting set₀ space) old.ready → Each (IsWaiting set₀ space) (joined old name count m).ready
      joined-kinds some user kinds = by (completes old.fences name count) refl
        where
          by : (b : Bool) → completes old.fences name count ≡ b → Each (IsWaiting set₀ space) (come name old count m b).ready
          by true e = each-join (IsWaiting set₀ space) old.ready (group_of (members_of name old.fences) m ∷ []) kinds (
            inl (
              user,
              inr (record {
                name = name;
                count = count;
                some = some;
                whole = long-authors (members_of name old.fences ++ m ∷ []) ∙ length-append (members_of name old.fences) (m ∷ []) ∙ eq-is (length (members_of name old.fences) + 1) count e;
                members = are-members count (members_of name old.fences ++ m ∷ []) all-ask;
                author = is-of-first count (members_of name old.fences) m all-ask;
              }),
            ),
            tt,
          )
          by false e = kinds

-- where no other count is kept, it is this one
pub same-count : (o : Option Fence) (count : ℕ) → other_than (option_map (λ f. f.count) o) count ≡ None → option_map_or (λ f. f.count) o count ≡ count
same-count None count e = refl
same-count (Some f) count e = at (f.count == count) refl e
  where
    at : (b : Bool) → (f.count == count) ≡ b → (if b then None else Some f.count) ≡ None → f.count ≡ count
    at true t q = eq-is f.count count t
    at false t q = cc

-- a member of an open fence of the name, which has another count
pub record HasRival (set₀ : Setting) (space name : Name) (kept count : ℕ) (fs : Fences) : Type 0 where
  pub member : Member
  pub inside : list_any (is_authored (bringer member)) (map (group_of []) (members_in fs)) ≡ true
  pub asks : Asks set₀ space (bringer member) (ask.Fence name kept member.txn)
  pub differs : kept ≢ count

-- a member of an open fence of the name
pub record HasMember (set₀ : Setting) (space name : Name) (count : ℕ) (fs : Fences) : Type 0 where
  pub member : Member
  pub inside : list_any (is_authored (bringer member)) (map (group_of []) (members_in fs)) ≡ true
  pub asks : Asks set₀ space (bringer member) (ask.Fence name count member.txn)

has-member : (set₀ : Setting) (space name : Name) (fs : Fences) → AreOpen fs → Each (AreJoining set₀ space) fs → (f : Fence) → fence_of name fs ≡ Some f → HasMember set₀ space name f.count fs
has-member set₀ space name [] open_each h f e = cc
has-member set₀ space name (x ∷ fs) open_each h f e = by (bytes_eq name x.0) refl (has-member set₀ space name fs open_each.1 h.1 f) e
  where
    first : (ms : List Member) → 0 < length ms → Each (λ y. Asks set₀ space (bringer y) (ask.Fence x.0 x.1.count y.txn)) ms → name ≡ x.0 → (y : Member) × (list_any (is_authored (bringer y)) (map (group_of []) (ms ++ members_in fs)) ≡ true) × Asks set₀ space (bringer y) (ask.Fence name x.1.count y.txn)
    first [] l q n = absurd (omega arith)
    first (y ∷ ys) l q n = (
      y,
      or-one (is_authored (bringer y) (group_of [] y)) _ (or-one (same_command (bringer y) (bringer y)) false (same-self (bringer y))),
      subst (λ z. Asks set₀ space (bringer y) (ask.Fence z x.1.count y.txn)) (sym n) q.0,
    )

    by : (b : Bool) → bytes_eq name x.0 ≡ b → (fence_of name fs ≡ Some f → HasMember set₀ space name f.count fs) → cond b (Some x.1) (fence_of name fs) ≡ Some f → HasMember set₀ space name f.count (x ∷ fs)
    by true t rest g =
        let same : x.1 ≡ f = cc in
        let got = first x.1.members open_each.0.0 h.0 ((bytes_decides name x.0).0 t) in
        record { member = got.0; inside = got.1; asks = subst (λ y. Asks set₀ space (bringer got.0) (ask.Fence name y.count got.0.txn)) same got.2 }
    by false t rest g =
        let got = rest g in
        record {
          member = got.member;
          inside = ap (list_any (is_authored (bringer got.member))) (map-append (group_of []) x.1.members (members_in fs))
              ∙ list_any-append (is_authored (bringer got.member)) (map (group_of []) x.1.members) (map (group_of []) (members_in fs)) ∙ or-other (list_any (is_authored (bringer got.member)) (map (group_of []) x.1.members)) _ got.inside;
          asks = got.asks;
        }

pub has-rival : (set₀ : Setting) (space name : Name) (fs : Fences) (count kept : ℕ) → AreOpen fs → Each (AreJoining set₀ space) fs → Some kept ≡ other_than (option_map (λ f. f.count) (fence_of name fs)) count → HasRival set₀ space name kept count fs
has-rival set₀ space name fs count kept open_each h e = at (fence_of name fs) refl e
  where
    other : (n : ℕ) (b : Bool) → (n == count) ≡ b → Some kept ≡ (if b then None else Some n) → (n ≡ kept) × (kept ≢ count)
    other n true t q = cc
    other n false t q =
        let same : n ≡ kept = cc in
        (same, λ z. true≢false (sym (eq-true n count (same ∙ z)) ∙ t))

    at : (o : Option Fence) → fence_of name fs ≡ o → Some kept ≡ other_than (option_map (λ f. f.count) o) count → HasRival set₀ space name kept count fs
    at None t q = cc
    at (Some f) t q =
        let got = has-member set₀ space name fs open_each h f t in
        let o = other f.count (f.count == count) refl q in
        record { member = got.member; inside = got.inside; asks = subst (λ n. Asks set₀ space (bringer got.member) (ask.Fence name n got.member.txn)) o.0 got.asks; differs = o.1 }

pub carried-member : (m : MergerValue) (x : Member) → list_any (is_authored (bringer x)) (map (group_of []) (members_in m.fences)) ≡ true → list_any (is_authored (bringer x)) (queued m) ≡ true
carried-member m x h = list_any-append (is_authored (bringer x)) m.ready (map (group_of []) (members_in m.fences)) ∙ or-other (list_any (is_authored (bringer x)) m.ready) _ h

pub unanswered-not : (log : Log) (by : By) (number : Option ℕ) (given : KvsAnswer) → is_answered by log ≡ false → Contains log (Happened (event.Answered by number given)) → ⊥
unanswered-not log by number given e c = true≢false (sym (list_any_at (answers_now by) log c.0 (Happened (event.Answered by number given)) c.1 (ap (answers_now by) c.2 ∙ same-self by)) ∙ e)
