-- The job manager's transaction comes.
use Rattle.std.proofs.Common.{◌≡◌, ◌<◌, ◌≤◌, inl, inr, List, [], ◌∷◌, ◌++◌, length, Bool, true, false, Option, Some, None, option_map, IsSome, refl, sym, ap, ◌∙◌, subst, arith, get_or, set, true≢false}
use Rattle.std.specs.Prelude.{slice_index, slice_get, nat_lt}
use Rattle.std.specs.List.{list_any, AllByRecursion as Each}
use Rattle.std.specs.Option.{option_map_or}
use Rattle.std.specs.Cmp.Lexicographic.{bytes_decides}
use Rattle.std.proofs.Math.Bool.{or-false}
use Rattle.std.proofs.lemmas.List.{length-set, get_or-set_same}
use Rattle.std.proofs.lemmas.Option.{slice_get-get_or}
use Rattle.kvs_txn.specs.declared.txn.By.{By}
use Rattle.kvs_txn.specs.declared.txn.Txn.{Txn}
use Rattle.kvs_txn.specs.declared.txn.Group.{Group}
use Rattle.kvs_txn.specs.declared.txn.Scope.TheVariants as scope
use Rattle.kvs_model.specs.History.{after_groups}
use Rattle.kvs_rules.specs.Log.{Log, same_command}
use Rattle.kvs_rules.specs.Namespaces.{Setting, newest_store, primary, is_primary}
use Rattle.kvs_rules.specs.declared.events.KvsStep.TheVariants as kvs
use Rattle.kvs_keys.specs.Steps.{IsStill}
use Rattle.kvs_rules.specs.Landings.{AreFresh}
use Rattle.kvs_rules.proofs.Asking.{command_is}
use Rattle.store_laws.specs.Posts.{AreTaken, IsPost, posts_in}
use Rattle.kvs_requests.specs.declared.rows.Row.{Row}
use Rattle.kvs_keys.specs.Posted.{CanPost, IsNewPost, newest_of, post_of, posted}
use Rattle.kvs_space.specs.Sound.{ArePosted, IsSoundSpace}
use Rattle.kvs_keys.specs.Sound.{IsSound}
use Rattle.kvs_space.specs.Space.{SpaceValue, carries, queued, is_authored, is_ready}
use Rattle.kvs_keys.specs.Value.{KeysValue}
use Rattle.kvs_keys.specs.Agrees.{Agrees, IsWaiting, SpaceAgrees}
use Rattle.kvs_requests.specs.Agreement.{RowAgrees, RowsAgree}
use Rattle.kvs_keys.proofs.Carried.{queue-differs, waiting, each-join, untrue}
use Rattle.kvs_keys.proofs.Counting.{times, times-cons, posted-times, fresh-same, fresh-more, uncarried-times, unauthored-times, carried-same}
use Rattle.kvs_space.proofs.Finding.{lt-true, set-all, set-kept}
use Rattle.kvs_keys.proofs.Heads.{IsHead, head-of, agrees-of}
use Rattle.kvs_keys.proofs.Turns.{fence-stays, turns-moved}
use Rattle.kvs_keys.proofs.Landing.{newest-primary, primary-live, primary-there}
use Rattle.kvs_space.proofs.Posting.{managers-is, post-behind}
use Rattle.kvs_keys.proofs.Respacing.{read-at, names-same, name-at, rows-placed, kept-room, respaced-sound}
use Rattle.kvs_requests.proofs.Tables.{row-respaced}

module _ {v : KeysValue} (s : IsSound v) (command : Option By) (txn : Txn) (can : CanPost v command txn) (old new : SpaceValue) (read : old ≡ get_or v.spaces 0 old)
    (now : new ≡ record { name = old.name; removed = old.removed; history = old.history; known = old.known; stores = old.stores; links = old.links; merger = record { fences = old.merger.fences; ready = old.merger.ready ++ post_of command txn ∷ [] } }) where
  within : 0 < length v.spaces
  within = primary-there v.spaces s.first

  there-is : slice_get v.spaces 0 ≡ Some old
  there-is = slice_get-get_or v.spaces 0 old within ∙ ap Some (sym read)

  name-is : old.name ≡ primary
  name-is = let n : Some old.name ≡ Some primary = sym (ap (option_map (λ x. x.name)) there-is) ∙ s.first in cc

  in-primary : is_primary old.name ≡ true
  in-primary = (bytes_decides old.name primary).1 name-is

  name-same : new.name ≡ old.name
  name-same = ap (λ x. x.name) now

  sound-old : IsSoundSpace v.fanout v.grant old
  sound-old = subst (IsSoundSpace v.fanout v.grant) (sym read) (s.spaces 0 old within)

  posts-now : posts_in (old.merger.ready ++ post_of command txn ∷ []) ≡ posts_in old.merger.ready ++ post_of command txn ∷ []
  posts-now = post-behind old.merger.ready (post_of command txn) (managers-is (post_of command txn).txn.author can.post.manager)

  were-taken : AreTaken (posts_in old.merger.ready) (get_or old.stores 0 [])
  were-taken = by sound-old.posts
    where
      by : ArePosted old.name old.merger.ready (get_or old.stores 0 []) → AreTaken (posts_in old.merger.ready) (get_or old.stores 0 [])
      by (inl h) = h.1
      by (inr h) = absurd (true≢false (sym in-primary ∙ h.0))

  made-now : IsSome (after_groups scope.Primary (posts_in old.merger.ready ++ post_of command txn ∷ []) (get_or old.stores 0 []))
  made-now =
      subst (λ o. IsSome (after_groups scope.Primary (option_map_or (λ x. posts_in x.merger.ready) o [] ++ post_of command txn ∷ []) (option_map_or (λ x. get_or x.stores 0 []) o []))) there-is can.made

  are-taken : AreTaken (posts_in (old.merger.ready ++ post_of command txn ∷ [])) (get_or old.stores 0 [])
  are-taken = subst (λ xs. AreTaken xs (get_or old.stores 0 [])) (sym posts-now)
      (record { plain = were-taken.plain; each = each-join IsPost (posts_in old.merger.ready) (post_of command txn ∷ []) were-taken.each (can.post, tt); made = made-now })

  sound-new : IsSoundSpace v.fanout v.grant new
  sound-new = subst (IsSoundSpace v.fanout v.grant) (sym now)
      (record { some = sound-old.some; announced = sound-old.announced; newest = sound-old.newest; replicas = sound-old.replicas; living = inl (primary-live old sound-old.living in-primary); fences = sound-old.fences; members = sound-old.members; posts = inl (in-primary, are-taken) })

  same-known : slice_index old.known 0 ≤ slice_index new.known 0
  same-known = let e : slice_index new.known 0 ≡ slice_index old.known 0 = ap (λ x. slice_index x.known 0) now in omega arith

  pub post-sound : (spent : Bool) → IsSound (record { spent = spent; size = v.size; fanout = v.fanout; grant = v.grant; spaces = set v.spaces 0 new; rows = v.rows })
  post-sound spent =
      respaced-sound s 0 within old new read name-same (kept-room s 0 within old new read name-same (ap (λ x. x.removed) now)) (ap (λ x. length x.known) now ∙ ap (λ x. length x.known) read ∙ s.brokers 0 old within) sound-new v.rows
      (rows-placed v.spaces 0 within old new read name-same same-known v.fanout v.size v.rows s.placed) spent

  pub post-stands : (spent : Bool) → posted (record { spent = spent; size = v.size; fanout = v.fanout; grant = v.grant; spaces = set v.spaces 0 new; rows = v.rows }) ≡ posted v ++ post_of command txn ∷ []
  post-stands spent =
      let here : slice_get (set v.spaces 0 new) 0 ≡ Some new = slice_get-get_or (set v.spaces 0 new) 0 new (subst (λ n. 0 < n) (sym (length-set v.spaces 0 new)) within) ∙ ap Some (get_or-set_same v.spaces 0 new new within) in
      ap (λ o. option_map_or (λ x. posts_in x.merger.ready) o []) here
      ∙ ap (λ x. posts_in x.merger.ready) now ∙ posts-now
      ∙ ap (λ xs. xs ++ post_of command txn ∷ []) (sym (ap (λ o. option_map_or (λ x. posts_in x.merger.ready) o []) there-is))

  module _ {set₀ : Setting} {log : Log} (a : Agrees v set₀ log) (fresh : IsNewPost v set₀ log command) where
    there : SpaceAgrees set₀ log v.size old
    there = subst (SpaceAgrees set₀ log v.size) (sym read) (a.spaces 0 old within)

    silent : (c : Option By) → IsNewPost v set₀ log c → Each (λ by. set₀.asks by ≡ None) (post_of c txn).authors
    silent None f = tt
    silent (Some by) f = (f.0, tt)

    fresh-now : (c : Option By) → IsNewPost v set₀ log c → AreFresh set₀ log (waiting (queued (record { fences = old.merger.fences; ready = old.merger.ready ++ post_of c txn ∷ [] })))
    fresh-now None f = fresh-same (waiting (queued old.merger)) (waiting (queued (record { fences = old.merger.fences; ready = old.merger.ready ++ post_of None txn ∷ [] }))) there.fresh (λ x.
        let p = posted-times x old.merger (post_of None txn) in
        let z : times x [] ≡ 0 = refl in
        omega arith)
    fresh-now (Some by) f = fresh-more (waiting (queued old.merger)) (waiting (queued (record { fences = old.merger.fences; ready = old.merger.ready ++ post_of (Some by) txn ∷ [] }))) by there.fresh f.1
        (uncarried-times by (queued old.merger) (queue-differs set₀ old.name by old.merger there.kinds there.joining f.0 (ap (list_any (is_authored by)) (sym (ap (λ o. option_map_or (λ x. posts_in x.merger.ready) o []) there-is)) ∙ f.2)))
        (λ x.
        let p = posted-times x old.merger (post_of (Some by) txn) in
        let c = times-cons x by [] in
        let z : times x [] ≡ 0 = refl in
        omega arith)

    author-of : (c : Option By) → (post_of c txn).txn.author ≡ txn.author
    author-of None = refl
    author-of (Some by) = refl

    space-now : SpaceAgrees set₀ log v.size new
    space-now = subst (SpaceAgrees set₀ log v.size) (sym now) (record {
      history = there.history;
      last = there.last;
      removed = there.removed;
      told = there.told;
      kinds = each-join (IsWaiting set₀ old.name) old.merger.ready (post_of command txn ∷ []) there.kinds (inr (record { inside = in-primary; author = can.post.manager; others = silent command fresh }), tt);
      joining = there.joining;
      fresh = fresh-now command fresh;
    })

    head-now : IsHead v.size v.fanout v.grant (set v.spaces 0 new) set₀ log
    head-now =
        let head = head-of a in
        record {
          size_is = head.size_is;
          fanout_is = head.fanout_is;
          base_is = head.base_is;
          links_are = head.links_are;
          owned = head.owned;
          names = names-same v.spaces 0 within old new read name-same ∙ head.names;
          each = set-all (SpaceAgrees set₀ log v.size) v.spaces 0 new space-now (λ j d l ne. head.each j d l);
          untold = head.untold;
        }

    unauthored : (c : Option By) → IsNewPost v set₀ log c → (row : Row) → RowAgrees a.entered set₀ log v.spaces row → is_authored row.by (post_of c txn) ≡ false
    unauthored None f row r = refl
    unauthored (Some by) f row r = or-false _ ∙ untrue (same_command row.by by) (λ t. asks-nothing (sym f.0 ∙ ap set₀.asks (sym (command_is row.by by t)) ∙ r.made))
      where
        asks-nothing : {A : Type 0} {x : A} → None ≡ Some x → ⊥
        asks-nothing e = cc

    carried : (row : Row) → RowAgrees a.entered set₀ log v.spaces row → carries new row.by ≡ carries old row.by
    carried row r =
        ap (λ x. carries x row.by) now
        ∙ carried-same (queued old.merger) (queued (record { fences = old.merger.fences; ready = old.merger.ready ++ post_of command txn ∷ [] })) row.by
        (let p = posted-times row.by old.merger (post_of command txn) in
        let z : times row.by (post_of command txn).authors ≡ 0 = unauthored-times row.by (post_of command txn).authors (unauthored command fresh row r) in
        omega arith)

    rows-now : RowsAgree a.entered set₀ log (set v.spaces 0 new) v.rows
    rows-now = record {
      rows = λ i d l. row-respaced (set v.spaces 0 new) (length-set v.spaces 0 new) (λ j. name-at v.spaces 0 within old new read name-same j) (get_or v.rows i d)
          (λ k e lk. set-kept (λ x. carries x (get_or v.rows i d).by) v.spaces 0 new (λ q. carried (get_or v.rows i d) (a.rows i d l) ∙ ap (λ x. carries x (get_or v.rows i d).by) (read-at v.spaces 0 within old new read name-same q)) k e lk)
          (a.rows i d l);
      apart = a.apart;
      strange = a.strange;
      outside = a.outside;
      open_rows = a.open_rows;
    }

    pub post-agrees : (spent : Bool) → Agrees (record { spent = spent; size = v.size; fanout = v.fanout; grant = v.grant; spaces = set v.spaces 0 new; rows = v.rows }) set₀ log
    post-agrees spent = agrees-of {v = record { spent = spent; size = v.size; fanout = v.fanout; grant = v.grant; spaces = set v.spaces 0 new; rows = v.rows }} head-now rows-now
        (λ settled. turns-moved (a.turns settled) (set v.spaces 0 new) v.rows (fence-stays v.spaces 0 within old new read name-same (ap (λ x. x.merger.fences) now)) (λ by c. c))

-- where nothing can land, nothing of the manager's waits
pub still-posted : (v : KeysValue) → IsStill v → posted v ≡ []
still-posted v still = at (slice_get v.spaces 0) (still.steps (kvs.Land 0))
  where
    none : (ready : List Group) → nat_lt 0 (length ready) ≡ false → posts_in ready ≡ []
    none [] e = refl
    none (g ∷ gs) e = absurd (true≢false (sym (lt-true 0 (length (g ∷ gs)) (omega arith)) ∙ e))

    at : (o : Option SpaceValue) → option_map_or is_ready o false ≡ false → option_map_or (λ x. posts_in x.merger.ready) o [] ≡ []
    at None e = refl
    at (Some x) e = none x.merger.ready e

pub newest-is : {v : KeysValue} {set₀ : Setting} {log : Log} → IsSound v → Agrees v set₀ log → newest_store set₀ log primary ≡ Some (newest_of v)
newest-is {v} {set₀} {log} s a = by v.spaces refl (primary-there v.spaces s.first)
  where
    by : (spaces : List SpaceValue) → v.spaces ≡ spaces → 0 < length spaces → newest_store set₀ log primary ≡ Some (newest_of v)
    by [] e l = absurd (omega arith)
    by (x ∷ xs) e l =
        newest-primary s a x (sym (ap (λ ss. get_or ss 0 x) e)) (get_or x.stores 0 []) refl
        ∙ ap Some (sym (ap (λ ss. option_map_or (λ y. get_or y.stores 0 []) (slice_get ss 0) []) e))
