-- Rank 0 removes a namespace.
use Rattle.std.proofs.Common.{◌≡◌, ◌≢◌, ℕ, suc, ◌+◌, ◌<◌, ◌≤◌, inl, inr, List, [], ◌∷◌, ◌++◌, length, Bool, true, false, cond, ◌&&◌, ◌||◌, not, Some, None, unwrap_or, option_map, Contains, refl, sym, ap, ◌∙◌, subst, arith, get_or, set, bytes_eq, append_assoc, append-nil, true≢false}
use Rattle.std.specs.Prelude.{slice_index}
use Rattle.std.specs.List.{AllPairs, position, AllByRecursion as Each}
use Rattle.std.specs.Option.{option_map_or}
use Rattle.std.specs.Cmp.Lexicographic.{bytes_decides}
use Rattle.std.proofs.Math.Bool.{or-false}
use Rattle.std.proofs.lemmas.Bool.{cases_eq}
use Rattle.std.proofs.lemmas.List.{length-set, get_or-set_same, get_or-set_other}
use Rattle.std.proofs.lemmas.Option.{slice_get-get_or}
use Rattle.kvs_txn.specs.declared.txn.By.{By}
use Rattle.kvs_model.specs.Store.{Name}
use Rattle.kvs_rules.specs.declared.events.KvsAsk.TheVariants as ask
use Rattle.kvs_rules.specs.declared.events.KvsAnswer.TheVariants as answer
use Rattle.kvs_rules.specs.declared.events.KvsEvent.TheVariants as event
use Rattle.kvs_rules.specs.Log.{Log, Moment, Happened, SinceAsked, asks_now, answers_now, lands_now, denies_now, is_asked}
use Rattle.kvs_rules.specs.Namespaces.{Setting, Request, is_live, is_opened, is_primary, is_removed, landed, primary}
use Rattle.kvs_rules.specs.Landings.{IsLegalLanding}
use Rattle.kvs_rules.specs.Answers.{FindsNoNamespace, IsLegalAfter}
use Rattle.kvs_rules.proofs.Logs.{landed_push}
use Rattle.kvs_rules.proofs.Stores.{landings_push, removed_push}
use Rattle.kvs_requests.specs.declared.rows.Row.{Row}
use Rattle.kvs_requests.specs.declared.rows.Stage.{Stage}
use Rattle.kvs_requests.specs.declared.rows.Stage.TheVariants as stage
use Rattle.kvs_requests.specs.declared.rows.Work.{Work}
use Rattle.kvs_requests.specs.declared.rows.Work.TheVariants as work
use Rattle.kvs_keys.specs.Agrees.{Agrees, SpaceAgrees}
use Rattle.kvs_requests.specs.Agreement.{Entrants, IsTransaction, IsUndecided, IsWorkOf, MayTell, RowAgrees, RowsAgree, StageAgrees}
use Rattle.kvs_requests.specs.Refused.{AreDismissed, IsDismissedRow, IsFalling}
use Rattle.kvs_requests.specs.Rows.{AtPlace, IsPlaced, ArePlaced, with_stage}
use Rattle.kvs_keys.specs.Sound.{IsSound}
use Rattle.kvs_requests.specs.Stages.{is_arrived_stage, joined_in}
use Rattle.kvs_keys.specs.Value.{KeysValue}
use Rattle.kvs_space.specs.Rulings.{IsRemoving}
use Rattle.kvs_space.specs.Sound.{IsSoundSpace, idle}
use Rattle.kvs_space.specs.Space.{SpaceValue, carries, is_named, known_at, name_at, queued}
use Rattle.kvs_space.proofs.Finding.{eq-true, set-all, set-kept}
use Rattle.kvs_keys.proofs.Carried.{space-plain, IsAwaited, all-joined, each-map, joined-once, other-commands, untrue, waiting}
use Rattle.kvs_keys.proofs.Delivering.{heard-head, heard-legal, heard-rows, named-apart, other-names}
use Rattle.kvs_keys.specs.Turns.{is_coming_stage}
use Rattle.kvs_keys.proofs.Turns.{asks-once, dismissed-from, fence-not-remove, from-from, nobody-comes, set-from, turns-happened, turns-quiet, unrivalled-else}
use Rattle.kvs_keys.proofs.Heads.{IsElsewhere, IsHead, agrees-of, head-of, head-then, opened-there, rows-of, space-kept}
use Rattle.kvs_keys.proofs.Landing.{any-kept, last-stands, primary-there}
use Rattle.kvs_requests.proofs.Later.{Grows, IsAside, differs, heard-push, need-kept, row-kept, told-silent}
use Rattle.kvs_keys.proofs.Moving.{found-at, found-there}
use Rattle.kvs_keys.proofs.Queueing.{elsewhere, posts-moved, waiting-posts}
use Rattle.kvs_keys.proofs.Respacing.{get-here, gone-room, name-at, names-same, placed-then, read-at, respaced-sound, set-twice}
use Rattle.kvs_requests.proofs.Tables.{beside, row-respaced, rows-ruled}
use Rattle.kvs_keys.proofs.Taking.{arrived-staged, arrived-unjoined, by-there, named-so, placed-there, row-agrees}
use Rattle.store_laws.specs.Posts.{posts_in}

-- a namespace behind the first is another than `primary`
pub other-primary : {v : KeysValue} → IsSound v → (k : ℕ) → k < length v.spaces → 0 < k → (old : SpaceValue) → old ≡ get_or v.spaces k old → is_primary old.name ≡ false
other-primary {v} s k l pos old read = untrue (is_primary old.name) (λ t.
    let low = primary-there v.spaces s.first in
    let first : Some (get_or v.spaces 0 old).name ≡ Some primary = sym (ap (option_map (λ x. x.name)) (slice_get-get_or v.spaces 0 old low)) ∙ s.first in
    let is : (get_or v.spaces 0 old).name ≡ primary = cc in
    other-names v.spaces s.apart k l 0 old low (λ e. omega arith) (is ∙ sym ((bytes_decides old.name primary).0 t) ∙ ap (λ x. x.name) read))

-- what is told of falls to its broker, and waits nowhere
falling-unjoined : (fanout home : ℕ) (st : Stage) → IsFalling fanout 0 home answer.NoNamespace st → (j : ℕ) → joined_in j st ≡ false
falling-unjoined fanout home (stage.Falling from to held) q j = refl
falling-unjoined fanout home (stage.Ended held) q j = refl
falling-unjoined fanout home (stage.Joined place w) q j = absurd q
falling-unjoined fanout home (stage.Rising from to asks) q j = refl
falling-unjoined fanout home (stage.Arrived asks) q j = refl
falling-unjoined fanout home (stage.Landed place n w) q j = refl
falling-unjoined fanout home (stage.Returning from to place asked) q j = refl
falling-unjoined fanout home (stage.Parked place asked) q j = refl
falling-unjoined fanout home (stage.Held n given) q j = refl

falling-placed : (fanout size home : ℕ) (spaces : List SpaceValue) (st : Stage) → home < size → IsFalling fanout 0 home answer.NoNamespace st → AtPlace fanout size spaces st
falling-placed fanout size home spaces (stage.Falling from to held) l q = let b = q.4 in (q.2, q.3, omega arith)
falling-placed fanout size home spaces (stage.Ended held) l q = tt
falling-placed fanout size home spaces (stage.Joined place w) l q = absurd q
falling-placed fanout size home spaces (stage.Rising from to asks) l q = absurd q
falling-placed fanout size home spaces (stage.Arrived asks) l q = absurd q
falling-placed fanout size home spaces (stage.Landed place n w) l q = absurd q
falling-placed fanout size home spaces (stage.Returning from to place asked) l q = absurd q
falling-placed fanout size home spaces (stage.Parked place asked) l q = absurd q
falling-placed fanout size home spaces (stage.Held n given) l q = absurd q

falling-agrees : (fanout home : ℕ) (entered : Entrants) (set₀ : Setting) (log : Log) (spaces : List SpaceValue) (by : By) (request : Request) (st : Stage) → IsFalling fanout 0 home answer.NoNamespace st → MayTell entered set₀ log by None answer.NoNamespace → StageAgrees entered set₀ log spaces by request st
falling-agrees fanout home entered set₀ log spaces by request (stage.Falling from to held) q told = subst (MayTell entered set₀ log by None) (sym q.0) told
falling-agrees fanout home entered set₀ log spaces by request (stage.Ended held) q told = subst (MayTell entered set₀ log by None) (sym q.0) told
falling-agrees fanout home entered set₀ log spaces by request (stage.Joined place w) q told = absurd q
falling-agrees fanout home entered set₀ log spaces by request (stage.Rising from to asks) q told = absurd q
falling-agrees fanout home entered set₀ log spaces by request (stage.Arrived asks) q told = absurd q
falling-agrees fanout home entered set₀ log spaces by request (stage.Landed place n w) q told = absurd q
falling-agrees fanout home entered set₀ log spaces by request (stage.Returning from to place asked) q told = absurd q
falling-agrees fanout home entered set₀ log spaces by request (stage.Parked place asked) q told = absurd q
falling-agrees fanout home entered set₀ log spaces by request (stage.Held n given) q told = absurd q

-- a request stays its command's
dismissed-by : (fanout k : ℕ) (row now : Row) → IsDismissedRow fanout k row now → now.by ≡ row.by
dismissed-by fanout k row now f = by (joined_in k row.stage) refl
  where
    by : (t : Bool) → joined_in k row.stage ≡ t → now.by ≡ row.by
    by true e = ap (λ x. x.by) (f.told e).1
    by false e = ap (λ x. x.by) (f.others e)

-- the request that removes doesn't wait there itself
pub dismissed-row : {v : KeysValue} → IsSound v → (i : ℕ) → i < length v.rows → (row : Row) → row ≡ get_or v.rows i row → row.stage ≡ stage.Arrived ask.Remove → (k : ℕ) (items : List Row) → AreDismissed v.fanout k v.rows items → get_or items i row ≡ row
dismissed-row {v} s i within row read is k items all = (all.each i row within).others (ap (λ x. joined_in k x.stage) (sym read) ∙ ap (joined_in k) is) ∙ sym read

module _ {v : KeysValue} (s : IsSound v) (i : ℕ) (within : i < length v.rows) (row : Row) (read : row ≡ get_or v.rows i row) (is : row.stage ≡ stage.Arrived ask.Remove)
    (k : ℕ) (found : Some k ≡ position (is_named row.namespace) v.spaces) (pos : 0 < k) (old new : SpaceValue) (read-space : old ≡ get_or v.spaces k old) (number : ℕ) (h : IsRemoving number old new)
    (items : List Row) (all : AreDismissed v.fanout k v.rows items) where
  inside : k < length v.spaces
  inside = found-there s row.namespace k found

  arrived : is_arrived_stage row.stage ≡ true
  arrived = ap is_arrived_stage is

  name-is : row.namespace ≡ old.name
  name-is = named-so s i within row read k found old read-space

  sound-old : IsSoundSpace v.fanout v.grant old
  sound-old = subst (IsSoundSpace v.fanout v.grant) (sym read-space) (s.spaces k old inside)

  long-old : length old.known ≡ v.size
  long-old = ap (λ x. length x.known) read-space ∙ s.brokers k old inside

  known-new : slice_index new.known 0 ≡ number + 1
  known-new = ap (λ n. slice_index n 0) h.known ∙ get_or-set_same old.known 0 (number + 1) 0 sound-old.some

  pub removed-order : waiting-posts (set v.spaces k new) ≡ waiting-posts v.spaces
  removed-order = posts-moved v.spaces old new h.name [] k inside read-space (ap (λ g. posts_in g.ready) h.merger ∙ sym (elsewhere s k inside old read-space (λ e. omega arith))) (λ _. refl)

  -- a request of the table, once those that waited there are told
  row-placed : (one now : Row) → IsPlaced v.fanout v.size v.spaces one → IsDismissedRow v.fanout k one now → IsPlaced v.fanout v.size (set v.spaces k new) now
  row-placed one now p f = by (joined_in k one.stage) refl
    where
      rises : slice_index old.known 0 ≤ slice_index new.known 0
      rises = let e = known-new in let n = h.next in omega arith

      by : (t : Bool) → joined_in k one.stage ≡ t → IsPlaced v.fanout v.size (set v.spaces k new) now
      by true e = let x = f.told e in subst (IsPlaced v.fanout v.size (set v.spaces k new)) (sym x.1) (record { home = p.home; place = falling-placed v.fanout v.size one.broker (set v.spaces k new) x.0 p.home x.2 })
      by false e = subst (IsPlaced v.fanout v.size (set v.spaces k new)) (sym (f.others e)) (record { home = p.home; place = placed-then v.spaces k inside old new read-space h.name v.fanout v.size one.stage rises p.place })

  pub removal-sound : IsSoundSpace v.fanout v.grant new → (rows : List Row) → rows ≡ set items i (with_stage (stage.Landed k number work.Remove) row) → (spent : Bool)
      → IsSound (record { spent = spent; size = v.size; fanout = v.fanout; grant = v.grant; spaces = set v.spaces k new; rows = rows })
  removal-sound sound rows rows-are spent =
      respaced-sound s k inside old new read-space h.name (gone-room s k inside old new read-space h.name h.removed) (ap length h.known ∙ length-set old.known 0 (number + 1) ∙ long-old) sound rows
      (subst (ArePlaced v.fanout v.size (set v.spaces k new)) (sym rows-are)
      (set-all (IsPlaced v.fanout v.size (set v.spaces k new)) items i (with_stage (stage.Landed k number work.Remove) row)
      (record { home = (placed-there s i within row read).home; place = (subst (λ n. k < n) (sym (length-set v.spaces k new)) inside, known-here) })
      (λ j d l ne. let lj = subst (λ n. j < n) all.same_len l in row-placed (get_or v.rows j d) (get_or items j d) (s.placed j d lj) (all.each j d lj)))) spent
    where
      known-here : number < known_at (set v.spaces k new) k 0
      known-here =
          let g : known_at (set v.spaces k new) k 0 ≡ slice_index new.known 0 = ap (λ x. option_map_or (λ y. slice_index y.known 0) x 0) (get-here v.spaces k inside old new read-space h.name) in
          let e = known-new in
          omega arith

  module _ {set₀ : Setting} {log : Log} (a : Agrees v set₀ log) where
    abbrev r : RowAgrees a.entered set₀ log v.spaces row
    r = row-agrees s i within row read a

    sa : SpaceAgrees set₀ log v.size old
    sa = subst (SpaceAgrees set₀ log v.size) (sym read-space) (a.spaces k old inside)

    counts : number ≡ suc (landed log old.name)
    counts = h.next ∙ sound-old.newest ∙ sym sa.last

    -- the moment at which it goes
    abbrev m : Moment
    m = Happened (event.Landed old.name (suc (landed log old.name)) (Some row.by ∷ []) [])

    off : (other : Name) → other ≢ old.name → IsElsewhere other (Happened (event.Landed old.name (suc (landed log old.name)) (Some row.by ∷ []) []))
    off other ne =
        let apart = named-apart other old.name ne in
        record { groups = refl; number = ap (λ b. cond b (Some (suc (landed log old.name))) None) apart; removed = ap (λ b. b || false) apart; silent = λ b. refl }

    aside : (by : By) → by ≢ row.by → IsAside by (Happened (event.Landed old.name (suc (landed log old.name)) (Some row.by ∷ []) []))
    aside by ne = record { asks = refl; answers = refl; lands = or-false _ ∙ differs by row.by ne; denies = refl }

    others : (j : ℕ) (d : SpaceValue) → j < length v.spaces → Each (λ b. IsAside b (Happened (event.Landed old.name (suc (landed log old.name)) (Some row.by ∷ []) []))) (waiting (queued (get_or v.spaces j d).merger))
    others j d l = each-map (IsAwaited set₀ v.rows j) (λ b. IsAside b (Happened (event.Landed old.name (suc (landed log old.name)) (Some row.by ∷ []) []))) (waiting (queued (get_or v.spaces j d).merger)) (all-joined (rows-of a) j d l (a.spaces j d l).fresh (space-plain (a.spaces j d l)))
        (λ b q. aside b (other-commands (rows-of a) i row within read j (arrived-unjoined row.stage arrived j) b q))

    -- the namespace when rank 0 hasn't heard of it yet
    abbrev between : SpaceValue
    between = record { name = old.name; removed = true; history = old.history; known = old.known; stores = old.stores; links = old.links; merger = idle }

    same-name : bytes_eq old.name old.name ≡ true
    same-name = (bytes_decides old.name old.name).1 refl

    landed-now : landed (log ++ Happened (event.Landed old.name (suc (landed log old.name)) (Some row.by ∷ []) []) ∷ []) old.name ≡ suc (landed log old.name)
    landed-now = landed_push log _ old.name ∙ ap (λ b. unwrap_or (cond b (Some (suc (landed log old.name))) None) (landed log old.name)) same-name

    removed-now : (space : Name) → space ≡ old.name → is_removed (log ++ Happened (event.Landed old.name (suc (landed log old.name)) (Some row.by ∷ []) []) ∷ []) space ≡ true
    removed-now space e = removed_push log _ space ∙ ap (λ b. is_removed log space || (b || false)) ((bytes_decides space old.name).1 e) ∙ ends (is_removed log space)
      where
        ends : (x : Bool) → (x || true) ≡ true
        ends true = refl
        ends false = refl

    space-gone : SpaceAgrees set₀ (log ++ Happened (event.Landed old.name (suc (landed log old.name)) (Some row.by ∷ []) []) ∷ []) v.size between
    space-gone = record {
      history = landings_push log _ old.name ∙ append-nil _ ∙ sa.history;
      last =
          let n = landed-now in
          let l = sa.last in
          let c : ◌≡◌ {A = ℕ} (cond old.removed 1 0) 0 = ap (λ b. cond b 1 0) h.was in
          omega arith;
      removed = removed-now old.name refl;
      told = λ b l. heard-push log _ b old.name ∙ sa.told b l;
      kinds = tt;
      joining = tt;
      fresh = record { differ = tt; fresh = tt };
    }

    opened-here : is_opened log old.name ≡ true
    opened-here = ap (λ x. is_opened log x.name) read-space ∙ opened-there (head-of a) k old inside

    first-head : IsHead v.size v.fanout v.grant (set v.spaces k between) set₀ (log ++ Happened (event.Landed old.name (suc (landed log old.name)) (Some row.by ∷ []) []) ∷ [])
    first-head = head-then (head-of a) (set v.spaces k between) m (λ space. tt) (names-same v.spaces k inside old between read-space refl) refl
        (set-all (SpaceAgrees set₀ (log ++ m ∷ []) v.size) v.spaces k between space-gone
        (λ j d l ne. space-kept (a.spaces j d l) m (off (get_or v.spaces j d).name (λ q. other-names v.spaces s.apart k inside j d l ne (q ∙ ap (λ x. x.name) (read-at v.spaces k inside old between read-space refl d)))) (others j d l)))
        (λ space e. off space (λ q. true≢false (sym opened-here ∙ ap (is_opened log) (sym q) ∙ e)))

    grows : Grows log (Happened (event.Landed old.name (suc (landed log old.name)) (Some row.by ∷ []) []))
    grows = record {
      told = told-silent log _ (λ b space. refl);
      rises = λ space. up space (bytes_eq space old.name) refl;
      ends = λ space gone. over space gone (bytes_eq space old.name) refl;
    } where
      up : (space : Name) (t : Bool) → bytes_eq space old.name ≡ t → landed log space ≤ landed (log ++ Happened (event.Landed old.name (suc (landed log old.name)) (Some row.by ∷ []) []) ∷ []) space
      up space true e =
          let q = (bytes_decides space old.name).0 e in
          let n : landed (log ++ m ∷ []) space ≡ suc (landed log old.name) = ap (landed (log ++ m ∷ [])) q ∙ landed-now in
          let o : landed log space ≡ landed log old.name = ap (landed log) q in
          omega arith
      up space false e = let z : landed (log ++ m ∷ []) space ≡ landed log space = landed_push log m space ∙ ap (λ b. unwrap_or (cond b (Some (suc (landed log old.name))) None) (landed log space)) e in omega arith

      over : (space : Name) → is_removed log space ≡ true → (t : Bool) → bytes_eq space old.name ≡ t → landed (log ++ Happened (event.Landed old.name (suc (landed log old.name)) (Some row.by ∷ []) []) ∷ []) space ≡ landed log space
      over space gone true e = absurd (true≢false (sym gone ∙ ap (is_removed log) ((bytes_decides space old.name).0 e) ∙ sa.removed ∙ h.was))
      over space gone false e = landed_push log _ space ∙ ap (λ b. unwrap_or (cond b (Some (suc (landed log old.name))) None) (landed log space)) e

    names-there : (j : ℕ) → name_at (set v.spaces k between) j ≡ name_at v.spaces j
    names-there j = name-at v.spaces k inside old between read-space refl j

    -- nothing waits there, and elsewhere it is as before
    tied-then : (by : By) (st : Stage) → joined_in k st ≡ false → ((j : ℕ) (d : SpaceValue) → j < length v.spaces → j ≢ k → joined_in j st ≡ carries (get_or v.spaces j d) by)
        → (j : ℕ) (d : SpaceValue) → j < length (set v.spaces k between) → joined_in j st ≡ carries (get_or (set v.spaces k between) j d) by
    tied-then by st here tied j d l = elim (cases_eq j k) [
      | inl e ↦
          let q : get_or (set v.spaces k between) j d ≡ between = ap (λ n. get_or (set v.spaces k between) n d) e ∙ get_or-set_same v.spaces k between d inside in
          ap (λ n. joined_in n st) e ∙ here ∙ sym (ap (λ x. carries x by) q)
      | inr ne ↦ tied j d (subst (λ n. j < n) (length-set v.spaces k between) l) ne ∙ ap (λ x. carries x by) (sym (get_or-set_other v.spaces k j between d ne))
    ]

    row-removed : RowAgrees a.entered set₀ (log ++ Happened (event.Landed old.name (suc (landed log old.name)) (Some row.by ∷ []) []) ∷ []) (set v.spaces k between) (with_stage (stage.Landed k (suc (landed log old.name)) work.Remove) row)
    row-removed =
        let staged = arrived-staged s i within row read a ask.Remove is in
        record {
          asked = any-kept (asks_now row.by) log m refl ∙ r.asked;
          unanswered = any-kept (answers_now row.by) log m refl ∙ r.unanswered;
          request = r.request;
          made = r.made;
          home = r.home;
          inside = r.inside;
          keys = r.keys;
          needed = need-kept log m row.by r.request row.need grows refl r.asked r.needed;
          staged = (
            staged.1,
            any-kept (denies_now row.by) log m refl ∙ staged.0.undenied,
            record {
              authors = Some row.by ∷ [];
              groups = [];
              landing = subst (λ n. Contains (log ++ m ∷ []) (Happened (event.Landed n (suc (landed log old.name)) (Some row.by ∷ []) []))) (sym (r.inside ∙ name-is)) (last-stands log m);
              named = (0, omega arith, refl);
            },
            names-there k ∙ found-at s row.namespace k found old ∙ ap Some (sym r.inside),
          );
          tied = tied-then row.by (stage.Landed k (suc (landed log old.name)) work.Remove) refl (λ j d l ne. sym (arrived-unjoined row.stage arrived j) ∙ r.tied j d l);
        }

    not-live : (space : Name) → space ≡ old.name → is_live (log ++ Happened (event.Landed old.name (suc (landed log old.name)) (Some row.by ∷ []) []) ∷ []) space ≡ false
    not-live space e = ap (λ b. is_opened (log ++ m ∷ []) space && not b) (removed-now space e) ∙ ends (is_opened (log ++ m ∷ []) space)
      where
        ends : (x : Bool) → (x && false) ≡ false
        ends true = refl
        ends false = refl

    finds-none : (by : By) (request : Request) (w : Work) → IsTransaction w → IsWorkOf request.ask w → SinceAsked by (λ past. is_live past request.namespace ≡ false) (log ++ Happened (event.Landed old.name (suc (landed log old.name)) (Some row.by ∷ []) []) ∷ [])
        → FindsNoNamespace (log ++ Happened (event.Landed old.name (suc (landed log old.name)) (Some row.by ∷ []) []) ∷ []) by request request.ask
    finds-none by request work.Commit t w since = subst (FindsNoNamespace (log ++ m ∷ []) by request) (sym w.1) since
    finds-none by request work.Fence t w since = subst (FindsNoNamespace (log ++ m ∷ []) by request) (sym w.3) since
    finds-none by request work.Create t w since = absurd t
    finds-none by request work.Remove t w since = absurd t

    -- a request that waited there is told so
    module _ (one : Row) (ro : RowAgrees a.entered set₀ log v.spaces one) (ne : one.by ≢ row.by) where
      told-none : (st : Stage) → one.stage ≡ st → joined_in k one.stage ≡ true → MayTell a.entered set₀ (log ++ Happened (event.Landed old.name (suc (landed log old.name)) (Some row.by ∷ []) []) ∷ []) one.by None answer.NoNamespace
      told-none (stage.Joined place w) e j =
          let staged = subst (StageAgrees a.entered set₀ log v.spaces one.by ro.request) e ro.staged in
          let at : place ≡ k = joined-once one.stage place k (ap (joined_in place) e ∙ eq-true place place refl) j in
          let same : Some ro.request.namespace ≡ Some old.name = sym staged.2 ∙ ap (name_at v.spaces) at ∙ ap (option_map (λ x. x.name)) (slice_get-get_or v.spaces k old inside) ∙ ap (λ x. Some x.name) (sym read-space) in
          let named : ro.request.namespace ≡ old.name = cc in
          let since : SinceAsked one.by (λ past. is_live past ro.request.namespace ≡ false) (log ++ m ∷ []) = record { past = log ++ m ∷ []; later = []; split = sym (append-nil (log ++ m ∷ [])); asked = any-kept (asks_now one.by) log m refl ∙ ro.asked; held = not-live ro.request.namespace named } in (
            record {
              request = ro.request;
              made = ro.made;
              waits = record { asked = any-kept (asks_now one.by) log m refl ∙ ro.asked; unanswered = any-kept (answers_now one.by) log m refl ∙ ro.unanswered };
              tells = (any-kept (lands_now one.by) log m (aside one.by ne).lands ∙ staged.0.unlanded, any-kept (denies_now one.by) log m refl ∙ staged.0.undenied);
              grounds = (refl, finds-none one.by ro.request w staged.3 staged.1 since);
            },
            tt,
            tt,
          )
      told-none (stage.Rising from to asks) e j = absurd (true≢false (sym j ∙ ap (joined_in k) e))
      told-none (stage.Arrived asks) e j = absurd (true≢false (sym j ∙ ap (joined_in k) e))
      told-none (stage.Landed place n w) e j = absurd (true≢false (sym j ∙ ap (joined_in k) e))
      told-none (stage.Falling from to given) e j = absurd (true≢false (sym j ∙ ap (joined_in k) e))
      told-none (stage.Ended given) e j = absurd (true≢false (sym j ∙ ap (joined_in k) e))
      told-none (stage.Returning from to place asked) e j = absurd (true≢false (sym j ∙ ap (joined_in k) e))
      told-none (stage.Parked place asked) e j = absurd (true≢false (sym j ∙ ap (joined_in k) e))
      told-none (stage.Held n given) e j = absurd (true≢false (sym j ∙ ap (joined_in k) e))

      row-told : (st : Stage) → IsFalling v.fanout 0 one.broker answer.NoNamespace st → joined_in k one.stage ≡ true → RowAgrees a.entered set₀ (log ++ Happened (event.Landed old.name (suc (landed log old.name)) (Some row.by ∷ []) []) ∷ []) (set v.spaces k between) (with_stage st one)
      row-told st f j = record {
        asked = any-kept (asks_now one.by) log m refl ∙ ro.asked;
        unanswered = any-kept (answers_now one.by) log m refl ∙ ro.unanswered;
        request = ro.request;
        made = ro.made;
        home = ro.home;
        inside = ro.inside;
        keys = ro.keys;
        needed = need-kept log m one.by ro.request one.need grows refl ro.asked ro.needed;
        staged = falling-agrees v.fanout one.broker a.entered set₀ (log ++ m ∷ []) (set v.spaces k between) one.by ro.request st f (told-none one.stage refl j);
        tied = tied-then one.by st (falling-unjoined v.fanout one.broker st f k)
            (λ n d l other. falling-unjoined v.fanout one.broker st f n ∙ sym (untrue (joined_in n one.stage) (λ t. other (joined-once one.stage n k t j))) ∙ ro.tied n d l);
      }

      row-left : joined_in k one.stage ≡ false → RowAgrees a.entered set₀ (log ++ Happened (event.Landed old.name (suc (landed log old.name)) (Some row.by ∷ []) []) ∷ []) (set v.spaces k between) one
      row-left e = row-respaced (set v.spaces k between) (length-set v.spaces k between) names-there one
          (λ j d l. set-kept (λ x. carries x one.by) v.spaces k between (λ q. sym e ∙ ro.tied k q inside) j d l)
          (row-kept a.entered set₀ log v.spaces m one grows (λ other inside told kept q. cc) (aside one.by ne) ro)

      row-then : (now : Row) → IsDismissedRow v.fanout k one now → RowAgrees a.entered set₀ (log ++ Happened (event.Landed old.name (suc (landed log old.name)) (Some row.by ∷ []) []) ∷ []) (set v.spaces k between) now
      row-then now f = by (joined_in k one.stage) refl
        where
          by : (t : Bool) → joined_in k one.stage ≡ t → RowAgrees a.entered set₀ (log ++ Happened (event.Landed old.name (suc (landed log old.name)) (Some row.by ∷ []) []) ∷ []) (set v.spaces k between) now
          by true e = let x = f.told e in subst (RowAgrees a.entered set₀ (log ++ m ∷ []) (set v.spaces k between)) (sym x.1) (row-told x.0 x.2 e)
          by false e = subst (RowAgrees a.entered set₀ (log ++ m ∷ []) (set v.spaces k between)) (sym (f.others e)) (row-left e)

    abbrev new-row : Row
    new-row = with_stage (stage.Landed k (suc (landed log old.name)) work.Remove) row

    first-rows : RowsAgree a.entered set₀ (log ++ Happened (event.Landed old.name (suc (landed log old.name)) (Some row.by ∷ []) []) ∷ []) (set v.spaces k between) (set items i (with_stage (stage.Landed k (suc (landed log old.name)) work.Remove) row))
    first-rows = rows-ruled (rows-of a) (set v.spaces k between) (set items i new-row) m (length-set items i new-row ∙ all.same_len) same-by (λ by. refl)
        (λ by some e. aside by (λ q. true≢false (sym r.asked ∙ ap (λ b. is_asked b log) (sym q) ∙ e)))
        (λ j d l. set-all (RowAgrees a.entered set₀ (log ++ m ∷ []) (set v.spaces k between)) items i new-row row-removed each j d (subst (λ n. j < n) (sym (length-set items i new-row ∙ all.same_len)) l))
      where
        each : (j : ℕ) (d : Row) → j < length items → j ≢ i → RowAgrees a.entered set₀ (log ++ m ∷ []) (set v.spaces k between) (get_or items j d)
        each j d l ne =
            let lj = subst (λ n. j < n) all.same_len l in
            row-then (get_or v.rows j d) (a.rows j d lj) (λ e. beside (rows-of a) i j d within lj ne (e ∙ by-there s i within row read d)) (get_or items j d) (all.each j d lj)

        same-by : (j : ℕ) (d : Row) → j < length v.rows → (get_or (set items i new-row) j d).by ≡ (get_or v.rows j d).by
        same-by j d l =
            let lj = subst (λ n. j < n) (sym all.same_len) l in
            set-kept (λ x. x.by) items i new-row (λ e. by-there s i within row read e ∙ sym (dismissed-by v.fanout k (get_or v.rows i e) (get_or items i e) (all.each i e within))) j d lj
            ∙ dismissed-by v.fanout k (get_or v.rows j d) (get_or items j d) (all.each j d l)

    long-set : k < length (set v.spaces k between)
    long-set = subst (λ n. k < n) (sym (length-set v.spaces k between)) inside

    read-set : between ≡ get_or (set v.spaces k between) k between
    read-set = sym (get_or-set_same v.spaces k between between inside)

    apart-set : AllPairs (λ one other. one.name ≢ other.name) (set v.spaces k between)
    apart-set j n d lt l e =
        let lj = subst (λ x. n < x) (length-set v.spaces k between) l in
        let kept = set-kept (λ x. x.name) v.spaces k between (λ q. ap (λ x. x.name) (read-at v.spaces k inside old between read-space refl q)) in
        s.apart j n d lt lj (sym (kept j d (omega arith)) ∙ e ∙ kept n d lj)

    less : slice_index old.known 0 < suc (suc (landed log old.name))
    less = let c = counts in let n = h.next in omega arith

    low : suc (landed log old.name) ≤ landed (log ++ Happened (event.Landed old.name (suc (landed log old.name)) (Some row.by ∷ []) []) ∷ []) old.name
    low = let e = landed-now in omega arith

    both-true : (x y : Bool) → x ≡ true → y ≡ false → (x && not y) ≡ true
    both-true x y e f = rw (e, f) refl

    pub removal-legal : IsLegalAfter set₀ log (Happened (event.Landed old.name number (Some row.by ∷ []) []) ∷ Happened (event.Heard 0 old.name number) ∷ [])
    removal-legal = subst (λ n. IsLegalAfter set₀ log (Happened (event.Landed old.name n (Some row.by ∷ []) []) ∷ Happened (event.Heard 0 old.name n) ∷ [])) (sym counts) (
      landing,
      (heard-legal apart-set k long-set between new read-set long-old first-head first-rows 0 (suc (landed log old.name)) s.size less low (inl refl), tt),
    ) where
      staged : IsUndecided log row.by
      staged = (arrived-staged s i within row read a ask.Remove is).0

      landing : IsLegalLanding set₀ log old.name (suc (landed log old.name)) (Some row.by ∷ []) []
      landing = record {
        fresh = record { differ = (tt, tt); fresh = (record { unanswered = r.unanswered; unlanded = staged.unlanded; undenied = staged.undenied; asked = λ some. r.asked }, tt) };
        form = inr (inl (record {
          by = row.by;
          alone = refl;
          asked = record { request = r.request; made = r.made; inside = r.inside ∙ name-is; asked = (arrived-staged s i within row read a ask.Remove is).1 };
          empty = refl;
          next = refl;
          living = both-true (is_opened log old.name) (is_removed log old.name) opened-here (sa.removed ∙ h.was);
          other = other-primary s k inside pos old read-space;
        }));
        first = λ settled. (unrivalled-else set₀ log row.by (λ space fence count txn h. fence-not-remove fence count txn (asks-once set₀ row.by space (ask.Fence fence count txn) ask.Remove r.request h r.made (arrived-staged s i within row read a ask.Remove is).1)) old.name, tt);
      }

    pub removal-agrees : (rows : List Row) → rows ≡ set items i (with_stage (stage.Landed k number work.Remove) row)
        → Agrees (record { spent = false; size = v.size; fanout = v.fanout; grant = v.grant; spaces = set v.spaces k new; rows = rows }) set₀ (log ++ Happened (event.Landed old.name number (Some row.by ∷ []) []) ∷ Happened (event.Heard 0 old.name number) ∷ [])
    removal-agrees rows rows-are =
        let known : new.known ≡ set old.known 0 (suc (suc (landed log old.name))) = h.known ∙ ap (set old.known 0) (let c = counts in let e : number + 1 ≡ suc (suc (landed log old.name)) = omega arith in e) in
        let head = heard-head apart-set k long-set between new read-set long-old first-head first-rows 0 (suc (landed log old.name)) s.size less low h.name h.removed h.history known h.merger in
        let there = heard-rows apart-set k long-set between new read-set long-old first-head first-rows 0 (suc (landed log old.name)) s.size less low h.name h.removed h.history known h.merger in
        subst (λ rs. Agrees (record { spent = false; size = v.size; fanout = v.fanout; grant = v.grant; spaces = set v.spaces k new; rows = rs }) set₀ (log ++ Happened (event.Landed old.name number (Some row.by ∷ []) []) ∷ Happened (event.Heard 0 old.name number) ∷ [])) (sym rows-are)
        (subst (λ n. Agrees (record { spent = false; size = v.size; fanout = v.fanout; grant = v.grant; spaces = set v.spaces k new; rows = set items i (with_stage (stage.Landed k n work.Remove) row) }) set₀ (log ++ Happened (event.Landed old.name n (Some row.by ∷ []) []) ∷ Happened (event.Heard 0 old.name n) ∷ [])) (sym counts)
        (subst (Agrees (record { spent = false; size = v.size; fanout = v.fanout; grant = v.grant; spaces = set v.spaces k new; rows = set items i new-row }) set₀) (append_assoc log (m ∷ []) (Happened (event.Heard 0 old.name (suc (landed log old.name))) ∷ []))
        (subst (λ ss. Agrees (record { spent = false; size = v.size; fanout = v.fanout; grant = v.grant; spaces = ss; rows = set items i new-row }) set₀ ((log ++ m ∷ []) ++ Happened (event.Heard 0 old.name (suc (landed log old.name))) ∷ [])) (set-twice v.spaces k between new)
        (agrees-of {v = record { spent = false; size = v.size; fanout = v.fanout; grant = v.grant; spaces = set (set v.spaces k between) k new; rows = set items i new-row }} head there
        (λ settled. turns-quiet (turns-happened (turns-happened (a.turns settled) (event.Landed old.name (suc (landed log old.name)) (Some row.by ∷ []) [])) (event.Heard 0 old.name (suc (landed log old.name)))) (set (set v.spaces k between) k new) (set items i new-row)
        (nobody-comes (a.turns settled) a.apart i within row read (ap is_coming_stage is) (set items i new-row)
        (from-from (set items i new-row) items v.rows (set-from items i here new-row (λ e. by-there s i within row read e ∙ sym (dismissed-by v.fanout k (get_or v.rows i e) (get_or items i e) (all.each i e within))) (λ c. absurd (true≢false (sym c)))) (dismissed-from v.fanout k v.rows items all))
        (λ l c. true≢false (sym (c row) ∙ ap (λ x. is_coming_stage x.stage) (get_or-set_same items i new-row row here)))))))))
      where
        here : i < length items
        here = subst (λ n. i < n) (sym all.same_len) within
