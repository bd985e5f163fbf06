-- A broker makes the answer of a request.
use Rattle.std.proofs.Common.{◌≡◌, ◌≢◌, ℕ, zero, suc, ◌-◌, ◌<◌, ◌≤◌, inl, max, List, [], length, Bool, true, false, true≢false, cond, ◌&&◌, ◌||◌, ◌==◌, if◌then◌else◌, None, Some, option_map, IfSome, IsSomeAnd, refl, sym, ap, ◌∙◌, subst, arith, get_or, set}
use Rattle.std.specs.Prelude.{slice_index, nat_lt}
use Rattle.std.specs.Option.{option_map_or}
use Rattle.std.proofs.lemmas.List.{get_or_default}
use Rattle.std.proofs.lemmas.List.Elements.{All-set}
use Rattle.std.proofs.lemmas.List.Sums.{sum_by-set}
use Rattle.std.proofs.lemmas.Option.{slice_get-get_or}
use Rattle.kvs_model.specs.Store.{Store}
use Rattle.kvs_rules.specs.declared.events.KvsAsk.{KvsAsk}
use Rattle.kvs_rules.specs.declared.events.KvsAsk.TheVariants as ask
use Rattle.kvs_rules.specs.declared.events.KvsAnswer.TheVariants as answer
use Rattle.kvs_model.specs.History.{after}
use Rattle.kvs_rules.specs.Log.{Log, floor_at, is_denied, is_landed}
use Rattle.kvs_rules.specs.Namespaces.{Setting, landed, store_after, is_opened, is_removed, scope_of}
use Rattle.kvs_model.specs.OneStore.{HasOwnLinks}
use Rattle.kvs_rules.proofs.OneStore.{fresh_own, stores_own, told_alone}
use Rattle.kvs_rules.proofs.Stores.{fresh_store}
use Rattle.kvs_rules.specs.Brokers.{heard, HasHeard}
use Rattle.kvs_rules.specs.Answers.{FindsNoNamespace, HasHeardRemoval, IsFresh, IsCarriedOut, IsLegalAnswer, HasGrounds, TellsEnd}
use Rattle.kvs_txn.specs.declared.txn.By.{By}
use Rattle.kvs_requests.specs.declared.rows.Row.{Row}
use Rattle.kvs_requests.specs.declared.rows.Work.{Work}
use Rattle.kvs_requests.specs.declared.rows.Work.TheVariants as work
use Rattle.kvs_requests.specs.declared.rows.Stage.{Stage}
use Rattle.kvs_requests.specs.declared.rows.Stage.TheVariants as stage
use Rattle.kvs_requests.specs.Stages.{has_come, has_ended, may_serve, is_arrived, services_left, all_services, joined_in}
use Rattle.kvs_keys.specs.Value.{KeysValue}
use Rattle.kvs_space.specs.Space.{SpaceValue, number_of, seen, begun, known_at, name_at, has_heard_end}
use Rattle.kvs_space.specs.Sound.{IsSoundSpace}
use Rattle.kvs_keys.specs.Sound.{IsSound}
use Rattle.kvs_requests.specs.Rows.{AtPlace, IsPlaced, ArePlaced, answered, awaited, carried_out, found_for, place_of, with_stage}
use Rattle.kvs_keys.specs.Agrees.{Agrees, SpaceAgrees}
use Rattle.kvs_requests.specs.Agreement.{Entrants, RowAgrees, StageAgrees, RowsAgree, HasLanded, IsNeeded, IsParkedAsk, IsMadeAnswer, IsUpheld, IsWorkOf, heard_at}
use Rattle.kvs_space.proofs.Announced.{below-newest}
use Rattle.kvs_space.proofs.Finding.{and-left, and-right, eq-is, eq-true, lt-is}
use Rattle.kvs_keys.proofs.Heads.{head-of, rows-of, opened-there}
use Rattle.kvs_keys.proofs.Landing.{given-store}
use Rattle.kvs_requests.proofs.Tables.{rows-moved}

pub some-is : {A : Type 0} (x y : A) → Some x ≡ Some y → x ≡ y
some-is x y e = cc

pub record IsServed (known : ℕ) (ended : Bool) (store : Store) (s : Stage) : Type 0 where
  pub place : (fanout size : ℕ) (spaces : List SpaceValue) → AtPlace fanout size spaces (answered known ended store s)
  pub less : services_left (answered known ended store s) < services_left s
  pub unjoined : (k : ℕ) → joined_in k (answered known ended store s) ≡ joined_in k s

pub served : (spaces : List SpaceValue) (broker need known : ℕ) (ended : Bool) (store : Store) (s : Stage) → has_come spaces broker need s ≡ true → IsServed known ended store s
served spaces broker need known ended store (stage.Landed space number work) h = record { place = λ fanout size ss. tt; less = omega arith; unjoined = λ k. refl }
served spaces broker need known ended store (stage.Ended given) h = record { place = λ fanout size ss. tt; less = omega arith; unjoined = λ k. refl }
served spaces broker need known true store (stage.Parked space asked) h = record { place = λ fanout size ss. tt; less = omega arith; unjoined = λ k. refl }
served spaces broker need known false store (stage.Parked space asked) h = record { place = λ fanout size ss. tt; less = omega arith; unjoined = λ k. refl }
served spaces broker need known ended store (stage.Rising from to asks) h = cc
served spaces broker need known ended store (stage.Arrived asks) h = cc
served spaces broker need known ended store (stage.Joined space work) h = cc
served spaces broker need known ended store (stage.Falling from to given) h = cc
served spaces broker need known ended store (stage.Returning from to space asked) h = cc
served spaces broker need known ended store (stage.Held number given) h = cc

heard-some : (known number : ℕ) → number < known → IsSomeAnd (number_of known) (λ h. number ≤ h)
heard-some zero number l = absurd (omega arith)
heard-some (suc known) number l = let e : number ≤ known = omega arith in e

work-tells : (w : Work) (carried denied : Bool) → denied ≡ false → TellsEnd (carried_out w) carried denied
work-tells work.Commit carried denied e = e
work-tells work.Fence carried denied e = e
work-tells work.Create carried denied e = e
work-tells work.Remove carried denied e = e

work-made : (w : Work) → IsMadeAnswer (carried_out w)
work-made work.Commit = tt
work-made work.Fence = tt
work-made work.Create = tt
work-made work.Remove = tt

work-upheld : (entered : Entrants) (set₀ : Setting) (log : Log) (by : By) (w : Work) (number : ℕ) (legal : IsLegalAnswer set₀ log by (Some number) (carried_out w)) → IsUpheld entered set₀ log by (Some number) (carried_out w) legal
work-upheld entered set₀ log by work.Commit number legal = tt
work-upheld entered set₀ log by work.Fence number legal = tt
work-upheld entered set₀ log by work.Create number legal = tt
work-upheld entered set₀ log by work.Remove number legal = tt

module _ {v : KeysValue} (s : IsSound v) {set₀ : Setting} {log : Log} (a : Agrees v set₀ log) (row : Row) (r : RowAgrees a.entered set₀ log v.spaces row) (home : row.broker < v.size) where
  work-grounds : (w : Work) (number : ℕ) → IsWorkOf r.request.ask w → IsCarriedOut log row.by r.request number → HasGrounds set₀ log row.by r.request (carried_out w) (Some number)
  work-grounds work.Commit number h out = (h, out)
  work-grounds work.Fence number h out = (h, out)
  work-grounds work.Create number h out = (h, out)
  work-grounds work.Remove number h out = (h, out)

  -- the namespace of this place, at the row's broker
  module _ (place : ℕ) (space : SpaceValue) (within : place < length v.spaces) (read : space ≡ get_or v.spaces place space) (named : name_at v.spaces place ≡ Some r.request.namespace) where
    there : SpaceAgrees set₀ log v.size space
    there = subst (SpaceAgrees set₀ log v.size) (sym read) (a.spaces place space within)

    sound : IsSoundSpace v.fanout v.grant space
    sound = subst (IsSoundSpace v.fanout v.grant) (sym read) (s.spaces place space within)

    long : length space.known ≡ v.size
    long = ap (λ x. length x.known) read ∙ s.brokers place space within

    name-is : r.request.namespace ≡ space.name
    name-is = some-is r.request.namespace space.name (sym named ∙ ap (option_map (λ x. x.name)) (slice_get-get_or v.spaces place space within) ∙ ap (λ x. Some x.name) (sym read))

    known-is : known_at v.spaces place row.broker ≡ slice_index space.known row.broker
    known-is = ap (λ o. option_map_or (λ x. slice_index x.known row.broker) o 0) (slice_get-get_or v.spaces place space within) ∙ ap (λ x. slice_index x.known row.broker) (sym read)

    told-there : heard log r.request.broker r.request.namespace ≡ number_of (slice_index space.known row.broker)
    told-there = ap (λ n. heard log r.request.broker n) name-is ∙ ap (λ b. heard log b space.name) r.home ∙ there.told row.broker home

    has-heard : (number : ℕ) → number < slice_index space.known row.broker → HasHeard log r.request.broker r.request.namespace number
    has-heard number l = subst (λ o. IsSomeAnd o (λ h. number ≤ h)) (sym told-there) (heard-some (slice_index space.known row.broker) number l)

    -- a broker that hasn't heard of a removal knows of the first root and of landings alone
    short : has_heard_end row.broker space ≡ false → slice_index space.known row.broker ≤ suc (length space.history)
    short off = by space.removed refl
      where
        by : (t : Bool) → space.removed ≡ t → slice_index space.known row.broker ≤ suc (length space.history)
        by true e =
            let b = below-newest sound.announced row.broker (let n = long in omega arith) in
            let n = sound.newest in
            let c : ◌≡◌ {A = ℕ} (cond space.removed 1 0) 1 = ap (λ t. cond t 1 0) e in
            let ne : slice_index space.known row.broker ≢ slice_index space.known 0 = λ q. true≢false (sym (eq-true _ _ q) ∙ sym (ap (λ t. t && (slice_index space.known row.broker == slice_index space.known 0)) e) ∙ off) in
            omega arith
        by false e =
            let b = below-newest sound.announced row.broker (let n = long in omega arith) in
            let n = sound.newest in
            let c : ◌≡◌ {A = ℕ} (cond space.removed 1 0) 0 = ap (λ t. cond t 1 0) e in
            omega arith

    standing : has_heard_end row.broker space ≡ false → 0 < slice_index space.known row.broker → store_after set₀ log r.request.namespace (slice_index space.known row.broker - 1) ≡ Some (get_or space.stores row.broker [])
    standing off some =
        let l : row.broker < length space.known = let n = long in omega arith in
        let b = short off in
        let count : slice_index space.known row.broker - 1 ≡ seen (slice_index space.known row.broker) (length space.history) = omega arith in
        ap (λ n. store_after set₀ log n (slice_index space.known row.broker - 1)) name-is
        ∙ fresh_store set₀ v.grant log space.name (slice_index space.known row.broker - 1) a.base
        ∙ given-store (is_opened log space.name) _ (ap (λ x. is_opened log x.name) read ∙ opened-there (head-of a) place space within)
        ∙ ap (λ ls. after (scope_of space.name) ls (slice_index space.known row.broker - 1) (begun v.grant space.name)) there.history
        ∙ ap (λ n. after (scope_of space.name) space.history n (begun v.grant space.name)) count
        ∙ sound.replicas.each row.broker l

    landed-answer : (number : ℕ) (w : Work) → row.stage ≡ stage.Landed place number w → number < slice_index space.known row.broker → StageAgrees a.entered set₀ log v.spaces row.by r.request (stage.Held (Some number) (carried_out w))
    landed-answer number w e l =
        let h = subst (StageAgrees a.entered set₀ log v.spaces row.by r.request) e r.staged in
        let landed : HasLanded log r.request.namespace row.by number = h.2 in
        let out : IsCarriedOut log row.by r.request number = record { authors = landed.authors; groups = landed.groups; landing = landed.landing; named = landed.named; told = has-heard number l } in (
          record { request = r.request; made = r.made; waits = record { asked = r.asked; unanswered = r.unanswered }; tells = work-tells w (is_landed row.by log) (is_denied row.by log) h.1; grounds = work-grounds w number h.0 out },
          work-made w,
          work-upheld a.entered set₀ log row.by w number _,
        )

    -- the broker has heard of the removal
    ended-answer : (asked : KvsAsk) → row.stage ≡ stage.Parked place asked → has_heard_end row.broker space ≡ true → StageAgrees a.entered set₀ log v.spaces row.by r.request (stage.Held None answer.NoNamespace)
    ended-answer asked e h =
        let g = subst (StageAgrees a.entered set₀ log v.spaces row.by r.request) e r.staged in
        let same : slice_index space.known row.broker ≡ slice_index space.known 0 = eq-is _ _ (and-right space.removed _ h) in
        let over : HasHeardRemoval log r.request.broker r.request.namespace = (
          ap (is_removed log) name-is ∙ there.removed ∙ and-left space.removed _ h,
          has-heard (landed log r.request.namespace) (let n = sound.newest in let t = there.last in let q : landed log r.request.namespace ≡ landed log space.name = ap (landed log) name-is in omega arith),
        ) in (
          record {
            request = r.request;
            made = r.made;
            waits = record { asked = r.asked; unanswered = r.unanswered };
            tells = (g.0.unlanded, g.0.undenied);
            grounds = (refl, lost r.request.ask (subst IsParkedAsk (sym g.1) g.2) over);
          },
          tt,
          tt,
        )
      where
        lost : (x : KvsAsk) → IsParkedAsk x → HasHeardRemoval log r.request.broker r.request.namespace → FindsNoNamespace log row.by r.request x
        lost (ask.Read query path) p o = inl o
        lost (ask.Wait number) p o = inl o
        lost _ p o = absurd p

    parked-answer : (asked : KvsAsk) → row.stage ≡ stage.Parked place asked → row.need < slice_index space.known row.broker → has_heard_end row.broker space ≡ false
        → StageAgrees a.entered set₀ log v.spaces row.by r.request (stage.Held (Some (slice_index space.known row.broker - 1)) (found_for (get_or space.stores row.broker []) asked))
    parked-answer asked e l off =
        let h = subst (StageAgrees a.entered set₀ log v.spaces row.by r.request) e r.staged in
        let needed : IsNeeded log row.by r.request row.need = r.needed in
        let is : row.need ≡ max (max (floor_at row.by log r.request.namespace) (heard_at log row.by r.request)) (awaited r.request.ask) = needed.needs in
        let fresh : IsFresh log row.by r.request.broker r.request.namespace (slice_index space.known row.broker - 1) = record {
          floor = omega arith;
          known = let f : heard_at log row.by r.request ≤ slice_index space.known row.broker - 1 = omega arith in f;
          told = has-heard _ (omega arith);
        } in
        found-legal asked h.2 h.1 (let w = ap awaited h.1 in omega arith) fresh (standing off (omega arith)) (h.0.unlanded, h.0.undenied)
      where
        -- no link of the store names a namespace
        own-there : store_after set₀ log r.request.namespace (slice_index space.known row.broker - 1) ≡ Some (get_or space.stores row.broker []) → HasOwnLinks (get_or space.stores row.broker [])
        own-there stands = subst (λ o. IfSome o HasOwnLinks) stands (stores_own set₀ log r.request.namespace (slice_index space.known row.broker - 1) (fresh_own set₀ v.grant a.base) (a.own r.request.namespace))

        found-legal : (asked : KvsAsk) → IsParkedAsk asked → r.request.ask ≡ asked → awaited asked ≤ slice_index space.known row.broker - 1 → IsFresh log row.by r.request.broker r.request.namespace (slice_index space.known row.broker - 1)
            → store_after set₀ log r.request.namespace (slice_index space.known row.broker - 1) ≡ Some (get_or space.stores row.broker []) → (is_landed row.by log ≡ false) × (is_denied row.by log ≡ false)
            → StageAgrees a.entered set₀ log v.spaces row.by r.request (stage.Held (Some (slice_index space.known row.broker - 1)) (found_for (get_or space.stores row.broker []) asked))
        found-legal (ask.Read query path) p e l fresh stands tells = (
          record {
            request = r.request;
            made = r.made;
            waits = record { asked = r.asked; unanswered = r.unanswered };
            tells = tells;
            grounds = (query, path, e, told_alone set₀ log row.by r.request query path (slice_index space.known row.broker - 1) (get_or space.stores row.broker []) stands (own-there stands) fresh);
          },
          tt,
          tt,
        )
        found-legal (ask.Wait number) p e l fresh stands tells = (
          record {
            request = r.request;
            made = r.made;
            waits = record { asked = r.asked; unanswered = r.unanswered };
            tells = tells;
            grounds = (number, e, (l, record { fresh = fresh; store = get_or space.stores row.broker []; standing = stands; held = tt }));
          },
          tt,
          tt,
        )
        found-legal (ask.Commit txn) p e l fresh stands tells = absurd p
        found-legal (ask.Fence name count txn) p e l fresh stands tells = absurd p
        found-legal ask.Root p e l fresh stands tells = absurd p
        found-legal ask.Create p e l fresh stands tells = absurd p
        found-legal ask.Remove p e l fresh stands tells = absurd p
        found-legal (ask.Store bytes) p e l fresh stands tells = absurd p
        found-legal (ask.Load reference) p e l fresh stands tells = absurd p
        found-legal ask.Flush p e l fresh stands tells = absurd p
        found-legal ask.DropClean p e l fresh stands tells = absurd p

    ended-is : has_ended v.spaces place row.broker ≡ has_heard_end row.broker space
    ended-is = ap (λ o. option_map_or (has_heard_end row.broker) o false) (slice_get-get_or v.spaces place space within) ∙ ap (has_heard_end row.broker) (sym read)

    either-answer : (asked : KvsAsk) → row.stage ≡ stage.Parked place asked → (nat_lt row.need (known_at v.spaces place row.broker) || has_ended v.spaces place row.broker) ≡ true
        → StageAgrees a.entered set₀ log v.spaces row.by r.request (answered (slice_index space.known row.broker) (has_heard_end row.broker space) (get_or space.stores row.broker []) (stage.Parked place asked))
    either-answer asked e come = by (has_heard_end row.broker space) refl
      where
        first : (x y : Bool) → (x || y) ≡ true → y ≡ false → x ≡ true
        first true y c f = refl
        first false y c f = absurd (true≢false (sym c ∙ f))

        by : (t : Bool) → has_heard_end row.broker space ≡ t → StageAgrees a.entered set₀ log v.spaces row.by r.request (answered (slice_index space.known row.broker) t (get_or space.stores row.broker []) (stage.Parked place asked))
        by true h = ended-answer asked e h
        by false h =
            let k = known-is in
            let l = lt-is row.need (known_at v.spaces place row.broker) (first _ (has_ended v.spaces place row.broker) come (ended-is ∙ h)) in
            parked-answer asked e (omega arith) h

  -- what the broker answers
  answer-staged : (space : SpaceValue) → IsPlaced v.fanout v.size v.spaces row → space ≡ get_or v.spaces (place_of row.stage) space → (st : Stage) → row.stage ≡ st → has_come v.spaces row.broker row.need st ≡ true → StageAgrees a.entered set₀ log v.spaces row.by r.request (answered (slice_index space.known row.broker) (has_heard_end row.broker space) (get_or space.stores row.broker []) st)
  answer-staged space p read (stage.Landed place number w) e come =
      let h = subst (StageAgrees a.entered set₀ log v.spaces row.by r.request) e r.staged in
      let at = subst (AtPlace v.fanout v.size v.spaces) e p.place in
      let there₀ : space ≡ get_or v.spaces place space = read ∙ ap (λ x. get_or v.spaces (place_of x) space) e in
      let c = lt-is number (known_at v.spaces place row.broker) come in
      let k = known-is place space at.0 there₀ h.3 in
      landed-answer place space at.0 there₀ h.3 number w e (omega arith)
  answer-staged space p read (stage.Ended given) e come = subst (StageAgrees a.entered set₀ log v.spaces row.by r.request) e r.staged
  answer-staged space p read (stage.Parked place asked) e come =
      let h = subst (StageAgrees a.entered set₀ log v.spaces row.by r.request) e r.staged in
      let at : place < length v.spaces = subst (AtPlace v.fanout v.size v.spaces) e p.place in
      let there₀ : space ≡ get_or v.spaces place space = read ∙ ap (λ x. get_or v.spaces (place_of x) space) e in
      either-answer place space at there₀ h.3 asked e come
  answer-staged space p read (stage.Returning from to place asked) e come = cc
  answer-staged space p read (stage.Rising from to asks) e come = cc
  answer-staged space p read (stage.Arrived asks) e come = cc
  answer-staged space p read (stage.Joined place w) e come = cc
  answer-staged space p read (stage.Falling from to given) e come = cc
  answer-staged space p read (stage.Held number given) e come = cc

  pub row-answered : (space : SpaceValue) → IsPlaced v.fanout v.size v.spaces row → space ≡ get_or v.spaces (place_of row.stage) space → has_come v.spaces row.broker row.need row.stage ≡ true → RowAgrees a.entered set₀ log v.spaces (with_stage (answered (slice_index space.known row.broker) (has_heard_end row.broker space) (get_or space.stores row.broker []) row.stage) row)
  row-answered space p read come = record {
    asked = r.asked;
    unanswered = r.unanswered;
    request = r.request;
    made = r.made;
    home = r.home;
    inside = r.inside;
    keys = r.keys;
    needed = r.needed;
    staged = answer-staged space p read row.stage refl come;
    tied = λ k d l. (served v.spaces row.broker row.need (slice_index space.known row.broker) (has_heard_end row.broker space) (get_or space.stores row.broker []) row.stage come).unjoined k ∙ r.tied k d l;
  }

-- the same, as the code comes to it
pub if-false : {A : Type 0} (b : Bool) (x y : A) → b ≡ false → (if b then x else y) ≡ y
if-false b x y e = ap (λ t. if t then x else y) e

module _ {v : KeysValue} (s : IsSound v) (broker : ℕ) (within : broker < v.size) (i : ℕ) (row : Row) (l : i < length v.rows) (read : row ≡ get_or v.rows i row) (waits : (d : Row) → is_arrived (get_or v.rows i d) ≡ false) (can : (d : Row) → may_serve v.spaces broker (get_or v.rows i d) ≡ true)
    (space : SpaceValue) (read-space : space ≡ get_or v.spaces (place_of row.stage) space) (known : ℕ) (knows : known ≡ slice_index space.known broker) (ended : Bool) (ends : ended ≡ has_heard_end broker space) (store : Store) (stores : store ≡ get_or space.stores broker []) where
  both : ((row.broker == broker) && has_come v.spaces broker row.need row.stage) ≡ true
  both =
      sym (if-false (is_arrived row) (broker == 0) ((row.broker == broker) && has_come v.spaces broker row.need row.stage) (ap is_arrived read ∙ waits row))
      ∙ ap (may_serve v.spaces broker) read ∙ can row

  home-is : row.broker ≡ broker
  home-is = eq-is row.broker broker (and-left (row.broker == broker) _ both)

  come : has_come v.spaces broker row.need row.stage ≡ true
  come = and-right (row.broker == broker) _ both

  new-row : Row
  new-row = with_stage (answered known ended store row.stage) row

  placed-here : IsPlaced v.fanout v.size v.spaces row
  placed-here = subst (IsPlaced v.fanout v.size v.spaces) (sym read) (s.placed i row l)

  answered-is : answered known ended store row.stage ≡ answered (slice_index space.known row.broker) (has_heard_end row.broker space) (get_or space.stores row.broker []) row.stage
  answered-is = ap (λ n. answered n ended store row.stage) (knows ∙ ap (slice_index space.known) (sym home-is)) ∙ ap (λ t. answered (slice_index space.known row.broker) t store row.stage) (ends ∙ ap (λ b. has_heard_end b space) (sym home-is)) ∙ ap (λ x. answered (slice_index space.known row.broker) (has_heard_end row.broker space) x row.stage) (stores ∙ ap (λ b. get_or space.stores b []) (sym home-is))

  module _ (rows : List Row) (now : (d : Row) → rows ≡ set v.rows i (with_stage (answered known ended store (get_or v.rows i d).stage) (get_or v.rows i d))) where
    rows-are : rows ≡ set v.rows i (with_stage (answered known ended store row.stage) row)
    rows-are = now row ∙ ap (λ x. set v.rows i (with_stage (answered known ended store x.stage) x)) (sym read)

    pub given-placed : ArePlaced v.fanout v.size v.spaces rows
    given-placed = subst (ArePlaced v.fanout v.size v.spaces) (sym rows-are) (All-set (IsPlaced v.fanout v.size v.spaces) v.rows i (with_stage (answered known ended store row.stage) row)
        (record { home = placed-here.home; place = (served v.spaces broker row.need known ended store row.stage come).place v.fanout v.size v.spaces }) s.placed)

    pub given-less : all_services rows < all_services v.rows
    given-less =
        let n = sum_by-set (λ x. services_left x.stage) v.rows i (with_stage (answered known ended store row.stage) row) row l in
        let o : services_left (get_or v.rows i row).stage ≡ services_left row.stage = ap (λ x. services_left x.stage) (sym read) in
        let e : all_services rows ≡ all_services (set v.rows i (with_stage (answered known ended store row.stage) row)) = ap all_services rows-are in
        let q = (served v.spaces broker row.need known ended store row.stage come).less in
        omega arith

    pub given-agrees : {set₀ : Setting} {log : Log} (a : Agrees v set₀ log) → RowsAgree a.entered set₀ log v.spaces rows
    given-agrees {set₀} {log} a =
        let r : RowAgrees a.entered set₀ log v.spaces row = subst (RowAgrees a.entered set₀ log v.spaces) (sym read) (a.rows i row l) in
        let home : row.broker < v.size = subst (λ b. b < v.size) (sym home-is) within in
        let come₀ : has_come v.spaces row.broker row.need row.stage ≡ true = ap (λ b. has_come v.spaces b row.need row.stage) home-is ∙ come in
        let new : RowAgrees a.entered set₀ log v.spaces (with_stage (answered known ended store row.stage) row) = subst (λ st. RowAgrees a.entered set₀ log v.spaces (with_stage st row)) (sym answered-is) (row-answered s a row r home space placed-here read-space come₀) in
        subst (RowsAgree a.entered set₀ log v.spaces) (sym rows-are) (rows-moved (rows-of a) i l (with_stage (answered known ended store row.stage) row) (λ d. ap (λ x. x.by) read ∙ ap (λ x. x.by) (get_or_default v.rows i row d l)) new)
