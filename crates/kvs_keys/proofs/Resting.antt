-- A service of keys at its beginning, and one where no step is left.
use Rattle.std.specs.Prelude.{slice_index, nat_lt}
use Rattle.std.proofs.Common.{◌≡◌, ℕ, zero, suc, ◌+◌, ◌<◌, ◌≤◌, inl, inr, List, [], ◌∷◌, ◌++◌, ◌⊎◌, length, map, max, Bool, true, false, cond, if◌then◌else◌, ◌&&◌, ◌||◌, ◌==◌, Option, option_map, Some, None, IsSome, refl, sym, ap, ◌∙◌, subst, arith, get_or, true≢false, is_some, not}
use Rattle.std.specs.List.{list_any, position}
use Rattle.std.specs.Option.{option_map_or}
use Rattle.std.proofs.lemmas.Bool.{cases_eq, cases_lt}
use Rattle.std.proofs.lemmas.List.{get_or_default}
use Rattle.std.proofs.lemmas.List.Folds.{list_any_at}
use Rattle.std.proofs.lemmas.List.Sums.{sum_by-cons}
use Rattle.std.proofs.lemmas.Option.{slice_get-get_or}
use Rattle.std.proofs.lemmas.Bool.Decides.{nat_tests}
use Rattle.kvs_txn.specs.declared.txn.Group.{Group}
use Rattle.kvs_txn.specs.declared.txn.By.{By}
use Rattle.kvs_model.specs.Store.{Name}
use Rattle.kvs_rules.specs.Log.{Log, IsOpen, IsPending, floor_at, same_command}
use Rattle.kvs_rules.specs.OneStore.{AsksOwn}
use Rattle.kvs_rules.specs.Namespaces.{Setting, Request, Asks, fresh, landed, primary, is_primary, is_live, is_opened, is_removed}
use Rattle.kvs_rules.specs.Brokers.{heard, parent}
use Rattle.kvs_rules.specs.Landings.{AreFresh, IsFreshCommand, IsMember}
use Rattle.kvs_rules.specs.Quiet.{IsLeft, IsQuiet, IsShortFence, AreAllTold}
use Rattle.kvs_rules.specs.Sequence.{AreDistinct}
use Rattle.kvs_rules.specs.declared.events.KvsAsk.{KvsAsk}
use Rattle.kvs_rules.specs.declared.events.KvsAsk.TheVariants as ask
use Rattle.kvs_txn.specs.declared.txn.Txn.{Txn}
use Rattle.fence_merge.specs.Groups.{authors_of, group_of}
use Rattle.fence_merge.specs.Fences.{Fence, fence_of}
use Rattle.kvs_rules.specs.declared.events.KvsStep.TheVariants as kvs
use Rattle.kvs_requests.specs.declared.rows.Row.{Row}
use Rattle.kvs_requests.specs.declared.rows.Work.TheVariants as work
use Rattle.kvs_requests.specs.declared.rows.Stage.{Stage}
use Rattle.kvs_requests.specs.declared.rows.Stage.TheVariants as stage
use Rattle.kvs_space.specs.Links.{greatest}
use Rattle.kvs_space.specs.Space.{SpaceValue, number_of, roots_of, known_at, name_at, link_at, has_news, is_behind, carries, queued, members_in, is_authored, is_named, is_ready, has_heard_end, live_in}
use Rattle.kvs_keys.specs.Steps.{is_announced, IsStill}
use Rattle.kvs_requests.specs.Stages.{is_on, is_message, is_held, is_held_stage, is_arrived, is_arrived_stage, joined_in, may_serve, has_come, has_ended}
use Rattle.kvs_keys.specs.Value.{KeysValue}
use Rattle.kvs_space.specs.Sound.{IsLiveOrGone, IsSoundSpace}
use Rattle.kvs_keys.specs.Sound.{IsSound}
use Rattle.kvs_requests.specs.Rows.{IsPlaced, AtPlace, asks_contents, awaited}
use Rattle.kvs_keys.specs.Agrees.{Agrees, SpaceAgrees}
use Rattle.kvs_keys.specs.Turns.{HasFence, IsComing, is_coming_stage}
use Rattle.kvs_requests.specs.Agreement.{RowAgrees, StageAgrees, IsNeeded, IsParkedAsk, heard_at}
use Rattle.kvs_space.proofs.Announced.{parent-below}
use Rattle.kvs_space.proofs.Finding.{and-left, or-left, or-right, both-true, eq-true, lt-true, found-within, none-passes}
use Rattle.kvs_keys.proofs.Heads.{head-of, opened-there}
use Rattle.kvs_keys.proofs.Heard.{heard-found, heard-lost, no-space, opened-is}
use Rattle.kvs_keys.proofs.Moving.{found-name}
use Rattle.kvs_keys.proofs.Serving.{some-is, if-false}
use Rattle.kvs_requests.proofs.Tables.{same-self}
use Rattle.kvs_keys.proofs.Carried.{plain-asks, waiting, waiting-queued, authored-is, distinct-right}
use Rattle.kvs_keys.proofs.Delivering.{other-names}
use Rattle.kvs_keys.proofs.Joining.{long-authors}
use Rattle.kvs_keys.proofs.Members.{found-member, member-asks, fence-distinct, fence-carried, open-short, among-any, any-among}

-- a service of keys at its beginning
module _ (size fanout : ℕ) (grant : List ℕ) (space : SpaceValue) (s : 1 ≤ size) (f : 1 ≤ fanout) (name : space.name ≡ primary) (removed : space.removed ≡ false) (history : space.history ≡ []) (merger : space.merger ≡ record { fences = []; ready = [] })
    (long : length space.known ≡ size) (known : (b : ℕ) → b < size → slice_index space.known b ≡ 1) (sound : (fanout : ℕ) → IsSoundSpace fanout grant space) where
  only : (P : SpaceValue → Type 0) → P space → (k : ℕ) (d : SpaceValue) → k < length (space ∷ []) → P (get_or (space ∷ []) k d)
  only P h zero d l = h
  only P h (suc k) d l = absurd (omega arith)

  pub begun-sound : IsSound (record { spent = false; size = size; fanout = fanout; grant = grant; spaces = space ∷ []; rows = [] })
  begun-sound = record {
    fanout = f;
    size = s;
    brokers = only (λ x. length x.known ≡ size) long;
    spaces = only (IsSoundSpace fanout grant) (sound fanout);
    few = omega arith;
    room =
        let e = sum_by-cons (λ x. cond (not x.removed) 1 0) space [] in
        let o : ◌≡◌ {A = ℕ} (cond (not space.removed) 1 0) 1 = ap (λ b. cond (not b) 1 0) removed in
        let z : live_in (space ∷ []) ≡ 1 = e ∙ ap (λ n. n + 0) o in
        omega arith;
    first = ap Some name;
    apart = λ j k d lt l. absurd (omega arith);
    placed = λ k d q. absurd (omega arith);
  }

  -- the same, as the code has it
  pub begun-as : (kept : List ℕ) (spaces : List SpaceValue) (rows : List Row) → kept ≡ grant → spaces ≡ space ∷ [] → rows ≡ [] → IsSound (record { spent = false; size = size; fanout = fanout; grant = kept; spaces = spaces; rows = rows })
  begun-as kept spaces rows k ss rs = subst IsSound (sym is) begun-sound
    where
      is : ◌≡◌ {A = KeysValue} (record { spent = false; size = size; fanout = fanout; grant = kept; spaces = spaces; rows = rows }) (record { spent = false; size = size; fanout = fanout; grant = grant; spaces = space ∷ []; rows = [] })
      is = λ j. record { spent = false; size = size; fanout = fanout; grant = k j; spaces = ss j; rows = rs j }

  pub begun-agrees : (set₀ : Setting) → set₀.size ≡ size → set₀.fanout ≡ fanout → set₀.base ≡ fresh grant → AsksOwn set₀ → Agrees (record { spent = false; size = size; fanout = fanout; grant = grant; spaces = space ∷ []; rows = [] }) set₀ []
  begun-agrees set₀ e g h links = record {
    size = e;
    fanout = g;
    base = h;
    links = links;
    own = λ space. tt;
    names = ap (λ n. n ∷ []) name;
    spaces = only (SpaceAgrees set₀ [] size) (record {
      history = sym history;
      last = rw (history, removed) refl;
      removed = sym removed;
      told = λ b l. ap (λ n. cond (is_primary n) (Some 0) None) name ∙ ap number_of (sym (known b l));
      kinds = rw merger tt;
      joining = rw merger tt;
      fresh = rw merger (record { differ = tt; fresh = tt });
    });
    untold = λ n q. record { unheard = λ b. ap (λ t. cond t (Some 0) None) (or-left (is_primary n) _ q); unlanded = refl; unnumbered = refl; unremoved = refl };
    rows = λ k d q. absurd (omega arith);
    apart = λ j k d p q. absurd (omega arith);
    entered = λ by. false;
    strange = λ by some q. record { undecided = record { unlanded = refl; undenied = refl }; unanswered = refl };
    outside = λ by q. refl;
    open_rows = λ by plain o. absurd (true≢false (sym o.asked));
    turns = λ settled. record { let_in = λ by h. absurd (true≢false (sym h)); coming = λ by c. let l = c.within in absurd (omega arith) };
  }

  -- the same, as the code has it
  pub begun-agrees-as : (kept : List ℕ) (spaces : List SpaceValue) (rows : List Row) → kept ≡ grant → spaces ≡ space ∷ [] → rows ≡ [] → (set₀ : Setting) → set₀.size ≡ size → set₀.fanout ≡ fanout → set₀.base ≡ fresh grant → AsksOwn set₀
      → Agrees (record { spent = false; size = size; fanout = fanout; grant = kept; spaces = spaces; rows = rows }) set₀ []
  begun-agrees-as kept spaces rows k ss rs set₀ e g h links = subst (λ v. Agrees v set₀ []) (sym is) (begun-agrees set₀ e g h links)
    where
      is : ◌≡◌ {A = KeysValue} (record { spent = false; size = size; fanout = fanout; grant = kept; spaces = spaces; rows = rows }) (record { spent = false; size = size; fanout = fanout; grant = grant; spaces = space ∷ []; rows = [] })
      is = λ j. record { spent = false; size = size; fanout = fanout; grant = k j; spaces = ss j; rows = rs j }

no-any : {X : Type 0} (p : X → Bool) (xs : List X) (k : ℕ) (x : X) → k < length xs → x ≡ get_or xs k x → p x ≡ true → list_any p xs ≡ false → ⊥
no-any p xs k x l read h none = true≢false (sym (list_any_at p xs k x l (ap p (sym read) ∙ h)) ∙ none)

empty-link : (ns : List ℕ) → nat_lt 0 (length ns) ≡ false → ns ≡ []
empty-link [] e = refl
empty-link (n ∷ ns) e = absurd (true≢false (sym (lt-true 0 (length (n ∷ ns)) (omega arith)) ∙ e))

untrue : (b : Bool) → (b ≡ true → ⊥) → b ≡ false
untrue true h = absurd (h refl)
untrue false h = refl

-- a namespace in which something waits is live
carrying-live : (x : SpaceValue) (by : By) → IsLiveOrGone x → carries x by ≡ true → x.removed ≡ false
carrying-live x by (inl live) c = live
carrying-live x by (inr gone) c = absurd (true≢false (sym c ∙ ap (λ m. list_any (is_authored by) (queued m)) gone.1))

module _ (v : KeysValue) (s : IsSound v) (still : IsStill v) where
  -- no announcement is on the way to a broker, and none has missed one
  no-news : (b : ℕ) → 0 < b → b < v.size → list_any (has_news b) v.spaces ≡ false
  no-news b pos l =
      let off = or-left (is_announced v (parent v.fanout b) b) _ (still.steps (kvs.Deliver (parent v.fanout b) b)) in
      let on : (nat_lt 0 b && nat_lt b v.size && (parent v.fanout b == parent v.fanout b)) ≡ true = both-true _ _ (both-true _ _ (lt-true 0 b pos) (lt-true b v.size l)) (eq-true _ _ refl) in
      by _ _ on off
    where
      by : (x y : Bool) → x ≡ true → (x && y) ≡ false → y ≡ false
      by true y e f = f
      by false y e f = cc

  nothing-missed : (b : ℕ) → 0 < b → b < v.size → list_any (is_behind v.fanout b) v.spaces ≡ false
  nothing-missed b pos l = by _ _ (both-true _ _ (lt-true b v.size l) (ap not (no-news b pos l))) (still.steps (kvs.Resync b))
    where
      by : (x y : Bool) → x ≡ true → (x && y) ≡ false → y ≡ false
      by true y e f = f
      by false y e f = cc

  unannounced : (k : ℕ) (space : SpaceValue) → k < length v.spaces → space ≡ get_or v.spaces k space → (b : ℕ) → 0 < b → b < v.size → link_at space.links b ≡ []
  unannounced k space within read b pos l =
      empty-link (link_at space.links b) (untrue (has_news b space) (λ t. no-any (has_news b) v.spaces k space within read t (no-news b pos l)))

  module _ (k : ℕ) (space : SpaceValue) (within : k < length v.spaces) (read : space ≡ get_or v.spaces k space) where
    sound : IsSoundSpace v.fanout v.grant space
    sound = subst (IsSoundSpace v.fanout v.grant) (sym read) (s.spaces k space within)

    long : length space.known ≡ v.size
    long = ap (λ x. length x.known) read ∙ s.brokers k space within

    caught-up : (b : ℕ) → 0 < b → b < v.size → slice_index space.known (parent v.fanout b) ≤ slice_index space.known b
    caught-up b pos h = at (cases_lt (slice_index space.known b) (slice_index space.known (parent v.fanout b)))
      where
        at : (slice_index space.known b < slice_index space.known (parent v.fanout b)) ⊎ (slice_index space.known (parent v.fanout b) ≤ slice_index space.known b) → slice_index space.known (parent v.fanout b) ≤ slice_index space.known b
        at (inl less) = absurd (no-any (is_behind v.fanout b) v.spaces k space within read (both-true _ _ (lt-true b (length space.known) (let n = long in omega arith)) (lt-true _ _ less)) (nothing-missed b pos h))
        at (inr more) = more

    known-fuel : (fuel b : ℕ) → b < fuel → b < v.size → slice_index space.known b ≡ roots_of space
    known-fuel zero b f h = absurd (omega arith)
    known-fuel (suc fuel) b f h = elim (cases_eq b 0) [
      | inl e ↦ ap (slice_index space.known) e ∙ sound.newest
      | inr ne ↦
          let pos : 0 < b = omega arith in
          let pb : parent v.fanout b < b = parent-below v.fanout b pos in
          let up : slice_index space.known (parent v.fanout b) ≡ roots_of space = known-fuel fuel (parent v.fanout b) (omega arith) (omega arith) in
          let none = ap (greatest (slice_index space.known b)) (unannounced k space within read b pos h) in
          let under = sound.announced.under b pos (let n = long in omega arith) in
          let over = caught-up b pos h in
          omega (arith, none, under, over, up)
    ]

    pub all-known : (b : ℕ) → b < v.size → slice_index space.known b ≡ roots_of space
    all-known b h = known-fuel (suc b) b (omega arith) h

  unserved : (k : ℕ) (row : Row) → k < length v.rows → row ≡ get_or v.rows k row → IsPlaced v.fanout v.size v.spaces row → is_arrived row ≡ false → has_come v.spaces row.broker row.need row.stage ≡ true → ⊥
  unserved k row l read p waits come =
      let off : list_any (may_serve v.spaces row.broker) v.rows ≡ false = by _ _ (lt-true row.broker v.size p.home) (still.steps (kvs.Serve row.broker)) in
      no-any (may_serve v.spaces row.broker) v.rows k row l read (if-false (is_arrived row) (row.broker == 0) ((row.broker == row.broker) && has_come v.spaces row.broker row.need row.stage) waits ∙ both-true _ _ (eq-true row.broker row.broker refl) come) off
    where
      by : (x y : Bool) → x ≡ true → (x && y) ≡ false → y ≡ false
      by true y e f = f
      by false y e f = cc

  untaken : (k : ℕ) (row : Row) → k < length v.rows → row ≡ get_or v.rows k row → is_arrived row ≡ true → ⊥
  untaken k row l read arrived =
      let off : list_any (may_serve v.spaces 0) v.rows ≡ false = by _ _ (lt-true 0 v.size s.size) (still.steps (kvs.Serve 0)) in
      no-any (may_serve v.spaces 0) v.rows k row l read (if-true (is_arrived row) true ((row.broker == 0) && has_come v.spaces 0 row.need row.stage) arrived) off
    where
      by : (x y : Bool) → x ≡ true → (x && y) ≡ false → y ≡ false
      by true y e f = f
      by false y e f = cc

      if-true : (b x y : Bool) → b ≡ true → (if b then x else y) ≡ x
      if-true b x y e = ap (λ t. if t then x else y) e

  -- nobody is on the way to rank 0
  pub nobody-comes : (by : By) → IsComing v.rows by → ⊥
  nobody-comes by c = on row.stage refl (c.comes first)
    where
      first : Row
      first = record { by = by; broker = 0; namespace = []; need = 0; stage = stage.Joined 0 work.Commit }

      row : Row
      row = get_or v.rows c.place first

      read : row ≡ get_or v.rows c.place row
      read = get_or_default v.rows c.place first row c.within

      on : (st : Stage) → row.stage ≡ st → is_coming_stage row.stage ≡ true → ⊥
      on (stage.Rising from to asks) e h =
          no-any (is_on from to) v.rows c.place row c.within read (ap (λ x. is_message from to x) e ∙ both-true _ _ (eq-true from from refl) (eq-true to to refl)) (or-right (is_announced v from to) _ (still.steps (kvs.Deliver from to)))
      on (stage.Arrived asks) e h = untaken c.place row c.within read (ap is_arrived_stage e)
      on (stage.Joined place work) e h = true≢false (sym h ∙ ap is_coming_stage e)
      on (stage.Landed place n work) e h = true≢false (sym h ∙ ap is_coming_stage e)
      on (stage.Falling from to given) e h = true≢false (sym h ∙ ap is_coming_stage e)
      on (stage.Ended given) e h = true≢false (sym h ∙ ap is_coming_stage e)
      on (stage.Returning from to place asked) e h = true≢false (sym h ∙ ap is_coming_stage e)
      on (stage.Parked place asked) e h = true≢false (sym h ∙ ap is_coming_stage e)
      on (stage.Held n given) e h = true≢false (sym h ∙ ap is_coming_stage e)

  nothing-ready : (k : ℕ) (d : SpaceValue) → k < length v.spaces → (get_or v.spaces k d).merger.ready ≡ []
  nothing-ready k d l = at (get_or v.spaces k d).merger.ready (ap (λ o. option_map_or is_ready o false) (sym (slice_get-get_or v.spaces k d l)) ∙ still.steps (kvs.Land k))
    where
      at : (ready : List Group) → nat_lt 0 (length ready) ≡ false → ready ≡ []
      at [] e = refl
      at (g ∷ gs) e = absurd (true≢false (sym (lt-true 0 (length (g ∷ gs)) (omega arith)) ∙ e))

  -- what waits in a namespace is a member of an open fence
  only-members : (k : ℕ) (d : SpaceValue) (by : By) → k < length v.spaces → carries (get_or v.spaces k d) by ≡ true → list_any (is_authored by) (map (group_of []) (members_in (get_or v.spaces k d).merger.fences)) ≡ true
  only-members k d by l c = sym (ap (λ gs. list_any (is_authored by) (gs ++ map (group_of []) (members_in (get_or v.spaces k d).merger.fences))) (nothing-ready k d l)) ∙ c

  -- where no number is on its way, who hasn't heard of a removal stands before a live namespace
  unended : (place : ℕ) → place < length v.spaces → (b : ℕ) → b < v.size → has_ended v.spaces place b ≡ false → (get_or v.spaces place no-space).removed ≡ false
  unended place l b h off = left (get_or v.spaces place no-space).removed _ (eq-true (slice_index (get_or v.spaces place no-space).known b) (slice_index (get_or v.spaces place no-space).known 0) same) (sym (ap (λ o. option_map_or (has_heard_end b) o false) (slice_get-get_or v.spaces place no-space l)) ∙ off)
    where
      same : slice_index (get_or v.spaces place no-space).known b ≡ slice_index (get_or v.spaces place no-space).known 0
      same =
          let read = get_or_default v.spaces place no-space (get_or v.spaces place no-space) l in
          all-known place (get_or v.spaces place no-space) l read b h ∙ sym (all-known place (get_or v.spaces place no-space) l read 0 s.size)

      left : (x y : Bool) → y ≡ true → (x && y) ≡ false → x ≡ false
      left true y e f = absurd (true≢false (sym e ∙ f))
      left false y e f = refl

  not-less : (a b : ℕ) → nat_lt a b ≡ false → b ≤ a
  not-less a b e = grind (arith, nat_tests)

  known-read : (place : ℕ) (d : SpaceValue) (b : ℕ) → place < length v.spaces → known_at v.spaces place b ≡ slice_index (get_or v.spaces place d).known b
  known-read place d b l = ap (λ o. option_map_or (λ x. slice_index x.known b) o 0) (slice_get-get_or v.spaces place d l)

  known-roots : (place : ℕ) (d : SpaceValue) (b : ℕ) → place < length v.spaces → b < v.size → known_at v.spaces place b ≡ roots_of (get_or v.spaces place d)
  known-roots place d b l h = known-read place d b l ∙ all-known place (get_or v.spaces place d) l (get_or_default v.spaces place d (get_or v.spaces place d) l) b h

  known-same : (place : ℕ) → place < length v.spaces → (b : ℕ) → b < v.size → known_at v.spaces place b ≡ known_at v.spaces place 0
  known-same place l b h =
      let d : SpaceValue = record { name = []; removed = false; history = []; known = []; stores = []; links = []; merger = record { fences = []; ready = [] } } in
      known-roots place d b l h ∙ sym (known-roots place d 0 l s.size)

  module _ {set₀ : Setting} {log : Log} (a : Agrees v set₀ log) where
    known-landed : (place : ℕ) → place < length v.spaces → (b : ℕ) → b < v.size → (name : Name) → name_at v.spaces place ≡ Some name → known_at v.spaces place b ≡ suc (landed log name)
    known-landed place l b h name n =
        let d : SpaceValue = record { name = []; removed = false; history = []; known = []; stores = []; links = []; merger = record { fences = []; ready = [] } } in
        let is : (get_or v.spaces place d).name ≡ name = some-is _ _ (ap (option_map (λ x. x.name)) (sym (slice_get-get_or v.spaces place d l)) ∙ n) in
        known-roots place d b l h ∙ sym (a.spaces place d l).last ∙ ap (λ x. suc (landed log x)) is

    still-told : AreAllTold set₀ log
    still-told broker name l some = by (position (is_named name) v.spaces) refl
      where
        within : broker < v.size
        within = subst (λ n. broker < n) a.size l

        by : (o : Option ℕ) → position (is_named name) v.spaces ≡ o → heard log broker name ≡ Some (landed log name)
        by None e = absurd (true≢false (sym (subst IsSome (sym (heard-lost a broker name (sym e))) some)))
        by (Some k) e =
            let there = found-within (is_named name) v.spaces k (sym e) in
            let space : SpaceValue = get_or v.spaces k (none-space) in
            let read : space ≡ get_or v.spaces k space = get_or_default v.spaces k none-space space there in
            let sa : SpaceAgrees set₀ log v.size space = a.spaces k none-space there in
            let is : space.name ≡ name = found-name s name k (sym e) none-space in
            sym (heard-found s a broker name k space within (sym e) read) ∙ ap number_of (all-known k space there read broker within ∙ sym sa.last) ∙ ap (λ n. Some (landed log n)) is
          where
            none-space : SpaceValue
            none-space = record { name = []; removed = false; history = []; known = []; stores = []; links = []; merger = record { fences = []; ready = [] } }

    -- a member of an open fence of the namespace at this place
    record IsCome (by : By) (request : Request) : Type 0 where
      pub place : ℕ
      pub within : place < length v.spaces
      pub named : (get_or v.spaces place no-space).name ≡ request.namespace
      pub living : (get_or v.spaces place no-space).removed ≡ false
      pub pending : IsPending by log
      pub name : List ℕ
      pub fence : Fence
      pub there : fence_of name (get_or v.spaces place no-space).merger.fences ≡ Some fence
      pub inside : list_any (same_command by) (authors_of fence.members) ≡ true
      pub txn : Txn
      pub asked : request.ask ≡ ask.Fence name fence.count txn

    -- a request of a namespace at this place, whose broker hasn't heard what it waits for
    record IsBehind (by : By) (request : Request) : Type 0 where
      pub place : ℕ
      pub within : place < length v.spaces
      pub named : (get_or v.spaces place no-space).name ≡ request.namespace
      pub living : (get_or v.spaces place no-space).removed ≡ false
      pub pending : IsPending by log
      pub parked : IsParkedAsk request.ask
      pub late : landed log request.namespace < max (floor_at by log request.namespace) (awaited request.ask)

    living-at : (place : ℕ) → place < length v.spaces → (name : Name) → (get_or v.spaces place no-space).name ≡ name → (get_or v.spaces place no-space).removed ≡ false → is_live log name ≡ true
    living-at place l name named live =
        let opened : is_opened log (get_or v.spaces place no-space).name ≡ true = opened-there (head-of a) place no-space l in
        let kept : is_removed log (get_or v.spaces place no-space).name ≡ false = (a.spaces place no-space l).removed ∙ live in
        ap (is_live log) (sym named) ∙ live-so (is_opened log (get_or v.spaces place no-space).name) (is_removed log (get_or v.spaces place no-space).name) opened kept
      where
        live-so : (x y : Bool) → x ≡ true → y ≡ false → (x && not y) ≡ true
        live-so x y e f = rw (e, f) refl

    name-there : (place : ℕ) → place < length v.spaces → (name : Name) → name_at v.spaces place ≡ Some name → (get_or v.spaces place no-space).name ≡ name
    name-there place l name n = some-is _ _ (ap (option_map (λ x. x.name)) (sym (slice_get-get_or v.spaces place no-space l)) ∙ n)

    come : (place : ℕ) → place < length v.spaces → (by : By) (request : Request) → set₀.asks by ≡ Some request → (get_or v.spaces place no-space).name ≡ request.namespace → IsPending by log → carries (get_or v.spaces place no-space) by ≡ true → IsCome by request
    come place l by request made named pending c =
        let found = found-member (get_or v.spaces place no-space).merger.fences (s.spaces place no-space l).fences.apart by (only-members place no-space by l c) in
        let asks = member-asks set₀ (get_or v.spaces place no-space).name found.name (get_or v.spaces place no-space).merger.fences (a.spaces place no-space l).joining found.fence found.there by found.inside in
        let same : asks.1.request ≡ request = some-is asks.1.request request (sym asks.1.made ∙ made) in
        record {
          place = place;
          within = l;
          named = named;
          living = carrying-live (get_or v.spaces place no-space) by (s.spaces place no-space l).living c;
          pending = pending;
          name = found.name;
          fence = found.fence;
          there = found.there;
          inside = found.inside;
          txn = asks.0;
          asked = ap (λ q. q.ask) (sym same) ∙ asks.1.asked;
        }

    waits : (k : ℕ) (row : Row) → k < length v.rows → row ≡ get_or v.rows k row → (r : RowAgrees a.entered set₀ log v.spaces row) → IsPlaced v.fanout v.size v.spaces row → (st : Stage) → row.stage ≡ st → StageAgrees a.entered set₀ log v.spaces row.by r.request st → IsBehind row.by r.request ⊎ IsCome row.by r.request
    waits k row l read r p (stage.Rising from to asks) e g =
        absurd (no-any (is_on from to) v.rows k row l read (ap (λ x. is_message from to x) e ∙ both-true _ _ (eq-true from from refl) (eq-true to to refl)) (or-right (is_announced v from to) _ (still.steps (kvs.Deliver from to))))
    waits k row l read r p (stage.Falling from to given) e g =
        absurd (no-any (is_on from to) v.rows k row l read (ap (λ x. is_message from to x) e ∙ both-true _ _ (eq-true from from refl) (eq-true to to refl)) (or-right (is_announced v from to) _ (still.steps (kvs.Deliver from to))))
    waits k row l read r p (stage.Arrived asks) e g = absurd (untaken k row l read (ap is_arrived_stage e))
    waits k row l read r p (stage.Joined place w) e g =
        let at : place < length v.spaces = subst (AtPlace v.fanout v.size v.spaces) e p.place in
        inr (come place at row.by r.request r.made (name-there place at r.request.namespace g.2) (record { waits = record { asked = r.asked; unanswered = r.unanswered }; unlanded = g.0.unlanded; undenied = g.0.undenied })
        (sym (r.tied place no-space at) ∙ ap (joined_in place) e ∙ eq-true place place refl))
    waits k row l read r p (stage.Landed place number w) e g =
        let at = subst (AtPlace v.fanout v.size v.spaces) e p.place in
        let same = known-same place at.0 row.broker p.home in
        let under = at.1 in
        let come : number < known_at v.spaces place row.broker = omega arith in
        absurd (unserved k row l read p (ap is_arrived_stage e) (ap (has_come v.spaces row.broker row.need) e ∙ lt-true number (known_at v.spaces place row.broker) come))
    waits k row l read r p (stage.Ended given) e g = absurd (unserved k row l read p (ap is_arrived_stage e) (ap (has_come v.spaces row.broker row.need) e))
    waits k row l read r p (stage.Returning from to place asked) e g =
        absurd (no-any (is_on from to) v.rows k row l read (ap (λ x. is_message from to x) e ∙ both-true _ _ (eq-true from from refl) (eq-true to to refl)) (or-right (is_announced v from to) _ (still.steps (kvs.Deliver from to))))
    waits k row l read r p (stage.Parked place asked) e g = by (nat_lt row.need (known_at v.spaces place row.broker)) (has_ended v.spaces place row.broker) refl refl
      where
        come-so : (nat_lt row.need (known_at v.spaces place row.broker) || has_ended v.spaces place row.broker) ≡ true → ⊥
        come-so f = unserved k row l read p (ap is_arrived_stage e) (ap (has_come v.spaces row.broker row.need) e ∙ f)

        by : (t u : Bool) → nat_lt row.need (known_at v.spaces place row.broker) ≡ t → has_ended v.spaces place row.broker ≡ u → IsBehind row.by r.request ⊎ IsCome row.by r.request
        by true u f h = absurd (come-so (ap (λ t. t || has_ended v.spaces place row.broker) f))
        by false true f h = absurd (come-so (ap (λ t. t || has_ended v.spaces place row.broker) f ∙ h))
        by false false f h =
            let at : place < length v.spaces = subst (AtPlace v.fanout v.size v.spaces) e p.place in
            let needed : IsNeeded log row.by r.request row.need = r.needed in
            let is : row.need ≡ max (max (floor_at row.by log r.request.namespace) (heard_at log row.by r.request)) (awaited r.request.ask) = needed.needs in
            let low = needed.low in
            let all : known_at v.spaces place row.broker ≡ suc (landed log r.request.namespace) = known-landed place at row.broker p.home r.request.namespace g.3 in
            let no = not-less row.need (known_at v.spaces place row.broker) f in
            let late : landed log r.request.namespace < max (floor_at row.by log r.request.namespace) (awaited r.request.ask) = omega arith in
            inl (record {
              place = place;
              within = at;
              named = name-there place at r.request.namespace g.3;
              living = unended place at row.broker p.home h;
              pending = record { waits = record { asked = r.asked; unanswered = r.unanswered }; unlanded = g.0.unlanded; undenied = g.0.undenied };
              parked = subst IsParkedAsk (sym g.1) g.2;
              late = late;
            })
    waits k row l read r p (stage.Held number given) e g =
        absurd (no-any (λ x. same_command row.by x.by && is_held x) v.rows k row l read (both-true _ _ (same-self row.by) (ap is_held_stage e)) (still.answers row.by))

    -- no command that waits asks about contents
    abbrev pub ArePlain : Type 0
    ArePlain = (by : By) → IsOpen by log → asks_contents set₀ by ≡ false

    -- what a command waits for that asks nothing about contents
    waits-of : (by : By) → asks_contents set₀ by ≡ false → (request : Request) → IsOpen by log → set₀.asks by ≡ Some request → IsBehind by request ⊎ IsCome by request
    waits-of by plain request o made =
        let at = a.open_rows by plain o in
        let any : Row = record { by = by; broker = 0; namespace = []; need = 0; stage = stage.Joined 0 work.Commit } in
        let row : Row = get_or v.rows at.0 any in
        let read : row ≡ get_or v.rows at.0 row = get_or_default v.rows at.0 any row at.1 in
        let r : RowAgrees a.entered set₀ log v.spaces row = a.rows at.0 any at.1 in
        let is : row.by ≡ by = at.2 any in
        let same : r.request ≡ request = some-is r.request request (sym r.made ∙ ap set₀.asks is ∙ made) in
        let w = waits at.0 row at.1 read r (s.placed at.0 any at.1) row.stage refl r.staged in
        subst (λ q. IsBehind by q ⊎ IsCome by q) same (subst (λ b. IsBehind b r.request ⊎ IsCome b r.request) is w)

    waits-so : ArePlain → (by : By) (request : Request) → IsOpen by log → set₀.asks by ≡ Some request → IsBehind by request ⊎ IsCome by request
    waits-so plain by request o made = waits-of by (plain by o) request o made

    -- the fence of a member that waits is open
    pub member-met : (x : By) (space : Name) (fence : List ℕ) (count : ℕ) → IsMember set₀ log space fence count x → HasFence v.spaces space fence count
    member-met x space fence count m = on (waits-of x (plain-asks set₀ space x (ask.Fence fence count m.1.0) m.1.1 refl) m.1.1.request m.0.waits m.1.1.made)
      where
        on : IsBehind x m.1.1.request ⊎ IsCome x m.1.1.request → HasFence v.spaces space fence count
        on (inl q) = absurd (subst IsParkedAsk m.1.1.asked q.parked)
        on (inr d) =
            let e : ask.Fence fence count m.1.0 ≡ ask.Fence d.name d.fence.count d.txn = sym m.1.1.asked ∙ d.asked in
            let names : fence ≡ d.name = cc in
            let counts : count ≡ d.fence.count = cc in
            record {
              place = d.place;
              within = d.within;
              named = λ x₁. ap (λ y. y.name) (get_or_default v.spaces d.place x₁ no-space d.within) ∙ d.named ∙ m.1.1.inside;
              kept = λ x₁. ap (λ y. option_map (λ f. f.count) (fence_of fence y.merger.fences)) (get_or_default v.spaces d.place x₁ no-space d.within)
                  ∙ ap (λ n. option_map (λ f. f.count) (fence_of n (get_or v.spaces d.place no-space).merger.fences)) names ∙ ap (option_map (λ f. f.count)) d.there ∙ ap Some (sym counts);
            }

    -- two places of one name are one
    one-place : (j k : ℕ) → j < length v.spaces → k < length v.spaces → (get_or v.spaces j no-space).name ≡ (get_or v.spaces k no-space).name → j ≡ k
    one-place j k lj lk same = elim (cases_eq j k) [
      | inl e ↦ e
      | inr ne ↦ absurd (other-names v.spaces s.apart k lk j no-space lj ne same)
    ]

    module _ (plain : ArePlain) (by : By) (request : Request) (c : IsCome by request) where
      fresh-all : AreFresh set₀ log (waiting (queued (get_or v.spaces c.place no-space).merger))
      fresh-all = (a.spaces c.place no-space c.within).fresh

      distinct : AreDistinct (authors_of c.fence.members)
      distinct = fence-distinct c.name (get_or v.spaces c.place no-space).merger.fences c.fence c.there (distinct-right (waiting (get_or v.spaces c.place no-space).merger.ready) (authors_of (members_in (get_or v.spaces c.place no-space).merger.fences))
          (subst AreDistinct (waiting-queued (get_or v.spaces c.place no-space).merger) fresh-all.differ))

      member-of : (x : By) → list_any (same_command x) (authors_of c.fence.members) ≡ true → IsMember set₀ log request.namespace c.name c.fence.count x
      member-of x t =
          let asks = member-asks set₀ (get_or v.spaces c.place no-space).name c.name (get_or v.spaces c.place no-space).merger.fences (a.spaces c.place no-space c.within).joining c.fence c.there x t in
          let carried : carries (get_or v.spaces c.place no-space) x ≡ true = fence-carried (get_or v.spaces c.place no-space).merger c.name c.fence c.there x t in
          let command : IsFreshCommand set₀ log x = authored-is (IsFreshCommand set₀ log) x (queued (get_or v.spaces c.place no-space).merger) carried fresh-all.fresh in (
            record { waits = record { asked = command.asked (ap is_some asks.1.made); unanswered = command.unanswered }; unlanded = command.unlanded; undenied = command.undenied },
            (asks.0, subst (λ n. Asks set₀ n x (ask.Fence c.name c.fence.count asks.0)) c.named asks.1),
          )

      -- a command that waits to join this fence, with whatever count, is one of its members
      joined-of : (x : By) (count : ℕ) → IsMember set₀ log request.namespace c.name count x → (count ≡ c.fence.count) × (list_any (same_command x) (authors_of c.fence.members) ≡ true)
      joined-of x count m = on (waits-so plain x m.1.1.request m.0.waits m.1.1.made)
        where
          on : IsBehind x m.1.1.request ⊎ IsCome x m.1.1.request → (count ≡ c.fence.count) × (list_any (same_command x) (authors_of c.fence.members) ≡ true)
          on (inl q) = absurd (subst IsParkedAsk m.1.1.asked q.parked)
          on (inr d) =
              let place : d.place ≡ c.place = one-place d.place c.place d.within c.within (d.named ∙ m.1.1.inside ∙ sym c.named) in
              let e : ask.Fence c.name count m.1.0 ≡ ask.Fence d.name d.fence.count d.txn = sym m.1.1.asked ∙ d.asked in
              let names : d.name ≡ c.name = cc in
              let counts : count ≡ d.fence.count = cc in
              let fences : Some d.fence ≡ Some c.fence = sym d.there ∙ ap (λ n. fence_of n (get_or v.spaces d.place no-space).merger.fences) names ∙ ap (λ j. fence_of c.name (get_or v.spaces j no-space).merger.fences) place ∙ c.there in
              let same : d.fence ≡ c.fence = cc in
              (counts ∙ ap (λ f. f.count) same, ap (λ f. list_any (same_command x) (authors_of f.members)) (sym same) ∙ d.inside)

      short-fence : IsShortFence set₀ log request.namespace c.name c.fence.count
      short-fence = record {
        living = living-at c.place c.within request.namespace c.named c.living;
        agreed = λ x other m. (joined-of x other m).0;
        members = authors_of c.fence.members;
        apart = distinct;
        come = λ x. (λ h. member-of x (among-any x (authors_of c.fence.members) h), λ m. any-among x (authors_of c.fence.members) (joined-of x c.fence.count m).1);
        short = let o = open-short c.name (get_or v.spaces c.place no-space).merger.fences (s.spaces c.place no-space c.within).fences.open_each c.fence c.there in let n = long-authors c.fence.members in omega arith;
      }

      left : IsLeft set₀ log request.namespace request.ask
      left = subst (IsLeft set₀ log request.namespace) (sym c.asked) short-fence

    still-answered : ArePlain → (by : By) (request : Request) → IsOpen by log → set₀.asks by ≡ Some request → ((space : Name) × (landed log space < floor_at by log space)) ⊎ (IsPending by log × IsLeft set₀ log request.namespace request.ask)
    still-answered plain by request o made = on (waits-so plain by request o made)
      where
        on : IsBehind by request ⊎ IsCome by request → ((space : Name) × (landed log space < floor_at by log space)) ⊎ (IsPending by log × IsLeft set₀ log request.namespace request.ask)
        on (inl q) = behind q request.ask refl (cases_lt (landed log request.namespace) (floor_at by log request.namespace))
          where
            behind : IsBehind by request → (asked : KvsAsk) → request.ask ≡ asked → (landed log request.namespace < floor_at by log request.namespace) ⊎ (floor_at by log request.namespace ≤ landed log request.namespace)
                → ((space : Name) × (landed log space < floor_at by log space)) ⊎ (IsPending by log × IsLeft set₀ log request.namespace request.ask)
            behind q asked e (inl early) = inl (request.namespace, early)
            behind q asked e (inr seen) = inr (q.pending, subst (IsLeft set₀ log request.namespace) (sym e) (above asked (subst IsParkedAsk e q.parked) (let l = q.late in let w = ap awaited e in omega arith)))
              where
                above : (asked : KvsAsk) → IsParkedAsk asked → landed log request.namespace < awaited asked → IsLeft set₀ log request.namespace asked
                above (ask.Wait number) p l = (living-at q.place q.within request.namespace q.named q.living, l)
                above (ask.Read query path) p l = absurd (omega arith)
                above (ask.Commit txn) p l = absurd p
                above (ask.Fence name count txn) p l = absurd p
                above ask.Root p l = absurd p
                above ask.Create p l = absurd p
                above ask.Remove p l = absurd p
                above (ask.Store bytes) p l = absurd p
                above (ask.Load reference) p l = absurd p
                above ask.Flush p l = absurd p
                above ask.DropClean p l = absurd p
        on (inr c) = inr (c.pending, left plain by request c)

    -- each broker has heard of each live namespace
    pub still-heard : (broker : ℕ) (name : Name) → broker < set₀.size → is_live log name ≡ true → IsSome (heard log broker name)
    still-heard broker name l live = by (position (is_named name) v.spaces) refl
      where
        within : broker < v.size
        within = subst (λ n. broker < n) a.size l

        some : (n : ℕ) → 0 < n → IsSome (number_of n)
        some zero q = absurd (omega arith)
        some (suc n) q = refl

        by : (o : Option ℕ) → position (is_named name) v.spaces ≡ o → IsSome (heard log broker name)
        by None e = absurd (true≢false (sym (and-left (is_opened log name) _ live) ∙ opened-is a name ∙ none-passes (is_named name) v.spaces e))
        by (Some k) e =
            let there = found-within (is_named name) v.spaces k (sym e) in
            let read = get_or_default v.spaces k no-space (get_or v.spaces k no-space) there in
            let q = all-known k (get_or v.spaces k no-space) there read broker within in
            subst IsSome (heard-found s a broker name k (get_or v.spaces k no-space) within (sym e) read) (some (slice_index (get_or v.spaces k no-space).known broker) (omega arith))

    pub still-quiet : ArePlain → IsQuiet set₀ log
    still-quiet plain = record { told = still-told; answered = λ by request o made. still-answered plain by request o made }
