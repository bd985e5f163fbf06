-- A broker hears of a root.
use Rattle.std.proofs.Common.{◌≡◌, ◌≢◌, ℕ, zero, suc, ◌-◌, ◌/◌, ◌<◌, ◌≤◌, ◌⊎◌, inl, inr, List, [], ◌∷◌, ◌++◌, length, map, Bool, true, false, cond, ◌==◌, ◌&&◌, Some, None, IfSome, IsSomeAnd, refl, sym, ap, ◌∙◌, subst, arith, get_or, set, bytes_eq, append-nil, true≢false}
use Rattle.std.specs.Prelude.{slice_index, nat_lt}
use Rattle.std.specs.List.{list_any, AllPairs, AllByRecursion as Each}
use Rattle.kvs_requests.specs.declared.rows.Row.{Row}
use Rattle.std.specs.Cmp.Lexicographic.{bytes_decides}
use Rattle.std.proofs.lemmas.Bool.{cases_eq, cases_lt}
use Rattle.std.proofs.lemmas.List.{length-set, set-get_or, get_or-set_other}
use Rattle.std.proofs.lemmas.List.Sums.{sum_by-set}
use Rattle.kvs_txn.specs.declared.txn.By.{By}
use Rattle.kvs_model.specs.Store.{Name}
use Rattle.kvs_rules.specs.declared.events.KvsEvent.{KvsEvent}
use Rattle.kvs_rules.specs.declared.events.KvsEvent.TheVariants as event
use Rattle.kvs_rules.specs.declared.events.KvsStep.TheVariants as kvs
use Rattle.kvs_rules.specs.Log.{Log, Happened}
use Rattle.kvs_rules.specs.Namespaces.{Setting, landed, is_opened}
use Rattle.kvs_rules.specs.Brokers.{heard, HasHeard, IsLegalHearing, number_heard, parent}
use Rattle.kvs_rules.specs.Answers.{IsLegalAfter}
use Rattle.kvs_rules.specs.Steps.{AreMadeBy}
use Rattle.kvs_rules.proofs.Logs.{landed_push}
use Rattle.kvs_space.specs.Rulings.{IsHearing}
use Rattle.kvs_keys.specs.Steps.{is_announced, messages, news}
use Rattle.kvs_space.specs.Space.{SpaceValue, number_of, has_news, carries, is_authored, link_at, queued}
use Rattle.kvs_keys.specs.Value.{KeysValue}
use Rattle.kvs_space.specs.Sound.{IsSoundSpace}
use Rattle.kvs_keys.specs.Sound.{IsSound}
use Rattle.kvs_space.specs.Told.{hearing}
use Rattle.kvs_keys.specs.Agrees.{Agrees, SpaceAgrees}
use Rattle.kvs_keys.specs.Makes.{IsOfKeys}
use Rattle.kvs_requests.specs.Agreement.{RowsAgree, Entrants}
use Rattle.kvs_space.proofs.Announced.{below-newest, parent-below}
use Rattle.kvs_space.proofs.Finding.{and-left, and-right, lt-is, lt-true, set-all, set-kept}
use Rattle.kvs_keys.proofs.Carried.{waiting, each-all}
use Rattle.kvs_keys.proofs.Turns.{fence-stays, turns-happened, turns-moved}
use Rattle.kvs_keys.proofs.Heads.{IsHead, IsElsewhere, head-of, rows-of, agrees-of, head-then, opened-there, space-heard, space-kept}
use Rattle.kvs_requests.proofs.Later.{Grows, IsAside, told-more}
use Rattle.kvs_keys.proofs.Respacing.{read-at, names-same, name-at, rows-placed, kept-room, respaced-sound, alike}
use Rattle.kvs_requests.proofs.Tables.{rows-later, rows-respaced, aside-heard}

-- what is on the way, where an announcement is
pub record IsComing (v : KeysValue) (from to : ℕ) : Type 0 where
  pub above : 0 < to
  pub within : to < v.size
  pub sender : (parent v.fanout to == from) ≡ true
  pub some : list_any (has_news to) v.spaces ≡ true

pub coming : (v : KeysValue) (from to : ℕ) → is_announced v from to ≡ true → IsComing v from to
coming v from to h =
    let three = and-left _ (list_any (has_news to) v.spaces) h in
    let two = and-left _ (parent v.fanout to == from) three in
    record {
      above = lt-is 0 to (and-left (nat_lt 0 to) (nat_lt to v.size) two);
      within = lt-is to v.size (and-right (nat_lt 0 to) (nat_lt to v.size) two);
      sender = and-right _ (parent v.fanout to == from) three;
      some = and-right _ (list_any (has_news to) v.spaces) h;
    }

pub fewer-announced : (v : KeysValue) (from to : ℕ) (spent : Bool) (spaces : List SpaceValue) → (parent v.fanout to == from) ≡ true → news spaces to < news v.spaces to
    → messages (record { spent = spent; size = v.size; fanout = v.fanout; grant = v.grant; spaces = spaces; rows = v.rows }) from to < messages v from to
fewer-announced v from to spent spaces sender less = rw sender (omega arith)

-- where an announcement leaves its link, one fewer is on the way
pub fewer-news : (spaces : List SpaceValue) (k : ℕ) → k < length spaces → (old new : SpaceValue) → old ≡ get_or spaces k old → (to : ℕ) → length (link_at new.links to) < length (link_at old.links to) → news (set spaces k new) to < news spaces to
fewer-news spaces k within old new read to less =
    let n = sum_by-set (λ s. length (link_at s.links to)) spaces k new old within in
    let o : length (link_at (get_or spaces k old).links to) ≡ length (link_at old.links to) = ap (λ s. length (link_at s.links to)) (sym read) in
    omega arith

-- names that differ from one are not it
pub named-apart : (a b : Name) → a ≢ b → bytes_eq a b ≡ false
named-apart a b ne = by (bytes_eq a b) refl
  where
    by : (t : Bool) → bytes_eq a b ≡ t → t ≡ false
    by true e = absurd (ne ((bytes_decides a b).0 e))
    by false e = refl

-- the same rows over a table in which a namespace has the same name and the same transactions that wait
pub respaced : {entered : Entrants} (spaces : List SpaceValue) (k : ℕ) (within : k < length spaces) (old new : SpaceValue) (read : old ≡ get_or spaces k old) (name : new.name ≡ old.name) → new.merger ≡ old.merger → {rows : List Row} {set₀ : Setting} {log : Log} → RowsAgree entered set₀ log spaces rows → RowsAgree entered set₀ log (set spaces k new) rows
respaced spaces k within old new read name merger rows =
    rows-respaced rows (set spaces k new) (length-set spaces k new) (name-at spaces k within old new read name)
    (λ j d by l. set-kept (λ x. carries x by) spaces k new (λ e. ap (λ q. list_any (is_authored by) (queued q)) merger ∙ ap (λ x. carries x by) (read-at spaces k within old new read name e)) j d l)

-- two places of the table have different names
pub other-names : (spaces : List SpaceValue) → AllPairs (λ one other. one.name ≢ other.name) spaces → (k : ℕ) (within : k < length spaces) (j : ℕ) (d : SpaceValue) → j < length spaces → j ≢ k → (get_or spaces j d).name ≢ (get_or spaces k d).name
other-names spaces apart k within j d l ne same = by-order (cases_lt j k)
  where
    by-order : (j < k) ⊎ (k ≤ j) → ⊥
    by-order (inl lt) = apart j k d lt within same
    by-order (inr ge) = apart k j d (strict (cases_eq j k)) l (sym same)
      where
        strict : (j ≡ k) ⊎ (j ≢ k) → k < j
        strict (inl q) = absurd (ne q)
        strict (inr q) = omega arith

-- a hearing is about one namespace
pub heard-elsewhere : (broker number : ℕ) (name other : Name) → other ≢ name → IsElsewhere other (Happened (event.Heard broker name number))
heard-elsewhere broker number name other ne = record { groups = refl; number = refl; removed = refl; silent = λ b. by b }
  where
    by : (b : ℕ) → number_heard b other (Happened (event.Heard broker name number)) ≡ None
    by b = at (b == broker)
      where
        at : (t : Bool) → cond (t && bytes_eq other name) (Some (Some number)) None ≡ None
        at true = ap (λ x. cond x (Some (Some number)) None) (named-apart other name ne)
        at false = refl

module _ {size fanout : ℕ} {grant : List ℕ} {spaces : List SpaceValue} {items : List Row} (apart : AllPairs (λ one other. one.name ≢ other.name) spaces) (k : ℕ) (within : k < length spaces) (old new : SpaceValue) (read : old ≡ get_or spaces k old) (long-old : length old.known ≡ size) where
  -- a number that a broker hears that has heard less, and all that the tree knows of it
  module _ {entered : Entrants} {set₀ : Setting} {log : Log} (head : IsHead size fanout grant spaces set₀ log) (rows : RowsAgree entered set₀ log spaces items) (broker number : ℕ) (in-tree : broker < size) (less : slice_index old.known broker < suc number) (low : number ≤ landed log old.name) where
    here : SpaceAgrees set₀ log size old
    here = subst (SpaceAgrees set₀ log size) (sym read) (head.each k old within)

    news-of : (n : ℕ) → n < suc number → IfSome (number_of n) (λ h. h < number)
    news-of zero l = tt
    news-of (suc n) l = let e : n < number = omega arith in e

    is-news : IfSome (heard log broker old.name) (λ h. h < number)
    is-news = subst (λ o. IfSome o (λ h. h < number)) (sym (here.told broker in-tree)) (news-of (slice_index old.known broker) less)

    opened-here : is_opened log old.name ≡ true
    opened-here = ap (λ x. is_opened log x.name) read ∙ opened-there head k old within

    pub heard-legal : ((broker ≡ 0) ⊎ HasHeard log (parent set₀.fanout broker) old.name number) → IsLegalHearing set₀ log broker old.name number
    heard-legal told = record {
      exists = subst (λ n. broker < n) (sym head.size_is) in-tree;
      opened = opened-here;
      news = is-news;
      was_landed = low;
      told = way told;
    } where
      way : ((broker ≡ 0) ⊎ HasHeard log (parent set₀.fanout broker) old.name number) → (broker ≡ 0) ⊎ (heard log broker old.name ≡ None) ⊎ HasHeard log (parent set₀.fanout broker) old.name number
      way (inl e) = inl e
      way (inr h) = inr (inr h)

    aside : (bys : List By) → Each (λ by. IsAside by (Happened (event.Heard broker old.name number))) bys
    aside bys = each-all (λ by. IsAside by (Happened (event.Heard broker old.name number))) bys (λ by. aside-heard by broker old.name number)

    module _ (name : new.name ≡ old.name) (removed : new.removed ≡ old.removed) (history : new.history ≡ old.history) (known : new.known ≡ set old.known broker (suc number)) (merger : new.merger ≡ old.merger) where
      space-now : SpaceAgrees set₀ (log ++ Happened (event.Heard broker old.name number) ∷ []) size new
      space-now = alike (space-heard here broker number (subst (λ n. broker < n) (sym long-old) in-tree) (aside (waiting (queued old.merger)))) new name removed history known merger

      other-name : (j : ℕ) (d : SpaceValue) → j < length spaces → j ≢ k → (get_or spaces j d).name ≢ old.name
      other-name j d l ne e = other-names spaces apart k within j d l ne (e ∙ ap (λ x. x.name) (read-at spaces k within old new read name d))

      pub heard-head : IsHead size fanout grant (set spaces k new) set₀ (log ++ Happened (event.Heard broker old.name number) ∷ [])
      heard-head = head-then head (set spaces k new) (Happened (event.Heard broker old.name number)) (λ space. tt) (names-same spaces k within old new read name) refl
          (set-all (SpaceAgrees set₀ (log ++ Happened (event.Heard broker old.name number) ∷ []) size) spaces k new space-now
          (λ j d l ne. space-kept (head.each j d l) (Happened (event.Heard broker old.name number)) (heard-elsewhere broker number old.name (get_or spaces j d).name (other-name j d l ne)) (aside (waiting (queued (get_or spaces j d).merger)))))
          (λ space e. heard-elsewhere broker number old.name space (λ q. true≢false (sym opened-here ∙ ap (is_opened log) (sym q) ∙ e)))

      grows : Grows log (Happened (event.Heard broker old.name number))
      grows = record {
        told = told-more log broker old.name number is-news;
        rises = λ space. let e : landed (log ++ Happened (event.Heard broker old.name number) ∷ []) space ≡ landed log space = landed_push log (Happened (event.Heard broker old.name number)) space in omega arith;
        ends = λ space r. landed_push log (Happened (event.Heard broker old.name number)) space;
      }

      pub heard-rows : RowsAgree entered set₀ (log ++ Happened (event.Heard broker old.name number) ∷ []) (set spaces k new) items
      heard-rows = rows-later (respaced spaces k within old new read name merger rows) (Happened (event.Heard broker old.name number)) grows (λ other accepted told kept e. cc) (λ by. aside-heard by broker old.name number)

-- an announcement comes to a broker
module _ {v : KeysValue} (s : IsSound v) (k : ℕ) (within : k < length v.spaces) (old new : SpaceValue) (read : old ≡ get_or v.spaces k old) (to before after₀ : ℕ) (above : 0 < to) (in-tree : to < v.size) (h : IsHearing v.fanout to before after₀ old new) where
  sound-then : IsSoundSpace v.fanout v.grant old
  sound-then = subst (IsSoundSpace v.fanout v.grant) (sym read) (s.spaces k old within)

  long-then : length old.known ≡ v.size
  long-then = ap (λ x. length x.known) read ∙ s.brokers k old within

  pub delivered-sound : IsSoundSpace v.fanout v.grant new → (spent : Bool) → IsSound (record { spent = spent; size = v.size; fanout = v.fanout; grant = v.grant; spaces = set v.spaces k new; rows = v.rows })
  delivered-sound sound spent =
      let same : slice_index new.known 0 ≡ slice_index old.known 0 = ap (λ n. slice_index n 0) h.known ∙ get_or-set_other old.known to 0 after₀ 0 (λ e. omega arith) in
      respaced-sound s k within old new read h.name (kept-room s k within old new read h.name h.removed) (ap length h.known ∙ length-set old.known to after₀ ∙ long-then) sound v.rows (rows-placed v.spaces k within old new read h.name (omega arith) v.fanout v.size v.rows s.placed) spent

  -- nothing is news
  module _ {set₀ : Setting} {log : Log} (a : Agrees v set₀ log) where
    there : SpaceAgrees set₀ log v.size old
    there = subst (SpaceAgrees set₀ log v.size) (sym read) (a.spaces k old within)

    quiet-agrees : (before < after₀ → ⊥) → Agrees (record { spent = false; size = v.size; fanout = v.fanout; grant = v.grant; spaces = set v.spaces k new; rows = v.rows }) set₀ log
    quiet-agrees off =
        let same : after₀ ≡ slice_index old.known to = let r = h.next.rises in let w = h.was in omega arith in
        let known : new.known ≡ old.known = h.known ∙ ap (set old.known to) same ∙ set-get_or old.known to 0 in
        let head = head-of a in
        agrees-of
        (record {
          size_is = head.size_is;
          fanout_is = head.fanout_is;
          base_is = head.base_is;
          links_are = head.links_are;
          owned = head.owned;
          names = names-same v.spaces k within old new read h.name ∙ head.names;
          each = set-all (SpaceAgrees set₀ log v.size) v.spaces k new (alike there new h.name h.removed h.history known h.merger) (λ j d l ne. head.each j d l);
          untold = head.untold;
        }) (respaced v.spaces k within old new read h.name h.merger (rows-of a))
        (λ settled. turns-moved (a.turns settled) (set v.spaces k new) v.rows (fence-stays v.spaces k within old new read h.name (ap (λ m. m.fences) h.merger)) (λ by c. c))

    parent-in : parent v.fanout to < length old.known
    parent-in = let p = parent-below v.fanout to above in let n = long-then in omega arith

    low-number : after₀ - 1 ≤ landed log old.name
    low-number =
        let b = below-newest sound-then.announced (parent v.fanout to) parent-in in
        let u = h.next.below in
        let n = sound-then.newest in
        let l = there.last in
        omega arith

    module _ (on : before < after₀) where
      number-is : suc (after₀ - 1) ≡ after₀
      number-is = omega arith

      less : slice_index old.known to < suc (after₀ - 1)
      less = let w = h.was in let n = number-is in omega arith

      parent-heard : HasHeard log (parent set₀.fanout to) old.name (after₀ - 1)
      parent-heard =
          let p : parent set₀.fanout to ≡ parent v.fanout to = ap (λ f. (to - 1) / f) a.fanout in
          let t : heard log (parent v.fanout to) old.name ≡ number_of (slice_index old.known (parent v.fanout to)) = there.told (parent v.fanout to) (let q = parent-in in let n = long-then in omega arith) in
          subst (λ b. HasHeard log b old.name (after₀ - 1)) (sym p) (subst (λ o. IsSomeAnd o (λ n. after₀ - 1 ≤ n)) (sym t) (at (slice_index old.known (parent v.fanout to)) h.next.below))
        where
          at : (n : ℕ) → after₀ ≤ n → IsSomeAnd (number_of n) (λ x. after₀ - 1 ≤ x)
          at zero l = absurd (omega arith)
          at (suc n) l = let e : after₀ - 1 ≤ n = omega arith in e

      pub news-legal : IsLegalAfter set₀ log (map Happened (event.Heard to old.name (after₀ - 1) ∷ []))
      news-legal = (heard-legal s.apart k within old new read long-then (head-of a) (rows-of a) to (after₀ - 1) in-tree less low-number (inr parent-heard), tt)

      pub news-agrees : Agrees (record { spent = false; size = v.size; fanout = v.fanout; grant = v.grant; spaces = set v.spaces k new; rows = v.rows }) set₀ (log ++ Happened (event.Heard to old.name (after₀ - 1)) ∷ [])
      news-agrees =
          let known : new.known ≡ set old.known to (suc (after₀ - 1)) = h.known ∙ ap (set old.known to) (sym number-is) in
          agrees-of (heard-head s.apart k within old new read long-then (head-of a) (rows-of a) to (after₀ - 1) in-tree less low-number h.name h.removed h.history known h.merger)
          (heard-rows s.apart k within old new read long-then (head-of a) (rows-of a) to (after₀ - 1) in-tree less low-number h.name h.removed h.history known h.merger)
          (λ settled. turns-moved (turns-happened (a.turns settled) (event.Heard to old.name (after₀ - 1))) (set v.spaces k new) v.rows (fence-stays v.spaces k within old new read h.name (ap (λ m. m.fences) h.merger)) (λ by c. c))

    -- what the code tells of it
    pub told-legal : (events : List KvsEvent) → events ≡ hearing to new.name before after₀ → IsLegalAfter set₀ log (map Happened events)
    told-legal events is = subst (λ es. IsLegalAfter set₀ log (map Happened es)) (sym (is ∙ ap (λ n. hearing to n before after₀) h.name)) (by (nat_lt before after₀) refl)
      where
        by : (t : Bool) → nat_lt before after₀ ≡ t → IsLegalAfter set₀ log (map Happened (cond t (event.Heard to old.name (after₀ - 1) ∷ []) []))
        by true e = news-legal (lt-is before after₀ e)
        by false e = tt

    pub told-agrees : (events : List KvsEvent) → events ≡ hearing to new.name before after₀ → Agrees (record { spent = false; size = v.size; fanout = v.fanout; grant = v.grant; spaces = set v.spaces k new; rows = v.rows }) set₀ (log ++ map Happened events)
    told-agrees events is =
        subst (λ es. Agrees (record { spent = false; size = v.size; fanout = v.fanout; grant = v.grant; spaces = set v.spaces k new; rows = v.rows }) set₀ (log ++ map Happened es)) (sym (is ∙ ap (λ n. hearing to n before after₀) h.name)) (by (nat_lt before after₀) refl)
      where
        by : (t : Bool) → nat_lt before after₀ ≡ t → Agrees (record { spent = false; size = v.size; fanout = v.fanout; grant = v.grant; spaces = set v.spaces k new; rows = v.rows }) set₀ (log ++ map Happened (cond t (event.Heard to old.name (after₀ - 1) ∷ []) []))
        by true e = news-agrees (lt-is before after₀ e)
        by false e = subst (Agrees (record { spent = false; size = v.size; fanout = v.fanout; grant = v.grant; spaces = set v.spaces k new; rows = v.rows }) set₀) (sym (append-nil log)) (quiet-agrees (λ l. true≢false (sym (lt-true before after₀ l) ∙ e)))

pub hearing-made : (log : Log) (from to before after₀ : ℕ) (name : Name) (events : List KvsEvent) → events ≡ hearing to name before after₀ → AreMadeBy log (kvs.Deliver from to) events
hearing-made log from to before after₀ name events is = subst (AreMadeBy log (kvs.Deliver from to)) (sym is) (by (nat_lt before after₀))
  where
    by : (t : Bool) → AreMadeBy log (kvs.Deliver from to) (cond t (event.Heard to name (after₀ - 1) ∷ []) [])
    by true = (inl refl, tt)
    by false = tt

-- it is of keys
pub hearing-keys : (to before after₀ : ℕ) (name : Name) (events : List KvsEvent) → events ≡ hearing to name before after₀ → Each IsOfKeys events
hearing-keys to before after₀ name events is = subst (Each IsOfKeys) (sym is) (by (nat_lt before after₀))
  where
    by : (t : Bool) → Each IsOfKeys (cond t (event.Heard to name (after₀ - 1) ∷ []) [])
    by true = (tt, tt)
    by false = tt
