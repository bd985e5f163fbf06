-- A command asks.
use Rattle.std.proofs.Common.{option_map, zero, suc, ◌-◌, true≢false, ◌≡◌, ℕ, ◌<◌, List, [], ◌∷◌, ◌++◌, length, max, Bool, true, false, cond, ◌||◌, Option, Some, None, IfSome, ◌≤◌, unwrap_or, refl, sym, ap, ◌∙◌, subst, arith, get_or}
use Rattle.std.specs.Prelude.{IsSome, slice_index}
use Rattle.std.specs.Option.{is_some, option_map_or}
use Rattle.std.proofs.lemmas.List.Folds.{list_any_at}
use Rattle.std.specs.List.{position, list_any}
use Rattle.std.proofs.Math.Bool.{or-false}
use Rattle.std.proofs.lemmas.Option.{slice_get-get_or}
use Rattle.std.proofs.lemmas.List.Elements.{All-push}
use Rattle.kvs_txn.specs.declared.txn.By.{By}
use Rattle.kvs_rules.specs.declared.events.KvsAsk.{KvsAsk}
use Rattle.kvs_rules.specs.declared.events.KvsAsk.TheVariants as ask
use Rattle.kvs_rules.specs.Sequence.{until}
use Rattle.kvs_rules.specs.Log.{Log, Moment, Asked, asks_now, lands_now, denies_now, answers_now, floor_at, is_asked}
use Rattle.kvs_rules.specs.Namespaces.{Setting, Request, landed}
use Rattle.kvs_rules.specs.Landings.{IsFreshCommand}
use Rattle.kvs_rules.specs.Brokers.{heard}
use Rattle.kvs_rules.proofs.Logs.{landed_push}
use Rattle.kvs_rules.proofs.Stores.{any_push}
use Rattle.kvs_rules.proofs.Asking.{floor_at_push}
use Rattle.std.specs.Cmp.Lexicographic.{bytes_decides}
use Rattle.kvs_model.specs.Store.{Name}
use Rattle.kvs_keys.specs.declared.service.Request.{Request as Request₀}
use Rattle.kvs_keys.specs.declared.service.Request.TheVariants as request
use Rattle.kvs_keys.specs.Requests.{AsksAtRest, IsKnown, IsMade, IfAsked}
use Rattle.kvs_requests.specs.Rows.{is_about_contents, IsKnownAsk, AtPlace, IsPlaced, ArePlaced, awaited}
use Rattle.kvs_requests.specs.declared.rows.Stage.{Stage}
use Rattle.kvs_requests.specs.Stages.{joined_in}
use Rattle.kvs_space.specs.Space.{SpaceValue, number_of, known_at, name_at, carries, queued, is_named, is_known_to}
use Rattle.kvs_keys.specs.Value.{KeysValue}
use Rattle.kvs_keys.specs.Sound.{IsSound}
use Rattle.kvs_keys.specs.Agrees.{Agrees}
use Rattle.kvs_requests.specs.Agreement.{Entrants, RowAgrees, StageAgrees, RowsAgree, IsUndecided, IsNeeded, heard_at}
use Rattle.kvs_space.proofs.Announced.{below-newest}
use Rattle.kvs_space.proofs.Finding.{and-left, and-right, both-true, found-within, found-passes, found-none, lt-is, lt-true}
use Rattle.kvs_keys.proofs.Heads.{IsHead, head-of, rows-of, head-kept}
use Rattle.kvs_requests.proofs.Later.{IsAside}
use Rattle.kvs_keys.proofs.Carried.{waiting, each-map, untrue, authored-is}
use Rattle.kvs_requests.proofs.Tables.{same-self, rows-asked, aside-asked}
use Rattle.kvs_keys.proofs.Moving.{grows-silent}
use Rattle.kvs_keys.proofs.Heard.{heard-lost, no-space}

-- what a broker has heard of a name, by the namespace that it knows
module _ {v : KeysValue} (s : IsSound v) {set₀ : Setting} {log : Log} (a : Agrees v set₀ log) (broker : ℕ) (within : broker < v.size) (name : Name) where
  told-at : (j : ℕ) (d : SpaceValue) → j < length v.spaces → (get_or v.spaces j d).name ≡ name → heard log broker name ≡ number_of (slice_index (get_or v.spaces j d).known broker)
  told-at j d l is = ap (heard log broker) (sym is) ∙ (a.spaces j d l).told broker within

  known-here : (place : ℕ) → Some place ≡ position (is_known_to broker name) v.spaces → (d : SpaceValue) → ((get_or v.spaces place d).name ≡ name) × (0 < slice_index (get_or v.spaces place d).known broker)
  known-here place found d =
      let p = found-passes (is_known_to broker name) v.spaces place d found in (
        sym ((bytes_decides name (get_or v.spaces place d).name).0 (and-left (is_named name (get_or v.spaces place d)) _ p)),
        lt-is 0 _ (and-right (is_named name (get_or v.spaces place d)) _ p),
      )

  pub known-named : (place : ℕ) → Some place ≡ position (is_known_to broker name) v.spaces → name_at v.spaces place ≡ Some name
  known-named place found =
      ap (option_map (λ x. x.name)) (slice_get-get_or v.spaces place no-space (found-within (is_known_to broker name) v.spaces place found))
      ∙ ap Some (known-here place found no-space).0

  number-or : (n : ℕ) → unwrap_or (number_of n) 0 ≡ n - 1
  number-or zero = refl
  number-or (suc n) = let e : n ≡ suc n - 1 = omega arith in e

  unknown : None ≡ position (is_known_to broker name) v.spaces → (o : Option ℕ) → o ≡ position (is_named name) v.spaces → heard log broker name ≡ None
  unknown none None lost = sym (heard-lost a broker name lost)
  unknown none (Some j) found =
      let l = found-within (is_named name) v.spaces j found in
      let is : (get_or v.spaces j no-space).name ≡ name = sym ((bytes_decides name _).0 (found-passes (is_named name) v.spaces j no-space found)) in
      told-at j no-space l is ∙ by (slice_index (get_or v.spaces j no-space).known broker) refl
    where
      by : (n : ℕ) → slice_index (get_or v.spaces j no-space).known broker ≡ n → number_of n ≡ None
      by zero e = refl
      by (suc n) e = absurd (found-none (is_known_to broker name) v.spaces none (list_any_at (is_known_to broker name) v.spaces j no-space (found-within (is_named name) v.spaces j found)
          (both-true _ _ (found-passes (is_named name) v.spaces j no-space found) (lt-true 0 (slice_index (get_or v.spaces j no-space).known broker) (omega arith)))))

  -- the number that a broker has heard of a name, or 0
  pub heard-known : (place : Option ℕ) → place ≡ position (is_known_to broker name) v.spaces → unwrap_or (heard log broker name) 0 ≡ option_map_or (λ k. known_at v.spaces k broker - 1) place 0
  heard-known None lost = ap (λ o. unwrap_or o 0) (unknown lost (position (is_named name) v.spaces) refl)
  heard-known (Some k) found =
      let l = found-within (is_known_to broker name) v.spaces k found in
      let h = known-here k found no-space in
      ap (λ o. unwrap_or o 0) (told-at k no-space l h.0) ∙ number-or (slice_index (get_or v.spaces k no-space).known broker)
      ∙ ap (λ n. n - 1) (sym (ap (λ o. option_map_or (λ x. slice_index x.known broker) o 0) (slice_get-get_or v.spaces k no-space l)))

  -- it is no more than has landed
  pub heard-low : (place : Option ℕ) → place ≡ position (is_known_to broker name) v.spaces → option_map_or (λ k. known_at v.spaces k broker - 1) place 0 ≤ landed log name
  heard-low None lost = omega arith
  heard-low (Some k) found =
      let l = found-within (is_known_to broker name) v.spaces k found in
      let h = known-here k found no-space in
      let e : known_at v.spaces k broker ≡ slice_index (get_or v.spaces k no-space).known broker = ap (λ o. option_map_or (λ x. slice_index x.known broker) o 0) (slice_get-get_or v.spaces k no-space l) in
      let sound = s.spaces k no-space l in
      let b = below-newest sound.announced broker (let n = s.brokers k no-space l in omega arith) in
      let n = sound.newest in
      let t = (a.spaces k no-space l).last in
      let q : landed log name ≡ landed log (get_or v.spaces k no-space).name = ap (landed log) (sym h.0) in
      omega arith

-- before a command asks lies all
pub until-none : {A : Type 0} (test : A → Bool) (xs : List A) (y : A) → list_any test xs ≡ false → test y ≡ true → until test (xs ++ y ∷ []) ≡ xs
until-none test [] y none e = ap (λ b. cond b [] (y ∷ [])) e
until-none test (x ∷ xs) y none e = by (test x) (until-none test xs y) none
  where
    by : (b : Bool) → (list_any test xs ≡ false → test y ≡ true → until test (xs ++ y ∷ []) ≡ xs) → (b || list_any test xs) ≡ false → cond b [] (x ∷ until test (xs ++ y ∷ [])) ≡ x ∷ xs
    by true again h = cc
    by false again h = ap (λ l. x ∷ l) (again h e)

module _ {v : KeysValue} (s : IsSound v) {set₀ : Setting} {log : Log} (a : Agrees v set₀ log) (by : By) (floors : Name → ℕ) (some : IsSome (set₀.asks by)) (fresh : is_asked by log ≡ false) where
  pub asks-itself : asks_now by (Asked by floors) ≡ true
  asks-itself = same-self by

  pub asked-head : IsHead v.size v.fanout v.grant v.spaces set₀ (log ++ Asked by floors ∷ [])
  asked-head = head-kept (head-of a) (Asked by floors) refl (λ name. record { groups = refl; number = refl; removed = refl; silent = λ b. refl })
      (λ k d l. each-map (IsFreshCommand set₀ log) (λ b. IsAside b (Asked by floors)) (waiting (queued (get_or v.spaces k d).merger)) (a.spaces k d l).fresh.fresh
      (λ b p. aside-asked b by floors (λ e. true≢false (sym (p.asked (ap (λ x. is_some (set₀.asks x)) e ∙ some)) ∙ ap (λ x. is_asked x log) e ∙ fresh))))

  pub asked-now : is_asked by (log ++ Asked by floors ∷ []) ≡ true
  asked-now = any_push (asks_now by) log (Asked by floors) ∙ ap (λ x. is_asked by log || x) asks-itself ∙ or-true (is_asked by log)
    where
      or-true : (b : Bool) → (b || true) ≡ true
      or-true true = refl
      or-true false = refl

  floor-now : (space : Name) → floor_at by (log ++ Asked by floors ∷ []) space ≡ floors space
  floor-now space = floor_at_push by log (Asked by floors) space ∙ ap (λ b. unwrap_or (cond b (Some (floors space)) None) (floor_at by log space)) asks-itself

  uncarried : (k : ℕ) (d : SpaceValue) → k < length v.spaces → carries (get_or v.spaces k d) by ≡ false
  uncarried k d l = untrue (carries (get_or v.spaces k d) by) (λ t. authored-is (λ b. b ≡ by → ⊥) by (queued (get_or v.spaces k d).merger) t
      (each-map (IsFreshCommand set₀ log) (λ b. b ≡ by → ⊥) (waiting (queued (get_or v.spaces k d).merger)) (a.spaces k d l).fresh.fresh (λ b p e. true≢false (sym (p.asked (ap (λ x. is_some (set₀.asks x)) e ∙ some)) ∙ ap (λ x. is_asked x log) e ∙ fresh))) refl)

  module _ (broker : ℕ) (within : broker < v.size) (name : Name) (asked : KvsAsk) (made : set₀.asks by ≡ Some (record { broker = broker; namespace = name; ask = asked }))
      (place : Option ℕ) (found : place ≡ position (is_known_to broker name) v.spaces) (need known : ℕ) (knows : known ≡ option_map_or (λ k. known_at v.spaces k broker - 1) place 0) (needs : need ≡ max (max (floors name) known) (awaited asked)) (st : Stage) where
    named-there : (o : Option ℕ) → o ≡ position (is_known_to broker name) v.spaces → IfSome o (λ k. name_at v.spaces k ≡ Some name)
    named-there None e = tt
    named-there (Some k) e = known-named s a broker within name k e

    pub asked-row : is_about_contents asked ≡ false → ((entered : Entrants) (set₁ : Setting) (log₁ : Log) (spaces : List SpaceValue) (by₁ : By) (request : Request) → request.ask ≡ asked → IsUndecided log₁ by₁ → entered by₁ ≡ false → IfSome place (λ k. name_at spaces k ≡ Some request.namespace) → StageAgrees entered set₁ log₁ spaces by₁ request st)
        → ((j : ℕ) → joined_in j st ≡ false)
        → RowsAgree a.entered set₀ (log ++ Asked by floors ∷ []) v.spaces (v.rows ++ record { by = by; broker = broker; namespace = name; need = need; stage = st } ∷ [])
    asked-row keys agrees unjoined =
        let m : Moment = Asked by floors in
        let u = a.strange by some fresh in
        let undecided : IsUndecided (log ++ m ∷ []) by = record {
          unlanded = any_push (lands_now by) log m ∙ or-false _ ∙ u.undecided.unlanded;
          undenied = any_push (denies_now by) log m ∙ or-false _ ∙ u.undecided.undenied;
        } in
        let request : Request = record { broker = broker; namespace = name; ask = asked } in
        let heard-then : heard_at (log ++ m ∷ []) by request ≡ known =
        ap (λ l. unwrap_or (heard l broker name) 0) (until-none (asks_now by) log m fresh asks-itself) ∙ heard-known s a broker within name place found ∙ sym knows in
        let needed : IsNeeded (log ++ m ∷ []) by request need = record {
          needs = rw (floor-now name, heard-then) needs;
          low =
              let h = heard-then in
              let p : landed (log ++ m ∷ []) name ≡ landed log name = landed_push log m name in
              let b = heard-low s a broker within name place found in
              omega arith;
        } in
        let row : RowAgrees a.entered set₀ (log ++ m ∷ []) v.spaces (record { by = by; broker = broker; namespace = name; need = need; stage = st }) = record {
          asked = asked-now;
          unanswered = any_push (answers_now by) log m ∙ or-false _ ∙ u.unanswered;
          request = request;
          made = made;
          home = refl;
          inside = refl;
          keys = keys;
          needed = needed;
          staged = agrees a.entered set₀ (log ++ m ∷ []) v.spaces by request refl undecided (a.outside by fresh) (named-there place found);
          tied = λ j d l. unjoined j ∙ sym (uncarried j d l);
        } in
        rows-asked (rows-of a) by floors (record { by = by; broker = broker; namespace = name; need = need; stage = st }) refl fresh (grows-silent log m (λ space. refl) (λ b space. refl)) row

-- the namespace that a broker knows is in the table
pub known-within : (spaces : List SpaceValue) (broker : ℕ) (name : Name) (place : Option ℕ) → place ≡ position (is_known_to broker name) spaces → IfSome place (λ k. k < length spaces)
known-within spaces broker name None e = tt
known-within spaces broker name (Some k) e = found-within (is_known_to broker name) spaces k e

pub asked-placed : {v : KeysValue} → IsSound v → (by : By) (broker : ℕ) (name : Name) (need : ℕ) (st : Stage) → broker < v.size → AtPlace v.fanout v.size v.spaces st → ArePlaced v.fanout v.size v.spaces (v.rows ++ record { by = by; broker = broker; namespace = name; need = need; stage = st } ∷ [])
asked-placed {v} s by broker name need st within on = All-push (IsPlaced v.fanout v.size v.spaces) v.rows (record { by = by; broker = broker; namespace = name; need = need; stage = st }) s.placed (record { home = within; place = on })

-- what a request says of the command that makes it
pub asked-request : (v : KeysValue) (set₀ : Setting) (log : Log) (broker : ℕ) (made-by : Request₀) (by : By) (space : Name) (floor : ℕ) (asked : KvsAsk) → made-by ≡ request.Command by space floor asked → IsMade set₀ broker made-by → (P : Log → Type 0)
    → (set₀.asks by ≡ Some (record { broker = broker; namespace = space; ask = asked }) → (floors : Name → ℕ) → floors space ≡ floor → is_asked by log ≡ false → AsksAtRest set₀ v → P (log ++ Asked by floors ∷ [])) → IfAsked v set₀ log made-by P
asked-request v set₀ log broker made-by by space floor asked is made P h =
    let m = subst (IsMade set₀ broker) is made in
    subst (λ r. IfAsked v set₀ log r P) (sym is) (λ floors seen fresh rested. h m floors seen fresh rested)

-- what the service of keys carries out isn't about contents
pub known-keys : (asked : KvsAsk) → IsKnownAsk asked → is_about_contents asked ≡ false
known-keys (ask.Commit txn) h = refl
known-keys (ask.Fence name count txn) h = refl
known-keys (ask.Read query path) h = refl
known-keys (ask.Wait number) h = refl
known-keys ask.Create h = refl
known-keys ask.Remove h = refl
known-keys _ h = absurd h

pub known-ask : (made-by : Request₀) (by : By) (space : Name) (floor : ℕ) (asked : KvsAsk) → made-by ≡ request.Command by space floor asked → IsKnown made-by → IsKnownAsk asked
known-ask made-by by space floor asked is known = subst IsKnown is known
