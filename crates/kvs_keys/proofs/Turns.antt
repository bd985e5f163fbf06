-- Whom rank 0 has let wait had their turn: what each step leaves of that.
use Rattle.std.proofs.Common.{◌≡◌, ◌≢◌, ℕ, ◌+◌, ◌<◌, ◌⊎◌, inl, inr, List, [], ◌∷◌, ◌++◌, length, Bool, true, false, cond, if◌then◌else◌, ◌||◌, Some, None, option_map, refl, sym, ap, ◌∙◌, subst, arith, get_or, length-append, set, true≢false}
use Rattle.std.specs.Prelude.{IsTrue}
use Rattle.std.specs.List.{list_any, remove, AllByRecursion as Each}
use Rattle.std.proofs.lemmas.Bool.{cases_eq, cases_lt}
use Rattle.std.proofs.lemmas.List.{get_or_append_left, get_or_default, get_or_push, get_or-set_other, get_or-set_same, length-set}
use Rattle.std.proofs.lemmas.List.Edits.{get_or-remove_above, get_or-remove_below, length-remove}
use Rattle.kvs_txn.specs.declared.txn.By.{By}
use Rattle.kvs_txn.specs.declared.txn.Group.{Group}
use Rattle.kvs_txn.specs.declared.txn.Txn.{Txn}
use Rattle.kvs_model.specs.Store.{Name, Store}
use Rattle.fence_merge.specs.Fences.{fence_of}
use Rattle.kvs_txn.specs.declared.answers.Refusal.{Refusal}
use Rattle.kvs_rules.specs.declared.events.KvsAnswer.{KvsAnswer}
use Rattle.kvs_rules.specs.declared.events.KvsAnswer.TheVariants as answer
use Rattle.kvs_rules.specs.declared.events.KvsAsk.{KvsAsk}
use Rattle.kvs_rules.specs.declared.events.KvsAsk.TheVariants as ask
use Rattle.kvs_rules.specs.declared.events.KvsEvent.{KvsEvent}
use Rattle.kvs_rules.specs.Landings.{IsMember, IsUnrivalled}
use Rattle.kvs_rules.specs.Log.{Log, Moment, Happened, IsPending, asks_now, before_asked, denies_now, is_asked, is_denied, is_landed, lands_now, same_command}
use Rattle.kvs_rules.specs.Namespaces.{Setting, Request, Asks}
use Rattle.kvs_rules.specs.Sequence.{until}
use Rattle.kvs_rules.proofs.Sequences.{until-append}
use Rattle.kvs_rules.proofs.Stores.{any_push}
use Rattle.kvs_requests.specs.Agreement.{Entrants, RowAgrees, RowsAgree, StageAgrees}
use Rattle.kvs_requests.specs.Refused.{AreDismissed, AreRefused, GoesOn, IsCarried, IsDismissedRow, IsFalling, IsRefusedRow, IsReturning}
use Rattle.kvs_requests.specs.Rows.{AreApart, answered, landed_stage, settled, with_stage}
use Rattle.kvs_requests.specs.Stages.{is_arrived_stage, is_on, joined_in}
use Rattle.kvs_requests.specs.declared.rows.Row.{Row}
use Rattle.kvs_requests.specs.declared.rows.Stage.{Stage}
use Rattle.kvs_requests.specs.declared.rows.Stage.TheVariants as stage
use Rattle.kvs_rules.proofs.Asking.{command_is}
use Rattle.kvs_requests.proofs.Tables.{open-before, same-self}
use Rattle.kvs_space.specs.Space.{SpaceValue, is_authored, queued}
use Rattle.kvs_space.proofs.Finding.{found-within, set-kept}
use Rattle.kvs_keys.specs.Agrees.{Agrees}
use Rattle.kvs_keys.specs.Value.{KeysValue}
use Rattle.kvs_keys.proofs.Carried.{HasJoined, IsAwaited, all-joined, each-map, space-plain, waiting}
use Rattle.kvs_keys.specs.Turns.{ComesLast, HasFence, HasItsTurn, InTurn, IsComing, is_coming_stage}

-- ---- the log

left : (a b : Bool) → (a || b) ≡ false → a ≡ false
left true b e = e
left false b e = refl

-- a command that waits did so before, unless it asks now
pub pending-before : (by : By) (log : Log) (m : Moment) → asks_now by m ≡ false → IsPending by (log ++ m ∷ []) → IsPending by log
pending-before by log m off h = record {
  waits = open-before by log m off h.waits;
  unlanded = left (is_landed by log) (lands_now by m) (sym (any_push (lands_now by) log m) ∙ h.unlanded);
  undenied = left (is_denied by log) (denies_now by m) (sym (any_push (denies_now by) log m) ∙ h.undenied);
}

-- what is nowhere isn't in front either
pub until-none-of : {A : Type 0} (p test : A → Bool) (xs : List A) → list_any p xs ≡ false → list_any p (until test xs) ≡ false
until-none-of p test [] e = refl
until-none-of p test (x ∷ xs) e = at (test x) (until-none-of p test xs (right (p x) (list_any p xs) e))
  where
    right : (a b : Bool) → (a || b) ≡ false → b ≡ false
    right true b f = absurd (true≢false f)
    right false b f = f

    at : (b : Bool) → list_any p (until test xs) ≡ false → list_any p (cond b [] (x ∷ until test xs)) ≡ false
    at true rest = refl
    at false rest = ap (λ t. t || list_any p (until test xs)) (left (p x) (list_any p xs) e) ∙ rest

-- what passes first doesn't stand before it
until-clean : {A : Type 0} (test : A → Bool) (xs : List A) → list_any test (until test xs) ≡ false
until-clean test [] = refl
until-clean test (x ∷ xs) = at (test x) refl (until-clean test xs)
  where
    at : (b : Bool) → test x ≡ b → list_any test (until test xs) ≡ false → list_any test (cond b [] (x ∷ until test xs)) ≡ false
    at true e rest = refl
    at false e rest = ap (λ b. b || list_any test (until test xs)) e ∙ rest

-- who waited when a command asked is another
pub waited-other : (by earlier : By) (log : Log) → IsPending earlier (before_asked by log) → earlier ≢ by
waited-other by earlier log h e =
    true≢false (sym h.waits.asked ∙ ap (λ b. is_asked b (before_asked by log)) e ∙ until-clean (asks_now by) log)

pub some-same : {A : Type 0} (x y : A) → Some x ≡ Some y → x ≡ y
some-same x y e = cc

-- a command asks but one thing
pub asks-once : (set₀ : Setting) (by : By) (space : Name) (asked other : KvsAsk) (request : Request) → Asks set₀ space by asked → set₀.asks by ≡ Some request → request.ask ≡ other → asked ≡ other
asks-once set₀ by space asked other request h made is =
    let same : h.request ≡ request = some-same h.request request (sym h.made ∙ made) in
    sym h.asked ∙ ap (λ q. q.ask) same ∙ is

pub fence-not-create : (fence : List ℕ) (count : ℕ) (txn : Txn) → ask.Fence fence count txn ≡ ask.Create → ⊥
fence-not-create fence count txn e = cc

pub fence-not-remove : (fence : List ℕ) (count : ℕ) (txn : Txn) → ask.Fence fence count txn ≡ ask.Remove → ⊥
fence-not-remove fence count txn e = cc

pub fence-not-commit : (fence : List ℕ) (count : ℕ) (txn other : Txn) → ask.Fence fence count txn ≡ ask.Commit other → ⊥
fence-not-commit fence count txn other e = cc

-- who asks something else is no member of a fence
pub unrivalled-else : (set₀ : Setting) (log : Log) (by : By) → ((space : Name) (fence : List ℕ) (count : ℕ) (txn : Txn) → Asks set₀ space by (ask.Fence fence count txn) → ⊥) → (space : Name) → IsUnrivalled set₀ log space by
unrivalled-else set₀ log by none space earlier fence count other here there before = absurd (none space fence count here.1.0 here.1.1)

module _ {entered : Entrants} {set₀ : Setting} {log : Log} {spaces : List SpaceValue} {rows : List Row} (t : InTurn entered set₀ log spaces rows) where
  -- a moment at which no member of a fence asks
  pub turns-later : (m : Moment) → ((by : By) (space : Name) (fence : List ℕ) (count : ℕ) (txn : Txn) → Asks set₀ space by (ask.Fence fence count txn) → asks_now by m ≡ false) → InTurn entered set₀ (log ++ m ∷ []) spaces rows
  turns-later m none = record {
    let_in = λ by h.
        let o : HasItsTurn set₀ log by = t.let_in by h in
        record {
          asked = asked-still by o.asked;
          unrivalled = λ space earlier fence count other here there before.
              o.unrivalled space earlier fence count other (was space fence count by here) (was space fence other earlier there) (subst (IsPending earlier) (kept by o.asked) before);
        };
    coming = λ by c.
        let o : ComesLast set₀ log spaces rows by = t.coming by c in
        record {
          asked = asked-still by o.asked;
          alone = o.alone;
          met = λ other space fence count ne h.
              let q = o.met other space fence count ne (was space fence count other h) in
              (subst (IsPending other) (sym (kept by o.asked)) q.0, q.1);
        };
  } where
    was : (space : Name) (fence : List ℕ) (count : ℕ) (by : By) → IsMember set₀ (log ++ m ∷ []) space fence count by → IsMember set₀ log space fence count by
    was space fence count by h = (pending-before by log m (none by space fence count h.1.0 h.1.1) h.0, h.1)

    kept : (by : By) → is_asked by log ≡ true → before_asked by (log ++ m ∷ []) ≡ before_asked by log
    kept by e = until-append (asks_now by) log (m ∷ []) e

    asked-still : (by : By) → is_asked by log ≡ true → is_asked by (log ++ m ∷ []) ≡ true
    asked-still by e = any_push (asks_now by) log m ∙ ap (λ b. b || asks_now by m) e

  pub turns-happened : (e : KvsEvent) → InTurn entered set₀ (log ++ Happened e ∷ []) spaces rows
  turns-happened e = turns-later (Happened e) (λ by space fence count txn h. refl)

  -- who comes came before, and the open fences stay
  pub turns-moved : (spaces₁ : List SpaceValue) (rows₁ : List Row) → ((space : Name) (fence : List ℕ) (count : ℕ) → HasFence spaces space fence count → HasFence spaces₁ space fence count) → ((by : By) → IsComing rows₁ by → IsComing rows by) → InTurn entered set₀ log spaces₁ rows₁
  turns-moved spaces₁ rows₁ fences was = record {
    let_in = t.let_in;
    coming = λ by c.
        let o : ComesLast set₀ log spaces rows by = t.coming by (was by c) in
        record {
          asked = o.asked;
          alone = λ other d. o.alone other (was other d);
          met = λ other space fence count ne h. let q = o.met other space fence count ne h in (q.0, fences space fence count q.1);
        };
  }

  -- nobody comes any more
  pub turns-quiet : (spaces₁ : List SpaceValue) (rows₁ : List Row) → ((by : By) → IsComing rows₁ by → ⊥) → InTurn entered set₀ log spaces₁ rows₁
  turns-quiet spaces₁ rows₁ nobody = record { let_in = t.let_in; coming = λ by c. absurd (nobody by c) }

-- ---- the rows

-- what comes at this place came there before
abbrev pub ComesFrom : List Row → List Row → ℕ → Type 0
ComesFrom rows₁ rows j = j < length rows₁ → ((d : Row) → is_coming_stage (get_or rows₁ j d).stage ≡ true)
    → (j < length rows) × ((d : Row) → ((get_or rows₁ j d).by ≡ (get_or rows j d).by) × (is_coming_stage (get_or rows j d).stage ≡ true))

pub coming-from : {rows₁ rows : List Row} → ((j : ℕ) → ComesFrom rows₁ rows j) → (by : By) → IsComing rows₁ by → IsComing rows by
coming-from per by c =
    let q = per c.place c.within c.comes in
    record { place = c.place; within = q.0; is = λ d. sym (q.1 d).0 ∙ c.is d; comes = λ d. (q.1 d).1 }

pub from-from : (rows₂ rows₁ rows : List Row) → ((j : ℕ) → ComesFrom rows₂ rows₁ j) → ((j : ℕ) → ComesFrom rows₁ rows j) → (j : ℕ) → ComesFrom rows₂ rows j
from-from rows₂ rows₁ rows later earlier j l c =
    let q = later j l c in
    let p = earlier j q.0 (λ d. (q.1 d).1) in
    (p.0, λ d. ((q.1 d).0 ∙ (p.1 d).0, (p.1 d).1))

pub each-from : (rows₁ rows : List Row) → length rows₁ ≡ length rows → ((j : ℕ) (d : Row) → j < length rows → ((get_or rows₁ j d).by ≡ (get_or rows j d).by) × (is_coming_stage (get_or rows₁ j d).stage ≡ true → is_coming_stage (get_or rows j d).stage ≡ true)) → (j : ℕ) → ComesFrom rows₁ rows j
each-from rows₁ rows long h j l c =
    let lj = subst (λ n. j < n) long l in
    (lj, λ d. ((h j d lj).0, (h j d lj).1 (c d)))

module _ (rows : List Row) (i : ℕ) (within : i < length rows) (new : Row) (same : (d : Row) → new.by ≡ (get_or rows i d).by) where
  pub set-from : (is_coming_stage new.stage ≡ true → (d : Row) → is_coming_stage (get_or rows i d).stage ≡ true) → (j : ℕ) → ComesFrom (set rows i new) rows j
  set-from was j l c =
      let lj : j < length rows = subst (λ n. j < n) (length-set rows i new) l in
      (lj, λ d. (set-kept (λ r. r.by) rows i new same j d lj, stands d))
    where
      stands : (d : Row) → is_coming_stage (get_or rows j d).stage ≡ true
      stands d = elim (cases_eq j i) [
        | inl e ↦
            let here : get_or (set rows i new) j d ≡ new = ap (λ n. get_or (set rows i new) n d) e ∙ get_or-set_same rows i new d within in
            ap (λ n. is_coming_stage (get_or rows n d).stage) e ∙ was (sym (ap (λ r. is_coming_stage r.stage) here) ∙ c d) d
        | inr ne ↦ ap (λ r. is_coming_stage r.stage) (sym (get_or-set_other rows i j new d ne)) ∙ c d
      ]

-- two commands are one or not
pub command-cases : (a b : By) → (a ≡ b) ⊎ (a ≢ b)
command-cases a b = at (same_command a b) refl
  where
    at : (t : Bool) → same_command a b ≡ t → (a ≡ b) ⊎ (a ≢ b)
    at true e = inl (command_is a b e)
    at false e = inr (λ q. true≢false (sym (ap (same_command a) (sym q) ∙ same-self a) ∙ e))

-- the one that comes is taken up, or turned away
module _ {entered : Entrants} {set₀ : Setting} {log : Log} {spaces : List SpaceValue} {rows : List Row} (t : InTurn entered set₀ log spaces rows) (apart : AreApart rows) (i : ℕ) (within : i < length rows) (row : Row) (read : row ≡ get_or rows i row) (comes : is_coming_stage row.stage ≡ true) where
  there : (d : Row) → row ≡ get_or rows i d
  there d = read ∙ get_or_default rows i row d within

  pub row-comes : IsComing rows row.by
  row-comes = record { place = i; within = within; is = λ d. ap (λ r. r.by) (sym (there d)); comes = λ d. ap (λ r. is_coming_stage r.stage) (sym (there d)) ∙ comes }

  pub comes-last : ComesLast set₀ log spaces rows row.by
  comes-last = t.coming row.by row-comes

  pub nobody-comes : (rows₁ : List Row) → ((j : ℕ) → ComesFrom rows₁ rows j) → ((i < length rows₁) → ((d : Row) → is_coming_stage (get_or rows₁ i d).stage ≡ true) → ⊥) → (by : By) → IsComing rows₁ by → ⊥
  nobody-comes rows₁ per off by c = elim (cases_eq c.place i) [
    | inl e ↦ off (subst (λ n. n < length rows₁) e c.within) (λ d. ap (λ n. is_coming_stage (get_or rows₁ n d).stage) (sym e) ∙ c.comes d)
    | inr ne ↦
        let was = per c.place c.within c.comes in
        let one : (get_or rows c.place row).by ≡ row.by = sym (was.1 row).0 ∙ c.is row ∙ comes-last.alone by (coming-from per by c) in
        let same : (get_or rows c.place row).by ≡ (get_or rows i row).by = one ∙ ap (λ r. r.by) (there row) in
        let lj = was.0 in
        elim (cases_lt c.place i) [
          | inl lt ↦ apart c.place i row lt within same
          | inr ge ↦ apart i c.place row (omega arith) lj (sym same)
        ]
  ]

  pub nobody-set : (new : Row) → new.by ≡ row.by → is_coming_stage new.stage ≡ false → (by : By) → IsComing (set rows i new) by → ⊥
  nobody-set new same off = nobody-comes (set rows i new) (set-from rows i within new (λ d. same ∙ ap (λ r. r.by) (there d)) (λ c. absurd (true≢false (sym c ∙ off))))
      (λ l c. true≢false (sym (c row) ∙ ap (λ r. is_coming_stage r.stage) (get_or-set_same rows i new row within) ∙ off))

  pub turns-taken : (new : Row) → new.by ≡ row.by → is_coming_stage new.stage ≡ false → (spaces₁ : List SpaceValue) → InTurn entered set₀ log spaces₁ (set rows i new)
  turns-taken new same off spaces₁ = turns-quiet t spaces₁ (set rows i new) (nobody-set new same off)

  -- and where it waits then, it had its turn
  pub turns-entered : (unrivalled : (space : Name) → IsUnrivalled set₀ log space row.by) (entered₁ : Entrants) → ((by : By) → entered₁ by ≡ true → by ≢ row.by → entered by ≡ true) → (new : Row) → new.by ≡ row.by → is_coming_stage new.stage ≡ false → (spaces₁ : List SpaceValue) → InTurn entered₁ set₀ log spaces₁ (set rows i new)
  turns-entered unrivalled entered₁ was new same off spaces₁ = record {
    let_in = λ by h. elim (command-cases by row.by) [
      | inl e ↦ subst (HasItsTurn set₀ log) (sym e) (record { asked = comes-last.asked; unrivalled = unrivalled })
      | inr ne ↦ t.let_in by (was by h ne)
    ];
    coming = λ by c. absurd (nobody-set new same off by c);
  }

-- ---- what becomes of a row

-- what has come to rank 0 comes
pub arrived-comes : (st : Stage) → is_arrived_stage st ≡ true → is_coming_stage st ≡ true
arrived-comes (stage.Arrived asks) e = refl
arrived-comes (stage.Rising from to asks) e = refl
arrived-comes (stage.Joined place work) e = absurd (true≢false (sym e))
arrived-comes (stage.Landed place n work) e = absurd (true≢false (sym e))
arrived-comes (stage.Falling from to given) e = absurd (true≢false (sym e))
arrived-comes (stage.Ended given) e = absurd (true≢false (sym e))
arrived-comes (stage.Returning from to place asked) e = absurd (true≢false (sym e))
arrived-comes (stage.Parked place asked) e = absurd (true≢false (sym e))
arrived-comes (stage.Held n given) e = absurd (true≢false (sym e))

-- an answer on its way comes no more
pub falling-goes : (fanout at home : ℕ) (given : KvsAnswer) (st : Stage) → IsFalling fanout at home given st → is_coming_stage st ≡ false
falling-goes fanout at home given (stage.Falling from to held) f = refl
falling-goes fanout at home given (stage.Ended held) f = refl
falling-goes fanout at home given (stage.Joined place work) f = absurd f
falling-goes fanout at home given (stage.Rising from to asks) f = absurd f
falling-goes fanout at home given (stage.Arrived asks) f = absurd f
falling-goes fanout at home given (stage.Landed place n work) f = absurd f
falling-goes fanout at home given (stage.Returning from to place asked) f = absurd f
falling-goes fanout at home given (stage.Parked place asked) f = absurd f
falling-goes fanout at home given (stage.Held n held) f = absurd f

pub returning-goes : (fanout at home space : ℕ) (asked : KvsAsk) (st : Stage) → IsReturning fanout at home space asked st → is_coming_stage st ≡ false
returning-goes fanout at home space asked (stage.Returning from to place held) f = refl
returning-goes fanout at home space asked (stage.Parked place held) f = refl
returning-goes fanout at home space asked (stage.Falling from to held) f = absurd f
returning-goes fanout at home space asked (stage.Ended held) f = absurd f
returning-goes fanout at home space asked (stage.Joined place work) f = absurd f
returning-goes fanout at home space asked (stage.Rising from to asks) f = absurd f
returning-goes fanout at home space asked (stage.Arrived asks) f = absurd f
returning-goes fanout at home space asked (stage.Landed place n work) f = absurd f
returning-goes fanout at home space asked (stage.Held n held) f = absurd f

landed-comes : (place number : ℕ) (st : Stage) → is_coming_stage (landed_stage place number st) ≡ true → is_coming_stage st ≡ true
landed-comes place number (stage.Joined at work) c = absurd (true≢false (sym c))
landed-comes place number (stage.Rising from to asks) c = refl
landed-comes place number (stage.Arrived asks) c = refl
landed-comes place number (stage.Landed at n work) c = c
landed-comes place number (stage.Falling from to given) c = c
landed-comes place number (stage.Ended given) c = c
landed-comes place number (stage.Returning from to at asked) c = c
landed-comes place number (stage.Parked at asked) c = c
landed-comes place number (stage.Held n given) c = c

pub settled-comes : (place number : ℕ) (groups : List Group) (row : Row) → ((settled place number groups row).by ≡ row.by) × (is_coming_stage (settled place number groups row).stage ≡ true → is_coming_stage row.stage ≡ true)
settled-comes place number groups row = at (list_any (is_authored row.by) groups)
  where
    at : (b : Bool) → ((if b then with_stage (landed_stage place number row.stage) row else row).by ≡ row.by) × (is_coming_stage (if b then with_stage (landed_stage place number row.stage) row else row).stage ≡ true → is_coming_stage row.stage ≡ true)
    at true = (refl, λ c. landed-comes place number row.stage c)
    at false = (refl, λ c. c)

pub answered-comes : (known : ℕ) (ended : Bool) (store : Store) (st : Stage) → is_coming_stage (answered known ended store st) ≡ true → is_coming_stage st ≡ true
answered-comes known ended store (stage.Joined at work) c = c
answered-comes known ended store (stage.Rising from to asks) c = refl
answered-comes known ended store (stage.Arrived asks) c = refl
answered-comes known ended store (stage.Landed at n work) c = absurd (true≢false (sym c))
answered-comes known ended store (stage.Falling from to given) c = c
answered-comes known ended store (stage.Ended given) c = absurd (true≢false (sym c))
answered-comes known ended store (stage.Returning from to at asked) c = c
answered-comes known true store (stage.Parked at asked) c = absurd (true≢false (sym c))
answered-comes known false store (stage.Parked at asked) c = absurd (true≢false (sym c))
answered-comes known ended store (stage.Held n given) c = c

goes-comes : (fanout at home : ℕ) (old new : Stage) → GoesOn fanout at home old new → is_coming_stage new ≡ true → is_coming_stage old ≡ true
goes-comes fanout at home (stage.Rising from to asks) new g c = refl
goes-comes fanout at home (stage.Falling from to given) new g c = absurd (true≢false (sym c ∙ falling-goes fanout at home given new g))
goes-comes fanout at home (stage.Returning from to space asked) new g c = absurd (true≢false (sym c ∙ returning-goes fanout at home space asked new g))
goes-comes fanout at home (stage.Arrived asks) new g c = refl
goes-comes fanout at home (stage.Joined place work) new g c = sym (ap is_coming_stage g) ∙ c
goes-comes fanout at home (stage.Landed place n work) new g c = sym (ap is_coming_stage g) ∙ c
goes-comes fanout at home (stage.Ended given) new g c = sym (ap is_coming_stage g) ∙ c
goes-comes fanout at home (stage.Parked place asked) new g c = sym (ap is_coming_stage g) ∙ c
goes-comes fanout at home (stage.Held n given) new g c = sym (ap is_coming_stage g) ∙ c

any-row : Row
any-row = record { by = record { actor = 0; command = 0 }; broker = 0; namespace = []; need = 0; stage = stage.Arrived ask.Create }

-- a message goes on
pub carried-from : (fanout from to : ℕ) (old new : List Row) → IsCarried fanout from to old new → (by : By) → IsComing new by → IsComing old by
carried-from fanout from to old new h =
    let within : h.place < length old = found-within (is_on from to) old h.place (sym h.oldest) in
    let row : Row = get_or old h.place any-row in
    let now : Row = with_stage h.stage row in
    coming-from (λ j. subst (λ rs. ComesFrom rs old j) (sym (h.others any-row))
    (set-from old h.place within now (λ d. ap (λ r. r.by) (get_or_default old h.place any-row d within))
    (λ c d. ap (λ r. is_coming_stage r.stage) (get_or_default old h.place d any-row within) ∙ goes-comes fanout to row.broker row.stage h.stage (h.goes any-row) c) j))

-- an answer is made
pub given-from : (rows : List Row) (i : ℕ) → i < length rows → (known : ℕ) (ended : Bool) (store : Store) (new : List Row) → ((d : Row) → new ≡ set rows i (with_stage (answered known ended store (get_or rows i d).stage) (get_or rows i d))) → (by : By) → IsComing new by → IsComing rows by
given-from rows i within known ended store new h =
    let row : Row = get_or rows i any-row in
    coming-from (λ j. subst (λ rs. ComesFrom rs rows j) (sym (h any-row))
    (set-from rows i within (with_stage (answered known ended store row.stage) row) (λ d. ap (λ r. r.by) (get_or_default rows i any-row d within))
    (λ c d. ap (λ r. is_coming_stage r.stage) (get_or_default rows i d any-row within) ∙ answered-comes known ended store row.stage c) j))

-- an answer is taken
pub removed-from : (rows : List Row) (i : ℕ) → i < length rows → (by : By) → IsComing (remove rows i) by → IsComing rows by
removed-from rows i within by c =
    let n = length-remove rows i within in
    let l = c.within in
    elim (cases_lt c.place i) [
      | inl lt ↦ record {
        place = c.place;
        within = omega arith;
        is = λ d. ap (λ r. r.by) (sym (get_or-remove_below rows i d c.place lt within)) ∙ c.is d;
        comes = λ d. ap (λ r. is_coming_stage r.stage) (sym (get_or-remove_below rows i d c.place lt within)) ∙ c.comes d;
      }
      | inr ge ↦ record {
        place = c.place + 1;
        within = omega arith;
        is = λ d. ap (λ r. r.by) (sym (get_or-remove_above rows i d c.place ge within)) ∙ c.is d;
        comes = λ d. ap (λ r. is_coming_stage r.stage) (sym (get_or-remove_above rows i d c.place ge within)) ∙ c.comes d;
      }
    ]

-- where nobody comes, a new request is the only one that does
pub pushed-alone : (rows : List Row) (new : Row) → ((by : By) → IsComing rows by → ⊥) → (by : By) → IsComing (rows ++ new ∷ []) by → by ≡ new.by
pushed-alone rows new nobody by c = elim (cases_lt c.place (length rows)) [
  | inl lt ↦ absurd (nobody by (record {
    place = c.place;
    within = lt;
    is = λ d. ap (λ r. r.by) (sym (get_or_append_left rows (new ∷ []) d c.place lt)) ∙ c.is d;
    comes = λ d. ap (λ r. is_coming_stage r.stage) (sym (get_or_append_left rows (new ∷ []) d c.place lt)) ∙ c.comes d;
  }))
  | inr ge ↦
      let n = length-append rows (new ∷ []) in
      let l = c.within in
      let at : c.place ≡ length rows = omega arith in
      sym (c.is new) ∙ ap (λ r. r.by) (get_or_push rows new new c.place (sym at))
]

-- ---- the table

module _ (spaces : List SpaceValue) (k : ℕ) (within : k < length spaces) (old new : SpaceValue) (read : old ≡ get_or spaces k old) (name : new.name ≡ old.name) (fences : new.merger.fences ≡ old.merger.fences) where
  pub fence-stays : (space : Name) (fence : List ℕ) (count : ℕ) → HasFence spaces space fence count → HasFence (set spaces k new) space fence count
  fence-stays space fence count h = record {
    place = h.place;
    within = subst (λ n. h.place < n) (sym (length-set spaces k new)) h.within;
    named = λ d. set-kept (λ x. x.name) spaces k new (λ q. name ∙ ap (λ x. x.name) (there q)) h.place d h.within ∙ h.named d;
    kept = λ d. set-kept (λ x. option_map (λ f. f.count) (fence_of fence x.merger.fences)) spaces k new (λ q. ap (λ fs. option_map (λ f. f.count) (fence_of fence fs)) (fences ∙ ap (λ x. x.merger.fences) (there q))) h.place d h.within ∙ h.kept d;
  } where
    there : (q : SpaceValue) → old ≡ get_or spaces k q
    there q = read ∙ get_or_default spaces k old q within

-- ---- who waits to land

-- whose request has joined a namespace was let wait there
pub joined-entered : {entered : Entrants} {set₀ : Setting} {log : Log} {spaces : List SpaceValue} {rows : List Row} → RowsAgree entered set₀ log spaces rows → (k : ℕ) (by : By) → HasJoined rows k by → entered by ≡ true
joined-entered {entered} {set₀} {log} {spaces} {rows} all k by h = ap entered (sym (h.is any-row)) ∙ joined (get_or rows h.at any-row) (get_or rows h.at any-row).stage refl (h.joined any-row) (all.rows h.at any-row h.within)
  where
    joined : (r : Row) → (st : Stage) → r.stage ≡ st → joined_in k r.stage ≡ true → RowAgrees entered set₀ log spaces r → entered r.by ≡ true
    joined r (stage.Joined place w) e j a = (subst (StageAgrees entered set₀ log spaces r.by a.request) e a.staged).4
    joined r (stage.Rising from to asks) e j a = absurd (true≢false (sym j ∙ ap (joined_in k) e))
    joined r (stage.Arrived asks) e j a = absurd (true≢false (sym j ∙ ap (joined_in k) e))
    joined r (stage.Landed place n w) e j a = absurd (true≢false (sym j ∙ ap (joined_in k) e))
    joined r (stage.Falling from to given) e j a = absurd (true≢false (sym j ∙ ap (joined_in k) e))
    joined r (stage.Ended given) e j a = absurd (true≢false (sym j ∙ ap (joined_in k) e))
    joined r (stage.Returning from to place asked) e j a = absurd (true≢false (sym j ∙ ap (joined_in k) e))
    joined r (stage.Parked place asked) e j a = absurd (true≢false (sym j ∙ ap (joined_in k) e))
    joined r (stage.Held n given) e j a = absurd (true≢false (sym j ∙ ap (joined_in k) e))

-- the refused come no more
pub refused-from : (fanout : ℕ) (authors : List By) (refusal : Refusal) (old new : List Row) → AreRefused fanout authors refusal old new → (by : By) → IsComing new by → IsComing old by
refused-from fanout authors refusal old new all = coming-from (each-from new old all.same_len (λ j d l. one (get_or old j d) (get_or new j d) (all.each j d l)))
  where
    one : (row now : Row) → IsRefusedRow fanout authors refusal row now → (now.by ≡ row.by) × (is_coming_stage now.stage ≡ true → is_coming_stage row.stage ≡ true)
    one row now f = at (list_any (same_command row.by) authors) refl
      where
        at : (b : Bool) → list_any (same_command row.by) authors ≡ b → (now.by ≡ row.by) × (is_coming_stage now.stage ≡ true → is_coming_stage row.stage ≡ true)
        at true e =
            let x = f.told e in
            (ap (λ r. r.by) x.1, λ c. absurd (true≢false (sym c ∙ ap (λ r. is_coming_stage r.stage) x.1 ∙ falling-goes fanout 0 row.broker (answer.Refused refusal) x.0 x.2)))
        at false e = (ap (λ r. r.by) (f.others e), λ c. ap (λ r. is_coming_stage r.stage) (sym (f.others e)) ∙ c)

-- nor do those that a removal dismisses
pub dismissed-from : (fanout k : ℕ) (old new : List Row) → AreDismissed fanout k old new → (j : ℕ) → ComesFrom new old j
dismissed-from fanout k old new all = each-from new old all.same_len (λ j d l. one (get_or old j d) (get_or new j d) (all.each j d l))
  where
    one : (row now : Row) → IsDismissedRow fanout k row now → (now.by ≡ row.by) × (is_coming_stage now.stage ≡ true → is_coming_stage row.stage ≡ true)
    one row now f = at (joined_in k row.stage) refl
      where
        at : (b : Bool) → joined_in k row.stage ≡ b → (now.by ≡ row.by) × (is_coming_stage now.stage ≡ true → is_coming_stage row.stage ≡ true)
        at true e =
            let x = f.told e in
            (ap (λ r. r.by) x.1, λ c. absurd (true≢false (sym c ∙ ap (λ r. is_coming_stage r.stage) x.1 ∙ falling-goes fanout 0 row.broker answer.NoNamespace x.0 x.2)))
        at false e = (ap (λ r. r.by) (f.others e), λ c. ap (λ r. is_coming_stage r.stage) (sym (f.others e)) ∙ c)

none-some : {A : Type 0} {x : A} → None ≡ Some x → ⊥
none-some e = cc

module _ {v : KeysValue} {set₀ : Setting} {log : Log} (a : Agrees v set₀ log) (settled : IsTrue set₀.settled) where
  -- who waits to land in a namespace has no earlier rival
  pub waiting-unrivalled : (k : ℕ) → k < length v.spaces → (old : SpaceValue) → old ≡ get_or v.spaces k old → Each (IsUnrivalled set₀ log old.name) (waiting (queued old.merger))
  waiting-unrivalled k l old read =
      subst (λ x. Each (IsUnrivalled set₀ log old.name) (waiting (queued x.merger))) (sym read)
      (each-map (IsAwaited set₀ v.rows k) (IsUnrivalled set₀ log old.name) (waiting (queued (get_or v.spaces k old).merger))
      (all-joined all k old l (a.spaces k old l).fresh (space-plain (a.spaces k old l))) one)
    where
      all : RowsAgree a.entered set₀ log v.spaces v.rows
      all = record { rows = a.rows; apart = a.apart; strange = a.strange; outside = a.outside; open_rows = a.open_rows }

      one : (by : By) → IsAwaited set₀ v.rows k by → IsUnrivalled set₀ log old.name by
      one by (inl none) = unrivalled-else set₀ log by (λ space fence count txn h. none-some (sym none ∙ h.made)) old.name
      one by (inr j) = ((a.turns settled).let_in by (joined-entered all k by j)).unrivalled old.name
