-- A message goes on, a request comes in, and an answer is taken.
use Rattle.std.proofs.Common.{option_map, true≢false, ◌≡◌, ℕ, ◌+◌, ◌<◌, inl, inr, List, [], ◌∷◌, ◌++◌, length, Bool, true, ◌&&◌, Option, Some, None, Result, Ok, Err, OnOk, unwrap_or, refl, sym, ap, ◌∙◌, subst, arith, get_or}
use Rattle.std.specs.List.{count_by, position, remove}
use Rattle.std.proofs.lemmas.Bool.{cases_lt}
use Rattle.std.proofs.lemmas.List.{get_or_default}
use Rattle.std.proofs.lemmas.Option.{slice_get-get_or}
use Rattle.std.proofs.lemmas.List.Edits.{get_or-remove_below, get_or-remove_above, length-remove}
use Rattle.kvs_txn.specs.declared.txn.By.{By}
use Rattle.kvs_rules.specs.declared.events.KvsAnswer.{KvsAnswer}
use Rattle.kvs_rules.specs.declared.events.KvsAnswer.TheVariants as answer
use Rattle.kvs_rules.specs.declared.events.KvsEvent.TheVariants as event
use Rattle.kvs_rules.specs.Log.{Log, Moment, Happened, same_command}
use Rattle.kvs_rules.specs.Namespaces.{Setting, landed, number_landed}
use Rattle.kvs_rules.specs.Brokers.{number_heard}
use Rattle.kvs_rules.specs.Answers.{IsLegalAnswer}
use Rattle.kvs_rules.proofs.Logs.{landed_push}
use Rattle.kvs_rules.proofs.Asking.{command_is}
use Rattle.std.specs.Cmp.Lexicographic.{bytes_decides}
use Rattle.kvs_model.specs.Store.{Name}
use Rattle.kvs_keys.specs.declared.service.Request.{Request as Request₀}
use Rattle.kvs_keys.specs.declared.service.Request.TheVariants as request
use Rattle.kvs_txn.specs.declared.txn.Txn.{Txn}
use Rattle.kvs_keys.specs.Posted.{CanPost, IsNewPost}
use Rattle.kvs_keys.specs.Requests.{MayPost, IfAsked}
use Rattle.kvs_requests.specs.declared.rows.Row.{Row}
use Rattle.kvs_requests.specs.declared.rows.Stage.TheVariants as stage
use Rattle.kvs_requests.specs.Stages.{is_on, is_held, is_held_stage, joined_in}
use Rattle.kvs_keys.specs.Steps.{messages}
use Rattle.kvs_space.specs.Space.{SpaceValue, name_at, queued, is_named}
use Rattle.kvs_keys.specs.Value.{KeysValue}
use Rattle.kvs_keys.specs.Sound.{IsSound}
use Rattle.kvs_requests.specs.Rows.{IsPlaced, ArePlaced}
use Rattle.kvs_keys.specs.Agrees.{Agrees}
use Rattle.kvs_requests.specs.Agreement.{MayTell, RowAgrees, StageAgrees, RowsAgree}
use Rattle.kvs_space.proofs.Finding.{and-left, and-right, found-within, found-passes}
use Rattle.kvs_keys.proofs.Heads.{IsHead, head-of, rows-of, head-kept}
use Rattle.kvs_requests.proofs.Later.{Grows, IsAside, Upholds, told-silent}
use Rattle.kvs_keys.proofs.Carried.{space-plain, waiting, each-map, IsAwaited, all-joined, other-commands}
use Rattle.kvs_requests.proofs.Tables.{rows-answered, aside-answered}

pub moved-sound : {v : KeysValue} → IsSound v → (spent : Bool) (rows : List Row) → ArePlaced v.fanout v.size v.spaces rows → IsSound (record { spent = spent; size = v.size; fanout = v.fanout; grant = v.grant; spaces = v.spaces; rows = rows })
moved-sound s spent rows placed = record { fanout = s.fanout; size = s.size; brokers = s.brokers; spaces = s.spaces; few = s.few; room = s.room; first = s.first; apart = s.apart; placed = placed }

pub fewer-carried : (v : KeysValue) (from to : ℕ) (spent : Bool) (rows : List Row) → count_by (is_on from to) rows < count_by (is_on from to) v.rows
    → messages (record { spent = spent; size = v.size; fanout = v.fanout; grant = v.grant; spaces = v.spaces; rows = rows }) from to < messages v from to
fewer-carried v from to spent rows less = omega arith

-- a moment at which nothing lands and nobody hears
pub grows-silent : (log : Log) (m : Moment) → ((space : Name) → number_landed space m ≡ None) → ((b : ℕ) (space : Name) → number_heard b space m ≡ None) → Grows log m
grows-silent log m number silent = record {
  told = told-silent log m silent;
  rises = λ space. let e = same space in omega arith;
  ends = λ space r. same space;
} where
  same : (space : Name) → landed (log ++ m ∷ []) space ≡ landed log space
  same space = landed_push log m space ∙ ap (λ o. unwrap_or o (landed log space)) (number space)

-- the namespace of a name, where the code found it
module _ {v : KeysValue} (s : IsSound v) (name : Name) (k : ℕ) (found : Some k ≡ position (is_named name) v.spaces) where
  pub found-there : k < length v.spaces
  found-there = found-within (is_named name) v.spaces k found

  pub found-name : (d : SpaceValue) → (get_or v.spaces k d).name ≡ name
  found-name d = sym ((bytes_decides name (get_or v.spaces k d).name).0 (found-passes (is_named name) v.spaces k d found))

  pub found-at : (d : SpaceValue) → name_at v.spaces k ≡ Some name
  found-at d = ap (option_map (λ x. x.name)) (slice_get-get_or v.spaces k d found-there) ∙ ap Some (found-name d)

-- an answer that waits is taken
module _ (v : KeysValue) (by : By) (i : ℕ) (row : Row) (read : row ≡ get_or v.rows i row) (found : Some i ≡ position (λ r. same_command by r.by && is_held r) v.rows) where
  pub take-within : i < length v.rows
  take-within = found-within (λ r. same_command by r.by && is_held r) v.rows i found

  take-passes : (same_command by row.by && is_held row) ≡ true
  take-passes = ap (λ r. same_command by r.by && is_held r) read ∙ found-passes (λ r. same_command by r.by && is_held r) v.rows i row found

  pub take-held : is_held_stage row.stage ≡ true
  take-held = and-right (same_command by row.by) (is_held row) take-passes

  take-by : by ≡ row.by
  take-by = command_is by row.by (and-left (same_command by row.by) (is_held row) take-passes)

  by-there : (d : Row) → (get_or v.rows i d).by ≡ by
  by-there d = ap (λ r. r.by) (get_or_default v.rows i d row take-within) ∙ ap (λ r. r.by) (sym read) ∙ sym take-by

  pub taken-sound : IsSound v → (spent : Bool) → IsSound (record { spent = spent; size = v.size; fanout = v.fanout; grant = v.grant; spaces = v.spaces; rows = remove v.rows i })
  taken-sound s spent = moved-sound s spent (remove v.rows i) placed
    where
      placed : (k : ℕ) (d : Row) → k < length (remove v.rows i) → IsPlaced v.fanout v.size v.spaces (get_or (remove v.rows i) k d)
      placed k d l =
          let n = length-remove v.rows i take-within in
          elim (cases_lt k i) [
            | inl lt ↦ subst (IsPlaced v.fanout v.size v.spaces) (sym (get_or-remove_below v.rows i d k lt take-within)) (s.placed k d (omega arith))
            | inr ge ↦ subst (IsPlaced v.fanout v.size v.spaces) (sym (get_or-remove_above v.rows i d k ge take-within)) (s.placed (k + 1) d (omega arith))
          ]

  module _ (number : Option ℕ) (given : KvsAnswer) (is : row.stage ≡ stage.Held number given) {set₀ : Setting} {log : Log} (a : Agrees v set₀ log) where
    pub taken-legal : IsLegalAnswer set₀ log by number given
    taken-legal =
        let r : RowAgrees a.entered set₀ log v.spaces row = subst (RowAgrees a.entered set₀ log v.spaces) (sym read) (a.rows i row take-within) in
        let staged = subst (StageAgrees a.entered set₀ log v.spaces row.by r.request) is r.staged in
        subst (λ b. IsLegalAnswer set₀ log b number given) (sym take-by) staged.0

    pub taken-head : IsHead v.size v.fanout v.grant v.spaces set₀ (log ++ Happened (event.Answered by number given) ∷ [])
    taken-head = head-kept (head-of a) _ refl (λ name. record { groups = refl; number = refl; removed = refl; silent = λ b. refl })
        (λ k d l. each-map (IsAwaited set₀ v.rows k) (λ b. IsAside b (Happened (event.Answered by number given))) (waiting (queued (get_or v.spaces k d).merger)) (all-joined (rows-of a) k d l (a.spaces k d l).fresh (space-plain (a.spaces k d l)))
        (λ b h. aside-answered b by number given (λ e. other-commands (rows-of a) i row take-within read k (ap (joined_in k) is) b h (e ∙ take-by))))

    -- a command that waits, or has waited, is told something else
    taken-upholds : Upholds a.entered (Happened (event.Answered by number given))
    taken-upholds other inside told kept e = by-answer given number is (subst (StageAgrees a.entered set₀ log v.spaces row.by r.request) is r.staged) e
      where
        r : RowAgrees a.entered set₀ log v.spaces row
        r = subst (RowAgrees a.entered set₀ log v.spaces) (sym read) (a.rows i row take-within)

        by-answer : (x : KvsAnswer) (n : Option ℕ) → row.stage ≡ stage.Held n x → MayTell a.entered set₀ log row.by n x → Happened (event.Answered by n x) ≡ Happened (event.Answered other told (answer.CountDiffers kept)) → ⊥
        by-answer (answer.CountDiffers k) n f h q =
            let same : by ≡ other = cc in
            true≢false (sym inside ∙ ap a.entered (sym same ∙ take-by) ∙ h.2.1)
        by-answer _ n f h q = cc

    pub taken-rows : RowsAgree a.entered set₀ (log ++ Happened (event.Answered by number given) ∷ []) v.spaces (remove v.rows i)
    taken-rows = rows-answered (rows-of a) i by number given take-within by-there (grows-silent log _ (λ space. refl) (λ b space. refl)) taken-upholds

pub on-ok : {T E P Q : Type 0} (r : Result T E) → (P → Q) → OnOk r P → OnOk r Q
on-ok (Ok x) f h = f h
on-ok (Err e) f h = tt

-- what a request says of the manager's transaction that it makes
pub posted-request : (v : KeysValue) (set₀ : Setting) (log : Log) (made-by : Request₀) (command : Option By) (txn : Txn) → made-by ≡ request.Manager command txn → (P : Log → Type 0) → (IsNewPost v set₀ log command → P log) → IfAsked v set₀ log made-by P
posted-request v set₀ log made-by command txn is P h = subst (λ r. IfAsked v set₀ log r P) (sym is) h

pub may-post : (v : KeysValue) (made-by : Request₀) (command : Option By) (txn : Txn) → made-by ≡ request.Manager command txn → MayPost v made-by → CanPost v command txn
may-post v made-by command txn is may = subst (MayPost v) is may
