-- A command is told its answer.
use Rattle.std.proofs.Common.{◌≡◌, ◌≢◌, ℕ, zero, suc, ◌+◌, ◌<◌, ◌≤◌, inl, inr, [], ◌∷◌, ◌++◌, length, Bool, true, false, ◌||◌, ◌&&◌, cond, Contains, Some, None, Option, refl, sym, ap, ◌∙◌, subst, arith, true≢false, get_or}
use Rattle.std.specs.List.{position, remove}
use Rattle.std.proofs.lemmas.Bool.{cases_lt}
use Rattle.std.proofs.lemmas.List.{get_or_default}
use Rattle.std.proofs.lemmas.List.Edits.{get_or-remove_above, get_or-remove_below, length-remove}
use Rattle.std.proofs.lemmas.List.Elements.{Contains-append_cases}
use Rattle.std.proofs.lemmas.List.Folds.{list_any-append}
use Rattle.std.proofs.lemmas.List.Quantifiers.{all_pairs_remove}
use Rattle.std.proofs.lemmas.List.Sums.{sum_by-remove}
use Rattle.fl_digest.specs.declared.BlobRef.{BlobRef}
use Rattle.kvs_txn.specs.declared.txn.By.{By}
use Rattle.kvs_rules.specs.declared.events.KvsAnswer.{KvsAnswer}
use Rattle.kvs_rules.specs.declared.events.KvsAnswer.TheVariants as answer
use Rattle.kvs_rules.specs.declared.events.KvsEvent.TheVariants as event
use Rattle.kvs_rules.specs.Log.{Happened, IsOpen, Log, Moment, answers_now, asks_now, denies_now, is_answered, is_asked, is_denied, lands_now, same_command}
use Rattle.kvs_rules.specs.Namespaces.{Setting, Request}
use Rattle.kvs_rules.specs.Answers.{HasGrounds, IsLegalAnswer, IsStoredAt, TellsEnd}
use Rattle.kvs_rules.proofs.Asking.{command_is}
use Rattle.kvs_content.specs.Agrees.{IsKept}
use Rattle.kvs_content.proofs.Lists.{and-left, and-right}
use Rattle.kvs_content.proofs.Staying.{IsOtherwise, content-stays, kept-stays}
use Rattle.std.specs.Option.{option_map_or}
use Rattle.content_service.specs.declared.rows.Row.{Row}
use Rattle.content_service.specs.declared.rows.Stage.{Stage}
use Rattle.content_service.specs.declared.rows.Stage.TheVariants as stage
use Rattle.content_service.specs.Agrees.{AgreesService, IsSafe, MayTell, RowAgrees, StageAgrees}
use Rattle.content_service.specs.Asks.{asks_content, is_content}
use Rattle.content_service.specs.Rows.{is_held, is_held_stage, is_loading, is_loading_stage, loading}
use Rattle.content_service.specs.Sound.{IsSound}
use Rattle.content_service.specs.Value.{ContentServiceValue}
use Rattle.content_service.proofs.Asking.{before, beside, differs, push}
use Rattle.content_service.proofs.Later.{row-later}
use Rattle.content_service.proofs.Lists.{found-passes, found-within, left-false, or-true}
use Rattle.content_service.proofs.Stepping.{same-self}
use Rattle.content_service.proofs.Tables.{home-within}

-- where nothing landed and nothing was denied, any answer tells so
undecided : (given : KvsAnswer) → TellsEnd given false false
undecided answer.Committed = refl
undecided answer.Fenced = refl
undecided answer.Created = refl
undecided answer.Removed = refl
undecided (answer.Refused refusal) = refl
undecided _ = (refl, refl)

held-loads : (s : Stage) → is_held_stage s ≡ true → is_loading_stage s ≡ false
held-loads (stage.Entered asks) e = refl
held-loads stage.Loading e = absurd (true≢false (sym e))
held-loads stage.Flushing e = refl
held-loads (stage.Held given) e = refl

module _ (v : ContentServiceValue) (by : By) (i : ℕ) (row : Row) (read : row ≡ get_or v.rows i row) (first : Some i ≡ position (is_held by) v.rows) where
  pub take-within : i < length v.rows
  take-within = found-within (is_held by) v.rows i first

  passes : is_held by row ≡ true
  passes = ap (is_held by) read ∙ found-passes (is_held by) v.rows i row first

  pub take-held : is_held_stage row.stage ≡ true
  take-held = and-right (same_command by row.by) _ passes

  take-by : by ≡ row.by
  take-by = command_is by row.by (and-left (same_command by row.by) _ passes)

  by-there : (d : Row) → (get_or v.rows i d).by ≡ by
  by-there d = ap (λ (r : Row). r.by) (get_or_default v.rows i d row take-within ∙ sym read) ∙ sym take-by

  pub taken-sound : IsSound v → (spent : Bool) → IsSound (record { spent = spent; size = v.size; content = v.content; rows = remove v.rows i })
  taken-sound s spent = record { content = s.content; size = s.size; home = home; waits = λ other. s.waits other ∙ loads other }
    where
      home : (k : ℕ) (d : Row) → k < length (remove v.rows i) → (get_or (remove v.rows i) k d).broker < v.size
      home k d l =
          let n = length-remove v.rows i take-within in
          elim (cases_lt k i) [
            | inl lt ↦ subst (λ (r : Row). r.broker < v.size) (sym (get_or-remove_below v.rows i d k lt take-within)) (s.home k d (omega arith))
            | inr ge ↦ subst (λ (r : Row). r.broker < v.size) (sym (get_or-remove_above v.rows i d k ge take-within)) (s.home (k + 1) d (omega arith))
          ]

      and-none : (a : Bool) → (a && false) ≡ false
      and-none true = refl
      and-none false = refl

      loads : (other : By) → loading other v.rows ≡ loading other (remove v.rows i)
      loads other =
          let none : ◌≡◌ {A = ℕ} (cond (is_loading other (get_or v.rows i row)) 1 0) 0 =
          ap (λ (r : Row). cond (is_loading other r) 1 0) (sym read) ∙ ap (λ b. cond b 1 0) (ap (λ b. same_command row.by other && b) (held-loads row.stage take-held) ∙ and-none (same_command row.by other)) in
          let left = sum_by-remove (λ r. cond (is_loading other r) 1 0) v.rows i row take-within in
          omega (arith, none, left)

  module _ (sound : IsSound v) (given : KvsAnswer) (is : row.stage ≡ stage.Held given) (set : Setting) (log : Log) (a : AgreesService v set log) where
    here : RowAgrees v.content set log row
    here = subst (RowAgrees v.content set log) (sym read) (a.rows i row take-within)

    abbrev tells : MayTell v.content set log row.by here.request given
    tells = subst (StageAgrees v.content set log row.by here.request) is here.staged

    about : asks_content set by ≡ true
    about = ap (asks_content set) take-by ∙ ap (λ (o : Option Request). option_map_or (λ request. is_content request.ask) o false) here.made ∙ here.about

    asked-here : is_asked by log ≡ true
    asked-here = ap (λ b. is_asked b log) take-by ∙ here.asked

    pub taken-legal : IsLegalAnswer set log by None given
    taken-legal = record {
      request = here.request;
      made = ap set.asks take-by ∙ here.made;
      waits = record { asked = asked-here; unanswered = ap (λ b. is_answered b log) take-by ∙ here.unanswered };
      tells = subst (λ t. TellsEnd given t (is_denied by log)) (sym (a.unlanded by about)) (subst (TellsEnd given false) (sym (a.undenied by about)) (undecided given));
      grounds = subst (λ b. HasGrounds set log b here.request given None) (sym take-by) tells.grounds;
    }

    abbrev m : Moment
    m = Happened (event.Answered by None given)

    abbrev log-now : Log
    log-now = log ++ Happened (event.Answered by None given) ∷ []

    otherwise : IsOtherwise m
    otherwise = record { gets = λ b r. refl; holds = λ b r. refl }

    kept-now : (broker : ℕ) (r : BlobRef) → broker < set.size → IsKept v.content set log broker r → IsKept v.content set log-now broker r
    kept-now broker r l k = kept-stays log m otherwise set v.content broker r k

    -- what the command is told to be stored is kept
    told-kept : (broker : ℕ) (r : BlobRef) → broker < set.size → IsStoredAt set log-now broker r → IsKept v.content set log broker r
    told-kept broker r l s = elim (Contains-append_cases log (m ∷ []) _ s.told) [
      | inl c ↦ a.kept broker r l (record { storer = s.storer; request = s.request; made = s.made; there = s.there; told = c })
      | inr c ↦ only c
    ] where
      only : Contains (m ∷ []) (Happened (event.Answered s.storer None (answer.Stored r))) → IsKept v.content set log broker r
      only (suc k, l₁, e) = absurd (omega arith)
      only (zero, l₁, e) =
          let same : m ≡ Happened (event.Answered s.storer None (answer.Stored r)) = e in
          let who : by ≡ s.storer = cc in
          let what : given ≡ answer.Stored r = cc in
          let one : Some here.request ≡ Some s.request = sym here.made ∙ sym (ap set.asks take-by) ∙ ap set.asks who ∙ s.made in
          let request : here.request ≡ s.request = cc in
          subst (λ b. IsKept v.content set log b r) (ap (λ (q : Request). q.broker) request ∙ s.there) (subst (IsSafe v.content set log here.request.broker) what tells.safe)

    silent : (b : By) → b ≢ by → answers_now b m ≡ false
    silent b ne = differs b by ne

    kept-row : (k : ℕ) (d : Row) → k < length v.rows → k ≢ i → RowAgrees v.content set log-now (get_or v.rows k d)
    kept-row k d l ne =
        row-later v.content v.content set log (m ∷ []) set.size kept-now (get_or v.rows k d) (home-within sound a k d l)
        (ap (λ t. t || false) (silent (get_or v.rows k d).by (λ e. beside a i k d take-within l ne (e ∙ sym (by-there d))))) (a.rows k d l)

    rows-now : (k : ℕ) (d : Row) → k < length (remove v.rows i) → RowAgrees v.content set log-now (get_or (remove v.rows i) k d)
    rows-now k d l =
        let n = length-remove v.rows i take-within in
        elim (cases_lt k i) [
          | inl lt ↦ subst (RowAgrees v.content set log-now) (sym (get_or-remove_below v.rows i d k lt take-within)) (kept-row k d (omega arith) (λ e. omega arith))
          | inr ge ↦ subst (RowAgrees v.content set log-now) (sym (get_or-remove_above v.rows i d k ge take-within)) (kept-row (k + 1) d (omega arith) (λ e. omega arith))
        ]

    place : (j : ℕ) → j < length v.rows → j ≢ i → (k : ℕ) × (k < length (remove v.rows i)) × ((d : Row) → get_or (remove v.rows i) k d ≡ get_or v.rows j d)
    place j l ne =
        let n = length-remove v.rows i take-within in
        elim (cases_lt j i) [
          | inl lt ↦ (j, (let w = take-within in omega arith), λ d. get_or-remove_below v.rows i d j lt take-within)
          | inr ge ↦ above j l ne ge
        ]
      where
        above : (j : ℕ) → j < length v.rows → j ≢ i → i ≤ j → (k : ℕ) × (k < length (remove v.rows i)) × ((d : Row) → get_or (remove v.rows i) k d ≡ get_or v.rows j d)
        above zero l ne ge = absurd (ne (omega arith))
        above (suc j) l ne ge =
            let n = length-remove v.rows i take-within in
            let le : i ≤ j = low j ne ge in
            let e : j + 1 ≡ suc j = omega arith in
            (j, omega arith, λ d. get_or-remove_above v.rows i d j le take-within ∙ ap (λ x. get_or v.rows x d) e)
          where
            low : (j : ℕ) → suc j ≢ i → i ≤ suc j → i ≤ j
            low j ne ge = elim (cases_lt j i) [
              | inl lt ↦ absurd (ne (omega arith))
              | inr le ↦ le
            ]

    open-now : (b : By) → asks_content set b ≡ true → IsOpen b log-now → (k : ℕ) × (k < length (remove v.rows i)) × ((d : Row) → (get_or (remove v.rows i) k d).by ≡ b)
    open-now b content o =
        let at = a.open_rows b content (record {
          asked = before (asks_now b) log m true o.asked refl;
          unanswered = left-false (is_answered b log) _ (sym (list_any-append (answers_now b) log (m ∷ [])) ∙ o.unanswered);
        }) in
        let ne : at.0 ≢ i = λ e. self (sym (at.2 row) ∙ ap (λ j. (get_or v.rows j row).by) e ∙ by-there row) in
        let p = place at.0 at.1 ne in
        (p.0, p.1, λ d. ap (λ (r : Row). r.by) (p.2 d) ∙ at.2 d)
      where
        self : b ≡ by → ⊥
        self e = true≢false (sym now ∙ o.unanswered)
          where
            now : is_answered b log-now ≡ true
            now = list_any-append (answers_now b) log (m ∷ []) ∙ ap (λ t. is_answered b log || (t || false)) (ap (λ c. same_command c by) e ∙ same-self by) ∙ or-true (is_answered b log)

    pub taken-agrees : (spent : Bool) → AgreesService (record { spent = spent; size = v.size; content = v.content; rows = remove v.rows i }) set log-now
    taken-agrees spent = record {
      content = content-stays log m otherwise set v.content a.content;
      rows = rows-now;
      apart = all_pairs_remove (λ one two. one.by ≢ two.by) v.rows i take-within a.apart;
      open_rows = open-now;
      kept = λ b r l s. kept-now b r l (told-kept b r l s);
      strange = λ b content e.
          let was = before (asks_now b) log m false e refl in
          push (answers_now b) log m false (a.strange b content was) (silent b (λ same. true≢false (sym asked-here ∙ ap (λ c. is_asked c log) (sym same) ∙ was)));
      unlanded = λ b content. push (lands_now b) log m false (a.unlanded b content) refl;
      undenied = λ b content. push (denies_now b) log m false (a.undenied b content) refl;
    }
