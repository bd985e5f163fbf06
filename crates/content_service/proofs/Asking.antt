-- A command asks something of contents, and is told its answer.
use Rattle.std.proofs.Common.{◌≡◌, ◌≢◌, ℕ, zero, suc, ◌<◌, inl, inr, [], ◌∷◌, ◌++◌, length, Bool, true, false, ◌||◌, Contains, Some, Option, refl, sym, ap, ◌∙◌, subst, arith, true≢false, get_or, length-append}
use Rattle.std.specs.List.{list_any}
use Rattle.std.specs.Option.{option_map_or}
use Rattle.std.proofs.lemmas.Bool.{cases_lt}
use Rattle.std.proofs.lemmas.List.{get_or_append_left, get_or_push}
use Rattle.std.proofs.lemmas.List.Elements.{Contains-append_cases}
use Rattle.std.proofs.lemmas.List.Folds.{list_any-append}
use Rattle.std.proofs.lemmas.List.Quantifiers.{all_pairs_push}
use Rattle.fl_digest.specs.declared.BlobRef.{BlobRef}
use Rattle.kvs_txn.specs.declared.txn.By.{By}
use Rattle.kvs_model.specs.Store.{Name}
use Rattle.kvs_rules.specs.declared.events.KvsAsk.{KvsAsk}
use Rattle.kvs_rules.specs.declared.events.KvsAnswer.{KvsAnswer}
use Rattle.kvs_rules.specs.declared.events.KvsEvent.TheVariants as event
use Rattle.kvs_rules.specs.Log.{Asked, Happened, IsOpen, Log, Moment, answers_now, asks_now, denies_now, is_asked, lands_now, same_command}
use Rattle.kvs_rules.specs.Namespaces.{Setting, Request}
use Rattle.kvs_rules.specs.Answers.{IsStoredAt}
use Rattle.kvs_rules.proofs.Asking.{command_is}
use Rattle.kvs_content.specs.Agrees.{IsKept}
use Rattle.kvs_content.proofs.Staying.{IsOtherwise, content-stays, kept-stays}
use Rattle.content_service.specs.declared.rows.ContentAsk.{ContentAsk}
use Rattle.content_service.specs.declared.rows.Row.{Row}
use Rattle.content_service.specs.declared.rows.Stage.TheVariants as stage
use Rattle.content_service.specs.Agrees.{AgreesService, RowAgrees}
use Rattle.content_service.specs.Asks.{asks_content, is_content}
use Rattle.content_service.specs.Rows.{asked_of}
use Rattle.content_service.specs.Sound.{IsSound}
use Rattle.content_service.specs.Value.{ContentServiceValue}
use Rattle.content_service.proofs.Later.{row-later}
use Rattle.content_service.proofs.Lists.{left-false, or-true}
use Rattle.content_service.proofs.Stepping.{same-self}
use Rattle.content_service.proofs.Tables.{home-within}

pub push : (p : Moment → Bool) (log : Log) (m : Moment) (b : Bool) → list_any p log ≡ b → p m ≡ false → list_any p (log ++ m ∷ []) ≡ b
push p log m b e none = list_any-append p log (m ∷ []) ∙ ap (λ t. list_any p log || (t || false)) none ∙ or-nothing (list_any p log) ∙ e
  where
    or-nothing : (t : Bool) → (t || (false || false)) ≡ t
    or-nothing true = refl
    or-nothing false = refl

pub before : (p : Moment → Bool) (log : Log) (m : Moment) (b : Bool) → list_any p (log ++ m ∷ []) ≡ b → p m ≡ false → list_any p log ≡ b
before p log m b e none = sym (push p log m (list_any p log) refl none) ∙ e

pub differs : (a b : By) → a ≢ b → same_command a b ≡ false
differs a b ne = by (same_command a b) refl
  where
    by : (t : Bool) → same_command a b ≡ t → t ≡ false
    by true e = absurd (ne (command_is a b e))
    by false e = refl

-- the request at k is of another command than the one at i
pub beside : {v : ContentServiceValue} {set : Setting} {log : Log} → AgreesService v set log → (i k : ℕ) (d : Row) → i < length v.rows → k < length v.rows → k ≢ i → (get_or v.rows k d).by ≢ (get_or v.rows i d).by
beside a i k d li lk ne e = elim (cases_lt k i) [
  | inl lt ↦ a.apart k i d lt li e
  | inr ge ↦ a.apart i k d (omega arith) lk (sym e)
]

-- ---- asking

asked-otherwise : (by : By) (floors : Name → ℕ) → IsOtherwise (Asked by floors)
asked-otherwise by floors = record { gets = λ b r. refl; holds = λ b r. refl }

module _ (v : ContentServiceValue) (sound : IsSound v) (set : Setting) (log : Log) (a : AgreesService v set log) (by : By) (floors : Name → ℕ) (fresh : is_asked by log ≡ false) where
  abbrev log-asked : Log
  log-asked = log ++ Asked by floors ∷ []

  kept-asked : (broker : ℕ) (r : BlobRef) → broker < set.size → IsKept v.content set log broker r → IsKept v.content set log-asked broker r
  kept-asked broker r l k = kept-stays log (Asked by floors) (asked-otherwise by floors) set v.content broker r k

  stored-asked : (broker : ℕ) (r : BlobRef) → IsStoredAt set log-asked broker r → IsStoredAt set log broker r
  stored-asked broker r s = record {
    storer = s.storer;
    request = s.request;
    made = s.made;
    there = s.there;
    told = elim (Contains-append_cases log (Asked by floors ∷ []) _ s.told) [
      | inl c ↦ c
      | inr c ↦ absurd (only c)
    ];
  } where
    only : {x : By} {number : Option ℕ} {given : KvsAnswer} → Contains (Asked by floors ∷ []) (Happened (event.Answered x number given)) → ⊥
    only (zero, l, is) = let no : ⊥ = cc in no
    only (suc k, l, is) = omega arith

  other : (k : ℕ) (d : Row) → k < length v.rows → (get_or v.rows k d).by ≢ by
  other k d l e = true≢false (sym (a.rows k d l).asked ∙ ap (λ b. is_asked b log) e ∙ fresh)

  module _ (broker : ℕ) (within : broker < v.size) (space : Name) (asked : KvsAsk) (made : set.asks by ≡ Some (record { broker = broker; namespace = space; ask = asked })) (known : is_content asked ≡ true)
      (asks : ContentAsk) (same : asked_of asks ≡ asked) where
    abbrev row-new : Row
    row-new = record { by = by; broker = broker; stage = stage.Entered asks }

    about : asks_content set by ≡ true
    about = ap (λ (o : Option Request). option_map_or (λ request. is_content request.ask) o false) made ∙ known

    new-agrees : RowAgrees v.content set log-asked row-new
    new-agrees = record {
      asked = list_any-append (asks_now by) log (Asked by floors ∷ []) ∙ ap (λ t. is_asked by log || (t || false)) (same-self by) ∙ or-true (is_asked by log);
      unanswered = push (answers_now by) log (Asked by floors) false (a.strange by about fresh) refl;
      request = record { broker = broker; namespace = space; ask = asked };
      made = made;
      about = known;
      home = refl;
      staged = sym same;
    }

    rows-now : (k : ℕ) (d : Row) → k < length (v.rows ++ row-new ∷ []) → RowAgrees v.content set log-asked (get_or (v.rows ++ row-new ∷ []) k d)
    rows-now k d l = elim (cases_lt k (length v.rows)) [
      | inl lt ↦ subst (RowAgrees v.content set log-asked) (sym (get_or_append_left v.rows (row-new ∷ []) d k lt))
          (row-later v.content v.content set log (Asked by floors ∷ []) set.size kept-asked (get_or v.rows k d) (home-within sound a k d lt) refl (a.rows k d lt))
      | inr ge ↦
          let n = length-append v.rows (row-new ∷ []) in
          let e : k ≡ length v.rows = omega arith in
          subst (RowAgrees v.content set log-asked) (sym (ap (λ j. get_or (v.rows ++ row-new ∷ []) j d) e ∙ get_or_push v.rows row-new d (length v.rows) refl)) new-agrees
    ]

    open-now : (b : By) → asks_content set b ≡ true → IsOpen b log-asked → (k : ℕ) × (k < length (v.rows ++ row-new ∷ [])) × ((d : Row) → (get_or (v.rows ++ row-new ∷ []) k d).by ≡ b)
    open-now b content o = cases (same_command b by) refl
      where
        cases : (t : Bool) → same_command b by ≡ t → (k : ℕ) × (k < length (v.rows ++ row-new ∷ [])) × ((d : Row) → (get_or (v.rows ++ row-new ∷ []) k d).by ≡ b)
        cases true e =
            let n = length-append v.rows (row-new ∷ []) in
            (length v.rows, omega arith, λ d. ap (λ (r : Row). r.by) (get_or_push v.rows row-new d (length v.rows) refl) ∙ sym (command_is b by e))
        cases false e =
            let at = a.open_rows b content (record { asked = before (asks_now b) log (Asked by floors) true o.asked e; unanswered = before (answers_now b) log (Asked by floors) false o.unanswered refl }) in
            let n = length-append v.rows (row-new ∷ []) in
            (at.0, (let l = at.1 in omega arith), λ d. ap (λ (r : Row). r.by) (get_or_append_left v.rows (row-new ∷ []) d at.0 at.1) ∙ at.2 d)

    pub asked-agrees : (spent : Bool) → AgreesService (record { spent = spent; size = v.size; content = v.content; rows = v.rows ++ row-new ∷ [] }) set log-asked
    asked-agrees spent = record {
      content = content-stays log (Asked by floors) (asked-otherwise by floors) set v.content a.content;
      rows = rows-now;
      apart = all_pairs_push (λ one two. one.by ≢ two.by) v.rows row-new a.apart (λ k d l e. other k d l e);
      open_rows = open-now;
      kept = λ b r l s. kept-asked b r l (a.kept b r l (stored-asked b r s));
      strange = λ b content e. push (answers_now b) log (Asked by floors) false (a.strange b content (left-false (is_asked b log) _ (sym (list_any-append (asks_now b) log (Asked by floors ∷ [])) ∙ e))) refl;
      unlanded = λ b content. push (lands_now b) log (Asked by floors) false (a.unlanded b content) refl;
      undenied = λ b content. push (denies_now b) log (Asked by floors) false (a.undenied b content) refl;
    }
