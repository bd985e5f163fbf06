-- The open requests of a core, after a further moment and after a change of one of them.
use Rattle.std.proofs.Common.{◌≡◌, ◌≢◌, ℕ, zero, suc, ◌+◌, ◌<◌, ◌≤◌, inl, inr, List, [], ◌∷◌, ◌++◌, length, Bool, true, false, ◌||◌, Option, None, Some, map, refl, sym, ap, ◌∙◌, subst, arith, true≢false, get_or, set, length-append}
use Rattle.std.specs.Prelude.{IsSome}
use Rattle.std.specs.List.{remove, list_any}
use Rattle.std.proofs.lemmas.List.Folds.{list_any-append}
use Rattle.std.proofs.Math.Bool.{or-false}
use Rattle.std.proofs.lemmas.Bool.{cases_lt}
use Rattle.std.proofs.lemmas.Bool.Decides.{nat_tests}
use Rattle.std.proofs.lemmas.List.{length-set, get_or_append_left, get_or_push}
use Rattle.std.proofs.lemmas.List.Edits.{get_or-remove_below, get_or-remove_above, length-remove}
use Rattle.std.proofs.lemmas.List.Quantifiers.{all_pairs_push, all_pairs_remove}
use Rattle.kvs_txn.specs.declared.txn.By.{By}
use Rattle.kvs_txn.specs.declared.txn.Group.{Group}
use Rattle.kvs_txn.specs.declared.answers.Refusal.{Refusal}
use Rattle.kvs_model.specs.Store.{Name}
use Rattle.kvs_rules.specs.declared.events.KvsAnswer.{KvsAnswer}
use Rattle.kvs_rules.specs.declared.events.KvsAnswer.TheVariants as answer
use Rattle.kvs_rules.specs.Answers.{IsLegalAnswer}
use Rattle.kvs_rules.specs.declared.events.KvsEvent.TheVariants as event
use Rattle.kvs_rules.specs.Log.{Log, Moment, Asked, Happened, IsOpen, asks_now, answers_now, is_asked, is_answered, is_author, same_command}
use Rattle.kvs_rules.specs.Namespaces.{Setting, Request}
use Rattle.kvs_rules.specs.Landings.{names_of, names_of_group}
use Rattle.kvs_rules.proofs.Stores.{any_push}
use Rattle.kvs_rules.proofs.Asking.{command_is}
use Rattle.kvs_requests.specs.declared.rows.Row.{Row}
use Rattle.kvs_space.specs.Space.{SpaceValue, is_authored, carries, name_at}
use Rattle.kvs_requests.specs.declared.rows.Stage.{Stage}
use Rattle.kvs_requests.specs.declared.rows.Stage.TheVariants as stage
use Rattle.kvs_requests.specs.Agreement.{Entrants, IsMadeAnswer, IsUpheld, MayTell, RowAgrees, RowsAgree, StageAgrees, IsStrange}
use Rattle.kvs_requests.specs.Rows.{AreApart, asks_contents}
use Rattle.kvs_space.proofs.Finding.{set-all, set-kept}
use Rattle.kvs_requests.proofs.Later.{IsAside, Grows, Upholds, differs, row-kept, answered-kept, undecided-kept}

-- a moment leaves the commands that wait, unless it is one's asking or answer
pub open-before : (by : By) (log : Log) (m : Moment) → asks_now by m ≡ false → IsOpen by (log ++ m ∷ []) → IsOpen by log
open-before by log m asks h = record {
  asked = sym (any_push (asks_now by) log m ∙ ap (λ b. is_asked by log || b) asks ∙ or-false _) ∙ h.asked;
  unanswered = left (is_answered by log) (answers_now by m) (sym (any_push (answers_now by) log m) ∙ h.unanswered);
} where
  left : (a b : Bool) → (a || b) ≡ false → a ≡ false
  left true b e = e
  left false b e = refl

-- a moment is about no command that has not asked
pub strange-kept : (set : Setting) (log : Log) (m : Moment) → ((by : By) → IsSome (set.asks by) → is_asked by log ≡ false → IsStrange log by) → ((by : By) → IsSome (set.asks by) → is_asked by (log ++ m ∷ []) ≡ false → is_asked by log ≡ false → IsAside by m) → (by : By) → IsSome (set.asks by) → is_asked by (log ++ m ∷ []) ≡ false → IsStrange (log ++ m ∷ []) by
strange-kept set log m strange aside by some e =
    let was : is_asked by log ≡ false = left (is_asked by log) (asks_now by m) (sym (any_push (asks_now by) log m) ∙ e) in
    let a = aside by some e was in
    let s = strange by some was in
    record { undecided = undecided-kept log a s.undecided; unanswered = answered-kept log a ∙ s.unanswered }
  where
    left : (a b : Bool) → (a || b) ≡ false → a ≡ false
    left true b e = e
    left false b e = refl

-- a command that hasn't asked wasn't let wait
pub outside-kept : {entered : Entrants} (log : Log) (m : Moment) → ((by : By) → is_asked by log ≡ false → entered by ≡ false) → (by : By) → is_asked by (log ++ m ∷ []) ≡ false → entered by ≡ false
outside-kept log m outside by e = outside by (left (is_asked by log) (asks_now by m) (sym (any_push (asks_now by) log m) ∙ e))
  where
    left : (a b : Bool) → (a || b) ≡ false → a ≡ false
    left true b e = e
    left false b e = refl

or-true : (b : Bool) → (b || true) ≡ true
or-true true = refl
or-true false = refl

pub same-self : (by : By) → same_command by by ≡ true
same-self by = grind (arith, nat_tests)

-- a landing, a denial or an answer of other commands is not about this one
named-author : (by : By) (bys : List By) → list_any (is_author by) (map Some bys) ≡ list_any (same_command by) bys
named-author by [] = refl
named-author by (b ∷ bys) = ap (λ x. same_command by b || x) (named-author by bys)

pub named-group : (by : By) (bys : List By) → list_any (is_author by) (names_of_group bys) ≡ list_any (same_command by) bys
named-group by [] = refl
named-group by (b ∷ bys) = ap (λ x. same_command by b || x) (named-author by bys)

pub named-groups : (by : By) (groups : List Group) → list_any (is_author by) (names_of groups) ≡ list_any (is_authored by) groups
named-groups by [] = refl
named-groups by (g ∷ gs) =
    list_any-append (is_author by) (names_of_group g.authors) (names_of gs)
    ∙ ap (λ x. x || list_any (is_author by) (names_of gs)) (named-group by g.authors) ∙ ap (λ x. is_authored by g || x) (named-groups by gs)

pub aside-landed : (by : By) (space : Name) (number : ℕ) (groups : List Group) → list_any (is_authored by) groups ≡ false → IsAside by (Happened (event.Landed space number (names_of groups) groups))
aside-landed by space number groups e = record { asks = refl; answers = refl; lands = named-groups by groups ∙ e; denies = refl }

pub aside-denied : (by : By) (space : Name) (group : Group) (refusal : Refusal) → list_any (same_command by) group.authors ≡ false → IsAside by (Happened (event.Denied space (names_of_group group.authors) group refusal))
aside-denied by space group refusal e = record { asks = refl; answers = refl; lands = refl; denies = named-group by group.authors ∙ e }

pub aside-heard : (by : By) (broker : ℕ) (space : Name) (number : ℕ) → IsAside by (Happened (event.Heard broker space number))
aside-heard by broker space number = record { asks = refl; answers = refl; lands = refl; denies = refl }

pub aside-answered : (by other : By) (number : Option ℕ) (given : KvsAnswer) → by ≢ other → IsAside by (Happened (event.Answered other number given))
aside-answered by other number given ne = record { asks = refl; answers = differs by other ne; lands = refl; denies = refl }

pub aside-asked : (by other : By) (floors : Name → ℕ) → by ≢ other → IsAside by (Asked other floors)
aside-asked by other floors ne = record { asks = differs by other ne; answers = refl; lands = refl; denies = refl }

-- of a command, where more may have been let wait
abbrev More : Entrants → Entrants → By → Type 0
More entered entered₁ by = ((other : By) → entered other ≡ true → entered₁ other ≡ true) × (entered₁ by ≡ entered by)

upheld-more : (entered entered₁ : Entrants) (set : Setting) (log : Log) (by : By) (number : Option ℕ) (given : KvsAnswer) → More entered entered₁ by → (legal : IsLegalAnswer set log by number given) → IsMadeAnswer given → IsUpheld entered set log by number given legal → IsUpheld entered₁ set log by number given legal
upheld-more entered entered₁ set log by number answer.Committed more legal made h = tt
upheld-more entered entered₁ set log by number answer.Fenced more legal made h = tt
upheld-more entered entered₁ set log by number answer.Created more legal made h = tt
upheld-more entered entered₁ set log by number answer.Removed more legal made h = tt
upheld-more entered entered₁ set log by number (answer.Refused refusal) more legal made h = tt
upheld-more entered entered₁ set log by number (answer.Read found uses) more legal made h = tt
upheld-more entered entered₁ set log by number answer.Reached more legal made h = tt
upheld-more entered entered₁ set log by number answer.NoNamespace more legal made h = tt
upheld-more entered entered₁ set log by number answer.Exists more legal made h = tt
upheld-more entered entered₁ set log by number answer.TooMany more legal made h = tt
upheld-more entered entered₁ set log by number answer.IsPrimary more legal made h = tt
upheld-more entered entered₁ set log by number (answer.CountDiffers kept) more legal made h = (more.0 legal.grounds.5.held.rival h.0, more.1 ∙ h.1)
upheld-more entered entered₁ set log by number _ more legal made h = absurd made

tell-more : (entered entered₁ : Entrants) (set : Setting) (log : Log) (by : By) (number : Option ℕ) (given : KvsAnswer) → More entered entered₁ by → MayTell entered set log by number given → MayTell entered₁ set log by number given
tell-more entered entered₁ set log by number given more h = (h.0, h.1, upheld-more entered entered₁ set log by number given more h.0 h.1 h.2)

-- the table keeps its names, and more may have been let wait
pub stage-respaced : (entered entered₁ : Entrants) (set : Setting) (log : Log) (spaces spaces₁ : List SpaceValue) → ((k : ℕ) (n : Name) → name_at spaces k ≡ Some n → name_at spaces₁ k ≡ Some n) → (by : By) → More entered entered₁ by → (request : Request) (s : Stage) → StageAgrees entered set log spaces by request s → StageAgrees entered₁ set log spaces₁ by request s
stage-respaced entered entered₁ set log spaces spaces₁ names by more request (stage.Rising from to asks) h = (h.0, h.1, h.2, more.1 ∙ h.3)
stage-respaced entered entered₁ set log spaces spaces₁ names by more request (stage.Arrived asks) h = (h.0, h.1, h.2, more.1 ∙ h.3)
stage-respaced entered entered₁ set log spaces spaces₁ names by more request (stage.Joined space work) h = (h.0, h.1, names space _ h.2, h.3, more.0 by h.4)
stage-respaced entered entered₁ set log spaces spaces₁ names by more request (stage.Landed space number work) h = (h.0, h.1, h.2, names space _ h.3)
stage-respaced entered entered₁ set log spaces spaces₁ names by more request (stage.Falling from to given) h = tell-more entered entered₁ set log by None given more h
stage-respaced entered entered₁ set log spaces spaces₁ names by more request (stage.Ended given) h = tell-more entered entered₁ set log by None given more h
stage-respaced entered entered₁ set log spaces spaces₁ names by more request (stage.Returning from to space asked) h = (h.0, h.1, h.2, names space _ h.3)
stage-respaced entered entered₁ set log spaces spaces₁ names by more request (stage.Parked space asked) h = (h.0, h.1, h.2, names space _ h.3)
stage-respaced entered entered₁ set log spaces spaces₁ names by more request (stage.Held number given) h = tell-more entered entered₁ set log by number given more h

pub row-entered : {entered : Entrants} {set₀ : Setting} {log : Log} {spaces : List SpaceValue} (entered₁ : Entrants) (spaces₁ : List SpaceValue) → length spaces₁ ≡ length spaces → ((k : ℕ) → name_at spaces₁ k ≡ name_at spaces k) → (row : Row) → More entered entered₁ row.by → ((k : ℕ) (d : SpaceValue) → k < length spaces → carries (get_or spaces₁ k d) row.by ≡ carries (get_or spaces k d) row.by)
    → RowAgrees entered set₀ log spaces row → RowAgrees entered₁ set₀ log spaces₁ row
row-entered {entered} {set₀} {log} {spaces} entered₁ spaces₁ long names row more same r = record {
  asked = r.asked;
  unanswered = r.unanswered;
  request = r.request;
  made = r.made;
  home = r.home;
  inside = r.inside;
  keys = r.keys;
  needed = r.needed;
  staged = stage-respaced entered entered₁ set₀ log spaces spaces₁ (λ k n e. names k ∙ e) row.by more r.request row.stage r.staged;
  tied = λ k d l. r.tied k d (subst (λ n. k < n) long l) ∙ sym (same k d (subst (λ n. k < n) long l));
}

pub row-respaced : {entered : Entrants} {set₀ : Setting} {log : Log} {spaces : List SpaceValue} (spaces₁ : List SpaceValue) → length spaces₁ ≡ length spaces → ((k : ℕ) → name_at spaces₁ k ≡ name_at spaces k) → (row : Row) → ((k : ℕ) (d : SpaceValue) → k < length spaces → carries (get_or spaces₁ k d) row.by ≡ carries (get_or spaces k d) row.by)
    → RowAgrees entered set₀ log spaces row → RowAgrees entered set₀ log spaces₁ row
row-respaced {entered} spaces₁ long names row same r = row-entered entered spaces₁ long names row (λ other e. e, refl) same r

module _ {entered : Entrants} {set₀ : Setting} {log : Log} {spaces : List SpaceValue} {rows : List Row} (all : RowsAgree entered set₀ log spaces rows) where
  -- a moment that is about no command
  pub rows-later : (m : Moment) → Grows log m → Upholds entered m → ((by : By) → IsAside by m) → RowsAgree entered set₀ (log ++ m ∷ []) spaces rows
  rows-later m grows upholds aside = record {
    rows = λ k d l. row-kept entered set₀ log spaces m (get_or rows k d) grows upholds (aside (get_or rows k d).by) (all.rows k d l);
    apart = all.apart;
    strange = strange-kept set₀ log m all.strange (λ by some e was. aside by);
    outside = outside-kept log m all.outside;
    open_rows = λ by plain h. all.open_rows by plain (open-before by log m ((aside by).asks) h);
  }

  -- the rows beside one row are of other commands
  pub beside : (i k : ℕ) (d : Row) → i < length rows → k < length rows → k ≢ i → (get_or rows k d).by ≢ (get_or rows i d).by
  beside i k d li lk ne e = elim (cases_lt k i) [
    | inl lt ↦ all.apart k i d lt li e
    | inr ge ↦ all.apart i k d (omega arith) lk (sym e)
  ]

  module _ (i : ℕ) (within : i < length rows) (new : Row) (same : (d : Row) → new.by ≡ (get_or rows i d).by) where
    set-apart : AreApart (set rows i new)
    set-apart j k d lt lk e =
        let l : k < length rows = simp length-set at lk in
        let ej = set-kept (λ r. r.by) rows i new same j d (omega arith) in
        let ek = set-kept (λ r. r.by) rows i new same k d l in
        all.apart j k d lt l (sym ej ∙ e ∙ ek)

    set-open : (by : By) → asks_contents set₀ by ≡ false → IsOpen by log → (k : ℕ) × (k < length (set rows i new)) × ((d : Row) → (get_or (set rows i new) k d).by ≡ by)
    set-open by plain h =
        let at = all.open_rows by plain h in
        (at.0, subst (λ n. at.0 < n) (sym (length-set rows i new)) at.1, λ d. set-kept (λ r. r.by) rows i new same at.0 d at.1 ∙ at.2 d)

    asked-there : (d : Row) → is_asked new.by log ≡ true
    asked-there d = ap (λ b. is_asked b log) (same d) ∙ (all.rows i d within).asked

    -- one row changes, and the log stays
    pub rows-moved : RowAgrees entered set₀ log spaces new → RowsAgree entered set₀ log spaces (set rows i new)
    rows-moved h = record {
      rows = set-all (RowAgrees entered set₀ log spaces) rows i new h (λ k d l ne. all.rows k d l);
      apart = set-apart;
      strange = all.strange;
      outside = all.outside;
      open_rows = set-open;
    }

    -- one row changes with the table, and its command may be let wait
    pub rows-moved-in : (entered₁ : Entrants) (spaces₁ : List SpaceValue) → ((by : By) → by ≢ new.by → entered₁ by ≡ entered by) → RowAgrees entered₁ set₀ log spaces₁ new → ((k : ℕ) (d : Row) → k < length rows → k ≢ i → RowAgrees entered₁ set₀ log spaces₁ (get_or rows k d)) → RowsAgree entered₁ set₀ log spaces₁ (set rows i new)
    rows-moved-in entered₁ spaces₁ others-same h others = record {
      rows = set-all (RowAgrees entered₁ set₀ log spaces₁) rows i new h others;
      apart = set-apart;
      strange = all.strange;
      outside = λ by e. others-same by (λ q. true≢false (sym (asked-there new) ∙ ap (λ b. is_asked b log) (sym q) ∙ e)) ∙ all.outside by e;
      open_rows = set-open;
    }

    -- one row changes with a moment that is about its command alone
    pub rows-changed : (m : Moment) → Grows log m → Upholds entered m → ((by : By) → asks_now by m ≡ false) → ((by : By) → by ≢ new.by → IsAside by m) → RowAgrees entered set₀ (log ++ m ∷ []) spaces new → RowsAgree entered set₀ (log ++ m ∷ []) spaces (set rows i new)
    rows-changed m grows upholds asks aside h = record {
      rows = set-all (RowAgrees entered set₀ (log ++ m ∷ []) spaces) rows i new h
          (λ k d l ne. row-kept entered set₀ log spaces m (get_or rows k d) grows upholds (aside (get_or rows k d).by (λ e. beside i k d within l ne (e ∙ same d))) (all.rows k d l));
      apart = set-apart;
      strange = strange-kept set₀ log m all.strange (λ by some e was. aside by (λ q. true≢false (sym (asked-there new) ∙ ap (λ b. is_asked b log) (sym q) ∙ was)));
      outside = outside-kept log m all.outside;
      open_rows = λ by plain o. set-open by plain (open-before by log m (asks by) o);
    }

  -- rows change with a moment, each being of its command as before
  pub rows-ruled : (spaces₁ : List SpaceValue) (new : List Row) (m : Moment) → length new ≡ length rows → ((k : ℕ) (d : Row) → k < length rows → (get_or new k d).by ≡ (get_or rows k d).by)
      → ((by : By) → asks_now by m ≡ false) → ((by : By) → IsSome (set₀.asks by) → is_asked by log ≡ false → IsAside by m)
      → ((k : ℕ) (d : Row) → k < length rows → RowAgrees entered set₀ (log ++ m ∷ []) spaces₁ (get_or new k d)) → RowsAgree entered set₀ (log ++ m ∷ []) spaces₁ new
  rows-ruled spaces₁ new m long same asks aside each = record {
    rows = λ k d l. each k d (subst (λ n. k < n) long l);
    apart = λ j k d lt l e. let lk = subst (λ n. k < n) long l in all.apart j k d lt lk (sym (same j d (omega arith)) ∙ e ∙ same k d lk);
    strange = strange-kept set₀ log m all.strange (λ by some e was. aside by some was);
    outside = outside-kept log m all.outside;
    open_rows = λ by plain o. let at = all.open_rows by plain (open-before by log m (asks by) o) in (at.0, subst (λ n. at.0 < n) (sym long) at.1, λ d. same at.0 d at.1 ∙ at.2 d);
  }

  -- the table changes, and what it says of the rows stays
  pub rows-respaced : (spaces₁ : List SpaceValue) → length spaces₁ ≡ length spaces → ((k : ℕ) → name_at spaces₁ k ≡ name_at spaces k) → ((k : ℕ) (d : SpaceValue) (by : By) → k < length spaces → carries (get_or spaces₁ k d) by ≡ carries (get_or spaces k d) by) → RowsAgree entered set₀ log spaces₁ rows
  rows-respaced spaces₁ long names same = record {
    rows = λ k d l. row-respaced spaces₁ long names (get_or rows k d) (λ j e lj. same j e (get_or rows k d).by lj) (all.rows k d l);
    apart = all.apart;
    strange = all.strange;
    outside = all.outside;
    open_rows = all.open_rows;
  }

  -- a command asks, and its row comes last
  pub rows-asked : (by : By) (floors : Name → ℕ) (new : Row) → new.by ≡ by → is_asked by log ≡ false → Grows log (Asked by floors) → RowAgrees entered set₀ (log ++ Asked by floors ∷ []) spaces new → RowsAgree entered set₀ (log ++ Asked by floors ∷ []) spaces (rows ++ new ∷ [])
  rows-asked by floors new is fresh grows h = record {
    rows = rows-now;
    apart = all_pairs_push (λ one other. one.by ≢ other.by) rows new all.apart (λ k d l e. other k d l (e ∙ is));
    strange = strange-kept set₀ log m all.strange (λ b some e was. aside-asked b by floors (λ q. true≢false (sym (any_push (asks_now b) log m ∙ ap (λ x. is_asked b log || x) (ap (λ x. same_command x by) q ∙ same-self by) ∙ or-true _) ∙ e)));
    outside = outside-kept log m all.outside;
    open_rows = open-now;
  } where
    m : Moment
    m = Asked by floors

    other : (k : ℕ) (d : Row) → k < length rows → (get_or rows k d).by ≢ by
    other k d l e = true≢false (sym (all.rows k d l).asked ∙ ap (λ b. is_asked b log) e ∙ fresh)

    rows-now : (k : ℕ) (d : Row) → k < length (rows ++ new ∷ []) → RowAgrees entered set₀ (log ++ m ∷ []) spaces (get_or (rows ++ new ∷ []) k d)
    rows-now k d l = elim (cases_lt k (length rows)) [
      | inl lt ↦
          subst (RowAgrees entered set₀ (log ++ m ∷ []) spaces) (sym (get_or_append_left rows (new ∷ []) d k lt))
          (row-kept entered set₀ log spaces m (get_or rows k d) grows (λ other accepted number kept e. cc) (aside-asked (get_or rows k d).by by floors (other k d lt)) (all.rows k d lt))
      | inr ge ↦
          let n = length-append rows (new ∷ []) in
          let e : k ≡ length rows = omega arith in
          subst (RowAgrees entered set₀ (log ++ m ∷ []) spaces) (sym (ap (λ j. get_or (rows ++ new ∷ []) j d) e ∙ get_or_push rows new d (length rows) refl)) h
    ]

    open-now : (b : By) → asks_contents set₀ b ≡ false → IsOpen b (log ++ m ∷ []) → (k : ℕ) × (k < length (rows ++ new ∷ [])) × ((d : Row) → (get_or (rows ++ new ∷ []) k d).by ≡ b)
    open-now b plain o = cases (same_command b by) refl
      where
        cases : (t : Bool) → same_command b by ≡ t → (k : ℕ) × (k < length (rows ++ new ∷ [])) × ((d : Row) → (get_or (rows ++ new ∷ []) k d).by ≡ b)
        cases true e =
            let n = length-append rows (new ∷ []) in
            (length rows, omega arith, λ d. ap (λ r. r.by) (get_or_push rows new d (length rows) refl) ∙ is ∙ sym (command_is b by e))
        cases false e =
            let at = all.open_rows b plain (open-before b log m e o) in
            let n = length-append rows (new ∷ []) in
            (at.0, (let l = at.1 in omega arith), λ d. ap (λ r. r.by) (get_or_append_left rows (new ∷ []) d at.0 at.1) ∙ at.2 d)

  -- a command is answered, and its row goes
  pub rows-answered : (i : ℕ) (by : By) (number : Option ℕ) (given : KvsAnswer) → i < length rows → ((d : Row) → (get_or rows i d).by ≡ by) → Grows log (Happened (event.Answered by number given)) → Upholds entered (Happened (event.Answered by number given)) → RowsAgree entered set₀ (log ++ Happened (event.Answered by number given) ∷ []) spaces (remove rows i)
  rows-answered i by number given within is grows upholds = record {
    rows = rows-now;
    apart = all_pairs_remove (λ one other. one.by ≢ other.by) rows i within all.apart;
    strange = strange-kept set₀ log m all.strange (λ b some e was. aside-answered b by number given (λ q. true≢false (sym asked-here ∙ ap (λ x. is_asked x log) (sym q) ∙ was)));
    outside = outside-kept log m all.outside;
    open_rows = open-now;
  } where
    m : Moment
    m = Happened (event.Answered by number given)

    asked-here : is_asked by log ≡ true
    asked-here = at rows within all.rows is
      where
        at : (xs : List Row) → i < length xs → ((k : ℕ) (d : Row) → k < length xs → RowAgrees entered set₀ log spaces (get_or xs k d)) → ((d : Row) → (get_or xs i d).by ≡ by) → is_asked by log ≡ true
        at [] l all is = absurd (omega arith)
        at (x ∷ xs) l all is = ap (λ b. is_asked b log) (sym (is x)) ∙ (all i x l).asked

    kept : (k : ℕ) (d : Row) → k < length rows → k ≢ i → RowAgrees entered set₀ (log ++ m ∷ []) spaces (get_or rows k d)
    kept k d l ne = row-kept entered set₀ log spaces m (get_or rows k d) grows upholds (aside-answered (get_or rows k d).by by number given (λ e. beside i k d within l ne (e ∙ sym (is d)))) (all.rows k d l)

    rows-now : (k : ℕ) (d : Row) → k < length (remove rows i) → RowAgrees entered set₀ (log ++ m ∷ []) spaces (get_or (remove rows i) k d)
    rows-now k d l =
        let n = length-remove rows i within in
        elim (cases_lt k i) [
          | inl lt ↦ subst (RowAgrees entered set₀ (log ++ m ∷ []) spaces) (sym (get_or-remove_below rows i d k lt within)) (kept k d (omega arith) (λ e. omega arith))
          | inr ge ↦ subst (RowAgrees entered set₀ (log ++ m ∷ []) spaces) (sym (get_or-remove_above rows i d k ge within)) (kept (k + 1) d (omega arith) (λ e. omega arith))
        ]

    place : (j : ℕ) → j < length rows → j ≢ i → (k : ℕ) × (k < length (remove rows i)) × ((d : Row) → get_or (remove rows i) k d ≡ get_or rows j d)
    place j l ne =
        let n = length-remove rows i within in
        elim (cases_lt j i) [
          | inl lt ↦ (j, omega arith, λ d. get_or-remove_below rows i d j lt within)
          | inr ge ↦ above j l ne ge
        ]
      where
        above : (j : ℕ) → j < length rows → j ≢ i → i ≤ j → (k : ℕ) × (k < length (remove rows i)) × ((d : Row) → get_or (remove rows i) k d ≡ get_or rows j d)
        above zero l ne ge = absurd (ne (omega arith))
        above (suc j) l ne ge =
            let n = length-remove rows i within in
            let le : i ≤ j = low j ne ge in
            let e : j + 1 ≡ suc j = omega arith in
            (j, omega arith, λ d. get_or-remove_above rows i d j le within ∙ ap (λ x. get_or rows x d) e)
          where
            low : (j : ℕ) → suc j ≢ i → i ≤ suc j → i ≤ j
            low j ne ge = elim (cases_lt j i) [
              | inl lt ↦ absurd (ne (omega arith))
              | inr le ↦ le
            ]

    open-now : (b : By) → asks_contents set₀ b ≡ false → IsOpen b (log ++ m ∷ []) → (k : ℕ) × (k < length (remove rows i)) × ((d : Row) → (get_or (remove rows i) k d).by ≡ b)
    open-now b plain o =
        let at = all.open_rows b plain (open-before b log m refl o) in
        let ne : at.0 ≢ i = λ e. self (sym (at.2 any-row) ∙ ap (λ j. (get_or rows j any-row).by) e ∙ is any-row) in
        let p = place at.0 at.1 ne in
        (p.0, p.1, λ d. ap (λ r. r.by) (p.2 d) ∙ at.2 d)
      where
        any-row : Row
        any-row = get_or rows i (first rows within)
          where
            first : (xs : List Row) → i < length xs → Row
            first [] l = absurd (omega arith)
            first (x ∷ xs) l = x

        self : b ≡ by → ⊥
        self e = true≢false (sym (answered-now (sym e)) ∙ o.unanswered)
          where
            answered-now : by ≡ b → is_answered b (log ++ m ∷ []) ≡ true
            answered-now e = any_push (answers_now b) log m ∙ ap (λ x. is_answered b log || x) (subst (λ x. same_command x by ≡ true) e (same-self by)) ∙ or-true (is_answered b log)

-- a row, as a default
pub any : Row
any = record { by = record { actor = 0; command = 0 }; broker = 0; namespace = []; need = 0; stage = stage.Ended answer.Committed }
