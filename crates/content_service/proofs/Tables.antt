-- The open requests, after events of contents and after a change of one of them.
use Rattle.std.proofs.Common.{◌≡◌, ℕ, zero, suc, ◌<◌, inl, inr, List, [], ◌∷◌, ◌++◌, length, map, Bool, true, false, ◌||◌, Contains, None, Option, refl, sym, ap, ◌∙◌, subst, arith, get_or, set as put}
use Rattle.std.specs.List.{AllByRecursion as Each, list_any}
use Rattle.std.proofs.lemmas.List.{length-set}
use Rattle.std.proofs.lemmas.List.Elements.{Contains-append_cases}
use Rattle.std.proofs.lemmas.List.Folds.{list_any-append}
use Rattle.fl_digest.specs.declared.BlobRef.{BlobRef}
use Rattle.kvs_txn.specs.declared.txn.By.{By}
use Rattle.kvs_rules.specs.declared.events.KvsAnswer.{KvsAnswer}
use Rattle.kvs_rules.specs.declared.events.KvsEvent.{KvsEvent}
use Rattle.kvs_rules.specs.declared.events.KvsEvent.TheVariants as event
use Rattle.kvs_rules.specs.Log.{Happened, Log, Moment, answers_now, asks_now, denies_now, is_answered, is_asked, lands_now}
use Rattle.kvs_rules.specs.Namespaces.{Setting}
use Rattle.kvs_rules.specs.Sequence.{until}
use Rattle.kvs_rules.specs.Answers.{IsStoredAt}
use Rattle.kvs_content.specs.Agrees.{Follows, IsKept}
use Rattle.kvs_content.specs.Value.{ContentValue}
use Rattle.content_service.specs.declared.rows.Row.{Row}
use Rattle.content_service.specs.Agrees.{AgreesService, RowAgrees}
use Rattle.content_service.specs.Makes.{IsOfContents}
use Rattle.content_service.specs.Rows.{AreApart}
use Rattle.content_service.specs.Sound.{IsSound}
use Rattle.content_service.specs.Value.{ContentServiceValue}
use Rattle.content_service.proofs.Later.{row-later}
use Rattle.content_service.proofs.Lists.{left-false, neither, set-all, set-kept}

-- no event of contents passes
pub none-of-contents : (p : Moment → Bool) → ((b : ℕ) (r : BlobRef) → p (Happened (event.Got b r)) ≡ false) → ((b : ℕ) (r : BlobRef) → p (Happened (event.Dropped b r)) ≡ false)
    → (events : List KvsEvent) → Each IsOfContents events → list_any p (map Happened events) ≡ false
none-of-contents p g d [] h = refl
none-of-contents p g d (event.Got b r ∷ es) h = neither (p (Happened (event.Got b r))) _ (g b r) (none-of-contents p g d es h.1)
none-of-contents p g d (event.Dropped b r ∷ es) h = neither (p (Happened (event.Dropped b r))) _ (d b r) (none-of-contents p g d es h.1)
none-of-contents p g d (_ ∷ es) h = absurd h.0

not-answered : (events : List KvsEvent) → Each IsOfContents events → (by : By) (number : Option ℕ) (given : KvsAnswer) → Contains (map Happened events) (Happened (event.Answered by number given)) → ⊥
not-answered [] h by number given c = let l = c.1 in omega arith
not-answered (event.Got b r ∷ es) h by number given (zero, l, is) = let no : ⊥ = cc in no
not-answered (event.Got b r ∷ es) h by number given (suc k, l, is) = not-answered es h.1 by number given (k, omega arith, is)
not-answered (event.Dropped b r ∷ es) h by number given (zero, l, is) = let no : ⊥ = cc in no
not-answered (event.Dropped b r ∷ es) h by number given (suc k, l, is) = not-answered es h.1 by number given (k, omega arith, is)
not-answered (_ ∷ es) h by number given c = absurd h.0

-- what stands before the first that passes stands in the whole
contains-until : (p : Moment → Bool) (xs : Log) (m : Moment) → Contains (until p xs) m → Contains xs m
contains-until p [] m c = c
contains-until p (x ∷ xs) m c = by (λ d. contains-until p xs m d) (p x) refl
  where
    behind : (Contains (until p xs) m → Contains xs m) → Contains (x ∷ until p xs) m → Contains (x ∷ xs) m
    behind rest (zero, l, is) = (0, omega arith, is)
    behind rest (suc k, l, is) = let d = rest (k, omega arith, is) in (suc d.0, (let n = d.1 in omega arith), d.2)

    by : (Contains (until p xs) m → Contains xs m) → (b : Bool) → p x ≡ b → Contains (x ∷ xs) m
    by rest true e = let none : Contains [] m = rw e at c in absurd (let l = none.1 in omega arith)
    by rest false e = behind rest (let d : Contains (x ∷ until p xs) m = rw e at c in d)

pub stored-since : (set : Setting) (p : Moment → Bool) (log : Log) (broker : ℕ) (r : BlobRef) → IsStoredAt set (until p log) broker r → IsStoredAt set log broker r
stored-since set p log broker r s = record { storer = s.storer; request = s.request; made = s.made; there = s.there; told = contains-until p log _ s.told }

-- a request is of a broker of the setting
pub home-within : {v : ContentServiceValue} → IsSound v → {set : Setting} {log : Log} → AgreesService v set log → (k : ℕ) (d : Row) → k < length v.rows → (get_or v.rows k d).broker < set.size
home-within {v} sound a k d l = subst (λ n. (get_or v.rows k d).broker < n) (sym (a.content.size ∙ sound.size)) (sound.home k d l)

module _ (v : ContentServiceValue) (sound : IsSound v) (set : Setting) (log : Log) (a : AgreesService v set log) (events : List KvsEvent) (own : Each IsOfContents events) where
  abbrev log-now : Log
  log-now = log ++ map Happened events

  unasked : (by : By) → list_any (asks_now by) (map Happened events) ≡ false
  unasked by = none-of-contents (asks_now by) (λ b r. refl) (λ b r. refl) events own

  unanswered : (by : By) → list_any (answers_now by) (map Happened events) ≡ false
  unanswered by = none-of-contents (answers_now by) (λ b r. refl) (λ b r. refl) events own

  asked-before : (by : By) (b : Bool) → is_asked by log-now ≡ b → is_asked by log ≡ b
  asked-before by b e = sym (list_any-append (asks_now by) log (map Happened events) ∙ ap (λ t. is_asked by log || t) (unasked by) ∙ or-nothing (is_asked by log)) ∙ e
    where
      or-nothing : (t : Bool) → (t || false) ≡ t
      or-nothing true = refl
      or-nothing false = refl

  stored-old : (broker : ℕ) (r : BlobRef) → IsStoredAt set log-now broker r → IsStoredAt set log broker r
  stored-old broker r s = record {
    storer = s.storer;
    request = s.request;
    made = s.made;
    there = s.there;
    told = elim (Contains-append_cases log (map Happened events) _ s.told) [
      | inl c ↦ c
      | inr c ↦ absurd (not-answered events own s.storer None _ c)
    ];
  }

  still-none : (p : Moment → Bool) → list_any p log ≡ false → list_any p (map Happened events) ≡ false → list_any p log-now ≡ false
  still-none p before none = list_any-append p log (map Happened events) ∙ neither (list_any p log) _ before none

  -- the contents change, with events, and the requests stay
  pub events-agrees : (w : ContentValue) → Follows v.content w events set log → (spent : Bool) (size : ℕ) → AgreesService (record { spent = spent; size = size; content = w; rows = v.rows }) set log-now
  events-agrees w f spent size = record {
    content = f.agrees;
    rows = λ k d l. row-later v.content w set log (map Happened events) set.size kept (get_or v.rows k d) (home-within sound a k d l) (unanswered (get_or v.rows k d).by) (a.rows k d l);
    apart = a.apart;
    open_rows = λ by asks h. a.open_rows by asks (record {
      asked = asked-before by true h.asked;
      unanswered = left-false (is_answered by log) _ (sym (list_any-append (answers_now by) log (map Happened events)) ∙ h.unanswered);
    });
    kept = λ broker r l s. kept broker r l (a.kept broker r l (stored-old broker r s));
    strange = λ by asks e. still-none (answers_now by) (a.strange by asks (asked-before by false e)) (unanswered by);
    unlanded = λ by asks. still-none (lands_now by) (a.unlanded by asks) (none-of-contents (lands_now by) (λ b r. refl) (λ b r. refl) events own);
    undenied = λ by asks. still-none (denies_now by) (a.undenied by asks) (none-of-contents (denies_now by) (λ b r. refl) (λ b r. refl) events own);
  } where
    kept : (broker : ℕ) (r : BlobRef) → broker < set.size → IsKept v.content set log broker r → IsKept w set log-now broker r
    kept broker r l k = f.kept broker r (subst (λ n. broker < n) a.content.size l) k

module _ (v : ContentServiceValue) (set : Setting) (log : Log) (a : AgreesService v set log) (i : ℕ) (within : i < length v.rows) (new : Row) (same : (d : Row) → new.by ≡ (get_or v.rows i d).by) where
  put-apart : AreApart (put v.rows i new)
  put-apart j k d lt lk e =
      let l : k < length v.rows = simp length-set at lk in
      let ej = set-kept (λ r. r.by) v.rows i new same j d (omega arith) in
      let ek = set-kept (λ r. r.by) v.rows i new same k d l in
      a.apart j k d lt l (sym ej ∙ e ∙ ek)

  -- one request changes
  pub put-agrees : RowAgrees v.content set log new → (spent : Bool) (size : ℕ) → AgreesService (record { spent = spent; size = size; content = v.content; rows = put v.rows i new }) set log
  put-agrees h spent size = record {
    content = a.content;
    rows = set-all (RowAgrees v.content set log) v.rows i new h (λ k d l ne. a.rows k d l);
    apart = put-apart;
    open_rows = λ by asks o.
        let at = a.open_rows by asks o in
        (at.0, subst (λ n. at.0 < n) (sym (length-set v.rows i new)) at.1, λ d. set-kept (λ r. r.by) v.rows i new same at.0 d at.1 ∙ at.2 d);
    kept = a.kept;
    strange = a.strange;
    unlanded = a.unlanded;
    undenied = a.undenied;
  }
