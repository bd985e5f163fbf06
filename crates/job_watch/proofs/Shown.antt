-- What is shown of events that are answered one after another.
use Rattle.std.proofs.Common.{◌≡◌, ◌≢◌, ℕ, ◌+◌, ◌<◌, length, get_or, take, Bool, true, false, cond, eqb, List, [], ◌∷◌, ◌++◌, refl, sym, ap, ◌∙◌, subst}
use Rattle.std.proofs.lemmas.Bool.{eq-eqb, ne_eqb}
use Rattle.std.proofs.lemmas.List.{append-nil, take_more}
use Rattle.event_log.specs.declared.event.Event.{Event}
use Rattle.job_watch.specs.Watched.{AreShown, with_answer}

with_append : (answer : ℕ) (name : List ℕ) (names more : List (List ℕ)) → with_answer answer name names ++ more ≡ with_answer answer name (names ++ more)
with_append answer name names more = at (eqb answer 1)
  where
    at : (b : Bool) → cond b (name ∷ names) names ++ more ≡ cond b (name ∷ (names ++ more)) (names ++ more)
    at true = refl
    at false = refl

module _ (Answers : Event → ℕ → Type 0) where
  pub shown_both : (events more : List Event) (names others : List (List ℕ)) → AreShown Answers events names → AreShown Answers more others → AreShown Answers (events ++ more) (names ++ others)
  shown_both [] more names others shown next = subst (AreShown Answers more) (ap (λ ns. ns ++ others) (sym shown)) next
  shown_both (event ∷ events) more names others shown next = (
    shown.0,
    shown.1 ++ others,
    shown.2,
    ap (λ ns. ns ++ others) shown.3 ∙ with_append shown.0 event.name shown.1 others,
    shown_both events more shown.1 others shown.4 next,
  )

  pub shown_next : (events : List Event) (names : List (List ℕ)) (event : Event) (answer : ℕ) → AreShown Answers events names → Answers event answer → AreShown Answers (events ++ event ∷ []) (names ++ with_answer answer event.name [])
  shown_next events names event answer shown said = shown_both events (event ∷ []) names (with_answer answer event.name []) shown (answer, [], said, refl, refl)

  -- one more event of a list is answered
  pub shown_more : (all : List Event) (i : ℕ) (event : Event) (answer : ℕ) (names after : List (List ℕ)) → i < length all → event ≡ get_or all i event → AreShown Answers (take i all) names → Answers event answer → after ≡ names ++ with_answer answer event.name [] → AreShown Answers (take (i + 1) all) after
  shown_more all i event answer names after h e shown said is =
      subst (AreShown Answers (take (i + 1) all)) (sym is)
      (subst (λ es. AreShown Answers es (names ++ with_answer answer event.name [])) (sym (take_more all i event h ∙ ap (λ x. take i all ++ x ∷ []) (sym e)))
      (shown_next (take i all) names event answer shown said))

pub where_shown : (answer : ℕ) (name copy : List ℕ) (names : List (List ℕ)) → answer ≡ 1 → copy ≡ name → names ++ copy ∷ [] ≡ names ++ with_answer answer name []
where_shown answer name copy names one same = ap (λ x. names ++ x ∷ []) same ∙ ap (λ b. names ++ cond b (name ∷ []) []) (sym (eq-eqb answer 1 one))

pub where_hidden : (answer : ℕ) (name : List ℕ) (names : List (List ℕ)) → answer ≢ 1 → names ≡ names ++ with_answer answer name []
where_hidden answer name names other = sym (append-nil names) ∙ ap (λ b. names ++ cond b (name ∷ []) []) (sym (ne_eqb answer 1 other))
