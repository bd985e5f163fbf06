-- An open command of a run is open in the own chronicle of its actor's instance.
use Rattle.std.proofs.Common.{◌≡◌, ℕ, ◌+◌, ◌<◌, ◌≤◌, ◌&&◌, ◌||◌, ◌⊎◌, inl, inr, List, [], ◌∷◌, ◌++◌, Bool, true, false, cond, count_by, refl, sym, ap, ap₂, ◌∙◌, subst, arith, true≢false}
use Rattle.std.specs.List.{list_any}
use Rattle.std.proofs.lemmas.Bool.{and_parts, cases_lt, eq-eqb, eqb-true, or_cases, or_left, or_right}
use Rattle.std.proofs.lemmas.List.Folds.{list_any-append}
use Rattle.std.proofs.lemmas.List.Sums.{sum_by-append}
use Rattle.kvs_txn.specs.declared.txn.By.{By}
use Rattle.kvs_rules.specs.Sequence.{EachAfter}
use Rattle.kvs_rules.proofs.Sequences.{each_along}
use Rattle.answers.specs.Chronicle.{IsOpenCommand, Setup, is_issued, issues, issues_of}
use Rattle.answers.specs.Legal.{IsLegal, IsLegalEntry}
use Rattle.answers.specs.declared.chronicle.Entry.{Entry}
use Rattle.answers.specs.declared.chronicle.Entry.TheVariants as entry
use Rattle.hierarchy.specs.Births.{is_at, label_of, lives}
use Rattle.hierarchy.specs.Growing.{GoesOn}
use Rattle.hierarchy.specs.Legal.{IsLegalRun, IsLegalRunEntry}
use Rattle.hierarchy.specs.Own.{own_of, setup_in}

or_none : (b : Bool) → (b || false) ≡ b
or_none true = refl
or_none false = refl

pushed : (p : Entry → Bool) (c : List Entry) (e : Entry) → list_any p (c ++ e ∷ []) ≡ (list_any p c || p e)
pushed p c e = list_any-append p c (e ∷ []) ∙ ap (λ b. list_any p c || b) (or_none (p e))

counted : (actor : ℕ) (c : List Entry) (e : Entry) → count_by (issues_of actor) (c ++ e ∷ []) ≡ count_by (issues_of actor) c + (0 + cond (issues_of actor e) 1 0)
counted actor c e = sum_by-append (λ x. cond (issues_of actor x) 1 0) c (e ∷ [])

-- ---- in the run, a command that is issued is one of its actor's first

IssuedBelow : List Entry → Type 0
IssuedBelow c = (by : By) → is_issued by c ≡ true → by.command < count_by (issues_of by.actor) c

issued_next : (set : Setup) (c : List Entry) (e : Entry) (by : By) → IsLegalRunEntry set c e → issues by e ≡ true → (issues_of by.actor e ≡ true) × (by.command ≡ count_by (issues_of by.actor) c)
issued_next set c (entry.Issued actor command) by h i =
    let parts = and_parts _ _ i in
    let same_actor : by.actor ≡ actor = eqb-true by.actor actor parts.0 in
    let same_number : by.command ≡ command = eqb-true by.command command parts.1 in
    (parts.0, same_number ∙ h.grounds.0.next ∙ ap (λ a. count_by (issues_of a) c) (sym same_actor))
issued_next set c _ by h i = absurd (true≢false (sym i))

issued_step : (set : Setup) (c : List Entry) (e : Entry) → IsLegalRunEntry set c e → IssuedBelow c → IssuedBelow (c ++ e ∷ [])
unfolding IssuedBelow
issued_step set c e legal below by issued = on (or_cases (is_issued by c) (issues by e) (sym (pushed (issues by) c e) ∙ issued))
  where
    on : (is_issued by c ≡ true) ⊎ (issues by e ≡ true) → by.command < count_by (issues_of by.actor) (c ++ e ∷ [])
    on (inl old) = let low = below by old in subst (λ n. by.command < n) (sym (counted by.actor c e)) (omega (arith, low))
    on (inr new) =
        let is = issued_next set c e by legal new in
        let same = is.1 in
        subst (λ n. by.command < n) (sym (counted by.actor c e ∙ ap (λ b. count_by (issues_of by.actor) c + (0 + cond b 1 0)) is.0)) (omega (arith, same))

pub issued_below : (set : Setup) (c : List Entry) → IsLegalRun set c → (by : By) → is_issued by c ≡ true → by.command < count_by (issues_of by.actor) c
unfolding IssuedBelow
issued_below set c h = each_along (IsLegalRunEntry set) IssuedBelow (λ xs y _ legal old. issued_step set xs y legal old) [] c tt h (λ by i. absurd (true≢false (sym i)))

-- ---- in an own chronicle each of the first ones is issued

BegunBelow : List Entry → Type 0
BegunBelow c = (by : By) → by.command < count_by (issues_of by.actor) c → is_issued by c ≡ true

begun_here : (set : Setup) (c : List Entry) (e : Entry) (by : By) → IsLegalEntry set c e → issues_of by.actor e ≡ true → by.command ≡ count_by (issues_of by.actor) c → issues by e ≡ true
begun_here set c (entry.Issued actor command) by h i same =
    let one : by.actor ≡ actor = eqb-true by.actor actor i in
    ap₂ (λ a b. a && b) i (eq-eqb by.command command (same ∙ ap (λ a. count_by (issues_of a) c) one ∙ sym h.grounds.next))
begun_here set c _ by h i same = absurd (true≢false (sym i))

begun_step : (set : Setup) (c : List Entry) (e : Entry) → EachAfter (IsLegalEntry set) [] c → IsLegalEntry set c e → BegunBelow c → BegunBelow (c ++ e ∷ [])
unfolding BegunBelow
begun_step set c e before legal begun by low = pushed (issues by) c e ∙ on (cases_lt by.command (count_by (issues_of by.actor) c))
  where
    at : (b : Bool) → issues_of by.actor e ≡ b → count_by (issues_of by.actor) c ≤ by.command → issues by e ≡ true
    at true is high =
        let many : count_by (issues_of by.actor) (c ++ e ∷ []) ≡ count_by (issues_of by.actor) c + 1 = counted by.actor c e ∙ ap (λ b. count_by (issues_of by.actor) c + (0 + cond b 1 0)) is in
        begun_here set c e by legal is (omega (arith, low, high, many))
    at false is high =
        let many : count_by (issues_of by.actor) (c ++ e ∷ []) ≡ count_by (issues_of by.actor) c + 0 = counted by.actor c e ∙ ap (λ b. count_by (issues_of by.actor) c + (0 + cond b 1 0)) is in
        absurd (omega (arith, low, high, many))

    on : (by.command < count_by (issues_of by.actor) c) ⊎ (count_by (issues_of by.actor) c ≤ by.command) → (is_issued by c || issues by e) ≡ true
    on (inl old) = or_left (is_issued by c) (issues by e) (begun by old)
    on (inr high) = or_right (is_issued by c) (issues by e) (at (issues_of by.actor e) refl high)

begun_below : (set : Setup) (c : List Entry) → IsLegal set c → (by : By) → by.command < count_by (issues_of by.actor) c → is_issued by c ≡ true
unfolding BegunBelow
begun_below set c h = each_along (IsLegalEntry set) BegunBelow (begun_step set) [] c tt h (λ by low. absurd (omega (arith, low)))

-- ---- an open command

pub open_in : (set : Setup) (c : List Entry) (i : ℕ) (by : By) → GoesOn set c → lives c i ≡ true → is_at set.work.actors (label_of c i) by.actor ≡ true → IsOpenCommand by c → IsOpenCommand by (own_of set c i)
open_in set c i by on alive here waiting =
    let acts = on.acts i by.actor alive here in
    let low = issued_below set c on.run by waiting.0 in
    let many = acts.issued in
    (begun_below (setup_in set c i) (own_of set c i) (on.own i alive) by (omega (arith, low, many)), acts.replied by.command ∙ waiting.1)
