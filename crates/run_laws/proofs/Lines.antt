-- The commands that a legal chronicle issues are lines of the workload, each once.
use Rattle.std.proofs.Common.{◌≡◌, ℕ, zero, suc, ◌+◌, ◌-◌, ◌≤◌, ◌==◌, inl, inr, List, [], ◌∷◌, ◌++◌, Bool, true, false, cond, Some, None, filter_map, count_by, refl, sym, ap, ap₂, ◌∙◌, subst, arith, true≢false}
use Rattle.std.specs.Prelude.{slice_get}
use Rattle.std.specs.Option.{option_map_or}
use Rattle.std.proofs.lemmas.Bool.{eq-eqb}
use Rattle.std.proofs.lemmas.Bool.Decides.{eqb_tells}
use Rattle.std.proofs.lemmas.List.Sums.{sum_by-cons, sum_by_push}
use Rattle.kvs_rules.proofs.Sequences.{each_along}
use Rattle.kvs_rules.specs.Sequence.{EachAfter}
use Rattle.workload.specs.Tallies.{seconds_in, seconds_of}
use Rattle.workload.specs.declared.work.Line.{Line}
use Rattle.answers.specs.declared.chronicle.Entry.{Entry}
use Rattle.answers.specs.declared.chronicle.Entry.TheVariants as entry
use Rattle.answers.specs.Chronicle.{Setup, issues_of}
use Rattle.answers.specs.Legal.{IsLegal, IsLegalEntry}
use Rattle.run_laws.specs.Times.{seconds_by, seconds_issued}

-- ---- so many first commands of each actor

-- the counts with one less for this actor, and with one more
abbrev less : ℕ → (ℕ → ℕ) → ℕ → ℕ
less actor counts a = cond (a == actor) (counts a - 1) (counts a)

abbrev more : ℕ → (ℕ → ℕ) → ℕ → ℕ
more actor counts a = counts a + cond (a == actor) 1 0

-- the seconds of a line, where so many of its actor's are left
abbrev part : ℕ → ℕ → ℕ
part zero seconds = 0
part (suc n) seconds = seconds

-- the seconds of so many first commands of each actor
abbrev taken : List Line → (ℕ → ℕ) → ℕ
taken [] counts = 0
taken (line ∷ lines) counts = part (counts line.actor) (seconds_of line.command) + taken lines (less line.actor counts)

part_within : (n seconds : ℕ) → part n seconds ≤ seconds
part_within zero seconds = omega arith
part_within (suc n) seconds = omega arith

taken_within : (lines : List Line) (counts : ℕ → ℕ) → taken lines counts ≤ seconds_in lines
taken_within [] counts = omega arith
taken_within (line ∷ lines) counts =
    let one = part_within (counts line.actor) (seconds_of line.command) in
    let rest : taken lines (less line.actor counts) ≤ seconds_in lines = taken_within lines (less line.actor counts) in
    let whole : seconds_in (line ∷ lines) ≡ seconds_of line.command + seconds_in lines = sum_by-cons (λ l. seconds_of l.command) line lines in
    omega (arith, one, rest, whole)

taken_same : (lines : List Line) (x y : ℕ → ℕ) → ((a : ℕ) → x a ≡ y a) → taken lines x ≡ taken lines y
taken_same [] x y same = refl
taken_same (line ∷ lines) x y same =
    ap₂ (λ n rest. part n (seconds_of line.command) + rest) (same line.actor)
    (taken_same lines (less line.actor x) (less line.actor y) (λ a. ap (λ n. cond (a == line.actor) (n - 1) n) (same a)))

none_taken : (lines : List Line) → taken lines (λ a. 0) ≡ 0
none_taken [] = refl
none_taken (line ∷ lines) =
    let rest : taken lines (less line.actor (λ a. 0)) ≡ 0 = taken_same lines (less line.actor (λ a. 0)) (λ a. 0) (λ a. still (a == line.actor)) ∙ none_taken lines in
    omega (arith, rest)
  where
    still : (b : Bool) → cond b (0 - 1) 0 ≡ 0
    still true = refl
    still false = refl

-- ---- one command more

-- the seconds of a command of an actor, by its place among the actor's
abbrev seconds_there : ℕ → List Line → ℕ → ℕ
seconds_there actor lines k = option_map_or seconds_of (slice_get (filter_map (λ line. cond (line.actor == actor) (Some line.command) None) lines) k) 0

-- a count with one more and one less
back : (actor : ℕ) (counts : ℕ → ℕ) (a : ℕ) → less actor (more actor counts) a ≡ counts a
back actor counts a = on (a == actor)
  where
    on : (b : Bool) → cond b (counts a + cond b 1 0 - 1) (counts a + cond b 1 0) ≡ counts a
    on true = omega arith
    on false = omega arith

less_none : (actor : ℕ) (counts : ℕ → ℕ) → counts actor ≡ 0 → (a : ℕ) → less actor counts a ≡ counts a
less_none actor counts none a = elim (eqb_tells a actor) [
  | inl t ↦ let same : counts a ≡ 0 = ap counts t.1 ∙ none in rw t.0 (omega (arith, same))
  | inr f ↦ rw f.0
]

less_some : (actor : ℕ) (counts : ℕ → ℕ) (n : ℕ) → counts actor ≡ suc n → (a : ℕ) → counts a ≡ more actor (less actor counts) a
less_some actor counts n some a = elim (eqb_tells a actor) [
  | inl t ↦ let same : counts a ≡ suc n = ap counts t.1 ∙ some in rw t.0 (omega (arith, same))
  | inr f ↦ rw f.0 (omega arith)
]

apart : (one other : ℕ) (counts : ℕ → ℕ) → (one == other) ≡ false → (a : ℕ) → less one (more other counts) a ≡ more other (less one counts) a
apart one other counts differ a = elim (eqb_tells a one) [
  | inl t ↦ let no : (a == other) ≡ false = ap (λ x. x == other) t.1 ∙ differ in rw (t.0, no) (omega arith)
  | inr f ↦ rw f.0
]

abbrev OneMore : List Line → Type 0
OneMore lines = (actor : ℕ) (counts : ℕ → ℕ) → taken lines (more actor counts) ≡ taken lines counts + seconds_there actor lines (counts actor)

module _ (line : Line) (lines : List Line) (again : OneMore lines) (counts : ℕ → ℕ) where
  own : (n : ℕ) → counts line.actor ≡ n → (line.actor == line.actor) ≡ true
      → taken (line ∷ lines) (more line.actor counts) ≡ taken (line ∷ lines) counts + seconds_there line.actor (line ∷ lines) (counts line.actor)
  own zero is own_line =
      let first : part (counts line.actor + cond (line.actor == line.actor) 1 0) (seconds_of line.command) ≡ seconds_of line.command = rw (is, own_line) in
      let rest : taken lines (less line.actor (more line.actor counts)) ≡ taken lines counts = taken_same lines (less line.actor (more line.actor counts)) counts (back line.actor counts) in
      let none : part (counts line.actor) (seconds_of line.command) ≡ 0 = rw is in
      let same : taken lines (less line.actor counts) ≡ taken lines counts = taken_same lines (less line.actor counts) counts (less_none line.actor counts is) in
      let there : seconds_there line.actor (line ∷ lines) (counts line.actor) ≡ seconds_of line.command = rw (own_line, is) in
      omega (arith, first, rest, none, same, there)
  own (suc n) is own_line =
      let count : counts line.actor + cond (line.actor == line.actor) 1 0 ≡ suc (suc n) = rw (is, own_line) (omega arith) in
      let first : part (counts line.actor + cond (line.actor == line.actor) 1 0) (seconds_of line.command) ≡ seconds_of line.command = ap (λ k. part k (seconds_of line.command)) count in
      let rest : taken lines (less line.actor (more line.actor counts)) ≡ taken lines (more line.actor (less line.actor counts)) =
      taken_same lines (less line.actor (more line.actor counts)) (more line.actor (less line.actor counts)) (λ a. back line.actor counts a ∙ less_some line.actor counts n is a) in
      let known : part (counts line.actor) (seconds_of line.command) ≡ seconds_of line.command = rw is in
      let left : less line.actor counts line.actor ≡ n = rw (own_line, is) (omega arith) in
      let one : taken lines (more line.actor (less line.actor counts)) ≡ taken lines (less line.actor counts) + seconds_there line.actor lines n =
      again line.actor (less line.actor counts) ∙ ap (λ k. taken lines (less line.actor counts) + seconds_there line.actor lines k) left in
      let there : seconds_there line.actor (line ∷ lines) (counts line.actor) ≡ seconds_there line.actor lines n = rw (own_line, is) in
      omega (arith, first, rest, known, one, there)

  other : (actor : ℕ) → (line.actor == actor) ≡ false → taken (line ∷ lines) (more actor counts) ≡ taken (line ∷ lines) counts + seconds_there actor (line ∷ lines) (counts actor)
  other actor differ =
      let count : counts line.actor + cond (line.actor == actor) 1 0 ≡ counts line.actor = rw differ (omega arith) in
      let first : part (counts line.actor + cond (line.actor == actor) 1 0) (seconds_of line.command) ≡ part (counts line.actor) (seconds_of line.command) = ap (λ k. part k (seconds_of line.command)) count in
      let rest : taken lines (less line.actor (more actor counts)) ≡ taken lines (more actor (less line.actor counts)) =
      taken_same lines (less line.actor (more actor counts)) (more actor (less line.actor counts)) (apart line.actor actor counts differ) in
      let left : less line.actor counts actor ≡ counts actor = elim (eqb_tells actor line.actor) [
        | inl t ↦ absurd (true≢false (sym (eq-eqb line.actor actor (sym t.1)) ∙ differ))
        | inr f ↦ rw f.0
      ] in
      let one : taken lines (more actor (less line.actor counts)) ≡ taken lines (less line.actor counts) + seconds_there actor lines (counts actor) =
      again actor (less line.actor counts) ∙ ap (λ k. taken lines (less line.actor counts) + seconds_there actor lines k) left in
      let there : seconds_there actor (line ∷ lines) (counts actor) ≡ seconds_there actor lines (counts actor) = rw differ in
      omega (arith, first, rest, one, there)

one_more : (lines : List Line) → OneMore lines
one_more [] actor counts = refl
one_more (line ∷ lines) actor counts = elim (eqb_tells line.actor actor) [
  | inl t ↦ subst (λ a. taken (line ∷ lines) (more a counts) ≡ taken (line ∷ lines) counts + seconds_there a (line ∷ lines) (counts a)) t.1 (own line lines (one_more lines) counts (counts line.actor) refl (eq-eqb line.actor line.actor refl))
  | inr f ↦ other line lines (one_more lines) counts actor f.0
]

-- ---- along a chronicle

abbrev counts_in : List Entry → ℕ → ℕ
counts_in c a = count_by (issues_of a) c

counted : (c : List Entry) (e : Entry) (a : ℕ) → counts_in (c ++ e ∷ []) a ≡ counts_in c a + cond (issues_of a e) 1 0
counted c e a = sum_by_push (λ x. cond (issues_of a x) 1 0) c e

module _ (set : Setup) where
  IsTaken : List Entry → Type 0
  IsTaken c = seconds_issued set.work c ≡ taken set.work.lines (counts_in c)

  unmoved : (c : List Entry) (e : Entry) → IsTaken c → seconds_by set.work e ≡ 0 → ((a : ℕ) → issues_of a e ≡ false) → seconds_issued set.work c + seconds_by set.work e ≡ taken set.work.lines (counts_in (c ++ e ∷ []))
  unfolding IsTaken
  unmoved c e h none other =
      let same = taken_same set.work.lines (counts_in (c ++ e ∷ [])) (counts_in c) (λ a. counted c e a ∙ (rw (other a) (omega arith))) in
      omega (arith, h, none, same)

  taken_push : (c : List Entry) (e : Entry) → IsLegalEntry set c e → IsTaken c → seconds_issued set.work c + seconds_by set.work e ≡ taken set.work.lines (counts_in (c ++ e ∷ []))
  unfolding IsTaken
  taken_push c (entry.Issued actor number) legal h =
      let e : Entry = entry.Issued actor number in
      let there : seconds_by set.work e ≡ seconds_there actor set.work.lines (counts_in c actor) = ap (seconds_there actor set.work.lines) legal.grounds.next in
      let one = one_more set.work.lines actor (counts_in c) in
      let same = taken_same set.work.lines (counts_in (c ++ e ∷ [])) (more actor (counts_in c)) (λ a. counted c e a) in
      omega (arith, h, there, one, same)
  taken_push c e legal h = unmoved c e h refl (λ a. refl)

  taken_step : (c : List Entry) (e : Entry) → EachAfter (IsLegalEntry set) [] c → IsLegalEntry set c e → IsTaken c → IsTaken (c ++ e ∷ [])
  unfolding IsTaken
  taken_step c e before legal h = sum_by_push (seconds_by set.work) c e ∙ taken_push c e legal h

  -- no more seconds are issued than the lines have
  pub issued_within : (c : List Entry) → IsLegal set c → seconds_issued set.work c ≤ seconds_in set.work.lines
  unfolding IsTaken
  issued_within c legal =
      let is : seconds_issued set.work c ≡ taken set.work.lines (counts_in c) = each_along (IsLegalEntry set) IsTaken taken_step [] c tt legal (sym (none_taken set.work.lines)) in
      let within = taken_within set.work.lines (counts_in c) in
      omega (arith, is, within)
