-- What one more command adds.
use Rattle.std.proofs.Common.{◌≡◌, ℕ, zero, suc, ◌+◌, ◌≤◌, Bool, List, [], ◌∷◌, ◌++◌, ap, ap₂, sym, ◌∙◌, refl, arith}
use Rattle.std.specs.Prelude.{flat_map, count_by, if◌then◌else◌}
use Rattle.std.specs.List.{range_with_len}
use Rattle.std.proofs.lemmas.List.{flat_map_more}
use Rattle.std.proofs.lemmas.List.FromFn.{length-range_with_len}
use Rattle.std.proofs.lemmas.List.Sums.{count_by-le-length, sum_by_push}
use Rattle.rand_pcg.specs.Lcg.{Lcg}
use Rattle.workload.specs.Draws.{seeded}
use Rattle.workload_generator.specs.declared.drawn.Drawn.{Drawn}
use Rattle.workload_generator.specs.declared.drawn.Kind.{Kind}
use Rattle.workload_generator.specs.Drawn.{asked, behind, behind_three, drawn, is_submission, next_three, submissions}
use Rattle.workload_generator.specs.Texts.{actor_lines, command_line, generated, line_text}

-- ---- one more number
last : (a n j : ℕ) → a + n ≡ j → range_with_len a (suc n) ≡ range_with_len a n ++ j ∷ []
last a zero j e = let same : a ≡ j = omega arith in ap (λ k. k ∷ []) same
last a (suc n) j e = ap (λ l. a ∷ l) (last (a + 1) n j (omega arith))

range_more : (n : ℕ) → range_with_len 0 (n + 1) ≡ range_with_len 0 n ++ n ∷ []
range_more n = let on : n + 1 ≡ suc n = omega arith in ap (range_with_len 0) on ∙ last 0 n n (omega arith)

-- ---- one more line
pub lines_more : (text : List ℕ) (line : ℕ → List ℕ) (n : ℕ) → (text ++ flat_map line (range_with_len 0 n)) ++ line n ≡ text ++ flat_map line (range_with_len 0 (n + 1))
lines_more text line n = flat_map_more line text (range_with_len 0 n) n ∙ ap (λ ns. text ++ flat_map line ns) (sym (range_more n))

-- ---- what stands before the first command
pub behind_none : (seed : ℕ) → behind seed 0 ≡ seeded seed
unfolding behind
behind_none seed = refl

pub submissions_none : (seed : ℕ) → submissions seed 0 ≡ 0
unfolding submissions
submissions_none seed = refl

-- ---- the words of one more command
pub behind_more : (seed place : ℕ) → behind_three (behind seed place) ≡ behind seed (place + 1)
unfolding behind
behind_more seed place = let on : suc place ≡ place + 1 = omega arith in ap (behind seed) on

-- ---- the submissions with one more command
pub submissions_more : (seed place : ℕ) → submissions seed (place + 1) ≡ submissions seed place + (if is_submission (drawn seed place) then 1 else 0)
unfolding submissions
submissions_more seed place = ap (count_by (λ earlier. is_submission (drawn seed earlier))) (range_more place)
    ∙ sum_by_push _ (range_with_len 0 place) place

-- ---- there are no more submissions than commands
pub submissions_few : (seed place : ℕ) → submissions seed place ≤ place
unfolding submissions
submissions_few seed place = omega (arith, count_by-le-length (λ earlier. is_submission (drawn seed earlier)) (range_with_len 0 place), length-range_with_len 0 place)

-- ---- a command that is no submission leaves their count, and a submission adds one
pub submissions_next : (seed place : ℕ) (words : Drawn) (is : Bool) → words ≡ drawn seed place → is ≡ is_submission words
    → submissions seed (place + 1) ≡ submissions seed place + (if is then 1 else 0)
submissions_next seed place words is words_are is_so = submissions_more seed place
    ∙ ap (λ b. submissions seed place + (if b then 1 else 0)) (sym (is_so ∙ ap is_submission words_are))

-- ---- one more command that is drawn
pub words_are_drawn : (seed place : ℕ) (draws : Lcg) (words : Drawn) → draws ≡ behind seed place → words ≡ next_three draws → words ≡ drawn seed place
words_are_drawn seed place draws words draws_are words_are = words_are ∙ ap next_three draws_are

pub text_more : (seed place before : ℕ) (text more : List ℕ) (words : Drawn) (wanted : Kind)
    → text ≡ generated seed place → before ≡ submissions seed place → words ≡ drawn seed place → wanted ≡ asked before words
    → more ≡ text ++ line_text place wanted words → more ≡ generated seed (place + 1)
text_more seed place before text more words wanted text_is before_is words_are wanted_is more_is =
    let wanted_so = wanted_is ∙ ap₂ asked before_is words_are in
    more_is ∙ ap₂ (λ t l. t ++ l) text_is (ap₂ (line_text place) wanted_so words_are) ∙ lines_more (actor_lines 8) (command_line seed) place
