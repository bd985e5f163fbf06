-- The lines of a drawn text are printed and short.
use Rattle.std.proofs.Common.{◌≡◌, ℕ, zero, suc, ◌+◌, ◌*◌, ◌^◌, ◌%◌, ◌<◌, ◌≤◌, true, List, [], ◌∷◌, ◌++◌, length, refl, sym, ◌∙◌, subst, arith, append_assoc}
use Rattle.std.specs.Prelude.{nat_le, codes, decimal, flat_map}
use Rattle.std.specs.List.{range_with_len}
use Rattle.std.specs.Str.{IsAscii}
use Rattle.std.proofs.lemmas.Bool.Decides.{nat_tests}
use Rattle.std.proofs.lemmas.Fmt.{length-decimal-le}
use Rattle.std.proofs.lemmas.List.{length-append}
use Rattle.std.proofs.lemmas.Str.{IsAscii-append}
use Rattle.std.proofs.lemmas.Str.Ascii.{IsAscii-nil, IsAscii-cons}
use Rattle.workload_generator.specs.Drawn.{asked, drawn, submissions}
use Rattle.workload_generator.specs.Texts.{actor_line, command_line, command_text, jobspec, line_text}
use Rattle.workload_generator.specs.declared.drawn.Drawn.{Drawn}
use Rattle.workload_generator.specs.declared.drawn.Kind.{Kind}
use Rattle.workload_generator.specs.declared.drawn.Kind.TheVariants as kind
use Rattle.workload_generator.proofs.Printed.{Passes, digits_printed, is_printed, number_passes, passes_both, printed_ascii}

-- a printed text of at most so many bytes
pub record IsPiece (most : ℕ) (text : List ℕ) : Type 0 where
  pub printed : Passes is_printed text
  pub short : length text ≤ most

word : (most : ℕ) (text : List ℕ) → Passes is_printed text → nat_le (length text) most ≡ true → IsPiece most text
word most text printed short = record { printed = printed; short = grind (arith, nat_tests) }

number : (n : ℕ) → n < 2 ^ 64 → IsPiece 20 (decimal n)
number n small = record {
  printed = number_passes is_printed digits_printed n small;
  short = length-decimal-le 20 n (omega arith) (omega (arith, small)) small;
}

-- a piece, and a second one behind it
then : {m n : ℕ} {xs ys : List ℕ} → IsPiece m xs → IsPiece n ys → IsPiece (m + n) (xs ++ ys)
then {m} {n} {xs} {ys} x y = record {
  printed = passes_both is_printed xs ys x.printed y.printed;
  short = omega (arith, length-append xs ys, x.short, y.short);
}

wider : {m : ℕ} {text : List ℕ} (n : ℕ) → m ≤ n → IsPiece m text → IsPiece n text
wider n up h = record { printed = h.printed; short = omega (arith, up, h.short) }

-- a word, and a number behind it
numbered : (most : ℕ) (text : List ℕ) (n : ℕ) → Passes is_printed text → nat_le (length text) most ≡ true → n < 2 ^ 64 → IsPiece (most + 20) (text ++ decimal n)
numbered most text n printed short small = then (word most text printed short) (number n small)

spec_piece : (slots seconds : ℕ) → slots < 10 → seconds < 10 → IsPiece 290 (jobspec slots seconds)
unfolding jobspec
spec_piece slots seconds few soon =
    let start = numbered 50 (codes "{\"resources\":[{\"type\":\"slot\",\"count\":") slots refl refl (omega (arith, few)) in
    let shape = word 60 (codes ",\"with\":[{\"type\":\"core\",\"count\":1}],\"label\":\"task\"}],") refl refl in
    let task = word 30 (codes "\"tasks\":[{\"command\":[\"sleep\",\"") refl refl in
    let rest = word 50 (codes "\"],\"slot\":\"task\",\"count\":{\"per_slot\":1}}],") refl refl in
    let system = word 60 (codes "\"attributes\":{\"system\":{\"duration\":0}},\"version\":1}") refl refl in
    wider 290 (omega arith) (then (then (then (then (then start shape) task) (number seconds (omega (arith, soon)))) rest) system)

command_piece : (place : ℕ) (wanted : Kind) (choice : ℕ) → place < 2 ^ 64 → IsPiece 320 (command_text place wanted choice)
command_piece place kind.Put choice small = wider 320 (omega arith)
    (then (then (numbered 5 (codes "put k") (choice % 100) refl refl (omega arith)) (word 5 (codes " v") refl refl)) (number place small))
command_piece place kind.Append choice small = wider 320 (omega arith)
    (then (numbered 10 (codes "append l") (choice % 10) refl refl (omega arith)) (word 5 (codes " +") refl refl))
command_piece place kind.Commit choice small = word 320 (codes "commit") refl refl
command_piece place kind.Get choice small = wider 320 (omega arith) (numbered 5 (codes "get k") (choice % 100) refl refl (omega arith))
command_piece place kind.Submit choice small = wider 320 (omega arith)
    (then (then (numbered 8 (codes "submit j") place refl refl small) (word 2 (codes " ") refl refl)) (spec_piece (choice % 4 + 1) (choice % 5) (omega arith) (omega arith)))
command_piece place kind.Advance choice small = wider 320 (omega arith) (numbered 10 (codes "advance ") (choice % 3) refl refl (omega arith))

-- the line of a command without its newline
abbrev pub bare_line : ℕ → Kind → Drawn → List ℕ
bare_line place wanted words =
    codes "a" ++ decimal (words.actor % 8) ++ codes " " ++ command_text place wanted words.choice

pub line_piece : (place : ℕ) (wanted : Kind) (words : Drawn) → place < 2 ^ 64 → IsPiece 350 (bare_line place wanted words)
line_piece place wanted words small = wider 350 (omega arith)
    (then (then (numbered 5 (codes "a") (words.actor % 8) refl refl (omega arith)) (word 5 (codes " ") refl refl)) (command_piece place wanted words.choice small))

-- the line with its newline, before what follows
pub line_ends : (place : ℕ) (wanted : Kind) (words : Drawn) (rest : List ℕ) → line_text place wanted words ++ rest ≡ bare_line place wanted words ++ 10 ∷ rest
unfolding line_text
line_ends place wanted words rest = append_assoc (bare_line place wanted words) (10 ∷ []) rest

-- the same of the line of an actor
abbrev pub bare_actor : ℕ → List ℕ
bare_actor n = codes "actor a" ++ decimal n ++ codes " " ++ decimal (n % 7)

pub actor_piece : (n : ℕ) → n < 8 → IsPiece 60 (bare_actor n)
actor_piece n low = wider 60 (omega arith)
    (then (then (numbered 10 (codes "actor a") n refl refl (omega (arith, low))) (word 5 (codes " ") refl refl)) (number (n % 7) (omega arith)))

pub actor_ends : (n : ℕ) (more rest : List ℕ) → (actor_line n ++ more) ++ rest ≡ bare_actor n ++ 10 ∷ (more ++ rest)
unfolding actor_line
actor_ends n more rest = append_assoc (bare_actor n ++ 10 ∷ []) more rest ∙ append_assoc (bare_actor n) (10 ∷ []) (more ++ rest)

-- ---- whole texts

-- an ASCII text of at most so many bytes
pub record IsSmall (most : ℕ) (text : List ℕ) : Type 0 where
  pub ascii : IsAscii text
  pub short : length text ≤ most

ended : (most : ℕ) (line rest : List ℕ) (more : ℕ) → IsPiece most line → IsSmall more rest → IsSmall (most + 1 + more) (line ++ 10 ∷ rest)
ended most line rest more l r = record {
  ascii = IsAscii-append line (10 ∷ rest) (printed_ascii line l.printed) (IsAscii-cons 10 rest (omega arith) r.ascii);
  short = omega (arith, length-append line (10 ∷ rest), l.short, r.short);
}

pub commands_small : (seed n place : ℕ) → place + n ≤ 10000 → IsSmall (351 * n) (flat_map (command_line seed) (range_with_len place n))
commands_small seed zero place few = record { ascii = IsAscii-nil; short = omega arith }
commands_small seed (suc n) place few =
    let words = drawn seed place in
    let wanted = asked (submissions seed place) words in
    let rest = flat_map (command_line seed) (range_with_len (place + 1) n) in
    let more = commands_small seed n (place + 1) (omega (arith, few)) in
    let whole = ended 350 (bare_line place wanted words) rest (351 * n) (line_piece place wanted words (omega (arith, few))) more in
    subst (IsSmall (351 * suc n)) (sym (line_ends place wanted words rest)) (record { ascii = whole.ascii; short = omega (arith, whole.short) })

pub actors_small : (rest : List ℕ) (most : ℕ) → IsSmall most rest → (n a : ℕ) → a + n ≤ 8
    → IsSmall (61 * n + most) (flat_map actor_line (range_with_len a n) ++ rest)
actors_small rest most h zero a few = record { ascii = h.ascii; short = omega (arith, h.short) }
actors_small rest most h (suc n) a few =
    let lines = flat_map actor_line (range_with_len (a + 1) n) in
    let more = actors_small rest most h n (a + 1) (omega (arith, few)) in
    let whole = ended 60 (bare_actor a) (lines ++ rest) (61 * n + most) (actor_piece a (omega (arith, few))) more in
    subst (IsSmall (61 * suc n + most)) (sym (actor_ends a lines rest)) (record { ascii = whole.ascii; short = omega (arith, whole.short) })
