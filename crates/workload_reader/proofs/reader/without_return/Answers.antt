use Rattle.std.proofs.Common.{◌≡◌, ◌≢◌, ℕ, ◌+◌, ◌-◌, List, [], ◌∷◌, ◌++◌, length, eqb, get_or, refl, ap, ◌∙◌, lit<, arith, inl, inr, eqb-true}
use Rattle.std.specs.Prelude.{None}
use Rattle.std.specs.Str.Lines.{strip_carriage_return}
use Rattle.std.proofs.lemmas.Bool.{cases_Bool}
use Rattle.std.proofs.lemmas.List.Prefix.{end_from_reads}
use Rattle.std.proofs.lemmas.Str.Pattern.{strip_suffix_char}
use Rattle.workload_reader.proofs.reader.without_return.Goals as goal

-- a text without a carriage return at its end stays
kept : (piece : List ℕ) → ((front : List ℕ) → piece ≢ front ++ (13 ∷ [])) → piece ≡ strip_carriage_return piece
kept [] h = refl
kept (b ∷ bs) h = elim (cases_Bool (eqb (get_or (b ∷ bs) (length (b ∷ bs) - 1) 0) 13)) [
  | inl is ↦ absurd (h _ (end_from_reads 0 (b ∷ bs) (13 ∷ []) (omega arith) (λ i l. let first : i ≡ 0 = omega arith in rw first (ap (λ k. get_or (b ∷ bs) k 0) (plus_zero (length (b ∷ bs) - 1)) ∙ eqb-true _ 13 is))))
  | inr off ↦ rw off refl
]
  where
    plus_zero : (n : ℕ) → n + 0 ≡ n
    plus_zero n = omega arith

pub returns-in-None : goal.returns-in-None
returns-in-None c = kept c.args.piece.now (strip_suffix_char 13 c.args.piece.now None c.in-None.ensures.cases (lit< tt))
