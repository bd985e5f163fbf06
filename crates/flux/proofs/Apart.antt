-- The words of one command are no other's.
use Rattle.std.proofs.Common.{◌≡◌, ◌∙◌, ℕ, Bool, true, false, cond, List, [], ◌∷◌, Option, Some, None, ap, refl, sym, true≢false}
use Rattle.std.specs.Prelude.{codes}
use Rattle.std.specs.Cmp.Lexicographic.{bytes_decides}
use Rattle.std.specs.Str.{bytes_eq}
use Rattle.flux_tools.specs.Tools.{asked}
use Rattle.run_options.specs.declared.Options.{Options}
use Rattle.run_options.specs.Words.{options_of}
use Rattle.flux_commands.specs.declared.drawing.Generation.{Generation}
use Rattle.flux_commands.specs.Asked.{run_options}
use Rattle.flux_commands.specs.Drawn.{generation_from, generation_of}

-- a first word that is `run` isn't `gen`
other_word : (word : List ℕ) → bytes_eq word (codes "run") ≡ true → bytes_eq word (codes "gen") ≡ false
other_word word e = ap (λ w. bytes_eq w (codes "gen")) ((bytes_decides word (codes "run")).0 e)

-- the words of a run draw no workload
pub run_draws_nothing : (words : List (List ℕ)) (o : Options) (g : Generation) → run_options words ≡ Some o → generation_of words ≡ Some g → ⊥
run_draws_nothing [] o g runs draws = cc
run_draws_nothing (word ∷ []) o g runs draws = cc
run_draws_nothing (word ∷ seed ∷ []) o g runs draws = cc
run_draws_nothing (word ∷ seed ∷ count ∷ []) o g runs draws = by (bytes_eq word (codes "run")) refl runs
  where
    by : (b : Bool) → bytes_eq word (codes "run") ≡ b → cond b (options_of (seed ∷ count ∷ [])) None ≡ Some o → ⊥
    by true e runs' = let none : None ≡ Some g = sym (ap (λ b. cond b (generation_from seed count) None) (other_word word e)) ∙ draws in cc
    by false e runs' = cc
run_draws_nothing (word ∷ seed ∷ count ∷ more ∷ words) o g runs draws = cc

pub run_is_undrawn : (words : List (List ℕ)) (o : Options) → run_options words ≡ Some o → generation_of words ≡ None
run_is_undrawn words o runs = by (generation_of words) refl
  where
    by : (found : Option Generation) → generation_of words ≡ found → found ≡ None
    by None draws = refl
    by (Some g) draws = absurd (run_draws_nothing words o g runs draws)

-- the words that draw a workload are no tool's
pub drawn_is_no_tool : (words : List (List ℕ)) (g : Generation) → generation_of words ≡ Some g → asked words ≡ None
drawn_is_no_tool [] g draws = cc
drawn_is_no_tool (word ∷ []) g draws = cc
drawn_is_no_tool (word ∷ seed ∷ []) g draws = cc
drawn_is_no_tool (word ∷ seed ∷ count ∷ []) g draws = refl
drawn_is_no_tool (word ∷ seed ∷ count ∷ more ∷ words) g draws = cc
