-- No two submissions that a text spells have one label.
use Rattle.std.proofs.Common.{◌≡◌, ◌⊎◌, inl, inr, ℕ, true, false, List, [], ◌∷◌, ◌++◌, refl, sym, subst, true≢false}
use Rattle.std.specs.Prelude.{None}
use Rattle.std.proofs.lemmas.Bool.{and_parts}
use Rattle.std.proofs.lemmas.Slice.Eq.{bytes_eq-Decides}
use Rattle.outcomes.specs.Outcomes.{first_of}
use Rattle.workload.specs.Laws.{HasOwnLabels}
use Rattle.workload_reader.specs.Reading.{first_fault, spelled}
use Rattle.workload_reader.specs.Submits.{label_of}
use Rattle.workload.specs.Tallies.{declares, is_declared}
use Rattle.workload_reader.specs.Verbs.{faults_of, said, submission}
use Rattle.workload_reader.proofs.Along.{fails, none_applies, stands}
use Rattle.workload_reader.proofs.Commands.{IsSpoken, lines_keep}
use Rattle.workload_reader.specs.declared.verbs.Verb.{Verb}
use Rattle.workload_reader.specs.declared.verbs.Verb.TheVariants as verb
use Rattle.workload.specs.declared.work.Line.{Line}
use Rattle.workload.specs.declared.work.Workload.{Workload}

-- the line stands behind these lines and before more of the list
record StandsEarlier (lines before : List Line) (line : Line) : Type 0 where
  after : List Line
  split : lines ≡ before ++ line ∷ after

one_step : (first : Line) (lines before : List Line) (line : Line) → StandsEarlier lines before line → StandsEarlier (first ∷ lines) (first ∷ before) line
one_step first lines before line h = let tail = h.split in record { after = h.after; split = cc }

-- a line of a list that is one longer is the last one, or stands in the shorter list
last_or_earlier : (lines before after : List Line) (more line : Line) → lines ++ more ∷ [] ≡ before ++ line ∷ after → ((before ≡ lines) × (line ≡ more)) ⊎ StandsEarlier lines before line
last_or_earlier [] [] after more line split = inl (refl, cc)
last_or_earlier [] (b ∷ []) after more line split = absurd (cc)
last_or_earlier [] (b ∷ c ∷ before) after more line split = absurd (cc)
last_or_earlier (x ∷ lines) [] after more line split = inr (record { after = lines; split = cc })
last_or_earlier (x ∷ lines) (b ∷ before) after more line split =
    let rest : lines ++ more ∷ [] ≡ before ++ line ∷ after = cc in
    let first : x ≡ b = cc in
    elim (last_or_earlier lines before after more line rest) [
      | inl last ↦ let same : before ≡ lines = last.0 in inl (cc, last.1)
      | inr earlier ↦ inr (subst (λ y. StandsEarlier (x ∷ lines) (y ∷ before) line) first (one_step x lines before line earlier))
    ]

own_pushed : (lines : List Line) (more : Line) → HasOwnLabels lines → ((label : List ℕ) → declares label more.command ≡ true → is_declared label lines ≡ false) → HasOwnLabels (lines ++ more ∷ [])
own_pushed lines more h fresh before line after label split says = elim (last_or_earlier lines before after more line split) [
  | inl last ↦ subst (λ ls. is_declared label ls ≡ false) (sym last.0) (fresh label (subst (λ l. declares label l.command ≡ true) last.1 says))
  | inr earlier ↦ h before line earlier.after label earlier.split says
]

-- the label of a submission is new
fresh_label : (work : Workload) (number : ℕ) (tail : List ℕ) (v : Verb) (label : List ℕ) → first_of (faults_of number (said work v tail)) ≡ None → declares label (said work v tail).command ≡ true → is_declared label work.lines ≡ false
fresh_label work number tail verb.Submit label none says =
    let tests = none_applies (faults_of number (submission work tail)) none in
    let options = and_parts _ _ (and_parts _ _ (and_parts _ _ (stands _ tests.1.0)).0).0 in
    let new : is_declared (label_of tail) work.lines ≡ false = fails _ (and_parts _ _ options.0).1 in
    subst (λ l. is_declared l work.lines ≡ false) ((bytes_eq-Decides (label_of tail) label).0 says) new
fresh_label work number tail v label none says = absurd (true≢false (sym says))

one_own : (work : Workload) (by number : ℕ) (tail : List ℕ) (v : Verb) → IsSpoken work by number v tail → HasOwnLabels work.lines
    → HasOwnLabels (work.lines ++ record { actor = by; command = (said work v tail).command } ∷ [])
one_own work by number tail v is h = own_pushed work.lines (record { actor = by; command = (said work v tail).command }) h (λ label says. fresh_label work number tail v label is.none says)

none_own : HasOwnLabels []
none_own [] line after label split says = absurd (cc)
none_own (b ∷ before) line after label split says = absurd (cc)

pub text_labels : (size : ℕ) (text : List ℕ) → first_fault size text ≡ None → HasOwnLabels (spelled text).lines
text_labels = lines_keep HasOwnLabels one_own none_own
