use Rattle.std.proofs.Common.{◌≡◌, ℕ, ◌+◌, ◌-◌, ◌∙◌, List, length, map, ap, sym, subst, arith}
use Rattle.std.specs.Prelude.{None}
use Rattle.outcomes.specs.Outcomes.{Faults, first_of, or_else}
use Rattle.idset.specs.Ranges.{ids_in}
use Rattle.idset.specs.Text.{first_fault, spelled, body, body_place, items, range_of, faults_in, end_faults, lasting}
use Rattle.idset.specs.declared.faults.IdFault.{IdFault}
use Rattle.idset.specs.declared.faults.IdFault.TheVariants as fault
use Rattle.idset.proofs.Readings.{err_reads}
use Rattle.idset.proofs.set.IdSet.read.Goals as goal

-- the items' faults, where what was read of the text is its body
item_faults_are : (text inner : List ℕ) (end : ℕ) → inner ≡ body text → end ≡ body_place text + length (body text) → faults_in (end - length inner) (items inner) ≡ faults_in (body_place text) (items (body text))
item_faults_are text inner end e f =
    let place : end - length inner ≡ body_place text = omega (arith, ap length e, f) in
    ap (λ n. faults_in n (items inner)) place ∙ ap (λ t. faults_in (body_place text) (items t)) e

in_items : (text : List ℕ) (e : IdFault) → Faults lasting e (faults_in (body_place text) (items (body text))) → Faults lasting e (first_fault text)
unfolding first_fault
in_items text fault.NoMemory h = tt
in_items text e h = ap (λ f. or_else f (first_of (end_faults text))) h

at_end : (text : List ℕ) (e : IdFault) → faults_in (body_place text) (items (body text)) ≡ None → Faults lasting e (first_of (end_faults text)) → Faults lasting e (first_fault text)
unfolding first_fault
at_end text e none h = subst (Faults lasting e) (sym (ap (λ f. or_else f (first_of (end_faults text))) none)) h

no_fault : (text : List ℕ) → faults_in (body_place text) (items (body text)) ≡ None → first_of (end_faults text) ≡ None → first_fault text ≡ None
unfolding first_fault
no_fault text none last = ap (λ f. or_else f (first_of (end_faults text))) none ∙ last

is_spelled : (text inner : List ℕ) → inner ≡ body text → ids_in (map range_of (items inner)) ≡ spelled text
unfolding spelled
is_spelled text inner e = ap (λ t. ids_in (map range_of (items t))) e

pub returns-in_err-ranges : goal.returns-in_err-ranges
returns-in_err-ranges c =
    let text = c.args.text.now in
    let e = c.in_err-ranges.field-0.0 in
    err_reads c.from_residual.result e _ _ c.from_residual.ensures.1 (in_items text e (subst (Faults lasting e) (item_faults_are text c.inside-end.result.0.now c.inside-end.result.1 c.inside-end.ensures.body c.inside-end.ensures.end) c.in_err-ranges.ensures))

pub returns-in_err-close : goal.returns-in_err-close
returns-in_err-close c =
    let text = c.args.text.now in
    let e = c.in_err-close.field-0.0 in
    err_reads c.from_residual-in_err-close.result e _ _ c.from_residual-in_err-close.ensures.1 (at_end text e (sym (item_faults_are text c.inside-end.result.0.now c.inside-end.result.1 c.inside-end.ensures.body c.inside-end.ensures.end) ∙ c.in_ok-ranges.ensures.0) c.in_err-close.ensures)

pub returns : goal.returns
returns c =
    let text = c.args.text.now in (
      no_fault text (sym (item_faults_are text c.inside-end.result.0.now c.inside-end.result.1 c.inside-end.ensures.body c.inside-end.ensures.end) ∙ c.in_ok-ranges.ensures.0) c.in_ok-close.ensures.0,
      c.in_ok-set.ensures ∙ ap ids_in c.in_ok-ranges.ensures.1.0 ∙ is_spelled text c.inside-end.result.0.now c.inside-end.ensures.body,
    )
