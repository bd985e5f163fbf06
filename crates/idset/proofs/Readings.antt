-- Answers of readers.
use Rattle.std.proofs.Common.{◌≡◌, ℕ, ◌+◌, List, [], ◌∷◌, length, subst, ap, sym, ◌∙◌}
use Rattle.std.specs.Prelude.{Option, None, Result, Ok, Err, IsErrAnd}
use Rattle.outcomes.specs.Outcomes.{Faults, Reads, first_of, or_else}
use Rattle.idset.specs.Text.{item_faults, faults_in, lasting}
use Rattle.idset.specs.declared.faults.IdFault.{IdFault}
use Rattle.idset.specs.declared.faults.IdFault.TheVariants as fault

-- what hands on a fault
pub err_reads : {X : Type 0} (r : Result X IdFault) (e : IdFault) (f : Option IdFault) (P : X → Type 0) → IsErrAnd r (λ x. x ≡ e) → Faults lasting e f → Reads lasting f P r
err_reads (Ok x) e f P is h = absurd is
err_reads (Err x) e f P is h = subst (λ y. Faults lasting y f) (sym is) h

-- the same reading by another name of the first fault and of the value
pub Reads-along : {X : Type 0} (f g : Option IdFault) (P Q : X → Type 0) (r : Result X IdFault) → f ≡ g → ((x : X) → P x → Q x) → Reads lasting f P r → Reads lasting g Q r
Reads-along f g P Q (Ok x) same to h = (sym same ∙ h.0, to x h.1)
Reads-along f g P Q (Err e) same to h = subst (Faults lasting e) same h

-- a fault of the first item is the first one
pub fault_here : (place : ℕ) (item : List ℕ) (all more : List (List ℕ)) (e : IdFault) → all ≡ item ∷ more → Faults lasting e (first_of (item_faults place item)) → Faults lasting e (faults_in place all)
fault_here place item all more fault.NoMemory cut h = tt
fault_here place item all more e cut h = ap (faults_in place) cut ∙ ap (λ f. or_else f (faults_in (place + length item + 1) more)) h

-- where the first item has no fault, the first fault is behind it
pub fault_behind : (place next : ℕ) (item : List ℕ) (all more : List (List ℕ)) → all ≡ item ∷ more → place + length item + 1 ≡ next → first_of (item_faults place item) ≡ None → faults_in place all ≡ faults_in next more
fault_behind place next item all more cut at none = ap (faults_in place) cut ∙ ap (λ f. or_else f (faults_in (place + length item + 1) more)) none ∙ ap (λ n. faults_in n more) at

pub fault_last : (place : ℕ) (item : List ℕ) (all : List (List ℕ)) → all ≡ item ∷ [] → first_of (item_faults place item) ≡ None → faults_in place all ≡ None
fault_last place item all cut none = ap (faults_in place) cut ∙ ap (λ f. or_else f None) none
