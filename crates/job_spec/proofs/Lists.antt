-- Lists of values, and what is made of each of their elements.
use Rattle.std.proofs.Common.{◌≡◌, ℕ, List, [], ◌∷◌, ◌++◌, drop, refl, sym, ap, ◌∙◌}
use Rattle.std.specs.Prelude.{map, Option, Some, None, option_map, option_and_then, Result, Ok, Err, IsErrAnd}
use Rattle.std.specs.Option.{ok_or}
use Rattle.outcomes.specs.Outcomes.{Finds}
use Rattle.serde_json.specs.Data.{Data}
use Rattle.serde_json.specs.Find.{get, as_array}
use Rattle.serde_json.specs.View.{view, items_view}
use Rattle.serde_json.specs.declared.value.Value.{Value}
use Rattle.job_spec.specs.declared.faults.Place.{Place}
use Rattle.job_spec.specs.declared.faults.SpecFault.{SpecFault}
use Rattle.job_spec.specs.declared.faults.SpecFault.TheVariants.{BadField}
use Rattle.job_spec.specs.Fields.{each, list_of, as_any, as_list, of_kind, field}

-- the values of a list
list_is : (vs : List Value) → list_of (items_view vs) ≡ map view vs
list_is [] = refl
list_is (v ∷ vs) = ap (λ ds. view v ∷ ds) (list_is vs)

pub elements_are : (place : Place) (d : Data) (vs : List Value) → Some (items_view vs) ≡ as_array d → of_kind as_list place d ≡ Ok (map view vs)
elements_are place d vs h = ap (λ ds. ok_or (option_map list_of ds) (BadField place)) (sym h) ∙ ap Ok (list_is vs)

-- what is made so far, in front of what is made of the rest
abbrev pub with_front : {B : Type 0} → List B → Result (List B) SpecFault → Result (List B) SpecFault
with_front done (Ok ys) = Ok (done ++ ys)
with_front done (Err e) = Err e

-- what is made of the values from this place on, behind what is made so far
abbrev pub so_far : {B : Type 0} → (Data → Result B SpecFault) → List B → List Value → ℕ → Result (List B) SpecFault
so_far f done vs i = with_front done (each f (map view (drop i vs)))

-- ---- fields

missing_at : {Y : Type 0} (kind : Data → Option Y) (place : Place) (found : Option Data) (e : SpecFault) → ok_or (option_and_then as_any found) (BadField place) ≡ Err e → ok_or (option_and_then kind found) (BadField place) ≡ Err e
missing_at kind place None e h = let same : BadField place ≡ e = cc in ap Err same
missing_at kind place (Some d) e h = cc

-- a field that isn't there is there in no kind
pub missing : {Y : Type 0} (kind : Data → Option Y) (place : Place) (key : List ℕ) (d : Data) (e : SpecFault) → field as_any place key d ≡ Err e → field kind place key d ≡ Err e
missing kind place key d e h = missing_at kind place (get key d) e h

present_at : {Y : Type 0} (kind : Data → Option Y) (place : Place) (found : Option Data) (v : Data) → ok_or (option_and_then as_any found) (BadField place) ≡ Ok v → ok_or (option_and_then kind found) (BadField place) ≡ of_kind kind place v
present_at kind place None v h = cc
present_at kind place (Some d) v h = cc

-- a field that is there is of a kind where its value is
pub present : {Y : Type 0} (kind : Data → Option Y) (place : Place) (key : List ℕ) (d v : Data) → field as_any place key d ≡ Ok v → field kind place key d ≡ of_kind kind place v
present kind place key d v h = present_at kind place (get key d) v h

-- the fault of another call, handed on
pub err_finds : {X Y : Type 0} (seen : X → Y) (r : Result X SpecFault) (e : SpecFault) (found : Result Y SpecFault) → IsErrAnd r (λ x. x ≡ e) → found ≡ Err e → Finds seen r found
err_finds seen (Ok x) e found is h = absurd is
err_finds seen (Err x) e found is h = h ∙ ap Err (sym is)
