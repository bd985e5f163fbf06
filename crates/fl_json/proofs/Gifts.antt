-- What a text is read as, from what becomes of its numbers.
use Rattle.std.proofs.Common.{◌≡◌, ℕ, List, Option, Some, None, refl, sym, ap, ◌∙◌, subst, inl, inr}
use Rattle.std.specs.Prelude.{Result, Ok, Err, IsErrAnd}
use Rattle.std.specs.Option.{ok_or}
use Rattle.std.specs.Str.{IsUtf8, is_utf8}
use Rattle.std.proofs.lemmas.Bool.{cases_Bool}
use Rattle.std.proofs.lemmas.Str.{IsUtf8-from_is_utf8, is_utf8-from_IsUtf8}
use Rattle.outcomes.specs.Outcomes.{Fails, Gives}
use Rattle.serde_json.specs.Data.{Data}
use Rattle.serde_json.specs.Read.{read}
use Rattle.fl_json.specs.Numbers.{first_bad_number, rewritten}
use Rattle.fl_json.specs.Reading.{json_value, unless_bad, reading, lasting}
use Rattle.fl_json.specs.declared.faults.JsonFault.{JsonFault}
use Rattle.fl_json.specs.declared.faults.JsonFault.TheVariants.{NoMemory, BadNumber, NotJson, Missing, WrongKind}

-- what hands on a fault
pub err_gives : {X Y : Type 0} (seen : X → Y) (r : Result X JsonFault) (e : JsonFault) (found : Result Y JsonFault) → IsErrAnd r (λ x. x ≡ e) → Fails lasting e found → Gives lasting seen r found
err_gives seen (Ok x) e found is h = absurd is
err_gives seen (Err x) e found is h = subst (λ y. Fails lasting y found) (sym is) h

fails_along : (o : Option ℕ) (t : List ℕ) (next : Result Data JsonFault) (e : JsonFault) → Fails lasting e (unless_bad o (Ok t)) → Fails lasting e (unless_bad o next)
fails_along o t next NoMemory h = tt
fails_along (Some place) t next (BadNumber p) h = cc
fails_along None t next (BadNumber p) h = cc
fails_along (Some place) t next NotJson h = cc
fails_along None t next NotJson h = cc
fails_along (Some place) t next Missing h = cc
fails_along None t next Missing h = cc
fails_along (Some place) t next WrongKind h = cc
fails_along None t next WrongKind h = cc

-- a fault of the numbers is the fault of the text
pub bad_reading : (text : List ℕ) (e : JsonFault) → Fails lasting e (unless_bad (first_bad_number text) (Ok (rewritten text))) → Fails lasting e (reading text)
unfolding reading
bad_reading text e h = fails_along (first_bad_number text) (rewritten text) _ e h

by_value : (o : Option ℕ) (r t : List ℕ) (next : Result Data JsonFault) (end : Result Data JsonFault) → unless_bad o (Ok r) ≡ Ok t → (r ≡ t → next ≡ end) → unless_bad o next ≡ end
by_value (Some place) r t next end h f = cc
by_value None r t next end h f = f cc

-- without a bad number the text is read as the text in which numbers are whole
pub good_reading : (text t : List ℕ) (found : Option Data) → unless_bad (first_bad_number text) (Ok (rewritten text)) ≡ Ok t → json_value t ≡ found → reading text ≡ ok_or found NotJson
unfolding reading
good_reading text t found h e = by_value (first_bad_number text) (rewritten text) t _ _ h (λ same. ap (λ x. ok_or (json_value x) NotJson) same ∙ ap (λ o. ok_or o NotJson) e)

pub value_of_text : (t : List ℕ) (found : Option Data) → IsUtf8 t → read t ≡ found → json_value t ≡ found
value_of_text t found h e = rw (is_utf8-from_IsUtf8 t h) e

pub no_value_of_text : (t : List ℕ) → (IsUtf8 t → read t ≡ None) → json_value t ≡ None
no_value_of_text t h = elim (cases_Bool (is_utf8 t)) [ inl is ↦ value_of_text t None (IsUtf8-from_is_utf8 t is) (h (IsUtf8-from_is_utf8 t is)) | inr is ↦ rw is refl ]

-- where numbers are whole none is bad
pub no_bad : (o : Option ℕ) (r t : List ℕ) → unless_bad o (Ok r) ≡ Ok t → (o ≡ None) × (r ≡ t)
no_bad None r t h = (refl, cc)
no_bad (Some place) r t h = cc
