-- Faults that are handed on.
use Rattle.std.proofs.Common.{◌≡◌, ◌<◌, ℕ, List, true, false, refl, sym, ap, subst}
use Rattle.std.specs.Prelude.{Result, Ok, Err, IsErrAnd, is_some}
use Rattle.std.specs.Str.{IsUtf8}
use Rattle.outcomes.specs.Outcomes.{Fails, Gives}
use Rattle.serde_json.specs.Data.{Data, depth}
use Rattle.serde_json.specs.Read.{max_depth}
use Rattle.serde_json.specs.Data as json
use Rattle.serde_json.specs.Find.{as_object}
use Rattle.serde_json.specs.Written.{compact_text}
use Rattle.fl_json.specs.Reading.{lasting as lasting_json}
use Rattle.fl_json.specs.declared.faults.JsonFault.{JsonFault}
use Rattle.fl_json.specs.declared.faults.JsonFault.TheVariants.{NoMemory, BadNumber, NotJson, Missing, WrongKind}
use Rattle.fl_json.specs.Valid.{IsValid}
use Rattle.event_log.specs.Events.{◌>>=◌, object_text, IsObjectText}

-- a fault that is found
pub fails_from : {T : Type 0} (e : JsonFault) (found : Result T JsonFault) → found ≡ Err e → Fails lasting_json e found
fails_from NoMemory found h = tt
fails_from (BadNumber place) found h = h
fails_from NotJson found h = h
fails_from Missing found h = h
fails_from WrongKind found h = h

-- what hands on a fault
pub err_gives : {X Y : Type 0} (seen : X → Y) (r : Result X JsonFault) (e : JsonFault) (found : Result Y JsonFault) → IsErrAnd r (λ x. x ≡ e) → Fails lasting_json e found → Gives lasting_json seen r found
err_gives seen (Ok x) e found is h = absurd is
err_gives seen (Err x) e found is h = subst (λ y. Fails lasting_json y found) (sym is) h

-- a fault of one step is the fault of all
pub fails_then : {A B : Type 0} (e : JsonFault) (found : Result A JsonFault) (next : A → Result B JsonFault) → Fails lasting_json e found → Fails lasting_json e (found >>= next)
fails_then NoMemory found next h = tt
fails_then (BadNumber place) found next h = ap (λ r. r >>= next) h
fails_then NotJson found next h = ap (λ r. r >>= next) h
fails_then Missing found next h = ap (λ r. r >>= next) h
fails_then WrongKind found next h = ap (λ r. r >>= next) h

-- the text of what is an object
pub object_text_is : (d : Data) → is_some (as_object d) ≡ true → object_text d ≡ Ok (compact_text d)
object_text_is json.null h = cc
object_text_is (json.boolean b) h = cc
object_text_is (json.number n) h = cc
object_text_is (json.string s) h = cc
object_text_is (json.array ds) h = cc
object_text_is (json.object ms) h = refl

pub no_object_text : (d : Data) → is_some (as_object d) ≡ false → object_text d ≡ Err WrongKind
no_object_text json.null h = refl
no_object_text (json.boolean b) h = refl
no_object_text (json.number n) h = refl
no_object_text (json.string s) h = refl
no_object_text (json.array ds) h = refl
no_object_text (json.object ms) h = cc

-- the text of a valid object
pub is_object_text : (d : Data) (t : List ℕ) → is_some (as_object d) ≡ true → IsValid d → t ≡ compact_text d → IsUtf8 t → depth d < max_depth → IsObjectText t
is_object_text json.null t h v e u n = cc
is_object_text (json.boolean b) t h v e u n = cc
is_object_text (json.number k) t h v e u n = cc
is_object_text (json.string s) t h v e u n = cc
is_object_text (json.array ds) t h v e u n = cc
is_object_text (json.object ms) t h v e u n = record { members = ms; valid = v; is = e; utf8 = u; nests = n }
