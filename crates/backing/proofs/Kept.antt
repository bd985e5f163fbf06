-- What one more write keeps.
use Rattle.std.proofs.Common.{◌≡◌, ℕ, ◌<◌, ◌+◌, ◌++◌, ◌∷◌, [], List, Some, length, get_or, take, refl, sym, ap, ◌∙◌}
use Rattle.std.specs.Prelude.{unwrap_or}
use Rattle.std.proofs.lemmas.List.{take_more}
use Rattle.fl_digest.specs.declared.BlobRef.{BlobRef}
use Rattle.backing.specs.declared.Check.{Check}
use Rattle.backing.specs.declared.Write.{Write}
use Rattle.backing.specs.declared.Write.TheVariants.{Put, Mark}
use Rattle.backing.specs.Writes.{check_in}

pub check_behind_mark : (writes : List Write) (check : Check) → check_in (writes ++ Mark check ∷ []) ≡ Some check
check_behind_mark [] check = refl
check_behind_mark (Put reference bytes ∷ writes) check = check_behind_mark writes check
check_behind_mark (Mark other ∷ writes) check = ap (λ o. Some (unwrap_or o other)) (check_behind_mark writes check)

pub check_behind_put : (writes : List Write) (reference : BlobRef) (bytes : List ℕ) → check_in (writes ++ Put reference bytes ∷ []) ≡ check_in writes
check_behind_put [] reference bytes = refl
check_behind_put (Put other more ∷ writes) reference bytes = check_behind_put writes reference bytes
check_behind_put (Mark other ∷ writes) reference bytes = ap (λ o. Some (unwrap_or o other)) (check_behind_put writes reference bytes)

pub mark_next : (writes : List Write) (i : ℕ) (write : Write) (check : Check) → i < length writes → write ≡ get_or writes i write → write ≡ Mark check → check_in (take (i + 1) writes) ≡ Some check
mark_next writes i write check h e is = ap check_in (take_more writes i write h ∙ ap (λ w. take i writes ++ w ∷ []) (sym e ∙ is)) ∙ check_behind_mark (take i writes) check

pub put_next : (writes : List Write) (i : ℕ) (write : Write) (reference : BlobRef) (bytes : List ℕ) → i < length writes → write ≡ get_or writes i write → write ≡ Put reference bytes → check_in (take (i + 1) writes) ≡ check_in (take i writes)
put_next writes i write reference bytes h e is = ap check_in (take_more writes i write h ∙ ap (λ w. take i writes ++ w ∷ []) (sym e ∙ is)) ∙ check_behind_put (take i writes) reference bytes
