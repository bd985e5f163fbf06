-- Landings as one transaction of the manager's.
use Rattle.std.proofs.Common.{◌≡◌, ◌∙◌, ℕ, ◌+◌, Bool, true, false, List, [], ◌∷◌, ◌++◌, length, flat_map, Option, Some, None, Result, Ok, Err, option_and_then, ap, refl}
use Rattle.kvs_txn.specs.declared.answers.Cause.{Cause}
use Rattle.kvs_txn.specs.declared.answers.Cause.TheVariants as cause
use Rattle.kvs_txn.specs.declared.answers.Refusal.{Refusal}
use Rattle.kvs_txn.specs.declared.txn.Author.{Author}
use Rattle.kvs_txn.specs.declared.txn.Author.TheVariants as author
use Rattle.kvs_txn.specs.declared.txn.Group.{Group}
use Rattle.kvs_txn.specs.declared.txn.Op.{Op}
use Rattle.kvs_txn.specs.declared.txn.Scope.{Scope}
use Rattle.kvs_model.specs.Store.{Path, Store}
use Rattle.kvs_model.specs.Walk.{resolved}
use Rattle.kvs_model.specs.Operation.{and_then, appends_to_directory, appends_to_link, effect, effect_at, effect_from_key, enters_full_directory, first_cause, is_reserved, key_of, op_effect, ops_effect, overfills_value, then_rest, unless_refused}
use Rattle.kvs_model.specs.History.{after, after_groups, landed_on}
use Rattle.kvs_model.proofs.Sound.{ops_effect-append}
use Rattle.summaries.specs.Roots.{ops_of}

-- an operation that five tests let pass passes where two of them are left out
five : (r a b v d : Bool) (new made : Store) → unless_refused (first_cause ((cause.Reserved, r) ∷ (cause.IsDir, a) ∷ (cause.IsLink, b) ∷ (cause.ValueFull, v) ∷ (cause.DirFull, d) ∷ [])) made ≡ Ok new → unless_refused (first_cause ((cause.Reserved, false) ∷ (cause.IsDir, a) ∷ (cause.IsLink, b) ∷ (cause.ValueFull, false) ∷ (cause.DirFull, d) ∷ [])) made ≡ Ok new
five true a b v d new made e = cc
five false true b v d new made e = e
five false false true v d new made e = e
five false false false true d new made e = cc
five false false false false d new made e = e

-- what a user may do, the manager may do as well
op_manager : (who : Author) (space : Scope) (operation : Op) (st new : Store) → op_effect st who space operation ≡ Ok new → op_effect st author.Manager space operation ≡ Ok new
unfolding op_effect
op_manager author.Manager space operation st new e = e
op_manager (author.User id) space operation st new e = from (key_of operation) e
  where
    at_ : (where_ : Result Path Cause) → effect_at st (author.User id) space operation where_ ≡ Ok new → effect_at st author.Manager space operation where_ ≡ Ok new
    at_ (Err why) e = e
    at_ (Ok at) e = five (is_reserved (author.User id) space at) (appends_to_directory st operation at) (appends_to_link st operation at) (overfills_value st (author.User id) operation at) (enters_full_directory st operation at) new _ e

    from : (key : Path) → effect_from_key st (author.User id) space operation key ≡ Ok new → effect_from_key st author.Manager space operation key ≡ Ok new
    from [] e = e
    from (name ∷ rest) e = at_ (resolved st (name ∷ rest)) e

ops_manager : (who : Author) (space : Scope) (n m : ℕ) (ops : List Op) (st new : Store) → ops_effect who space n ops st ≡ Ok new → ops_effect author.Manager space m ops st ≡ Ok new
ops_manager who space n m [] st new e = e
ops_manager who space n m (operation ∷ ops) st new e = by (λ mid h. ops_manager who space (n + 1) (m + 1) ops mid new h) (op_effect st who space operation) refl e
  where
    by : ((mid : Store) → ops_effect who space (n + 1) ops mid ≡ Ok new → ops_effect author.Manager space (m + 1) ops mid ≡ Ok new) → (made : Result Store Cause) → op_effect st who space operation ≡ made → then_rest n made (λ mid. ops_effect who space (n + 1) ops mid) ≡ Ok new → then_rest m (op_effect st author.Manager space operation) (λ mid. ops_effect author.Manager space (m + 1) ops mid) ≡ Ok new
    by again (Ok mid) is e = ap (λ r. then_rest m r (λ mid'. ops_effect author.Manager space (m + 1) ops mid')) (op_manager who space operation st mid is) ∙ again mid e
    by again (Err why) is e = cc

-- more operations, on what some made
then_more : (space : Scope) (m : ℕ) (ops more : List Op) (st mid new : Store) → ops_effect author.Manager space m ops st ≡ Ok mid → ops_effect author.Manager space (m + length ops) more mid ≡ Ok new → ops_effect author.Manager space m (ops ++ more) st ≡ Ok new
then_more space m ops more st mid new e g =
    ops_effect-append author.Manager space m ops more st
    ∙ ap (λ r. and_then r (λ s. ops_effect author.Manager space (m + length ops) more s)) e
    ∙ g

groups_joined : (space : Scope) (m : ℕ) (groups : List Group) (st new : Store) → after_groups space groups st ≡ Some new → ops_effect author.Manager space m (ops_of groups) st ≡ Ok new
groups_joined space m [] st new e = cc
groups_joined space m (group ∷ groups) st new e = by (λ mid h. groups_joined space (m + length group.txn.ops) groups mid new h) (effect st group.txn space) refl e
  where
    by : ((mid : Store) → after_groups space groups mid ≡ Some new → ops_effect author.Manager space (m + length group.txn.ops) (ops_of groups) mid ≡ Ok new) → (made : Result Store Refusal) → effect st group.txn space ≡ made → option_and_then (λ mid. after_groups space groups mid) (landed_on made) ≡ Some new → ops_effect author.Manager space m (group.txn.ops ++ ops_of groups) st ≡ Ok new
    by again (Ok mid) is e = then_more space m group.txn.ops (ops_of groups) st mid new (ops_manager group.txn.author space 1 m group.txn.ops st mid is) (again mid e)
    by again (Err refusal) is e = cc

-- the operations of landings one behind another leave the store that the landings leave
pub landings_joined : (space : Scope) (m : ℕ) (landings : List (List Group)) (st new : Store) → after space landings (length landings) st ≡ Some new → ops_effect author.Manager space m (flat_map ops_of landings) st ≡ Ok new
landings_joined space m [] st new e = cc
landings_joined space m (groups ∷ landings) st new e = by (λ mid h. landings_joined space (m + length (ops_of groups)) landings mid new h) (after_groups space groups st) refl e
  where
    by : ((mid : Store) → after space landings (length landings) mid ≡ Some new → ops_effect author.Manager space (m + length (ops_of groups)) (flat_map ops_of landings) mid ≡ Ok new) → (made : Option Store) → after_groups space groups st ≡ made → option_and_then (λ mid. after space landings (length landings) mid) made ≡ Some new → ops_effect author.Manager space m (ops_of groups ++ flat_map ops_of landings) st ≡ Ok new
    by again (Some mid) is e = then_more space m (ops_of groups) (flat_map ops_of landings) st mid new (groups_joined space m groups st mid is) (again mid e)
    by again None is e = cc
