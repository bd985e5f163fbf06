-- What an operation does at the path that it is led to.
use Rattle.std.proofs.Common.{◌≡◌, ℕ, ◌<◌, List, [], ◌∷◌, ◌++◌, length, Option, Some, None, Ok, Err, IfOk, refl, sym, ap, ◌∙◌, subst, arith, append-nil}
use Rattle.kvs_txn.specs.declared.answers.Cause.{Cause}
use Rattle.kvs_txn.specs.declared.answers.Cause.TheVariants as cause
use Rattle.kvs_txn.specs.declared.txn.Author.{Author}
use Rattle.kvs_txn.specs.declared.txn.Op.{Op}
use Rattle.kvs_txn.specs.declared.txn.Scope.{Scope}
use Rattle.kvs_model.specs.Operation.{appended, op_effect, effect_from_key, effect_at, key_of, unless_refused, first_cause, refusals, changed}
use Rattle.kvs_model.specs.Store.{Path, Node, Value, Directory, Link, Store}
use Rattle.kvs_model.specs.Walk.{resolved}
use Rattle.kvs_model.proofs.Sound.{IsBelowRoot, resolved_below}
use Rattle.tree_rules.specs.Held.{IsStorable}
use Rattle.tree_store.proofs.Storable.{IsNamed, resolved_named}

-- ---- from the key on

from_root : (st : Store) (who : Author) (space : Scope) (o : Op) (key : Path) → length key ≡ 0 → effect_from_key st who space o key ≡ Err cause.RootOp
from_root st who space o [] e = refl
from_root st who space o (n ∷ key) e = absurd (omega arith)

from_below : (st : Store) (who : Author) (space : Scope) (o : Op) (key : Path) → 0 < length key → effect_from_key st who space o key ≡ effect_at st who space o (resolved st key)
from_below st who space o [] e = absurd (omega arith)
from_below st who space o (n ∷ key) e = refl

pub op_root : (st : Store) (who : Author) (space : Scope) (o : Op) (key : Path) → key ≡ key_of o → length key ≡ 0 → op_effect st who space o ≡ Err cause.RootOp
unfolding op_effect
op_root st who space o key k e = ap (effect_from_key st who space o) (sym k) ∙ from_root st who space o key e

op_below : (st : Store) (who : Author) (space : Scope) (o : Op) (key : Path) → key ≡ key_of o → 0 < length key → op_effect st who space o ≡ effect_at st who space o (resolved st key)
unfolding op_effect
op_below st who space o key k e = ap (effect_from_key st who space o) (sym k) ∙ from_below st who space o key e

pub op_nowhere : (st : Store) (who : Author) (space : Scope) (o : Op) (key : Path) (why : Cause) → key ≡ key_of o → 0 < length key → resolved st key ≡ Err why → op_effect st who space o ≡ Err why
op_nowhere st who space o key why k e f = op_below st who space o key k e ∙ ap (effect_at st who space o) f

module _ (st : Store) (who : Author) (space : Scope) (o : Op) (key at : Path) (named : key ≡ key_of o) (below : 0 < length key) (leads : resolved st key ≡ Ok at) where
  op_at : op_effect st who space o ≡ unless_refused (first_cause (refusals st who space o at)) (changed st o at)
  op_at = op_below st who space o key named below ∙ ap (effect_at st who space o) leads

  pub op_refused : (why : Cause) → Some why ≡ first_cause (refusals st who space o at) → op_effect st who space o ≡ Err why
  op_refused why r = op_at ∙ ap (λ (c : Option Cause). unless_refused c (changed st o at)) (sym r)

  pub op_done : None ≡ first_cause (refusals st who space o at) → op_effect st who space o ≡ Ok (changed st o at)
  op_done r = op_at ∙ ap (λ (c : Option Cause). unless_refused c (changed st o at)) (sym r)

-- ---- the path where it works

below_long : (p : Path) → IsBelowRoot p → 0 < length p
unfolding IsBelowRoot
below_long [] h = absurd h
below_long (x ∷ p) h = omega arith

pub leads_below : (st : Store) (key at : Path) → 0 < length key → resolved st key ≡ Ok at → 0 < length at
leads_below st [] at some leads = absurd (omega arith)
leads_below st (x ∷ key) at some leads = below_long at (subst (λ r. IfOk r IsBelowRoot) leads (resolved_below st x key))

pub leads_named : (st : Store) (key at : Path) → IsStorable st → IsNamed key → resolved st key ≡ Ok at → IsNamed at
leads_named st key at all named leads = resolved_named st key at all named leads

-- ---- values

pub appended_more : (o : Option Node) (bytes : List ℕ) → appended o [] ++ bytes ≡ appended o bytes
appended_more None bytes = refl
appended_more (Some (Value old)) bytes = ap (λ (b : List ℕ). b ++ bytes) (append-nil old)
appended_more (Some Directory) bytes = refl
appended_more (Some (Link target)) bytes = refl
