-- The root of the store that landings leave.
use Rattle.std.proofs.Common.{◌≡◌, ◌∙◌, List, [], ◌∷◌, ◌++◌, Bor, flat_map, map, ap, ap₂, refl, sym, true≢false}
use Rattle.std.specs.Prelude.{ℕ, Err, IsSome, None, Ok, Option, Result, Some}
use Rattle.fl_digest.specs.declared.BlobRef.{BlobRef}
use Rattle.fl_digest.specs.declared.Hash.{Hash}
use Rattle.kvs_txn.specs.declared.answers.Refusal.{Refusal}
use Rattle.kvs_txn.specs.declared.txn.Author.TheVariants as author
use Rattle.kvs_txn.specs.declared.txn.Group.{Group}
use Rattle.kvs_txn.specs.declared.txn.Scope.TheVariants as scope
use Rattle.kvs_txn.specs.declared.txn.Txn.{Txn}
use Rattle.kvs_model.specs.Store.{Store}
use Rattle.kvs_model.specs.Operation.{effect, ops_effect}
use Rattle.kvs_model.specs.History.{first_store}
use Rattle.tree_rules.specs.Texts.{root_reference}
use Rattle.summaries.specs.Roots.{ops_of, store_left}
use Rattle.summaries.proofs.InOneStep.{landings_joined}

-- the operations of landings, whether their lists are lent or not
pub ops_lent : (landings : List (Bor (List Group))) → flat_map (λ groups. ops_of groups.now) landings ≡ flat_map ops_of (map (λ groups. groups.now) landings)
ops_lent [] = refl
ops_lent (groups ∷ landings) = ap (λ rest. ops_of groups.now ++ rest) (ops_lent landings)

-- the manager's one transaction leaves the store that the landings leave
pub joined_effect : (grant : List ℕ) (landings : List (Bor (List Group))) (txn : Txn) (st : Store) → txn.author ≡ author.Manager → txn.ops ≡ flat_map (λ groups. ops_of groups.now) landings → store_left grant (map (λ groups. groups.now) landings) ≡ Some st → effect (first_store grant) txn scope.Primary ≡ Ok st
joined_effect grant landings txn st who ops left =
    ap₂ (λ a o. ops_effect a scope.Primary 1 o (first_store grant)) who (ops ∙ ops_lent landings)
    ∙ landings_joined scope.Primary 1 (map (λ groups. groups.now) landings) (first_store grant) st left

some_of : (left : Option Store) → IsSome left → (st : Store) × (left ≡ Some st)
some_of None h = absurd (true≢false (sym h))
some_of (Some st) h = (st, refl)

-- it isn't refused
pub never_refused : (grant : List ℕ) (landings : List (Bor (List Group))) (txn : Txn) (begun : Store) (refusal : Refusal) → txn.author ≡ author.Manager → txn.ops ≡ flat_map (λ groups. ops_of groups.now) landings → IsSome (store_left grant (map (λ groups. groups.now) landings)) → ◌≡◌ {A = Result Store Refusal} (Ok (first_store grant)) (Ok begun) → effect begun txn scope.Primary ≡ Err refusal → ⊥
never_refused grant landings txn begun refusal who ops left start refused =
    let made = some_of (store_left grant (map (λ groups. groups.now) landings)) left in
    let e : effect (first_store grant) txn scope.Primary ≡ Ok made.0 = joined_effect grant landings txn made.0 who ops made.1 in
    cc

-- its root is that of the store that the landings leave
pub root_is : (hash : Hash) (grant : List ℕ) (landings : List (Bor (List Group))) (txn : Txn) (st begun made : Store) (root : BlobRef) → txn.author ≡ author.Manager → txn.ops ≡ flat_map (λ groups. ops_of groups.now) landings → store_left grant (map (λ groups. groups.now) landings) ≡ Some st → ◌≡◌ {A = Result Store Refusal} (Ok (first_store grant)) (Ok begun) → effect begun txn scope.Primary ≡ Ok made → root ≡ root_reference hash made → root ≡ root_reference hash st
root_is hash grant landings txn st begun made root who ops left start done is =
    let e : effect (first_store grant) txn scope.Primary ≡ Ok st = joined_effect grant landings txn st who ops left in
    let same : made ≡ st = cc in
    is ∙ ap (root_reference hash) same
