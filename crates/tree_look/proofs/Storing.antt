-- A store that holds all of a root has what its walks need.
use Rattle.std.proofs.Common.{◌≡◌, ℕ, zero, List, [], ◌∷◌, ◌++◌, Option, Some, None, sym, ap, ◌∙◌, subst, refl, arith}
use Rattle.std.specs.Prelude.{Contains}
use Rattle.std.proofs.lemmas.List.Elements.{Contains-append_right}
use Rattle.fl_digest.specs.declared.BlobRef.{BlobRef}
use Rattle.fl_digest.specs.declared.Hash.{Hash}
use Rattle.kvs_txn.specs.declared.answers.Query.{Query}
use Rattle.kvs_model.specs.OneStore.{own_walk}
use Rattle.kvs_model.specs.Store.{Path, Store}
use Rattle.tree_rules.specs.Held.{IsRootOf, Table}
use Rattle.tree_rules.specs.OneStore.{own_needs}
use Rattle.tree_rules.proofs.Blobs.{own_blob}
use Rattle.tree_look.specs.Looks.{Misses, Reads}

pub read-there : (hash : Hash) (st : Store) (root : BlobRef) (texts : Table) → IsRootOf hash texts root st → Reads hash st root texts
read-there hash st root texts holds = record { table = texts; holds = holds; agrees = λ reference bytes e. e }

there : (before behind : List BlobRef) (r : BlobRef) → Contains (before ++ r ∷ behind) r
there before behind r = Contains-append_right before (r ∷ behind) r (zero, omega arith, refl)

pub needs-nothing : (hash : Hash) (st : Store) (root : BlobRef) (texts : Table) (asked : Query) (path : Path) (old new : List BlobRef) (r : BlobRef)
    → IsRootOf hash texts root st → Misses texts (own_needs hash st asked path) old new r → ⊥
needs-nothing hash st root texts asked path old new r holds misses =
    let needed : Contains (own_needs hash st asked path) r = subst (λ (rs : List BlobRef). Contains rs r) (sym misses.parts) (there misses.before misses.behind r) in
    let blob = own_blob hash st asked path r needed in
    let kept : texts r ≡ Some blob.0 = ap texts blob.2 ∙ holds.held blob.0 blob.1 in
    let bad : ◌≡◌ {A = Option (List ℕ)} None (Some blob.0) = sym misses.missing ∙ kept in
    absurd (cc)
