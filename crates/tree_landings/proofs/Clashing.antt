-- Blobs that clash are refused.
use Rattle.std.proofs.Common.{◌≡◌, ◌≢◌, ℕ, List, Bool, true, false, true≢false, Some, None, Ok, Err, inl, inr, refl, sym, ap, ◌∙◌, subst, bytes_eq}
use Rattle.std.specs.Prelude.{Option, Contains, ◌⊎◌}
use Rattle.std.specs.Cmp.Lexicographic.{bytes_decides}
use Rattle.fl_digest.specs.declared.BlobRef.{BlobRef}
use Rattle.fl_digest.specs.Reference.{reference_of}
use Rattle.kvs_txn.specs.declared.txn.Txn.{Txn}
use Rattle.kvs_model.specs.Operation.{effect}
use Rattle.kvs_model.specs.Store.{Name, Store}
use Rattle.kvs_rules.specs.Brokers.{IsContent}
use Rattle.kvs_rules.specs.Landings.{Clashes, IsBrought, IsRefusal, clash}
use Rattle.kvs_rules.specs.Log.{Log}
use Rattle.kvs_rules.specs.Namespaces.{Setting, scope_of}
use Rattle.tree_rules.specs.Held.{Holds, IsClash, IsRootOf}
use Rattle.tree_rules.specs.Texts.{blobs}
use Rattle.tree_store.specs.Landing.{Leaves, table}
use Rattle.tree_store.specs.declared.faults.TreeFault.TheVariants.{Clash}
use Rattle.tree_landings.specs.Applied.{AreContents, Blobs}

abbrev Bytes : Type 0
Bytes = List ℕ

same-bytes : (x y : Bytes) → Some x ≡ Some y → x ≡ y
same-bytes x y e = cc

module _ (set : Setting) (log : Log) (space : Name) (before : Blobs) (st new : Store) (txn : Txn) (held : Holds set.hash (table before) st) (contents : AreContents set log before) where
  Brought : Bytes → Type 0
  Brought bytes = IsBrought set.hash txn st new bytes

  -- what the table has otherwise is no blob of the old store
  brought : (bytes : Bytes) (found : Option Bytes) → table before (reference_of set.hash bytes) ≡ found → found ≢ Some bytes → Contains (blobs set.hash new) bytes → Brought bytes
  unfolding Brought
  brought bytes found is other among = inr (among, λ old. other (sym is ∙ held bytes old))

  -- a blob of the new store is brought, or stands in the table
  either : (bytes : Bytes) → Contains (blobs set.hash new) bytes → (table before (reference_of set.hash bytes) ≡ Some bytes) ⊎ Brought bytes
  either bytes among = by (table before (reference_of set.hash bytes)) refl
    where
      by : (found : Option Bytes) → table before (reference_of set.hash bytes) ≡ found → (table before (reference_of set.hash bytes) ≡ Some bytes) ⊎ Brought bytes
      by None is = inr (brought bytes None is (λ e. cc) among)
      by (Some x) is = apart (bytes_eq x bytes) refl
        where
          apart : (b : Bool) → bytes_eq x bytes ≡ b → (table before (reference_of set.hash bytes) ≡ Some bytes) ⊎ Brought bytes
          apart true e = inl (is ∙ ap (λ (y : Bytes). Some y) ((bytes_decides x bytes).0 e))
          apart false e = inr (brought bytes (Some x) is (λ s. true≢false (sym ((bytes_decides x bytes).1 (same-bytes x bytes s)) ∙ e)) among)

  clashing : effect st txn (scope_of space) ≡ Ok new → (offered kept : Bytes) → kept ≢ offered → Brought offered → IsContent set log kept ⊎ Brought kept
      → reference_of set.hash kept ≡ reference_of set.hash offered → Clashes set log space st txn
  unfolding Brought
  clashing made offered kept differ brings other shared = record {
    new = new;
    made = made;
    offered = offered;
    kept = kept;
    differ = differ;
    brought = brings;
    other = other;
    shared = shared;
  }

  -- the table has other bytes under the reference
  of-table : effect st txn (scope_of space) ≡ Ok new → (reference : BlobRef) (kept offered : Bytes) → kept ≢ offered → Contains (blobs set.hash new) offered → reference ≡ reference_of set.hash offered
      → table before reference ≡ Some kept → Clashes set log space st txn
  of-table made reference kept offered differ among named there =
      let is = contents reference kept there in
      let here : table before (reference_of set.hash offered) ≡ Some kept = subst (λ r. table before r ≡ Some kept) named there in
      clashing made offered kept differ (brought offered (Some kept) here (λ s. differ (same-bytes kept offered s)) among) (inl is.1) (sym is.0 ∙ named)

  -- both are blobs of the new store
  of-both : effect st txn (scope_of space) ≡ Ok new → (kept offered : Bytes) → kept ≢ offered → Contains (blobs set.hash new) offered → Contains (blobs set.hash new) kept
      → reference_of set.hash kept ≡ reference_of set.hash offered → Clashes set log space st txn
  of-both made kept offered differ one other shared = elim (either offered one) [
    | inl there ↦
        let here : table before (reference_of set.hash kept) ≡ Some offered = subst (λ r. table before r ≡ Some offered) (sym shared) there in
        clashing made kept offered (λ e. differ (sym e)) (brought kept (Some offered) here (λ s. differ (sym (same-bytes offered kept s))) other) (inl (contents _ offered there).1) (sym shared)
    | inr brings ↦ clashing made offered kept differ brings (elim (either kept other) [
      | inl there ↦ inl (contents _ kept there).1
      | inr too ↦ inr too
    ]) shared
  ]

pub refused-so : (set : Setting) (log : Log) (space : Name) (before after : Blobs) (root : BlobRef) (st : Store) (txn : Txn) (reference : BlobRef) (kept offered : Bytes)
    → IsRootOf set.hash (table before) root st → AreContents set log before
    → Leaves set.hash before after (effect st txn (scope_of space)) (Err (Clash reference kept offered)) → IsRefusal set log space st txn clash
refused-so set log space before after root st txn reference kept offered rooted contents left =
    let clashes : IsClash set.hash left.0 (table before) reference kept offered = left.2 in
    inr (
      refl,
      elim clashes.other [
        | inl there ↦ of-table set log space before st left.0 txn rooted.held contents left.1 reference kept offered clashes.differ clashes.blob clashes.named there
        | inr both ↦ of-both set log space before st left.0 txn rooted.held contents left.1 kept offered clashes.differ clashes.blob both.0 (sym both.1 ∙ clashes.named)
      ],
    )
