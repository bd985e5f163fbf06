-- What stands in a table before and after blobs are added.
use Rattle.std.proofs.Common.{◌≡◌, ℕ, true, false, cond, true≢false, List, [], ◌∷◌, ◌++◌, Option, Some, None, refl, sym, ap, ◌∙◌, subst, append-nil, inl, inr}
use Rattle.std.specs.Prelude.{Contains, Result, Ok, Err, IsErrAnd, ◌⊎◌}
use Rattle.std.specs.List.{AllByRecursion}
use Rattle.std.proofs.lemmas.Slice.Eq.{bytes_eq-Decides}
use Rattle.fl_digest.specs.declared.BlobRef.{BlobRef}
use Rattle.fl_digest.specs.declared.Hash.{Hash}
use Rattle.fl_digest.specs.declared.Digest.{Digest}
use Rattle.fl_digest.specs.declared.Digest.TheVariants as digest
use Rattle.fl_digest.specs.Reference.{reference_of, same_digest, same_reference}
use Rattle.kvs_txn.specs.declared.answers.Refusal.{Refusal}
use Rattle.kvs_model.specs.Store.{Store}
use Rattle.blob_store.specs.Blobs.{blob_at}
use Rattle.tree_rules.specs.Held.{Adds, Keeps, IsRootOf}
use Rattle.tree_rules.specs.Texts.{blobs}
use Rattle.tree_store.specs.Fresh.{Blobs, AddsSome, IsPart}
use Rattle.tree_store.specs.Landing.{table, AddsAtMost, Leaves}
use Rattle.tree_store.specs.declared.faults.TreeFault.{TreeFault}
use Rattle.tree_store.specs.declared.faults.TreeFault.TheVariants.{NoMemory}
use Rattle.tree_store.proofs.Adding.{either, at_append}

pub none_added : (h : Hash) (before : Blobs) (wanted : Result Store Refusal) → AddsAtMost h before before wanted
none_added h before (Ok st) = (record { kept = λ reference bytes e. e; only = λ reference bytes e. inl e }, [], sym (append-nil before))
none_added h before (Err refusal) = refl

pub keeps_append : (before more : Blobs) → Keeps (table before) (table (before ++ more))
keeps_append before more reference bytes e = at_append reference before more ∙ ap (λ (o : Option (List ℕ)). either o (blob_at reference more)) e

-- ---- blobs of a store that are added

abbrev made : Digest → BlobRef
made d = record { digest = d }

digests_same : (a b : Digest) → same_digest a b ≡ true → a ≡ b
digests_same (digest.Sha1 a) (digest.Sha1 b) e = ap digest.Sha1 ((bytes_eq-Decides a b).0 e)
digests_same (digest.Sha1 a) (digest.Sha256 b) e = absurd (true≢false (sym e))
digests_same (digest.Sha256 a) (digest.Sha1 b) e = absurd (true≢false (sym e))
digests_same (digest.Sha256 a) (digest.Sha256 b) e = ap digest.Sha256 ((bytes_eq-Decides a b).0 e)

references_same : (a b : BlobRef) → same_reference a b ≡ true → a ≡ b
references_same a b e = ap made (digests_same a.digest b.digest e)

abbrev IsAdded : Hash → List (List ℕ) → BlobRef × List ℕ → Type 0
IsAdded h allowed blob = Contains allowed blob.1 × (blob.0 ≡ reference_of h blob.1)

some_bytes : (a b : List ℕ) → Some a ≡ Some b → a ≡ b
some_bytes a b e = cc

found_added : (h : Hash) (allowed : List (List ℕ)) (more : Blobs) (reference : BlobRef) (bytes : List ℕ) → AllByRecursion (IsAdded h allowed) more → blob_at reference more ≡ Some bytes
    → Contains allowed bytes × (reference ≡ reference_of h bytes)
found_added h allowed [] reference bytes all e = absurd (cc)
found_added h allowed (blob ∷ more) reference bytes all e =
    elim (same_reference reference blob.0) as (λ b. same_reference reference blob.0 ≡ b → cond b (Some blob.1) (blob_at reference more) ≡ Some bytes → Contains allowed bytes × (reference ≡ reference_of h bytes)) [
      | true ↦ λ same f. (
          let is : blob.1 ≡ bytes = some_bytes blob.1 bytes f in
          (subst (Contains allowed) is all.0.0, references_same reference blob.0 same ∙ all.0.1 ∙ ap (reference_of h) is))
      | false ↦ λ same f. found_added h allowed more reference bytes all.1 f
    ] refl e

pub found_only : (h : Hash) (st : Store) (before more : Blobs) (reference : BlobRef) (bytes : List ℕ) (o : Option (List ℕ)) → AllByRecursion (IsAdded h (blobs h st)) more → blob_at reference before ≡ o
    → either o (blob_at reference more) ≡ Some bytes → (blob_at reference before ≡ Some bytes) ⊎ (Contains (blobs h st) bytes × (reference ≡ reference_of h bytes))
found_only h st before more reference bytes (Some kept) all is e = inl (is ∙ e)
found_only h st before more reference bytes None all is e = inr (found_added h (blobs h st) more reference bytes all e)

pub adds_more : (h : Hash) (st : Store) (before more : Blobs) → AllByRecursion (IsAdded h (blobs h st)) more → Adds h st (table before) (table (before ++ more))
adds_more h st before more all = record {
  kept = keeps_append before more;
  only = λ reference bytes e. found_only h st before more reference bytes (blob_at reference before) all refl (sym (at_append reference before more) ∙ e);
}

first_added : (P : BlobRef × List ℕ → Type 0) (first rest : Blobs) → AllByRecursion P (first ++ rest) → AllByRecursion P first
first_added P [] rest all = tt
first_added P (blob ∷ first) rest all = (all.0, first_added P first rest all.1)

-- the first of them alone
pub adds_part : (h : Hash) (st : Store) (before more after : Blobs) → AllByRecursion (IsAdded h (blobs h st)) more → IsPart before more after → AddsAtMost h before after (Ok st)
adds_part h st before more after all part =
    let first : AllByRecursion (IsAdded h (blobs h st)) part.0 = first_added (IsAdded h (blobs h st)) part.0 part.1 (subst (AllByRecursion (IsAdded h (blobs h st))) part.2 all) in
    (subst (λ (xs : Blobs). Adds h st (table before) (table xs)) (sym part.3) (adds_more h st before part.0 first), part.0, part.3)

-- ---- what is left, by the result

all_added : (h : Hash) (st : Store) (more : Blobs) → AddsSome h (blobs h st) [] more → AllByRecursion (IsAdded h (blobs h st)) more
all_added h st more adds = subst (AllByRecursion (IsAdded h (blobs h st))) (sym adds.1) adds.2

pub leaves_root : (h : Hash) (st : Store) (before more after : Blobs) (root : BlobRef) → AddsSome h (blobs h st) [] more → IsRootOf h (table (before ++ more)) root st → after ≡ before ++ more → Leaves h before after (Ok st) (Ok root)
leaves_root h st before more after root adds is put = (
  st,
  refl,
  subst (λ (xs : Blobs). IsRootOf h (table xs) root st) (sym put) is,
  (subst (λ (xs : Blobs). Adds h st (table before) (table xs)) (sym put) (adds_more h st before more (all_added h st more adds)), more, put),
)

wants_memory : (h : Hash) (before after : Blobs) (wanted : Result Store Refusal) (fault : TreeFault) → AddsAtMost h before after wanted → fault ≡ NoMemory → Leaves h before after wanted (Err fault)
wants_memory h before after wanted fault adds is = subst (λ (f : TreeFault). Leaves h before after wanted (Err f)) (sym is) adds

pub leaves_part : (h : Hash) (st : Store) (before more after : Blobs) (result : Result BlobRef TreeFault) → AddsSome h (blobs h st) [] more → IsPart before more after → IsErrAnd result (λ fault. fault ≡ NoMemory) → Leaves h before after (Ok st) result
leaves_part h st before more after (Ok root) adds part want = absurd want
leaves_part h st before more after (Err fault) adds part want = wants_memory h before after (Ok st) fault (adds_part h st before more after (all_added h st more adds) part) want
