-- Blobs that are added behind those of a store.
use Rattle.std.proofs.Common.{◌≡◌, ℕ, true, false, cond, List, [], ◌∷◌, ◌++◌, Option, Some, None, refl, sym, ap, ◌∙◌, subst, append_assoc, append-nil}
use Rattle.std.specs.Option.{option_map_or}
use Rattle.std.proofs.lemmas.Slice.Eq.{bytes_eq-Decides}
use Rattle.fl_digest.specs.declared.BlobRef.{BlobRef}
use Rattle.fl_digest.specs.declared.Digest.{Digest}
use Rattle.fl_digest.specs.declared.Digest.TheVariants as digest
use Rattle.fl_digest.specs.Reference.{same_digest, same_reference}
use Rattle.blob_store.specs.Blobs.{blob_at, stored}
use Rattle.tree_store.specs.Fresh.{Blobs, AreNew}

-- the first of two that is there
abbrev pub either : Option (List ℕ) → Option (List ℕ) → Option (List ℕ)
either (Some bytes) other = Some bytes
either None other = other

pub at_append : (r : BlobRef) (xs ys : Blobs) → blob_at r (xs ++ ys) ≡ either (blob_at r xs) (blob_at r ys)
at_append r [] ys = refl
at_append r (x ∷ xs) ys =
    elim (same_reference r x.0) as (λ b. cond b (Some x.1) (blob_at r (xs ++ ys)) ≡ either (cond b (Some x.1) (blob_at r xs)) (blob_at r ys)) [
      | true ↦ refl
      | false ↦ at_append r xs ys
    ]

self_digest : (d : Digest) → same_digest d d ≡ true
self_digest (digest.Sha1 bytes) = (bytes_eq-Decides bytes bytes).1 refl
self_digest (digest.Sha256 bytes) = (bytes_eq-Decides bytes bytes).1 refl

last_found : (r : BlobRef) (xs : Blobs) (bytes : List ℕ) → blob_at r xs ≡ None → blob_at r (xs ++ (r, bytes) ∷ []) ≡ Some bytes
last_found r xs bytes none =
    at_append r xs ((r, bytes) ∷ [])
    ∙ ap (λ (o : Option (List ℕ)). either o (blob_at r ((r, bytes) ∷ []))) none
    ∙ ap (λ b. cond b (Some bytes) None) (self_digest r.digest)

pub found_behind : (r : BlobRef) (store more : Blobs) (bytes : List ℕ) → blob_at r (store ++ more) ≡ None → blob_at r (store ++ (more ++ (r, bytes) ∷ [])) ≡ Some bytes
found_behind r store more bytes none = ap (blob_at r) (sym (append_assoc store more ((r, bytes) ∷ []))) ∙ last_found r (store ++ more) bytes none

pub stored_behind : (r : BlobRef) (store more : Blobs) (bytes : List ℕ) → blob_at r (store ++ more) ≡ None → store ++ (more ++ (r, bytes) ∷ []) ≡ stored (store ++ more) r bytes
stored_behind r store more bytes none =
    sym (append_assoc store more ((r, bytes) ∷ []))
    ∙ sym (ap (λ (o : Option (List ℕ)). option_map_or (λ kept. store ++ more) o ((store ++ more) ++ (r, bytes) ∷ [])) none)

pub stored_there : (r : BlobRef) (blobs : Blobs) (kept bytes : List ℕ) → blob_at r blobs ≡ Some kept → blobs ≡ stored blobs r bytes
stored_there r blobs kept bytes some = sym (ap (λ (o : Option (List ℕ)). option_map_or (λ kept. blobs) o (blobs ++ (r, bytes) ∷ [])) some)

pub new_last : (store more : Blobs) (blob : BlobRef × List ℕ) → AreNew store more → blob_at blob.0 (store ++ more) ≡ None → AreNew store (more ++ blob ∷ [])
new_last store [] blob new none = (subst (λ (xs : Blobs). blob_at blob.0 xs ≡ None) (append-nil store) none, tt)
new_last store (x ∷ more) blob new none = (new.0, new_last (store ++ x ∷ []) more blob new.1 (subst (λ (xs : Blobs). blob_at blob.0 xs ≡ None) (sym (append_assoc store (x ∷ []) more)) none))

behind_free : (o other : Option (List ℕ)) → either o other ≡ None → other ≡ None
behind_free None other e = e
behind_free (Some bytes) other e = absurd (cc)

pub free_behind : (r : BlobRef) (store more : Blobs) → blob_at r (store ++ more) ≡ None → blob_at r more ≡ None
free_behind r store more none = behind_free (blob_at r store) (blob_at r more) (sym (at_append r store more) ∙ none)

pub stored_new : (blobs : Blobs) (r : BlobRef) (bytes : List ℕ) → blob_at r blobs ≡ None → stored blobs r bytes ≡ blobs ++ (r, bytes) ∷ []
stored_new blobs r bytes none = ap (λ (o : Option (List ℕ)). option_map_or (λ kept. blobs) o (blobs ++ (r, bytes) ∷ [])) none
