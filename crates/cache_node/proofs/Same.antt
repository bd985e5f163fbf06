-- References are compared as they are.
use Rattle.std.proofs.Common.{rules, ◌≡◌, true, false, refl, sym, ap, ◌∙◌, subst}
use Rattle.std.specs.Cmp.{IsEquivalence}
use Rattle.std.proofs.lemmas.Slice.Eq.{bytes_eq-Decides}
use Rattle.fl_digest.specs.declared.Digest.{Digest}
use Rattle.fl_digest.specs.declared.Digest.TheVariants as digest
use Rattle.fl_digest.specs.declared.BlobRef.{BlobRef}
use Rattle.fl_digest.specs.contracts.BlobRefPartialEq.TheImpl.{eq-value as derived}
use Rattle.fl_digest.specs.Reference.{same_digest, same_reference}

same_digest_refl : (a : Digest) → same_digest a a ≡ true
same_digest_refl (digest.Sha1 x) = (bytes_eq-Decides x x).1 refl
same_digest_refl (digest.Sha256 x) = (bytes_eq-Decides x x).1 refl

same_digest_true : (a b : Digest) → same_digest a b ≡ true → a ≡ b
same_digest_true (digest.Sha1 x) (digest.Sha1 y) h = ap digest.Sha1 ((bytes_eq-Decides x y).0 h)
same_digest_true (digest.Sha1 x) (digest.Sha256 y) h = cc
same_digest_true (digest.Sha256 x) (digest.Sha1 y) h = cc
same_digest_true (digest.Sha256 x) (digest.Sha256 y) h = ap digest.Sha256 ((bytes_eq-Decides x y).0 h)

pub same_refl : (a : BlobRef) → same_reference a a ≡ true
same_refl a = same_digest_refl a.digest

pub same_true : (a b : BlobRef) → same_reference a b ≡ true → a ≡ b
same_true a b h = ap (λ (d : Digest). record { digest = d }) (same_digest_true a.digest b.digest h)

-- either answer, where each gives the other's
same_symm : (a b : BlobRef) → same_reference a b ≡ same_reference b a
same_symm a b = (elim (same_reference a b) as (λ v. same_reference a b ≡ v → same_reference a b ≡ same_reference b a) [
  | true ↦ λ t. subst (λ (c : BlobRef). same_reference a c ≡ same_reference c a) (same_true a b t) refl
  | false ↦ λ t. (elim (same_reference b a) as (λ v. same_reference b a ≡ v → same_reference a b ≡ same_reference b a) [
    | true ↦ λ u. subst (λ (c : BlobRef). same_reference c b ≡ same_reference b c) (same_true b a u) refl
    | false ↦ λ u. t ∙ sym u
  ]) refl
]) refl

pub same_laws : IsEquivalence same_reference
same_laws = record {
  refl = same_refl;
  symm = same_symm;
  congr = λ x y z h. ap (λ (a : BlobRef). same_reference a z) (same_true x y h);
}

-- the comparison that `==` of references is
pub derived_same : (a b : BlobRef) → derived.it a b ≡ same_reference a b
derived_same a b = search rules

pub derived_is : derived.it ≡ same_reference
derived_is = λ i a b. derived_same a b i
