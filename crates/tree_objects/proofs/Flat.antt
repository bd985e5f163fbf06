-- On directories in which no directory is, and which are read again.
use Rattle.std.proofs.Common.{◌≡◌, ℕ, ◌<◌, ◌≤◌, ◌*◌, ◌/◌, ◌%◌, lit≤, true, List, [], ◌∷◌, length, Option, Some, None, inl, inr, codes, refl, sym, ap, ◌∙◌, subst, arith}
use Rattle.std.specs.Prelude.{IsTrue, slice_index_or}
use Rattle.std.specs.FinMap.Entries as finite
use Rattle.std.specs.List.{All, AllPass}
use Rattle.std.proofs.lemmas.List.Elements.{All-cons, All-head, All-nil, All-tail}
use Rattle.std.proofs.lemmas.List.{append_cancel_left}
use Rattle.fl_digest.specs.declared.BlobRef.{BlobRef}
use Rattle.fl_digest.specs.declared.Digest.{Digest}
use Rattle.fl_digest.specs.declared.Digest.TheVariants as digest
use Rattle.fl_digest.specs.Reference.{hex_digit, hex_text, digest_text, reference_text, is_lower_digit, AreBytes, IsReferenceText, IsWhole, IsWholeDigest}
use Rattle.serde_json.specs.Data.{depth, members_depth}
use Rattle.serde_json.specs.Read.{max_depth}
use Rattle.kvs_model.specs.Store.{Name, Path}
use Rattle.tree_rules.specs.Objects.{Tree, dir, symlink, Entries, entries_of, listed, tree_data, entries_data}
use Rattle.tree_rules.specs.Names.{name_cmp}
use Rattle.tree_objects.specs.Reading.{IsReadable, AreReadable, IsFlat}

abbrev Small : ℕ → Type 0
Small b = b < 256

-- ---- a reference whose text is one is whole

high_digit : (d : ℕ) → is_lower_digit (hex_digit d) ≡ true → d < 16
high_digit d h = grind (arith)

small_byte : (b : ℕ) → b / 16 < 16 → b < 256
small_byte b h = omega (arith, h)

bytes_of_digits : (xs : List ℕ) → AllPass is_lower_digit (hex_text xs) → All Small xs
bytes_of_digits [] h = All-nil Small
bytes_of_digits (x ∷ xs) h =
    let p = λ (c : ℕ). is_lower_digit c ≡ true in
    let tail = All-tail p (hex_digit (x / 16)) (hex_digit (x % 16) ∷ hex_text xs) h in
    All-cons Small x xs (small_byte x (high_digit (x / 16) (All-head p (hex_digit (x / 16)) (hex_digit (x % 16) ∷ hex_text xs) h))) (bytes_of_digits xs (All-tail p (hex_digit (x % 16)) (hex_text xs) tail))

two_each : (xs : List ℕ) → length (hex_text xs) ≡ 2 * length xs
two_each [] = refl
two_each (x ∷ xs) = let e = two_each xs in omega (arith, e)

whole_bytes : (n : ℕ) (xs digits : List ℕ) → hex_text xs ≡ digits → length digits ≡ 2 * n → AllPass is_lower_digit digits → AreBytes n xs
whole_bytes n xs digits same len pass =
    let l : length (hex_text xs) ≡ 2 * n = ap length same ∙ len in
    let t = two_each xs in
    (omega (arith, l, t), bytes_of_digits xs (subst (AllPass is_lower_digit) (sym same) pass))

whole_digest : (d : Digest) → IsReferenceText (digest_text d) → IsWholeDigest d
whole_digest (digest.Sha1 x) (inl p) = whole_bytes 20 x p.0 (append_cancel_left (codes "sha1-") (hex_text x) p.0 p.1) p.2 p.3
whole_digest (digest.Sha1 x) (inr p) = let fourth : 49 ≡ 50 = ap (λ (l : List ℕ). slice_index_or l 3 0) p.1 in absurd (omega (arith, fourth))
whole_digest (digest.Sha256 x) (inl p) = let fourth : 50 ≡ 49 = ap (λ (l : List ℕ). slice_index_or l 3 0) p.1 in absurd (omega (arith, fourth))
whole_digest (digest.Sha256 x) (inr p) = whole_bytes 32 x p.0 (append_cancel_left (codes "sha256-") (hex_text x) p.0 p.1) p.2 p.3

pub whole_reference : (text : List ℕ) (r : BlobRef) → text ≡ reference_text r → IsReferenceText text → IsWhole r
whole_reference text r same h = whole_digest r.digest (subst IsReferenceText same h)

-- a link stands in few levels
pub link_shallow : (path : Path) (namespace : Option Name) → depth (tree_data (symlink (record { path = path; namespace = namespace }))) ≤ 2
link_shallow path None = lit≤ tt
link_shallow path (Some name) = lit≤ tt

-- what is left of a directory's entries, none of which is a directory
pub record AreFlat (rest : List (Name × Tree)) : Type 0 where
  pub readable : AreReadable (entries_of rest)
  pub shallow : members_depth (entries_data (entries_of rest)) ≤ 2

pub none_flat : (rest : List (Name × Tree)) → rest ≡ [] → AreFlat rest
none_flat [] e = record { readable = tt; shallow = lit≤ tt }
none_flat (r ∷ rest) e = cc

pub more_flat : (rest : List (Name × Tree)) (m : Name) (t : Tree) (more : List (Name × Tree)) → rest ≡ (m, t) ∷ more → IsFlat t → AreFlat more → AreFlat rest
more_flat rest m t more is one h = subst AreFlat (sym is) (record { readable = (one.readable, h.readable); shallow = omega (arith, one.shallow, h.shallow) })

pub readable_directory : (es : Entries) → IsTrue (finite.is_sorted name_cmp (listed es)) → AreFlat (listed es) → entries_of (listed es) ≡ es → IsReadable (dir es)
readable_directory es sorted h same = (sorted, subst AreReadable same h.readable)

pub shallow_directory : (es : Entries) → AreFlat (listed es) → entries_of (listed es) ≡ es → depth (tree_data (dir es)) ≤ max_depth
shallow_directory es h same =
    let flat : members_depth (entries_data es) ≤ 2 = subst (λ (l : Entries). members_depth (entries_data l) ≤ 2) same h.shallow in
    omega (arith, flat)
