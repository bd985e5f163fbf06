-- The reference of a byte string has a whole digest.
use Rattle.std.proofs.Common.{ℕ, zero, suc, List}
use Rattle.std.specs.Prelude.{slice_index}
use Rattle.std.specs.List.{All}
use Rattle.std.specs.Int.{w32, to_be_bytes}
use Rattle.std.proofs.lemmas.List.Elements.{All-append}
use Rattle.sha2.specs.Sha256.{digest_bytes, sha256}
use Rattle.sha2.proofs.Facts256.{length-sha256}
use Rattle.fl_digest.specs.declared.Hash.{Hash}
use Rattle.fl_digest.specs.declared.Hash.TheVariants as hash
use Rattle.fl_digest.specs.Reference.{reference_of, IsWhole}
use Rattle.tree_store.proofs.Sha1.{Small, none_small, word_small, sha1_length, sha1_small}

small : (h : List ℕ) (n : ℕ) → All Small (digest_bytes h n)
unfolding digest_bytes
small h zero = none_small
small h (suc n) = All-append Small (digest_bytes h n) (to_be_bytes w32 (slice_index h n)) (small h n) (word_small 4 (slice_index h n))

sha256_small : (m : List ℕ) → All Small (sha256 m)
unfolding sha256
sha256_small m = small _ 8

pub reference_whole : (h : Hash) (bytes : List ℕ) → IsWhole (reference_of h bytes)
unfolding reference_of
reference_whole hash.Sha1 bytes = (sha1_length bytes, sha1_small bytes)
reference_whole hash.Sha256 bytes = (length-sha256 bytes, sha256_small bytes)
