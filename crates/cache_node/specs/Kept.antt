-- What the sums beside the clean contents keep.
use Rattle.std.specs.Prelude.{ℕ, ◌≡◌, List, length, sum_by}
use Rattle.std.specs.List.{IsDistinct, AllByRecursion}
use Rattle.std.specs.Map.{keys_of, values_of}
use Rattle.fl_digest.specs.declared.BlobRef.{BlobRef}
use Rattle.fl_digest.specs.Reference.{same_reference}
use Rattle.cache_node.specs.declared.content.Held.{Held}
use Rattle.cache_node.specs.Order.{Names, unpinned_bytes}

-- each reference once and the digest of its bytes, and the sums of all bytes and of the unpinned
-- ones
pub record IsKept (entries : List (BlobRef × Held)) (total loose : ℕ) : Type 0 where
  pub once : IsDistinct same_reference (keys_of entries)
  pub named : AllByRecursion (λ e. Names e.0 e.1.bytes) entries
  pub total_sum : total ≡ sum_by (λ h. length h.bytes) (values_of entries)
  pub loose_sum : loose ≡ unpinned_bytes entries
