-- Clean contents in the order of their use.
use Rattle.std.specs.Prelude.{ℕ, ◌+◌, ◌-◌, ◌^◌, ◌≡◌, ◌||◌, ◌==◌, List, [], ◌∷◌, Bool, nat_lt, nat_le, unwrap_or, fold, length, min, reverse, sum_by, if◌then◌else◌}
use Rattle.std.specs.Map.{keys_of, values_of, lookup, remove_entry}
use Rattle.fl_digest.specs.declared.BlobRef.{BlobRef}
use Rattle.fl_digest.specs.declared.Hash.{Hash}
use Rattle.fl_digest.specs.Reference.{reference_of, same_reference}
use Rattle.cache_node.specs.declared.content.Held.{Held}

-- a reference is the digest of these bytes
abbrev pub Names : BlobRef → List ℕ → Type 0
Names reference bytes = (hash : Hash) × (reference ≡ reference_of hash bytes)

-- a content that nobody has pinned
abbrev pub unpinned : List ℕ → Held
unpinned bytes = record { bytes = bytes; pins = 0 }

-- a content with one pin more; the last count stays
abbrev pub pinned : Held → Held
pinned held = record { bytes = held.bytes; pins = min (held.pins + 1) (2 ^ 64 - 1) }

-- a content with one pin less, where it has one; the last count stays
abbrev pub released : Held → Held
released held = record {
  bytes = held.bytes;
  pins = (if held.pins == 2 ^ 64 - 1 then held.pins else held.pins - 1);
}

-- whether a content is pinned
abbrev pub is_pinned : Held → Bool
is_pinned held = nat_lt 0 held.pins

-- the bytes of a content that count for the limit
abbrev pub unpinned_size : Held → ℕ
unpinned_size held = if is_pinned held then 0 else length held.bytes

-- the bytes of the entries that aren't pinned
abbrev pub unpinned_bytes : List (BlobRef × Held) → ℕ
unpinned_bytes entries = sum_by unpinned_size (values_of entries)

-- entries, the most recently used first, after one was used
abbrev pub used : BlobRef → Held → List (BlobRef × Held) → List (BlobRef × Held)
used reference held entries = (reference, held) ∷ remove_entry (same_reference reference) entries

-- the same where the content may be new
abbrev pub filled : BlobRef → List ℕ → List (BlobRef × Held) → List (BlobRef × Held)
filled reference bytes entries =
    used reference (unwrap_or (lookup (same_reference reference) entries) (unpinned bytes)) entries

-- whether an entry stays before these, which were used after it: where it is pinned, or its bytes
-- and the unpinned ones of these are within the limit
abbrev pub stays_within : ℕ → BlobRef × Held → List (BlobRef × Held) → Bool
stays_within limit entry later =
    is_pinned entry.1 || nat_le (length entry.1.bytes + unpinned_bytes later) limit

-- the entries that stay, of some with the least recently used first
unfoldable pub staying : (BlobRef × Held → List (BlobRef × Held) → Bool)
    → List (BlobRef × Held) → List (BlobRef × Held)
staying stays [] = []
staying stays (entry ∷ later) =
    if stays entry later then entry ∷ staying stays later else staying stays later

-- and those that don't
unfoldable pub leaving : (BlobRef × Held → List (BlobRef × Held) → Bool)
    → List (BlobRef × Held) → List (BlobRef × Held)
leaving stays [] = []
leaving stays (entry ∷ later) =
    if stays entry later then leaving stays later else entry ∷ leaving stays later

-- what stays of entries, the most recently used first
abbrev pub remaining : (BlobRef × Held → List (BlobRef × Held) → Bool)
    → List (BlobRef × Held) → List (BlobRef × Held)
remaining stays entries = reverse (staying stays (reverse entries))

-- the references of those that don't stay, the least recently used first
abbrev pub dropped : (BlobRef × Held → List (BlobRef × Held) → Bool)
    → List (BlobRef × Held) → List BlobRef
dropped stays entries = keys_of (leaving stays (reverse entries))

-- entries without those under these references
abbrev pub without : List BlobRef → List (BlobRef × Held) → List (BlobRef × Held)
without references entries = fold (λ es r. remove_entry (same_reference r) es) entries references
