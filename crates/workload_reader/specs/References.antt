-- Texts of references to contents (Flux RFC 10): the name of a hash, a dash, and two digits in
-- lower case for each byte.
use Rattle.std.specs.Prelude.{ℕ, ◌+◌, ◌-◌, ◌*◌, ◌==◌, ◌&&◌, ◌||◌, nat_lt, List, [], ◌∷◌, Bool, codes, drop, take, length, if◌then◌else◌}
use Rattle.std.specs.List.{list_all}
use Rattle.std.specs.Str.{bytes_eq}
use Rattle.fl_digest.specs.Reference.{is_lower_digit}
use Rattle.fl_digest.specs.declared.BlobRef.{BlobRef}
use Rattle.fl_digest.specs.declared.Digest.TheVariants as digest

-- the number of a digit in lower case
abbrev pub digit_of : ℕ → ℕ
digit_of c = if nat_lt c 58 then c - 48 else c - 87

-- the bytes that pairs of digits write
abbrev pub bytes_of : List ℕ → List ℕ
bytes_of [] = []
bytes_of (high ∷ []) = []
bytes_of (high ∷ low ∷ digits) = (digit_of high * 16 + digit_of low) ∷ bytes_of digits

-- whether a text is this name, and behind it so many digits
abbrev pub has_digits : List ℕ → ℕ → List ℕ → Bool
has_digits name count text = bytes_eq (take (length name) text) name
    && (length text == length name + count) && list_all is_lower_digit (drop (length name) text)

abbrev pub is_sha1 : List ℕ → Bool
is_sha1 text = has_digits (codes "sha1-") 40 text

abbrev pub is_sha256 : List ℕ → Bool
is_sha256 text = has_digits (codes "sha256-") 64 text

-- whether a text is a reference's
abbrev pub is_reference : List ℕ → Bool
is_reference text = is_sha1 text || is_sha256 text

-- the reference of a text
abbrev pub reference_of : List ℕ → BlobRef
reference_of text = if is_sha1 text then record { digest = digest.Sha1 (bytes_of (drop 5 text)) }
    else record { digest = digest.Sha256 (bytes_of (drop 7 text)) }
