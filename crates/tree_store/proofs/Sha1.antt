-- A digest by SHA-1 has 20 bytes.
use Rattle.std.proofs.Common.{◌≡◌, ℕ, zero, suc, ◌*◌, ◌<◌, ◌/◌, ◌^◌, List, [], length, refl, arith, length-append}
use Rattle.std.specs.Prelude.{slice_index}
use Rattle.std.specs.List.{All}
use Rattle.std.specs.Int.{w32, to_be_bytes, bytes_high_first, byte_at}
use Rattle.std.proofs.lemmas.List.Elements.{All-append, All-cons}
use Rattle.std.proofs.lemmas.Nat.{mod_below}
use Rattle.sha1.specs.Sha1.{digest_bytes, sha1}

abbrev pub Small : ℕ → Type 0
Small b = b < 256

byte_small : (i n : ℕ) → Small (byte_at i n)
byte_small zero n = mod_below n 256 (omega arith)
byte_small (suc i) n = mod_below (n / 256 ^ suc i) 256 (omega arith)

pub none_small : All Small []
none_small k d w = absurd (omega (arith, w))

pub word_small : (k n : ℕ) → All Small (bytes_high_first k n)
word_small zero n = none_small
word_small (suc k) n = All-cons Small (byte_at k n) (bytes_high_first k n) (byte_small k n) (word_small k n)

count : (h : List ℕ) (n : ℕ) → length (digest_bytes h n) ≡ n * 4
unfolding digest_bytes
count h zero = refl
count h (suc n) =
    let last : length (to_be_bytes w32 (slice_index h n)) ≡ 4 = refl in
    omega (arith, count h n, last, length-append (digest_bytes h n) (to_be_bytes w32 (slice_index h n)))

small : (h : List ℕ) (n : ℕ) → All Small (digest_bytes h n)
unfolding digest_bytes
small h zero = none_small
small h (suc n) = All-append Small (digest_bytes h n) (to_be_bytes w32 (slice_index h n)) (small h n) (word_small 4 (slice_index h n))

pub sha1_length : (m : List ℕ) → length (sha1 m) ≡ 20
unfolding sha1
sha1_length m = count _ 5

pub sha1_small : (m : List ℕ) → All Small (sha1 m)
unfolding sha1
sha1_small m = small _ 5
