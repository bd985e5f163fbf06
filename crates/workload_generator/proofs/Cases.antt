-- What holds of each of the first numbers, looked at one by one.
use Rattle.std.proofs.Common.{◌≡◌, ℕ, zero, suc, ◌+◌, ◌<◌, Bool, true, subst, arith}
use Rattle.std.specs.List.{AllByRecursion as Each, list_all, range_with_len}
use Rattle.std.proofs.lemmas.Bool.{and_parts}

from : (P : ℕ → Type 0) (a n k : ℕ) → k < n → Each P (range_with_len a n) → P (a + k)
from P a zero k low all = absurd (omega (arith, low))
from P a (suc n) zero low all = let same : a ≡ a + 0 = omega arith in subst P same all.0
from P a (suc n) (suc k) low all =
    let same : a + 1 + k ≡ a + suc k = omega arith in
    subst P same (from P (a + 1) n k (omega (arith, low)) all.1)

pub below : (P : ℕ → Type 0) (n k : ℕ) → k < n → Each P (range_with_len 0 n) → P k
below P n k low all = let same : 0 + k ≡ k = omega arith in subst P same (from P 0 n k low all)

each_passes : (test : ℕ → Bool) (a n : ℕ) → list_all test (range_with_len a n) ≡ true → Each (λ k. test k ≡ true) (range_with_len a n)
each_passes test a zero h = tt
each_passes test a (suc n) h =
    let both = and_parts (test a) (list_all test (range_with_len (a + 1) n)) h in
    (both.0, each_passes test (a + 1) n both.1)

-- the same, where a test tells it
pub passes_below : (test : ℕ → Bool) (n k : ℕ) → k < n → list_all test (range_with_len 0 n) ≡ true → test k ≡ true
passes_below test n k low h = below (λ m. test m ≡ true) n k low (each_passes test 0 n h)
