-- Pins are counted.
use Rattle.std.proofs.Common.{◌≡◌, ◌≢◌, get_or, ℕ, zero, suc, ◌+◌, ◌-◌, ◌<◌, ◌≤◌, ◌^◌, ◌==◌, List, [], ◌∷◌, length, Bool, true, false, cond, Option, Some, None, option_map, refl, sym, ap, ◌∙◌, subst, arith, true≢false, if◌then◌else◌}
use Rattle.std.specs.Prelude.{Contains, IsSome}
use Rattle.std.specs.Option.{option_map_or}
use Rattle.std.specs.Map.{lookup, set_value}
use Rattle.std.proofs.lemmas.List.Sums.{sum_by-cons}
use Rattle.std.proofs.lemmas.Bool.Decides.{nat_tests}
use Rattle.fl_digest.specs.declared.BlobRef.{BlobRef}
use Rattle.fl_digest.specs.Reference.{same_reference}
use Rattle.cache_node.specs.declared.content.Held.{Held}
use Rattle.cache_node.specs.Order.{pinned, released, used}
use Rattle.cache_node.specs.Cache.{Cache, held_at, clean_at, with_pin, without_pin, with_clean}
use Rattle.cache_node.proofs.Same.{same_true}
use Rattle.tree_walk.specs.Pins.{IsOnce}
use Rattle.tree_walk.specs.Walks.{with_pins, without_pins}
use Rattle.tree_walk.proofs.Pinning.{clean_at-with_pin, lookup-remove-other}
use Rattle.walk_pins.specs.Pins.{pins_at, times}

abbrev Entry : Type 0
Entry = BlobRef × Held

abbrev pins_of : Option Held → ℕ
pins_of o = option_map_or (λ held. held.pins) o 0

-- one for a reference that is the other
abbrev one_if : Bool → ℕ
one_if b = cond b 1 0

times-cons : (r q : BlobRef) (rs : List BlobRef) → times r (q ∷ rs) ≡ one_if (same_reference r q) + times r rs
times-cons r q rs = sum_by-cons (λ x. one_if (same_reference r x)) q rs

times-none : (r : BlobRef) (rs : List BlobRef) → ((k : ℕ) (d : BlobRef) → k < length rs → r ≢ get_or rs k d) → times r rs ≡ 0
times-none r [] other = refl
times-none r (q ∷ rs) other = times-cons r q rs ∙ by (times-none r rs (λ k d l. other (suc k) d (omega arith))) (same_reference r q) refl
  where
    by : times r rs ≡ 0 → (b : Bool) → same_reference r q ≡ b → one_if (same_reference r q) + times r rs ≡ 0
    by rest true t = absurd (other zero q (omega arith) (same_true r q t))
    by rest false t = rw (t, rest) refl

-- none of the references stands twice
pub times-once : (r : BlobRef) (rs : List BlobRef) → IsOnce rs → times r rs ≤ 1
times-once r [] once = omega arith
times-once r (q ∷ rs) once =
    subst (λ n. n ≤ 1) (sym (times-cons r q rs)) (by (times-once r rs (λ i j d l within. once (suc i) (suc j) d (omega arith) (omega arith))) (same_reference r q) refl)
  where
    by : times r rs ≤ 1 → (b : Bool) → same_reference r q ≡ b → one_if (same_reference r q) + times r rs ≤ 1
    by rest true t =
        let none : times r rs ≡ 0 = times-none r rs (λ k d l e. once zero (suc k) d (omega arith) (omega arith) (sym (same_true r q t) ∙ e)) in
        let one : one_if (same_reference r q) ≡ 1 = ap one_if t in
        omega (arith, none, one)
    by rest false t = let none : one_if (same_reference r q) ≡ 0 = ap one_if t in omega (arith, none, rest)

lookup-set-here : (q : BlobRef) (w held : Held) (es : List Entry) → lookup (same_reference q) es ≡ Some held → lookup (same_reference q) (set_value (same_reference q) es w) ≡ Some w
lookup-set-here q w held [] found = cc
lookup-set-here q w held (e ∷ es) found = by (lookup-set-here q w held es) (same_reference q e.0) refl found
  where
    by : (lookup (same_reference q) es ≡ Some held → lookup (same_reference q) (set_value (same_reference q) es w) ≡ Some w) → (b : Bool) → same_reference q e.0 ≡ b
        → lookup (same_reference q) (e ∷ es) ≡ Some held → lookup (same_reference q) (set_value (same_reference q) (e ∷ es) w) ≡ Some w
    by rest true t f = rw t (rw t refl)
    by rest false t f = rw t (rw t (rest (sym (ap (λ b. cond b (Some e.1) (lookup (same_reference q) es)) t) ∙ f)))

lookup-set-other : (r q : BlobRef) (w : Held) (es : List Entry) → same_reference r q ≡ false → lookup (same_reference r) (set_value (same_reference q) es w) ≡ lookup (same_reference r) es
lookup-set-other r q w [] other = refl
lookup-set-other r q w (e ∷ es) other = by (lookup-set-other r q w es other) (same_reference q e.0) refl
  where
    by : lookup (same_reference r) (set_value (same_reference q) es w) ≡ lookup (same_reference r) es → (b : Bool) → same_reference q e.0 ≡ b
        → lookup (same_reference r) (set_value (same_reference q) (e ∷ es) w) ≡ lookup (same_reference r) (e ∷ es)
    by rest true t = rw t (rw (ap (same_reference r) (sym (same_true q e.0 t)) ∙ other) refl)
    by rest false t = rw t (ap (λ (o : Option Held). cond (same_reference r e.0) (Some e.1) o) rest)

-- ---- one pin

abbrev after_pin : BlobRef → Cache → Option Held → Cache
after_pin q cache o = option_map_or (λ held. with_clean (used q (pinned held) cache.clean) cache) o cache

abbrev after_unpin : BlobRef → Cache → Option Held → Cache
after_unpin q cache o = option_map_or (λ held. with_clean (set_value (same_reference q) cache.clean (released held)) cache) o cache

pin-here : (r q : BlobRef) (cache : Cache) (o : Option Held) → held_at q cache ≡ o → IsSome o → same_reference r q ≡ true → pins_of o + 1 < 2 ^ 64 → pins_at r (after_pin q cache o) ≡ pins_of o + 1
pin-here r q cache None found some t room = absurd (true≢false (sym some))
pin-here r q cache (Some held) found some t room = rw t (grind arith)

pin-other : (r q : BlobRef) (cache : Cache) (o : Option Held) → same_reference r q ≡ false → pins_at r (after_pin q cache o) ≡ pins_at r cache
pin-other r q cache None t = refl
pin-other r q cache (Some held) t = rw t (ap pins_of (lookup-remove-other r q cache.clean t))

pins-same : (r q : BlobRef) (cache : Cache) → same_reference r q ≡ true → pins_at r cache ≡ pins_of (held_at q cache)
pins-same r q cache t = ap (λ x. pins_at x cache) (same_true r q t)

held-some : (q : BlobRef) (cache : Cache) → IsSome (clean_at q cache) → IsSome (held_at q cache)
held-some q cache clean = by (held_at q cache) clean
  where
    by : (o : Option Held) → IsSome (option_map (λ held. held.bytes) o) → IsSome o
    by None h = absurd (true≢false (sym h))
    by (Some held) h = refl

with-one : (r q : BlobRef) (cache : Cache) → IsSome (clean_at q cache) → pins_at r cache + one_if (same_reference r q) < 2 ^ 64 → pins_at r (with_pin q cache) ≡ pins_at r cache + one_if (same_reference r q)
with-one r q cache clean room = by (same_reference r q) refl
  where
    by : (b : Bool) → same_reference r q ≡ b → pins_at r (with_pin q cache) ≡ pins_at r cache + one_if (same_reference r q)
    by true t =
        let same = pins-same r q cache t in
        let fits : pins_of (held_at q cache) + 1 < 2 ^ 64 = subst (λ n. n + 1 < 2 ^ 64) same (subst (λ b. pins_at r cache + one_if b < 2 ^ 64) t room) in
        pin-here r q cache (held_at q cache) refl (held-some q cache clean) t fits ∙ ap (λ n. n + 1) (sym same) ∙ sym (ap (λ b. pins_at r cache + one_if b) t)
    by false t = pin-other r q cache (held_at q cache) t ∙ (let n : pins_at r cache ≡ pins_at r cache + 0 = omega arith in n) ∙ sym (ap (λ b. pins_at r cache + one_if b) t)

pub with-all : (references : List BlobRef) (cache : Cache) (r : BlobRef) → ((q : BlobRef) → Contains references q → IsSome (clean_at q cache)) → pins_at r cache + times r references < 2 ^ 64
    → pins_at r (with_pins references cache) ≡ pins_at r cache + times r references
with-all [] cache r clean room = omega arith
with-all (q ∷ qs) cache r clean room =
    let count = times-cons r q qs in
    let here = with-one r q cache (clean q (zero, (let n : 0 < suc (length qs) = omega arith in n), refl)) (omega arith) in
    let rest : (x : BlobRef) → Contains qs x → IsSome (clean_at x (with_pin q cache)) =
    λ x has. subst (λ (o : Option (List ℕ)). IsSome o) (sym (clean_at-with_pin x q cache)) (clean x (suc has.0, (let l = has.1 in omega arith), has.2)) in
    let next = with-all qs (with_pin q cache) r rest (omega arith) in
    omega arith

-- ---- one pin less

unpin-here : (r q : BlobRef) (cache : Cache) (o : Option Held) → held_at q cache ≡ o → same_reference r q ≡ true → 1 ≤ pins_of o → pins_of o < 2 ^ 64 - 1 → pins_at r (after_unpin q cache o) ≡ pins_of o - 1
unpin-here r q cache None found t some room = absurd (omega arith)
unpin-here r q cache (Some held) found t some room =
    let here = lookup-set-here q (released held) held cache.clean found in
    ap (λ (x : BlobRef). pins_of (lookup (same_reference x) (set_value (same_reference q) cache.clean (released held)))) (same_true r q t)
    ∙ ap pins_of here ∙ less held.pins room
  where
    less : (n : ℕ) → n < 2 ^ 64 - 1 → (if n == 2 ^ 64 - 1 then n else n - 1) ≡ n - 1
    less n l = grind (arith, nat_tests)

unpin-other : (r q : BlobRef) (cache : Cache) (o : Option Held) → same_reference r q ≡ false → pins_at r (after_unpin q cache o) ≡ pins_at r cache
unpin-other r q cache None t = refl
unpin-other r q cache (Some held) t = ap pins_of (lookup-set-other r q (released held) cache.clean t)

without-one : (r q : BlobRef) (cache : Cache) → one_if (same_reference r q) ≤ pins_at r cache → pins_at r cache < 2 ^ 64 - 1 → pins_at r (without_pin q cache) ≡ pins_at r cache - one_if (same_reference r q)
without-one r q cache some room = by (same_reference r q) refl
  where
    by : (b : Bool) → same_reference r q ≡ b → pins_at r (without_pin q cache) ≡ pins_at r cache - one_if (same_reference r q)
    by true t =
        let same = pins-same r q cache t in
        unpin-here r q cache (held_at q cache) refl t (subst (λ n. 1 ≤ n) same (subst (λ b. one_if b ≤ pins_at r cache) t some)) (subst (λ n. n < 2 ^ 64 - 1) same room)
        ∙ ap (λ n. n - 1) (sym same) ∙ sym (ap (λ b. pins_at r cache - one_if b) t)
    by false t = unpin-other r q cache (held_at q cache) t ∙ (let n : pins_at r cache ≡ pins_at r cache - 0 = omega arith in n) ∙ sym (ap (λ b. pins_at r cache - one_if b) t)

pub without-all : (references : List BlobRef) (cache : Cache) (r : BlobRef) → times r references ≤ pins_at r cache → pins_at r cache < 2 ^ 64 - 1
    → pins_at r (without_pins references cache) ≡ pins_at r cache - times r references
without-all [] cache r some room = omega arith
without-all (q ∷ qs) cache r some room =
    let count = times-cons r q qs in
    let here = without-one r q cache (omega arith) room in
    let next = without-all qs (without_pin q cache) r (omega arith) (omega arith) in
    omega arith

-- ---- the clean contents stay

clean-set : (r q : BlobRef) (held : Held) (es : List Entry) → lookup (same_reference q) es ≡ Some held → option_map (λ (h : Held). h.bytes) (lookup (same_reference r) (set_value (same_reference q) es (released held))) ≡ option_map (λ (h : Held). h.bytes) (lookup (same_reference r) es)
clean-set r q held es found = by (same_reference r q) refl
  where
    by : (b : Bool) → same_reference r q ≡ b → option_map (λ (h : Held). h.bytes) (lookup (same_reference r) (set_value (same_reference q) es (released held))) ≡ option_map (λ (h : Held). h.bytes) (lookup (same_reference r) es)
    by true t =
        let is = same_true r q t in
        ap (λ (x : BlobRef). option_map (λ (h : Held). h.bytes) (lookup (same_reference x) (set_value (same_reference q) es (released held)))) is
        ∙ ap (option_map (λ (h : Held). h.bytes)) (lookup-set-here q (released held) held es found)
        ∙ sym (ap (λ (x : BlobRef). option_map (λ (h : Held). h.bytes) (lookup (same_reference x) es)) is ∙ ap (option_map (λ (h : Held). h.bytes)) found)
    by false t = ap (option_map (λ (h : Held). h.bytes)) (lookup-set-other r q (released held) es t)

clean-unpin : (r q : BlobRef) (cache : Cache) (o : Option Held) → held_at q cache ≡ o → clean_at r (after_unpin q cache o) ≡ clean_at r cache
clean-unpin r q cache None e = refl
clean-unpin r q cache (Some held) e = clean-set r q held cache.clean e

pub clean-without : (references : List BlobRef) (cache : Cache) (r : BlobRef) → clean_at r (without_pins references cache) ≡ clean_at r cache
clean-without [] cache r = refl
clean-without (q ∷ qs) cache r = clean-without qs (without_pin q cache) r ∙ clean-unpin r q cache (held_at q cache) refl
