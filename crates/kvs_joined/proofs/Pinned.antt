-- The pins at each broker stay those of its open walks.
use Rattle.std.proofs.Common.{◌≡◌, ◌≢◌, ◌==◌, ℕ, ◌+◌, ◌<◌, ◌≤◌, ◌^◌, List, [], ◌∷◌, ◌++◌, length, length-append, length-set, Bool, true, false, cond, refl, sym, ap, ◌∙◌, subst, arith, get_or, sum_by, T, eqb→eq}
use Rattle.std.specs.Prelude.{Contains, IsSome, slice_set}
use Rattle.std.specs.List.{remove}
use Rattle.std.proofs.lemmas.Bool.Decides.{nat_tests}
use Rattle.std.proofs.lemmas.List.Edits.{length-remove}
use Rattle.std.proofs.lemmas.List.Elements.{Contains-append_right}
use Rattle.std.proofs.lemmas.List.Sums.{sum_by_push, sum_by-append, sum_by-le, sum_by-remove, sum_by-set}
use Rattle.fl_digest.specs.declared.BlobRef.{BlobRef}
use Rattle.fl_digest.specs.Reference.{same_reference}
use Rattle.cache_node.specs.Cache.{Cache, clean_at}
use Rattle.tree_walk.specs.Walks.{GoesOn, without_pins}
use Rattle.tree_walk.proofs.Pinning.{clean_at-with_pins}
use Rattle.walk_pins.specs.Pins.{pins_at, times}
use Rattle.walk_pins.proofs.Counting.{times-once, with-all, without-all}
use Rattle.kvs_joined.specs.Joined.{ArePinned, ArePinnedOnce, OpenWalk, OthersStay, pinned_by}

same-broker : (a b : ℕ) → (a == b) ≡ true → a ≡ b
same-broker a b e = eqb→eq a b (subst T (sym e) tt)

other-broker : (a b : ℕ) → (a == b) ≡ false → b ≢ a
other-broker a b e is = grind (arith, nat_tests)

-- a walk at the broker, and one at another
here : (broker : ℕ) (r : BlobRef) (w : OpenWalk) → (w.broker == broker) ≡ true → pinned_by broker r w ≡ times r w.walk.pinned
here broker r w e = ap (λ b. cond b (times r w.walk.pinned) 0) e

apart : (broker : ℕ) (r : BlobRef) (w : OpenWalk) → (w.broker == broker) ≡ false → pinned_by broker r w ≡ 0
apart broker r w e = ap (λ b. cond b (times r w.walk.pinned) 0) e

one-each : (broker : ℕ) (r : BlobRef) (w : OpenWalk) (b : Bool) → times r w.walk.pinned ≤ 1 → cond b (times r w.walk.pinned) 0 ≤ 1
one-each broker r w true h = h
one-each broker r w false h = omega arith

-- there are no more pins than walks
bounded : (broker : ℕ) (r : BlobRef) (walks : List OpenWalk) → ArePinnedOnce walks → sum_by (pinned_by broker r) walks ≤ length walks
bounded broker r walks once =
    let all = sum_by-le (pinned_by broker r) 1 walks (λ k d l. one-each broker r (get_or walks k d) ((get_or walks k d).broker == broker) (times-once r (get_or walks k d).walk.pinned (once k d l))) in
    omega (arith, all)

pub walk-begins : (nodes : ℕ → Cache) (size : ℕ) (walks : List OpenWalk) (w : OpenWalk) → w.walk.pinned ≡ [] → length walks + 1 < 2 ^ 32 → ArePinned nodes size walks → ArePinned nodes size (walks ++ w ∷ [])
walk-begins nodes size walks w none room pinned = record {
  counts = λ broker r l. (
      let more = sum_by_push (pinned_by broker r) walks w in
      let nothing : pinned_by broker r w ≡ 0 = ap (λ rs. cond (w.broker == broker) (times r rs) 0) none ∙ either (w.broker == broker) in
      pinned.counts broker r l ∙ omega (arith, more, nothing));
  few = subst (λ n. n < 2 ^ 32) (sym (length-append walks (w ∷ []))) room;
}
  where
    either : (b : Bool) → ◌≡◌ {A = ℕ} (cond b 0 0) 0
    either true = refl
    either false = refl

-- one pin more for each content that the walk has passed besides
module _ (nodes later : ℕ → Cache) (size k : ℕ) (walks : List OpenWalk) (old new : OpenWalk) (within : k < length walks) (read : old ≡ get_or walks k old) (same : new.broker ≡ old.broker)
    (others : OthersStay old.broker nodes later) (on : GoesOn old.walk new.walk (nodes old.broker) (later old.broker))
    (clean : (reference : BlobRef) → Contains new.walk.pinned reference → IsSome (clean_at reference (later old.broker)))
    (once : ArePinnedOnce (slice_set walks k new)) (pinned : ArePinned nodes size walks) where
  set-sum : (broker : ℕ) (r : BlobRef) → sum_by (pinned_by broker r) (slice_set walks k new) + pinned_by broker r old ≡ sum_by (pinned_by broker r) walks + pinned_by broker r new
  set-sum broker r = subst (λ (w : OpenWalk). sum_by (pinned_by broker r) (slice_set walks k new) + pinned_by broker r w ≡ sum_by (pinned_by broker r) walks + pinned_by broker r new) (sym read)
      (sum_by-set (pinned_by broker r) walks k new old within)

  more-clean : (q : BlobRef) → Contains on.more q → IsSome (clean_at q (nodes old.broker))
  more-clean q has =
      let there : Contains new.walk.pinned q = subst (λ (rs : List BlobRef). Contains rs q) (sym on.pinned) (Contains-append_right old.walk.pinned on.more q has) in
      subst (λ (o : _). IsSome o) (ap (clean_at q) on.cache ∙ clean_at-with_pins q on.more (nodes old.broker)) (clean q there)

  go-here : (r : BlobRef) → old.broker < size → pins_at r (later old.broker) ≡ sum_by (pinned_by old.broker r) (slice_set walks k new)
  go-here r l =
      let self : (old.broker == old.broker) ≡ true = grind (arith, nat_tests) in
      let was = here old.broker r old self in
      let is = here old.broker r new (ap (λ b. b == old.broker) same ∙ self) ∙ ap (times r) on.pinned ∙ sum_by-append (λ x. cond (same_reference r x) 1 0) old.walk.pinned on.more in
      let sum = set-sum old.broker r in
      let most = bounded old.broker r (slice_set walks k new) once in
      let long : length (slice_set walks k new) ≡ length walks = length-set walks k new in
      let few = pinned.few in
      let count = pinned.counts old.broker r l in
      let total : sum_by (pinned_by old.broker r) (slice_set walks k new) ≡ pins_at r (nodes old.broker) + times r on.more = omega (arith, was, is, sum, count) in
      ap (pins_at r) on.cache ∙ with-all on.more (nodes old.broker) r more-clean (omega (arith, total, most, long, few)) ∙ sym total

  go-apart : (broker : ℕ) (r : BlobRef) → (old.broker == broker) ≡ false → broker < size → pins_at r (later broker) ≡ sum_by (pinned_by broker r) (slice_set walks k new)
  go-apart broker r e l =
      let was = apart broker r old e in
      let is = apart broker r new (ap (λ b. b == broker) same ∙ e) in
      let sum = set-sum broker r in
      let count = pinned.counts broker r l in
      ap (pins_at r) (others broker (other-broker old.broker broker e)) ∙ omega (arith, was, is, sum, count)

  pub walk-goes : ArePinned later size (slice_set walks k new)
  walk-goes = record {
    counts = λ broker r l. by broker r l (old.broker == broker) refl;
    few = subst (λ n. n < 2 ^ 32) (sym (length-set walks k new)) pinned.few;
  }
    where
      by : (broker : ℕ) (r : BlobRef) → broker < size → (b : Bool) → (old.broker == broker) ≡ b → pins_at r (later broker) ≡ sum_by (pinned_by broker r) (slice_set walks k new)
      by broker r l true e = let is = same-broker old.broker broker e in
          subst (λ n. pins_at r (later n) ≡ sum_by (pinned_by n r) (slice_set walks k new)) is (go-here r (subst (λ n. n < size) (sym is) l))
      by broker r l false e = go-apart broker r e l

module _ (nodes later : ℕ → Cache) (size k : ℕ) (walks : List OpenWalk) (w : OpenWalk) (within : k < length walks) (read : w ≡ get_or walks k w) (others : OthersStay w.broker nodes later)
    (freed : later w.broker ≡ without_pins w.walk.pinned (nodes w.broker)) (once : ArePinnedOnce walks) (pinned : ArePinned nodes size walks) where
  left-sum : (broker : ℕ) (r : BlobRef) → sum_by (pinned_by broker r) (remove walks k) + pinned_by broker r w ≡ sum_by (pinned_by broker r) walks
  left-sum broker r = subst (λ (x : OpenWalk). sum_by (pinned_by broker r) (remove walks k) + pinned_by broker r x ≡ sum_by (pinned_by broker r) walks) (sym read)
      (sum_by-remove (pinned_by broker r) walks k w within)

  end-here : (r : BlobRef) → w.broker < size → pins_at r (later w.broker) ≡ sum_by (pinned_by w.broker r) (remove walks k)
  end-here r l =
      let self : (w.broker == w.broker) ≡ true = grind (arith, nat_tests) in
      let was = here w.broker r w self in
      let sum = left-sum w.broker r in
      let most = bounded w.broker r walks once in
      let few = pinned.few in
      let count = pinned.counts w.broker r l in
      ap (pins_at r) freed ∙ without-all w.walk.pinned (nodes w.broker) r (omega (arith, was, sum, count)) (omega (arith, most, few, count)) ∙ omega (arith, was, sum, count)

  end-apart : (broker : ℕ) (r : BlobRef) → (w.broker == broker) ≡ false → broker < size → pins_at r (later broker) ≡ sum_by (pinned_by broker r) (remove walks k)
  end-apart broker r e l =
      let was = apart broker r w e in
      let sum = left-sum broker r in
      let count = pinned.counts broker r l in
      ap (pins_at r) (others broker (other-broker w.broker broker e)) ∙ omega (arith, was, sum, count)

  pub walk-ends : ArePinned later size (remove walks k)
  walk-ends = record {
    counts = λ broker r l. by broker r l (w.broker == broker) refl;
    few = omega (arith, length-remove walks k within, pinned.few);
  }
    where
      by : (broker : ℕ) (r : BlobRef) → broker < size → (b : Bool) → (w.broker == broker) ≡ b → pins_at r (later broker) ≡ sum_by (pinned_by broker r) (remove walks k)
      by broker r l true e = let is = same-broker w.broker broker e in
          subst (λ n. pins_at r (later n) ≡ sum_by (pinned_by n r) (remove walks k)) is (end-here r (subst (λ n. n < size) (sym is) l))
      by broker r l false e = end-apart broker r e l

pub none-pinned : (nodes : ℕ → Cache) (size broker : ℕ) (reference : BlobRef) → broker < size → ArePinned nodes size [] → pins_at reference (nodes broker) ≡ 0
none-pinned nodes size broker reference l pinned = pinned.counts broker reference l
