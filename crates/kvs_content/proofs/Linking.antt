-- A message goes from a broker to the one above it, or to one below it.
use Rattle.std.proofs.Common.{◌≡◌, ℕ, zero, suc, ◌<◌, List, [], ◌∷◌, length, ◌⊎◌, inl, inr, Bool, true, false, ◌||◌, ◌==◌, refl, sym, ap, ap₂, ◌∙◌, subst, arith, true≢false, get_or}
use Rattle.std.specs.Prelude.{IsTrue}
use Rattle.std.specs.List.{list_any}
use Rattle.kvs_rules.specs.Brokers.{parent}
use Rattle.kvs_content.specs.declared.offers.OfferStage.{OfferStage}
use Rattle.kvs_content.specs.declared.offers.OfferStage.TheVariants as offered
use Rattle.kvs_content.specs.declared.wants.WantStage.{WantStage}
use Rattle.kvs_content.specs.declared.wants.WantStage.TheVariants as wanted
use Rattle.kvs_content.specs.Messages.{falls_on, is_offer_on, is_offered_so, is_want_on, is_wanted_so, rises_on}
use Rattle.kvs_content.specs.Sound.{IsOfferPlaced, IsSoundContent, IsWantPlaced}
use Rattle.kvs_content.specs.Steps.{AreLinksEmpty, can_deliver}
use Rattle.kvs_content.specs.Value.{ContentValue, size_of}
use Rattle.kvs_content.proofs.Lists.{and-left, and-right, same-number}
use Rattle.kvs_content.proofs.Resting.{no-offers, no-wants}
use Rattle.kvs_content.proofs.Ways.{above-le, parent-le}

-- a broker and the one above it, in either direction
abbrev IsJoined : ℕ → ℕ → ℕ → ℕ → Type 0
IsJoined fanout size from to = (from < size) × ((to ≡ parent fanout from) ⊎ ((0 < to) × (to < size) × (parent fanout to ≡ from)))

module _ (fanout size from to child : ℕ) where
  rising : child < size → rises_on fanout from to child ≡ true → IsJoined fanout size from to
  rising low h =
      let home = sym (same-number from child (and-left _ _ h)) in
      (subst (λ n. n < size) home low, inl (same-number to (parent fanout child) (and-right _ _ h) ∙ ap (parent fanout) home))

  falling : 0 < child → child < size → falls_on fanout from to child ≡ true → IsJoined fanout size from to
  falling some low h =
      let there = sym (same-number to child (and-left _ _ h)) in
      let above = same-number from (parent fanout child) (and-right _ _ h) in
      let le = parent-le fanout child in
      (let small : from < size = omega (arith, above, le, low) in small, inr (subst (λ n. 0 < n) there some, subst (λ n. n < size) there low, sym (above ∙ ap (parent fanout) there)))

  offer-joined : 0 < child → child < size → (st : OfferStage) → is_offered_so fanout from to child st ≡ true → IsJoined fanout size from to
  offer-joined some low offered.Rising h = rising low h
  offer-joined some low offered.Waiting h = absurd (true≢false (sym h))
  offer-joined some low offered.Accepted h = falling some low h
  offer-joined some low offered.Refused h = falling some low h

  want-joined : 0 < child → child < size → (st : WantStage) → is_wanted_so fanout from to child st ≡ true → IsJoined fanout size from to
  want-joined some low wanted.Rising h = rising low h
  want-joined some low (wanted.Falling gift) h = falling some low h

-- some element passes, of which P holds as of all
pub some-one : {X : Type 0} (p : X → Bool) (P : X → Type 0) (xs : List X) → ((k : ℕ) (d : X) → k < length xs → P (get_or xs k d)) → list_any p xs ≡ true → (x : X) × P x × (p x ≡ true)
some-one p P [] all h = absurd (true≢false (sym h))
some-one {X} p P (x ∷ xs) all h = by (λ g. some-one p P xs (λ k d l. all (suc k) d (omega arith)) g) (p x) refl h
  where
    by : (list_any p xs ≡ true → (y : X) × P y × (p y ≡ true)) → (b : Bool) → p x ≡ b → (b || list_any p xs) ≡ true → (y : X) × P y × (p y ≡ true)
    by behind true e g = (x, all zero x (omega arith), e)
    by behind false e g = behind g

module _ (v : ContentValue) (sound : IsSoundContent v) (from to : ℕ) where
  by-offer : list_any (is_offer_on v.fanout from to) v.offers ≡ true → IsJoined v.fanout (size_of v) from to
  by-offer h =
      let (offer, p, on) = some-one (is_offer_on v.fanout from to) (IsOfferPlaced v) v.offers sound.placed.offers h in
      offer-joined v.fanout (size_of v) from to offer.child p.below p.within offer.stage on

  by-want : list_any (is_want_on v.fanout from to) v.wants ≡ true → IsJoined v.fanout (size_of v) from to
  by-want h =
      let (want, p, on) = some-one (is_want_on v.fanout from to) (IsWantPlaced v) v.wants sound.placed.wants h in
      let low = above-le v.fanout want.child want.broker p.way in
      let home = p.within in
      want-joined v.fanout (size_of v) from to want.child p.below (omega (arith, low, home)) want.stage on

  pub link-of : can_deliver v from to ≡ true → IsJoined v.fanout (size_of v) from to
  link-of h = by (list_any (is_offer_on v.fanout from to) v.offers) refl h
    where
      by : (b : Bool) → list_any (is_offer_on v.fanout from to) v.offers ≡ b → (b || list_any (is_want_on v.fanout from to) v.wants) ≡ true → IsJoined v.fanout (size_of v) from to
      by true e g = by-offer e
      by false e g = by-want g

-- lists without elements put no message on a link
pub quiet-links : (v : ContentValue) → v.offers ≡ [] → v.wants ≡ [] → AreLinksEmpty v
quiet-links v offers wants from to = ap₂ (λ os ws. list_any (is_offer_on v.fanout from to) os || list_any (is_want_on v.fanout from to) ws) offers wants

-- what tells whether both are without elements, by their lengths
pub idle-then : (v : ContentValue) → IsSoundContent v → (some none : Bool) → some ≡ (length v.offers == 0) → none ≡ (length v.wants == 0) → some ≡ true → (IsTrue none → AreLinksEmpty v) × (AreLinksEmpty v → IsTrue none)
idle-then v sound some none s n e = (
  λ t. quiet-links v (nothing v.offers (sym s ∙ e)) (nothing v.wants (sym n ∙ t)),
  λ still. n ∙ ap (λ ws. length ws == 0) (no-wants v sound still),
)
  where
    nothing : {X : Type 0} (xs : List X) → (length xs == 0) ≡ true → xs ≡ []
    nothing [] h = refl
    nothing (x ∷ xs) h = let none = same-number (length (x ∷ xs)) 0 h in absurd (omega (arith, none))

pub idle-else : (v : ContentValue) → IsSoundContent v → (some : Bool) → some ≡ (length v.offers == 0) → some ≡ false → (IsTrue some → AreLinksEmpty v) × (AreLinksEmpty v → IsTrue some)
idle-else v sound some s e = (
  λ t. absurd (true≢false (sym t ∙ e)),
  λ still. absurd (true≢false (sym (s ∙ ap (λ os. length os == 0) (no-offers v sound still)) ∙ e)),
)
