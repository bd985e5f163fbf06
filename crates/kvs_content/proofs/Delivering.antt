-- A message is taken off a link, and comes to a broker.
use Rattle.std.proofs.Common.{◌≡◌, ℕ, ◌+◌, ◌<◌, List, [], ◌∷◌, length, Bool, true, false, ◌||◌, Some, None, sym, ap, ◌∙◌, subst, arith, true≢false, get_or}
use Rattle.std.specs.Prelude.{Result, Ok, Err, IfOk, OnOk}
use Rattle.std.specs.List.{list_any, position, position_or_len, sum_by, remove}
use Rattle.std.proofs.lemmas.List.{get_or_default}
use Rattle.std.proofs.lemmas.Bool.Decides.{nat_tests}
use Rattle.std.proofs.lemmas.List.Folds.{list_any_none}
use Rattle.std.proofs.lemmas.List.Quantifiers.{position-Some}
use Rattle.std.proofs.lemmas.List.Sums.{fails_before_first, sum_by-remove}
use Rattle.kvs_rules.specs.Log.{Log}
use Rattle.kvs_rules.specs.Namespaces.{Setting}
use Rattle.kvs_content.specs.declared.offers.Offer.{Offer}
use Rattle.kvs_content.specs.declared.wants.Want.{Want}
use Rattle.kvs_content.specs.Agrees.{AgreesContent, OfferAgrees, WantAgrees}
use Rattle.kvs_content.specs.Messages.{deliveries_left, offers_left, wants_left}
use Rattle.kvs_content.specs.Sound.{IsOfferPlaced, IsSoundBut, IsSoundContent, IsWantPlaced}
use Rattle.kvs_content.specs.Steps.{AreAlike}
use Rattle.kvs_content.specs.Value.{ContentValue, size_of}
use Rattle.kvs_content.proofs.Sending.{taken-sound, with-offers}
use Rattle.kvs_content.proofs.Wanting.{with-wants}

pub read-at : {X : Type 0} (xs : List X) (i : ℕ) (x : X) → i < length xs → x ≡ get_or xs i x → (d : X) → get_or xs i d ≡ x
read-at xs i x within read d = sym (read ∙ get_or_default xs i x d within)

module _ (v : ContentValue) (s : IsSoundContent v) (i : ℕ) (within : i < length v.offers) (o : Offer) (read : o ≡ get_or v.offers i o) where
  pub offer-but : IsSoundBut o.child o.reference o.bytes (with-offers v (remove v.offers i))
  offer-but = taken-sound v s i o (read-at v.offers i o within read)

  pub offer-there : IsOfferPlaced v o
  offer-there = subst (IsOfferPlaced v) (sym read) (s.placed.offers i o within)

  pub offer-left-out : sum_by offers_left (remove v.offers i) + offers_left o ≡ sum_by offers_left v.offers
  offer-left-out = ap (λ x. sum_by offers_left (remove v.offers i) + offers_left x) read ∙ sum_by-remove offers_left v.offers i o within

  pub offer-agrees : (set : Setting) (log : Log) → AgreesContent v set log → OfferAgrees set log v.fanout o.child o.reference o.bytes o.stage
  offer-agrees set log a = subst (λ (x : Offer). OfferAgrees set log v.fanout x.child x.reference x.bytes x.stage) (sym read) (a.offers i o within)

module _ (v : ContentValue) (s : IsSoundContent v) (i : ℕ) (within : i < length v.wants) (w : Want) (read : w ≡ get_or v.wants i w) where
  pub want-there : IsWantPlaced v w
  want-there = subst (IsWantPlaced v) (sym read) (s.placed.wants i w within)

  pub want-left-out : (size : ℕ) → sum_by (wants_left size) (remove v.wants i) + wants_left size w ≡ sum_by (wants_left size) v.wants
  want-left-out size = ap (λ x. sum_by (wants_left size) (remove v.wants i) + wants_left size x) read ∙ sum_by-remove (wants_left size) v.wants i w within

  pub want-agrees : (set : Setting) (log : Log) → AgreesContent v set log → WantAgrees set log v.fanout w
  want-agrees set log a = subst (WantAgrees set log v.fanout) (sym read) (a.wants i w within)

-- an offer is taken out
pub offers-removed : {u v : ContentValue} (e : u ≡ v) (i : ℕ) (offers : List Offer) → offers ≡ remove u.offers i → with-offers u offers ≡ with-offers v (remove v.offers i)
offers-removed {u} {v} e i offers is = ap (with-offers u) is ∙ ap (λ (w : ContentValue). with-offers w (remove w.offers i)) e

-- a want is taken out
pub wants-removed : {u v : ContentValue} (e : u ≡ v) (i : ℕ) (wants : List Want) → wants ≡ remove u.wants i → with-wants u wants ≡ with-wants v (remove v.wants i)
wants-removed {u} {v} e i wants is = ap (with-wants u) is ∙ ap (λ (w : ContentValue). with-wants w (remove w.wants i)) e

-- what follows from a result that is there
pub ok-then : {T E : Type 0} (r : Result T E) (P Q : T → Type 0) → IfOk r P → ((x : T) → P x → Q x) → IfOk r Q
ok-then (Ok x) P Q h f = f x h
ok-then (Err e) P Q h f = tt

pub on-then : {T E : Type 0} (r : Result T E) (P Q : Type 0) → OnOk r P → (P → Q) → OnOk r Q
on-then (Ok x) P Q h f = f h
on-then (Err e) P Q h f = tt

-- fewer deliveries are left once an offer was delivered
pub offer-shorter : (v new : ContentValue) → AreAlike v new → new.wants ≡ v.wants → sum_by offers_left new.offers < sum_by offers_left v.offers
    → deliveries_left (size_of new) new.offers new.wants < deliveries_left (size_of v) v.offers v.wants
offer-shorter v new alike wants less =
    subst (λ n. sum_by offers_left new.offers + sum_by (wants_left n) new.wants < deliveries_left (size_of v) v.offers v.wants) (sym alike.size)
    (subst (λ ws. sum_by offers_left new.offers + sum_by (wants_left (size_of v)) ws < deliveries_left (size_of v) v.offers v.wants) (sym wants) (omega (arith, less)))

-- and once a want was
pub want-shorter : {T E : Type 0} (r : Result T E) (v new : ContentValue) (rest : List Want) (n : ℕ) → OnOk r (AreAlike (with-wants v rest) new) → OnOk r (sum_by offers_left new.offers ≡ sum_by offers_left v.offers)
    → OnOk r (sum_by (wants_left (size_of v)) new.wants < sum_by (wants_left (size_of v)) rest + n) → sum_by (wants_left (size_of v)) rest + n ≡ sum_by (wants_left (size_of v)) v.wants
    → OnOk r (deliveries_left (size_of new) new.offers new.wants < deliveries_left (size_of v) v.offers v.wants)
want-shorter (Ok x) v new rest n alike same less out =
    subst (λ k. sum_by offers_left new.offers + sum_by (wants_left k) new.wants < deliveries_left (size_of v) v.offers v.wants) (sym alike.size) (omega (arith, less, same, out))
want-shorter (Err e) v new rest n alike same less out = tt

-- what is not found before the end fails everywhere
pub none-passes : {X : Type 0} (p : X → Bool) (xs : List X) → position p xs ≡ None → list_any p xs ≡ false
none-passes p xs e = list_any_none p xs (λ k d l. fails_before_first p xs k d (past k l))
  where
    past : (k : ℕ) → k < length xs → k < position_or_len p xs
    past k l = grind (arith, nat_tests)

-- where something is found among some or others, it isn't missing in both
pub some-found : {X Y : Type 0} (p : X → Bool) (q : Y → Bool) (xs : List X) (ys : List Y) → (list_any p xs || list_any q ys) ≡ true → None ≡ position p xs → None ≡ position q ys → ⊥
some-found p q xs ys h e f = true≢false (sym h ∙ ap (λ b. b || list_any q ys) (none-passes p xs (sym e)) ∙ none-passes q ys (sym f))

pub found-within : {X : Type 0} (p : X → Bool) (xs : List X) (i : ℕ) (d : X) → Some i ≡ position p xs → i < length xs
found-within p xs i d e = (position-Some p xs i d (sym e)).0

pub found-passes : {X : Type 0} (p : X → Bool) (xs : List X) (i : ℕ) (d : X) → Some i ≡ position p xs → p (get_or xs i d) ≡ true
found-passes p xs i d e = (position-Some p xs i d (sym e)).1

-- a place at which something is found lies within the list
pub found-at : {X : Type 0} (p : X → Bool) (xs : List X) (i : ℕ) → Some i ≡ position p xs → i < length xs
found-at p [] i e = cc
found-at p (x ∷ xs) i e = found-within p (x ∷ xs) i x e
