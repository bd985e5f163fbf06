-- An offer is taken out of the list, or put at its end.
use Rattle.std.proofs.Common.{◌≡◌, ℕ, zero, suc, ◌<◌, ◌⊎◌, inl, inr, List, [], ◌∷◌, ◌++◌, length, Bool, true, false, ◌||◌, ◌&&◌, ◌==◌, Some, refl, sym, ap, ◌∙◌, arith, true≢false, get_or, map}
use Rattle.std.specs.List.{list_any, remove}
use Rattle.std.proofs.lemmas.List.Folds.{list_any-append}
use Rattle.fl_digest.specs.declared.BlobRef.{BlobRef}
use Rattle.fl_digest.specs.Reference.{same_reference}
use Rattle.cache_node.specs.Cache.{dirty_at}
use Rattle.cache_node.proofs.Same.{same_refl, same_true}
use Rattle.kvs_content.specs.declared.offers.Offer.{Offer}
use Rattle.kvs_content.specs.declared.wants.Want.{Want}
use Rattle.kvs_rules.specs.declared.events.KvsEvent.{KvsEvent}
use Rattle.kvs_rules.specs.Log.{Happened, Log}
use Rattle.kvs_rules.specs.Namespaces.{Setting}
use Rattle.kvs_content.specs.Agrees.{AgreesContent, Follows, OfferAgrees}
use Rattle.kvs_content.specs.Messages.{is_offer_of, same_bytes}
use Rattle.kvs_content.specs.Sound.{IsCarried, IsOfferPlaced, IsSoundBut, IsSoundContent, IsWantPlaced}
use Rattle.kvs_content.specs.Value.{ContentValue, node_at, size_of}
use Rattle.kvs_content.proofs.Lists.{and-left, and-right, bytes-themselves, equal-itself, bytes-same, same-number}

-- an element of what is left was an element
pub remove-was : {X : Type 0} (P : X → Type 0) (xs : List X) (i : ℕ) → ((k : ℕ) (d : X) → k < length xs → P (get_or xs k d)) → (k : ℕ) (d : X) → k < length (remove xs i) → P (get_or (remove xs i) k d)
remove-was P [] zero all k d l = all k d l
remove-was P [] (suc i) all k d l = all k d l
remove-was P (x ∷ xs) zero all k d l = all (suc k) d (omega arith)
remove-was P (x ∷ xs) (suc i) all zero d l = all zero d (omega arith)
remove-was P (x ∷ xs) (suc i) all (suc k) d l = remove-was P xs i (λ j e m. all (suc j) e (omega arith)) k d (omega arith)

-- an element of what was pushed is the new one or an old one
pub push-all : {X : Type 0} (P : X → Type 0) (xs : List X) (y : X) → ((k : ℕ) (d : X) → k < length xs → P (get_or xs k d)) → P y → (k : ℕ) (d : X) → k < length (xs ++ y ∷ []) → P (get_or (xs ++ y ∷ []) k d)
push-all P [] y all here zero d l = here
push-all P [] y all here (suc k) d l = absurd (omega arith)
push-all P (x ∷ xs) y all here zero d l = all zero d (omega arith)
push-all P (x ∷ xs) y all here (suc k) d l = push-all P xs y (λ j e m. all (suc j) e (omega arith)) here k d (omega arith)

-- what one passes is passed by the one taken out or by one that is left
pub remove-any : {X : Type 0} (p : X → Bool) (xs : List X) (i : ℕ) → list_any p xs ≡ true → ((d : X) → p (get_or xs i d) ≡ true) ⊎ (list_any p (remove xs i) ≡ true)
remove-any p [] i h = absurd (true≢false (sym h))
remove-any {X = X} p (x ∷ xs) zero h = by (p x) refl h
  where
    by : (b : Bool) → p x ≡ b → (b || list_any p xs) ≡ true → ((d : X) → p x ≡ true) ⊎ (list_any p xs ≡ true)
    by true e g = inl (λ d. e)
    by false e g = inr g
remove-any {X = X} p (x ∷ xs) (suc i) h = by (λ g. remove-any p xs i g) (p x) refl h
  where
    by : (list_any p xs ≡ true → ((d : X) → p (get_or xs i d) ≡ true) ⊎ (list_any p (remove xs i) ≡ true))
        → (b : Bool) → p x ≡ b → (b || list_any p xs) ≡ true → ((d : X) → p (get_or xs i d) ≡ true) ⊎ ((p x || list_any p (remove xs i)) ≡ true)
    by rest true e g = inr (ap (λ t. t || list_any p (remove xs i)) e)
    by rest false e g = elim (rest g) [
      | inl f ↦ inl f
      | inr f ↦ inr (ap (λ t. t || list_any p (remove xs i)) e ∙ f)
    ]

pub offer-of : (b : ℕ) (x : BlobRef) (bytes : List ℕ) (o : Offer) → is_offer_of b x bytes o ≡ true → (b ≡ o.child) × (x ≡ o.reference) × (bytes ≡ o.bytes)
offer-of b x bytes o h =
    let first = and-left ((o.child == b) && same_reference x o.reference) (same_bytes bytes o.bytes) h in
    (sym (same-number o.child b (and-left _ _ first)), same_true x o.reference (and-right (o.child == b) _ first), bytes-same bytes o.bytes (and-right ((o.child == b) && same_reference x o.reference) (same_bytes bytes o.bytes) h))

-- a broker offers what it offered, and what the new offer says
pub push-any : (b : ℕ) (x : BlobRef) (bytes : List ℕ) (offers : List Offer) (o : Offer) → list_any (is_offer_of b x bytes) offers ≡ true → list_any (is_offer_of b x bytes) (offers ++ o ∷ []) ≡ true
push-any b x bytes offers o h = list_any-append (is_offer_of b x bytes) offers (o ∷ []) ∙ ap (λ t. t || list_any (is_offer_of b x bytes) (o ∷ [])) h

pub own-offer : (o : Offer) → is_offer_of o.child o.reference o.bytes o ≡ true
own-offer o =
    ap (λ t. (t && same_reference o.reference o.reference) && same_bytes o.bytes o.bytes) (equal-itself o.child)
    ∙ ap (λ t. t && same_bytes o.bytes o.bytes) (same_refl o.reference) ∙ bytes-themselves o.bytes

pub push-own : (offers : List Offer) (o : Offer) → list_any (is_offer_of o.child o.reference o.bytes) (offers ++ o ∷ []) ≡ true
push-own offers o =
    list_any-append (is_offer_of o.child o.reference o.bytes) offers (o ∷ [])
    ∙ ap (λ t. list_any (is_offer_of o.child o.reference o.bytes) offers || (t || false)) (own-offer o)
    ∙ by (list_any (is_offer_of o.child o.reference o.bytes) offers)
  where
    by : (b : Bool) → (b || true) ≡ true
    by true = refl
    by false = refl

-- the value with other offers
abbrev pub with-offers : ContentValue → List Offer → ContentValue
with-offers v offers = record v { offers = offers }

offer-moved : (v : ContentValue) (offers : List Offer) (o : Offer) → IsOfferPlaced v o → IsOfferPlaced (with-offers v offers) o
offer-moved v offers o p = record { below = p.below; within = p.within; waits = p.waits; named = p.named; same = p.same }

want-moved : (v : ContentValue) (offers : List Offer) (w : Want) → IsWantPlaced v w → IsWantPlaced (with-offers v offers) w
want-moved v offers w p = record { below = p.below; within = p.within; way = p.way; named = p.named; same = p.same }

-- with an offer taken out all is sound but for what it offered
pub taken-sound : (v : ContentValue) → IsSoundContent v → (i : ℕ) (o : Offer) → ((d : Offer) → get_or v.offers i d ≡ o) → IsSoundBut o.child o.reference o.bytes (with-offers v (remove v.offers i))
taken-sound v s i o is = record {
  placed = record {
    fanout = s.placed.fanout;
    some = s.placed.some;
    root = s.placed.root;
    store = s.placed.store;
    same = s.placed.same;
    offers = λ k d l. offer-moved v (remove v.offers i) _ (remove-was (IsOfferPlaced v) v.offers i s.placed.offers k d l);
    wants = λ k d l. want-moved v (remove v.offers i) _ (s.placed.wants k d l);
  };
  carried = λ b x bytes l. by b x bytes l (list_any (is_offer_of b x bytes) v.offers) refl;
} where
  by : (b : ℕ) (x : BlobRef) (bytes : List ℕ) → b < size_of v → (t : Bool) → list_any (is_offer_of b x bytes) v.offers ≡ t
      → ((b ≡ o.child) × (x ≡ o.reference) × (bytes ≡ o.bytes)) ⊎ IsCarried (with-offers v (remove v.offers i)) b x bytes
  by b x bytes l true e = elim (remove-any (is_offer_of b x bytes) v.offers i e) [
    | inl f ↦ inl (offer-of b x bytes o (ap (is_offer_of b x bytes) (sym (is o)) ∙ f o))
    | inr f ↦ inr (λ d. f)
  ]
  by b x bytes l false e = inr (λ d. absurd (true≢false (sym (s.carried b x bytes l d) ∙ e)))

-- with the offer put at the end all is sound again
pub put-sound : (v : ContentValue) (o : Offer) → IsSoundBut o.child o.reference o.bytes v → IsOfferPlaced v o → IsSoundContent (with-offers v (v.offers ++ o ∷ []))
put-sound v o s here = record {
  placed = record {
    fanout = s.placed.fanout;
    some = s.placed.some;
    root = s.placed.root;
    store = s.placed.store;
    same = s.placed.same;
    offers = λ k d l. offer-moved v (v.offers ++ o ∷ []) _ (push-all (IsOfferPlaced v) v.offers o s.placed.offers here k d l);
    wants = λ k d l. want-moved v (v.offers ++ o ∷ []) _ (s.placed.wants k d l);
  };
  carried = λ b x bytes l d. by b x bytes d (s.carried b x bytes l);
} where
  by : (b : ℕ) (x : BlobRef) (bytes : List ℕ) → dirty_at x (node_at v b).cache ≡ Some bytes → ((b ≡ o.child) × (x ≡ o.reference) × (bytes ≡ o.bytes)) ⊎ IsCarried v b x bytes
      → list_any (is_offer_of b x bytes) (v.offers ++ o ∷ []) ≡ true
  by b x bytes d (inl same) =
      ap (λ k. list_any (is_offer_of k x bytes) (v.offers ++ o ∷ [])) same.0 ∙ ap (λ y. list_any (is_offer_of o.child y bytes) (v.offers ++ o ∷ [])) same.1
      ∙ ap (λ bs. list_any (is_offer_of o.child o.reference bs) (v.offers ++ o ∷ [])) same.2 ∙ push-own v.offers o
  by b x bytes d (inr carried) = push-any b x bytes v.offers o (carried d)

-- and the log says of the others what it said
pub taken-agrees : (v : ContentValue) (set : Setting) (log : Log) → AgreesContent v set log → (i : ℕ) → AgreesContent (with-offers v (remove v.offers i)) set log
taken-agrees v set log a i = record {
  size = a.size;
  fanout = a.fanout;
  hash = a.hash;
  root = a.root;
  above = a.above;
  store = a.store;
  nodes = a.nodes;
  offers = remove-was (λ o. OfferAgrees set log v.fanout o.child o.reference o.bytes o.stage) v.offers i a.offers;
  wants = a.wants;
}

pub put-agrees : (v : ContentValue) (set : Setting) (log : Log) (o : Offer) → AgreesContent v set log → OfferAgrees set log v.fanout o.child o.reference o.bytes o.stage → AgreesContent (with-offers v (v.offers ++ o ∷ [])) set log
put-agrees v set log o a here = record {
  size = a.size;
  fanout = a.fanout;
  hash = a.hash;
  root = a.root;
  above = a.above;
  store = a.store;
  nodes = a.nodes;
  offers = push-all (λ o. OfferAgrees set log v.fanout o.child o.reference o.bytes o.stage) v.offers o a.offers here;
  wants = a.wants;
}

-- what follows of the contents without an offer follows of them, and an offer that agrees may be put at the end
pub taken-follows : (v w : ContentValue) (i : ℕ) (events : List KvsEvent) (set : Setting) (log : Log) → Follows (with-offers v (remove v.offers i)) w events set log → Follows v w events set log
taken-follows v w i events set log f = record { legal = f.legal; agrees = f.agrees; kept = λ b x l k. f.kept b x l k }

pub put-follows : (v u : ContentValue) (o : Offer) (events : List KvsEvent) (set : Setting) (log : Log) → Follows v u events set log → OfferAgrees set (log ++ map Happened events) u.fanout o.child o.reference o.bytes o.stage
    → Follows v (with-offers u (u.offers ++ o ∷ [])) events set log
put-follows v u o events set log f here = record {
  legal = f.legal;
  agrees = put-agrees u set (log ++ map Happened events) o f.agrees here;
  kept = λ b x l k. f.kept b x l k;
}
