-- How many deliveries are left.
use Rattle.std.proofs.Common.{◌≡◌, ℕ, zero, suc, ◌+◌, ◌<◌, List, [], ◌∷◌, length, Option, Bool, true, false, cond, refl, sym, ap, ap₂, ◌∙◌, ◌==◌, ◌&&◌, arith, true≢false, get_or}
use Rattle.std.specs.List.{sum_by}
use Rattle.std.proofs.lemmas.List.Sums.{sum_by-cons}
use Rattle.fl_digest.specs.declared.BlobRef.{BlobRef}
use Rattle.fl_digest.specs.Reference.{same_reference}
use Rattle.kvs_rules.specs.Brokers.{parent}
use Rattle.kvs_content.specs.declared.offers.Offer.{Offer}
use Rattle.kvs_content.specs.declared.offers.OfferStage.{OfferStage}
use Rattle.kvs_content.specs.declared.offers.OfferStage.TheVariants as offered
use Rattle.kvs_content.specs.Messages.{AreSettled, is_kept, is_waiting_stage, offer_left, offers_left, outcome, settled, staged, waits_at}
use Rattle.kvs_content.proofs.Lists.{and-left}

-- two lists with the same numbers
sum-alike : {X : Type 0} (f : X → ℕ) (xs ys : List X) → length ys ≡ length xs → ((k : ℕ) (d : X) → k < length xs → f (get_or ys k d) ≡ f (get_or xs k d)) → sum_by f ys ≡ sum_by f xs
sum-alike f [] [] l same = refl
sum-alike f [] (y ∷ ys) l same = absurd (omega arith)
sum-alike f (x ∷ xs) [] l same = absurd (omega arith)
sum-alike f (x ∷ xs) (y ∷ ys) l same =
    sum_by-cons f y ys ∙ ap₂ (λ a b. a + b) (same zero x (omega arith)) (sum-alike f xs ys (omega arith) (λ k d m. same (suc k) d (omega arith))) ∙ sym (sum_by-cons f x xs)

pub outcome-left : (child : ℕ) (accepted : Bool) → offer_left child (outcome accepted) ≡ 1
outcome-left child true = refl
outcome-left child false = refl

waiting-left : (child : ℕ) (stage : OfferStage) → is_waiting_stage stage ≡ true → offer_left child stage ≡ 1
waiting-left child offered.Rising h = absurd (true≢false (sym h))
waiting-left child offered.Waiting h = refl
waiting-left child offered.Accepted h = absurd (true≢false (sym h))
waiting-left child offered.Refused h = absurd (true≢false (sym h))

-- what waited comes to one broker, as before
pub settled-left : (fanout broker : ℕ) (r : BlobRef) (kept : Option (List ℕ)) (old new : List Offer) → AreSettled fanout broker r kept old new → sum_by offers_left new ≡ sum_by offers_left old
settled-left fanout broker r kept old new s = sum-alike offers_left old new s.same_len (λ k d l. ap offers_left (s.each k d l) ∙ same (get_or old k d) (waits_at fanout broker r (get_or old k d)) refl)
  where
    same : (o : Offer) (b : Bool) → waits_at fanout broker r o ≡ b → offers_left (settled fanout broker r kept o) ≡ offers_left o
    same o true e = ap (λ t. offers_left (cond t (staged (outcome (is_kept kept o.bytes)) o) o)) e ∙ outcome-left o.child (is_kept kept o.bytes) ∙ sym (waiting-left o.child o.stage (and-left (is_waiting_stage o.stage) (parent fanout o.child == broker) (and-left (is_waiting_stage o.stage && (parent fanout o.child == broker)) (same_reference o.reference r) e)))
    same o false e = ap (λ t. offers_left (cond t (staged (outcome (is_kept kept o.bytes)) o) o)) e
