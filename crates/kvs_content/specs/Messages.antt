-- The messages between brokers.
use Rattle.std.specs.Prelude.{◌≡◌, ℕ, zero, suc, ◌<◌, ◌+◌, ◌-◌, ◌*◌, ◌==◌, ◌&&◌, Bool, true, false, List, Option, Some, None, nat_eq, count_by, length, slice_index_or, sum_by, if◌then◌else◌}
use Rattle.std.specs.Cmp.Lexicographic.{pointwise}
use Rattle.fl_digest.specs.declared.BlobRef.{BlobRef}
use Rattle.fl_digest.specs.Reference.{same_reference}
use Rattle.kvs_txn.specs.declared.txn.By.{By}
use Rattle.kvs_rules.specs.Log.{same_command}
use Rattle.kvs_rules.specs.Brokers.{parent}
use Rattle.kvs_content.specs.declared.offers.Offer.{Offer}
use Rattle.kvs_content.specs.declared.offers.OfferStage.{OfferStage}
use Rattle.kvs_content.specs.declared.offers.OfferStage.TheVariants as offered
use Rattle.kvs_content.specs.declared.wants.Want.{Want}
use Rattle.kvs_content.specs.declared.wants.WantStage.{WantStage}
use Rattle.kvs_content.specs.declared.wants.WantStage.TheVariants as wanted

-- whether a message on the link between a broker and the one above it is on this link, on its way
-- up or down
abbrev pub rises_on : ℕ → ℕ → ℕ → ℕ → Bool
rises_on fanout from to child = (from == child) && (to == parent fanout child)

abbrev pub falls_on : ℕ → ℕ → ℕ → ℕ → Bool
falls_on fanout from to child = (to == child) && (from == parent fanout child)

-- an offer of a broker, and a want of a command's load at a broker, on the link of a child
abbrev pub offer_of : ℕ → BlobRef → List ℕ → OfferStage → Offer
offer_of child reference bytes stage =
    record { child = child; reference = reference; bytes = bytes; stage = stage }

abbrev pub want_of : By → ℕ → ℕ → BlobRef → WantStage → Want
want_of by broker child reference stage = record {
  by = by;
  broker = broker;
  child = child;
  reference = reference;
  stage = stage;
}

-- whether an offer at this stage is on the link between two brokers
abbrev pub is_offered_so : ℕ → ℕ → ℕ → ℕ → OfferStage → Bool
is_offered_so fanout from to child offered.Rising = rises_on fanout from to child
is_offered_so fanout from to child offered.Waiting = false
is_offered_so fanout from to child offered.Accepted = falls_on fanout from to child
is_offered_so fanout from to child offered.Refused = falls_on fanout from to child

-- whether an offer is on the link
abbrev pub is_offer_on : ℕ → ℕ → ℕ → Offer → Bool
is_offer_on fanout from to offer = is_offered_so fanout from to offer.child offer.stage

-- whether a want at this stage is on the link
abbrev pub is_wanted_so : ℕ → ℕ → ℕ → ℕ → WantStage → Bool
is_wanted_so fanout from to child wanted.Rising = rises_on fanout from to child
is_wanted_so fanout from to child (wanted.Falling gift) = falls_on fanout from to child

-- whether a want is on the link
abbrev pub is_want_on : ℕ → ℕ → ℕ → Want → Bool
is_want_on fanout from to want = is_wanted_so fanout from to want.child want.stage

-- whether two contents have the same bytes
abbrev pub same_bytes : List ℕ → List ℕ → Bool
same_bytes = pointwise nat_eq

-- whether a broker offers these bytes under the reference
abbrev pub is_offer_of : ℕ → BlobRef → List ℕ → Offer → Bool
is_offer_of broker reference bytes offer = (offer.child == broker)
    && same_reference reference offer.reference && same_bytes bytes offer.bytes

-- whether an offer at this stage waits for what becomes of the content at the broker above
abbrev pub is_waiting_stage : OfferStage → Bool
is_waiting_stage offered.Waiting = true
is_waiting_stage _ = false

-- whether an offer waits at a broker for what becomes of the content there
abbrev pub waits_at : ℕ → ℕ → BlobRef → Offer → Bool
waits_at fanout broker reference offer = is_waiting_stage offer.stage
    && (parent fanout offer.child == broker) && same_reference offer.reference reference

-- what became of a content
abbrev pub outcome : Bool → OfferStage
outcome accepted = if accepted then offered.Accepted else offered.Refused

-- an offer at another stage
abbrev pub staged : OfferStage → Offer → Offer
staged stage offer = offer_of offer.child offer.reference offer.bytes stage

-- whether these bytes are those that are kept, if any are
abbrev pub is_kept : Option (List ℕ) → List ℕ → Bool
is_kept (Some kept) bytes = same_bytes kept bytes
is_kept None bytes = false

-- an offer, once it is known which bytes a broker keeps of the content, if it keeps any
abbrev pub settled : ℕ → ℕ → BlobRef → Option (List ℕ) → Offer → Offer
settled fanout broker reference kept offer = if waits_at fanout broker reference offer
    then staged (outcome (is_kept kept offer.bytes)) offer else offer

-- the broker so many links above another one
abbrev pub ancestor : ℕ → ℕ → ℕ → ℕ
ancestor fanout zero broker = broker
ancestor fanout (suc links) broker = parent fanout (ancestor fanout links broker)

-- the way down from the upper broker leads to the lower one
abbrev pub IsAbove : ℕ → ℕ → ℕ → Type 0
IsAbove fanout upper lower = (links : ℕ) × (ancestor fanout links lower ≡ upper)

-- the link on which a want of a broker is once the one above was asked, and asks on or has found
-- something
abbrev pub link_now : ℕ → ℕ → WantStage → ℕ
link_now child at wanted.Rising = at
link_now child at (wanted.Falling gift) = child

-- how many loads of a command wait
abbrev pub loads_of : By → List Want → ℕ
loads_of by wants = count_by (λ want. same_command want.by by) wants

-- how often an offer of a broker still comes to one, at most
abbrev pub offer_left : ℕ → OfferStage → ℕ
offer_left child offered.Rising = 2 * child
offer_left child _ = 1

abbrev pub offers_left : Offer → ℕ
offers_left offer = offer_left offer.child offer.stage

-- how often a want below a broker still comes to one, at most, of so many brokers
abbrev pub want_left : ℕ → ℕ → WantStage → ℕ
want_left size child wanted.Rising = size + child
want_left size child (wanted.Falling gift) = size - child

abbrev pub wants_left : ℕ → Want → ℕ
wants_left size want = want_left size want.child want.stage

-- how many deliveries are left, at most
abbrev pub deliveries_left : ℕ → List Offer → List Want → ℕ
deliveries_left size offers wants = sum_by offers_left offers + sum_by (wants_left size) wants

-- what became of a content at a broker is sent to all that wait there for it
pub record AreSettled (fanout broker : ℕ) (reference : BlobRef)
    (kept : Option (List ℕ)) (old new : List Offer) : Type 0 where
  pub same_len : length new ≡ length old
  pub each : (k : ℕ) (d : Offer) → k < length old
      → slice_index_or new k d ≡ settled fanout broker reference kept (slice_index_or old k d)
