-- When the contents stand where a log leaves them.
use Rattle.std.specs.Prelude.{◌≡◌, ℕ, ◌<◌, ◌⊎◌, List, ◌++◌, Bool, true, false, IsTrue, Option, Some, None, is_some, length, map, slice_index_or}
use Rattle.std.specs.List.{AllByRecursion as Each, list_any}
use Rattle.fl_digest.specs.declared.BlobRef.{BlobRef}
use Rattle.fl_digest.specs.Reference.{reference_of, same_reference}
use Rattle.blob_store.specs.Blobs.{blob_at}
use Rattle.cache_node.specs.declared.content.Held.{Held}
use Rattle.cache_node.specs.Order.{is_pinned}
use Rattle.cache_node.specs.Cache.{clean_at, held_at}
use Rattle.kvs_txn.specs.declared.txn.By.{By}
use Rattle.kvs_rules.specs.declared.events.KvsAsk.TheVariants as ask
use Rattle.kvs_rules.specs.declared.events.KvsAnswer.{KvsAnswer}
use Rattle.kvs_rules.specs.declared.events.KvsAnswer.TheVariants as answer
use Rattle.kvs_rules.specs.declared.events.KvsEvent.{KvsEvent}
use Rattle.kvs_rules.specs.Log.{Log, Happened, before_asked, is_asked}
use Rattle.kvs_rules.specs.Namespaces.{Setting, Request}
use Rattle.kvs_rules.specs.Brokers.{IsContent, has_got, holds, parent}
use Rattle.kvs_rules.specs.Answers.{HasGrounds, IsClash, IsLegalAfter, IsStoredAt}
use Rattle.kvs_content.specs.declared.outcomes.Answer.{Answer}
use Rattle.kvs_content.specs.declared.outcomes.Load.{Load}
use Rattle.kvs_content.specs.declared.outcomes.Load.TheVariants as load
use Rattle.kvs_content.specs.declared.offers.Offer.{Offer}
use Rattle.kvs_content.specs.declared.offers.OfferStage.{OfferStage}
use Rattle.kvs_content.specs.declared.offers.OfferStage.TheVariants as offered
use Rattle.kvs_content.specs.declared.wants.Gift.{Gift}
use Rattle.kvs_content.specs.declared.wants.Want.{Want}
use Rattle.kvs_content.specs.declared.wants.WantStage.{WantStage}
use Rattle.kvs_content.specs.declared.wants.WantStage.TheVariants as wanted
use Rattle.kvs_content.specs.Node.{NodeValue}
use Rattle.kvs_content.specs.Sound.{IsDirty}
use Rattle.kvs_content.specs.Value.{ContentValue, node_at, size_of}

-- the bytes are a content of the instance, and the reference is theirs
abbrev pub IsBlob : Setting → Log → BlobRef → List ℕ → Type 0
IsBlob set log reference bytes = (reference ≡ reference_of set.hash bytes) × IsContent set log bytes

-- two contents of the instance have the reference, and rank 0 got one of them
abbrev pub IsRefused : Setting → Log → BlobRef → Type 0
IsRefused set log reference = IsClash set log reference × IsTrue (has_got log 0 reference)

-- a broker holds what is clean there, keeps contents alone, and has pinned none
pub record NodeAgrees (set : Setting) (log : Log) (broker : ℕ) (node : NodeValue) : Type 0 where
  pub held : (reference : BlobRef)
      → holds log broker reference ≡ is_some (clean_at reference node.cache)
  pub clean : (reference : BlobRef) (bytes : List ℕ)
      → clean_at reference node.cache ≡ Some bytes → IsBlob set log reference bytes
  pub dirty : Each (λ e. IsBlob set log e.0 e.1) node.cache.dirty
  pub refused : Each (IsRefused set log) node.refused
  pub unpinned : (reference : BlobRef) (held : Held)
      → held_at reference node.cache ≡ Some held → is_pinned held ≡ false

-- what the log says of an offer at this stage: once it is accepted, the broker above has got the
-- content
abbrev pub OfferStageAgrees : Setting → Log → ℕ → ℕ → BlobRef → OfferStage → Type 0
OfferStageAgrees set log fanout child reference offered.Rising = Unit {0}
OfferStageAgrees set log fanout child reference offered.Waiting = Unit {0}
OfferStageAgrees set log fanout child reference offered.Accepted =
    IsTrue (has_got log (parent fanout child) reference)
OfferStageAgrees set log fanout child reference offered.Refused = IsRefused set log reference

-- and its bytes are a content
abbrev pub OfferAgrees : Setting → Log → ℕ → ℕ → BlobRef → List ℕ → OfferStage → Type 0
OfferAgrees set log fanout child reference bytes stage = IsBlob set log reference bytes
    × OfferStageAgrees set log fanout child reference stage

-- what a load may be told, where rank 0 had nothing: it had nothing when the command asked, and
-- neither had the broker
abbrev pub IsMissing : Setting → Log → By → Request → BlobRef → Type 0
IsMissing set log by request reference =
    (has_got (before_asked by log) 0 reference ≡ false)
    × (IsStoredAt set (before_asked by log) request.broker reference → ⊥)

-- a broker that gave a content as clean has got it
abbrev pub IsFrom : Log → ℕ → BlobRef → Gift → Type 0
IsFrom log broker reference gift = gift.clean ≡ true → IsTrue (has_got log broker reference)

-- what comes down to a load: a content, which the broker above has got where it is clean there, or
-- that there is none
abbrev pub GiftAgrees : Setting → Log → ℕ → ℕ → By → Request → BlobRef → Option Gift → Type 0
GiftAgrees set log fanout child by request reference (Some gift) =
    IsBlob set log reference gift.bytes × IsFrom log (parent fanout child) reference gift
GiftAgrees set log fanout child by request reference None = IsMissing set log by request reference

-- what the log says of a want on its way up: what was stored at its broker before is at rank 0
abbrev pub WantStageAgrees : Setting → Log → ℕ → ℕ → By → Request → BlobRef → WantStage → Type 0
WantStageAgrees set log fanout child by request reference wanted.Rising =
    IsStoredAt set (before_asked by log) request.broker reference → IsTrue (has_got log 0 reference)
WantStageAgrees set log fanout child by request reference (wanted.Falling gift) =
    GiftAgrees set log fanout child by request reference gift

-- a command has asked at the broker to load the reference
pub record IsLoading (set : Setting) (log : Log) (by : By)
    (broker : ℕ) (reference : BlobRef) : Type 0 where
  pub asked : IsTrue (is_asked by log)
  pub request : Request
  pub made : set.asks by ≡ Some request
  pub home : request.broker ≡ broker
  pub loads : request.ask ≡ ask.Load reference

-- what the log says of a load that waits
pub record WantAgrees (set : Setting) (log : Log) (fanout : ℕ) (want : Want) : Type 0 where
  pub loading : IsLoading set log want.by want.broker want.reference
  pub staged : WantStageAgrees set log fanout want.child
      want.by loading.request want.reference want.stage

-- the contents stand where the log leaves them, the service having this setting
pub record AgreesContent (v : ContentValue) (set : Setting) (log : Log) : Type 0 where
  pub size : set.size ≡ size_of v
  pub fanout : set.fanout ≡ v.fanout
  pub hash : set.hash ≡ v.hash
  pub root : (reference : BlobRef) → has_got log 0 reference ≡ is_some (blob_at reference v.store)
  pub above : (broker : ℕ) (reference : BlobRef) → 0 < broker
      → broker < size_of v → IsTrue (has_got log broker reference)
      → IsTrue (has_got log (parent v.fanout broker) reference)
  pub store : (reference : BlobRef) (bytes : List ℕ)
      → blob_at reference v.store ≡ Some bytes → IsBlob set log reference bytes
  pub nodes : (broker : ℕ) → broker < size_of v → NodeAgrees set log broker (node_at v broker)
  pub offers : (k : ℕ) (d : Offer) → k < length v.offers
      → OfferAgrees set log v.fanout (slice_index_or v.offers k d).child
      (slice_index_or v.offers k d).reference (slice_index_or v.offers k d).bytes
      (slice_index_or v.offers k d).stage
  pub wants : (k : ℕ) (d : Want) → k < length v.wants
      → WantAgrees set log v.fanout (slice_index_or v.wants k d)

-- what was stored at a broker is dirty there, or the broker has got it, or it was refused
abbrev pub IsKept : ContentValue → Setting → Log → ℕ → BlobRef → Type 0
IsKept v set log broker reference = IsDirty v broker reference
    ⊎ IsTrue (has_got log broker reference) ⊎ IsRefused set log reference

-- a flush at the broker is still to tell that the reference was refused
abbrev pub IsNoted : ContentValue → ℕ → BlobRef → Type 0
IsNoted v broker reference = IsTrue (list_any (same_reference reference) (node_at v broker).refused)

-- with these events, which are legal, the new contents stand where the log leaves them, and keep
-- what was stored
pub record Follows (old new : ContentValue) (events : List KvsEvent)
    (set : Setting) (log : Log) : Type 0 where
  pub legal : IsLegalAfter set log (map Happened events)
  pub agrees : AgreesContent new set (log ++ map Happened events)
  pub kept : (broker : ℕ) (reference : BlobRef)
      → broker < size_of old → IsKept old set log broker reference
      → IsKept new set (log ++ map Happened events) broker reference

-- so it is after whatever log agrees with the old contents
abbrev pub FollowsAlways : ContentValue → ContentValue → List KvsEvent → Type 0
FollowsAlways old new events = (set : Setting) (log : Log)
    → AgreesContent old set log → Follows old new events set log

-- the answer to a load that finds bytes, or none
abbrev pub told_so : Option (List ℕ) → KvsAnswer
told_so (Some bytes) = answer.Blob bytes
told_so None = answer.NoBlob

-- a load may be told so
abbrev pub MayTell : Setting → Log → By → Option (List ℕ) → Type 0
MayTell set log by told = (request : Request) × (set.asks by ≡ Some request)
    × HasGrounds set log by request (told_so told) None

-- what a load comes to, which a command may be told where it doesn't wait
abbrev pub MayLoad : Setting → Log → By → Load → Type 0
MayLoad set log by load.Waits = Unit {0}
MayLoad set log by (load.Told bytes) = MayTell set log by bytes

-- what a delivery answers, if it answers a load
abbrev pub MayAnswer : Setting → Log → Option Answer → Type 0
MayAnswer set log None = Unit {0}
MayAnswer set log (Some told) = MayTell set log told.by told.bytes

-- a command has asked to load the reference at the broker, where all that was stored is kept
pub record IsLoad (v : ContentValue) (set : Setting)
    (log : Log) (by : By) (broker : ℕ) (reference : BlobRef) : Type 0 where
  pub loading : IsLoading set log by broker reference
  pub kept : IsStoredAt set (before_asked by log) broker reference
      → IsKept v set log broker reference

-- what a broker finds under a reference agrees: rank 0 has nothing where it got nothing, and a
-- broker has got what it has clean
abbrev pub IsFound : Setting → Log → BlobRef → ℕ → WantStage → Type 0
IsFound set log reference broker wanted.Rising = 0 < broker
IsFound set log reference broker (wanted.Falling None) =
    (broker ≡ 0) × (has_got log 0 reference ≡ false)
IsFound set log reference broker (wanted.Falling (Some gift)) =
    IsBlob set log reference gift.bytes × IsFrom log broker reference gift

-- what became of a content at rank 0: it has got it, or other bytes stand there under the reference
abbrev pub IsRuled : Setting → Log → BlobRef → Bool → Type 0
IsRuled set log reference true = IsTrue (has_got log 0 reference)
IsRuled set log reference false = IsRefused set log reference
