-- Which deliveries can be made, and what the calls do to the loads that wait.
use Rattle.std.specs.Prelude.{◌≡◌, ℕ, Bool, false, ◌||◌, List, Option, Some, None, if◌then◌else◌}
use Rattle.std.specs.List.{list_any}
use Rattle.fl_digest.specs.declared.BlobRef.{BlobRef}
use Rattle.cache_node.specs.Cache.{dirty_at}
use Rattle.kvs_txn.specs.declared.txn.By.{By}
use Rattle.kvs_rules.specs.Log.{same_command}
use Rattle.kvs_content.specs.declared.outcomes.Answer.{Answer}
use Rattle.kvs_content.specs.declared.outcomes.Load.{Load}
use Rattle.kvs_content.specs.declared.outcomes.Load.TheVariants as load
use Rattle.kvs_content.specs.Messages.{is_offer_of, is_offer_on, is_want_on}
use Rattle.kvs_content.specs.Value.{ContentValue, node_at, size_of}

-- whether a message is on the link between two brokers
abbrev pub can_deliver : ContentValue → ℕ → ℕ → Bool
can_deliver v from to = list_any (is_offer_on v.fanout from to) v.offers
    || list_any (is_want_on v.fanout from to) v.wants

-- no message is on any link
abbrev pub AreLinksEmpty : ContentValue → Type 0
AreLinksEmpty v = (from to : ℕ) → can_deliver v from to ≡ false

-- the contents of the same instance
pub record AreAlike (old new : ContentValue) : Type 0 where
  pub size : size_of new ≡ size_of old
  pub fanout : new.fanout ≡ old.fanout
  pub hash : new.hash ≡ old.hash

-- one for the load of a command that comes to wait
abbrev pub waiting : By → By → Load → ℕ
waiting by other load.Waits = if same_command by other then 1 else 0
waiting by other (load.Told bytes) = 0

-- one for the load of a command that is answered
abbrev pub answered : By → Option Answer → ℕ
answered by None = 0
answered by (Some told) = if same_command told.by by then 1 else 0

-- no more contents are dirty, and the same ones are offered
pub record IsLighter (old new : ContentValue) : Type 0 where
  pub dirty : (broker : ℕ) (reference : BlobRef) (bytes : List ℕ)
      → dirty_at reference (node_at new broker).cache ≡ Some bytes
      → dirty_at reference (node_at old broker).cache ≡ Some bytes
  pub offered : (broker : ℕ) (reference : BlobRef) (bytes : List ℕ)
      → list_any (is_offer_of broker reference bytes) new.offers
      ≡ list_any (is_offer_of broker reference bytes) old.offers
