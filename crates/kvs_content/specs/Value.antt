-- The contents of an instance as the definitions see them.
use Rattle.std.specs.Prelude.{ℕ, List, length, slice_index_or}
use Rattle.fl_digest.specs.declared.Hash.{Hash}
use Rattle.fl_digest.specs.declared.BlobRef.{BlobRef}
use Rattle.kvs_content.specs.declared.offers.Offer.{Offer}
use Rattle.kvs_content.specs.declared.wants.Want.{Want}
use Rattle.kvs_content.specs.Node.{NodeValue, empty_node}

pub record ContentValue : Type 0 where
  pub fanout : ℕ
  pub hash : Hash
  pub store : List (BlobRef × List ℕ)  -- rank 0's contents, by their references
  pub nodes : List NodeValue  -- what each broker keeps
  pub offers : List Offer  -- the dirty contents on their way up, and what became of them
  pub wants : List Want  -- the loads that wait

-- how many brokers there are
abbrev pub size_of : ContentValue → ℕ
size_of v = length v.nodes

-- what a broker keeps
abbrev pub node_at : ContentValue → ℕ → NodeValue
node_at v broker = slice_index_or v.nodes broker empty_node
