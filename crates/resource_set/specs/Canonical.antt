-- What the entries of an R tell of its hosts.
use Rattle.std.specs.Prelude.{◌≡◌, ℕ, List, [], ◌∷◌, filter, slice_index_or}
use Rattle.resource_set.specs.declared.entries.Entry.{Entry}
use Rattle.resource_set.specs.declared.node.Node.{Node}
use Rattle.resource_set.specs.Reading.{has_rank}

-- the cores of two entries differ, or their GPUs
abbrev pub HaveOtherChildren : Entry → Entry → Type 0
HaveOtherChildren a b = a.cores ≡ b.cores → a.gpus ≡ b.gpus → ⊥

abbrev pub first_rank : Entry → ℕ
first_rank entry = slice_index_or entry.ranks 0 0

-- one entry and no other has the host's rank, and it has the host's cores and GPUs
pub record StandsInOne (entries : List Entry) (node : Node) : Type 0 where
  pub entry : Entry
  pub only : filter (has_rank node.rank) entries ≡ entry ∷ []
  pub cores : entry.cores ≡ node.cores
  pub gpus : entry.gpus ≡ node.gpus
