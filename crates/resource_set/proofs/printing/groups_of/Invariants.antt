use Rattle.std.proofs.Common.{◌≡◌, ℕ, List, [], ◌∷◌, map, take}
use Rattle.std.specs.List.{AllByRecursion}
use Rattle.std.specs.Ordering.{nat_cmp}
use Rattle.std.specs.Cmp.Lexicographic.{slice_cmp}
use Rattle.std.specs.BTreeMap.{get}
use Rattle.resource_set.specs.Places.{place_of}
use Rattle.resource_set.specs.Writing.{entries_of, written, has_texts, IsWritten}
use Rattle.resource_set.proofs.printing.groups_of.Given as goal

abbrev pub invariant-loop-node : goal.invariant-loop-node
invariant-loop-node l = record {
  grouped : l.groups.items ≡ map written (entries_of (take l.node-index l.nodes));
  placed : (cores gpus : List ℕ) → get (slice_cmp (slice_cmp nat_cmp)) l.places (cores ∷ gpus ∷ []) ≡ place_of (has_texts cores gpus) l.groups.items;
  spelled : AllByRecursion IsWritten (entries_of (take l.node-index l.nodes));
}
