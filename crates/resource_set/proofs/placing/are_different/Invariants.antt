use Rattle.std.proofs.Common.{◌≡◌, List, ℕ, true, take}
use Rattle.std.specs.List.{list_any}
use Rattle.std.specs.Ordering.{nat_cmp}
use Rattle.std.specs.Cmp.Lexicographic.{slice_cmp}
use Rattle.std.specs.BTreeSet.{contains}
use Rattle.std.specs.Str.{bytes_eq}
use Rattle.resource_set.specs.Reading.{are_distinct}
use Rattle.resource_set.proofs.placing.are_different.Given as goal

abbrev pub invariant-loop-name : goal.invariant-loop-name
invariant-loop-name l = record {
  seen : (name : List ℕ) → contains (slice_cmp nat_cmp) l.seen name ≡ list_any (bytes_eq name) (take l.name-index l.names);
  distinct : are_distinct (take l.name-index l.names) ≡ true;
}
