use Rattle.std.proofs.Common.{◌≡◌, ◌+◌, ◌*◌, take}
use Rattle.tree_objects.specs.Directories.{tree_size, entries_size}
use Rattle.tree_objects.specs.Level.{tree_of}
use Rattle.tree_objects.proofs.object.+copied.Given as goal

abbrev pub decreases-copy_object : goal.decreases-copy_object
decreases-copy_object l = 2 * tree_size (tree_of l.object.now) + 1

abbrev pub decreases-copy_map : goal.decreases-copy_map
decreases-copy_map l = 2 * entries_size l.map.now

abbrev pub invariant-copy_map-loop-index : goal.invariant-copy_map-loop-index
invariant-copy_map-loop-index l = l.twins.items ≡ take l.index l.objects
