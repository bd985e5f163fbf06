use Rattle.tree_objects.specs.Level.{paired}
use Rattle.tree_objects.proofs.Texts.{directory_whole}
use Rattle.tree_objects.proofs.pieces.directory_text.Goals as goal

pub returns-clause-canonical : goal.returns-clause-canonical
returns-clause-canonical c =
    directory_whole (paired c.args.names.now c.args.objects.now) c.in_ok-out.out.items c.extend_from_slice.new.self.items c.add_entries.new.out.items c.extend_from_slice-2.new.self.items
    c.in_ok-out.ensures.items c.in_ok-extend_from_slice.ensures.items c.in_ok-add_entries.ensures.added c.in_ok-extend_from_slice-2.ensures.items
