use Rattle.std.proofs.Common.{◌≡◌, Ok, sym, ap, ◌∙◌}
use Rattle.std.proofs.lemmas.Slice.Eq.{bytes_eq-Decides}
use Rattle.fl_json.specs.Reading.{reading}
use Rattle.tree_rules.specs.Objects.{dir, tree_data}
use Rattle.tree_objects.specs.Reading.{IsReadable}
use Rattle.tree_objects.proofs.Again.{tells_written}
use Rattle.tree_objects.proofs.scanning.at_once.Goals as goal

pub returns-then-eq : goal.returns-then-eq
returns-then-eq c =
    let tree = dir c.in_ok-directory.directory in
    let readable : IsReadable tree = c.has_flat.ensures.readable c.if-not-has_flat.false in
    let same : c.as_slice.result.now ≡ c.args.text.now = (bytes_eq-Decides c.as_slice.result.now c.args.text.now).0 (sym c.eq.ensures ∙ c.if-eq.true) in
    let read : reading c.args.text.now ≡ Ok (tree_data tree) = ap reading (sym same ∙ c.as_slice.ensures.value) ∙ c.in-Ok.ensures.read_again readable (c.has_flat.ensures.shallow c.if-not-has_flat.false) in
    (tree_data tree, read, tells_written tree readable)
