use Rattle.std.proofs.Common.{◌≡◌, Some, ap, ◌∙◌}
use Rattle.tree_rules.specs.Objects.{Entries}
use Rattle.tree_store.specs.Shown.{opened_at, Directories, keyed}
use Rattle.std.specs.Prelude.{None}
use Rattle.tree_store.proofs.Keyed.{find_keyed, Rows}
use Rattle.tree_store.proofs.Rewritten.{object_taken, untaken}
use Rattle.tree_store.proofs.opened.Opened.take.Goals as goal

pub returns : goal.returns
returns c =
    let rows : Rows = c.self.inside.directories.entries in
    let new : Entries = c.take_out.new.directory in
    let found : Some c.in-Some-get_mut.directory.now ≡ opened_at c.args.self.now c.in-Some.above.now = c.in-Some-get_mut.ensures.value ∙ find_keyed c.in-Some.above.now rows ∙ ap (λ (ds : Directories). opened_at ds c.in-Some.above.now) c.self.view_is in
    object_taken rows (c.get_mut.follows.lender new).entries c.args.self.now c.args.path.now c.in-Some.above.now c.in-Some.name.now c.in-Some-get_mut.directory.now new c.self.view_is c.in-Some.ensures.cases.0 found (c.get_mut.follows.holds new).0 c.in-Some-get_mut.ensures.ordered c.take_out.ensures

pub returns-in_default-get_mut : goal.returns-in_default-get_mut
returns-in_default-get_mut c =
    let found : None ≡ opened_at c.args.self.now c.in-Some.above.now = c.in_default-get_mut.ensures.value ∙ find_keyed c.in-Some.above.now c.self.inside.directories.entries ∙ ap (λ (ds : Directories). opened_at ds c.in-Some.above.now) c.self.view_is in
    ap (λ m. keyed m.entries) c.get_mut.follows.holds-at-none ∙ c.self.view_is ∙ untaken c.args.self.now c.args.path.now c.in-Some.above.now c.in-Some.name.now c.in-Some.ensures.cases.0 found
