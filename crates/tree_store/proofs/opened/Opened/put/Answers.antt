use Rattle.std.proofs.Common.{◌≡◌, Some, ap, ◌∙◌}
use Rattle.tree_objects.specs.Level.{tree_of}
use Rattle.tree_rules.specs.Objects.{Entries}
use Rattle.tree_store.specs.Shown.{opened_at, Directories, keyed}
use Rattle.std.specs.Prelude.{None}
use Rattle.tree_store.proofs.Keyed.{find_keyed, Rows}
use Rattle.std.proofs.lemmas.Result.{on_ok_weaker}
use Rattle.tree_store.proofs.Rewritten.{text_of_last, object_put, unput, unput_root}
use Rattle.tree_store.proofs.opened.Opened.put.Goals as goal

pub returns-in_default : goal.returns-in_default
returns-in_default c = unput_root c.args.self.now c.args.path.now (tree_of c.args.object) c.in_default.ensures.cases

pub put-requires : goal.put-requires
put-requires c = text_of_last c.args.path.now c.in-Some.above.now c.in-Some.name.now c.in-Some.ensures.cases.0 c.requires

pub returns : goal.returns
returns c =
    let rows : Rows = c.self.inside.directories.entries in
    let new : Entries = c.put.new.self in
    let found : Some c.in-Some-get_mut.directory.now ≡ opened_at c.args.self.now c.in-Some.above.now = c.in-Some-get_mut.ensures.value ∙ find_keyed c.in-Some.above.now rows ∙ ap (λ (ds : Directories). opened_at ds c.in-Some.above.now) c.self.view_is in
    on_ok_weaker c.put.result (λ put. object_put rows (c.get_mut.follows.lender new).entries c.args.self.now c.args.path.now c.in-Some.above.now c.in-Some.name.now c.in-Some-get_mut.directory.now new c.self.view_is c.in-Some.ensures.cases.0 found (c.get_mut.follows.holds new).0 c.in-Some-get_mut.ensures.ordered (tree_of c.args.object) put) c.put.ensures.put

pub returns-in_default-get_mut : goal.returns-in_default-get_mut
returns-in_default-get_mut c =
    let found : None ≡ opened_at c.args.self.now c.in-Some.above.now = c.in_default-get_mut.ensures.value ∙ find_keyed c.in-Some.above.now c.self.inside.directories.entries ∙ ap (λ (ds : Directories). opened_at ds c.in-Some.above.now) c.self.view_is in
    ap (λ m. keyed m.entries) c.get_mut.follows.holds-at-none ∙ c.self.view_is ∙ unput c.args.self.now c.args.path.now c.in-Some.above.now c.in-Some.name.now (tree_of c.args.object) c.in-Some.ensures.cases.0 found
