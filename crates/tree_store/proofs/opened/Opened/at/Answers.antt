use Rattle.std.proofs.Common.{option_map, ap, ◌∙◌}
use Rattle.tree_objects.specs.Level.{tree_of}
use Rattle.tree_store.specs.Shown.{opened_at, Directories}
use Rattle.tree_store.proofs.Keyed.{find_keyed}
use Rattle.tree_store.proofs.Found.{object_found, object_none}
use Rattle.tree_store.proofs.opened.Opened.at.Goals as goal

pub returns-in_err-get : goal.returns-in_err-get
returns-in_err-get c =
    let found = c.in_err-get.ensures.value ∙ find_keyed c.in_ok-name.above.now c.self.inside.directories.entries ∙ ap (λ (ds : Directories). opened_at ds c.in_ok-name.above.now) c.self.view_is in
    ap (option_map (λ o. tree_of o.now)) c.from_residual-in_err-get.ensures
    ∙ object_none c.args.self.now c.args.path.now c.in_ok-name.above.now c.in_ok-name.name.now c.in_ok-name.ensures.cases.0 found

pub returns : goal.returns
returns c =
    let found = c.in_ok-get.ensures.value ∙ find_keyed c.in_ok-name.above.now c.self.inside.directories.entries ∙ ap (λ (ds : Directories). opened_at ds c.in_ok-name.above.now) c.self.view_is in
    c.get-2.ensures
    ∙ object_found c.args.self.now c.args.path.now c.in_ok-name.above.now c.in_ok-name.name.now c.in_ok-get.field-0.now c.in_ok-name.ensures.cases.0 found
