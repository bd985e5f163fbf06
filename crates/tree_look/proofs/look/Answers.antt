use Rattle.std.proofs.Common.{ap, ◌∙◌, subst}
use Rattle.kvs_model.specs.OneStore.{own_walk}
use Rattle.tree_rules.specs.OneStore.{own_needs}
use Rattle.tree_store.specs.Landing.{table}
use Rattle.tree_look.specs.Looks.{EndTells}
use Rattle.tree_look.specs.declared.Advance.{Advance}
use Rattle.tree_look.proofs.Storing.{needs-nothing, read-there}
use Rattle.tree_look.proofs.look.Goals as goal

pub returns-in-Done : goal.returns-in-Done
returns-in-Done c = λ h st root.
    let path = c.as_slice.result.now in
    let told = subst (λ (a : Advance). EndTells (own_walk st c.args.asked path) (own_needs h st c.args.asked path) (table c.args.store.now) c.new-passed.result.items c.look_in.new.passed.items a) c.in-Done.is
    (c.in_ok-found.ensures h st (read-there h st c.args.root.now (table c.args.store.now) root)) in
    told.0 ∙ ap (own_walk st c.args.asked) c.as_slice.ensures

pub returns : goal.returns
returns c = λ h st root.
    let path = c.as_slice.result.now in
    let old = c.new-passed.result.items in
    let new = c.look_in.new.passed.items in
    let misses = subst (λ (a : Advance). EndTells (own_walk st c.args.asked path) (own_needs h st c.args.asked path) (table c.args.store.now) old new a) c.in-Needs.is
    (c.in_ok-found.ensures h st (read-there h st c.args.root.now (table c.args.store.now) root)) in
    absurd (needs-nothing h st c.args.root.now (table c.args.store.now) c.args.asked path old new c.in-Needs.field-0 root misses)
