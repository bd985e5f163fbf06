use Rattle.std.proofs.Common.{Some, Option, subst}
use Rattle.tree_objects.specs.declared.object.Object.{Object}
use Rattle.tree_look.specs.Legs.{EndsAt}
use Rattle.std.specs.Prelude.{Bool}
use Rattle.tree_look.proofs.Ending.{LastTells, AlongTells, ends_none, ends_part, ends_whole, whole_told}
use Rattle.tree_look.proofs.Stored.{ok_by}
use Rattle.tree_look.proofs.ends.found.Goals as goal

pub returns-in_default : goal.returns-in_default
returns-in_default g c = λ h st top path reads ends.
    ends_none h st c.args.asked path c.args.whole (g.T.Texts.seen c.args.texts.now) c.args.passed.now.items (subst (λ (o : Option Object). EndsAt h st path o c.args.whole) c.in_default.is ends)

pub returns-then-not-whole : goal.returns-then-not-whole
returns-then-not-whole g c = λ h st top path reads ends.
    ends_part h st c.args.asked path c.in-Some.object (g.T.Texts.seen c.args.texts.now) c.args.passed.now.items
    (subst (λ (b : Bool). EndsAt h st path (Some c.in-Some.object) b) c.if-not-whole.true (subst (λ (o : Option Object). EndsAt h st path o c.args.whole) c.in-Some.is ends))

pub returns : goal.returns
returns g c = λ h st top path reads ends.
    let object = c.in-Some.object in
    let whole = ends_whole h st path object
    (subst (λ (b : Bool). EndsAt h st path (Some object) b) c.if-not-whole.false (subst (λ (o : Option Object). EndsAt h st path o c.args.whole) c.in-Some.is ends)) in
    let texts = (g.T.Texts.seen c.args.texts.now) in
    let old = c.args.passed.now.items in
    let new = c.last.new.passed.items in
    ok_by (LastTells h st c.args.asked path whole.node texts old new) (AlongTells h st c.args.asked path texts old new)
    (λ told tells. whole_told h st c.args.asked path object texts old new told whole tells)
    c.last.result (c.last.ensures h st top path whole.node reads whole.is.there whole.is.stored)
