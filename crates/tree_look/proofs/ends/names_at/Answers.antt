use Rattle.std.proofs.Common.{◌≡◌, Option, sym, ap, ◌∙◌, subst}
use Rattle.std.specs.Prelude.{is_some as is_there}
use Rattle.kvs_txn.specs.declared.answers.Found.TheVariants as found
use Rattle.kvs_model.specs.Store.{names_in}
use Rattle.std.specs.Prelude.{map, IfSome}
use Rattle.tree_rules.specs.Objects.{Entries, listed}
use Rattle.tree_rules.specs.Texts.{objects, objects_in}
use Rattle.tree_look.specs.Legs.{shown}
use Rattle.tree_look.proofs.Ending.{misses_one, needs_one, none_is, some_is}
use Rattle.tree_look.proofs.Stored.{names_shown}
use Rattle.tree_look.proofs.ends.names_at.Goals as goal

pub returns-in_default : goal.returns-in_default
returns-in_default g c = λ h st top p reads there named.
    misses_one (found.Names (names_in st p)) (g.T.Texts.seen c.args.texts.now) c.args.passed.now.items c.args.reference.now
    (none_is ((g.T.Texts.seen c.args.texts.now) c.args.reference.now) (sym c.in_ok-found.ensures.known ∙ ap is_there c.in_default.is))

pub returns : goal.returns
returns g c = λ h st top p reads there named.
    let listed_as = subst (λ (o : Option Entries). IfSome o (λ es. listed es ≡ objects_in p (objects h st))) c.in-Some.is (c.in_ok-found.ensures.told h st top p reads there named) in
    needs_one (found.Names (names_in st p)) (g.T.Texts.seen c.args.texts.now) c.args.passed.now.items c.push.new.self.items c.args.reference.now (found.Names c.in_ok-names.names)
    (ap found.Names (c.in_ok-names.ensures ∙ ap (map shown) listed_as ∙ names_shown h st p))
    (some_is ((g.T.Texts.seen c.args.texts.now) c.args.reference.now) (sym c.in_ok-found.ensures.known ∙ ap is_there c.in-Some.is)) c.in_ok-push.ensures.items
