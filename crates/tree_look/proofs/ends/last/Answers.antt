use Rattle.std.proofs.Common.{sym, subst}
use Rattle.std.specs.Prelude.{IfOk}
use Rattle.tree_look.specs.declared.Advance.TheVariants as advance
use Rattle.tree_look.proofs.Ending.{LastTells, link_last}
use Rattle.tree_look.proofs.ends.last.Goals as goal
use Rattle.kvs_txn.specs.declared.answers.Query.{Query}

pub returns-in-Get : goal.returns-in-Get
returns-in-Get g c = λ h st top p node reads there stored.
    subst (λ (q : Query). IfOk c.value.result (LastTells h st q p node (g.T.Texts.seen c.args.texts.now) c.args.passed.now.items c.value.new.passed.items)) (sym c.in-Get.is)
    (c.value.ensures h st top p node reads there stored)

pub returns-in-List : goal.returns-in-List
returns-in-List g c = λ h st top p node reads there stored.
    subst (λ (q : Query). IfOk c.names.result (LastTells h st q p node (g.T.Texts.seen c.args.texts.now) c.args.passed.now.items c.names.new.passed.items)) (sym c.in-List.is)
    (c.names.ensures h st top p node reads there stored)

pub returns-in-Link : goal.returns-in-Link
returns-in-Link g c = λ h st top p node reads there stored.
    subst (λ (q : Query). LastTells h st q p node (g.T.Texts.seen c.args.texts.now) c.args.passed.now.items c.args.passed.now.items (advance.Done c.target.result)) (sym c.in-Link.is)
    (link_last h st p node (g.T.Texts.seen c.args.texts.now) c.args.passed.now.items c.target.result (c.target.ensures h st p node there stored))
