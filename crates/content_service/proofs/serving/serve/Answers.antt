use Rattle.std.proofs.Common.{IfOk, subst, sym}
use Rattle.content_service.specs.declared.rows.ContentAsk.TheVariants as content
use Rattle.content_service.specs.Served.{IsServed}
use Rattle.content_service.proofs.Answering.{for-this}
use Rattle.content_service.proofs.serving.serve.Goals as goal

pub returns-in-Store : goal.returns-in-Store
returns-in-Store c =
    subst (λ asks. IfOk c.store.result (IsServed c.args.contents.now c.store.new.contents c.args.by c.args.broker asks)) (sym c.in-Store.is)
    (for-this c.store.result (λ by made. IsServed c.args.contents.now c.store.new.contents by c.args.broker (content.Store c.in-Store.bytes) made) c.args.by c.store.ensures)

pub returns-in-Flush : goal.returns-in-Flush
returns-in-Flush c =
    subst (λ asks. IsServed c.args.contents.now c.flush.new.contents c.args.by c.args.broker asks c.flush.result) (sym c.in-Flush.is) (c.flush.ensures c.args.by)

pub returns-in-DropClean : goal.returns-in-DropClean
returns-in-DropClean c =
    subst (λ asks. IfOk c.drop_clean.result (IsServed c.args.contents.now c.drop_clean.new.contents c.args.by c.args.broker asks)) (sym c.in-DropClean.is)
    (for-this c.drop_clean.result (λ by made. IsServed c.args.contents.now c.drop_clean.new.contents by c.args.broker content.DropClean made) c.args.by c.drop_clean.ensures)
