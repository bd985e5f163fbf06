use Rattle.std.proofs.Common.{subst, sym, []}
use Rattle.kvs_content.specs.Value.{node_at}
use Rattle.content_service.specs.declared.rows.ContentAsk.TheVariants as content
use Rattle.content_service.specs.Served.{IsServed}
use Rattle.content_service.proofs.Answering.{flush-served}
use Rattle.content_service.proofs.serving.flush.Goals as goal

pub returns : goal.returns
returns c = λ by.
    let e = c.flush.ensures in
    let served = flush-served c.args.contents.now c.flush.new.self c.args.broker c.requires.within (node_at c.flush.new.self c.args.broker) e.rest c.flush.result e.told by e.sound e.agrees in
    subst (λ es. IsServed c.args.contents.now c.flush.new.self by c.args.broker content.Flush (record { stage = c.flushed-stage.result; events = es })) (sym c.new-events.ensures)
    (subst (λ s. IsServed c.args.contents.now c.flush.new.self by c.args.broker content.Flush (record { stage = s; events = [] })) (sym c.flushed-stage.ensures) served)
