use Rattle.std.proofs.Common.{subst, sym}
use Rattle.content_service.specs.declared.rows.ContentAsk.TheVariants as content
use Rattle.content_service.specs.Served.{IsServed}
use Rattle.content_service.proofs.Answering.{load-served}
use Rattle.content_service.proofs.serving.load.Goals as goal

pub returns : goal.returns
returns c =
    let e = c.in_ok-load.ensures in
    subst (λ s. IsServed c.args.contents.now c.load.new.self c.args.by c.args.broker (content.Load c.args.reference) (record { stage = s; events = c.in_ok-load.field-0.events })) (sym c.loaded-stage.ensures)
    (load-served c.args.contents.now c.load.new.self c.args.by c.args.broker c.args.reference c.in_ok-load.field-0.load c.in_ok-load.field-0.events e.sound e.alike e.waits e.made e.follows e.told)
