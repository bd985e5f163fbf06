use Rattle.content_service.proofs.Answering.{stored-served}
use Rattle.content_service.proofs.serving.store.Goals as goal

pub returns : goal.returns
returns c = λ by.
    let e = c.in_ok-reference.ensures in
    stored-served c.args.contents.now c.store.new.self by c.args.broker c.args.bytes c.in_ok-reference.field-0.reference c.in_ok-reference.field-0.events e.sound e.alike e.wants e.reference e.made e.follows e.kept
