use Rattle.kvs_content.specs.Value.{node_at}
use Rattle.content_service.proofs.Answering.{dropped-served}
use Rattle.content_service.proofs.serving.drop_clean.Goals as goal

pub returns : goal.returns
returns c = λ by.
    let e = c.in_ok-events.ensures in
    dropped-served c.args.contents.now c.drop_clean.new.self c.args.broker c.requires.within (node_at c.drop_clean.new.self c.args.broker) e.rest c.in_ok-events.events e.all by e.sound e.made e.follows
