use Rattle.kvs_keys.specs.Agrees.{Agrees}
use Rattle.kvs_keys.proofs.Asking.{asked-request, known-ask}
use Rattle.kvs_keys.proofs.Moving.{may-post, on-ok, posted-request}
use Rattle.kvs_keys.proofs.service.Keys.request.Goals as goal

pub command-requires-clause-known : goal.command-requires-clause-known
command-requires-clause-known c = known-ask c.args.request c.in-Command.by c.in-Command.namespace c.in-Command.floor c.in-Command.ask c.in-Command.is c.requires.known

pub post-requires-clause-can : goal.post-requires-clause-can
post-requires-clause-can c = may-post c.args.self.now c.args.request c.in-Manager.command c.in-Manager.txn c.in-Manager.is c.requires.may

pub returns-in-Command-clause-agrees : goal.returns-in-Command-clause-agrees
returns-in-Command-clause-agrees c =
    on-ok c.command.result
    (λ h set log a made. asked-request c.args.self.now set log c.args.broker c.args.request c.in-Command.by c.in-Command.namespace c.in-Command.floor c.in-Command.ask c.in-Command.is made (λ later. Agrees c.command.new.self set later) (h set log a))
    c.command.ensures.agrees

pub returns-in-Manager-clause-agrees : goal.returns-in-Manager-clause-agrees
returns-in-Manager-clause-agrees c =
    on-ok c.post.result
    (λ h set log a made. posted-request c.args.self.now set log c.args.request c.in-Manager.command c.in-Manager.txn c.in-Manager.is (λ later. Agrees c.post.new.self set later) (h set log a))
    c.post.ensures.agrees
