use Rattle.std.proofs.Common.{◌≡◌, List, Err, ap, subst}
use Rattle.outcomes.specs.Outcomes.{Fails}
use Rattle.event_log.proofs.ReadAgain.{log_back}
use Rattle.event_log.specs.declared.event.Event.{Event}
use Rattle.event_log.specs.declared.event.LogFault.TheVariants.{NoNewline, BadLine}
use Rattle.event_log.specs.Logs.{log_reading, lasting}
use Rattle.job_watch.proofs.watcher.events_of.Goals as goal

pub unreachable-requires : goal.unreachable-requires
unreachable-requires c =
    let told = log_back c.requires.0 c.requires.1 in
    let found : log_reading c.args.log.now ≡ Err NoNewline = subst (λ f. Fails {T = List Event} lasting f (log_reading c.args.log.now)) c.in-Err-NoNewline.field-0-is c.in-Err-NoNewline.ensures.log in
    cc (told, found, ap log_reading c.requires.2)

pub unreachable-requires-in-Err-BadLine : goal.unreachable-requires-in-Err-BadLine
unreachable-requires-in-Err-BadLine c =
    let told = log_back c.requires.0 c.requires.1 in
    let found : log_reading c.args.log.now ≡ Err (BadLine c.in-Err-BadLine.field-0-0 c.in-Err-BadLine.field-0-1) = subst (λ f. Fails {T = List Event} lasting f (log_reading c.args.log.now)) c.in-Err-BadLine.field-0-is c.in-Err-BadLine.ensures.log in
    cc (told, found, ap log_reading c.requires.2)

pub returns-in-Ok : goal.returns-in-Ok
returns-in-Ok c = λ events valid is.
    let read : c.in-Ok.events.items ≡ events = cc (c.in-Ok.ensures.log, log_back events valid, ap log_reading is) in
    read
