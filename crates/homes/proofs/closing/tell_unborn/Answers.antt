use Rattle.std.proofs.Common.{◌≡◌, ◌∙◌, ◌++◌, arith, ap, count_by, length, map, sym}
use Rattle.std.specs.List.{range_with_len}
use Rattle.instance.specs.answers.Commands.{commands_of}
use Rattle.hierarchy.proofs.Parts.{lines_counted}
use Rattle.instance.specs.Agrees.{is_of}
use Rattle.homes.proofs.Telling.{replies_more, unborn_told}
use Rattle.homes.proofs.closing.tell_unborn.Goals as goal

pub loop-command-preserved : goal.loop-command-preserved
loop-command-preserved c =
    replies_more c.args.actor c.loop-command.command c.args.chronicle.now c.loop-command.chronicle c.push.new.self c.unborn_reply.result c.loop-command.invariant c.unborn_reply.ensures c.in_ok-push.ensures.added

pub returns : goal.returns
returns c =
    let high = c.loop-command.auto.command-end in
    let low = c.loop-command-test.false in
    let last : c.loop-command.command ≡ c.count_lines-command-end.result = omega arith in
    let all : c.loop-command.command ≡ length (commands_of c.args.work.now c.args.actor) =
    last ∙ c.count_lines-command-end.ensures ∙ ap (λ ls. count_by (is_of c.args.actor) ls) c.as_slice.ensures ∙ sym (lines_counted c.args.actor c.args.work.now.lines) in
    c.loop-command.invariant ∙ ap (λ n. c.args.chronicle.now ++ map (unborn_told c.args.actor) (range_with_len 0 n)) all
