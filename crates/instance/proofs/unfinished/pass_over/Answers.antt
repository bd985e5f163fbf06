use Rattle.std.proofs.Common.{◌≡◌, ◌++◌, ◌-◌, ◌+◌, ◌≤◌, ◌∙◌, ◌∷◌, [], ℕ, inl, inr, None, sym, ap, arith, append_assoc, map}
use Rattle.std.specs.List.{range_with_len}
use Rattle.std.proofs.lemmas.List.FromFn.{map-range_with_len_more}
use Rattle.services.specs.answers.declared.chronicle.Entry.{Entry}
use Rattle.services.specs.answers.declared.chronicle.Entry.TheVariants as entry
use Rattle.services.specs.answers.declared.chronicle.Reply.TheVariants as reply
use Rattle.instance.specs.Closings.{not_reached}
use Rattle.instance.proofs.unfinished.pass_over.Goals as goal

pub loop-command-preserved : goal.loop-command-preserved
loop-command-preserved c =
    let i = c.loop-command.invariant in
    let at = c.loop-command.command in
    let from = c.args.from in
    let f : ℕ → Entry = λ n. entry.Replied c.args.actor n reply.NotReached None in
    let above : from ≤ at = i.above in
    let one : at + 1 - from ≡ (at - from) + 1 = omega arith in
    let more = map-range_with_len_more f from (at - from) at (omega arith) in
    record {
      chronicle = c.in_ok-push.ensures.added
          ∙ ap (λ es. es ++ f at ∷ []) i.chronicle
          ∙ append_assoc c.args.chronicle.now _ _
          ∙ ap (λ es. c.args.chronicle.now ++ es) (sym more)
          ∙ ap (λ n. c.args.chronicle.now ++ map f (range_with_len from n)) (sym one);
      above = omega arith;
      within = inl (omega (arith, c.loop-command-test.true));
    }

pub returns : goal.returns
returns c =
    let i = c.loop-command.invariant in
    let at = c.loop-command.command in
    let from = c.args.from in
    let to = c.args.to in
    let above : from ≤ at = i.above in
    let past : to ≤ at = c.loop-command-test.false in
    let same : at - from ≡ to - from = elim i.within [ inl low ↦ omega arith | inr start ↦ omega arith ] in
    i.chronicle ∙ ap (λ n. c.args.chronicle.now ++ not_reached c.args.actor from n) same
