use Rattle.std.proofs.Common.{◌≡◌, ◌≢◌, ℕ, ◌<◌, ◌≤◌, ◌+◌, ◌∙◌, ap, refl, subst, length, get_or}
use Rattle.std.proofs.lemmas.List.{length-append}
use Rattle.services.specs.workload.declared.work.Line.{Line}
use Rattle.instance.proofs.Beginning.{seats_push, first_placed, actor_got}
use Rattle.instance.proofs.actors.seated.Goals as goal

pub loop-actor-preserved : goal.loop-actor-preserved
loop-actor-preserved c =
    let work = c.args.work.now in
    let a = c.loop-actor.actor in
    let next = c.next_line.result in
    let lines = c.as_slice-lines.ensures in
    let within = subst (λ ls. next ≤ length ls) lines c.next_line.ensures.within.1 in
    let passed = subst (λ ls. (k : ℕ) (l : Line) → 0 ≤ k → k < next → (get_or ls k l).actor ≢ a) lines c.next_line.ensures.passed in
    let here = subst (λ ls. (l : Line) → next < length ls → (get_or ls next l).actor ≡ a) lines c.next_line.ensures.here in
    let at = c.at-item.is ∙ ap (λ xs. get_or xs a c.at-item.result) c.as_slice-at-items.ensures in
    let low : a < length work.actors = subst (λ xs. a < length xs) c.as_slice-at-items.ensures c.loop-actor-test.true in
    record {
      grown = ap length c.in_ok-push.ensures.items ∙ length-append _ _ ∙ ap (λ n. n + 1) c.loop-actor.invariant.grown;
      each = seats_push work c.loop-actor.seats.items work.actors a c.loop-actor.invariant.grown c.loop-actor.invariant.each _
          (λ e. record {
            home = ap (λ x. x.rank) (at ∙ actor_got work.actors a c.at-item.result e low);
            fresh = refl;
            free = refl;
            author = c.new.ensures.author;
            unstaged = c.new.ensures.ops;
            works = c.in_ok-of.ensures;
            unseen = c.new-in-loop-actor-2.ensures;
            placed = record { within = within; passed = first_placed work.lines a next within passed; here = here };
          })
          c.push.new.self.items c.in_ok-push.ensures.items;
    }
