use Rattle.std.proofs.Common.{◌≡◌, ◌∙◌, ap, sym, subst, true≢false}
use Rattle.std.specs.Prelude.{Ok}
use Rattle.instance.specs.kvs_keys.Walk.{nth}
use Rattle.instance.proofs.kvs_keys_proofs.Walking.{within}
use Rattle.world.specs.Order.{before_end, by_instances}
use Rattle.world.specs.Sound.{IsRunning}
use Rattle.world.specs.Walks.{by_the_run}
use Rattle.world.proofs.Choosing.{both_parts, listed_at, made_at, none_there}
use Rattle.world.proofs.Losing.{unlost}
use Rattle.world.proofs.Numbering.{got}
use Rattle.world.proofs.Resting.{first_plain}
use Rattle.world.proofs.run.World.first_of_all.Goals.{In-Ok}
use Rattle.world.proofs.run.World.first_of_all.Goals as goal

-- it is the first of all that can be made before the end
here : (c : In-Ok) → nth (before_end c.args.self.now) 0 ≡ Ok c.in-Ok.step
here c =
    let v = c.args.self.now in
    ap (λ xs. nth xs 0) (sym (both_parts v)) ∙ within (by_instances v) (by_the_run v) 0 c.in-Ok.step (sym c.in-Ok.ensures)

pub returns-in-Ok-clause-first : goal.returns-in-Ok-clause-first
returns-in-Ok-clause-first c = sym (got (by_instances c.args.self.now) 0 c.in-Ok.step (sym c.in-Ok.ensures))

pub returns-in-Ok-clause-some : goal.returns-in-Ok-clause-some
returns-in-Ok-clause-some c =
    let h = c.self.invariant (ap (λ v. v.spent) c.self.view_is ∙ c.requires.ready) in
    let running = subst IsRunning c.self.view_is (h.runs (ap (λ v. v.closed) c.self.view_is ∙ c.requires.runs)) in
    made_at c.args.self.now c.requires.runs running 0 c.in-Ok.step (here c)

pub returns-in-Ok-clause-may : goal.returns-in-Ok-clause-may
returns-in-Ok-clause-may c = λ lost. absurd (true≢false (sym lost ∙ unlost c.args.self.now c.in-Ok.step (listed_at (before_end c.args.self.now) 0 c.in-Ok.step (here c))))

pub returns-in-Ok-clause-goes_on : goal.returns-in-Ok-clause-goes_on
returns-in-Ok-clause-goes_on c = first_plain c.args.self.now c.in-Ok.step (sym c.in-Ok.ensures)

pub returns-in-Err-clause-first : goal.returns-in-Err-clause-first
returns-in-Err-clause-first c = sym (none_there (by_instances c.args.self.now) c.in-Err.field-0 (sym c.in-Err.ensures))
