use Rattle.std.proofs.Common.{◌≡◌, ◌∙◌, ap, sym, subst}
use Rattle.std.specs.Prelude.{Ok}
use Rattle.instance.specs.kvs_keys.Walk.{nth}
use Rattle.instance.proofs.kvs_keys_proofs.Walking.{behind, within}
use Rattle.world.specs.Order.{before_end, by_instances}
use Rattle.world.specs.Sound.{IsRunning}
use Rattle.world.specs.Walks.{by_the_run}
use Rattle.world.proofs.Choosing.{all_made, both_parts, made_at}
use Rattle.world.proofs.run.World.nth.Goals.{After-nth_of_all, After-nth_of_run, In-Ok}
use Rattle.world.proofs.run.World.nth.Goals as goal

running : (c : After-nth_of_all) → IsRunning c.args.self.now
running c =
    let h = c.self.invariant (ap (λ v. v.spent) c.self.view_is ∙ c.requires.ready) in
    subst IsRunning c.self.view_is (h.runs (ap (λ v. v.closed) c.self.view_is ∙ c.requires.runs))

here : (c : In-Ok) → Ok c.in-Ok.step ≡ nth (before_end c.args.self.now) c.args.number
here c =
    let v = c.args.self.now in
    sym (ap (λ xs. nth xs c.args.number) (sym (both_parts v)) ∙ within (by_instances v) (by_the_run v) c.args.number c.in-Ok.step (sym c.in-Ok.ensures))

later : (c : After-nth_of_run) → c.nth_of_run.result ≡ nth (before_end c.args.self.now) c.args.number
later c =
    let v = c.args.self.now in
    c.nth_of_run.ensures ∙ sym (ap (λ xs. nth xs c.args.number) (sym (both_parts v)) ∙ behind (by_instances v) (by_the_run v) c.args.number c.in-Err.left (sym c.in-Err.ensures))

pub returns-in-Ok-clause-value : goal.returns-in-Ok-clause-value
returns-in-Ok-clause-value c = here c

pub returns-in-Ok-clause-can : goal.returns-in-Ok-clause-can
returns-in-Ok-clause-can c = made_at c.args.self.now c.requires.runs (running (goal.at.returns-in-Ok-clause-can c).After-nth_of_all) c.args.number c.in-Ok.step (sym (here c))

pub returns-in-Err-clause-value : goal.returns-in-Err-clause-value
returns-in-Err-clause-value c = later c

pub returns-in-Err-clause-can : goal.returns-in-Err-clause-can
returns-in-Err-clause-can c = all_made c.args.self.now c.requires.runs (running (goal.at.returns-in-Err-clause-can c).After-nth_of_all) c.args.number c.nth_of_run.result (later c)
