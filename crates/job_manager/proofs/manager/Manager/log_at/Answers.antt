use Rattle.std.proofs.Common.{◌≡◌, ◌∙◌, ◌<◌, ◌^◌, Some, None, ap, arith, rules}
use Rattle.std.specs.Option.{option_copied}
use Rattle.job_manager.specs.Places.{log_seen, place_in}
use Rattle.job_manager.specs.View.{value_of}
use Rattle.job_manager.proofs.Placing.{nothing-seen, seen-there}
use Rattle.job_manager.proofs.manager.Manager.log_at.Goals as goal

pub returns-in-None : goal.returns-in-None
returns-in-None c =
    let v = value_of c.self.inside in
    let m = c.self.invariant (ap (λ w. w.spent) c.self.view_is ∙ c.requires.ready) in
    let small : c.args.id < 2 ^ 64 = omega arith in
    let none : place_in c.args.id v.places ≡ None = search rules in
    nothing-seen v m c.args.broker c.args.id small none ∙ ap (λ w. log_seen w.core c.args.broker c.args.id) c.self.view_is

pub returns-in-Some : goal.returns-in-Some
returns-in-Some c =
    let v = value_of c.self.inside in
    let m = c.self.invariant (ap (λ w. w.spent) c.self.view_is ∙ c.requires.ready) in
    let e = c.kept.ensures in
    let there : place_in c.args.id v.places ≡ Some c.in-Some.path.now = search rules in
    seen-there v c.args.broker c.args.id c.in-Some.path.now e.0 (option_copied c.kept.result) (m.places.right c.args.id c.in-Some.path.now there) e.1 e.2
    ∙ ap (λ w. log_seen w.core c.args.broker c.args.id) c.self.view_is
