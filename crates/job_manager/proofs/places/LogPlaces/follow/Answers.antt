use Rattle.std.proofs.Common.{ap, subst, sym}
use Rattle.job_manager.specs.Places.{ArePlaces}
use Rattle.job_manager.specs.Posts.{post_of}
use Rattle.manager_rules.specs.Posts.{jobs_after}
use Rattle.job_manager.proofs.Following.{on-ok}
use Rattle.job_manager.proofs.Placing.{places-begun, places-done}
use Rattle.job_manager.specs.Posts.{told}
use Rattle.job_manager.proofs.places.LogPlaces.follow.Goals as goal

pub returns-in-Submits : goal.returns-in-Submits
returns-in-Submits c =
    on-ok c.put.result
    (λ put. λ jobs h. subst (λ p. ArePlaces (jobs_after (post_of p) jobs) c.put.new.self) (sym c.in-Submits.is) (places-begun (told c.in-Submits.x) jobs c.args.self.now c.put.new.self put h))
    c.put.ensures

pub returns-in-Does : goal.returns-in-Does
returns-in-Does c = λ jobs h. places-done (post_of c.args.post.now) c.in-Does.field-0 (ap post_of c.in-Does.is) jobs c.args.self.now h
