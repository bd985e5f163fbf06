use Rattle.std.proofs.Common.{◌≡◌, ◌==◌, Some, cond, nat_eq, ap, ◌∙◌, rules}
use Rattle.indexmap.specs.IndexMap.{insert_entry}
use Rattle.job_manager.specs.Places.{place_in}
use Rattle.job_manager.proofs.Placing.{place-put}
use Rattle.job_manager.proofs.places.LogPlaces.put.Goals as goal

pub returns : goal.returns
returns c = λ other.
    let es = c.self.inside.paths.entries in
    let put : c.insert.new.self.entries ≡ insert_entry nat_eq es c.args.id c.in_ok-path.path = search rules in
    ap (place_in other) put
    ∙ place-put other es c.args.id c.in_ok-path.path
    ∙ (λ j. cond (other == c.args.id) (Some (c.in_ok-path.ensures j)) (place_in other (c.self.view_is j)))
