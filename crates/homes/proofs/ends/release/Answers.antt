use Rattle.std.proofs.Common.{◌∙◌, Some, ap}
use Rattle.std.specs.Prelude.{option_map}
use Rattle.std.proofs.lemmas.Bool.{and_parts}
use Rattle.hierarchy.specs.Families.{living_in}
use Rattle.hierarchy.specs.Own.{own_of, setup_in}
use Rattle.hierarchy.proofs.Nested.{in_family, parent_lives}
use Rattle.homes.proofs.ends.release.Goals as goal

pub returns-clause-due : goal.returns-clause-due
returns-clause-due c = λ set d b run here birth job shut agrees. record {
  here = in_family set d b.child here;
  parent = living_in set d b.parent;
  lives = in_family set d b.parent (parent_lives set d run b.child b here birth);
  job = c.args.job;
  from = ap (option_map (λ x. (x.parent, x.job))) birth ∙ ap (λ j. Some (b.parent, j)) job;
  due = rw shut ((c.may_end.ensures.due (setup_in set d b.parent) (own_of set d b.parent) agrees).0 (and_parts _ _ c.requires.may).1);
}
