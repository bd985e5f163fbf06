-- The terms of the worked examples, those of `Terms::PLAIN`.
use Rattle.std.specs.Prelude.{true}
use Rattle.manager_rules.specs.declared.policy.Policy.TheVariants.{FirstFit}
use Rattle.manager_rules.specs.declared.terms.Shown.{Shown}
use Rattle.manager_rules.specs.declared.terms.Terms.{Terms}
use Rattle.manager_rules.specs.Limits.{no_limits}

abbrev all_shown : Shown
all_shown = record {
  submit = true;
  validate = true;
  dependency_add = true;
  dependency_remove = true;
  depend = true;
  priority = true;
  urgency = true;
  alloc = true;
  flux_restart = true;
  start = true;
  finish = true;
  exception = true;
  release = true;
  free = true;
  clean = true;
}

abbrev pub plain_terms : Terms
plain_terms = record { weights = record { urgency = 1; cores = 0 }; policy = FirstFit; limits = no_limits; shown = all_shown }
