-- The terms of the program's own runs.
use Rattle.std.specs.Prelude.{true}
use Rattle.world.specs.manager_rules.declared.terms.Shown.{Shown}

-- every event is shown
abbrev pub every_event : Shown
every_event = record {
  submit = true;
  validate = true;
  dependency_add = true;
  dependency_remove = true;
  depend = true;
  priority = true;
  urgency = true;
  alloc = true;
  flux_restart = true;
  start = true;
  finish = true;
  exception = true;
  release = true;
  free = true;
  clean = true;
}
