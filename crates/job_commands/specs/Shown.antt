-- The commands' value, from their fields.
use Rattle.std.specs.Prelude.{ℕ, List, map}
use Rattle.std.specs.Global.{Vec}
use Rattle.job_commands.specs.Rows.{CommandsValue, Labels}
use Rattle.job_commands.specs.declared.commands.Commands.TheInside.{Inside}

abbrev pub shown : List (Vec ℕ × ℕ) → Labels
shown entries = map (λ e. (e.0.items, e.1)) entries

abbrev pub value_of : Inside → CommandsValue
value_of w = record {
  labels = w.labels;
  rows = w.rows.items;
  issued = map (λ t. t.issued) w.tallies.items;
  marks = map (λ t. t.mark) w.tallies.items;
  children = w.children.items;
}
