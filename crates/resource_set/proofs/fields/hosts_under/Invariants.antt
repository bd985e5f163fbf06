use Rattle.std.proofs.Common.{◌≡◌, ◌++◌, drop}
use Rattle.std.specs.Prelude.{option_map}
use Rattle.serde_json.specs.View.{items_view}
use Rattle.hostlist.specs.Names.{AreHostNames}
use Rattle.resource_set.specs.Reading.{all_hosts}
use Rattle.resource_set.proofs.fields.hosts_under.Given as goal

abbrev pub invariant-loop-text : goal.invariant-loop-text
invariant-loop-text l = record {
  joined : option_map (λ more. l.hosts.items ++ more) (all_hosts (items_view (drop l.text-index l.texts))) ≡ all_hosts (items_view l.texts);
  named : AreHostNames l.hosts.items;
}
