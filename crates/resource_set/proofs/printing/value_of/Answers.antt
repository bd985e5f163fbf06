use Rattle.std.proofs.Common.{◌≡◌, ◌≤◌, ◌<◌, ◌^◌, map, length, subst, sym, ap, ◌∙◌, arith}
use Rattle.std.specs.List.{AllByRecursion}
use Rattle.std.proofs.lemmas.List.{length-map}
use Rattle.std.proofs.lemmas.List.Elements.{All-map}
use Rattle.serde_json.specs.View.{view}
use Rattle.serde_json.specs.Data.{depth}
use Rattle.serde_json.specs.Read.{max_depth}
use Rattle.fl_json.specs.Valid.{IsValid}
use Rattle.resource_set.specs.declared.node.Node.{Node}
use Rattle.resource_set.specs.Writing.{data_of, entries_data, entries_of, names_data, AreNamesSpelled, IsEntrySpelled}
use Rattle.resource_set.proofs.Rising.{length-rising}
use Rattle.resource_set.proofs.Again.{data_valid, data_flat, data_is}
use Rattle.resource_set.proofs.printing.value_of.Goals as goal

pub hosts_value-requires-clause-few : goal.hosts_value-requires-clause-few
hosts_value-requires-clause-few c =
    let nodes = c.args.r.now.nodes in
    let few : length (map (λ (n : Node). n.rank) nodes) ≤ 65536 = length-rising (map (λ (n : Node). n.rank) nodes) c.requires.hosts.rising (All-map (λ id. id < 65536) (λ (n : Node). n.rank) nodes c.requires.hosts.small) in
    subst (λ l. length l ≤ 65536) (sym c.as_slice-nodes.ensures) (omega (arith, length-map nodes (λ (n : Node). n.rank)))

pub returns : goal.returns
returns c =
    let r = c.args.r.now in
    let d = view c.in_ok-value.value in
    let nodes = c.as_slice-nodes.ensures in
    let start : r.starttime < 2 ^ 64 = omega arith in
    let end : r.expiration < 2 ^ 64 = omega arith in
    let is : d ≡ data_of r = data_is d (view c.in_ok-entries.entries) (view c.in_ok-hosts.hosts) r c.in_ok-value.ensures (c.in_ok-entries.ensures.value ∙ ap entries_data nodes) (c.in_ok-hosts.ensures.value ∙ ap names_data nodes) in
    record {
      value = is;
      valid = subst IsValid (sym is) (data_valid r start end);
      nests = subst (λ x. depth x ≤ max_depth) (sym is) (data_flat r);
      entries = subst (λ ns. AllByRecursion IsEntrySpelled (entries_of ns)) nodes c.in_ok-entries.ensures.spelled;
      hosts = subst AreNamesSpelled nodes c.in_ok-hosts.ensures.spelled;
    }
