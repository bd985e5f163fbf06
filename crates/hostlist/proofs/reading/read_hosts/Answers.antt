use Rattle.std.proofs.Common.{◌≡◌, ◌++◌, ap, ap₂, ◌∙◌, sym, arith, rules, subst}
use Rattle.std.proofs.lemmas.Grind.{common_steps}
use Rattle.std.specs.Prelude.{option_copied, None, IfSome}
use Rattle.std.specs.List.{list_all}
use Rattle.hostlist.specs.Names.{is_host_name, IsHostName}
use Rattle.hostlist.specs.Reading.{hosts_in, spelled}
use Rattle.hostlist.specs.Parts.{part_hosts}
use Rattle.hostlist.proofs.PieceLemmas.{fault_begins, rest_within}
use Rattle.hostlist.proofs.NameLemmas.{part_named, part_inside, list_all-append}
use Rattle.hostlist.proofs.reading.read_hosts.Goals as goal

pub loop-rest-init : goal.loop-rest-init
unfolding spelled
loop-rest-init c =
    let text = c.args.text.now in
    let rest = option_copied c.uncut-rest.result in
    record {
      within = rest_within text rest c.uncut-rest.ensures.whole;
      fault = fault_begins text rest c.uncut-rest.ensures.left c.uncut-rest.ensures.whole;
      hosts = ap₂ (λ xs ps. xs ++ hosts_in None ps) c.new-names.ensures.items c.uncut-rest.ensures.left;
      named = ap (list_all is_host_name) c.new-names.ensures.items;
      inside = tt;
    }

pub loop-rest-preserved : goal.loop-rest-preserved
loop-rest-preserved c =
    let text = c.args.text.now in
    let part = c.in_ok-part.part in
    let prefix : IsHostName part.prefix.now = c.in_ok-part.ensures.named c.loop-rest.invariant.inside in
    let hosts : c.add_hosts.new.names.items ≡ c.loop-rest.names.items ++ part_hosts part = c.in_ok-add_hosts.ensures in
    record {
      within = search rules;
      fault = grind (arith, common_steps);
      hosts = grind (arith, common_steps);
      named = ap (list_all is_host_name) hosts ∙ list_all-append is_host_name c.loop-rest.names.items (part_hosts part) c.loop-rest.invariant.named (part_named part prefix);
      inside = subst (λ b. IfSome b IsHostName) (sym c.bracket-bracket.ensures) (part_inside part prefix);
    }
