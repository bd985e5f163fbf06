use Rattle.std.proofs.Common.{◌<◌, ◌≤◌, [], ◌∷◌, ◌++◌, map, length, get_or, sym, ap, ap₂, subst, ◌∙◌, arith}
use Rattle.std.specs.List.{All, AllByRecursion}
use Rattle.std.proofs.lemmas.List.{map_more, take_all, length-map}
use Rattle.std.proofs.lemmas.List.Elements.{All-from_recursion}
use Rattle.idset.specs.Ids.{list_of}
use Rattle.serde_json.specs.Data.{array}
use Rattle.serde_json.proofs.Views.{view-Array}
use Rattle.serde_json.specs.View.{items_of}
use Rattle.resource_set.specs.declared.entries.Group.{Group}
use Rattle.resource_set.specs.Reading.{no_entry}
use Rattle.resource_set.specs.Writing.{entries_of, entry_data, written, IsSpelled, IsWritten}
use Rattle.std.specs.Str.{IsUtf8}
use Rattle.resource_set.proofs.Ascii.{printed_utf8}
use Rattle.resource_set.proofs.Regroup.{IsRisen, entries_rise}
use Rattle.resource_set.proofs.Texts.{group_at, value_at, spelled_push, all_spelled}
use Rattle.resource_set.proofs.printing.entries_value.Goals as goal

pub push_group-requires : goal.push_group-requires
push_group-requires c =
    let entries = entries_of c.args.nodes.now in
    let i = c.loop-group.group-index in
    let within : i < length c.as_slice-group-items.result.now = omega arith in
    let at = group_at entries c.as_slice-group-items.result.now i c.group-item.result (c.as_slice-group-items.ensures.value ∙ c.in_ok-groups.ensures.groups) within c.group-item.is in
    let entry = get_or entries i no_entry in
    let rise = All-from_recursion IsRisen entries (entries_rise c.args.nodes.now c.requires) i no_entry at.inside in
    let spelled = All-from_recursion IsWritten entries c.in_ok-groups.ensures.spelled i no_entry at.inside in
    record {
      ranks = subst (λ (g : Group). All (λ rank. rank < 65536) g.ranks) (sym at.is) rise.small;
      cores = subst (λ (g : Group). IsUtf8 g.cores) (sym at.is) (printed_utf8 entry.cores spelled.cores);
      gpus = subst (λ (g : Group). IsUtf8 g.gpus) (sym at.is) (printed_utf8 entry.gpus spelled.gpus);
    }

pub loop-group-preserved : goal.loop-group-preserved
loop-group-preserved c =
    let entries = entries_of c.args.nodes.now in
    let i = c.loop-group.group-index in
    let within : i < length c.as_slice-group-items.result.now = omega arith in
    let at = group_at entries c.as_slice-group-items.result.now i c.group-item.result (c.as_slice-group-items.ensures.value ∙ c.in_ok-groups.ensures.groups) within c.group-item.is in
    let rise = All-from_recursion IsRisen entries (entries_rise c.args.nodes.now c.requires) i no_entry at.inside in
    record {
      values = c.in_ok-push_group.ensures.value
          ∙ ap₂ (λ l d. l ++ d ∷ []) c.loop-group.invariant.values (value_at (get_or entries i no_entry) c.group-item.result at.is rise.told)
          ∙ sym (map_more entry_data entries i no_entry at.inside);
      spelled = spelled_push entries i no_entry at.inside c.loop-group.invariant.spelled (subst IsSpelled (ap (λ (g : Group). list_of g.ranks) at.is ∙ rise.told) c.in_ok-push_group.ensures.spelled);
    }

pub returns : goal.returns
returns c =
    let entries = entries_of c.args.nodes.now in
    let i = c.loop-group.group-index in
    let same = c.as_slice-group-items.ensures.value ∙ c.in_ok-groups.ensures.groups in
    let whole : length c.as_slice-group-items.result.now ≤ i = omega arith in
    let done : length entries ≤ i = omega (arith, ap length same, length-map entries written) in
    record {
      value = view-Array c.loop-group.values ∙ ap (λ l. array (items_of l)) (c.loop-group.invariant.values ∙ ap (map entry_data) (take_all i entries done));
      spelled = all_spelled entries (subst (AllByRecursion (λ entry. IsSpelled entry.ranks)) (take_all i entries done) c.loop-group.invariant.spelled) c.in_ok-groups.ensures.spelled;
    }
