use Rattle.std.proofs.Common.{◌∙◌, ◌++◌, [], ap, sym, filter_map}
use Rattle.std.specs.List.{cons_option}
use Rattle.std.proofs.lemmas.List.{take_all}
use Rattle.summaries.specs.Landings.{groups_landed_by}
use Rattle.summaries.proofs.Landed.{landed_more, landings_in}
use Rattle.summaries.proofs.landings.landings.Goals as goal

pub loop-entry-preserved : goal.loop-entry-preserved
loop-entry-preserved c =
    let e = c.entry-item.result in
    record {
      items = c.loop-entry.invariant.items;
      found =
          c.in_ok-note.ensures
          ∙ ap (λ l. l ++ cons_option (groups_landed_by e) []) c.loop-entry.invariant.found
          ∙ sym (landed_more c.as_slice-entry-items.result.now c.loop-entry.entry-index e c.loop-entry-test.true c.entry-item.is);
    }

pub returns : goal.returns
returns c = λ work.
    c.loop-entry.invariant.found
    ∙ ap (filter_map groups_landed_by) (take_all c.loop-entry.entry-index c.as_slice-entry-items.result.now c.loop-entry-test.false ∙ c.loop-entry.invariant.items)
    ∙ landings_in work c.args.chronicle.now
