use Rattle.std.proofs.Common.{◌≡◌, ◌∙◌, ◌<◌, ◌≤◌, Some, length, refl, sym, subst, arith}
use Rattle.std.specs.Prelude.{slice_get}
use Rattle.std.proofs.lemmas.Option.{slice_get_read}
use Rattle.named_world.proofs.Words.{words_next}
use Rattle.named_world.proofs.heralds.raise_heard.Goals as goal

pub raise_by-requires : goal.raise_by-requires
raise_by-requires g c = record {
  above = λ heard hears.
      let e = c.index-entries-at.result in
      let here : slice_get c.args.entries.now c.loop-at.at ≡ Some e = slice_get_read c.args.entries.now (length c.args.entries.now) c.loop-at.at e refl (omega (arith, c.loop-at-test.true)) c.index-entries-at.is in
      let up = c.requires.hears c.loop-at.at e heard here hears in (
        subst (λ n. heard.0 < n) (sym c.loop-at.invariant.all) up.0,
        λ h was. subst (λ n. n ≤ heard.1) (sym (c.loop-at.invariant.words heard.0 h was).1) up.1,
      );
}

pub loop-at-preserved : goal.loop-at-preserved
loop-at-preserved g c =
    let e = c.index-entries-at.result in
    let here : slice_get c.args.entries.now c.loop-at.at ≡ Some e = slice_get_read c.args.entries.now (length c.args.entries.now) c.loop-at.at e refl (omega (arith, c.loop-at-test.true)) c.index-entries-at.is in
    record {
      all = c.raise_by.ensures.all ∙ c.loop-at.invariant.all;
      words = words_next c.args.entries.now c.loop-at.at e c.loop-at.heralds.items c.raise_by.new.heralds.items here c.loop-at.invariant.words c.raise_by.ensures;
    }
