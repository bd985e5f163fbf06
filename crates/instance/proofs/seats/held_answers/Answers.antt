use Rattle.std.proofs.Common.{◌∙◌, ◌||◌, ◌<◌, false, ap₂, length, arith, rules}
use Rattle.std.proofs.lemmas.List.{get_or-replicate}
use Rattle.std.proofs.lemmas.Option.{slice_get_within}
use Rattle.services.specs.Steps.{can_take}
use Rattle.instance.proofs.seats.held_answers.Goals as goal

pub returns : goal.returns
returns c = record {
  long = search rules;
  each = λ actor seat here.
      let seated : actor < length c.args.seats.now = slice_get_within c.args.seats.now actor seat here in
      let low : actor < 256 = omega (arith, seated, c.requires.few) in
      c.mark_held.ensures.marked actor low
      ∙ ap₂ (λ mark command. mark || can_take c.args.services.now (record { actor = actor; command = command }))
      (get_or-replicate 256 actor false false low) (c.last_commands-commands.ensures.each actor seat here);
}
