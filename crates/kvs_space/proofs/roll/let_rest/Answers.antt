use Rattle.std.proofs.Common.{◌≡◌, ◌∙◌, ap, sym, subst}
use Rattle.std.proofs.lemmas.List.{get_or_default}
use Rattle.kvs_space.specs.Roll.{IsRoll}
use Rattle.kvs_space.specs.Space.{is_at_rest}
use Rattle.kvs_space.proofs.Rolls.{roll-rested}
use Rattle.kvs_space.proofs.roll.let_rest.Goals as goal

pub returns-then-is_at_rest : goal.returns-then-is_at_rest
returns-then-is_at_rest c =
    let rests = sym c.is_at_rest.ensures ∙ c.if-is_at_rest.true in
    subst (λ r. IsRoll r c.args.spaces.now.items) (sym c.let_rest.ensures)
    (roll-rested c.requires.roll c.args.place (λ d. ap is_at_rest (sym (c.index.ensures ∙ get_or_default c.args.spaces.now.items c.args.place c.index.result.now d c.requires.within)) ∙ rests))
