use Rattle.std.proofs.Common.{◌∙◌, ap}
use Rattle.std.specs.Prelude.{unwrap_or}
use Rattle.instance.specs.Floors.{floor_in}
use Rattle.instance.proofs.Seeing.{looked}
use Rattle.instance.proofs.floors.Floors.of.Goals as goal

pub returns : goal.returns
returns c =
    c.unwrap_or.ensures
    ∙ ap (λ o. unwrap_or o 0) (c.copied.ensures ∙ c.get.ensures.value ∙ looked c.args.space.now c.self.inside.numbers.entries)
    ∙ ap (λ es. floor_in es c.args.space.now) c.self.view_is
