use Rattle.std.proofs.Common.{◌∙◌, List, [], length, ap, subst, sym}
use Rattle.root_feed.specs.Values.{HeraldValue}
use Rattle.named_world.specs.Words.{AreWords}
use Rattle.named_world.proofs.Words.{new_length, new_words}
use Rattle.named_world.proofs.named.NamedWorld.new.Goals as goal

pub invariant_of-result : goal.invariant_of-result
invariant_of-result g c = λ _.
    let size = c.args.world.set.size in
    let same = sym c.requires.heralds in (
      c.requires.named,
      (
        ap length c.requires.heralds ∙ new_length size,
        subst (λ xs. AreWords xs c.args.heralds.items) (sym c.requires.empty) (subst (λ (hs : List HeraldValue). AreWords [] hs) same (new_words size)),
      ),
      c.requires.losses,
    )
