use Rattle.std.proofs.Common.{◌∙◌, refl, arith, ap, sym, subst, set, true}
use Rattle.std.proofs.lemmas.List.{get_or_default}
use Rattle.kvs_rules.specs.Namespaces.{is_primary}
use Rattle.kvs_space.specs.Sound.{IsSoundSpace}
use Rattle.kvs_space.specs.Rulings.{IsRemoving}
use Rattle.kvs_space.proofs.Opening.{removed-space}
use Rattle.kvs_space.proofs.Rulings.{next-but}
use Rattle.kvs_space.proofs.space.Space.remove.Goals as goal

pub hear-requires-clause-announced : goal.hear-requires-clause-announced
hear-requires-clause-announced c =
    let sound = subst (IsSoundSpace c.args.fanout c.requires.sound.0) (sym c.self.view_is) c.requires.sound.1 in
    let counts = c.index-number.ensures ∙ get_or_default c.self.inside.known.items 0 c.index-number.result.now 0 sound.some in
    next-but sound c.in_ok-next.next (let n = c.in_ok-next.ensures in omega arith)

pub returns-clause-sound : goal.returns-clause-sound
returns-clause-sound c = λ grant h.
    let sound = subst (IsSoundSpace c.args.fanout grant) (sym c.self.view_is) h in
    let counts = c.index-number.ensures ∙ get_or_default c.self.inside.known.items 0 c.index-number.result.now 0 sound.some in
    removed-space sound (ap (λ s. s.removed) c.self.view_is ∙ c.requires.living) (ap (λ s. is_primary s.name) c.self.view_is ∙ c.requires.other) c.index-number.result.now counts
    c.hear.new.heard.items c.hear.new.links.items c.new.result (c.in_ok-hear.ensures.heard ∙ ap (set c.self.inside.known.items 0) c.in_ok-next.ensures) c.new.ensures c.in_ok-hear.ensures.announced

pub returns-clause-removed : goal.returns-clause-removed
returns-clause-removed c =
    let sound = subst (IsSoundSpace c.args.fanout c.requires.sound.0) (sym c.self.view_is) c.requires.sound.1 in
    subst (λ v. IsRemoving c.index-number.result.now v (record { name = c.self.inside.name; removed = true; history = c.self.inside.history.items; known = c.hear.new.heard.items; stores = c.self.inside.stores.items; links = c.hear.new.links.items; merger = c.new.result })) c.self.view_is (record {
      name = refl;
      was = ap (λ s. s.removed) c.self.view_is ∙ c.requires.living;
      removed = refl;
      next = c.index-number.ensures ∙ get_or_default c.self.inside.known.items 0 c.index-number.result.now 0 sound.some;
      merger = c.new.ensures;
      history = refl;
      known = c.in_ok-hear.ensures.heard ∙ ap (set c.self.inside.known.items 0) c.in_ok-next.ensures;
    })
