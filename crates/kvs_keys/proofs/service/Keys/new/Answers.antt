use Rattle.std.proofs.Common.{◌∙◌, ◌++◌, ◌∷◌, [], ap, get_or, length, subst, sym}
use Rattle.kvs_space.specs.Roll.{IsRoll}
use Rattle.std.specs.Prelude.{slice_get}
use Rattle.std.specs.Option.{option_map_or}
use Rattle.store_laws.specs.Posts.{posts_in}
use Rattle.kvs_keys.proofs.Resting.{begun-agrees-as, begun-as}
use Rattle.kvs_space.proofs.Rolls.{roll-entered, roll-none}
use Rattle.kvs_keys.proofs.service.Keys.new.Goals as goal

pub invariant_of-result : goal.invariant_of-result
invariant_of-result c = (
  λ _.
      let p = c.in_ok-primary.ensures in
      begun-as c.args.setting.size c.args.setting.fanout c.args.grant.now c.in_ok-primary.field-0 c.requires.size.0 c.requires.fanout.0 p.name p.fresh.0 p.fresh.1 p.fresh.2 p.size p.known p.sound
      c.in_ok-copy.field-0 c.push.new.self.items c.new.result.items c.in_ok-copy.ensures
      (c.in_ok-push.ensures.items ∙ ap (λ xs. xs ++ c.in_ok-primary.field-0 ∷ []) c.new-spaces.ensures.items) c.new.ensures.items,
  λ _.
      let n = c.name.result.now in
      let items = c.in_ok-push.ensures.items ∙ ap (λ xs. xs ++ c.in_ok-primary.field-0 ∷ []) c.new-spaces.ensures.items in
      let there = c.index.ensures ∙ ap (λ xs. get_or xs 0 c.index.result.now) items in
      subst (λ r. IsRoll r c.push.new.self.items) (sym c.in_ok-enter.ensures.entered)
      (subst (λ r. IsRoll (record { names = r.names ++ n ∷ []; awake = r.awake ++ length r.names ∷ [] }) c.push.new.self.items) (sym c.new-roll.ensures)
      (subst (IsRoll (record { names = n ∷ []; awake = 0 ∷ [] })) (sym items)
      (roll-entered roll-none c.in_ok-primary.field-0 n (sym (c.name.ensures ∙ ap (λ x. x.name) there))))),
)

pub returns-clause-posted : goal.returns-clause-posted
returns-clause-posted c =
    ap (λ xs. option_map_or (λ s. posts_in s.merger.ready) (slice_get xs 0) []) (c.in_ok-push.ensures.items ∙ ap (λ xs. xs ++ c.in_ok-primary.field-0 ∷ []) c.new-spaces.ensures.items)
    ∙ ap (λ m. posts_in m.ready) c.in_ok-primary.ensures.fresh.2

pub returns-clause-newest : goal.returns-clause-newest
returns-clause-newest c =
    ap (λ xs. option_map_or (λ s. get_or s.stores 0 []) (slice_get xs 0) []) (c.in_ok-push.ensures.items ∙ ap (λ xs. xs ++ c.in_ok-primary.field-0 ∷ []) c.new-spaces.ensures.items)
    ∙ c.in_ok-primary.ensures.store

pub returns-clause-agrees : goal.returns-clause-agrees
returns-clause-agrees c =
    let p = c.in_ok-primary.ensures in
    begun-agrees-as c.args.setting.size c.args.setting.fanout c.args.grant.now c.in_ok-primary.field-0 c.requires.size.0 c.requires.fanout.0 p.name p.fresh.0 p.fresh.1 p.fresh.2 p.size p.known p.sound
    c.in_ok-copy.field-0 c.push.new.self.items c.new.result.items c.in_ok-copy.ensures
    (c.in_ok-push.ensures.items ∙ ap (λ xs. xs ++ c.in_ok-primary.field-0 ∷ []) c.new-spaces.ensures.items) c.new.ensures.items
