use Rattle.std.proofs.Common.{◌++◌, ◌∷◌, [], ◌∙◌, false, ap, sym, subst, refl}
use Rattle.kvs_keys.specs.Agrees.{Agrees}
use Rattle.kvs_keys.specs.Posted.{CanPost, IsNewPost}
use Rattle.kvs_space.specs.Space.{SpaceValue}
use Rattle.kvs_keys.proofs.Managing.{post-sound, post-agrees}
use Rattle.kvs_keys.proofs.Extending.{history-same, of-old}
use Rattle.kvs_keys.proofs.Landing.{first-live, primary-there}
use Rattle.kvs_space.proofs.Rolls.{roll-living}
use Rattle.kvs_keys.proofs.service.Keys.post.Goals as goal

pub invariant_of-self-2 : goal.invariant_of-self-2
invariant_of-self-2 c = (
  λ _.
      let s = c.self.invariant.0 (ap (λ v. v.spent) c.self.view_is ∙ c.requires.ready) in
      let can = subst (λ v. CanPost v c.args.command c.args.txn) (sym c.self.view_is) c.requires.can in
      let o = c.index_mut-space.result.now in
      let now = c.in_ok-post.ensures ∙ ap (λ g. let r : SpaceValue = record { name = o.name; removed = o.removed; history = o.history; known = o.known; stores = o.stores; links = o.links; merger = record { fences = o.merger.fences; ready = o.merger.ready ++ g ∷ [] } } in r) c.in_ok-group.ensures in
      post-sound s c.args.command c.args.txn can o c.post.new.self c.index_mut-space.ensures.value now false,
  λ _.
      let s = c.self.invariant.0 (ap (λ v. v.spent) c.self.view_is ∙ c.requires.ready) in
      let old = c.index_mut-space.result.now in
      let there = primary-there c.self.inside.spaces.items s.first in
      let live = first-live s old c.index_mut-space.ensures.value in
      roll-living (c.self.invariant.1 (ap (λ v. v.spent) c.self.view_is ∙ c.requires.ready)) 0 c.post.new.self old there c.index_mut-space.ensures.value (ap (λ x. x.name) c.in_ok-post.ensures) live,
)

pub returns-clause-agrees : goal.returns-clause-agrees
returns-clause-agrees c = λ set log a fresh.
    let s = c.self.invariant.0 (ap (λ v. v.spent) c.self.view_is ∙ c.requires.ready) in
    let can = subst (λ v. CanPost v c.args.command c.args.txn) (sym c.self.view_is) c.requires.can in
    let o = c.index_mut-space.result.now in
    let now = c.in_ok-post.ensures ∙ ap (λ g. let r : SpaceValue = record { name = o.name; removed = o.removed; history = o.history; known = o.known; stores = o.stores; links = o.links; merger = record { fences = o.merger.fences; ready = o.merger.ready ++ g ∷ [] } } in r) c.in_ok-group.ensures in
    post-agrees s c.args.command c.args.txn can o c.post.new.self c.index_mut-space.ensures.value now
    (subst (λ v. Agrees v set log) (sym c.self.view_is) a) (subst (λ v. IsNewPost v set log c.args.command) (sym c.self.view_is) fresh) false

pub returns-clause-extends : goal.returns-clause-extends
returns-clause-extends c =
    let s = c.self.invariant.0 (ap (λ v. v.spent) c.self.view_is ∙ c.requires.ready) in
    let o = c.index_mut-space.result.now in
    record {
      history = of-old [] c.self.view_is (history-same c.self.inside.spaces.items 0 (primary-there c.self.inside.spaces.items s.first) o c.post.new.self c.index_mut-space.ensures.value (ap (λ x. x.name) c.in_ok-post.ensures) (ap (λ x. x.history) c.in_ok-post.ensures));
      inside = refl;
      grant = ap (λ v. v.grant) c.self.view_is;
      fanout = ap (λ v. v.fanout) c.self.view_is;
    }
