use Rattle.std.proofs.Common.{◌≡◌, ◌∙◌, ◌++◌, ◌∷◌, [], Some, true, refl, arith, ap, sym, subst, set, get_or}
use Rattle.std.proofs.lemmas.List.{get_or_default}
use Rattle.kvs_model.specs.History.{after_groups}
use Rattle.kvs_rules.specs.Namespaces.{scope_of}
use Rattle.kvs_space.specs.Space.{is_ready}
use Rattle.kvs_space.specs.Sound.{ArePosted, IsSoundSpace}
use Rattle.kvs_space.specs.Rulings.{IsLanding}
use Rattle.kvs_space.proofs.Posting.{posted-taken}
use Rattle.kvs_space.proofs.Rulings.{ruled-space, nonempty, ready-live, ready-some}
use Rattle.kvs_space.proofs.space.Space.rule.Goals as goal

pub returns-in_ok-hear-clause-sound : goal.returns-in_ok-hear-clause-sound
returns-in_ok-hear-clause-sound c = λ grant h.
    let sound = subst (IsSoundSpace c.args.fanout grant) (sym c.self.view_is) h in
    let ready = subst (λ v. is_ready v ≡ true) (sym c.self.view_is) c.requires.ready in
    let taken = c.in_ok-groups.ensures in
    let there = c.index_mut.ensures.value ∙ get_or_default c.self.inside.stores.items 0 c.index_mut.result.now [] (let q = sound.replicas.same_len in let o = sound.some in omega arith) in
    let counts = c.index-number.ensures ∙ get_or_default c.self.inside.known.items 0 c.index-number.result.now 0 sound.some in
    let made = subst (λ st. after_groups (scope_of c.self.inside.name) c.in_ok-groups.field-0.groups st ≡ Some c.take_ready.new.store) there (subst (λ sc. after_groups sc c.in_ok-groups.field-0.groups c.index_mut.result.now ≡ Some c.take_ready.new.store) c.scope_of-scope.ensures taken.made) in
    let living = ready-live c.self.inside.name c.self.inside.removed c.self.inside.merger sound.living (ready-some c.self.inside.merger.ready ready) in
    ruled-space sound living c.in_ok-groups.field-0.groups c.take_ready.new.store c.index-number.result.now counts made
    c.push.new.self.items c.hear.new.heard.items c.hear.new.links.items c.take_ready.new.merger
    (c.in_ok-push.ensures.items ∙ ap (λ g. c.self.inside.history.items ++ g ∷ []) c.in_ok-copy.ensures)
    (c.in_ok-hear.ensures.heard ∙ ap (λ n. set c.self.inside.known.items 0 n) c.in_ok-next.ensures) taken.fences
    (posted-taken c.self.inside.name c.in_ok-groups.field-0.groups c.take_ready.new.merger.ready (get_or c.self.inside.stores.items 0 []) c.take_ready.new.store (subst (λ q. ArePosted c.self.inside.name q (get_or c.self.inside.stores.items 0 [])) taken.queue sound.posts) made) c.in_ok-hear.ensures.announced

pub returns-in_ok-hear-clause-ruled : goal.returns-in_ok-hear-clause-ruled
returns-in_ok-hear-clause-ruled c =
    let ready = subst (λ v. is_ready v ≡ true) (sym c.self.view_is) c.requires.ready in
    let h = subst (IsSoundSpace c.args.fanout c.requires.sound.0) (sym c.self.view_is) c.requires.sound.1 in
    let taken = c.in_ok-groups.ensures in
    let there = c.index_mut.ensures.value ∙ get_or_default c.self.inside.stores.items 0 c.index_mut.result.now [] (let q = h.replicas.same_len in let o = h.some in omega arith) in
    let made = subst (λ st. after_groups (scope_of c.self.inside.name) c.in_ok-groups.field-0.groups st ≡ Some c.take_ready.new.store) there (subst (λ sc. after_groups sc c.in_ok-groups.field-0.groups c.index_mut.result.now ≡ Some c.take_ready.new.store) c.scope_of-scope.ensures taken.made) in
    subst (λ v. IsLanding c.index-number.result.now c.in_ok-groups.field-0.groups v (record { name = c.self.inside.name; removed = c.self.inside.removed; history = c.push.new.self.items; known = c.hear.new.heard.items; stores = set c.self.inside.stores.items 0 c.take_ready.new.store; links = c.hear.new.links.items; merger = c.take_ready.new.merger })) c.self.view_is
    (record {
      name = refl;
      removed = refl;
      some = nonempty c.in_ok-groups.field-0.groups c.as_slice.result.now c.is_empty.result c.is_empty.ensures c.if-is_empty.false c.as_slice.ensures;
      next = c.index-number.ensures ∙ get_or_default c.self.inside.known.items 0 c.index-number.result.now 0 h.some;
      queue = taken.queue;
      fences = taken.fences;
      made = (c.take_ready.new.store, made);
      history = c.in_ok-push.ensures.items ∙ ap (λ g. c.self.inside.history.items ++ g ∷ []) c.in_ok-copy.ensures;
      known = c.in_ok-hear.ensures.heard ∙ ap (λ n. set c.self.inside.known.items 0 n) c.in_ok-next.ensures;
    })
