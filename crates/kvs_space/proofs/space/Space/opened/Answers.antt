use Rattle.std.proofs.Common.{rules, ◌≡◌, [], ◌∷◌, ◌++◌, replicate, set, ap, ap₂, sym, subst, ◌∙◌}
use Rattle.std.specs.Prelude.{slice_index}
use Rattle.std.proofs.lemmas.List.{replicate-append-replicate}
use Rattle.kvs_model.specs.Store.{empty_store}
use Rattle.kvs_space.specs.Links.{IsAnnouncedBut}
use Rattle.kvs_space.proofs.Opening.{first-but, known-once, opened-space}
use Rattle.kvs_space.proofs.space.Space.opened.Goals as goal

pub hear-requires-clause-announced : goal.hear-requires-clause-announced
hear-requires-clause-announced c =
    let b : c.loop-broker.broker ≡ c.args.size = search rules in
    let i = c.loop-broker.invariant in
    subst (λ ks. IsAnnouncedBut 0 1 c.args.fanout ks c.loop-broker.links.items) (sym (i.known ∙ ap (λ n. replicate n 0) b))
    (subst (λ ls. IsAnnouncedBut 0 1 c.args.fanout (replicate c.args.size 0) ls) (sym (i.links ∙ ap (λ n. replicate n []) b))
    (first-but c.args.size c.requires.size c.args.fanout))

pub returns-clause-known : goal.returns-clause-known
returns-clause-known c = λ b low.
    let e : c.loop-broker.broker ≡ c.args.size = search rules in
    let i = c.loop-broker.invariant in
    let known = c.in_ok-hear.ensures.heard ∙ ap (λ ks. set ks 0 1) (i.known ∙ ap (λ n. replicate n 0) e) in
    ap (λ ks. slice_index ks b) known ∙ known-once c.args.size c.requires.size b low

pub returns-clause-sound : goal.returns-clause-sound
returns-clause-sound c = λ grant.
    let b : c.loop-broker.broker ≡ c.args.size = search rules in
    let i = c.loop-broker.invariant in
    opened-space c.args.fanout grant c.args.size c.args.name c.new-2.result.items c.hear.new.heard.items c.loop-broker.stores.items c.hear.new.links.items c.new-3.result
    c.requires.other c.requires.size c.new-2.ensures.items c.new-3.ensures
    (c.in_ok-hear.ensures.heard ∙ ap (λ ks. set ks 0 1) (i.known ∙ ap (λ n. replicate n 0) b))
    (i.stores ∙ ap (λ n. replicate n empty_store) b) c.in_ok-hear.ensures.announced

pub loop-broker-preserved : goal.loop-broker-preserved
loop-broker-preserved c =
    let i = c.loop-broker.invariant in
    let n = c.loop-broker.broker in
    record {
      known = c.in_ok-push.ensures.items ∙ ap (λ l. l ++ 0 ∷ []) i.known ∙ replicate-append-replicate n 1 0;
      stores = c.in_ok-push-2.ensures.items ∙ ap₂ (λ l s. l ++ s ∷ []) i.stores c.in_ok-empty.ensures ∙ replicate-append-replicate n 1 empty_store;
      links = c.in_ok-push-3.ensures.items ∙ ap₂ (λ l k. l ++ k ∷ []) i.links c.new.ensures ∙ replicate-append-replicate n 1 [];
    }
