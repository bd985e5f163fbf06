use Rattle.std.proofs.Common.{rules, ◌≡◌, [], ◌∷◌, ◌++◌, replicate, get_or, ap, ap₂, ◌∙◌}
use Rattle.std.proofs.lemmas.List.{get_or-replicate, replicate-append-replicate}
use Rattle.kvs_model.specs.History.{first_store}
use Rattle.kvs_space.proofs.Posting.{begun-as}
use Rattle.kvs_space.proofs.space.Space.primary.Goals as goal

pub returns-clause-sound : goal.returns-clause-sound
returns-clause-sound c = λ fanout.
    let b : c.loop-broker.broker ≡ c.args.size = search rules in
    let i = c.loop-broker.invariant in
    begun-as fanout c.args.grant.now c.args.size c.in_ok-of.field-0 c.new-2.result.items c.loop-broker.known.items c.loop-broker.stores.items c.loop-broker.links.items c.new-3.result
    c.new-2.ensures.items c.new-3.ensures c.in_ok-of.ensures c.requires (i.known ∙ ap (λ n. replicate n 1) b) (i.stores ∙ ap (λ n. replicate n (first_store c.args.grant.now)) b) (i.links ∙ ap (λ n. replicate n []) b)

pub returns-clause-store : goal.returns-clause-store
returns-clause-store c =
    let b : c.loop-broker.broker ≡ c.args.size = search rules in
    ap (λ ss. get_or ss 0 []) (c.loop-broker.invariant.stores ∙ ap (λ n. replicate n (first_store c.args.grant.now)) b) ∙ get_or-replicate c.args.size 0 (first_store c.args.grant.now) [] c.requires

pub loop-broker-preserved : goal.loop-broker-preserved
loop-broker-preserved c =
    let i = c.loop-broker.invariant in
    let n = c.loop-broker.broker in
    record {
      known = c.in_ok-push.ensures.items ∙ ap (λ l. l ++ 1 ∷ []) i.known ∙ replicate-append-replicate n 1 1;
      stores = c.in_ok-push-2.ensures.items ∙ ap₂ (λ l s. l ++ s ∷ []) i.stores c.in_ok-first.ensures ∙ replicate-append-replicate n 1 (first_store c.args.grant.now);
      links = c.in_ok-push-3.ensures.items ∙ ap₂ (λ l k. l ++ k ∷ []) i.links c.new.ensures ∙ replicate-append-replicate n 1 [];
    }
