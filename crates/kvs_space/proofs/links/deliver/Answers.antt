use Rattle.std.proofs.Common.{◌∙◌, arith, sym, ap, true≢false}
use Rattle.std.proofs.lemmas.List.{get_or_default}
use Rattle.std.specs.Option.{is_some}
use Rattle.kvs_space.proofs.Announced.{popped-le, popped-some, own-below}
use Rattle.kvs_space.proofs.links.deliver.Goals as goal

pub unreachable-requires : goal.unreachable-requires
unreachable-requires c =
    let l = popped-some c.requires.announced c.requires.broker c.index_mut-link.ensures.value c.requires.some in
    true≢false (sym (c.pop.ensures.some.1 l) ∙ ap is_some c.in-None.is)

pub returns-in_ok-hear-in-Some-clause-next : goal.returns-in_ok-hear-in-Some-clause-next
returns-in_ok-hear-in-Some-clause-next c = record {
  rises = omega (arith, c.if-number-index.true, c.index.ensures, get_or_default c.args.heard.now.items c.args.broker c.index.result.now 0 c.requires.broker);
  below = popped-le c.requires.announced c.requires.above c.requires.broker c.index_mut-link.ensures.value c.in-Some.ensures.first;
}

pub returns-else-number-index-clause-next : goal.returns-else-number-index-clause-next
returns-else-number-index-clause-next c =
    let e = c.index-else-number-index.ensures ∙ get_or_default c.args.heard.now.items c.args.broker c.index-else-number-index.result.now 0 c.requires.broker in
    record {
      rises = omega arith;
      below = let u = own-below c.requires.announced c.requires.above c.requires.broker in omega arith;
    }
