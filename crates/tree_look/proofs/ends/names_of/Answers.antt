use Rattle.std.proofs.Common.{◌≡◌, ◌<◌, ◌≤◌, List, length, get_or, ◌∙◌, subst}
use Rattle.kvs_model.specs.Store.{Name}
use Rattle.tree_look.proofs.Listing.{shown_next, shown_all}
use Rattle.tree_look.proofs.ends.names_of.Goals as goal

pub loop-index-preserved : goal.loop-index-preserved
loop-index-preserved c =
    let d = c.args.directory.now in
    let i = c.loop-index.index in
    let n = c.index-names-index.result in
    c.in_ok-push.ensures.added
    ∙ shown_next d c.objects-objects.result.now i n c.index-objects-index.result c.loop-index.list c.in_ok-name.name c.kind_of-kind.result
    (record {
      objects_are = c.objects-objects.ensures.objects;
      same_length = c.objects-objects.ensures.length;
      within = subst (λ (ns : List Name). i < length ns) c.names-names.ensures c.loop-index-test.true;
      named = subst (λ (ns : List Name). n ≡ get_or ns i n) c.names-names.ensures c.index-names-index.is;
      is = c.index-objects-index.is;
    })
    c.loop-index.invariant c.in_ok-name.ensures c.kind_of-kind.ensures

pub returns : goal.returns
returns c = shown_all c.args.directory.now c.loop-index.index c.loop-index.list c.loop-index.invariant (subst (λ (ns : List Name). length ns ≤ c.loop-index.index) c.names-names.ensures c.loop-index-test.false)
