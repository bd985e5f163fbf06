use Rattle.std.proofs.Common.{◌≡◌, ◌∙◌, ◌++◌, ℕ, Some, Option, option_map, map, ap, subst, sym}
use Rattle.std.specs.Prelude.{IfOk, IfSome, is_some}
use Rattle.std.specs.List.{AllByRecursion as Each}
use Rattle.cache_node.specs.Cache.{clean_at}
use Rattle.kvs_rules.specs.Log.{Happened, Log}
use Rattle.kvs_rules.specs.Namespaces.{Setting}
use Rattle.kvs_content.specs.Node.{GetsOrDrops}
use Rattle.kvs_content.specs.declared.wants.Gift.{Gift}
use Rattle.kvs_content.specs.declared.wants.WantStage.TheVariants as wanted
use Rattle.kvs_content.specs.Agrees.{AgreesContent, IsFound}
use Rattle.kvs_content.specs.Value.{node_at}
use Rattle.kvs_content.proofs.Finding.{has-found, has-same}
use Rattle.kvs_content.proofs.Nothing.{with-nothing}
use Rattle.kvs_content.proofs.contents.Contents.find.Goals as goal

pub returns-in-Some-clause-same : goal.returns-in-Some-clause-same
returns-in-Some-clause-same c =
    let found = sym c.in_ok-gift.ensures.found ∙ ap (option_map (λ (g : Gift). g.bytes)) c.in-Some.is in
    let clean = subst (λ (o : Option Gift). IfSome o (λ g. g.clean ≡ is_some (clean_at c.args.reference.now (node_at c.args.self.now c.args.broker).cache))) c.in-Some.is c.in_ok-gift.ensures.clean in
    has-same c.args.self.now c.requires.sound.placed c.args.broker c.requires.within c.args.reference.now c.in-Some.gift found clean

pub returns-in-Some-clause-told : goal.returns-in-Some-clause-told
returns-in-Some-clause-told c = λ set log a.
    let found = sym c.in_ok-gift.ensures.found ∙ ap (option_map (λ (g : Gift). g.bytes)) c.in-Some.is in
    let clean = subst (λ (o : Option Gift). IfSome o (λ g. g.clean ≡ is_some (clean_at c.args.reference.now (node_at c.args.self.now c.args.broker).cache))) c.in-Some.is c.in_ok-gift.ensures.clean in
    with-nothing (λ ms. IsFound set ms c.args.reference.now c.args.broker (wanted.Falling (Some c.in-Some.gift))) log c.new.result c.new.ensures
    (has-found c.args.self.now set log a c.args.broker c.requires.within c.args.reference.now c.in-Some.gift found clean)

pub returns-then-broker-eq0-clause-made : goal.returns-then-broker-eq0-clause-made
returns-then-broker-eq0-clause-made c = subst (λ (b : ℕ). IfOk c.fetch.result (λ found. Each (GetsOrDrops b) found.events)) (sym c.if-broker-eq0.true) c.fetch.ensures.made

pub returns-then-broker-eq0-clause-told : goal.returns-then-broker-eq0-clause-told
returns-then-broker-eq0-clause-told c =
    subst (λ (b : ℕ). IfOk c.fetch.result (λ found. (set : Setting) (log : Log) → AgreesContent c.args.self.now set log → IsFound set (log ++ map Happened found.events) c.args.reference.now b found.stage))
    (sym c.if-broker-eq0.true) c.fetch.ensures.told
