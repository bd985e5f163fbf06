use Rattle.std.proofs.Common.{◌<◌, arith, length, sym, subst}
use Rattle.kvs_space.specs.Sound.{IsSoundSpace}
use Rattle.kvs_space.proofs.Hearings.{catch-stands, caught-space}
use Rattle.kvs_space.proofs.space.Space.deliver.Goals as goal

pub catch_up-requires-clause-stands : goal.catch_up-requires-clause-stands
catch_up-requires-clause-stands c =
    let sound = subst (IsSoundSpace c.args.fanout c.requires.sound.0) (sym c.self.view_is) c.requires.sound.1 in
    let within = subst (λ v. c.args.to < length v.known) (sym c.self.view_is) c.requires.within in
    catch-stands sound c.args.to within c.index-before.result.now c.in_ok-after.after c.index-before.ensures
    c.scope_of-scope.result c.seen-from.result c.seen-upto.result c.len-landed.result c.scope_of-scope.ensures (let o = c.self.inside.history.ok.0 in let l = c.len-landed.ensures in omega arith) c.seen-from.ensures c.seen-upto.ensures

pub returns-clause-sound : goal.returns-clause-sound
returns-clause-sound c = λ grant h.
    let sound = subst (IsSoundSpace c.args.fanout grant) (sym c.self.view_is) h in
    let within = subst (λ v. c.args.to < length v.known) (sym c.self.view_is) c.requires.within in
    caught-space sound c.args.to within c.index-before.result.now c.in_ok-after.after c.index-before.ensures
    c.scope_of-scope.result c.seen-from.result c.seen-upto.result c.len-landed.result c.scope_of-scope.ensures (let o = c.self.inside.history.ok.0 in let l = c.len-landed.ensures in omega arith) c.seen-from.ensures c.seen-upto.ensures
    c.deliver.new.heard.items c.catch_up.new.stores.items c.deliver.new.links.items c.in_ok-after.ensures.heard c.in_ok-after.ensures.announced
    c.in_ok-catch_up.ensures.follows c.in_ok-catch_up.ensures.others c.in_ok-catch_up.ensures.same_len c.requires.above
