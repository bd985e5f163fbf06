use Rattle.std.proofs.Common.{refl, sym, subst}
use Rattle.kvs_model.specs.Operation.{effect}
use Rattle.tree_store.specs.Landing.{table, Leaves}
use Rattle.tree_store.specs.Shown.{Directories, Shows, Gives}
use Rattle.tree_store.proofs.Rooted.{rooted_shows}
use Rattle.tree_store.proofs.apply_kept.Goals as goal

pub run-requires : goal.run-requires
run-requires c =
    let h = c.args.hash in
    let st = c.requires.0 in
    let shows = subst (λ (d : Directories). Shows h (table c.args.store.now) d st) (sym (c.in_ok-opened.ensures h st c.requires.1)) (rooted_shows h (table c.args.store.now) c.args.root.now st c.requires.1) in
    (h, st, shows)

pub returns-in-Some : goal.returns-in-Some
returns-in-Some c = λ st is.
    let h = c.args.hash in
    let shows = subst (λ (d : Directories). Shows h (table c.args.store.now) d st) (sym (c.in_ok-opened.ensures h st is)) (rooted_shows h (table c.args.store.now) c.args.root.now st is) in
    (subst (λ why. Gives h (table c.args.store.now) (effect st c.args.txn.now c.args.scope) why c.run.new.opened) c.in-Some.is (c.in_ok-refusal.ensures h st shows), refl)

pub written-requires : goal.written-requires
written-requires c =
    let h = c.args.hash in
    let st = c.requires.0 in
    let shows = subst (λ (d : Directories). Shows h (table c.args.store.now) d st) (sym (c.in_ok-opened.ensures h st c.requires.1)) (rooted_shows h (table c.args.store.now) c.args.root.now st c.requires.1) in
    let done = subst (λ why. Gives h (table c.args.store.now) (effect st c.args.txn.now c.args.scope) why c.run.new.opened) c.in_default.is (c.in_ok-refusal.ensures h st shows) in
    (done.0, done.2)

pub returns : goal.returns
returns c = λ st is.
    let h = c.args.hash in
    let shows = subst (λ (d : Directories). Shows h (table c.args.store.now) d st) (sym (c.in_ok-opened.ensures h st is)) (rooted_shows h (table c.args.store.now) c.args.root.now st is) in
    let done = subst (λ why. Gives h (table c.args.store.now) (effect st c.args.txn.now c.args.scope) why c.run.new.opened) c.in_default.is (c.in_ok-refusal.ensures h st shows) in
    subst (λ wanted. Leaves h c.args.store.now c.written.new.store wanted c.written.result) (sym done.1) (c.written.ensures done.0 done.2)
