use Rattle.std.proofs.Common.{◌≡◌, rules}
use Rattle.std.specs.Prelude.{IsErrAnd}
use Rattle.tree_store.specs.declared.faults.TreeFault.TheVariants.{NoMemory}
use Rattle.tree_store.proofs.Landed.{leaves_root, leaves_part}
use Rattle.tree_store.proofs.written.Goals as goal

pub returns-in_err-put_into : goal.returns-in_err-put_into
returns-in_err-put_into c = λ st shows.
    let want : IsErrAnd c.from_residual-in_err-put_into.result (λ fault. fault ≡ NoMemory) = search rules in
    leaves_part c.args.hash st c.args.store.now c.write.new.self c.put_into.new.store c.from_residual-in_err-put_into.result (c.in_ok-root.ensures.only st shows) c.in_err-put_into.ensures.some want

pub returns : goal.returns
returns c = λ st shows.
    leaves_root c.args.hash st c.args.store.now c.write.new.self c.put_into.new.store c.in_ok-root.root (c.in_ok-root.ensures.only st shows) (c.in_ok-root.ensures.root st shows) c.in_ok-put_into.ensures.all
