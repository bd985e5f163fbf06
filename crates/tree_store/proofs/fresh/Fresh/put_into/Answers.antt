use Rattle.std.proofs.Common.{rules, ◌≡◌, ◌++◌, ◌∷◌, [], ℕ, List, sym, ap, ◌∙◌, subst, append_assoc, append-nil}
use Rattle.tree_store.specs.Fresh.{AreNew, Blobs}
use Rattle.fl_digest.specs.declared.BlobRef.{BlobRef}
use Rattle.tree_store.proofs.Adding.{stored_new}
use Rattle.tree_store.proofs.fresh.Fresh.put_into.Goals as goal

pub loop-reference-init : goal.loop-reference-init
loop-reference-init c =
    let given : c.into_iter-reference-iterator.result ≡ c.args.self = search rules in
    let all : c.args.self ≡ c.into_iter-reference-iterator.result = sym given in
    ([], all, sym (append-nil c.args.store.now), subst (AreNew c.args.store.now) all c.requires)

pub loop-reference-preserved : goal.loop-reference-preserved
loop-reference-preserved c =
    let inv = c.loop-reference.invariant in
    let blob : BlobRef × List ℕ = (c.in-Some.reference, c.in-Some.bytes) in
    let next : Blobs = c.next.new.self in
    let new : AreNew c.loop-reference.store (blob ∷ next) = subst (AreNew c.loop-reference.store) c.in-Some.ensures.steps inv.3 in
    let put : c.put.new.self ≡ c.loop-reference.store ++ blob ∷ [] = c.in-Ok.ensures.stored ∙ stored_new c.loop-reference.store blob.0 blob.1 new.0 in (
      inv.0 ++ blob ∷ [],
      inv.1 ∙ ap (λ (xs : Blobs). inv.0 ++ xs) c.in-Some.ensures.steps ∙ sym (append_assoc inv.0 (blob ∷ []) next),
      put ∙ ap (λ (xs : Blobs). xs ++ blob ∷ []) inv.2 ∙ append_assoc c.args.store.now inv.0 (blob ∷ []),
      subst (λ (xs : Blobs). AreNew xs next) (sym put) new.1,
    )

pub returns-in-Err-NoMemory-clause-some : goal.returns-in-Err-NoMemory-clause-some
returns-in-Err-NoMemory-clause-some c =
    let inv = c.loop-reference.invariant in
    (inv.0, c.loop-reference.reference-iterator, inv.1, c.in-Err-NoMemory.ensures.kept ∙ inv.2)

pub returns-in-Err-Clash-clause-some : goal.returns-in-Err-Clash-clause-some
returns-in-Err-Clash-clause-some c =
    let inv = c.loop-reference.invariant in
    (inv.0, c.loop-reference.reference-iterator, inv.1, c.in-Err-Clash.ensures.kept ∙ inv.2)

pub returns-clause-all : goal.returns-clause-all
returns-clause-all c =
    let inv = c.loop-reference.invariant in
    inv.2 ∙ ap (λ (xs : Blobs). c.args.store.now ++ xs) (sym (inv.1 ∙ ap (λ (xs : Blobs). inv.0 ++ xs) c.in-None.ensures.steps.0 ∙ append-nil inv.0))
