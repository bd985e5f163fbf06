use Rattle.std.proofs.Common.{◌≡◌, ◌∙◌, ℕ, List, [], ◌∷◌, ◌++◌, None, refl, sym, ap, subst, codes}
use Rattle.std.specs.Prelude.{IsSome}
use Rattle.kvs_txn.specs.declared.txn.Author.TheVariants as author
use Rattle.kvs_txn.specs.declared.txn.Op.{Op}
use Rattle.kvs_txn.specs.declared.txn.Op.TheVariants as op
use Rattle.kvs_txn.specs.declared.txn.Scope.TheVariants as scope
use Rattle.kvs_model.specs.History.{after_groups, first_store}
use Rattle.kvs_model.specs.Operation.{op_effect}
use Rattle.kvs_model.specs.Store.{Path}
use Rattle.kvs_model.specs.Walk.{resolved}
use Rattle.kvs_keys.specs.Posted.{CanPost, newest_of, post_of, posted}
use Rattle.kvs_keys.specs.Value.{KeysValue}
use Rattle.service_tests.proofs.brokers.post.Goals as goal

-- a value below `job` can be put in the first store
made : (bytes : List ℕ) → IsSome (after_groups scope.Primary (post_of None (record { author = author.Manager; ops = op.Put (codes "job" ∷ codes "x" ∷ []) bytes ∷ [] }) ∷ []) (first_store (codes "grant")))
unfolding op_effect resolved
made bytes = refl

can-post : (v : KeysValue) (path : Path) (bytes : List ℕ) (ops : List Op) → posted v ≡ [] → newest_of v ≡ first_store (codes "grant") → path ≡ codes "job" ∷ codes "x" ∷ [] → ops ≡ op.Put path bytes ∷ [] → CanPost v None (record { author = author.Manager; ops = ops })
can-post v path bytes ops none newest key is =
    subst (λ os. CanPost v None (record { author = author.Manager; ops = os })) (sym (is ∙ ap (λ p. op.Put p bytes ∷ []) key)) (record {
      post = record { manager = refl; below = (record { puts = tt; name = codes "x"; rest = []; key = refl }, tt) };
      made = subst (λ ps. IsSome (after_groups scope.Primary (ps ++ post_of None (record { author = author.Manager; ops = op.Put (codes "job" ∷ codes "x" ∷ []) bytes ∷ [] }) ∷ []) (newest_of v))) (sym none)
          (subst (λ st. IsSome (after_groups scope.Primary (post_of None (record { author = author.Manager; ops = op.Put (codes "job" ∷ codes "x" ∷ []) bytes ∷ [] }) ∷ []) st)) (sym newest) (made bytes));
    })

pub post-requires-clause-can : goal.post-requires-clause-can
post-requires-clause-can c =
    can-post c.args.core.now c.in_ok-path.path c.in_ok-bytes.bytes c.push.new.self c.requires.posted c.requires.newest c.in_ok-path.ensures.0 (c.in_ok-push.ensures.added ∙ ap (λ xs. xs ++ op.Put c.in_ok-path.path c.in_ok-bytes.bytes ∷ []) c.new-ops.ensures)
