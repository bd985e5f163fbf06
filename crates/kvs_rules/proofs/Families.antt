-- What a further moment leaves of the stores at given roots, and of walks in them.
use Rattle.std.proofs.Common.{◌≡◌, ℕ, List, [], ◌∷◌, ◌++◌, Bool, true, false, cond, Option, Some, None, IsSome, is_some, refl, sym, ◌∙◌, subst, true≢false, bytes_eq}
use Rattle.std.specs.List.{AllByRecursion as Each}
use Rattle.std.specs.Cmp.Lexicographic.{bytes_decides}
use Rattle.kvs_txn.specs.declared.answers.Numbered.{Numbered}
use Rattle.kvs_model.specs.Store.{Name, Store}
use Rattle.kvs_rules.specs.Log.{Log}
use Rattle.kvs_rules.specs.Namespaces.{Setting, family_at, store_after}
use Rattle.kvs_rules.proofs.Logs.{store_kept}

-- the root stands in its namespace
abbrev pub Stands : Setting → Log → Numbered → Type 0
Stands set log root = IsSome (store_after set log root.namespace root.number)

stays : (set : Setting) (log more : Log) (space : Name) (number : ℕ) (o : Option Store) → store_after set log space number ≡ o → is_some o ≡ true → store_after set (log ++ more) space number ≡ store_after set log space number
stays set log more space number None is some = absurd (true≢false (sym some))
stays set log more space number (Some st) is some = store_kept set log more space number st is ∙ sym is

-- the first root, or one of the others
kept_by : (set : Setting) (log more : Log) (root : Numbered) (space : Name) {before after : Option Store} → Stands set log root → after ≡ before → (b : Bool) → bytes_eq space root.namespace ≡ b
    → cond b (store_after set (log ++ more) space root.number) after ≡ cond b (store_after set log space root.number) before
kept_by set log more root space stands rest true e =
    stays set log more space root.number (store_after set log space root.number) refl (subst (λ n. IsSome (store_after set log n root.number)) (sym ((bytes_decides space root.namespace).0 e)) stands)
kept_by set log more root space stands rest false e = rest

pub family_kept : (set : Setting) (log more : Log) (roots : List Numbered) → Each (Stands set log) roots → (space : Name) → family_at set (log ++ more) roots space ≡ family_at set log roots space
family_kept set log more [] h space = refl
family_kept set log more (root ∷ roots) h space =
    kept_by set log more root space h.0 (family_kept set log more roots h.1 space) (bytes_eq space root.namespace) refl

-- as one family
pub same_family : (set : Setting) (log more : Log) (roots : List Numbered) → Each (Stands set log) roots → family_at set (log ++ more) roots ≡ family_at set log roots
same_family set log more roots h = λ i. λ space. family_kept set log more roots h space i
