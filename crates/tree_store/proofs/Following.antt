-- What the code tells of a link, as the walk of an operation takes it.
use Rattle.std.proofs.Common.{◌≡◌, true, Option, Some, None, is_some, option_map, refl, ap, ◌∙◌}
use Rattle.kvs_txn.specs.declared.words.Target.{Target}
use Rattle.kvs_model.specs.Store.{Name, Path}
use Rattle.kvs_model.specs.Walk.{inside}
use Rattle.plain_store.specs.Next.{is_outside}
use Rattle.tree_store.specs.Shown.{own_path, path_in_store}

pub ends : (o : Option Target) → None ≡ option_map own_path o → o ≡ None
ends None e = refl
ends (Some t) e = absurd (cc)

pub goes_on : (o : Option Target) (q : Path) → Some (Some q) ≡ option_map own_path o → o ≡ Some (inside q)
goes_on None q e = absurd (cc)
goes_on (Some t) q e = by t.namespace refl e
  where
    by : (n : Option Name) → t.namespace ≡ n → Some (Some q) ≡ Some (path_in_store n t.path) → Some t ≡ Some (inside q)
    by None is e =
        let same : t.path ≡ q = cc in
        ap (λ n. Some (record { path = t.path; namespace = n })) is ∙ ap (λ p. Some (inside p)) same
    by (Some name) is e = absurd (cc)

pub leaves : (o : Option Target) → Some None ≡ option_map own_path o → is_outside o ≡ true
leaves None e = absurd (cc)
leaves (Some t) e = by t.namespace refl e
  where
    by : (n : Option Name) → t.namespace ≡ n → ◌≡◌ {A = Option (Option Path)} (Some None) (Some (path_in_store n t.path)) → is_some t.namespace ≡ true
    by None is e = absurd (cc)
    by (Some name) is e = ap is_some is

-- there is a link
pub some_link : (o : Option Target) (there : Option Path) → Some there ≡ option_map own_path o → is_some o ≡ true
some_link None there e = absurd (cc)
some_link (Some t) there e = refl
