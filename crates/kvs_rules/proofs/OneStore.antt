-- Reads in a store none of whose links names a namespace.
use Rattle.std.proofs.Common.{◌≡◌, ◌↔◌, ℕ, List, [], ◌∷◌, map, Bool, true, false, cond, Option, Some, None, IfSome, is_some, codes, option_and_then, Result, Ok, refl, sym, ap, ◌∙◌, subst}
use Rattle.std.specs.List.{AllByRecursion as Each}
use Rattle.std.specs.Cmp.Lexicographic.{bytes_decides}
use Rattle.fl_digest.specs.declared.BlobRef.{BlobRef}
use Rattle.kvs_txn.specs.declared.answers.Found.{Found}
use Rattle.kvs_txn.specs.declared.answers.Numbered.{Numbered}
use Rattle.kvs_txn.specs.declared.answers.Query.{Query}
use Rattle.kvs_txn.specs.declared.txn.By.{By}
use Rattle.std.specs.Ordering.{eq_by_cmp}
use Rattle.kvs_model.specs.Store.{Name, Path, Value, Directory, Link, Store, empty_store, path_cmp, root}
use Rattle.kvs_model.specs.History.{after, first_store}
use Rattle.kvs_model.specs.OneStore.{AreOwn, HasOwnLinks, own_walk}
use Rattle.kvs_model.proofs.OneStore.{walk_is_own, none_used, landings_own}
use Rattle.tree_rules.specs.Needs.{needs}
use Rattle.tree_rules.specs.OneStore.{own_needs}
use Rattle.tree_rules.proofs.Blobs.{needs_are_own}
use Rattle.kvs_rules.specs.Log.{Log}
use Rattle.kvs_rules.specs.Namespaces.{Request, Setting, above_first, begun_at, family_at, first_number, fresh, is_opened, is_primary, landings, scope_of, store_after}
use Rattle.kvs_rules.specs.Brokers.{HeldAtOnce}
use Rattle.kvs_rules.specs.Answers.{HasHeldNeeds, IsFresh, WalkTells, roots_of}

module _ (set : Setting) (log : Log) (by : By) (r : Request) (asked : Query) (path : Path) (number : ℕ) (st : Store) (stands : store_after set log r.namespace number ≡ Some st) (own : HasOwnLinks st) where
  there : (uses : List Numbered) → family_at set log (roots_of r number uses) r.namespace ≡ Some st
  there uses = ap (λ b. cond b (store_after set log r.namespace number) (family_at set log uses r.namespace)) ((bytes_decides r.namespace r.namespace).1 refl) ∙ stands

  pub told_alone : IsFresh log by r.broker r.namespace number → WalkTells set log by r asked path [] (Ok (own_walk st asked path)) number
  told_alone fresh = record {
    fresh = (record { fresh = fresh; stands = ap is_some stands }, tt);
    tells = walk_is_own (family_at set log (roots_of r number [])) r.namespace st asked (there []) own path;
    exactly = sym (none_used (family_at set log (roots_of r number [])) r.namespace st asked (there []) own path);
  }

  no_names : (uses : List Numbered) → map (λ (root : Numbered). root.namespace) uses ≡ [] → uses ≡ []
  no_names [] e = refl
  no_names (root ∷ uses) e = cc

  pub means_alone : (uses : List Numbered) (told : Result Found Name) → WalkTells set log by r asked path uses told number → (uses ≡ []) × (told ≡ Ok (own_walk st asked path))
  means_alone uses told h = (
    no_names uses (h.exactly ∙ none_used (family_at set log (roots_of r number uses)) r.namespace st asked (there uses) own path),
    sym h.tells ∙ walk_is_own (family_at set log (roots_of r number uses)) r.namespace st asked (there uses) own path,
  )

  own_held : (uses : List Numbered) → needs set.hash (family_at set log (roots_of r number uses)) r.namespace asked path ≡ own_needs set.hash st asked path
  own_held uses = needs_are_own set.hash (family_at set log (roots_of r number uses)) r.namespace st (there uses) asked path own

  pub holds_alone : (uses : List Numbered) → HasHeldNeeds set log by r asked path uses number ↔ HeldAtOnce by r.broker (own_needs set.hash st asked path) log
  holds_alone uses = (
    λ h. subst (λ (ns : List BlobRef). HeldAtOnce by r.broker ns log) (own_held uses) h,
    λ h. subst (λ (ns : List BlobRef). HeldAtOnce by r.broker ns log) (sym (own_held uses)) h,
  )

-- the stores of an instance none of whose transactions makes such a link
empty_own : HasOwnLinks empty_store
empty_own [] target e = cc
empty_own (x ∷ path) target e = cc

pub stores_own : (set : Setting) (log : Log) (space : Name) (number : ℕ) → HasOwnLinks set.base.store → Each (Each AreOwn) (landings log space) → IfSome (store_after set log space number) HasOwnLinks
stores_own set log space number base own = opened (is_opened log space)
  where
    begun : (b : Bool) → HasOwnLinks (cond b set.base.store empty_store)
    begun true = base
    begun false = empty_own

    counted : (o : Option ℕ) → IfSome (option_and_then (λ count. after (scope_of space) (landings log space) count (begun_at set space)) o) HasOwnLinks
    counted None = tt
    counted (Some count) = landings_own (scope_of space) (landings log space) count (begun_at set space) (begun (is_primary space)) own

    opened : (b : Bool) → IfSome (cond b (option_and_then (λ count. after (scope_of space) (landings log space) count (begun_at set space)) (above_first (first_number set space) number)) None) HasOwnLinks
    opened true = counted (above_first (first_number set space) number)
    opened false = tt

-- a store with the grant's text has none
first_own : (grant : List ℕ) → HasOwnLinks (first_store grant)
first_own grant path target e = by (eq_by_cmp path_cmp path root) (eq_by_cmp path_cmp path (codes "job" ∷ [])) (eq_by_cmp path_cmp path (codes "resource" ∷ [])) (eq_by_cmp path_cmp path (codes "resource" ∷ codes "R" ∷ [])) e
  where
    by : (a b c d : Bool) → cond a (Some Directory) (cond b (Some Directory) (cond c (Some Directory) (cond d (Some (Value grant)) None))) ≡ Some (Link target) → target.namespace ≡ None
    by true b c d e = cc
    by false true c d e = cc
    by false false true d e = cc
    by false false false true e = cc
    by false false false false e = cc

pub fresh_own : (set : Setting) (grant : List ℕ) → set.base ≡ fresh grant → HasOwnLinks set.base.store
fresh_own set grant e = subst (λ b. HasOwnLinks b.store) (sym e) (first_own grant)
