-- Walks and roots stay joined to the contents, and what a walk that ends tells.
use Rattle.std.proofs.Common.{◌≡◌, ℕ, zero, suc, ◌<◌, List, [], ◌∷◌, length, true, true≢false, Option, Some, None, refl, sym, ap, ◌∙◌, subst, arith, append-nil, get_or}
use Rattle.std.specs.Prelude.{Ok, IsTrue, IsSome, is_some, slice_get, option_and_then, cond}
use Rattle.fl_digest.specs.declared.BlobRef.{BlobRef}
use Rattle.fl_digest.specs.declared.Hash.{Hash}
use Rattle.kvs_txn.specs.declared.answers.Found.{Found}
use Rattle.kvs_txn.specs.declared.txn.By.{By}
use Rattle.kvs_txn.specs.declared.txn.Group.{Group}
use Rattle.kvs_txn.specs.declared.txn.Scope.{Scope}
use Rattle.kvs_model.specs.Store.{Name, Store}
use Rattle.kvs_model.specs.History.{after, after_groups}
use Rattle.kvs_model.specs.OneStore.{HasOwnLinks, own_walk}
use Rattle.cache_node.specs.Cache.{Cache, clean_at}
use Rattle.content_fetches.specs.declared.fetches.Fetch.{Fetch}
use Rattle.kvs_rules.specs.Answers.{HasHeldNeeds, IsFresh, WalkTells}
use Rattle.kvs_rules.specs.Brokers.{HeldAtOnce, holds}
use Rattle.kvs_rules.specs.Log.{Log, is_asked}
use Rattle.kvs_rules.specs.Namespaces.{Request, Setting, above_first, begun_at, first_number, landings, scope_of, store_after}
use Rattle.kvs_rules.proofs.OneStore.{holds_alone, told_alone}
use Rattle.tree_rules.specs.Held.{Holds, IsRootOf, Keeps, Table}
use Rattle.tree_rules.specs.OneStore.{own_needs}
use Rattle.tree_rules.specs.Texts.{root_reference}
use Rattle.tree_walk.specs.Walks.{TellsNext, Walk}
use Rattle.tree_look.specs.declared.Advance.TheVariants.{Done}
use Rattle.kvs_joined.specs.Joined.{AreFit, AreRooted, IsFit, IsSpaceOf, OpenWalk, RootedSpace}

pub none-open : (size : ℕ) (spaces : List RootedSpace) (walks : List OpenWalk) → AreFit size spaces [] walks → walks ≡ []
none-open size spaces [] fit = refl
none-open size spaces (w ∷ ws) fit = absurd (true≢false (sym (fit 0 w (omega arith)).asked))

root-kept : (hash : Hash) (before after : Table) (root : BlobRef) (st : Store) → Keeps before after → IsRootOf hash before root st → IsRootOf hash after root st
root-kept hash before after root st keeps r = record {
  store = r.store;
  storable = r.storable;
  reference = r.reference;
  held = λ bytes among. keeps _ bytes (r.held bytes among);
}

pub roots-kept : (hash : Hash) (before after : Table) (s : RootedSpace) → Keeps before after → AreRooted hash before s → AreRooted hash after s
roots-kept hash before after s keeps r = record {
  same_len = r.same_len;
  each = λ number d l. let at = r.each number d l in (at.0, at.1, root-kept hash before after (get_or s.roots number d) at.0 keeps at.2);
}

-- a place of a list where something is
there : {X : Type 0} (xs : List X) (n : ℕ) (x : X) → slice_get xs n ≡ Some x → (n < length xs) × (get_or xs n x ≡ x)
there [] n x e = cc
there (y ∷ ys) zero x e = (omega arith, cc)
there (y ∷ ys) (suc n) x e = let h = there ys n x e in (omega arith, h.1)

pub reads-there : (hash : Hash) (table : Table) (size : ℕ) (spaces : List RootedSpace) (fetches : List Fetch) (w : OpenWalk) (s : RootedSpace)
    → s ≡ get_or spaces w.space s → AreRooted hash table s → IsFit size spaces fetches w
    → (st : Store) × (after s.scope s.history w.number s.first ≡ Some st) × IsRootOf hash table w.walk.root st
reads-there hash table size spaces fetches w s read rooted fit =
    let at = there s.roots w.number w.walk.root (ap (λ (x : RootedSpace). slice_get x.roots w.number) read ∙ fit.root s) in
    let root = rooted.each w.number w.walk.root at.0 in
    (root.0, root.1, subst (λ r. IsRootOf hash table r root.0) at.1 root.2)

some-there : {X : Type 0} (o : Option X) → IsSome o → is_some o ≡ true
some-there None h = absurd (true≢false (sym h))
some-there (Some x) h = refl

pub ended : (hash : Hash) (log : Log) (by : By) (broker : ℕ) (st : Store) (w : Walk) (cache : Cache) (found : Found) → IsTrue (is_asked by log)
    → ((reference : BlobRef) → holds log broker reference ≡ is_some (clean_at reference cache))
    → TellsNext hash st w cache (Done found) → (found ≡ own_walk st w.asked w.path) × HeldAtOnce by broker (own_needs hash st w.asked w.path) log
ended hash log by broker st w cache found asked held told = (
  told.0,
  record {
    past = log;
    later = [];
    split = sym (append-nil log);
    asked = asked;
    held = λ reference needed. held reference ∙ some-there (clean_at reference cache) (told.1 reference needed).0;
  },
)

pub grounds : (set : Setting) (log : Log) (by : By) (r : Request) (number : ℕ) (st : Store) (w : Walk) (cache : Cache) (found : Found) → IsTrue (is_asked by log)
    → ((reference : BlobRef) → holds log r.broker reference ≡ is_some (clean_at reference cache))
    → TellsNext set.hash st w cache (Done found) → store_after set log r.namespace number ≡ Some st → HasOwnLinks st → IsFresh log by r.broker r.namespace number
    → WalkTells set log by r w.asked w.path [] (Ok found) number × HasHeldNeeds set log by r w.asked w.path [] number
grounds set log by r number st w cache found asked held told stands own fresh =
    let ends = ended set.hash log by r.broker st w cache found asked held told in (
      subst (λ (f : Found). WalkTells set log by r w.asked w.path [] (Ok f) number) (sym ends.0) (told_alone set log by r w.asked w.path number st stands own fresh),
      (holds_alone set log by r w.asked w.path number st stands own []).1 ends.1,
    )

-- ---- as the log has it

-- there are so many landings where there is a store after them
within : (space : Scope) (ls : List (List Group)) (number : ℕ) (st new : Store) → after space ls number st ≡ Some new → number < suc (length ls)
within space ls zero st new e = omega arith
within space [] (suc number) st new e = cc
within space (groups ∷ ls) (suc number) st new e = by (after_groups space groups st) (λ mid. within space ls number mid new) e
  where
    by : (o : Option Store) → ((mid : Store) → after space ls number mid ≡ Some new → number < suc (length ls)) → option_and_then (λ mid. after space ls number mid) o ≡ Some new → suc number < suc (suc (length ls))
    by None again f = cc
    by (Some mid) again f = let l = again mid f in omega arith

at-first : (set : Setting) (name : Name) (number : ℕ) → first_number set name ≡ 0 → above_first (first_number set name) number ≡ Some number
at-first set name number e = ap (λ first. above_first first number) e

module _ (set : Setting) (log : Log) (name : Name) (s : RootedSpace) (is : IsSpaceOf set log name s) where
  stored : ℕ → Option Store
  stored number = after (scope_of name) (landings log name) number (begun_at set name)

  same-store : (number : ℕ) → after s.scope s.history number s.first ≡ stored number
  unfolding stored
  same-store number =
      ap (λ scope. after scope s.history number s.first) is.scope
      ∙ ap (λ ls. after (scope_of name) ls number s.first) is.history
      ∙ ap (λ first. after (scope_of name) (landings log name) number first) is.first

  log-store : (number : ℕ) → store_after set log name number ≡ stored number
  unfolding stored
  log-store number =
      ap (λ b. cond b (option_and_then stored (above_first (first_number set name) number)) None) is.opened
      ∙ ap (option_and_then stored) (at-first set name number is.begins)

same-some : (a b : Store) → Some a ≡ Some b → a ≡ b
same-some a b e = cc

pub stands-there : (set : Setting) (log : Log) (name : Name) (s : RootedSpace) (number : ℕ) (st : Store) → IsSpaceOf set log name s → after s.scope s.history number s.first ≡ Some st → store_after set log name number ≡ Some st
stands-there set log name s number st is e = log-store set log name s is number ∙ sym (same-store set log name s is number) ∙ e

pub stores-held : (set : Setting) (log : Log) (name : Name) (table : Table) (s : RootedSpace) (number : ℕ) (st : Store) → IsSpaceOf set log name s → AreRooted set.hash table s → store_after set log name number ≡ Some st → Holds set.hash table st
stores-held set log name table s number st is rooted e =
    let here : after s.scope s.history number s.first ≡ Some st = same-store set log name s is number ∙ sym (log-store set log name s is number) ∙ e in
    let few : number < suc (length s.history) = within s.scope s.history number s.first st here in
    let root = rooted.each number (root_reference set.hash st) (subst (λ n. number < n) (sym rooted.same_len) few) in
    subst (λ (x : Store). Holds set.hash table x) (same-some root.0 st (sym root.1 ∙ here)) root.2.held
