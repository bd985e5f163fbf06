-- The transactions that wait in a service of keys make links in their own namespace alone.
use Rattle.std.proofs.Common.{◌≡◌, ℕ, inl, inr, List, [], ◌∷◌, ◌++◌, Bool, true, false, cond, Option, Some, None, IfSome, refl, sym, ap, ◌∙◌, subst, bytes_eq}
use Rattle.std.specs.List.{AllByRecursion as Each}
use Rattle.kvs_txn.specs.declared.txn.By.{By}
use Rattle.kvs_txn.specs.declared.txn.Group.{Group}
use Rattle.kvs_txn.specs.declared.txn.Op.{Op}
use Rattle.kvs_txn.specs.declared.txn.Op.TheVariants as op
use Rattle.kvs_model.specs.OneStore.{AreOwn, IsOwnOp}
use Rattle.kvs_model.specs.Store.{Name, Store}
use Rattle.kvs_rules.specs.declared.events.KvsAsk.{KvsAsk}
use Rattle.kvs_rules.specs.declared.events.KvsAsk.TheVariants as ask
use Rattle.kvs_rules.specs.declared.events.KvsEvent.TheVariants as event
use Rattle.kvs_rules.specs.Landings.{AreMembers, IsUsers}
use Rattle.kvs_rules.specs.Log.{Happened}
use Rattle.kvs_rules.specs.Namespaces.{Asks, Setting, groups_landed}
use Rattle.kvs_rules.specs.OneStore.{AsksOwn, IsOwnAsk}
use Rattle.store_laws.specs.Posts.{IsPost, IsPutBelow, is_manager, jobs, posts_in}
use Rattle.store_laws.specs.Reserved.{PutsValue}
use Rattle.kvs_space.specs.Sound.{ArePosted}
use Rattle.kvs_keys.specs.Agrees.{IsWaiting}

-- a post puts values
put-own : (operation : Op) → PutsValue operation → IsOwnOp operation
put-own (op.Put path bytes) h = tt
put-own (op.Append path bytes) h = tt
put-own (op.Unlink path) h = tt
put-own (op.Mkdir path) h = tt
put-own (op.Link path target) h = absurd h

puts-own : (ops : List Op) → Each (IsPutBelow jobs) ops → Each IsOwnOp ops
puts-own [] h = tt
puts-own (operation ∷ ops) h = (put-own operation h.0.puts, puts-own ops h.1)

asks-own : (set : Setting) (space : Name) (by : By) (asked : KvsAsk) → AsksOwn set → Asks set space by asked → IsOwnAsk asked
asks-own set space by asked links h = subst IsOwnAsk h.asked (links by h.request h.made)

both-own : (xs ys : List Op) → Each IsOwnOp xs → Each IsOwnOp ys → Each IsOwnOp (xs ++ ys)
both-own [] ys a b = b
both-own (x ∷ xs) ys a b = (a.0, both-own xs ys a.1 b)

members-own : (set : Setting) (space : Name) (name : List ℕ) (count : ℕ) (bys : List By) (ops : List Op) → AsksOwn set → AreMembers set space name count bys ops → Each IsOwnOp ops
members-own set space name count [] ops links h = subst (Each IsOwnOp) (sym h) tt
members-own set space name count (by ∷ bys) ops links (txn, rest, asked, is, others) =
    subst (Each IsOwnOp) (sym is) (both-own txn.ops rest (asks-own set space by (ask.Fence name count txn) links asked) (members-own set space name count bys rest links others))

users-own : (set : Setting) (space : Name) (group : Group) → AsksOwn set → IsUsers set space group → AreOwn group
users-own set space group links (user, inl c) = asks-own set space c.by (ask.Commit group.txn) links c.asked
users-own set space group links (user, inr f) = members-own set space f.name f.count group.authors group.txn.ops links f.members

-- what waits is users' or a post
pub ready-own : (set : Setting) (space : Name) (groups : List Group) → AsksOwn set → Each (IsWaiting set space) groups → Each IsPost (posts_in groups) → Each AreOwn groups
ready-own set space [] links waits posts = tt
ready-own set space (group ∷ groups) links waits posts = by (is_manager group.txn.author) refl waits.0 posts (ready-own set space groups links waits.1)
  where
    by : (b : Bool) → is_manager group.txn.author ≡ b → IsWaiting set space group → Each IsPost (cond b (group ∷ posts_in groups) (posts_in groups)) → (Each IsPost (posts_in groups) → Each AreOwn groups) → Each AreOwn (group ∷ groups)
    by true e w p others = (puts-own group.txn.ops p.0.below, others p.1)
    by false e (inl users) p others = (users-own set space group links users, others p)
    by false e (inr managers) p others = let m : true ≡ false = sym (ap is_manager managers.author) ∙ e in absurd (cc)

pub posted-each : (name : Name) (ready : List Group) (st : Store) → ArePosted name ready st → Each IsPost (posts_in ready)
posted-each name ready st (inl taken) = taken.1.each
posted-each name ready st (inr none) = subst (Each IsPost) (sym none.1) tt

pub first-own : (groups rest : List Group) → Each AreOwn (groups ++ rest) → Each AreOwn groups
first-own [] rest h = tt
first-own (group ∷ groups) rest h = (h.0, first-own groups rest h.1)

-- so is what lands of them
pub landed-own : (space name : Name) (number : ℕ) (authors : List (Option By)) (groups : List Group) → Each AreOwn groups → IfSome (groups_landed space (Happened (event.Landed name number authors groups))) (Each AreOwn)
landed-own space name number authors [] h = tt
landed-own space name number authors (group ∷ groups) h = by (bytes_eq space name)
  where
    by : (b : Bool) → IfSome (cond b (Some (group ∷ groups)) None) (Each AreOwn)
    by true = h
    by false = tt
