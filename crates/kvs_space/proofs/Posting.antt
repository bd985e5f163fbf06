-- The job manager's transactions that wait in a namespace.
use Rattle.std.proofs.Common.{ℕ, zero, suc, ◌<◌, ◌≤◌, length, replicate, get_or, arith, ◌≡◌, inl, inr, List, [], ◌∷◌, ◌++◌, Bool, true, false, cond, if◌then◌else◌, Some, Result, Ok, Err, option_and_then, refl, sym, ap, ◌∙◌, subst, true≢false, append-nil}
use Rattle.std.specs.Prelude.{slice_index}
use Rattle.std.proofs.lemmas.List.{length-replicate, get_or-replicate}
use Rattle.std.specs.Cmp.Lexicographic.{bytes_decides}
use Rattle.kvs_txn.specs.declared.answers.Refusal.{Refusal}
use Rattle.kvs_txn.specs.declared.txn.Author.{Author}
use Rattle.kvs_txn.specs.declared.txn.Author.TheVariants as author
use Rattle.kvs_txn.specs.declared.txn.Group.{Group}
use Rattle.kvs_txn.specs.declared.txn.Scope.TheVariants as scope
use Rattle.kvs_model.specs.History.{after, after_groups, first_store, landed_on}
use Rattle.kvs_model.specs.Operation.{effect}
use Rattle.kvs_model.specs.Store.{Name, Store, empty_store}
use Rattle.kvs_rules.specs.Landings.{IsUser}
use Rattle.kvs_rules.specs.Namespaces.{is_primary, primary, scope_of}
use Rattle.store_laws.specs.Reserved.{IsUserAuthor}
use Rattle.store_laws.specs.Posts.{AreTaken, is_manager, posts_in}
use Rattle.store_laws.proofs.Posts.{posts-begin, users-step, posts-step, posts-taken}
use Rattle.kvs_space.specs.Links.{greatest}
use Rattle.kvs_space.specs.Space.{SpaceValue, begun, seen}
use Rattle.std.specs.List.{IsDistinct}
use Rattle.fence_merge.specs.Fences.{AreFences}
use Rattle.fence_merge.specs.Merging.{MergerValue}
use Rattle.kvs_rules.specs.Brokers.{parent}
use Rattle.kvs_space.specs.Sound.{ArePosted, IsSoundSpace}
use Rattle.kvs_space.proofs.Announced.{parent-low}

pub posts-append : (gs rest : List Group) → posts_in (gs ++ rest) ≡ posts_in gs ++ posts_in rest
posts-append [] rest = refl
posts-append (g ∷ gs) rest = by (posts-append gs rest) (is_manager g.txn.author)
  where
    by : posts_in (gs ++ rest) ≡ posts_in gs ++ posts_in rest → (b : Bool) → cond b (g ∷ posts_in (gs ++ rest)) (posts_in (gs ++ rest)) ≡ cond b (g ∷ posts_in gs) (posts_in gs) ++ posts_in rest
    by more true = ap (λ xs. g ∷ xs) more
    by more false = more

pub is-user : (who : Author) → is_manager who ≡ false → IsUser who
is-user (author.User id) e = tt
is-user author.Manager e = absurd (true≢false e)

author-user : (who : Author) → is_manager who ≡ false → IsUserAuthor who
author-user (author.User id) e = tt
author-user author.Manager e = absurd (true≢false e)

pub no-manager : (who : Author) → IsUser who → is_manager who ≡ false
no-manager (author.User id) u = refl
no-manager author.Manager u = absurd u

pub managers-is : (who : Author) → who ≡ author.Manager → is_manager who ≡ true
managers-is who e = ap is_manager e

pub with-user : (g : Group) (rest : List Group) → is_manager g.txn.author ≡ false → posts_in (g ∷ rest) ≡ posts_in rest
with-user g rest e = ap (λ b. cond b (g ∷ posts_in rest) (posts_in rest)) e

pub with-post : (g : Group) (rest : List Group) → is_manager g.txn.author ≡ true → posts_in (g ∷ rest) ≡ g ∷ posts_in rest
with-post g rest e = ap (λ b. cond b (g ∷ posts_in rest) (posts_in rest)) e

primary-scope : (name : Name) → is_primary name ≡ true → scope_of name ≡ scope.Primary
primary-scope name e = ap (λ b. if b then scope.Primary else scope.Other) e

pub none-right : {A : Type 0} (xs ys : List A) → xs ++ ys ≡ [] → ys ≡ []
none-right [] ys e = e
none-right (x ∷ xs) ys e = cc

pub none-left : {A : Type 0} (xs ys : List A) → xs ++ ys ≡ [] → xs ≡ []
none-left [] ys e = refl
none-left (x ∷ xs) ys e = cc

front : (gs rest : List Group) (st new : Store) → AreTaken (posts_in (gs ++ rest)) st → after_groups scope.Primary gs st ≡ Some new → AreTaken (posts_in rest) new
front [] rest st new h e = subst (AreTaken (posts_in rest)) (let s : st ≡ new = cc in s) h
front (g ∷ gs) rest st new h e = by (λ mid k f. front gs rest mid new k f) (effect st g.txn scope.Primary) refl e
  where
    step : (mid : Store) → effect st g.txn scope.Primary ≡ Ok mid → (b : Bool) → is_manager g.txn.author ≡ b → AreTaken (posts_in (gs ++ rest)) mid
    step mid is true m = posts-step g (posts_in (gs ++ rest)) st mid (subst (λ xs. AreTaken xs st) (with-post g (gs ++ rest) m) h) is
    step mid is false m = users-step (posts_in (gs ++ rest)) st mid g.txn (subst (λ xs. AreTaken xs st) (with-user g (gs ++ rest) m) h) (author-user g.txn.author m) is

    by : ((mid : Store) → AreTaken (posts_in (gs ++ rest)) mid → after_groups scope.Primary gs mid ≡ Some new → AreTaken (posts_in rest) new) → (r : Result Store Refusal) → effect st g.txn scope.Primary ≡ r
        → option_and_then (λ x. after_groups scope.Primary gs x) (landed_on r) ≡ Some new → AreTaken (posts_in rest) new
    by more (Err refusal) is e = cc
    by more (Ok mid) is e = more mid (step mid is (is_manager g.txn.author) refl) e

-- the groups in front took effect
pub posted-taken : (name : Name) (gs rest : List Group) (st new : Store) → ArePosted name (gs ++ rest) st → after_groups (scope_of name) gs st ≡ Some new → ArePosted name rest new
posted-taken name gs rest st new (inl h) e = inl (h.0, front gs rest st new h.1 (ap (λ sc. after_groups sc gs st) (sym (primary-scope name h.0)) ∙ e))
posted-taken name gs rest st new (inr h) e = inr (h.0, none-right (posts_in gs) (posts_in rest) (sym (posts-append gs rest) ∙ h.1))

-- a group that is refused is a user's
pub refused-user : (name : Name) (g : Group) (rest : List Group) (st : Store) (refusal : Refusal) → ArePosted name (g ∷ rest) st → effect st g.txn (scope_of name) ≡ Err refusal → is_manager g.txn.author ≡ false
refused-user name g rest st refusal h e = by (is_manager g.txn.author) refl h
  where
    by : (b : Bool) → is_manager g.txn.author ≡ b → ArePosted name (g ∷ rest) st → is_manager g.txn.author ≡ false
    by false m h = m
    by true m (inl h) = absurd (posts-taken g (posts_in rest) st refusal (subst (λ xs. AreTaken xs st) (with-post g rest m) h.1) (ap (effect st g.txn) (sym (primary-scope name h.0)) ∙ e))
    by true m (inr h) = absurd (let n : g ∷ posts_in rest ≡ [] = sym (with-post g rest m) ∙ h.1 in cc)

pub posted-less : (name : Name) (g : Group) (rest : List Group) (st : Store) → is_manager g.txn.author ≡ false → ArePosted name (g ∷ rest) st → ArePosted name rest st
posted-less name g rest st m (inl h) = inl (h.0, subst (λ xs. AreTaken xs st) (with-user g rest m) h.1)
posted-less name g rest st m (inr h) = inr (h.0, sym (with-user g rest m) ∙ h.1)

pub user-behind : (ready : List Group) (g : Group) → is_manager g.txn.author ≡ false → posts_in (ready ++ g ∷ []) ≡ posts_in ready
user-behind ready g m = posts-append ready (g ∷ []) ∙ ap (λ xs. posts_in ready ++ xs) (with-user g [] m) ∙ append-nil (posts_in ready)

pub post-behind : (ready : List Group) (g : Group) → is_manager g.txn.author ≡ true → posts_in (ready ++ g ∷ []) ≡ posts_in ready ++ g ∷ []
post-behind ready g m = posts-append ready (g ∷ []) ∙ ap (λ xs. posts_in ready ++ xs) (with-post g [] m)

-- a user's transaction comes
pub posted-user : (name : Name) (ready : List Group) (g : Group) (st : Store) → is_manager g.txn.author ≡ false → ArePosted name ready st → ArePosted name (ready ++ g ∷ []) st
posted-user name ready g st m (inl h) = inl (h.0, subst (λ xs. AreTaken xs st) (sym (user-behind ready g m)) h.1)
posted-user name ready g st m (inr h) = inr (h.0, user-behind ready g m ∙ h.1)

-- nothing waits in `primary` at its beginning
pub begun-posted : (grant : List ℕ) (name : Name) (size : ℕ) (stores : List Store) → name ≡ primary → 1 ≤ size → stores ≡ replicate size (first_store grant) → ArePosted name [] (get_or stores 0 [])
begun-posted grant name zero stores n l e = absurd (omega arith)
begun-posted grant name (suc size) stores n l e = inl ((bytes_decides name primary).1 n, subst (AreTaken []) (sym (ap (λ ss. get_or ss 0 []) e)) (posts-begin grant))

-- the groups that were tried first were refused, and no other took effect
pub posted-denied : (name : Name) (ready : List Group) (g : Group) (rest : List Group) (st : Store) (refusal : Refusal) → ArePosted name ready st → ready ≡ g ∷ rest → effect st g.txn (scope_of name) ≡ Err refusal → ArePosted name rest st
posted-denied name ready g rest st refusal h is e =
    let p = subst (λ q. ArePosted name q st) is h in
    posted-less name g rest st (refused-user name g rest st refusal p e) p

pub no-fences : AreFences []
unfolding IsDistinct
no-fences = record { open_each = tt; apart = tt }

-- `primary` at its beginning
pub begun-space : (fanout : ℕ) (grant : List ℕ) (size : ℕ) (name : Name) (known : List ℕ) (stores : List Store) (links : List (List ℕ)) → name ≡ primary → 1 ≤ size → known ≡ replicate size 1 → stores ≡ replicate size (first_store grant) → links ≡ replicate size []
    → IsSoundSpace fanout grant (record { name = name; removed = false; history = []; known = known; stores = stores; links = links; merger = record { fences = []; ready = [] } })
begun-space fanout grant size name known stores links n l k st ls = record {
  some = let m = long in omega arith;
  announced = record {
    same_len = ap length ls ∙ length-replicate size [] ∙ sym long;
    under = λ b above below.
        let lb : b < size = subst (λ m. b < m) long below in
        let p : parent fanout b < size = let q = parent-low fanout b in omega arith in
        let e : greatest (slice_index known b) (get_or links b []) ≡ slice_index known (parent fanout b) = ap (greatest (slice_index known b)) (ap (λ x. get_or x b []) ls ∙ get_or-replicate size b [] [] lb) ∙ one b lb ∙ sym (one (parent fanout b) p) in
        omega (arith, e);
  };
  newest = one 0 (omega arith);
  replicas = record {
    same_len = ap length st ∙ length-replicate size (first_store grant) ∙ sym long;
    each = λ b below.
        let lb : b < size = subst (λ m. b < m) long below in
        ap (λ m. after (scope_of name) [] m (begun grant name)) (let e = one b lb in let z : seen (slice_index known b) 0 ≡ 0 = omega arith in z)
        ∙ ap Some (ap (λ b. cond b (first_store grant) empty_store) ((bytes_decides name primary).1 n) ∙ sym (ap (λ x. get_or x b []) st ∙ get_or-replicate size b (first_store grant) [] lb));
  };
  living = inl refl;
  fences = no-fences;
  members = tt;
  posts = begun-posted grant name size stores n l st;
} where
  long : length known ≡ size
  long = ap length k ∙ length-replicate size 1

  one : (b : ℕ) → b < size → slice_index known b ≡ 1
  one b lb = ap (λ x. slice_index x b) k ∙ get_or-replicate size b 1 0 lb

-- the same, as the code has it
pub begun-as : (fanout : ℕ) (grant : List ℕ) (size : ℕ) (name : Name) (history : List (List Group)) (known : List ℕ) (stores : List Store) (links : List (List ℕ)) (merger : MergerValue) → history ≡ [] → merger ≡ record { fences = []; ready = [] }
    → name ≡ primary → 1 ≤ size → known ≡ replicate size 1 → stores ≡ replicate size (first_store grant) → links ≡ replicate size []
    → IsSoundSpace fanout grant (record { name = name; removed = false; history = history; known = known; stores = stores; links = links; merger = merger })
begun-as fanout grant size name history known stores links merger h m n l k st ls = subst (IsSoundSpace fanout grant) (sym is) (begun-space fanout grant size name known stores links n l k st ls)
  where
    is : ◌≡◌ {A = SpaceValue} (record { name = name; removed = false; history = history; known = known; stores = stores; links = links; merger = merger })
        (record { name = name; removed = false; history = []; known = known; stores = stores; links = links; merger = record { fences = []; ready = [] } })
    is = λ j. record { name = name; removed = false; history = h j; known = known; stores = stores; links = links; merger = m j }
