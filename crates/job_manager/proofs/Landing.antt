-- What the landings of a step make of the newest store: the jobs stay, or they are those after the post that landed.
use Rattle.std.proofs.Common.{◌≡◌, List, [], ◌∷◌, ◌++◌, length, Bool, true, false, Option, Some, None, Result, Ok, Err, refl, sym, ap, ◌∙◌, subst}
use Rattle.std.specs.Prelude.{IfOk, flat_map, option_and_then}
use Rattle.job_rules.specs.Fits.{IsGrant}
use Rattle.kvs_model.proofs.Sound.{IsStore-ops_effect}
use Rattle.kvs_model.specs.History.{after, after_groups, landed_on}
use Rattle.kvs_model.specs.Operation.{effect}
use Rattle.kvs_model.specs.Store.{IsStore, Store}
use Rattle.kvs_space.proofs.Posting.{none-left, none-right, posts-append, with-post, with-user}
use Rattle.kvs_txn.specs.declared.answers.Refusal.{Refusal}
use Rattle.kvs_txn.specs.declared.txn.Author.{Author}
use Rattle.kvs_txn.specs.declared.txn.Author.TheVariants as author
use Rattle.kvs_txn.specs.declared.txn.Group.{Group}
use Rattle.kvs_txn.specs.declared.txn.Scope.TheVariants as scope
use Rattle.kvs_txn.specs.declared.txn.Txn.{Txn}
use Rattle.store_laws.specs.Posts.{is_manager, posts_in}
use Rattle.store_laws.specs.Reserved.{IsUserAuthor}
use Rattle.resource_set.specs.declared.node.Resources.{Resources}
use Rattle.job_book.specs.Value.{BookValue}
use Rattle.manager_rules.specs.Jobs.{AreJobsOf, HasOnlyJobs, StoredJob, ids_of}
use Rattle.manager_rules.specs.Posts.{Post, group_of, jobs_after, txn_of}
use Rattle.manager_rules.specs.Sound.{IsSoundStore}
use Rattle.manager_rules.proofs.Posting.{posts_keep_sound, posts_land, users_keep_sound}
use Rattle.manager_rules.proofs.Stores.{users_leave_jobs}
use Rattle.manager_rules.proofs.Taking.{post_keeps, users_keep_only}
use Rattle.job_manager.specs.Managed.{WasDuePost}

-- a store with these jobs, and nothing else below `job`
pub record Stands (grant : Resources) (jobs : List StoredJob) (st : Store) : Type 0 where
  pub store : IsStore st
  pub are : AreJobsOf st jobs
  pub only : HasOnlyJobs st (ids_of jobs)
  pub sound : IsSoundStore grant.nodes st

pub as-user : (who : Author) → is_manager who ≡ false → IsUserAuthor who
as-user author.Manager e = cc
as-user (author.User id) e = tt

store-stays : (st new : Store) (txn : Txn) → IsStore st → effect st txn scope.Primary ≡ Ok new → IsStore new
store-stays st new txn is e = subst (λ r. IfOk r IsStore) e (IsStore-ops_effect txn.author scope.Primary 1 txn.ops st is)

pub user-stands : (grant : Resources) (jobs : List StoredJob) (st new : Store) (txn : Txn) → is_manager txn.author ≡ false → Stands grant jobs st → effect st txn scope.Primary ≡ Ok new → Stands grant jobs new
user-stands grant jobs st new txn user h e =
    let users = as-user txn.author user in
    record {
      store = store-stays st new txn h.store e;
      are = users_leave_jobs st new txn jobs users e h.are;
      only = users_keep_only st new txn (ids_of jobs) users e h.only;
      sound = users_keep_sound grant.nodes st new txn users e h.sound;
    }

-- through a transaction that takes effect
pub after-one : (P Q : Store → Type 0) (r : Result Store Refusal) (more : Store → Option Store) (new : Store)
    → ((mid : Store) → r ≡ Ok mid → Q mid) → ((mid : Store) → Q mid → more mid ≡ Some new → P new) → option_and_then more (landed_on r) ≡ Some new → P new
after-one P Q (Ok mid) more new here rest e = rest mid (here mid refl) e
after-one P Q (Err refusal) more new here rest e = cc

pub same-store : (P : Store → Type 0) (st new : Store) → (let o : Option Store = Some st in o ≡ Some new) → P st → P new
same-store P st new e h = let same : st ≡ new = cc in subst P same h

pub users-land : (grant : Resources) (jobs : List StoredJob) (groups : List Group) → posts_in groups ≡ [] → (st new : Store) → Stands grant jobs st → after_groups scope.Primary groups st ≡ Some new → Stands grant jobs new
users-land grant jobs [] none st new h e = same-store (Stands grant jobs) st new e h
users-land grant jobs (g ∷ gs) none st new h e = by (is_manager g.txn.author) refl (λ rest mid k f. users-land grant jobs gs rest mid new k f)
  where
    by : (b : Bool) → is_manager g.txn.author ≡ b
        → (posts_in gs ≡ [] → (mid : Store) → Stands grant jobs mid → after_groups scope.Primary gs mid ≡ Some new → Stands grant jobs new) → Stands grant jobs new
    by true m more = (let wrong : g ∷ posts_in gs ≡ [] = sym (with-post g gs m) ∙ none in cc)
    by false m more =
        after-one (Stands grant jobs) (Stands grant jobs) (effect st g.txn scope.Primary) (λ mid. after_groups scope.Primary gs mid) new
        (λ mid made. user-stands grant jobs st mid g.txn m h made)
        (more (sym (with-user g gs m) ∙ none)) e

module _ (book : BookValue) (sets : IsGrant book.grant.nodes) (post : Post) (was : WasDuePost book post) where
  grant-is : IsGrant was.desk.scene.grant.nodes
  grant-is = subst (λ g. IsGrant g.nodes) (sym was.grant) sets

  pub post-stands : (st new : Store) → Stands book.grant book.jobs st → effect st (txn_of post) scope.Primary ≡ Ok new → Stands book.grant (jobs_after post book.jobs) new
  post-stands st new h e =
      let are : AreJobsOf st was.desk.scene.jobs = subst (AreJobsOf st) (sym was.jobs) h.are in
      let only : HasOnlyJobs st (ids_of was.desk.scene.jobs) = subst (λ js. HasOnlyJobs st (ids_of js)) (sym was.jobs) h.only in
      let sound : IsSoundStore was.desk.scene.grant.nodes st = subst (λ g. IsSoundStore g.nodes st) (sym was.grant) h.sound in
      record {
        store = store-stays st new (txn_of post) h.store e;
        are = subst (λ js. AreJobsOf new (jobs_after post js)) was.jobs (posts_land was.desk was.valid grant-is st new h.store are sound post was.due e);
        only = subst (λ js. HasOnlyJobs new (ids_of (jobs_after post js))) was.jobs (post_keeps was.desk was.valid st h.store are only post new was.due e);
        sound = subst (λ g. IsSoundStore g.nodes new) was.grant (posts_keep_sound was.desk was.valid grant-is st new h.store are sound post was.due e);
      }

  abbrev After : Store → Type 0
  After st = Stands book.grant (jobs_after post book.jobs) st

  pub post-lands : (groups : List Group) → posts_in groups ≡ group_of post ∷ [] → (st new : Store) → Stands book.grant book.jobs st → after_groups scope.Primary groups st ≡ Some new → After new
  post-lands [] one st new h e = cc
  post-lands (g ∷ gs) one st new h e = by (is_manager g.txn.author) refl (λ rest mid k f. post-lands gs rest mid new k f)
    where
      by : (b : Bool) → is_manager g.txn.author ≡ b
          → (posts_in gs ≡ group_of post ∷ [] → (mid : Store) → Stands book.grant book.jobs mid → after_groups scope.Primary gs mid ≡ Some new → After new) → After new
      by true m more =
          let here : g ∷ posts_in gs ≡ group_of post ∷ [] = sym (with-post g gs m) ∙ one in
          let is : g ≡ group_of post = cc in
          let none : posts_in gs ≡ [] = cc in
          after-one After After (effect st g.txn scope.Primary) (λ mid. after_groups scope.Primary gs mid) new
          (λ mid made. post-stands st mid h (subst (λ x. effect st x.txn scope.Primary ≡ Ok mid) is made))
          (λ mid k rest. users-land book.grant (jobs_after post book.jobs) gs none mid new k rest) e
      by false m more =
          after-one After (Stands book.grant book.jobs) (effect st g.txn scope.Primary) (λ mid. after_groups scope.Primary gs mid) new
          (λ mid made. user-stands book.grant book.jobs st mid g.txn m h made)
          (more (sym (with-user g gs m) ∙ one)) e

-- ---- landings one behind another

abbrev pub flat : List (List Group) → List Group
flat landings = flat_map (λ groups. groups) landings

pub through : (P Q : Store → Type 0) (o : Option Store) (more : Store → Option Store) (new : Store)
    → ((mid : Store) → o ≡ Some mid → Q mid) → ((mid : Store) → Q mid → more mid ≡ Some new → P new) → option_and_then more o ≡ Some new → P new
through P Q (Some mid) more new here rest e = rest mid (here mid refl) e
through P Q None more new here rest e = cc

pub users-through : (grant : Resources) (jobs : List StoredJob) (ls : List (List Group)) → posts_in (flat ls) ≡ [] → (st new : Store) → Stands grant jobs st
    → after scope.Primary ls (length ls) st ≡ Some new → Stands grant jobs new
users-through grant jobs [] none st new h e = same-store (Stands grant jobs) st new e h
users-through grant jobs (groups ∷ ls) none st new h e =
    let both : posts_in groups ++ posts_in (flat ls) ≡ [] = sym (posts-append groups (flat ls)) ∙ none in
    through (Stands grant jobs) (Stands grant jobs) (after_groups scope.Primary groups st) (λ mid. after scope.Primary ls (length ls) mid) new
    (λ mid made. users-land grant jobs groups (none-left (posts_in groups) (posts_in (flat ls)) both) st mid h made)
    (λ mid k rest. users-through grant jobs ls (none-right (posts_in groups) (posts_in (flat ls)) both) mid new k rest) e

module _ (book : BookValue) (sets : IsGrant book.grant.nodes) (post : Post) (was : WasDuePost book post) where
  pub post-through : (ls : List (List Group)) → posts_in (flat ls) ≡ group_of post ∷ [] → (st new : Store) → Stands book.grant book.jobs st
      → after scope.Primary ls (length ls) st ≡ Some new → Stands book.grant (jobs_after post book.jobs) new
  post-through [] one st new h e = cc
  post-through (groups ∷ ls) one st new h e = by (posts_in groups) refl (sym (posts-append groups (flat ls)) ∙ one) (λ both mid k f. post-through ls both mid new k f)
    where
      by : (gs : List Group) → posts_in groups ≡ gs → gs ++ posts_in (flat ls) ≡ group_of post ∷ []
          → (posts_in (flat ls) ≡ group_of post ∷ [] → (mid : Store) → Stands book.grant book.jobs mid → after scope.Primary ls (length ls) mid ≡ Some new → After book sets post was new) → After book sets post was new
      by [] is both more =
          through (After book sets post was) (Stands book.grant book.jobs) (after_groups scope.Primary groups st) (λ mid. after scope.Primary ls (length ls) mid) new
          (λ mid made. users-land book.grant book.jobs groups is st mid h made)
          (more both) e
      by (x ∷ xs) is both more =
          let first : x ≡ group_of post = cc in
          let behind : xs ++ posts_in (flat ls) ≡ [] = cc in
          let here : posts_in groups ≡ group_of post ∷ [] = is ∙ ap (λ y. y ∷ xs) first ∙ ap (λ ys. group_of post ∷ ys) (none-left xs (posts_in (flat ls)) behind) in
          through (After book sets post was) (After book sets post was) (after_groups scope.Primary groups st) (λ mid. after scope.Primary ls (length ls) mid) new
          (λ mid made. post-lands book sets post was groups here st mid h made)
          (λ mid k rest. users-through book.grant (jobs_after post book.jobs) ls (none-right xs (posts_in (flat ls)) behind) mid new k rest) e

-- the store after landings behind others is that after them on the store of those
pub after-behind : (first : Store) (ls more : List (List Group)) (st new : Store) → after scope.Primary ls (length ls) first ≡ Some st → after scope.Primary (ls ++ more) (length (ls ++ more)) first ≡ Some new
    → after scope.Primary more (length more) st ≡ Some new
after-behind first [] more st new a b = let same : first ≡ st = cc in subst (λ s. after scope.Primary more (length more) s ≡ Some new) same b
after-behind first (groups ∷ ls) more st new a b = by (after_groups scope.Primary groups first) (λ mid c d. after-behind mid ls more st new c d) a b
  where
    by : (o : Option Store)
        → ((mid : Store) → after scope.Primary ls (length ls) mid ≡ Some st → after scope.Primary (ls ++ more) (length (ls ++ more)) mid ≡ Some new → after scope.Primary more (length more) st ≡ Some new)
        → option_and_then (λ mid. after scope.Primary ls (length ls) mid) o ≡ Some st → option_and_then (λ mid. after scope.Primary (ls ++ more) (length (ls ++ more)) mid) o ≡ Some new
        → after scope.Primary more (length more) st ≡ Some new
    by (Some mid) f a b = f mid a b
    by None f a b = cc
