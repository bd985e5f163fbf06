-- What a job manager keeps: its book tells the jobs of the newest store, and what it has posted was
-- due.
use Rattle.std.specs.Prelude.{◌≡◌, ℕ, ◌<◌, ◌^◌, List, [], ◌∷◌, ◌++◌, Option, Some, None, false}
use Rattle.event_log.specs.declared.event.Event.{Event}
use Rattle.kvs_core.specs.Posted.{newest_of, posted}
use Rattle.kvs_core.specs.Seen.{root_of}
use Rattle.kvs_core.specs.Value.{CoreValue}
use Rattle.kvs_model.specs.Store.{IsStore, Store}
use Rattle.resource_set.specs.declared.node.Node.{Node}
use Rattle.job_book.specs.Value.{BookValue}
use Rattle.manager_rules.specs.Jobs.{AreJobsOf, HasOnlyJobs, IsLogged, ids_of}
use Rattle.manager_rules.specs.Posts.{Desk, IsDesk, IsDuePost, Post, group_of}
use Rattle.manager_rules.specs.Sound.{IsSoundStore}
use Rattle.job_manager.specs.Places.{ArePlaces}
use Rattle.job_manager.specs.Value.{ManagerValue}

-- the post is due for the book's jobs, at some second, with some commands, some answers and some
-- limits; the run resumed with none of the jobs
pub record WasDuePost (book : BookValue) (post : Post) : Type 0 where
  pub desk : Desk
  pub valid : IsDesk desk
  pub jobs : desk.scene.jobs ≡ book.jobs
  pub grant : desk.scene.grant ≡ book.grant
  pub policy : desk.scene.policy ≡ book.policy
  pub old : (id : ℕ) → desk.scene.old id ≡ false
  pub due : IsDuePost desk post

-- of the manager's the service has just this post that waits to land, and it was due
abbrev pub IsOutstanding : CoreValue → BookValue → Option Post → Type 0
IsOutstanding core book None = posted core ≡ []
IsOutstanding core book (Some post) = (posted core ≡ group_of post ∷ []) × WasDuePost book post

-- the logs of jobs in a store stand in a later one, with further events behind them, if any
abbrev pub HaveGrown : Store → Store → Type 0
HaveGrown st later = (id : ℕ) (log : List Event) → id < 2 ^ 64 → IsLogged st id log
    → (further : List Event) × IsLogged later id (log ++ further)

-- the store of a root of `primary`: its live jobs stand well in the grant, and since then logs have
-- only grown
pub record IsRoot (grant : List Node) (newest st : Store) : Type 0 where
  pub sound : IsSoundStore grant st
  pub grown : HaveGrown st newest

-- so of each root
abbrev pub AreRoots : List Node → CoreValue → Type 0
AreRoots grant core = (number : ℕ) (st : Store) → root_of core number ≡ Some st
    → IsRoot grant (newest_of core) st

pub record IsManaged (v : ManagerValue) : Type 0 where
  pub ready : v.core.spent ≡ false
  pub store : IsStore (newest_of v.core)
  pub jobs : AreJobsOf (newest_of v.core) v.book.jobs
  pub only : HasOnlyJobs (newest_of v.core) (ids_of v.book.jobs)
  pub sound : IsSoundStore v.book.grant.nodes (newest_of v.core)
  pub outstanding : IsOutstanding v.core v.book v.posted
  pub roots : AreRoots v.book.grant.nodes v.core
  pub places : ArePlaces v.book.jobs v.places
