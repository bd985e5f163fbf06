-- The children of an instance's jobs: which is born next and with which grant, and which may go.
use Rattle.std.specs.Prelude.{◌≡◌, ◌||◌, ◌&&◌, ◌≤◌, ℕ, List, Bool, false, Option, Some, None, Contains, is_some, length, not}
use Rattle.std.specs.Option.{option_map_or}
use Rattle.child_grant.specs.Child.{numbered}
use Rattle.instance_rules.specs.Log.{Instance, Log, service_of}
use Rattle.job_deeds.specs.kvs_model.Store.{Store}
use Rattle.kvs_rules.specs.Namespaces.{newest_store, primary}
use Rattle.job_deeds.specs.resource_set.declared.node.Resources.{Resources}
use Rattle.job_book.specs.Contract.{IsFirstBirth as IsFirstIn, NoBirth as NoneIn}
use Rattle.job_book.specs.Value.{BookValue}
use Rattle.job_commands.specs.Children.{all_children}
use Rattle.job_commands.specs.Desks.{asked_of}
use Rattle.job_commands.specs.Rows.{CommandsValue}
use Rattle.job_manager.specs.Posts.{is_posted_for}
use Rattle.job_deeds.specs.job_states.Table.{is_state}
use Rattle.job_deeds.specs.job_states.declared.job.State.TheVariants as state
use Rattle.job_deeds.specs.manager_rules.Dependencies.{job_at}
use Rattle.job_deeds.specs.manager_rules.Jobs.{AreJobsOf, StoredJob}
use Rattle.job_deeds.specs.manager_rules.Scene.{Scene, has_living_child}
use Rattle.job_deeds.specs.manager_rules.Times.{IsBirthDue}
use Rattle.job_service.specs.Value.{JobServiceValue}

-- ---- births

-- the first job whose child is to be born, if there is one
abbrev pub IsBearing : CommandsValue → BookValue → Option ℕ → Type 0
IsBearing v book (Some job) = IsFirstIn book (all_children v.children) job
IsBearing v book None = NoneIn book (all_children v.children)

-- the least job whose birth is due
pub record IsFirstBirth (s : Scene) (job : ℕ) : Type 0 where
  pub due : IsBirthDue s job
  pub first : (other : ℕ) → IsBirthDue s other → job ≤ other

abbrev pub NoBirth : Scene → Type 0
NoBirth s = (job : ℕ) → IsBirthDue s job → ⊥

-- ---- ends

-- whether the job is ending
abbrev pub is_ending : StoredJob → Bool
is_ending j = is_state j.job.state state.Cleanup

-- whether the living child of a job is to go, which shuts down or doesn't
abbrev pub is_end_due : JobServiceValue → ℕ → Bool → Bool
is_end_due v job shut =
    option_map_or (λ j. shut || is_ending j) (job_at v.manager.book.jobs job) false
    && has_living_child (asked_of v.commands) job

-- whether it may go: no event of its job waits to land
abbrev pub may_end : JobServiceValue → ℕ → Bool → Bool
may_end v job shut = not (is_posted_for job v.manager.posted) && is_end_due v job shut

-- whether something is posted or due: a post, or a birth
abbrev pub is_due : JobServiceValue → Bool
is_due v = (is_some v.manager.posted || is_some v.found) || is_some v.bearing

-- ---- grants

-- the grant of the child of a job with these resources: they are at ranks from 0 on
abbrev pub grant_from : Resources → Resources
grant_from r = record r { nodes = numbered 0 r.nodes }

-- the grant is of the resources that the job holds in the newest store, and they have a host
pub record IsGrantedBy (inst : Instance) (log : Log) (job : ℕ) (grant : Resources) : Type 0 where
  pub store : Store
  pub standing : newest_store inst.service (service_of log) primary ≡ Some store
  pub jobs : List StoredJob
  pub are : AreJobsOf store jobs
  pub j : StoredJob
  pub known : Contains jobs j
  pub is : j.id ≡ job
  pub r : Resources
  pub held : j.r ≡ Some r
  pub some : 1 ≤ length r.nodes
  pub given : grant ≡ grant_from r
