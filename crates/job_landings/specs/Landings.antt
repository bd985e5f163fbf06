-- What a landing of the job manager's transaction is to the log of its instance.
use Rattle.std.specs.Prelude.{◌≡◌, ℕ, List, ◌∷◌, ◌++◌, Bool, Option, Some, None, find, option_and_then}
use Rattle.std.specs.List.{AllByRecursion as Each, list_any}
use Rattle.instance_rules.specs.Log.{Instance, Moment, Served}
use Rattle.job_commands.specs.Moments.{CarriesOut, IsBeside, landing}
use Rattle.job_manager.specs.Posts.{command_of}
use Rattle.kvs_keys.specs.Posted.{groups_in}
use Rattle.kvs_rules.specs.Log.{Happened}
use Rattle.kvs_rules.specs.Namespaces.{primary}
use Rattle.kvs_rules.specs.declared.events.KvsEvent.{KvsEvent}
use Rattle.kvs_rules.specs.declared.events.KvsEvent.TheVariants as event
use Rattle.kvs_txn.specs.declared.txn.By.{By}
use Rattle.kvs_txn.specs.declared.txn.Group.{Group}
use Rattle.manager_rules.specs.Posts.{Post, group_of}
use Rattle.store_laws.specs.Posts.{is_manager}

-- an event of the service, as a moment of the instance
abbrev pub happening : KvsEvent → Moment
happening e = Served (Happened e)

-- ---- the landing's number

-- whether a transaction of the job manager's lands at the event
abbrev pub lands_post : KvsEvent → Bool
lands_post e = list_any (λ group. is_manager group.txn.author) (groups_in e)

-- the number of a landing
abbrev pub number_in : KvsEvent → Option ℕ
number_in (event.Landed space number authors groups) = Some number
number_in _ = None

-- the number of the first landing that has a transaction of the job manager's
abbrev pub number_of_post : List KvsEvent → Option ℕ
number_of_post events = option_and_then number_in (find lands_post events)

-- ---- what it carries out

-- the landing carries out this command by the transaction of the post, and no other job command;
-- without one it is about none
abbrev pub CarriesFor : Instance → Post → ℕ → List (Option By) → List Group → Option By → Type 0
CarriesFor inst post number authors groups (Some by) =
    CarriesOut inst by (group_of post) authors groups
CarriesFor inst post number authors groups None = IsBeside inst (landing number authors groups)

-- so for the command of the post, if it has one
abbrev pub Carries : Instance → Post → ℕ → List (Option By) → List Group → Type 0
Carries inst post number authors groups =
    CarriesFor inst post number authors groups (command_of post)

-- the post lands at one of the events, in `primary`, and the others are about no job command
pub record LandsPost (inst : Instance) (post : Post) (events : List KvsEvent) : Type 0 where
  pub before : List KvsEvent
  pub number : ℕ
  pub authors : List (Option By)
  pub groups : List Group
  pub behind : List KvsEvent
  pub split : events ≡ before ++ event.Landed primary number authors groups ∷ behind
  pub first : number_of_post events ≡ Some number
  pub earlier : Each (λ e. IsBeside inst (happening e)) before
  pub later : Each (λ e. IsBeside inst (happening e)) behind
  pub carries : Carries inst post number authors groups
