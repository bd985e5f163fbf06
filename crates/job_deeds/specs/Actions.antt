-- What the book finds to do for a job, as a deed.
use Rattle.std.specs.Prelude.{◌≡◌, Option, Some, None, IfSome}
use Rattle.resource_set.specs.Writing.{r_text}
use Rattle.resource_set.specs.Units.{AreHosts}
use Rattle.manager_rules.specs.Deeds.{Deed}
use Rattle.manager_rules.specs.Deeds as deeds
use Rattle.manager_rules.specs.Due.{MayDo}
use Rattle.manager_rules.specs.Jobs.{StoredJob}
use Rattle.manager_rules.specs.Scene.{IsAsked, Scene}
use Rattle.job_deeds.specs.declared.action.Action.{Action}
use Rattle.job_deeds.specs.declared.action.Action.TheVariants.{Validate, Add, Remove, Lose, Depend, Prioritize, NeverFits, Take, Start, Finish, Expire, Stop, Release, Free, Clean, Carry}

-- its deed
abbrev pub deed_of : Action → Deed
deed_of Validate = deeds.Validates
deed_of (Add need) = deeds.Adds need
deed_of (Remove need) = deeds.Removes need
deed_of (Lose need) = deeds.Loses need
deed_of Depend = deeds.Depends
deed_of (Prioritize priority) = deeds.Prioritizes priority
deed_of NeverFits = deeds.NeverFits
deed_of (Take r text) = deeds.Takes r
deed_of Start = deeds.Starts
deed_of (Finish status) = deeds.Finishes status
deed_of Expire = deeds.Expires
deed_of Stop = deeds.Stops
deed_of Release = deeds.Releases
deed_of Free = deeds.Frees
deed_of Clean = deeds.Cleans
deed_of (Carry asked) = deeds.Carries asked.now

-- its texts tell what it does
abbrev pub IsTold : Action → Type 0
IsTold Validate = Unit {0}
IsTold (Add need) = Unit {0}
IsTold (Remove need) = Unit {0}
IsTold (Lose need) = Unit {0}
IsTold Depend = Unit {0}
IsTold (Prioritize priority) = Unit {0}
IsTold NeverFits = Unit {0}
IsTold (Take r text) = text ≡ r_text r
IsTold Start = Unit {0}
IsTold (Finish status) = Unit {0}
IsTold Expire = Unit {0}
IsTold Stop = Unit {0}
IsTold Release = Unit {0}
IsTold Free = Unit {0}
IsTold Clean = Unit {0}
IsTold (Carry asked) = IsAsked asked.now

-- a deed of the manager's own, and no command's
abbrev pub IsOwn : Deed → Type 0
IsOwn (deeds.Carries asked) = ⊥
IsOwn deeds.Validates = Unit {0}
IsOwn (deeds.Adds need) = Unit {0}
IsOwn (deeds.Removes need) = Unit {0}
IsOwn (deeds.Loses need) = Unit {0}
IsOwn deeds.Depends = Unit {0}
IsOwn deeds.Restarts = Unit {0}
IsOwn (deeds.Prioritizes priority) = Unit {0}
IsOwn deeds.NeverFits = Unit {0}
IsOwn (deeds.Takes r) = Unit {0}
IsOwn deeds.Starts = Unit {0}
IsOwn (deeds.Finishes status) = Unit {0}
IsOwn deeds.Expires = Unit {0}
IsOwn deeds.Stops = Unit {0}
IsOwn deeds.Releases = Unit {0}
IsOwn deeds.Frees = Unit {0}
IsOwn deeds.Cleans = Unit {0}

-- the action is due for the job, or nothing of the manager's own is
abbrev pub Finds : Scene → StoredJob → Option Action → Type 0
Finds s j (Some action) = MayDo s j (deed_of action)
Finds s j None = (deed : Deed) → IsOwn deed → MayDo s j deed → ⊥

-- the texts of what is found
abbrev pub AreTold : Option Action → Type 0
AreTold (Some action) = IsTold action
AreTold None = Unit {0}

-- what a job has that events tell of
abbrev pub IsTellable : StoredJob → Type 0
IsTellable j = IfSome j.r (λ r. AreHosts r.nodes)
