-- What an actor leaves that waits for what does not come: in a fence which is short of members, for a number, or for the
-- result of a job that isn't over.
use Rattle.std.proofs.Common.{◌≡◌, ℕ, ◌-◌, ◌<◌, ◌⊎◌, inl, inr, List, [], ◌++◌, ◌&&◌, length, append-nil, Bool, true, false, refl, sym, ap, ◌∙◌, Option, Some, None, true≢false}
use Rattle.std.specs.Prelude.{slice_get, option_and_then, IsTrue}
use Rattle.std.specs.Option.{option_map, option_map_or}
use Rattle.std.specs.Str.{bytes_eq}
use Rattle.services.specs.kvs_txn.declared.txn.Author.TheVariants as author
use Rattle.services.specs.kvs_txn.declared.txn.By.{By}
use Rattle.services.specs.kvs_txn.declared.txn.Txn.{Txn}
use Rattle.services.specs.kvs_model.Store.{Name}
use Rattle.services.specs.kvs_rules.declared.events.KvsAsk.{KvsAsk}
use Rattle.services.specs.kvs_rules.declared.events.KvsAsk.TheVariants as ask
use Rattle.services.specs.kvs_rules.Namespaces.{Request, Setting, is_live, landed}
use Rattle.services.specs.kvs_rules.Log.{Log}
use Rattle.services.specs.kvs_rules.Landings.{IsMember}
use Rattle.services.specs.kvs_rules.Quiet.{IsLeft as IsLeftAsk, IsShortFence}
use Rattle.services.specs.workload.declared.work.Command.{Command}
use Rattle.services.specs.workload.declared.work.Command.TheVariants as command
use Rattle.services.specs.workload.declared.work.Line.{Line}
use Rattle.services.specs.workload.declared.work.Workload.{Workload}
use Rattle.services.specs.answers.declared.chronicle.Entry.{Entry}
use Rattle.services.specs.answers.declared.chronicle.Reply.{Reply}
use Rattle.services.specs.answers.declared.chronicle.Reply.TheVariants as reply
use Rattle.services.specs.answers.Chronicle.{top}
use Rattle.services.specs.answers.Commands.{ask_at, ask_of, command_at, staged_at, subject_at}
use Rattle.services.specs.answers.Jobs.{living_of}
use Rattle.services.specs.answers.Legal.{IsUncarried}
use Rattle.services.specs.answers.Services.{setting_of, log_of}
use Rattle.services.specs.instance_rules.Family.{IsLeftResult}
use Rattle.services.specs.job_service.Still.{awaited}
use Rattle.services.specs.job_states.declared.job.State.{State}
use Rattle.instance.specs.declared.seats.Seat.{Seat}
use Rattle.instance.specs.declared.seats.Waiting.{Waiting}
use Rattle.instance.specs.declared.seats.Waiting.TheVariants as waiting
use Rattle.instance.specs.Seats.{is_free, last_command}
use Rattle.instance.specs.Closings.{closings_at, closings_of, is_served, numbers_in, unfinished_as, unfinished_at, waiting_in, waits_in}
use Rattle.instance.specs.Agrees.{command_of}
use Rattle.instance.proofs.Owning.{Own}

-- the actor's open command joins a fence of the namespace which is short of members
pub record IsStuckFence (v : Own) (space : Name) (by : By) : Type 0 where
  pub name : Name
  pub count : ℕ
  pub command : command_at v.set.work by ≡ Some (command.Fence name count)
  pub member : IsMember (setting_of v.set) (log_of v.set.work top v.chronicle) space name count by
  pub short : IsShortFence (setting_of v.set) (log_of v.set.work top v.chronicle) space name count

-- the actor's open command waits for a number of the namespace that its broker has not heard
pub record IsStuckWait (v : Own) (space : Name) (by : By) : Type 0 where
  pub number : ℕ
  pub command : command_at v.set.work by ≡ Some (command.Wait number)
  pub living : IsTrue (is_live (log_of v.set.work top v.chronicle) space)
  pub above : landed (log_of v.set.work top v.chronicle) space < number

-- the actor's open command waits for the result of a job that isn't over
pub record IsStuckResult (v : Own) (by : By) : Type 0 where
  pub where_ : State
  pub awaits : awaited v.instance.services.jobs by ≡ Some where_
  pub left : IsLeftResult (living_of v.set v.chronicle) by where_

-- why a command about the namespace waits for what does not come: of the service, or of the jobs
abbrev pub IsServedCause : Own → Name → By → Type 0
IsServedCause v space by = IsStuckFence v space by ⊎ IsStuckWait v space by

abbrev pub IsCause : Own → Name → By → Type 0
IsCause v space by = IsServedCause v space by ⊎ IsStuckResult v by

-- the actor at this seat waits for what does not come
pub record IsStuck (v : Own) (a : ℕ) (seat : Seat) : Type 0 where
  pub some : 0 < seat.issued
  pub subject : subject_at v.set.work (command_of a (seat.issued - 1)) ≡ seat.subject
  pub uncarried : IsUncarried v.set v.chronicle (command_of a (seat.issued - 1))

-- the numbers that the brokers have heard
abbrev pub numbers_of : Own → ℕ → Name → ℕ
numbers_of v = numbers_in (log_of v.set.work top v.chronicle)

-- the states of the jobs for which open commands wait
abbrev pub states_of : Own → By → Option State
states_of v = awaited v.instance.services.jobs

-- what it is told at the end, and whether it waits in this fence
abbrev pub told_of : (v : Own) (space : Name) (by : By) (had : ℕ) → IsCause v space by → Reply
told_of v space by had (inl (inl f)) = reply.UnfinishedFence (length (waiting_in v.set.work.lines v.instance.seats space f.name)) f.count
told_of v space by had (inl (inr w)) = reply.UnfinishedWait had w.number
told_of v space by had (inr j) = reply.UnfinishedJob j.where_

abbrev pub in_fence : (v : Own) (own : Name) (by : By) → IsCause v own by → Name → Name → Bool
in_fence v own by (inl (inl f)) space name = bytes_eq space own && bytes_eq name f.name
in_fence v own by (inl (inr w)) space name = false
in_fence v own by (inr j) space name = false

-- what the actor at this seat is told
abbrev pub seat_told : (v : Own) (a : ℕ) (seat : Seat) → IsCause v seat.subject (command_of a (seat.issued - 1)) → Reply
seat_told v a seat cause = told_of v seat.subject (command_of a (seat.issued - 1)) (numbers_of v seat.broker seat.subject) cause

-- an actor that has a seat waits for nothing, so nothing is left of it
pub record IsDone (v : Own) (a : ℕ) : Type 0 where
  pub free : (seat : Seat) → slice_get v.instance.seats a ≡ Some seat → is_free seat.waiting ≡ true
  pub replies : closings_of (numbers_of v) (states_of v) v.set.work.lines v.instance.seats a ≡ []
  pub waits : (space name : Name) → waits_in v.set.work.lines v.instance.seats space name a ≡ false

-- an actor waits for what does not come, and the commands behind are left
pub record IsLeft (v : Own) (a : ℕ) : Type 0 where
  pub seat : Seat
  pub sits : slice_get v.instance.seats a ≡ Some seat
  pub busy : is_free seat.waiting ≡ false
  pub stuck : IsStuck v a seat
  pub cause : IsCause v seat.subject (command_of a (seat.issued - 1))
  pub replies : closings_of (numbers_of v) (states_of v) v.set.work.lines v.instance.seats a ≡ closings_at v.set.work.lines a seat (seat_told v a seat cause)
  pub waits : (space name : Name) → waits_in v.set.work.lines v.instance.seats space name a ≡ in_fence v seat.subject (command_of a (seat.issued - 1)) cause space name

-- a seat that waits for nothing waits for no service, and its command is not unfinished
pub free_unserved : (w : Waiting) → is_free w ≡ true → is_served w ≡ false
free_unserved waiting.Nothing h = refl
free_unserved waiting.Service h = sym h
free_unserved _ h = refl

pub free_finished : (w : Waiting) → is_free w ≡ true → (had : ℕ) (left : Option State) (lines : List Line) (seats : List Seat) (seat : Seat) → unfinished_as w had left lines seats seat ≡ None
free_finished waiting.Nothing h had left lines seats seat = refl
free_finished waiting.Service h had left lines seats seat = absurd (true≢false (sym h))
free_finished waiting.Jobs h had left lines seats seat = absurd (true≢false (sym h))
free_finished _ h had left lines seats seat = refl

-- what a command asks is its request's
pub asks_so : (broker : ℕ) (space : Name) (o : Option KvsAsk) (r : Request) → option_map (λ a. record { broker = broker; namespace = space; ask = a }) o ≡ Some r → o ≡ Some r.ask
asks_so broker space None r e = cc
asks_so broker space (Some a) r e =
    let same : ◌≡◌ {A = Request} (record { broker = broker; namespace = space; ask = a }) r = cc in
    ap (λ x. Some x.ask) same

-- what is left is asked by a member of a fence that is short of members
pub record IsShortAsk (set : Setting) (log : Log) (space : Name) (asked : KvsAsk) : Type 0 where
  pub name : Name
  pub count : ℕ
  pub txn : Txn
  pub joins : asked ≡ ask.Fence name count txn
  pub short : IsShortFence set log space name count

-- what is left waits for a number that has not landed
pub record IsAboveAsk (log : Log) (space : Name) (asked : KvsAsk) : Type 0 where
  pub number : ℕ
  pub waits : asked ≡ ask.Wait number
  pub living : IsTrue (is_live log space)
  pub above : landed log space < number

pub left_asks : (set : Setting) (log : Log) (space : Name) (asked : KvsAsk) → IsLeftAsk set log space asked → IsShortAsk set log space asked ⊎ IsAboveAsk log space asked
left_asks set log space (ask.Fence name count txn) h = inl (record { name = name; count = count; txn = txn; joins = refl; short = h })
left_asks set log space (ask.Wait number) h = inr (record { number = number; waits = refl; living = h.0; above = h.1 })
left_asks set log space (ask.Commit txn) h = absurd h
left_asks set log space (ask.Read query path) h = absurd h
left_asks set log space ask.Root h = absurd h
left_asks set log space ask.Create h = absurd h
left_asks set log space ask.Remove h = absurd h
left_asks set log space (ask.Store bytes) h = absurd h
left_asks set log space (ask.Load reference) h = absurd h
left_asks set log space ask.Flush h = absurd h
left_asks set log space ask.DropClean h = absurd h

-- only the command of a fence asks to join it, and only a wait waits for a number
is_fence : (t : Txn) (c : Command) (name : Name) (count : ℕ) (txn : Txn) → ask_of t c ≡ Some (ask.Fence name count txn) → c ≡ command.Fence name count
is_fence t (command.Put path bytes) name count txn e = cc
is_fence t (command.Append path bytes) name count txn e = cc
is_fence t (command.Unlink path) name count txn e = cc
is_fence t (command.Mkdir path) name count txn e = cc
is_fence t (command.Symlink path target) name count txn e = cc
is_fence t command.Commit name count txn e = cc
is_fence t (command.Fence other n) name count txn e = cc
is_fence t (command.Get path) name count txn e = cc
is_fence t (command.Ls path) name count txn e = cc
is_fence t (command.Readlink path) name count txn e = cc
is_fence t command.Getroot name count txn e = cc
is_fence t (command.Wait m) name count txn e = cc
is_fence t command.Look name count txn e = cc
is_fence t (command.Tell actor) name count txn e = cc
is_fence t (command.NsCreate space) name count txn e = cc
is_fence t (command.NsRemove space) name count txn e = cc
is_fence t (command.NsUse space) name count txn e = cc
is_fence t (command.ContentStore bytes) name count txn e = cc
is_fence t (command.ContentLoad reference) name count txn e = cc
is_fence t command.ContentFlush name count txn e = cc
is_fence t command.ContentDrop name count txn e = cc
is_fence t (command.Submit label urgency depends spec) name count txn e = cc
is_fence t (command.Cancel label) name count txn e = cc
is_fence t (command.Raise label kind severity note) name count txn e = cc
is_fence t (command.Urgency label urgency) name count txn e = cc
is_fence t (command.StateOf label) name count txn e = cc
is_fence t (command.Info label key) name count txn e = cc
is_fence t command.Jobs name count txn e = cc
is_fence t (command.Why label) name count txn e = cc
is_fence t (command.ResultOf label) name count txn e = cc
is_fence t (command.Watch label) name count txn e = cc
is_fence t (command.Advance seconds) name count txn e = cc
is_fence t command.Shutdown name count txn e = cc

is_wait : (t : Txn) (c : Command) (number : ℕ) → ask_of t c ≡ Some (ask.Wait number) → c ≡ command.Wait number
is_wait t (command.Put path bytes) number e = cc
is_wait t (command.Append path bytes) number e = cc
is_wait t (command.Unlink path) number e = cc
is_wait t (command.Mkdir path) number e = cc
is_wait t (command.Symlink path target) number e = cc
is_wait t command.Commit number e = cc
is_wait t (command.Fence other n) number e = cc
is_wait t (command.Get path) number e = cc
is_wait t (command.Ls path) number e = cc
is_wait t (command.Readlink path) number e = cc
is_wait t command.Getroot number e = cc
is_wait t (command.Wait m) number e = cc
is_wait t command.Look number e = cc
is_wait t (command.Tell actor) number e = cc
is_wait t (command.NsCreate space) number e = cc
is_wait t (command.NsRemove space) number e = cc
is_wait t (command.NsUse space) number e = cc
is_wait t (command.ContentStore bytes) number e = cc
is_wait t (command.ContentLoad reference) number e = cc
is_wait t command.ContentFlush number e = cc
is_wait t command.ContentDrop number e = cc
is_wait t (command.Submit label urgency depends spec) number e = cc
is_wait t (command.Cancel label) number e = cc
is_wait t (command.Raise label kind severity note) number e = cc
is_wait t (command.Urgency label urgency) number e = cc
is_wait t (command.StateOf label) number e = cc
is_wait t (command.Info label key) number e = cc
is_wait t command.Jobs number e = cc
is_wait t (command.Why label) number e = cc
is_wait t (command.ResultOf label) number e = cc
is_wait t (command.Watch label) number e = cc
is_wait t (command.Advance seconds) number e = cc
is_wait t command.Shutdown number e = cc

-- what a command asks is told by what it is
command_so : (work : Workload) (by : By) (asked : KvsAsk) (c : Command) → ((t : Txn) (d : Command) → ask_of t d ≡ Some asked → d ≡ c) → ask_at work by ≡ Some asked → command_at work by ≡ Some c
command_so work by asked c so e = on (command_at work by) e
  where
    mine : Txn
    mine = record { author = author.User by.actor; ops = staged_at work by }

    on : (o : Option Command) → option_and_then (ask_of mine) o ≡ Some asked → o ≡ Some c
    on None e = cc
    on (Some d) e = ap Some (so mine d e)

pub fence_command : (work : Workload) (by : By) (name : Name) (count : ℕ) (txn : Txn) → ask_at work by ≡ Some (ask.Fence name count txn) → command_at work by ≡ Some (command.Fence name count)
fence_command work by name count txn e = command_so work by (ask.Fence name count txn) (command.Fence name count) (λ t d f. is_fence t d name count txn f) e

pub wait_command : (work : Workload) (by : By) (number : ℕ) → ask_at work by ≡ Some (ask.Wait number) → command_at work by ≡ Some (command.Wait number)
wait_command work by number e = command_so work by (ask.Wait number) (command.Wait number) (λ t d f. is_wait t d number f) e

-- the closing replies to an actor, by what its seat says
module _ (numbers : ℕ → Name → ℕ) (left : By → Option State) (lines : List Line) (seats : List Seat) (a : ℕ) where
  abbrev pub ends_at : Seat → Option Reply
  ends_at seat = unfinished_at (numbers seat.broker seat.subject) (left (last_command a seat)) lines seats seat

  pub unseated : slice_get seats a ≡ None → closings_of numbers left lines seats a ≡ []
  unseated e = ap (λ o. option_map_or (λ s. option_map_or (closings_at lines a s) (ends_at s) []) o []) e

  pub seated : (seat : Seat) → slice_get seats a ≡ Some seat → closings_of numbers left lines seats a ≡ option_map_or (closings_at lines a seat) (ends_at seat) []
  seated seat e = ap (λ o. option_map_or (λ s. option_map_or (closings_at lines a s) (ends_at s) []) o []) e

  pub told_none : (c : List Entry) → slice_get seats a ≡ None → c ≡ c ++ closings_of numbers left lines seats a
  told_none c e = sym (ap (λ es. c ++ es) (unseated e) ∙ append-nil c)

  pub told_finished : (c : List Entry) (seat : Seat) → slice_get seats a ≡ Some seat → ends_at seat ≡ None → c ≡ c ++ closings_of numbers left lines seats a
  told_finished c seat e f = sym (ap (λ es. c ++ es) (seated seat e ∙ ap (λ o. option_map_or (closings_at lines a seat) o []) f) ∙ append-nil c)

  pub told_left : (c : List Entry) (seat : Seat) (given : Reply) → slice_get seats a ≡ Some seat → ends_at seat ≡ Some given → c ++ closings_at lines a seat given ≡ c ++ closings_of numbers left lines seats a
  told_left c seat given e f = sym (ap (λ es. c ++ es) (seated seat e ∙ ap (λ o. option_map_or (closings_at lines a seat) o []) f))
