-- What each verb asks, and in which order its faults are tested.
use Rattle.std.specs.Prelude.{ℕ, ◌+◌, nat_le, nat_lt, List, [], ◌∷◌, Bool, true, not, is_some, unwrap_or, ◌&&◌, ◌||◌, Option, Some, None, length, map, codes, if◌then◌else◌}
use Rattle.std.specs.Option.{option_map_or}
use Rattle.std.specs.Str.{bytes_eq}
use Rattle.kvs_txn.specs.Keys.{components}
use Rattle.run_limits.specs.Limits.{most_seconds, most_submits}
use Rattle.workload.specs.Limits.{most_key, most_components, most_instances, most_members, most_needs, most_posts, most_severity, most_urgency, most_value}
use Rattle.workload.specs.Words.{first_word, behind_word, is_empty, is_name, is_number, is_number_within, number_value}
use Rattle.workload.specs.Actors.{is_in_place, place_of}
use Rattle.workload.specs.Tallies.{instances_in, is_declared, posts_in, seconds_in, submits_in}
use Rattle.workload.specs.Tallies.{begins_instance}
use Rattle.workload_reader.specs.Submits.{label_of, options_of, json_of, urgency_in, urgency_of, behind_urgency, are_needs, needs_of}
use Rattle.fl_digest.specs.declared.BlobRef.{BlobRef}
use Rattle.workload_reader.specs.References.{is_reference, reference_of}
use Rattle.workload.specs.declared.work.Workload.{Workload}
use Rattle.workload.specs.declared.work.InfoKey.{InfoKey}
use Rattle.workload.specs.declared.work.InfoKey.TheVariants as key
use Rattle.workload.specs.declared.work.Command.{Command}
use Rattle.workload.specs.declared.work.Command.TheVariants as command
use Rattle.workload_reader.specs.declared.faults.LineFault.{LineFault}
use Rattle.workload_reader.specs.declared.faults.LineFault.TheVariants as line_fault
use Rattle.workload_reader.specs.declared.faults.Which.{Which}
use Rattle.workload_reader.specs.declared.faults.Which.TheVariants as which
use Rattle.workload_reader.specs.declared.verbs.Verb.{Verb}
use Rattle.workload_reader.specs.declared.verbs.Verb.TheVariants as verb

-- what a verb makes of the text behind it
pub record Saying : Type 0 where
  pub known : Bool  -- each actor that is named is declared in an earlier line
  pub formed : Bool  -- the words are as many as wanted, and of the wanted kinds
  pub numbered : Bool  -- what must be a number is one, within its range
  pub limits : List (Bool × Which)  -- the limits in their order, each with whether it is passed
  pub command : Command  -- the command, where none of these refuses it

-- the order of the faults behind a verb
abbrev pub faults_of : ℕ → Saying → List (Bool × LineFault)
faults_of number said = (not said.known, line_fault.NoActor number)
    ∷ (not said.formed, line_fault.BadCommand number)
    ∷ (not said.numbered, line_fault.BadNumber number)
    ∷ map (λ l. (l.0, line_fault.Limit number l.1)) said.limits

-- the verb that a word is
abbrev pub verb_of : List ℕ → Option Verb
verb_of word = if bytes_eq word (codes "put") then Some verb.Put
    else if bytes_eq word (codes "append") then Some verb.Append
    else if bytes_eq word (codes "unlink") then Some verb.Unlink
    else if bytes_eq word (codes "mkdir") then Some verb.Mkdir
    else if bytes_eq word (codes "symlink") then Some verb.Symlink
    else if bytes_eq word (codes "commit") then Some verb.Commit
    else if bytes_eq word (codes "fence") then Some verb.Fence
    else if bytes_eq word (codes "get") then Some verb.Get
    else if bytes_eq word (codes "ls") then Some verb.Ls
    else if bytes_eq word (codes "readlink") then Some verb.Readlink
    else if bytes_eq word (codes "wait") then Some verb.Wait
    else if bytes_eq word (codes "look") then Some verb.Look
    else if bytes_eq word (codes "tell") then Some verb.Tell
    else if bytes_eq word (codes "ns-create") then Some verb.NsCreate
    else if bytes_eq word (codes "ns-remove") then Some verb.NsRemove
    else if bytes_eq word (codes "ns-use") then Some verb.NsUse
    else if bytes_eq word (codes "content-store") then Some verb.ContentStore
    else if bytes_eq word (codes "content-load") then Some verb.ContentLoad
    else if bytes_eq word (codes "content-flush") then Some verb.ContentFlush
    else if bytes_eq word (codes "content-drop") then Some verb.ContentDrop
    else if bytes_eq word (codes "submit") then Some verb.Submit
    else if bytes_eq word (codes "cancel") then Some verb.Cancel
    else if bytes_eq word (codes "raise") then Some verb.Raise
    else if bytes_eq word (codes "urgency") then Some verb.Urgency
    else if bytes_eq word (codes "state") then Some verb.State
    else if bytes_eq word (codes "info") then Some verb.Info
    else if bytes_eq word (codes "jobs") then Some verb.Jobs
    else if bytes_eq word (codes "why") then Some verb.Why
    else if bytes_eq word (codes "result") then Some verb.Result
    else if bytes_eq word (codes "watch") then Some verb.Watch
    else if bytes_eq word (codes "advance") then Some verb.Advance
    else if bytes_eq word (codes "shutdown") then Some verb.Shutdown
    else None

-- a key is too long or too deep
abbrev pub is_past_key : List ℕ → Bool
is_past_key key = nat_lt most_key (length key) || nat_lt most_components (length (components key))

-- a value is too long
abbrev pub is_past_value : List ℕ → Bool
is_past_value text = nat_lt most_value (length text)

-- a verb behind which a key stands alone
abbrev pub one_key : (List (List ℕ) → Command) → List ℕ → Saying
one_key made tail = record {
  known = true;
  formed = not (is_empty (first_word tail)) && is_empty (first_word (behind_word tail));
  numbered = true;
  limits = (is_past_key (first_word tail), which.Key) ∷ [];
  command = made (components (first_word tail));
}

-- a verb behind which a key and a text stand
abbrev pub key_and_text : (List (List ℕ) → List ℕ → Command) → List ℕ → Saying
key_and_text made tail = record {
  known = true;
  formed = not (is_empty (first_word tail));
  numbered = true;
  limits = (is_past_key (first_word tail), which.Key)
      ∷ (is_past_value (behind_word tail), which.Value) ∷ [];
  command = made (components (first_word tail)) (behind_word tail);
}

-- a verb behind which two keys stand
abbrev pub two_keys : (List (List ℕ) → List (List ℕ) → Command) → List ℕ → Saying
two_keys made tail = record {
  known = true;
  formed = not (is_empty (first_word (behind_word tail)))
      && is_empty (first_word (behind_word (behind_word tail)));
  numbered = true;
  limits = (is_past_key (first_word tail), which.Key)
      ∷ (is_past_key (first_word (behind_word tail)), which.Key) ∷ [];
  command = made (components (first_word tail)) (components (first_word (behind_word tail)));
}

-- a link to a path of its own namespace
abbrev pub own_link : List (List ℕ) → List (List ℕ) → Command
own_link path target = command.Symlink path (record { path = target; namespace = None })

-- a verb behind which nothing stands
abbrev pub alone : Command → List ℕ → Saying
alone made tail = record {
  known = true;
  formed = is_empty (first_word tail);
  numbered = true;
  limits = [];
  command = made;
}

-- a verb behind which a name and a number stand, which is within these bounds
abbrev pub name_and_number : ℕ → ℕ → (List ℕ → ℕ → Command) → List ℕ → Saying
name_and_number low high made tail = record {
  known = true;
  formed = is_name (first_word tail) && not (is_empty (first_word (behind_word tail)))
      && is_empty (first_word (behind_word (behind_word tail)));
  numbered = is_number_within low high (first_word (behind_word tail));
  limits = [];
  command = made (first_word tail) (number_value (first_word (behind_word tail)));
}

-- a verb behind which a number stands alone
abbrev pub one_number : (ℕ → Command) → List ℕ → Saying
one_number made tail = record {
  known = true;
  formed = not (is_empty (first_word tail)) && is_empty (first_word (behind_word tail));
  numbered = is_number (first_word tail);
  limits = [];
  command = made (number_value (first_word tail));
}

-- a verb behind which an actor's name stands alone
abbrev pub one_actor : Workload → (ℕ → Command) → List ℕ → Saying
one_actor work made tail = record {
  known = is_empty (first_word tail) || is_some (place_of (first_word tail) work.actors);
  formed = not (is_empty (first_word tail)) && is_empty (first_word (behind_word tail));
  numbered = true;
  limits = [];
  command = made (unwrap_or (place_of (first_word tail) work.actors) 0);
}

-- a verb behind which a name stands alone
abbrev pub one_name : (List ℕ → Command) → List ℕ → Saying
one_name made tail = record {
  known = true;
  formed = is_name (first_word tail) && is_empty (first_word (behind_word tail));
  numbered = true;
  limits = [];
  command = made (first_word tail);
}

-- a verb behind which all that stands is a content
abbrev pub one_content : (List ℕ → Command) → List ℕ → Saying
one_content made tail = record {
  known = true;
  formed = true;
  numbered = true;
  limits = (is_past_value tail, which.Value) ∷ [];
  command = made tail;
}

-- a verb behind which a reference stands alone
abbrev pub one_reference : (BlobRef → Command) → List ℕ → Saying
one_reference made tail = record {
  known = true;
  formed = is_reference (first_word tail) && is_empty (first_word (behind_word tail));
  numbered = true;
  limits = [];
  command = made (reference_of (first_word tail));
}

-- a text begins an instance more than there may be
abbrev pub is_past_instances : Workload → List ℕ → Bool
is_past_instances work text =
    begins_instance text && nat_le most_instances (instances_in work.lines)

-- a new label, an urgency, at most 32 dependencies, and a text, which may begin an instance
abbrev pub submission : Workload → List ℕ → Saying
submission work tail = record {
  known = true;
  formed = is_name (label_of tail) && not (is_declared (label_of tail) work.lines)
      && not (is_empty (json_of tail)) && are_needs (behind_urgency (options_of tail))
      && nat_le (length (needs_of (behind_urgency (options_of tail)))) most_needs;
  numbered = option_map_or (is_number_within 0 most_urgency) (urgency_in (options_of tail)) true;
  limits = (nat_le most_submits (submits_in work.lines), which.Submits)
      ∷ (is_past_instances work (json_of tail), which.Instances)
      ∷ [];
  command = command.Submit (label_of tail) (urgency_of (options_of tail))
      (needs_of (behind_urgency (options_of tail))) (json_of tail);
}

-- too many events are asked for of the job of this label
abbrev pub is_past_posts : Workload → List ℕ → Bool
is_past_posts work label = nat_le most_posts (posts_in label work.lines)

-- a label alone, of a job of which an event is asked for
abbrev pub cancelling : Workload → List ℕ → Saying
cancelling work tail = record {
  known = true;
  formed = is_name (first_word tail) && is_empty (first_word (behind_word tail));
  numbered = true;
  limits = (is_past_posts work (first_word tail), which.Posts) ∷ [];
  command = command.Cancel (first_word tail);
}

-- a label, a type, a severity and a note
abbrev pub raising : Workload → List ℕ → Saying
raising work tail = record {
  known = true;
  formed = is_name (first_word tail) && is_name (first_word (behind_word tail))
      && not (is_empty (first_word (behind_word (behind_word tail))));
  numbered = is_number_within 0 most_severity (first_word (behind_word (behind_word tail)));
  limits = (is_past_posts work (first_word tail), which.Posts)
      ∷ (is_past_value (behind_word (behind_word (behind_word tail))), which.Value)
      ∷ [];
  command = command.Raise (first_word tail) (first_word (behind_word tail))
      (number_value (first_word (behind_word (behind_word tail))))
      (behind_word (behind_word (behind_word tail)));
}

-- a label and an urgency
abbrev pub urging : Workload → List ℕ → Saying
urging work tail = record {
  known = true;
  formed = is_name (first_word tail) && not (is_empty (first_word (behind_word tail)))
      && is_empty (first_word (behind_word (behind_word tail)));
  numbered = is_number_within 0 most_urgency (first_word (behind_word tail));
  limits = (is_past_posts work (first_word tail), which.Posts) ∷ [];
  command = command.Urgency (first_word tail) (number_value (first_word (behind_word tail)));
}

-- what of a job a word names
abbrev pub key_of : List ℕ → Option InfoKey
key_of word = if bytes_eq word (codes "jobspec") then Some key.Jobspec
    else if bytes_eq word (codes "R") then Some key.R
    else if bytes_eq word (codes "eventlog") then Some key.Eventlog
    else None

-- a label and what is shown of its job
abbrev pub showing : List ℕ → Saying
showing tail = record {
  known = true;
  formed = is_name (first_word tail) && is_some (key_of (first_word (behind_word tail)))
      && is_empty (first_word (behind_word (behind_word tail)));
  numbered = true;
  limits = [];
  command = command.Info (first_word tail)
      (unwrap_or (key_of (first_word (behind_word tail))) key.Jobspec);
}

-- so many seconds, which with those of the lines before are not too many
abbrev pub advancing : Workload → List ℕ → Saying
advancing work tail = record {
  known = true;
  formed = not (is_empty (first_word tail)) && is_empty (first_word (behind_word tail));
  numbered = is_number (first_word tail);
  limits =
      (nat_lt most_seconds (seconds_in work.lines + number_value (first_word tail)), which.Seconds)
      ∷ [];
  command = command.Advance (number_value (first_word tail));
}

-- what each verb asks of the text behind it, where the lines before spell this workload
abbrev pub said : Workload → Verb → List ℕ → Saying
said work verb.Put tail = key_and_text command.Put tail
said work verb.Append tail = key_and_text command.Append tail
said work verb.Unlink tail = one_key command.Unlink tail
said work verb.Mkdir tail = one_key command.Mkdir tail
said work verb.Symlink tail = two_keys own_link tail
said work verb.Commit tail = alone command.Commit tail
said work verb.Fence tail = name_and_number 1 most_members command.Fence tail
said work verb.Get tail = one_key command.Get tail
said work verb.Ls tail = one_key command.Ls tail
said work verb.Readlink tail = one_key command.Readlink tail
said work verb.Wait tail = one_number command.Wait tail
said work verb.Look tail = alone command.Look tail
said work verb.Tell tail = one_actor work command.Tell tail
said work verb.NsCreate tail = one_name command.NsCreate tail
said work verb.NsRemove tail = one_name command.NsRemove tail
said work verb.NsUse tail = one_name command.NsUse tail
said work verb.ContentStore tail = one_content command.ContentStore tail
said work verb.ContentLoad tail = one_reference command.ContentLoad tail
said work verb.ContentFlush tail = alone command.ContentFlush tail
said work verb.ContentDrop tail = alone command.ContentDrop tail
said work verb.Submit tail = submission work tail
said work verb.Cancel tail = cancelling work tail
said work verb.Raise tail = raising work tail
said work verb.Urgency tail = urging work tail
said work verb.State tail = one_name command.StateOf tail
said work verb.Info tail = showing tail
said work verb.Jobs tail = alone command.Jobs tail
said work verb.Why tail = one_name command.Why tail
said work verb.Result tail = one_name command.ResultOf tail
said work verb.Watch tail = one_name command.Watch tail
said work verb.Advance tail = advancing work tail
said work verb.Shutdown tail = alone command.Shutdown tail

-- what a verb makes of the text behind it, where the actor of this number says it
abbrev pub said_by : Workload → ℕ → Verb → List ℕ → Saying
said_by work by v tail = record (said work v tail) {
  formed = (said work v tail).formed && is_in_place work.actors by (said work v tail).command;
}

-- the faults that tell of what is read: all but want of memory
abbrev pub lasting : LineFault → Option LineFault
lasting line_fault.NoMemory = None
lasting fault = Some fault
