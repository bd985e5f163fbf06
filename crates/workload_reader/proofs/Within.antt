-- What a text spells keeps to the limits.
use Rattle.std.proofs.Common.{◌≡◌, ◌<◌, ◌≤◌, ◌&&◌, ◌||◌, Bool, not, ℕ, zero, suc, true, false, List, [], ◌∷◌, ◌++◌, length, refl, sym, ap, ap₂, ◌∙◌, subst, arith, true≢false}
use Rattle.std.specs.Prelude.{Option, Some, None, All, IfSome, is_none, is_some, nat_le, unwrap_or}
use Rattle.std.specs.Str.{IsUtf8}
use Rattle.std.proofs.lemmas.Bool.{leb-false}
use Rattle.std.proofs.lemmas.List.{length_push}
use Rattle.std.proofs.lemmas.List.Elements.{All-nil, All-push, All-weaker}
use Rattle.std.proofs.lemmas.List.Quantifiers.{position-Some}
use Rattle.outcomes.specs.Outcomes.{first_of}
use Rattle.workload.specs.Limits.{most_actors, most_commands}
use Rattle.workload.specs.Words.{behind_word, first_word, is_empty}
use Rattle.workload.specs.Actors.{are_together, home_of, place_of}
use Rattle.workload.specs.Actors.{is_in_place}
use Rattle.workload_reader.specs.Verbs.{faults_of, said}
use Rattle.workload.specs.Grants.{grant_of, is_past_grant}
use Rattle.workload_reader.specs.Grants.{grant_faults, is_late}
use Rattle.workload_reader.specs.Grants.{told_faults, with_grant}
use Rattle.workload.specs.Laws.{empty}
use Rattle.workload_reader.specs.Reading.{first_fault, spelled, with_actor, with_command, actor_of, actor_faults, command_faults}
use Rattle.workload.specs.Laws.{IsWithin}
use Rattle.workload_reader.proofs.Along.{none_applies, one_by_one, stands, text_keeps}
use Rattle.workload_reader.proofs.Commands.{command_line}
use Rattle.resource_set.specs.declared.node.Resources.{Resources}
use Rattle.workload_reader.specs.declared.faults.LineFault.TheVariants as line_fault
use Rattle.workload.specs.declared.work.Actor.{Actor}
use Rattle.workload_reader.specs.declared.verbs.Verb.{Verb}
use Rattle.workload_reader.specs.declared.verbs.Verb.TheVariants as verb
use Rattle.workload.specs.declared.work.Command.{Command}
use Rattle.workload.specs.declared.work.Command.TheVariants as command
use Rattle.workload.specs.declared.work.Line.{Line}
use Rattle.workload.specs.declared.work.Workload.{Workload}

-- ---- instances

-- an actor more changes no home
home_kept : (actors : List Actor) (more : Actor) (n : ℕ) → n < length actors → home_of (actors ++ more ∷ []) n ≡ home_of actors n
home_kept [] more n low = absurd (omega (arith, low))
home_kept (a ∷ actors) more zero low = refl
home_kept (a ∷ actors) more (suc n) low = home_kept actors more n (omega (arith, low))

-- an actor that is told is one of so many
abbrev TellsKnown : ℕ → Command → Type 0
TellsKnown count (command.Tell actor) = actor < count
TellsKnown count _ = Unit {0}

-- a line is of one of these actors, as is the actor that it tells, and it keeps to its instance
record Stays (actors : List Actor) (l : Line) : Type 0 where
  low : l.actor < length actors
  told : TellsKnown (length actors) l.command
  placed : is_in_place actors l.actor l.command ≡ true

placed_kept : (actors : List Actor) (more : Actor) (by : ℕ) (c : Command) → by < length actors → TellsKnown (length actors) c
    → is_in_place (actors ++ more ∷ []) by c ≡ is_in_place actors by c
placed_kept actors more by (command.Tell actor) low told = ap₂ are_together (home_kept actors more by low) (home_kept actors more actor told)
placed_kept actors more by command.Look low told = ap is_none (home_kept actors more by low)
placed_kept actors more by command.Shutdown low told = ap is_some (home_kept actors more by low)
placed_kept actors more by _ low told = refl

tells_more : (count more : ℕ) (c : Command) → count ≤ more → TellsKnown count c → TellsKnown more c
tells_more count more (command.Tell actor) up told = omega (arith, up, told)
tells_more count more _ up told = tt

stays_on : (actors : List Actor) (more : Actor) (l : Line) → Stays actors l → Stays (actors ++ more ∷ []) l
stays_on actors more l h =
    let longer = length_push actors more in
    record {
      low = omega (arith, longer, h.low);
      told = tells_more (length actors) (length (actors ++ more ∷ [])) l.command (omega (arith, longer)) h.told;
      placed = placed_kept actors more l.actor l.command h.low h.told ∙ h.placed;
    }

some_place : (actors : List Actor) (place : Option ℕ) (name : List ℕ) → place_of name actors ≡ place → is_some place ≡ true → unwrap_or place 0 < length actors
some_place actors None name is some = absurd (true≢false (sym some))
some_place actors (Some i) name is some = (position-Some _ actors i (record { name = []; rank = 0; of = None }) is).0

-- a name that stands there and is known where one stands there
known_name : (empty known alone : Bool) → not (empty || known) ≡ false → not (not empty && alone) ≡ false → known ≡ true
known_name true known alone named formed = absurd (true≢false formed)
known_name false known alone named formed = stands known named

-- a verb that has no fault tells one of the actors
verb_tells : (work : Workload) (number : ℕ) (tail : List ℕ) (v : Verb) → first_of (faults_of number (said work v tail)) ≡ None
    → TellsKnown (length work.actors) (said work v tail).command
verb_tells work number tail verb.Tell none =
    some_place work.actors (place_of (first_word tail) work.actors) (first_word tail) refl
    (let tests = none_applies (faults_of number (said work verb.Tell tail)) none in
    known_name (is_empty (first_word tail)) (is_some (place_of (first_word tail) work.actors)) (is_empty (first_word (behind_word tail))) tests.0 tests.1.0)
verb_tells work number tail v none = tt

-- ---- the limits

-- the workload so far, its lines keeping to their instances
record IsSound (size : ℕ) (work : Workload) : Type 0 where
  within : IsWithin size work
  stay : All (Stays work.actors) work.lines

placed_there : (actors : List Actor) (lines : List Line) → All (Stays actors) lines → All (λ l. is_in_place actors l.actor l.command ≡ true) lines
placed_there actors lines h = All-weaker (Stays actors) (λ l. is_in_place actors l.actor l.command ≡ true) (λ l k. k.placed) lines h

empty_sound : (size : ℕ) → IsSound size empty
empty_sound size = record {
  within = record { actors = omega arith; lines = omega arith; ranks = All-nil _; known = All-nil _; placed = All-nil _; granted = tt };
  stay = All-nil _;
}

-- the rank of an actor of the top is within the size
rank_within : (size : ℕ) (a : Actor) → (is_none a.of && nat_le size a.rank) ≡ false → a.of ≡ None → a.rank < size
rank_within size a test top = leb-false size a.rank (sym (ap (λ o. is_none o && nat_le size a.rank) top) ∙ test)

actor_sound : (size : ℕ) (work : Workload) (number : ℕ) (tail : List ℕ) → IsSound size work → first_of (actor_faults size work.actors number tail) ≡ None → IsSound size (with_actor work tail)
actor_sound size work number tail s none =
    let h = s.within in
    let tests = none_applies (actor_faults size work.actors number tail) none in
    let more = length_push work.actors (actor_of tail) in
    let few : length work.actors < most_actors = leb-false most_actors (length work.actors) tests.0 in
    let stay = All-weaker (Stays work.actors) (Stays (work.actors ++ actor_of tail ∷ [])) (λ l k. stays_on work.actors (actor_of tail) l k) work.lines s.stay in
    record {
      within = record {
        actors = omega (arith, more, few);
        lines = h.lines;
        ranks = All-push (λ a. (a.of ≡ None) → a.rank < size) work.actors (actor_of tail) h.ranks (rank_within size (actor_of tail) tests.1.1.1.0);
        known = All-weaker (λ l. l.actor < length work.actors) (λ l. l.actor < length (work.actors ++ actor_of tail ∷ [])) (λ l k. omega (arith, more, k)) work.lines h.known;
        placed = placed_there (work.actors ++ actor_of tail ∷ []) work.lines stay;
        granted = h.granted;
      };
      stay = stay;
    }

sound_grant : (number : ℕ) (grant : Option Resources)
    → first_of (told_faults number grant) ≡ None → IfSome grant (λ r. is_past_grant r ≡ false)
sound_grant number None none = tt
sound_grant number (Some r) none = (none_applies (told_faults number (Some r)) none).1.0

grant_sound : (size : ℕ) (work : Workload) (number : ℕ) (text : List ℕ) → IsSound size work
    → first_of (grant_faults work number text) ≡ None → IsSound size (with_grant work text)
grant_sound size work number text s none =
    let h = s.within in
    let told = told_faults number (grant_of text) in
    let sound = one_by_one (is_late work) (line_fault.BadCommand number) told none in
    record {
      within = record {
        actors = h.actors;
        lines = h.lines;
        ranks = h.ranks;
        known = h.known;
        placed = h.placed;
        granted = sound_grant number (grant_of text) sound.1;
      };
      stay = s.stay;
    }

more_lines : (size : ℕ) (work : Workload) (line : Line) (lines : List Line) → lines ≡ work.lines ++ line ∷ [] → IsSound size work → length work.lines < most_commands → Stays work.actors line
    → IsSound size (record work { lines = lines })
more_lines size work line lines is s few stays =
    let h = s.within in
    let stay = All-push (Stays work.actors) work.lines line s.stay stays in
    subst (λ ls. IsSound size (record work { lines = ls })) (sym is) (record {
      within = record {
        actors = h.actors;
        lines = omega (arith, length_push work.lines line, few);
        ranks = h.ranks;
        known = All-push (λ l. l.actor < length work.actors) work.lines line h.known stays.low;
        placed = placed_there work.actors (work.lines ++ line ∷ []) stay;
        granted = h.granted;
      };
      stay = stay;
    })

command_sound : (size : ℕ) (work : Workload) (number : ℕ) (line : List ℕ) → IsUtf8 line → IsSound size work → first_of (command_faults work number line) ≡ None → IsSound size (with_command work line)
command_sound size work number line text s none =
    let is = command_line work number line text none in
    more_lines size work (record { actor = is.by; command = (said work is.verb is.tail).command }) (with_command work line).lines is.more s is.few
    (record { low = is.spoken.known; told = verb_tells work number is.tail is.verb is.spoken.none; placed = is.spoken.placed })

pub text_within : (size : ℕ) (text : List ℕ) → first_fault size text ≡ None → IsWithin size (spelled text)
text_within size text none = (text_keeps size (IsSound size) (actor_sound size) (grant_sound size) (command_sound size) (empty_sound size) text none).within
