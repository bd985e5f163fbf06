-- What holds of no command lines, and stays with each command that a verb spells, holds of the lines that a text spells.
use Rattle.std.proofs.Common.{◌≡◌, ℕ, ◌<◌, ◌&&◌, Bool, true, false, List, [], ◌∷◌, ◌++◌, length, refl, sym, ap, subst}
use Rattle.std.specs.Prelude.{Option, Some, None, is_none, unwrap_or, nat_le}
use Rattle.std.specs.Option.{option_map, option_map_or, option_to_list}
use Rattle.std.specs.Str.{IsUtf8}
use Rattle.std.proofs.lemmas.Bool.{and_parts, leb-false}
use Rattle.std.proofs.lemmas.List.Quantifiers.{position-Some}
use Rattle.outcomes.specs.Outcomes.{first_of}
use Rattle.workload.specs.Limits.{most_commands}
use Rattle.workload.specs.Words.{first_word, behind_word}
use Rattle.workload.specs.Actors.{place_of}
use Rattle.workload.specs.Actors.{is_in_place}
use Rattle.workload_reader.specs.Verbs.{Saying, faults_of, said, said_by, verb_of}
use Rattle.workload_reader.specs.Reading.{first_fault, spelled, with_command, command_faults, verb_faults}
use Rattle.workload_reader.proofs.Along.{none_applies, one_by_one, some_is_not_none, stands, text_keeps}
use Rattle.workload_reader.proofs.Texts.{behind_utf8}
use Rattle.workload.specs.declared.work.Actor.{Actor}
use Rattle.workload.specs.declared.work.Command.{Command}
use Rattle.workload.specs.declared.work.Line.{Line}
use Rattle.workload.specs.declared.work.Workload.{Workload}
use Rattle.workload_reader.specs.declared.faults.LineFault.TheVariants as line_fault
use Rattle.workload_reader.specs.declared.faults.Which.TheVariants as which
use Rattle.workload_reader.specs.declared.verbs.Verb.{Verb}

-- the actor of this number says a verb, and the text behind it, without a fault
pub record IsSpoken (work : Workload) (by number : ℕ) (v : Verb) (tail : List ℕ) : Type 0 where
  pub text : IsUtf8 tail
  pub known : by < length work.actors
  pub placed : is_in_place work.actors by (said work v tail).command ≡ true
  pub none : first_of (faults_of number (said work v tail)) ≡ None

and_true : (b : Bool) → (b && true) ≡ b
and_true true = refl
and_true false = refl

-- what is formed only where a test is passed, and has no fault, has none without the test
passed : (number : ℕ) (s : Saying) (test : Bool) → first_of (faults_of number (record s { formed = s.formed && test })) ≡ None
    → (test ≡ true) × (first_of (faults_of number s) ≡ None)
passed number s true none = (refl, subst (λ b. first_of (faults_of number (record s { formed = b })) ≡ None) (and_true s.formed) none)
passed number s false none =
    let tests = none_applies (faults_of number (record s { formed = s.formed && false })) none in
    let never : false ≡ true = (and_parts s.formed false (stands (s.formed && false) tests.1.0)).1 in
    absurd (cc)

-- the line of a command without a fault: its verb, and what it adds
pub record IsCommandLine (work : Workload) (number : ℕ) (line : List ℕ) : Type 0 where
  pub by : ℕ
  pub verb : Verb
  pub tail : List ℕ
  pub few : length work.lines < most_commands
  pub spoken : IsSpoken work by number verb tail
  pub more : (with_command work line).lines ≡ work.lines ++ record { actor = by; command = (said work verb tail).command } ∷ []

-- a line of the actor of this number
abbrev line_by : ℕ → Command → Line
line_by by c = record { actor = by; command = c }

-- what the word behind the actor's name gives, where it is a verb
record HasVerb (work : Workload) (by number : ℕ) (tail : List ℕ) (o : Option Verb) : Type 0 where
  verb : Verb
  spoken : IsSpoken work by number verb tail
  more : option_to_list (option_map (line_by by) (option_map (λ v. (said work v tail).command) o)) ≡ line_by by (said work verb tail).command ∷ []

has_verb : (work : Workload) (by number : ℕ) (tail : List ℕ) → IsUtf8 tail → by < length work.actors → (o : Option Verb)
    → first_of (option_map_or (λ v. faults_of number (said_by work by v tail)) o ((true, line_fault.BadCommand number) ∷ [])) ≡ None
    → HasVerb work by number tail o
has_verb work by number tail text known None none = absurd (some_is_not_none none)
has_verb work by number tail text known (Some v) none =
    let free = passed number (said work v tail) (is_in_place work.actors by (said work v tail).command) none in
    record { verb = v; spoken = record { text = text; known = known; placed = free.0; none = free.1 }; more = refl }

place_below : (name : List ℕ) (actors : List Actor) (place : Option ℕ) → place_of name actors ≡ place → is_none place ≡ false → unwrap_or place 0 < length actors
place_below name actors None is some = let wrong : true ≡ false = some in cc
place_below name actors (Some i) is some = (position-Some _ actors i (record { name = []; rank = 0; of = None }) is).0

pub command_line : (work : Workload) (number : ℕ) (line : List ℕ) → IsUtf8 line → first_of (command_faults work number line) ≡ None → IsCommandLine work number line
unfolding verb_faults
command_line work number line text none =
    let by = unwrap_or (place_of (first_word line) work.actors) 0 in
    let known = one_by_one (nat_le most_commands (length work.lines)) (line_fault.Limit number which.Commands) ((is_none (place_of (first_word line) work.actors), line_fault.NoActor number) ∷ verb_faults work by number (behind_word line)) none in
    let spoken = one_by_one (is_none (place_of (first_word line) work.actors)) (line_fault.NoActor number) (verb_faults work by number (behind_word line)) known.1 in
    let has = has_verb work by number (behind_word (behind_word line)) (behind_utf8 (behind_word line) (behind_utf8 line text))
    (place_below (first_word line) work.actors (place_of (first_word line) work.actors) refl spoken.0)
    (verb_of (first_word (behind_word line))) spoken.1 in
    record {
      by = by;
      verb = has.verb;
      tail = behind_word (behind_word line);
      few = leb-false most_commands (length work.lines) known.0;
      spoken = has.spoken;
      more = ap (λ (ls : List Line). work.lines ++ ls) has.more;
    }

module _ (P : List Line → Type 0)
    (keeps_verb : (work : Workload) (by number : ℕ) (tail : List ℕ) (v : Verb) → IsSpoken work by number v tail → P work.lines
    → P (work.lines ++ record { actor = by; command = (said work v tail).command } ∷ []))
  where
    command_keeps : (work : Workload) (number : ℕ) (line : List ℕ) → IsUtf8 line → P work.lines → first_of (command_faults work number line) ≡ None → P (with_command work line).lines
    command_keeps work number line text h none =
        let is = command_line work number line text none in
        subst P (sym is.more) (keeps_verb work is.by number is.tail is.verb is.spoken h)

    pub lines_keep : P [] → (size : ℕ) (text : List ℕ) → first_fault size text ≡ None → P (spelled text).lines
    lines_keep start size text none = text_keeps size (λ w. P w.lines) (λ work number tail h _. h) (λ work number text h _. h) command_keeps start text none
