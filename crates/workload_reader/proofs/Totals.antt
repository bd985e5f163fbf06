-- What a text spells asks for no more in all than the limits allow.
use Rattle.std.proofs.Common.{◌≡◌, ℕ, ◌+◌, ◌<◌, ◌≤◌, ◌&&◌, Bool, true, false, cond, List, [], ◌∷◌, ◌++◌, refl, sym, ap, ◌∙◌, subst, arith, true≢false, count_by}
use Rattle.std.specs.Prelude.{None, nat_le, sum_by}
use Rattle.outcomes.specs.Outcomes.{first_of}
use Rattle.workload.specs.Tallies.{begins_instance}
use Rattle.workload_reader.specs.Submits.{json_of}
use Rattle.std.proofs.lemmas.Bool.{leb-false, ltb-false}
use Rattle.std.proofs.lemmas.List.Sums.{sum_by-append, sum_by-cons}
use Rattle.std.proofs.lemmas.Slice.Eq.{bytes_eq-Decides}
use Rattle.workload.specs.Laws.{KeepsTallies}
use Rattle.run_limits.specs.Limits.{most_seconds, most_submits}
use Rattle.workload.specs.Limits.{most_instances, most_posts}
use Rattle.workload_reader.specs.Reading.{first_fault, spelled}
use Rattle.workload.specs.Tallies.{begins, instances_in, posts_in, posts_on, seconds_in, seconds_of, submits, submits_in}
use Rattle.workload_reader.specs.Verbs.{faults_of, said, submission, cancelling, raising, urging, advancing}
use Rattle.workload.specs.Words.{first_word}
use Rattle.workload_reader.proofs.Along.{none_applies}
use Rattle.workload_reader.proofs.Commands.{IsSpoken, lines_keep}
use Rattle.workload_reader.specs.declared.verbs.Verb.{Verb}
use Rattle.workload_reader.specs.declared.verbs.Verb.TheVariants as verb
use Rattle.workload.specs.declared.work.Line.{Line}
use Rattle.workload.specs.declared.work.Workload.{Workload}

sum_pushed : (f : Line → ℕ) (lines : List Line) (line : Line) → sum_by f (lines ++ line ∷ []) ≡ sum_by f lines + f line
sum_pushed f lines line = omega (arith, sum_by-append f lines (line ∷ []), sum_by-cons f line [])

-- a count stays within its limit where each line that is counted finds room
count_pushed : (p : Line → Bool) (lines : List Line) (line : Line) (most : ℕ) → count_by p lines ≤ most → (p line ≡ true → count_by p lines < most) → count_by p (lines ++ line ∷ []) ≤ most
count_pushed p lines line most h room = on (p line) refl
  where
    on : (b : Bool) → p line ≡ b → count_by p (lines ++ line ∷ []) ≤ most
    on true e =
        let more : count_by p (lines ++ line ∷ []) ≡ count_by p lines + 1 = sum_pushed (λ x. cond (p x) 1 0) lines line ∙ ap (λ b. count_by p lines + cond b 1 0) e in
        let there : count_by p lines < most = room e in
        omega (arith, more, there)
    on false e =
        let same : count_by p (lines ++ line ∷ []) ≡ count_by p lines + 0 = sum_pushed (λ x. cond (p x) 1 0) lines line ∙ ap (λ b. count_by p lines + cond b 1 0) e in
        omega (arith, same, h)

-- a submission finds room
submits_room : (work : Workload) (number : ℕ) (tail : List ℕ) (v : Verb) → first_of (faults_of number (said work v tail)) ≡ None → submits (said work v tail).command ≡ true → submits_in work.lines < most_submits
submits_room work number tail verb.Submit none counted = leb-false most_submits (submits_in work.lines) (none_applies (faults_of number (submission work tail)) none).1.1.1.0
submits_room work number tail v none counted = absurd (true≢false (sym counted))

-- so does one that begins an instance, beside the top
instances_room : (work : Workload) (number : ℕ) (tail : List ℕ) (v : Verb) → first_of (faults_of number (said work v tail)) ≡ None → begins (said work v tail).command ≡ true → instances_in work.lines < most_instances
instances_room work number tail verb.Submit none counted =
    let test : (begins_instance (json_of tail) && nat_le most_instances (instances_in work.lines)) ≡ false = (none_applies (faults_of number (submission work tail)) none).1.1.1.1.0 in
    leb-false most_instances (instances_in work.lines) (sym (ap (λ b. b && nat_le most_instances (instances_in work.lines)) counted) ∙ test)
instances_room work number tail v none counted = absurd (true≢false (sym counted))

begun_kept : (work : Workload) (by number : ℕ) (tail : List ℕ) (v : Verb) → first_of (faults_of number (said work v tail)) ≡ None → instances_in work.lines ≤ most_instances
    → instances_in (work.lines ++ record { actor = by; command = (said work v tail).command } ∷ []) ≤ most_instances
begun_kept work by number tail v none h =
    let line : Line = record { actor = by; command = (said work v tail).command } in
    let kept : count_by (λ l. begins l.command) (work.lines ++ line ∷ []) ≤ 15 =
    count_pushed (λ l. begins l.command) work.lines line 15 (omega (arith, h)) (λ counted. let room : instances_in work.lines < most_instances = instances_room work number tail v none counted in omega (arith, room)) in
    omega (arith, kept)

-- so does an event of the job of a label
label_room : (work : Workload) (own label : List ℕ) → posts_in own work.lines < most_posts → own ≡ label → posts_in label work.lines < most_posts
label_room work own label room same = subst (λ l. posts_in l work.lines < most_posts) same room

posts_room : (work : Workload) (number : ℕ) (tail : List ℕ) (v : Verb) (label : List ℕ) → first_of (faults_of number (said work v tail)) ≡ None → posts_on label (said work v tail).command ≡ true → posts_in label work.lines < most_posts
posts_room work number tail verb.Cancel label none counted =
    label_room work (first_word tail) label (leb-false most_posts (posts_in (first_word tail) work.lines) (none_applies (faults_of number (cancelling work tail)) none).1.1.1.0) ((bytes_eq-Decides (first_word tail) label).0 counted)
posts_room work number tail verb.Raise label none counted =
    label_room work (first_word tail) label (leb-false most_posts (posts_in (first_word tail) work.lines) (none_applies (faults_of number (raising work tail)) none).1.1.1.0) ((bytes_eq-Decides (first_word tail) label).0 counted)
posts_room work number tail verb.Urgency label none counted =
    label_room work (first_word tail) label (leb-false most_posts (posts_in (first_word tail) work.lines) (none_applies (faults_of number (urging work tail)) none).1.1.1.0) ((bytes_eq-Decides (first_word tail) label).0 counted)
posts_room work number tail v label none counted = absurd (true≢false (sym counted))

-- and the seconds of an advance
seconds_room : (work : Workload) (number : ℕ) (tail : List ℕ) (v : Verb) → first_of (faults_of number (said work v tail)) ≡ None → seconds_in work.lines ≤ most_seconds → seconds_in work.lines + seconds_of (said work v tail).command ≤ most_seconds
seconds_room work number tail verb.Advance none h = ltb-false most_seconds (seconds_in work.lines + seconds_of (advancing work tail).command) (none_applies (faults_of number (advancing work tail)) none).1.1.1.0
seconds_room work number tail v none h = omega (arith, h)

one_kept : (work : Workload) (by number : ℕ) (tail : List ℕ) (v : Verb) → IsSpoken work by number v tail → KeepsTallies work.lines
    → KeepsTallies (work.lines ++ record { actor = by; command = (said work v tail).command } ∷ [])
one_kept work by number tail v is h =
    let none = is.none in
    let line : Line = record { actor = by; command = (said work v tail).command } in
    let more : seconds_in (work.lines ++ line ∷ []) ≡ seconds_in work.lines + seconds_of (said work v tail).command = sum_pushed (λ l. seconds_of l.command) work.lines line in
    let room : seconds_in work.lines + seconds_of (said work v tail).command ≤ most_seconds = seconds_room work number tail v none h.seconds in
    record {
      submits = count_pushed (λ l. submits l.command) work.lines line most_submits h.submits (submits_room work number tail v none);
      instances = begun_kept work by number tail v none h.instances;
      seconds = omega (arith, more, room);
      posts = λ label. count_pushed (λ l. posts_on label l.command) work.lines line most_posts (h.posts label) (posts_room work number tail v label none);
    }

none_kept : KeepsTallies []
none_kept = record { submits = omega arith; instances = omega arith; seconds = omega arith; posts = λ label. omega arith }

pub text_tallies : (size : ℕ) (text : List ℕ) → first_fault size text ≡ None → KeepsTallies (spelled text).lines
text_tallies = lines_keep KeepsTallies one_kept none_kept
