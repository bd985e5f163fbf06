-- On the commands of a workload.
use Rattle.std.proofs.Common.{◌≡◌, ◌≢◌, ℕ, zero, suc, ◌+◌, ◌-◌, ◌<◌, ◌≤◌, ◌==◌, inl, inr, ne_eqb, add-one, List, [], ◌∷◌, ◌++◌, length, Bool, true, false, cond, refl, sym, ap, ◌∙◌, arith, take, drop, filter_map, count_by, Option, Some, None, get_or, All, eq-eqb, append-nil, ◌||◌}
use Rattle.std.specs.Prelude.{slice_get, nat_lt}
use Rattle.std.specs.Option.{option_map_or}
use Rattle.std.specs.List.{list_any, cons_option}
use Rattle.std.proofs.lemmas.List.{take-append-drop, take-append-le, length-append, length-take, take_all}
use Rattle.std.proofs.lemmas.List.Elements.{filter_map-append}
use Rattle.std.proofs.lemmas.List.Sums.{count_by_more_no, count_by_more_yes}
use Rattle.std.proofs.lemmas.Option.{slice_get_past, slice_get_within, get_or_from_slice_get}
use Rattle.std.proofs.lemmas.Bool.{cases_lt, lt-ltb, le-ltb}
use Rattle.std.proofs.lemmas.List.Folds.{list_any-append}
use Rattle.std.proofs.Math.Seq.{take-suc, drop-cons}
use Rattle.services.specs.kvs_txn.declared.txn.By.{By}
use Rattle.services.specs.kvs_txn.declared.txn.Op.{Op}
use Rattle.services.specs.kvs_txn.declared.txn.Op.TheVariants as op
use Rattle.services.specs.kvs_model.Store.{Name}
use Rattle.services.specs.kvs_rules.Namespaces.{primary}
use Rattle.services.specs.kvs_rules.Sequence.{latest}
use Rattle.services.proofs.kvs_rules_proofs.Sequences.{latest_push}
use Rattle.services.specs.workload.declared.work.Command.{Command}
use Rattle.services.specs.workload.declared.work.Command.TheVariants as command
use Rattle.services.specs.workload.declared.work.Line.{Line}
use Rattle.services.specs.workload.declared.work.Workload.{Workload}
use Rattle.services.specs.workload.Laws.{IsBuilt}
use Rattle.services.specs.kvs_txn.Staged.{most_ops}
use Rattle.services.specs.answers.Commands.{commands_of, command_at, used_name, namespace_at, subject_of, subject_at, op_of, takes_staged, since_last, staged_at}
use Rattle.instance.specs.declared.seats.Seat.{Seat}
use Rattle.instance.specs.Seats.{ops_after, space_after, with_op}
use Rattle.instance.specs.Agrees.{command_of, is_of, IsPlaced}
use Rattle.instance.proofs.Listing.{count-append}

-- the command of a line, if the line is the actor's
abbrev pub own : ℕ → Line → Option Command
own actor line = cond (line.actor == actor) (Some line.command) None

-- the namespace in which the actor works once a command more is issued
pub space_on : (work : Workload) (a i : ℕ) (c : Command) → command_at work (command_of a i) ≡ Some c → namespace_at work (command_of a (i + 1)) ≡ space_after c (namespace_at work (command_of a i))
space_on work a i c at =
    let cs = commands_of work a in
    let below : i < length cs = slice_get_within cs i c at in
    let grown : take (i + 1) cs ≡ take i cs ++ c ∷ [] =
    ap (λ n. take n cs) (add-one i) ∙ take-suc cs i c below ∙ ap (λ x. take i cs ++ x ∷ []) (get_or_from_slice_get cs i c c at) in
    ap (latest used_name primary) grown ∙ latest_push used_name primary (take i cs) c

-- what a command is about, by the namespace in which its actor works
pub subject_so : (work : Workload) (by : By) (c : Command) (space : Name) → command_at work by ≡ Some c → namespace_at work by ≡ space → subject_at work by ≡ subject_of c space
subject_so work by c space at works =
    ap (λ o. option_map_or (λ x. subject_of x (namespace_at work by)) o primary) at ∙ ap (subject_of c) works

-- the lines of an actor up to a place, and its command there
pub own_length : (a : ℕ) (lines : List Line) → length (filter_map (own a) lines) ≡ count_by (is_of a) lines
own_length a [] = refl
own_length a (l ∷ lines) = by (l.actor == a) (own_length a lines) ∙ sym (count-append (is_of a) (l ∷ []) lines)
  where
    by : (b : Bool) → length (filter_map (own a) lines) ≡ count_by (is_of a) lines → length (cons_option (cond b (Some l.command) None) (filter_map (own a) lines)) ≡ (0 + cond b 1 0) + count_by (is_of a) lines
    by true e = let h : length (filter_map (own a) lines) ≡ count_by (is_of a) lines = e in omega arith
    by false e = let h : length (filter_map (own a) lines) ≡ count_by (is_of a) lines = e in omega arith

get_behind : {A : Type 0} (xs : List A) (y : A) (ys : List A) → slice_get (xs ++ y ∷ ys) (length xs) ≡ Some y
get_behind [] y ys = refl
get_behind (x ∷ xs) y ys = get_behind xs y ys

own_at : (a : ℕ) (lines : List Line) (n : ℕ) (d : Line) → n < length lines → (get_or lines n d).actor ≡ a → slice_get (filter_map (own a) lines) (count_by (is_of a) (take n lines)) ≡ Some (get_or lines n d).command
own_at a lines n d below is =
    let split : lines ≡ take n lines ++ get_or lines n d ∷ drop (suc n) lines = sym (take-append-drop n lines) ∙ ap (λ r. take n lines ++ r) (drop-cons lines n d below) in
    let cut : filter_map (own a) lines ≡ filter_map (own a) (take n lines) ++ (get_or lines n d).command ∷ filter_map (own a) (drop (suc n) lines) =
    ap (filter_map (own a)) split
    ∙ filter_map-append (own a) (take n lines) (get_or lines n d ∷ drop (suc n) lines)
    ∙ ap (λ b. filter_map (own a) (take n lines) ++ cons_option (cond b (Some (get_or lines n d).command) None) (filter_map (own a) (drop (suc n) lines))) (eq-eqb (get_or lines n d).actor a is) in
    ap (λ xs. slice_get xs (count_by (is_of a) (take n lines))) cut
    ∙ ap (slice_get (filter_map (own a) (take n lines) ++ (get_or lines n d).command ∷ filter_map (own a) (drop (suc n) lines))) (sym (own_length a (take n lines)))
    ∙ get_behind (filter_map (own a) (take n lines)) (get_or lines n d).command (filter_map (own a) (drop (suc n) lines))

-- the seat's line is the actor's next command
pub placed_command : (work : Workload) (a : ℕ) (seat : Seat) → IsPlaced work.lines a seat → (d : Line) → seat.next < length work.lines → command_at work (command_of a seat.issued) ≡ Some (get_or work.lines seat.next d).command
placed_command work a seat h d below = ap (slice_get (commands_of work a)) (sym h.passed) ∙ own_at a work.lines seat.next d below (h.here d below)

-- an actor whose lines have all been passed has no further command
pub placed_past : (work : Workload) (a : ℕ) (seat : Seat) → IsPlaced work.lines a seat → length work.lines ≤ seat.next → (k : ℕ) → seat.issued ≤ k → command_at work (command_of a k) ≡ None
placed_past work a seat h past k above =
    let all : take seat.next work.lines ≡ work.lines = take_all seat.next work.lines past in
    let counted : count_by (is_of a) work.lines ≡ seat.issued = ap (count_by (is_of a)) (sym all) ∙ h.passed in
    let long : length (commands_of work a) ≡ seat.issued = own_length a work.lines ∙ counted in
    slice_get_past (commands_of work a) k (omega arith)

-- lines that are others' are passed without a command
passed_more : (a : ℕ) (lines : List Line) (from gap : ℕ) → from + gap ≤ length lines → ((k : ℕ) (d : Line) → from ≤ k → k < from + gap → (get_or lines k d).actor ≢ a) → count_by (is_of a) (take (from + gap) lines) ≡ count_by (is_of a) (take from lines)
passed_more a lines from zero h none = ap (λ n. count_by (is_of a) (take n lines)) (plus_none from)
  where
    plus_none : (n : ℕ) → n + 0 ≡ n
    plus_none n = omega arith
passed_more a [] from (suc gap) h none = absurd (omega arith)
passed_more a (l ∷ lines) from (suc gap) h none =
    ap (λ n. count_by (is_of a) (take n (l ∷ lines))) (plus_more from gap)
    ∙ count_by_more_no (is_of a) (l ∷ lines) (from + gap) l (omega arith) (ne_eqb _ a (none (from + gap) l (omega arith) (omega arith)))
    ∙ passed_more a (l ∷ lines) from gap (omega arith) (λ k d low high. none k d low (omega arith))
  where
    plus_more : (n m : ℕ) → n + suc m ≡ (n + m) + 1
    plus_more n m = omega arith

pub passed_on : (a : ℕ) (lines : List Line) (from at : ℕ) → from ≤ at → at ≤ length lines → ((k : ℕ) (d : Line) → from ≤ k → k < at → (get_or lines k d).actor ≢ a) → count_by (is_of a) (take at lines) ≡ count_by (is_of a) (take from lines)
passed_on a lines from at low high none =
    let e : from + (at - from) ≡ at = omega arith in
    ap (λ n. count_by (is_of a) (take n lines)) (sym e) ∙ passed_more a lines from (at - from) (omega arith) (λ k d l h. none k d l (omega arith))

-- the seat moves on to the actor's next line
pub placed_on : (lines : List Line) (a : ℕ) (seat : Seat) → IsPlaced lines a seat → (d : Line) → seat.next < length lines → (next : ℕ) → seat.next + 1 ≤ next → next ≤ length lines →
    ((k : ℕ) (d : Line) → seat.next + 1 ≤ k → k < next → (get_or lines k d).actor ≢ a) → count_by (is_of a) (take next lines) ≡ seat.issued + 1
placed_on lines a seat h d below next low high none =
    passed_on a lines (seat.next + 1) next low high none
    ∙ count_by_more_yes (is_of a) lines seat.next d below (eq-eqb _ a (h.here d below))
    ∙ ap (λ n. n + 1) h.passed

-- what is staged once a command more is issued
since_push : {A : Type 0} (test : A → Bool) (xs : List A) (y : A) → since_last test (xs ++ y ∷ []) ≡ cond (test y) [] (since_last test xs ++ y ∷ [])
since_push test [] y = by (test y)
  where
    by : (b : Bool) → cond (b || false) [] (y ∷ []) ≡ cond b [] (y ∷ [])
    by true = refl
    by false = refl
since_push test (x ∷ xs) y =
    ap (λ b. cond (test x || b) (since_last test (xs ++ y ∷ [])) (x ∷ (xs ++ y ∷ []))) (list_any-append test xs (y ∷ []))
    ∙ by (test x) (list_any test xs) (test y) (since_push test xs y)
  where
    by : (b c d : Bool) → since_last test (xs ++ y ∷ []) ≡ cond d [] (since_last test xs ++ y ∷ []) →
        cond (b || (c || (d || false))) (since_last test (xs ++ y ∷ [])) (x ∷ (xs ++ y ∷ [])) ≡ cond d [] (cond (b || c) (since_last test xs) (x ∷ xs) ++ y ∷ [])
    by true c true again = again
    by true c false again = again
    by false true true again = again
    by false true false again = again
    by false false true again = again
    by false false false again = refl

take_push : {A : Type 0} (n : ℕ) (xs : List A) (y : A) → take n (xs ++ y ∷ []) ≡ cond (nat_lt (length (take n xs)) n) (take n xs ++ y ∷ []) (take n xs)
take_push n xs y = elim (cases_lt (length xs) n) [
  | inl below ↦
      let all : take n xs ≡ xs = take_all n xs (omega arith) in
      let more : take n (xs ++ y ∷ []) ≡ xs ++ y ∷ [] = take_all n (xs ++ y ∷ []) (omega (arith, length-append xs (y ∷ []))) in
      let short : nat_lt (length (take n xs)) n ≡ true = ap (λ l. nat_lt (length l) n) all ∙ lt-ltb (length xs) n below in
      more ∙ ap (λ l. l ++ y ∷ []) (sym all) ∙ sym (ap (λ b. cond b (take n xs ++ y ∷ []) (take n xs)) short)
  | inr above ↦
      let full : nat_lt (length (take n xs)) n ≡ false = le-ltb (length (take n xs)) n (omega (arith, length-take n xs)) in
      take-append-le n xs (y ∷ []) above ∙ sym (ap (λ b. cond b (take n xs ++ y ∷ []) (take n xs)) full)
]

-- a command that stages nothing leaves what is staged
staged_still : (c : Command) → op_of c ≡ None → (xs : List Command) → take most_ops (filter_map op_of (since_last takes_staged xs ++ c ∷ [])) ≡ take most_ops (filter_map op_of (since_last takes_staged xs))
staged_still c none xs =
    ap (take most_ops) (filter_map-append op_of (since_last takes_staged xs) (c ∷ [])
    ∙ ap (λ o. filter_map op_of (since_last takes_staged xs) ++ cons_option o []) none
    ∙ append-nil (filter_map op_of (since_last takes_staged xs)))

staged_more : (c : Command) (o : Op) → op_of c ≡ Some o → (xs : List Command) → take most_ops (filter_map op_of (since_last takes_staged xs ++ c ∷ [])) ≡ with_op (take most_ops (filter_map op_of (since_last takes_staged xs))) o
staged_more c o some xs =
    ap (take most_ops) (filter_map-append op_of (since_last takes_staged xs) (c ∷ [])
    ∙ ap (λ p. filter_map op_of (since_last takes_staged xs) ++ cons_option p []) some)
    ∙ take_push most_ops (filter_map op_of (since_last takes_staged xs)) o

staged_with : (c : Command) → (xs : List Command) → take most_ops (filter_map op_of (cond (takes_staged c) [] (since_last takes_staged xs ++ c ∷ []))) ≡ ops_after c (take most_ops (filter_map op_of (since_last takes_staged xs)))
staged_with (command.Put path bytes) xs = staged_more (command.Put path bytes) (op.Put path bytes) refl xs
staged_with (command.Append path bytes) xs = staged_more (command.Append path bytes) (op.Append path bytes) refl xs
staged_with (command.Unlink path) xs = staged_more (command.Unlink path) (op.Unlink path) refl xs
staged_with (command.Mkdir path) xs = staged_more (command.Mkdir path) (op.Mkdir path) refl xs
staged_with (command.Symlink path target) xs = staged_more (command.Symlink path target) (op.Link path target) refl xs
staged_with command.Commit xs = refl
staged_with (command.Fence name count) xs = refl
staged_with c xs = staged_still c refl xs

pub staged_on : (work : Workload) (a i : ℕ) (c : Command) → command_at work (command_of a i) ≡ Some c → staged_at work (command_of a (i + 1)) ≡ ops_after c (staged_at work (command_of a i))
staged_on work a i c at =
    let cs = commands_of work a in
    let below : i < length cs = slice_get_within cs i c at in
    let grown : take (i + 1) cs ≡ take i cs ++ c ∷ [] =
    ap (λ n. take n cs) (add-one i) ∙ take-suc cs i c below ∙ ap (λ x. take i cs ++ x ∷ []) (get_or_from_slice_get cs i c c at) in
    ap (λ xs. take most_ops (filter_map op_of (since_last takes_staged xs))) grown
    ∙ ap (λ xs. take most_ops (filter_map op_of xs)) (since_push takes_staged (take i cs) c)
    ∙ staged_with c (take i cs)

-- a line's command is one of a verb that is built
pub known_at : (work : Workload) → All (λ l. IsBuilt l.command) work.lines → (k : ℕ) (d : Line) → k < length work.lines → IsBuilt (get_or work.lines k d).command
known_at work known k d below = known k d below
