-- A text that is accepted tells a jobspec.
use Rattle.std.proofs.Common.{◌≡◌, ℕ, ◌<◌, ◌≤◌, Bool, true, false, List, [], ◌∷◌, Option, Some, None, Result, Ok, Err, codes, refl, sym, subst, true≢false, arith, length}
use Rattle.std.specs.Prelude.{◌==◌, ◌&&◌, IfOk, IfSome, IsSome, nat_le, not, option_and_then, if◌then◌else◌}
use Rattle.std.specs.Option.{ok_or}
use Rattle.std.specs.Str.{bytes_eq}
use Rattle.std.proofs.lemmas.Bool.{and_parts}
use Rattle.std.proofs.lemmas.Bool.Decides.{nat_tests}
use Rattle.serde_json.specs.Data.{Data}
use Rattle.serde_json.specs.Find.{as_number, as_object, as_str, as_u64, get}
use Rattle.fl_json.specs.Reading.{reading}
use Rattle.job_spec.specs.declared.faults.Place.{Place}
use Rattle.job_spec.specs.declared.faults.Place.TheVariants as place
use Rattle.job_spec.specs.declared.faults.SpecFault.{SpecFault}
use Rattle.job_spec.specs.declared.faults.SpecFault.TheVariants as fault
use Rattle.job_spec.specs.declared.spec.JobSpec.{JobSpec}
use Rattle.job_spec.specs.Fields.{◌>>=◌, as_any, as_list, count_at, count_of, each, field, of_kind, only, unless}
use Rattle.job_spec.specs.Limits.{limits_of}
use Rattle.job_spec.specs.Resources.{Slots, Units, Wanted, exclusive_of, in_order, is_core, nodes_of, slots_of, spread_of, type_of, units_alone, units_at, units_of, units_of_one, units_of_two, wanted_of}
use Rattle.job_spec.specs.Sound.{AreTasks, IsCount, IsSpec}
use Rattle.job_spec.specs.Specs.{is_version_1, spec_of, spec_reading, value_of}
use Rattle.job_spec.specs.Works.{Work, command_of, number_of_tasks, one_number, task_of, tasks_of, work_of}

-- ---- what a step keeps

bind : {A B : Type 0} (Q : A → Type 0) (P : B → Type 0) (r : Result A SpecFault) (f : A → Result B SpecFault) → IfOk r Q → ((x : A) → Q x → IfOk (f x) P) → IfOk (r >>= f) P
bind Q P (Ok x) f q h = h x q
bind Q P (Err e) f q h = tt

after : {A B : Type 0} (P : B → Type 0) (r : Result A SpecFault) (f : A → Result B SpecFault) → ((x : A) → IfOk (f x) P) → IfOk (r >>= f) P
after P (Ok x) f h = h x
after P (Err e) f h = tt

tested : {B : Type 0} (P : B → Type 0) (why : SpecFault) (b : Bool) (f : Unit {0} → Result B SpecFault) → (b ≡ true → IfOk (f tt) P) → IfOk (unless why b >>= f) P
tested P why true f h = h refl
tested P why false f h = tt

either : {B : Type 0} (P : B → Type 0) (b : Bool) (x y : Result B SpecFault) → IfOk x P → IfOk y P → IfOk (if b then x else y) P
either P true x y h g = h
either P false x y h g = g

-- ---- counts

counted : (at : Place) (d : Data) → IfOk (count_of at d) IsCount
counted at d = after IsCount (of_kind as_number at d) _ (λ number. of (fault.BadCount at) (as_u64 number))
  where
    test : (n : ℕ) (why : SpecFault) (b : Bool) → (nat_le 1 n && nat_le n 65536) ≡ b → IfOk (ok_or (if b then Some n else None) why) IsCount
    test n why true e =
        let two = and_parts (nat_le 1 n) (nat_le n 65536) e in
        let low : 1 ≤ n = let t = two.0 in grind (arith, nat_tests, t) in
        let high : n ≤ 65536 = let t = two.1 in grind (arith, nat_tests, t) in
        (low, high)
    test n why false e = tt

    of : (why : SpecFault) (o : Option ℕ) → IfOk (ok_or (option_and_then (λ n. if nat_le 1 n && nat_le n 65536 then Some n else None) o) why) IsCount
    of why None = tt
    of why (Some n) = test n why (nat_le 1 n && nat_le n 65536) refl

count_ok : (at : Place) (key : List ℕ) (d : Data) → IfOk (count_at at key d) IsCount
count_ok at key d = after IsCount (field as_any at key d) _ (counted at)

-- ---- what is asked for

record AreUnits (u : Units) : Type 0 where
  cores : IsCount u.cores
  gpus : u.gpus ≤ 65536

alone_ok : (d : Data) → IfOk (units_alone d) AreUnits
unfolding units_alone
alone_ok d = bind IsCount AreUnits (count_at place.Core (codes "count") d) _ (count_ok place.Core (codes "count") d) (λ n c. record { cores = c; gpus = omega arith })

at_ok : (d e : Data) → IfOk (units_at d e) AreUnits
unfolding units_at
at_ok d e = bind IsCount AreUnits (count_at place.Core (codes "count") d) _ (count_ok place.Core (codes "count") d) (λ n c.
    bind IsCount AreUnits (count_at place.Gpu (codes "count") e) _ (count_ok place.Gpu (codes "count") e) (λ m g. record { cores = c; gpus = g.1 }))

order_ok : (a b : Bool) (d e : Data) → IfOk (in_order a b d e) AreUnits
order_ok true false d e = at_ok d e
order_ok false true d e = at_ok e d
order_ok true true d e = tt
order_ok false false d e = tt

units_ok : (ds : List Data) → IfOk (units_of ds) AreUnits
unfolding units_of units_of_one units_of_two
units_ok [] = tt
units_ok (d ∷ []) = after AreUnits (is_core d) _ (λ core. either AreUnits core (units_alone d) (Err (fault.BadShape place.Slot)) (alone_ok d) tt)
units_ok (d ∷ e ∷ []) = after AreUnits (is_core d) _ (λ a. after AreUnits (is_core e) _ (λ b. order_ok a b d e))
units_ok (d ∷ e ∷ f ∷ ds) = tt

record AreSlots (s : Slots) : Type 0 where
  count : IsCount s.count
  units : AreUnits s.units

slots_ok : (d : Data) → IfOk (slots_of d) AreSlots
unfolding slots_of
slots_ok d = bind IsCount AreSlots (count_at place.Slot (codes "count") d) _ (count_ok place.Slot (codes "count") d) (λ n c.
    after AreSlots (field as_str place.Slot (codes "label") d) _ (λ label. after AreSlots (field as_list place.Slot (codes "with") d) _ (λ vertices. bind AreUnits AreSlots (units_of vertices) _ (units_ok vertices) (λ u h. record { count = c; units = h }))))

record IsWanted (w : Wanted) : Type 0 where
  nodes : IfSome w.nodes IsCount
  exclusive : w.exclusive ≡ true → IsSome w.nodes
  slots : AreSlots w.slots

spread_ok : (d : Data) → IfOk (spread_of d) IsWanted
unfolding spread_of
spread_ok d = bind AreSlots IsWanted (slots_of d) _ (slots_ok d) (λ s h. record { nodes = tt; exclusive = λ e. absurd (true≢false (sym e)); slots = h })

nodes_ok : (d : Data) → IfOk (nodes_of d) IsWanted
unfolding nodes_of
nodes_ok d = bind IsCount IsWanted (count_at place.Node (codes "count") d) _ (count_ok place.Node (codes "count") d) (λ n c.
    after IsWanted (exclusive_of d) _ (λ exclusive. after IsWanted (field as_list place.Node (codes "with") d) _ (λ vertices. after IsWanted (only place.Node vertices) _ (λ vertex. after IsWanted (type_of place.Node vertex) _ (λ type. after IsWanted (unless (fault.BadShape place.Node) (bytes_eq type (codes "slot"))) _ (λ ok.
    bind AreSlots IsWanted (slots_of vertex) _ (slots_ok vertex) (λ s h. record { nodes = c; exclusive = λ e. refl; slots = h })))))))

wanted_ok : (d : Data) → IfOk (wanted_of d) IsWanted
unfolding wanted_of
wanted_ok d = after IsWanted (field as_list place.Resources (codes "resources") d) _ (λ vertices. after IsWanted (only place.Resources vertices) _ (λ vertex. after IsWanted (type_of place.Resources vertex) _ (λ type.
    either IsWanted (bytes_eq type (codes "slot")) (spread_of vertex) (if bytes_eq type (codes "node") then nodes_of vertex else Err (fault.BadShape place.Resources)) (spread_ok vertex)
    (either IsWanted (bytes_eq type (codes "node")) (nodes_of vertex) (Err (fault.BadShape place.Resources)) (nodes_ok vertex) tt))))

-- ---- what is run

each_long : {A B : Type 0} (f : A → Result B SpecFault) (xs : List A) → IfOk (each f xs) (λ ys. length ys ≡ length xs)
each_long f [] = refl
each_long f (x ∷ xs) = after (λ ys. length ys ≡ length (x ∷ xs)) (f x) _ (λ y. bind (λ ys. length ys ≡ length xs) (λ ys. length ys ≡ length (x ∷ xs)) (each f xs) _ (each_long f xs) (λ ys e. omega (arith, e)))

some_words : {A : Type 0} (xs : List A) → not (length xs == 0) ≡ true → 0 < length xs
some_words [] e = absurd (true≢false (sym e))
some_words (x ∷ xs) e = omega arith

command_ok : (d : Data) → IfOk (command_of d) (λ words. 0 < length words)
unfolding command_of
command_ok d = after (λ words. 0 < length words) (field as_list place.Command (codes "command") d) _ (λ words.
    tested (λ words. 0 < length words) (fault.BadShape place.Command) (not (length words == 0)) _ (λ some.
    mapped words some (each (of_kind as_str place.Command) words) (each_long (of_kind as_str place.Command) words)))
  where
    mapped : (words : List Data) → not (length words == 0) ≡ true → (r : Result (List (List ℕ)) SpecFault) → IfOk r (λ ys. length ys ≡ length words) → IfOk r (λ ys. 0 < length ys)
    mapped words some (Ok ys) e = let few = some_words words some in omega (arith, few, e)
    mapped words some (Err why) e = tt

number_ok : (a b : Option Data) → IfOk (one_number a b) AreTasks
number_ok None None = tt
number_ok (Some d) None = bind IsCount AreTasks (count_of place.Count d) _ (counted place.Count d) (λ n c. c)
number_ok None (Some d) = bind IsCount AreTasks (count_of place.Count d) _ (counted place.Count d) (λ n c. c)
number_ok (Some d) (Some e) = tt

tasks_ok : (d : Data) → IfOk (tasks_of d) AreTasks
unfolding tasks_of number_of_tasks
tasks_ok d = after AreTasks (field as_any place.Count (codes "count") d) _ (λ e. number_ok (get (codes "per_slot") e) (get (codes "total") e))

record IsWork (w : Work) : Type 0 where
  command : 0 < length w.command
  tasks : AreTasks w.tasks

task_ok : (label : List ℕ) (d : Data) → IfOk (task_of label d) IsWork
unfolding task_of
task_ok label d = bind (λ words. 0 < length words) IsWork (command_of d) _ (command_ok d) (λ words some. after IsWork (field as_str place.Task (codes "slot") d) _ (λ slot. after IsWork (unless fault.NoSlot (bytes_eq slot label)) _ (λ ok.
    bind AreTasks IsWork (tasks_of d) _ (tasks_ok d) (λ tasks h. record { command = some; tasks = h }))))

work_ok : (label : List ℕ) (d : Data) → IfOk (work_of label d) IsWork
unfolding work_of
work_ok label d = after IsWork (field as_list place.Task (codes "tasks") d) _ (λ tasks. after IsWork (only place.Task tasks) _ (λ task. after IsWork (of_kind as_object place.Task task) _ (λ members. task_ok label task)))

-- ---- the whole

spec_ok : (text : List ℕ) (d : Data) → length text ≤ 65536 → IfOk (spec_of text d) IsSpec
unfolding spec_of
spec_ok text d short = after IsSpec (unless fault.BadVersion (is_version_1 d)) _ (λ version. bind IsWanted IsSpec (wanted_of d) _ (wanted_ok d) (λ w h. bind IsWork IsSpec (work_of w.slots.label d) _ (work_ok w.slots.label d) (λ work k. after IsSpec (limits_of d) _ (λ limits.
    record { nodes = h.nodes; exclusive = h.exclusive; slots = h.slots.count; cores = h.slots.units.cores; gpus = h.slots.units.gpus; command = k.command; tasks = k.tasks; text = short }))))

reading_ok : (text : List ℕ) → IfOk (spec_reading text) IsSpec
unfolding spec_reading
reading_ok text = tested IsSpec fault.TooLarge (nat_le (length text) 65536) _ (λ t. let short : length text ≤ 65536 = grind (arith, nat_tests, t) in after IsSpec (value_of (reading text)) _ (λ d. spec_ok text d short))

pub accepted_tells : (text : List ℕ) (spec : JobSpec) → spec_reading text ≡ Ok spec → IsSpec spec
accepted_tells text spec e = subst (λ r. IfOk r IsSpec) e (reading_ok text)

-- ---- its text

spec_keeps : (text : List ℕ) (d : Data) → IfOk (spec_of text d) (λ spec. spec.text ≡ text)
unfolding spec_of
spec_keeps text d =
    let keeps : JobSpec → Type 0 = λ spec. spec.text ≡ text in
    after keeps (unless fault.BadVersion (is_version_1 d)) _ (λ version. after keeps (wanted_of d) _ (λ w. after keeps (work_of w.slots.label d) _ (λ work. after keeps (limits_of d) _ (λ limits. refl))))

reading_keeps : (text : List ℕ) → IfOk (spec_reading text) (λ spec. spec.text ≡ text)
unfolding spec_reading
reading_keeps text =
    let keeps : JobSpec → Type 0 = λ spec. spec.text ≡ text in
    after keeps (unless fault.TooLarge (nat_le (length text) 65536)) _ (λ short. after keeps (value_of (reading text)) _ (λ d. spec_keeps text d))

pub accepted_keeps : (text : List ℕ) (spec : JobSpec) → spec_reading text ≡ Ok spec → spec.text ≡ text
accepted_keeps text spec e = subst (λ r. IfOk r (λ spec. spec.text ≡ text)) e (reading_keeps text)
