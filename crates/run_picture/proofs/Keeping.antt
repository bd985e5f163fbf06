-- What an event and a submission make of the rows that keep the jobs of an instance.
use Rattle.std.proofs.Common.{◌≡◌, ◌≢◌, ℕ, zero, suc, ◌+◌, ◌<◌, ◌≤◌, ◌==◌, ltb, Bool, true, false, cond, inl, inr, List, [], ◌∷◌, ◌++◌, length, get_or, set, take, drop, map, Option, Some, None, option_map, refl, sym, ap, ap₂, ◌∙◌, subst, arith}
use Rattle.std.specs.Prelude.{Contains, IfOk, OnOk, ◌/◌, ◌%◌, option_and_then, if◌then◌else◌}
use Rattle.std.specs.List.{list_any}
use Rattle.std.proofs.Common.{Result, Ok, Err}
use Rattle.std.specs.List.{AllByRecursion as Each}
use Rattle.std.specs.List.Sorted.{IsStrictlyIncreasing}
use Rattle.std.proofs.lemmas.Bool.{cases_lt, eq-eqb, ne_eqb, lt-ltb, le-ltb}
use Rattle.std.proofs.lemmas.List.{get_or-map, length-map}
use Rattle.std.proofs.lemmas.List.Kept.{AllPairs-from_increasing}
use Rattle.std.specs.Result.{result_ok}
use Rattle.event_log.specs.Events.{line_text}
use Rattle.event_log.specs.declared.event.Event.{Event}
use Rattle.job_rules.proofs.Among.{Among, among_mapped, contains_from}
use Rattle.fluid_ids.specs.Texts.{group_text, printed}
use Rattle.fluid_ids.specs.declared.forms.Form.TheVariants.{Dothex}
use Rattle.job_states.specs.Changes.{change_of}
use Rattle.job_states.specs.Replay.{allowed, stepped}
use Rattle.job_states.specs.Table.{begun_by, is_state, made, stands_in, submitted_job}
use Rattle.job_states.specs.Table.{changed as changed_job}
use Rattle.job_states.specs.declared.job.Change.{Change}
use Rattle.job_states.specs.declared.job.Change.TheVariants as change
use Rattle.manager_rules.specs.Keys.{job_path}
use Rattle.job_states.specs.declared.job.Job.{Job}
use Rattle.manager_rules.specs.Jobs.{StoredJob, ids_of, is_live}
use Rattle.manager_rules.specs.Posts.{Submission, Submits, begun_with, event_done, job_after, job_of, jobs_after, r_after, with_event, with_job}
use Rattle.manager_rules.specs.declared.due.Due.{Due}
use Rattle.resource_set.specs.Reading.{told}
use Rattle.resource_set.specs.declared.node.Resources.{Resources}
use Rattle.run_picture.specs.Rows.{AreRowsOf, IsNewRow, IsReadable, Known, held_then, known_in, known_of, row_after, row_ids}
use Rattle.run_picture.specs.declared.jobs.JobRow.{JobRow}

-- ---- numbers that rise

abbrev RiseFrom : ℕ → List ℕ → Type 0
RiseFrom n [] = Unit {0}
RiseFrom n (x ∷ xs) = (n ≤ x) × RiseFrom (x + 1) xs

rise_of : (n : ℕ) (xs : List ℕ) → (0 < length xs → n ≤ get_or xs 0 0) → IsStrictlyIncreasing xs → RiseFrom n xs
rise_of n [] h i = tt
rise_of n (x ∷ xs) h i = (h (omega arith), rise_of (x + 1) xs next more)
  where
    next : 0 < length xs → x + 1 ≤ get_or xs 0 0
    next w = let step : x < get_or (x ∷ xs) 1 0 = i 0 (omega arith) in omega (arith, step)

    more : IsStrictlyIncreasing xs
    more k w = let e : suc k + 1 ≡ suc (k + 1) = omega arith in subst (λ n. get_or xs k 0 < get_or (x ∷ xs) n 0) e (i (suc k) (omega arith))

abbrev ids : List Known → List ℕ
ids ks = map (λ k. k.id) ks

mapped_twice : {A B C : Type 0} (f : B → C) (g : A → B) (xs : List A) → map f (map g xs) ≡ map (λ x. f (g x)) xs
mapped_twice f g [] = refl
mapped_twice f g (x ∷ xs) = ap (λ ys. f (g x) ∷ ys) (mapped_twice f g xs)

-- ---- an event

-- what is kept of a job behind an event
abbrev pub known_after : Event → Option (List ℕ) → Known → Known
known_after event r k = record {
  id = k.id;
  job = job_after (change_of event) k.job;
  held = held_then (job_after (change_of event) k.job) k.held r;
}

held_known : (job : Job) (r : Option (List ℕ)) (o : Option Resources)
    → option_map (λ r. r.nodes) (if is_live job then r_after r o else None) ≡ held_then job (option_map (λ r. r.nodes) o) r
held_known job None o = at (is_live job)
  where
    at : (b : Bool) → option_map (λ r. r.nodes) (if b then o else None) ≡ (if b then option_map (λ r. r.nodes) o else None)
    at true = refl
    at false = refl
held_known job (Some text) o = at (is_live job)
  where
    at : (b : Bool) → option_map (λ r. r.nodes) (if b then result_ok (told text) else None) ≡ (if b then option_map (λ r. r.nodes) (result_ok (told text)) else None)
    at true = refl
    at false = refl

done_known : (due : Due) (j : StoredJob) → known_of (event_done due j) ≡ known_after due.event due.r (known_of j)
done_known due j =
    ap (λ held. record { id = j.id; job = job_after (change_of due.event) j.job; held = held }) (held_known (job_after (change_of due.event) j.job) due.r j.r)

abbrev changed : (Known → Known) → ℕ → List Known → List Known
changed f id ks = map (λ k. if k.id == id then f k else k) ks

event_known : (due : Due) (jobs : List StoredJob) → map known_of (with_event due jobs) ≡ changed (known_after due.event due.r) due.job (map known_of jobs)
event_known due [] = refl
event_known due (j ∷ jobs) = ap₂ (λ k ks. k ∷ ks) (at (j.id == due.job)) (event_known due jobs)
  where
    at : (b : Bool) → known_of (if b then event_done due j else j) ≡ (if b then known_after due.event due.r (known_of j) else known_of j)
    at true = done_known due j
    at false = refl

untouched : (f : Known → Known) (id n : ℕ) (ks : List Known) → id < n → RiseFrom n (ids ks) → changed f id ks ≡ ks
untouched f id n [] h r = refl
untouched f id n (x ∷ xs) h r =
    let other : x.id ≢ id = λ e. omega (arith, e, h, r.0) in
    ap₂ (λ y ys. y ∷ ys) (ap (λ b. if b then f x else x) (ne_eqb x.id id other)) (untouched f id (x.id + 1) xs (omega (arith, h, r.0)) r.1)

set_from : (f : Known → Known) (id n : ℕ) (ks : List Known) (at : ℕ) (d : Known) → RiseFrom n (ids ks) → at < length ks → (get_or ks at d).id ≡ id → set ks at (f (get_or ks at d)) ≡ changed f id ks
set_from f id n [] at d r w e = let none : ⊥ = omega (arith, w) in absurd none
set_from f id n (x ∷ xs) zero d r w e = ap₂ (λ y ys. y ∷ ys)
    (sym (ap (λ b. if b then f x else x) (eq-eqb x.id id e)))
    (sym (untouched f id (x.id + 1) xs (omega (arith, e)) r.1))
set_from f id n (x ∷ xs) (suc at) d r w e =
    let within : at < length xs = omega (arith, w) in
    let above : x.id + 1 ≤ (get_or xs at d).id = rise_place (x.id + 1) xs at d r.1 within in
    let other : x.id ≢ id = λ same. omega (arith, same, e, above) in
    ap₂ (λ y ys. y ∷ ys)
    (sym (ap (λ b. if b then f x else x) (ne_eqb x.id id other)))
    (set_from f id (x.id + 1) xs at d r.1 within e)
  where
    rise_place : (n : ℕ) (ks : List Known) (at : ℕ) (d : Known) → RiseFrom n (ids ks) → at < length ks → n ≤ (get_or ks at d).id
    rise_place n [] at d r w = let none : ⊥ = omega (arith, w) in absurd none
    rise_place n (x ∷ xs) zero d r w = r.0
    rise_place n (x ∷ xs) (suc at) d r w = let more = rise_place (x.id + 1) xs at d r.1 (omega (arith, w)) in omega (arith, r.0, more)

map_set : (rows : List JobRow) (at : ℕ) (row : JobRow) → map known_in (set rows at row) ≡ set (map known_in rows) at (known_in row)
map_set [] at row = refl
map_set (x ∷ xs) zero row = refl
map_set (x ∷ xs) (suc at) row = ap (λ ks. known_in x ∷ ks) (map_set xs at row)

known_ids : (rows : List JobRow) (jobs : List StoredJob) → AreRowsOf rows jobs → ids (map known_in rows) ≡ ids_of jobs
known_ids rows jobs are = ap ids are ∙ mapped_twice (λ k. k.id) known_of jobs

-- the rows behind an event of the job whose row stands at this place
pub rows_after : (due : Due) (rows : List JobRow) (jobs : List StoredJob) (at : ℕ) (d : JobRow) → IsStrictlyIncreasing (ids_of jobs) → AreRowsOf rows jobs → at < length rows → (get_or rows at d).id ≡ due.job
    → AreRowsOf (set rows at (row_after due.event due.r (get_or rows at d))) (with_event due jobs)
rows_after due rows jobs at d rising are w e =
    let ks = map known_in rows in
    let f = known_after due.event due.r in
    let same : get_or ks at (known_in d) ≡ known_in (get_or rows at d) = get_or-map known_in rows at d (known_in d) w in
    let rise : RiseFrom 0 (ids ks) = rise_of 0 (ids ks) (λ w. omega arith) (subst IsStrictlyIncreasing (sym (known_ids rows jobs are)) rising) in
    map_set rows at (row_after due.event due.r (get_or rows at d))
    ∙ ap (λ k. set ks at (f k)) (sym same)
    ∙ set_from f due.job 0 ks at (known_in d) rise (subst (λ n. at < n) (sym (length-map rows known_in)) w) (ap (λ k. k.id) same ∙ e)
    ∙ ap (changed f due.job) are
    ∙ sym (event_known due jobs)

-- ---- a submission

abbrev with_known : Known → List Known → List Known
with_known k [] = k ∷ []
with_known k (x ∷ xs) = if ltb k.id x.id then k ∷ x ∷ xs else x ∷ with_known k xs

job_known : (j : StoredJob) (jobs : List StoredJob) → map known_of (with_job j jobs) ≡ with_known (known_of j) (map known_of jobs)
job_known j [] = refl
job_known j (x ∷ xs) = at (ltb j.id x.id) (job_known j xs)
  where
    at : (b : Bool) → map known_of (with_job j xs) ≡ with_known (known_of j) (map known_of xs)
        → map known_of (cond b (j ∷ x ∷ xs) (x ∷ with_job j xs)) ≡ cond b (known_of j ∷ known_of x ∷ map known_of xs) (known_of x ∷ with_known (known_of j) (map known_of xs))
    at true again = refl
    at false again = ap (λ ks. known_of x ∷ ks) again

inserted : (row : JobRow) (at : ℕ) (rows : List JobRow) → Each (λ k. k.id < row.id) (take at rows) → Each (λ k. row.id ≤ k.id) (drop at rows) → ((k : JobRow) → Among k rows → k.id ≢ row.id)
    → map known_in (take at rows ++ row ∷ drop at rows) ≡ with_known (known_in row) (map known_in rows)
inserted row zero [] b a new = refl
inserted row (suc at) [] b a new = refl
inserted row zero (x ∷ xs) b a new =
    let other : x.id ≢ row.id = new x (inl refl) in
    let below : row.id < x.id = omega (arith, a.0, other) in
    ap (λ t. cond t (known_in row ∷ known_in x ∷ map known_in xs) (known_in x ∷ with_known (known_in row) (map known_in xs))) (sym (lt-ltb row.id x.id below))
inserted row (suc at) (x ∷ xs) b a new =
    ap (λ ks. known_in x ∷ ks) (inserted row at xs b.1 a (λ y i. new y (inr i)))
    ∙ ap (λ t. cond t (known_in row ∷ known_in x ∷ map known_in xs) (known_in x ∷ with_known (known_in row) (map known_in xs))) (sym (le-ltb row.id x.id (omega (arith, b.0))))

among_rows : (rows : List JobRow) (jobs : List StoredJob) → AreRowsOf rows jobs → (id : ℕ) → (Contains (ids_of jobs) id → ⊥) → (k : JobRow) → Among k rows → k.id ≢ id
among_rows rows jobs are id new k i e =
    let here : Among k.id (map (λ row. row.id) rows) = among_mapped (λ row. row.id) rows k i in
    let same : map (λ row. row.id) rows ≡ ids_of jobs = sym (mapped_twice (λ k. k.id) known_in rows) ∙ known_ids rows jobs are in
    new (contains_from (ids_of jobs) id (subst (λ n. Among n (ids_of jobs)) e (subst (Among k.id) same here)))

-- the rows with one more, at its place
pub rows_with : (j : StoredJob) (row : JobRow) (rows : List JobRow) (jobs : List StoredJob) (at : ℕ) → AreRowsOf rows jobs → (Contains (ids_of jobs) j.id → ⊥) → known_in row ≡ known_of j
    → Each (λ k. k.id < j.id) (take at rows) → Each (λ k. j.id ≤ k.id) (drop at rows) → AreRowsOf (take at rows ++ row ∷ drop at rows) (with_job j jobs)
rows_with j row rows jobs at are new same b a =
    let id : row.id ≡ j.id = ap (λ k. k.id) same in
    inserted row at rows (subst (λ n. Each (λ k. k.id < n) (take at rows)) (sym id) b) (subst (λ n. Each (λ k. n ≤ k.id) (drop at rows)) (sym id) a)
    (λ k i e. among_rows rows jobs are j.id new k i (e ∙ id))
    ∙ ap₂ with_known same are
    ∙ sym (job_known j jobs)

-- ---- the place of an id

pub rows_rise : (rows : List JobRow) → IsStrictlyIncreasing (map (λ row. row.id) rows) → (i j : ℕ) (d : JobRow) → i ≤ j → j < length rows → (get_or rows i d).id ≤ (get_or rows j d).id
rows_rise rows r i j d h w = elim (cases_lt i j) [
  | inl below ↦
      let pair : get_or (map (λ row. row.id) rows) i 0 < get_or (map (λ row. row.id) rows) j 0 = AllPairs-from_increasing (map (λ row. row.id) rows) r i j 0 below (subst (λ n. j < n) (sym (length-map rows (λ row. row.id))) w) in
      let a : get_or (map (λ row. row.id) rows) i 0 ≡ (get_or rows i d).id = get_or-map (λ row. row.id) rows i d 0 (omega arith) in
      let b : get_or (map (λ row. row.id) rows) j 0 ≡ (get_or rows j d).id = get_or-map (λ row. row.id) rows j d 0 w in
      omega (arith, pair, a, b)
  | inr above ↦ let same : i ≡ j = omega (arith, above, h) in subst (λ k. (get_or rows i d).id ≤ (get_or rows k d).id) same (omega arith)
]

module _ {A : Type 0} where
  pub each_before : (P : A → Type 0) (at : ℕ) (xs : List A) → at ≤ length xs → ((k : ℕ) (d : A) → k < at → P (get_or xs k d)) → Each P (take at xs)
  each_before P zero xs h f = tt
  each_before P (suc at) [] h f = tt
  each_before P (suc at) (x ∷ xs) h f = (f 0 x (omega arith), each_before P at xs (omega (arith, h)) (λ k d w. f (suc k) d (omega (arith, w))))

  pub each_behind : (P : A → Type 0) (at : ℕ) (xs : List A) → ((k : ℕ) (d : A) → at ≤ k → k < length xs → P (get_or xs k d)) → Each P (drop at xs)
  each_behind P zero [] f = tt
  each_behind P zero (x ∷ xs) f = (f 0 x (omega arith) (omega arith), each_behind P zero xs (λ k d h w. f (suc k) d (omega arith) (omega (arith, w))))
  each_behind P (suc at) [] f = tt
  each_behind P (suc at) (x ∷ xs) f = each_behind P at xs (λ k d h w. f (suc k) d (omega (arith, h)) (omega (arith, w)))

-- rows that keep jobs rise as these do
pub row_ids_are : (rows : List JobRow) (jobs : List StoredJob) → AreRowsOf rows jobs → map (λ row. row.id) rows ≡ ids_of jobs
row_ids_are rows jobs are = sym (mapped_twice (λ k. k.id) known_in rows) ∙ known_ids rows jobs are

-- ---- what stands in a post

-- what holds of a result where something else does
pub ok_more : {A E : Type 0} (P Q : A → Type 0) (r : Result A E) → ((x : A) → P x → Q x) → IfOk r P → IfOk r Q
ok_more P Q (Ok x) f h = f x h
ok_more P Q (Err e) f h = tt

pub done_more : {A E : Type 0} (P Q : Type 0) (r : Result A E) → (P → Q) → OnOk r P → OnOk r Q
done_more P Q (Ok x) f h = f h
done_more P Q (Err e) f h = tt

pub last_one : (old before : List Event) (event told : Event) → old ≡ before ++ event ∷ [] → old ≡ told ∷ [] → event ≡ told
last_one old [] event told e h = cc
last_one old (x ∷ []) event told e h = cc
last_one old (x ∷ y ∷ xs) event told e h = cc

-- the key of a job has six names, of which the four in the middle spell its id
pub six_names : (path : List (List ℕ)) (id : ℕ) (key : List ℕ) → path ≡ job_path id ++ key ∷ [] → length path ≡ 6
unfolding job_path
six_names path id key e = ap length e

pub id_named : (path : List (List ℕ)) (first second third last : List ℕ) (id : ℕ) (key : List ℕ) → path ≡ job_path id ++ key ∷ []
    → first ≡ get_or path 1 first → second ≡ get_or path 2 second → third ≡ get_or path 3 third → last ≡ get_or path 4 last
    → first ++ (46 ∷ (second ++ (46 ∷ (third ++ (46 ∷ last))))) ≡ printed Dothex id
unfolding job_path printed
id_named path first second third last id key e a b c d =
    let one : first ≡ group_text (id / 65536 / 65536 / 65536) = a ∙ ap (λ p. get_or p 1 first) e in
    let two : second ≡ group_text (id / 65536 / 65536 % 65536) = b ∙ ap (λ p. get_or p 2 second) e in
    let three : third ≡ group_text (id / 65536 % 65536) = c ∙ ap (λ p. get_or p 3 third) e in
    let four : last ≡ group_text (id % 65536) = d ∙ ap (λ p. get_or p 4 last) e in
    ap₂ (λ x rest. x ++ (46 ∷ rest)) one (ap₂ (λ x rest. x ++ (46 ∷ rest)) two (ap₂ (λ x y. x ++ (46 ∷ y)) three four))

-- a step that goes well makes the change that the event asks for
pub step_is : (job next : Job) (event : Event) → stepped 0 job event ≡ Ok next → next ≡ job_after (change_of event) job
step_is job next event e = by (change_of event) e
  where
    can : (change : Change) (b : Bool) → allowed 0 (Some job.state) (if b then Some (made change job) else None) ≡ Ok next → next ≡ made change job
    can change true e = cc
    can change false e = cc

    by : (o : Option Change) → allowed 0 (Some job.state) (option_and_then (λ change. changed_job change job) o) ≡ Ok next → next ≡ job_after o job
    by None e = cc
    by (Some change) e = can change (list_any (is_state job.state) (stands_in change job)) e

-- the rows behind a line of a log
pub line_added : (due : Due) (rows new : List JobRow) (jobs : List StoredJob) (at : ℕ) (event : Event) (r : Option (List ℕ)) → event ≡ due.event → due.r ≡ r
    → IsStrictlyIncreasing (ids_of jobs) → AreRowsOf rows jobs → at < length rows → ((d : JobRow) → (get_or rows at d).id ≡ due.job)
    → ((d : JobRow) → new ≡ set rows at (row_after event r (get_or rows at d))) → AreRowsOf new (with_event due jobs)
line_added due [] new jobs at event r same put rising are within named made = let none : ⊥ = omega (arith, within) in absurd none
line_added due (x ∷ xs) new jobs at event r same put rising are within named made =
    subst (λ rows. AreRowsOf rows (with_event due jobs)) (sym (made x ∙ ap₂ (λ e o. set (x ∷ xs) at (row_after e o (get_or (x ∷ xs) at x))) same (sym put)))
    (rows_after due (x ∷ xs) jobs at x rising are within (named x))

-- the rows behind the submission of a job
pub job_begun : (x : Submission) (row : JobRow) (rows new : List JobRow) (jobs : List StoredJob) (at id : ℕ) (line : List ℕ) → x.id ≡ id → line ≡ line_text x.event
    → IsReadable (Submits x) jobs → IsNewRow id line row
    → (IsStrictlyIncreasing (row_ids rows) → Each (λ row. row.id < id) (take at rows)) → (IsStrictlyIncreasing (row_ids rows) → Each (λ row. id ≤ row.id) (drop at rows))
    → new ≡ take at rows ++ row ∷ drop at rows → AreRowsOf rows jobs → AreRowsOf new (jobs_after (Submits x) jobs)
job_begun x row rows new jobs at id line named text readable is before behind made are = by (change_of x.event) (is.begins x.event readable.2 text)
  where
    rising : IsStrictlyIncreasing (row_ids rows)
    rising = subst IsStrictlyIncreasing (sym (row_ids_are rows jobs are)) readable.0

    begins : (userid urgency : ℕ) → submitted_job userid urgency ≡ row.job → AreRowsOf new (with_job (job_of x userid urgency) jobs)
    begins userid urgency job =
        let same : known_in row ≡ known_of (job_of x userid urgency) = ap₂ (λ i h. record { id = i; job = row.job; held = h }) (is.named ∙ sym named) is.none ∙ ap (λ j. record { id = x.id; job = j; held = None }) (sym job) in
        subst (λ rows. AreRowsOf rows (with_job (job_of x userid urgency) jobs)) (sym made)
        (rows_with (job_of x userid urgency) row rows jobs at are readable.3 same
        (subst (λ n. Each (λ row. row.id < n) (take at rows)) (sym named) (before rising)) (subst (λ n. Each (λ row. n ≤ row.id) (drop at rows)) (sym named) (behind rising)))

    by : (o : Option Change) → allowed 0 None (option_and_then begun_by o) ≡ Ok row.job → AreRowsOf new (begun_with o x jobs)
    by (Some (change.Submit userid urgency)) e = begins userid urgency cc
    by None e = cc
    by (Some change.Validate) e = cc
    by (Some (change.AddDependency on)) e = cc
    by (Some (change.RemoveDependency on)) e = cc
    by (Some change.Depend) e = cc
    by (Some (change.Prioritize priority)) e = cc
    by (Some (change.Urge urgency)) e = cc
    by (Some change.Alloc) e = cc
    by (Some change.Restart) e = cc
    by (Some change.Start) e = cc
    by (Some (change.Finish status)) e = cc
    by (Some (change.Except severity)) e = cc
    by (Some (change.Release last)) e = cc
    by (Some change.Free) e = cc
    by (Some change.Clean) e = cc
