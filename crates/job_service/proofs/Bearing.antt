-- Which births and ends are due by the log, and the grants of children.
use Rattle.std.proofs.Common.{◌≡◌, ◌≢◌, ℕ, ◌≤◌, ◌==◌, ◌||◌, ◌⊎◌, inl, inr, List, [], ◌∷◌, Bool, true, false, cond, Option, Some, None, Contains, refl, sym, ap, ◌∙◌, subst, arith, length, true≢false}
use Rattle.std.specs.Prelude.{IfNone, IfSome, IsSome, IsTrue, is_some, not, option_and_then}
use Rattle.std.specs.List.{AllByRecursion as Each}
use Rattle.std.specs.Option.{option_map_or}
use Rattle.std.specs.List.Sorted.{IsStrictlyIncreasing}
use Rattle.std.proofs.lemmas.Bool.{and_from, and_parts, eq-eqb, false_from_ne_true, or_left, or_right}
use Rattle.instance_rules.specs.Desks.{IsDeskOf}
use Rattle.instance_rules.specs.Legal.{IsLegalMoment, OfDesk}
use Rattle.instance_rules.specs.Log.{Born, Gone, Instance, Log, service_of}
use Rattle.job_deeds.proofs.Whys.{found_job}
use Rattle.job_book.specs.Contract.{BirthIn, IsFirstBirth as IsFirstIn, IsKept, NoBirth as NoneIn, r_at}
use Rattle.job_clock.proofs.Standing.{jobs_same, of_desk}
use Rattle.job_clock.specs.Standing.{StandsWith}
use Rattle.job_commands.proofs.Children.{living_told}
use Rattle.job_commands.proofs.Desks.{children_alone, children_stand}
use Rattle.job_commands.specs.Children.{all_children}
use Rattle.job_commands.specs.Desks.{asked_of, desk_of}
use Rattle.job_commands.specs.Rows.{CommandsValue, job_at as job_named}
use Rattle.job_book.specs.Value.{BookValue}
use Rattle.job_manager.specs.Managed.{IsManaged}
use Rattle.job_manager.specs.Posts.{is_posted_for}
use Rattle.job_manager.specs.Value.{ManagerValue}
use Rattle.job_deeds.proofs.job_rules_proofs.Among.{Among, among_from, among_mapped, contains_from, distinct_rising, each_at, each_from, same_image}
use Rattle.job_deeds.specs.job_states.Table.{is_state}
use Rattle.job_deeds.specs.job_states.declared.job.State.{State}
use Rattle.job_deeds.specs.job_states.declared.job.State.TheVariants as state
use Rattle.kvs_core.specs.Posted.{newest_of}
use Rattle.kvs_rules.specs.Namespaces.{newest_store, primary}
use Rattle.job_deeds.specs.job_rules.Fits.{IsUnitSet, Satisfies, SatisfiesAs}
use Rattle.job_deeds.specs.job_spec.Sound.{IsCount, IsSpec}
use Rattle.job_deeds.specs.job_spec.declared.spec.JobSpec.{JobSpec}
use Rattle.job_submissions.specs.Made.{AreLabelled}
use Rattle.job_deeds.specs.manager_rules.Dependencies.{job_at}
use Rattle.job_deeds.specs.manager_rules.Due.{IsEnding}
use Rattle.job_deeds.specs.manager_rules.Jobs.{StoredJob, ids_of, is_live}
use Rattle.job_deeds.proofs.manager_rules_proofs.Unique.{jobs_are_one}
use Rattle.job_deeds.specs.manager_rules.Sound.{IsServed, IsSound}
use Rattle.job_deeds.specs.manager_rules.Posts.{Desk}
use Rattle.job_deeds.specs.manager_rules.Scene.{has_living_child}
use Rattle.job_deeds.specs.manager_rules.Times.{IsBirthDue, IsEndDue}
use Rattle.job_deeds.specs.manager_rules.declared.asked.Asked.{Asked}
use Rattle.job_deeds.specs.manager_rules.declared.asked.Asked.TheVariants as asked
use Rattle.job_deeds.specs.resource_set.declared.node.Node.{Node}
use Rattle.job_deeds.specs.resource_set.declared.node.Resources.{Resources}
use Rattle.job_service.specs.Agrees.{AgreesJobs}
use Rattle.job_service.specs.Children.{IsBearing, IsFirstBirth, IsGrantedBy, NoBirth, grant_from, is_end_due, is_ending, may_end}
use Rattle.job_service.specs.Value.{JobServiceValue}
use Rattle.job_service.proofs.Running.{running_is_live}

-- ---- what a job holds

-- what satisfies a job has a host
some_hosts : (count : Option ℕ) (spec : JobSpec) (grant nodes : List Node) → IfSome count IsCount → 1 ≤ spec.slots → SatisfiesAs count spec grant nodes → 1 ≤ length nodes
some_hosts None spec grant [] few slots none = (let zero : spec.slots ≡ 0 = none in absurd (omega (arith, slots, zero)))
some_hosts None spec grant (node ∷ nodes) few slots h = omega arith
some_hosts (Some count) spec grant nodes few slots h = (let same : length nodes ≡ count = h.0 in let low : 1 ≤ count = few.0 in omega (arith, same, low))

held_hosts : (book : BookValue) → IsKept book → (j : StoredJob) (r : Resources) → Among j book.jobs → j.r ≡ Some r → 1 ≤ length r.nodes
held_hosts book kept j r i e =
    let spec = each_at (λ k. IsSpec k.spec) book.jobs j kept.specs i in
    let served = each_at (IsServed book.grant.nodes) book.jobs j kept.sound.served i in
    let fits : IfSome (Some r) (λ r. IsUnitSet r.nodes × Satisfies j.spec book.grant.nodes r.nodes) = subst (λ o. IfSome o (λ r. IsUnitSet r.nodes × Satisfies j.spec book.grant.nodes r.nodes)) e served.satisfied in
    some_hosts j.spec.nodes j.spec book.grant.nodes r.nodes spec.nodes spec.slots.0 fits.1

-- ---- jobs by id

one_job : (jobs : List StoredJob) → IsStrictlyIncreasing (ids_of jobs) → (a b : StoredJob) → Contains jobs a → Contains jobs b → a.id ≡ b.id → a ≡ b
one_job jobs rising a b x y e = same_image (λ j. j.id) jobs a b (distinct_rising (ids_of jobs) rising) (among_from jobs a x) (among_from jobs b y) e

none_there : (jobs : List StoredJob) (id : ℕ) → job_at jobs id ≡ None → (j : StoredJob) → Among j jobs → j.id ≡ id → ⊥
none_there [] id e j i same = absurd i
none_there (x ∷ xs) id e j i same = at (x.id == id) refl (none_there xs id) i e
  where
    at : (b : Bool) → (x.id == id) ≡ b → (job_at xs id ≡ None → (k : StoredJob) → Among k xs → k.id ≡ id → ⊥) → (x ≡ j) ⊎ Among j xs → cond b (Some x) (job_at xs id) ≡ None → ⊥
    at true t more i f = cc
    at false t more (inl is) f = true≢false (sym (eq-eqb x.id id (ap (λ k. k.id) is ∙ same)) ∙ t)
    at false t more (inr k) f = more f j k same

pub known_at : (jobs : List StoredJob) → IsStrictlyIncreasing (ids_of jobs) → (id : ℕ) (j : StoredJob) → Contains jobs j → j.id ≡ id → job_at jobs id ≡ Some j
known_at jobs rising id j c same = at (job_at jobs id) refl
  where
    at : (o : Option StoredJob) → job_at jobs id ≡ o → job_at jobs id ≡ Some j
    at None e = absurd (none_there jobs id e j (among_from jobs j c) same)
    at (Some k) e =
        let f = found_job jobs id k e in
        e ∙ ap Some (one_job jobs rising k j (contains_from jobs k f.0) c (f.1 ∙ sym same))

-- ---- states

ends_so : (s : State) → is_state s state.Cleanup ≡ true → s ≡ state.Cleanup
ends_so state.Cleanup e = refl
ends_so state.New e = cc
ends_so state.Depend e = cc
ends_so state.Priority e = cc
ends_so state.Sched e = cc
ends_so state.Run e = cc
ends_so state.Inactive e = cc

so_ends : (s : State) → s ≡ state.Cleanup → is_state s state.Cleanup ≡ true
so_ends s e = ap (λ x. is_state x state.Cleanup) e

runs_on : state.Run ≡ state.Cleanup → ⊥
runs_on e = true≢false (sym (ap (λ s. is_state s state.Run) (sym e) ∙ refl) ∙ refl)

over_either : (shut b : Bool) → (shut || b) ≡ true → IsTrue shut ⊎ (b ≡ true)
over_either true b e = inl refl
over_either false b e = inr e

module _ (v : JobServiceValue) (inst : Instance) (log : Log) (a : AgreesJobs v inst log) where
  abbrev jobs : List StoredJob
  jobs = v.manager.book.jobs

  abbrev desk : Desk
  desk = desk_of v.commands inst log jobs

  -- ---- births

  pub birth_there : (id : ℕ) → BirthIn v.manager.book (all_children v.commands.children) id → IsBirthDue desk.scene id
  birth_there id b = record {
    j = b.j;
    known = b.known;
    named = b.named;
    runs = b.runs;
    started = b.started;
    start = b.start;
    started_at = b.started_at;
    child = b.child;
    first = children_alone v.commands id ∙ b.first;
  }

  pub birth_here : (id : ℕ) → IsBirthDue desk.scene id → BirthIn v.manager.book (all_children v.commands.children) id
  birth_here id b = record {
    j = b.j;
    known = b.known;
    named = b.named;
    runs = b.runs;
    started = b.started;
    start = b.start;
    started_at = b.started_at;
    child = b.child;
    first = sym (children_alone v.commands id) ∙ b.first;
  }

  pub none_due : IsBearing v.commands v.manager.book None → (id : ℕ) → IsBirthDue desk.scene id → ⊥
  none_due none id b = none id (birth_here id b)

  module _ (m : IsManaged v.manager) (newest : newest_store inst.service (service_of log) primary ≡ Some (newest_of v.manager.core)) where
    pub stands : StandsWith v.commands jobs inst log
    stands = record { valid = a.kind.valid; commands = a.commands; store = newest_of v.manager.core; standing = newest; are = m.jobs }

    pub first_birth : (job : ℕ) → IsBearing v.commands v.manager.book (Some job) → OfDesk inst log (λ d. IsFirstBirth d.scene job)
    first_birth job h =
        of_desk v.commands jobs inst log stands (λ d. IsFirstBirth d.scene job)
        (record { due = birth_there job h.0; first = λ other b. h.1 other (birth_here other b) })

    pub no_birth : IsBearing v.commands v.manager.book None → OfDesk inst log (λ d. NoBirth d.scene)
    no_birth none = of_desk v.commands jobs inst log stands (λ d. NoBirth d.scene) (none_due none)

    pub born_legal : (job : ℕ) → IsBearing v.commands v.manager.book (Some job) → IsLegalMoment inst log (Born job)
    born_legal job h = of_desk v.commands jobs inst log stands (λ d. IsBirthDue d.scene job) (birth_there job h.0)

    -- the job whose child is born isn't ending
    pub not_ending : (job : ℕ) → IsBearing v.commands v.manager.book (Some job) → IsEnding jobs job → ⊥
    not_ending job h ending =
        let b = h.0 in
        let same = one_job jobs m.jobs.rising b.j ending.j b.known ending.known (b.named ∙ sym ending.named) in
        runs_on (sym b.runs ∙ ap (λ j. j.job.state) same ∙ ending.ends)

    -- ---- ends

    end_there : (job : ℕ) (shut : Bool) → is_end_due v job shut ≡ true → IsEndDue desk.scene (IsTrue shut) job
    end_there job shut e = at (job_at jobs job) refl
      where
        both : (option_map_or (λ j. shut || is_ending j) (job_at jobs job) false ≡ true) × (has_living_child (asked_of v.commands) job ≡ true)
        both = and_parts (option_map_or (λ j. shut || is_ending j) (job_at jobs job) false) _ e

        over : (j : StoredJob) → (shut || is_ending j) ≡ true → IsTrue shut ⊎ (j.job.state ≡ state.Cleanup)
        over j t = elim (over_either shut (is_ending j) t) [ inl s ↦ inl s | inr c ↦ inr (ends_so j.job.state c) ]

        at : (o : Option StoredJob) → job_at jobs job ≡ o → IsEndDue desk.scene (IsTrue shut) job
        at None f = absurd (true≢false (sym (ap (λ o. option_map_or (λ j. shut || is_ending j) o false) (sym f) ∙ both.0)))
        at (Some j) f =
            let there = found_job jobs job j f in
            record {
              j = j;
              known = contains_from jobs j there.0;
              named = there.1;
              lives = both.1;
              over = over j (ap (λ o. option_map_or (λ x. shut || is_ending x) o false) (sym f) ∙ both.0);
            }

    pub end_due : (job : ℕ) (shut : Bool) → is_end_due v job shut ≡ true → OfDesk inst log (λ d. IsEndDue d.scene (IsTrue shut) job)
    end_due job shut e = of_desk v.commands jobs inst log stands (λ d. IsEndDue d.scene (IsTrue shut) job) (end_there job shut e)

    lives_here : (other : Desk) → IsDeskOf inst log (newest_of v.manager.core) other → (job : ℕ) → has_living_child other.scene.asked job ≡ has_living_child (asked_of v.commands) job
    lives_here other is job =
        living_told other.scene.asked log (λ id living shut. let s = is.asked (asked.Child id living shut) in (s.0, s.1)) job
        ∙ sym (living_told (asked_of v.commands) log (children_stand v.commands inst log a.commands) job)

    so_over : (shut : Bool) (j : StoredJob) → IsTrue shut ⊎ (j.job.state ≡ state.Cleanup) → (shut || is_ending j) ≡ true
    so_over shut j (inl s) = or_left shut (is_ending j) s
    so_over shut j (inr c) = or_right shut (is_ending j) (so_ends j.job.state c)

    same_store : {A : Type 0} (x y : A) → Some x ≡ Some y → x ≡ y
    same_store x y e = cc

    pub due_end : (job : ℕ) (shut : Bool) → OfDesk inst log (λ d. IsEndDue d.scene (IsTrue shut) job) → is_end_due v job shut ≡ true
    due_end job shut o =
        let st = o.0 in
        let other = o.2.0 in
        let due = o.2.2 in
        let same = jobs_same v.commands jobs inst log stands st other o.1 o.2.1 in
        let one = same_store st (newest_of v.manager.core) (sym o.1 ∙ newest) in
        let lives = sym (lives_here other (subst (λ s. IsDeskOf inst log s other) one o.2.1) job) ∙ due.lives in
        let known = subst (λ l. Contains l due.j) same due.known in
        let there = known_at jobs m.jobs.rising job due.j known due.named in
        and_from (option_map_or (λ x. shut || is_ending x) (job_at jobs job) false) _ (ap (λ o. option_map_or (λ x. shut || is_ending x) o false) there ∙ so_over shut due.j due.over) lives

    pub end_told : (job : ℕ) (shut : Bool) → (IsTrue (is_end_due v job shut) → OfDesk inst log (λ d. IsEndDue d.scene (IsTrue shut) job)) × (OfDesk inst log (λ d. IsEndDue d.scene (IsTrue shut) job) → IsTrue (is_end_due v job shut))
    end_told job shut = (λ t. end_due job shut t, λ o. due_end job shut o)

    pub gone_legal : (job : ℕ) (shut : Bool) → is_end_due v job shut ≡ true → IsLegalMoment inst log (Gone job shut)
    gone_legal job shut e = end_due job shut e

    -- ---- grants

    granted : IsKept v.manager.book → (job : ℕ) (j : StoredJob) (r grant : Resources) → job_at jobs job ≡ Some j → j.r ≡ Some r → grant ≡ grant_from r → IsGrantedBy inst log job grant
    granted kept job j r grant f held given =
        let there = found_job jobs job j f in
        record {
          store = newest_of v.manager.core;
          standing = newest;
          jobs = jobs;
          are = m.jobs;
          j = j;
          known = contains_from jobs j there.0;
          is = there.1;
          r = r;
          held = held;
          some = held_hosts v.manager.book kept j r there.0 held;
          given = given;
        }

    pub granted_of : IsKept v.manager.book → (job : ℕ) (r grant : Resources) → r_at jobs job ≡ Some r → grant ≡ grant_from r → IsGrantedBy inst log job grant
    granted_of kept job r grant held given = at (job_at jobs job) refl
      where
        at : (o : Option StoredJob) → job_at jobs job ≡ o → IsGrantedBy inst log job grant
        at None f = absurd (let wrong : None ≡ Some r = sym (ap (option_and_then (λ k. k.r)) f) ∙ held in cc)
        at (Some j) f = granted kept job j r grant f (sym (ap (option_and_then (λ k. k.r)) f) ∙ held) given

-- where a job holds nothing, it isn't live
pub none_held : (jobs : List StoredJob) → IsStrictlyIncreasing (ids_of jobs) → Each (λ j. is_live j.job ≡ true → IsSome j.r) jobs → (job : ℕ) → r_at jobs job ≡ None → (j : StoredJob) → Contains jobs j → j.id ≡ job → is_live j.job ≡ false
none_held jobs rising served job none j c same =
    false_from_ne_true (is_live j.job) (λ live.
    let holds = each_at (λ k. is_live k.job ≡ true → IsSome k.r) jobs j served (among_from jobs j c) live in
    let empty : j.r ≡ None = sym (ap (option_and_then (λ k. k.r)) (known_at jobs rising job j c same)) ∙ none in
    true≢false (sym holds ∙ ap is_some empty))

pub none_held_by : (m : ManagerValue) → IsManaged m → (job : ℕ) → r_at m.book.jobs job ≡ None → (j : StoredJob) → Contains m.book.jobs j → j.id ≡ job → is_live j.job ≡ false
none_held_by m managed job none j c same =
    let s = managed.sound in
    let one = jobs_are_one (newest_of m.core) s.jobs m.book.jobs s.are managed.jobs in
    let sound = subst (IsSound m.book.grant.nodes) one s.sound in
    none_held m.book.jobs managed.jobs.rising (each_from (λ k. is_live k.job ≡ true → IsSome k.r) m.book.jobs (λ k i. (each_at (IsServed m.book.grant.nodes) m.book.jobs k sound.served i).has)) job none j c same

-- a job whose child is to be born holds its resources
pub bearing_holds : (v : JobServiceValue) → IsManaged v.manager → (job : ℕ) → IsBearing v.commands v.manager.book (Some job) → r_at v.manager.book.jobs job ≡ None → ⊥
bearing_holds v m job h none =
    let b = h.0 in
    true≢false (sym (running_is_live (newest_of v.manager.core) v.manager.book.jobs m.jobs b.j b.known b.runs) ∙ none_held_by v.manager m job none b.j b.known b.named)

-- the first birth, from what the book finds
pub bearing_of : (v : CommandsValue) (book : BookValue) (list : List Asked) (o : Option ℕ) → list ≡ all_children v.children → IfSome o (IsFirstIn book list) → IfNone o (NoneIn book list) → IsBearing v book o
bearing_of v book list (Some job) is some none = subst (λ l. IsFirstIn book l job) is some
bearing_of v book list None is some none = subst (NoneIn book) is none

-- what may go is to go, and no event of its job waits to land
pub may_parts : (v : JobServiceValue) (job : ℕ) (shut : Bool) → may_end v job shut ≡ true → (not (is_posted_for job v.manager.posted) ≡ true) × (is_end_due v job shut ≡ true)
may_parts v job shut e = and_parts (not (is_posted_for job v.manager.posted)) (is_end_due v job shut) e

-- a job whose child is to be born has a label
pub bearing_named : (v : CommandsValue) (book : BookValue) (job : ℕ) → IsBearing v book (Some job) → AreLabelled v.labels book.jobs → ((label : List ℕ) → job_named label v.labels ≢ Some job) → ⊥
bearing_named v book job h labelled none =
    let b = h.0 in
    let here : Contains (ids_of book.jobs) job = subst (Contains (ids_of book.jobs)) b.named (contains_from (ids_of book.jobs) b.j.id (among_mapped (λ j. j.id) book.jobs b.j (among_from book.jobs b.j b.known))) in
    let l = labelled job here in
    none l.0 l.1

-- ---- what may be there

pub some_unless : {A : Type 0} {P : Type 0} (o : Option A) → IfNone o P → (P → ⊥) → IsSome o
some_unless None h not_so = absurd (not_so h)
some_unless (Some x) h not_so = refl

pub some_found : {A : Type 0} {P : A → Type 0} (o : Option A) → ((x : A) → o ≡ Some x → P x) → IfSome o P
some_found None h = tt
some_found (Some x) h = h x refl

pub none_found : {A : Type 0} {P : Type 0} (o : Option A) → (o ≡ None → P) → IfNone o P
none_found None h = h refl
none_found (Some x) h = tt
