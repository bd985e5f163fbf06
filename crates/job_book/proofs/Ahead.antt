-- The next second at which something happens by itself, and the first job whose child is to be born.
use Rattle.std.proofs.Common.{◌≡◌, ℕ, suc, ◌+◌, ◌<◌, ◌≤◌, Bool, true, false, cond, not, List, [], ◌∷◌, ◌++◌, length, get_or, take, take-suc, Option, Some, None, refl, sym, ap, ◌∙◌, subst, arith, inl, inr, true≢false}
use Rattle.std.specs.Prelude.{◌&&◌, filter, find, flat_map, min, nat_lt, option_map, IfNone, IfSome, if◌then◌else◌}
use Rattle.std.specs.List.Sorted.{IsStrictlyIncreasing}
use Rattle.std.specs.Option.{option_map_or, option_to_list}
use Rattle.std.proofs.lemmas.Bool.{and_parts, cases_lt}
use Rattle.std.proofs.lemmas.List.{append_assoc, append-nil, flat_map_more}
use Rattle.std.proofs.lemmas.List.Elements.{filter-append}
use Rattle.job_deeds.proofs.graph_match_proofs.Holds.{RiseFrom, rise_of}
use Rattle.job_deeds.proofs.job_rules_proofs.Among.{Among, all_at, all_from, among_append, among_from, among_left, among_right, contains_from}
use Rattle.job_deeds.specs.job_states.Table.{is_state}
use Rattle.job_deeds.specs.job_states.declared.job.State.{State}
use Rattle.job_deeds.specs.job_states.declared.job.State.TheVariants as state
use Rattle.job_deeds.specs.shells.Endings.{ending_of}
use Rattle.job_deeds.specs.shells.declared.ends.Ending.{Ending}
use Rattle.job_deeds.specs.shells.declared.ends.Ending.TheVariants as ending
use Rattle.job_deeds.specs.manager_rules.declared.asked.Asked.{Asked}
use Rattle.job_deeds.specs.manager_rules.Jobs.{StoredJob, ids_of}
use Rattle.job_deeds.specs.manager_rules.Scene.{has_child}
use Rattle.job_deeds.specs.manager_rules.Times.{IsLeast, command_seconds, expiry_seconds, seconds_of}
use Rattle.job_book.specs.Contract.{BirthIn, IsFirstBirth, NoBirth}
use Rattle.job_book.specs.Seconds.{IsSoonest, begins_child, is_bearing, is_parent, sooner_of}
use Rattle.job_book.specs.Value.{BookValue}
use Rattle.job_deeds.proofs.Places.{rise_among}

-- ---- seconds

least_with : (numbers : List ℕ) (a b : ℕ) → IsLeast numbers a → IsLeast (numbers ++ b ∷ []) (min a b)
least_with numbers a b l = elim (cases_lt a b) [
  | inl low ↦
      let is : min a b ≡ a = omega (arith, low) in
      subst (IsLeast (numbers ++ b ∷ [])) (sym is) (record {
        one = contains_from (numbers ++ b ∷ []) a (among_left numbers (b ∷ []) a (among_from numbers a l.one));
        least = all_from (λ o. a ≤ o) (numbers ++ b ∷ []) (λ o i. elim (among_append numbers (b ∷ []) o i) [
          | inl old ↦ all_at (λ o. a ≤ o) numbers o l.least old
          | inr new ↦ elim new [ inl e ↦ omega (arith, low, e) | inr none ↦ absurd none ]
        ]);
      })
  | inr high ↦
      let is : min a b ≡ b = omega (arith, high) in
      subst (IsLeast (numbers ++ b ∷ [])) (sym is) (record {
        one = contains_from (numbers ++ b ∷ []) b (among_right numbers (b ∷ []) b (inl refl));
        least = all_from (λ o. b ≤ o) (numbers ++ b ∷ []) (λ o i. elim (among_append numbers (b ∷ []) o i) [
          | inl old ↦ let low : a ≤ o = all_at (λ o. a ≤ o) numbers o l.least old in omega (arith, high, low)
          | inr new ↦ elim new [ inl e ↦ omega (arith, e) | inr none ↦ absurd none ]
        ]);
      })
]

least_alone : (b : ℕ) → IsLeast (b ∷ []) b
least_alone b = record {
  one = contains_from (b ∷ []) b (inl refl);
  least = all_from (λ o. b ≤ o) (b ∷ []) (λ o i. elim i [ inl e ↦ omega (arith, e) | inr none ↦ absurd none ]);
}

no_more : (numbers : List ℕ) (next : Option ℕ) → IsSoonest numbers next → IsSoonest (numbers ++ []) next
no_more numbers next h = subst (λ ns. IsSoonest ns next) (sym (append-nil numbers)) h

soonest_with : (now : ℕ) (numbers : List ℕ) (next second : Option ℕ) → IsSoonest numbers next → IsSoonest (numbers ++ filter (λ s. nat_lt now s) (option_to_list second)) (sooner_of now next second)
soonest_with now numbers next None h = no_more numbers next h
soonest_with now numbers None (Some b) h = subst (λ ns. IsSoonest (ns ++ filter (λ s. nat_lt now s) (b ∷ [])) (if nat_lt now b then Some b else None)) (sym h) (by (nat_lt now b))
  where
    by : (t : Bool) → IsSoonest (cond t (b ∷ []) []) (if t then Some b else None)
    by true = least_alone b
    by false = refl
soonest_with now numbers (Some a) (Some b) h = by (nat_lt now b)
  where
    by : (t : Bool) → IsSoonest (numbers ++ cond t (b ∷ []) []) (if t then Some (min a b) else Some a)
    by true = least_with numbers a b h
    by false = no_more numbers (Some a) h

pub soonest_running : (now : ℕ) (numbers : List ℕ) (next c u : Option ℕ) (j : StoredJob) → is_state j.job.state state.Run ≡ true → option_to_list c ≡ command_seconds j → option_to_list u ≡ option_map_or expiry_seconds j.r []
    → IsSoonest numbers next → IsSoonest (numbers ++ filter (λ s. nat_lt now s) (seconds_of j)) (sooner_of now (sooner_of now next c) u)
soonest_running now numbers next c u j runs ec eu h =
    let both = soonest_with now (numbers ++ filter (λ s. nat_lt now s) (option_to_list c)) (sooner_of now next c) u (soonest_with now numbers next c h) in
    let apart : (numbers ++ filter (λ s. nat_lt now s) (option_to_list c)) ++ filter (λ s. nat_lt now s) (option_to_list u) ≡ numbers ++ filter (λ s. nat_lt now s) (option_to_list c ++ option_to_list u) =
    append_assoc numbers (filter (λ s. nat_lt now s) (option_to_list c)) (filter (λ s. nat_lt now s) (option_to_list u))
    ∙ ap (λ ns. numbers ++ ns) (sym (filter-append (λ s. nat_lt now s) (option_to_list c) (option_to_list u))) in
    let all : option_to_list c ++ option_to_list u ≡ seconds_of j =
    ap (λ ns. ns ++ option_to_list u) ec ∙ ap (λ ns. command_seconds j ++ ns) eu
    ∙ sym (ap (λ b. if b then command_seconds j ++ option_map_or expiry_seconds j.r [] else []) runs) in
    subst (λ ns. IsSoonest ns (sooner_of now (sooner_of now next c) u)) (apart ∙ ap (λ ns. numbers ++ filter (λ s. nat_lt now s) ns) all) both

pub soonest_idle : (now : ℕ) (numbers : List ℕ) (next : Option ℕ) (j : StoredJob) → is_state j.job.state state.Run ≡ false → IsSoonest numbers next → IsSoonest (numbers ++ filter (λ s. nat_lt now s) (seconds_of j)) next
soonest_idle now numbers next j idle h =
    subst (λ b. IsSoonest (numbers ++ filter (λ s. nat_lt now s) (if b then command_seconds j ++ option_map_or expiry_seconds j.r [] else [])) next) (sym idle) (no_more numbers next h)

pub seconds_more : (now i : ℕ) (jobs : List StoredJob) (d : StoredJob) → i < length jobs → filter (λ s. nat_lt now s) (flat_map seconds_of (take i jobs)) ++ filter (λ s. nat_lt now s) (seconds_of (get_or jobs i d)) ≡ filter (λ s. nat_lt now s) (flat_map seconds_of (take (i + 1) jobs))
seconds_more now i jobs d w =
    let n : suc i ≡ i + 1 = omega arith in
    sym (filter-append (λ s. nat_lt now s) (flat_map seconds_of (take i jobs)) (seconds_of (get_or jobs i d)))
    ∙ ap (filter (λ s. nat_lt now s)) (flat_map_more seconds_of [] (take i jobs) (get_or jobs i d) ∙ ap (flat_map seconds_of) (sym (take-suc jobs i d w) ∙ ap (λ k. take k jobs) n))

-- ---- births

found_first : (p : StoredJob → Bool) (n : ℕ) (jobs : List StoredJob) (j : StoredJob) → RiseFrom n (ids_of jobs) → find p jobs ≡ Some j → Among j jobs × (p j ≡ true) × ((k : StoredJob) → Among k jobs → p k ≡ true → j.id ≤ k.id)
found_first p n [] j r e = cc
found_first p n (x ∷ xs) j r e = by (p x) refl (λ f. found_first p (x.id + 1) xs j r.1 f) e
  where
    by : (b : Bool) → p x ≡ b → (find p xs ≡ Some j → Among j xs × (p j ≡ true) × ((k : StoredJob) → Among k xs → p k ≡ true → j.id ≤ k.id)) → cond b (Some x) (find p xs) ≡ Some j → Among j (x ∷ xs) × (p j ≡ true) × ((k : StoredJob) → Among k (x ∷ xs) → p k ≡ true → j.id ≤ k.id)
    by true t more e =
        let same : x ≡ j = cc in (
          inl same,
          ap p (sym same) ∙ t,
          λ k i q. elim i [
            | inl f ↦ omega (arith, ap (λ y. y.id) same, ap (λ y. y.id) f)
            | inr later ↦ omega (arith, ap (λ y. y.id) same, rise_among (x.id + 1) xs r.1 k later)
          ],
        )
    by false t more e =
        let m = more e in (
          inr m.0,
          m.1,
          λ k i q. elim i [
            | inl f ↦ absurd (true≢false (sym q ∙ ap p (sym f) ∙ t))
            | inr later ↦ m.2 k later q
          ],
        )

none_found : (p : StoredJob → Bool) (jobs : List StoredJob) → find p jobs ≡ None → (k : StoredJob) → Among k jobs → p k ≡ true → ⊥
none_found p [] e k i q = absurd i
none_found p (x ∷ xs) e k i q = by (p x) refl (λ f. none_found p xs f) e
  where
    by : (b : Bool) → p x ≡ b → (find p xs ≡ None → (k : StoredJob) → Among k xs → p k ≡ true → ⊥) → cond b (Some x) (find p xs) ≡ None → ⊥
    by true t more e = cc
    by false t more e = elim i [
      | inl f ↦ true≢false (sym q ∙ ap p (sym f) ∙ t)
      | inr later ↦ more e k later q
    ]

runs_in : (st : State) → is_state st state.Run ≡ true → st ≡ state.Run
runs_in state.New e = cc
runs_in state.Depend e = cc
runs_in state.Priority e = cc
runs_in state.Sched e = cc
runs_in state.Run e = refl
runs_in state.Cleanup e = cc
runs_in state.Inactive e = cc

is_childs : (x : Ending) → begins_child x ≡ true → x ≡ ending.Child
is_childs ending.Child e = refl
is_childs (ending.At second status) e = cc

begun : (j : StoredJob) → option_map_or (λ start. begins_child (ending_of j.spec start)) j.start false ≡ true → (start : ℕ) × (j.start ≡ Some start) × (ending_of j.spec start ≡ ending.Child)
begun j e = by j.start refl e
  where
    by : (o : Option ℕ) → j.start ≡ o → option_map_or (λ start. begins_child (ending_of j.spec start)) o false ≡ true → (start : ℕ) × (j.start ≡ Some start) × (ending_of j.spec start ≡ ending.Child)
    by None f e = cc
    by (Some start) f e = (start, f, is_childs (ending_of j.spec start) e)

none_of : (b : Bool) → not b ≡ true → b ≡ false
none_of true e = cc
none_of false e = refl

bears : (book : BookValue) (asked : List Asked) (j : StoredJob) → Among j book.jobs → is_bearing asked j ≡ true → BirthIn book asked j.id
bears book asked j i e =
    let parts = and_parts (is_parent j) (not (has_child asked j.id)) e in
    let a = and_parts (is_state j.job.state state.Run) (j.job.started && option_map_or (λ start. begins_child (ending_of j.spec start)) j.start false) parts.0 in
    let b = and_parts j.job.started (option_map_or (λ start. begins_child (ending_of j.spec start)) j.start false) a.1 in
    let start = begun j b.1 in
    record {
      j = j;
      known = contains_from book.jobs j i;
      named = refl;
      runs = runs_in j.job.state a.0;
      started = b.0;
      start = start.0;
      started_at = start.1;
      child = start.2;
      first = none_of (has_child asked j.id) parts.1;
    }

bearing : (book : BookValue) (asked : List Asked) (id : ℕ) → (b : BirthIn book asked id) → is_bearing asked b.j ≡ true
bearing book asked id b =
    let first : has_child asked b.j.id ≡ false = ap (has_child asked) b.named ∙ b.first in
    rw (b.runs, b.started, b.started_at, b.child, first) refl

birth_some : (book : BookValue) (asked : List Asked) (j : StoredJob) → IsStrictlyIncreasing (ids_of book.jobs) → find (is_bearing asked) book.jobs ≡ Some j → IsFirstBirth book asked j.id
birth_some book asked j rising e =
    let hit = found_first (is_bearing asked) 0 book.jobs j (rise_of 0 (ids_of book.jobs) (λ w. omega arith) rising) e in (
      bears book asked j hit.0 hit.1,
      λ other b. subst (λ n. j.id ≤ n) b.named (hit.2 b.j (among_from book.jobs b.j b.known) (bearing book asked other b)),
    )

birth_none : (book : BookValue) (asked : List Asked) → find (is_bearing asked) book.jobs ≡ None → NoBirth book asked
birth_none book asked e id b = none_found (is_bearing asked) book.jobs e b.j (among_from book.jobs b.j b.known) (bearing book asked id b)

-- ---- as options

first_birth : (book : BookValue) (asked : List Asked) (id : ℕ) → IsStrictlyIncreasing (ids_of book.jobs) → Some id ≡ option_map (λ j. j.id) (find (is_bearing asked) book.jobs) → IsFirstBirth book asked id
first_birth book asked id rising e = by (find (is_bearing asked) book.jobs) refl e
  where
    by : (o : Option StoredJob) → find (is_bearing asked) book.jobs ≡ o → Some id ≡ option_map (λ j. j.id) o → IsFirstBirth book asked id
    by None f e = cc
    by (Some j) f e = let same : j.id ≡ id = cc in subst (IsFirstBirth book asked) same (birth_some book asked j rising f)

no_birth : (book : BookValue) (asked : List Asked) → None ≡ option_map (λ j. j.id) (find (is_bearing asked) book.jobs) → NoBirth book asked
no_birth book asked e = by (find (is_bearing asked) book.jobs) refl e
  where
    by : (o : Option StoredJob) → find (is_bearing asked) book.jobs ≡ o → (let none : Option ℕ = None in none ≡ option_map (λ j. j.id) o) → NoBirth book asked
    by None f e = birth_none book asked f
    by (Some j) f e = cc

pub some_birth : (book : BookValue) (asked : List Asked) (o : Option ℕ) → IsStrictlyIncreasing (ids_of book.jobs) → o ≡ option_map (λ j. j.id) (find (is_bearing asked) book.jobs) → IfSome o (IsFirstBirth book asked)
some_birth book asked None rising e = tt
some_birth book asked (Some id) rising e = first_birth book asked id rising e

pub none_birth : (book : BookValue) (asked : List Asked) (o : Option ℕ) → o ≡ option_map (λ j. j.id) (find (is_bearing asked) book.jobs) → IfNone o (NoBirth book asked)
none_birth book asked None e = no_birth book asked e
none_birth book asked (Some id) e = tt
