-- What an instance of a run is given keeps to its limits.
use Rattle.std.proofs.Common.{◌≡◌, ℕ, zero, suc, ◌+◌, ◌<◌, ◌≤◌, ◌==◌, ◌^◌, inl, inr, List, [], ◌∷◌, ◌++◌, length, Bool, true, false, cond, Option, Some, None, filter_map, map, count_by, sum_by, All, refl, sym, ap, ap₂, ◌∙◌, subst, arith, true≢false, mod-lt}
use Rattle.std.specs.Prelude.{IfSome, filter, is_none, is_some, slice_get, slice_index_or, if◌then◌else◌}
use Rattle.std.specs.Option.{option_and_then}
use Rattle.std.specs.List.{cons_option, list_any}
use Rattle.std.proofs.lemmas.Bool.{eqb-true, false_from_ne_true, or_cases, or_left, or_right}
use Rattle.std.proofs.lemmas.List.Elements.{All-filter, All-map, All-weaker}
use Rattle.std.proofs.lemmas.List.Sums.{sum_by-cons}
use Rattle.kvs_txn.specs.declared.txn.By.{By}
use Rattle.job_rules.specs.Fits.{IsGrant}
use Rattle.job_rules.proofs.Among.{Among, all_at}
use Rattle.resource_set.specs.Writing.{r_text}
use Rattle.instance_rules.specs.Log as rules
use Rattle.instance_rules.specs.Log.{IsInRange, IsInstance}
use Rattle.workload.specs.Actors.{are_together, home_of}
use Rattle.workload.specs.Laws.{HasOwnLabels, IsBuilt, IsWithin, KeepsTallies}
use Rattle.workload.specs.Limits.{most_actors, most_severity, most_urgency}
use Rattle.workload.specs.Tallies.{begins, declares, is_declared, posts_on, seconds_of, submits}
use Rattle.workload.specs.Actors.{is_in_place}
use Rattle.workload.specs.declared.work.Actor.{Actor}
use Rattle.workload.specs.declared.work.Command.{Command}
use Rattle.workload.specs.declared.work.Command.TheVariants as command
use Rattle.workload.specs.declared.work.Line.{Line}
use Rattle.workload.specs.declared.work.Workload.{Workload}
use Rattle.answers.specs.Chronicle.{Setup}
use Rattle.answers.specs.Commands.{command_at}
use Rattle.answers.specs.Jobs.{instance_of, job_ask_at, job_ask_of}
use Rattle.answers.proofs.JobLogs.{is_instance}
use Rattle.hierarchy.specs.Births.{Birth, is_at}
use Rattle.hierarchy.specs.Own.{brokers_for, child_setup, most_brokers, placed, work_for}
use Rattle.hierarchy.proofs.Numbering.{mapped_length}
use Rattle.hierarchy.proofs.Steps.{lines_of}

-- ---- on lists

module _ {A : Type 0} (p : A → Bool) where
  fewer : (xs : List A) → length (filter p xs) ≤ length xs
  fewer [] = omega arith
  fewer (x ∷ xs) = by (p x) (fewer xs)
    where
      by : (b : Bool) → length (filter p xs) ≤ length xs → length (cond b (x ∷ filter p xs) (filter p xs)) ≤ length (x ∷ xs)
      by true low = omega arith
      by false low = omega arith

  sum_fewer : (f : A → ℕ) (xs : List A) → sum_by f (filter p xs) ≤ sum_by f xs
  sum_fewer f [] = omega arith
  sum_fewer f (x ∷ xs) = by (p x) (sum_fewer f xs)
    where
      by : (b : Bool) → sum_by f (filter p xs) ≤ sum_by f xs → sum_by f (cond b (x ∷ filter p xs) (filter p xs)) ≤ sum_by f (x ∷ xs)
      by true low = let a = sum_by-cons f x xs in let b = sum_by-cons f x (filter p xs) in omega arith
      by false low = let a = sum_by-cons f x xs in omega arith

  any_fewer : (q : A → Bool) (xs : List A) → list_any q (filter p xs) ≡ true → list_any q xs ≡ true
  any_fewer q [] h = h
  any_fewer q (x ∷ xs) h = by (p x) h (any_fewer q xs)
    where
      by : (b : Bool) → list_any q (cond b (x ∷ filter p xs) (filter p xs)) ≡ true → (list_any q (filter p xs) ≡ true → list_any q xs ≡ true) → list_any q (x ∷ xs) ≡ true
      by true g again = elim (or_cases (q x) (list_any q (filter p xs)) g) [
        | inl here ↦ or_left (q x) (list_any q xs) here
        | inr more ↦ or_right (q x) (list_any q xs) (again more)
      ]
      by false g again = or_right (q x) (list_any q xs) (again g)

  -- a part of the kept ones is what is kept of a part of all
  record Cut (xs before : List A) (y : A) : Type 0 where
    front : List A
    back : List A
    whole : xs ≡ front ++ y ∷ back
    kept : filter p front ≡ before

  cut_kept : (xs before : List A) (y : A) (after : List A) → filter p xs ≡ before ++ y ∷ after → Cut xs before y
  cut_kept [] [] y after e = cc
  cut_kept [] (b ∷ before) y after e = cc
  cut_kept (x ∷ xs) before y after e = by (p x) refl before e (λ b h. cut_kept xs b y after h)
    where
      by : (t : Bool) → p x ≡ t → (before : List A) → cond t (x ∷ filter p xs) (filter p xs) ≡ before ++ y ∷ after
          → ((b : List A) → filter p xs ≡ b ++ y ∷ after → Cut xs b y) → Cut (x ∷ xs) before y
      by true is [] e again = let same : x ≡ y = cc in record { front = []; back = xs; whole = ap (λ z. z ∷ xs) same; kept = refl }
      by true is (b ∷ before) e again =
          let same : x ≡ b = cc in
          let more = again before (let rest : filter p xs ≡ before ++ y ∷ after = cc in rest) in
          record {
            front = x ∷ more.front;
            back = more.back;
            whole = ap (λ l. x ∷ l) more.whole;
            kept = ap (λ t. cond t (x ∷ filter p more.front) (filter p more.front)) is ∙ ap₂ (λ z l. z ∷ l) same more.kept;
          }
      by false is before e again =
          let more = again before e in
          record {
            front = x ∷ more.front;
            back = more.back;
            whole = ap (λ l. x ∷ l) more.whole;
            kept = ap (λ t. cond t (x ∷ filter p more.front) (filter p more.front)) is ∙ more.kept;
          }

-- ---- actors at their places

home_placed : (size : ℕ) (xs : List Actor) (n : ℕ) → home_of (map (placed size) xs) n ≡ home_of xs n
home_placed size [] n = refl
home_placed size (a ∷ xs) zero = refl
home_placed size (a ∷ xs) (suc n) = home_placed size xs n

in_place : (size : ℕ) (xs : List Actor) (by : ℕ) (c : Command) → is_in_place (map (placed size) xs) by c ≡ is_in_place xs by c
in_place size xs by (command.Tell actor) = ap₂ are_together (home_placed size xs by) (home_placed size xs actor)
in_place size xs by command.Look = ap is_none (home_placed size xs by)
in_place size xs by command.Shutdown = ap is_some (home_placed size xs by)
in_place size xs by _ = refl

module _ (work : Workload) (label : Option (List ℕ)) (size : ℕ) where
  abbrev keeps : Line → Bool
  keeps line = is_at work.actors label line.actor

  pub within : (all : ℕ) → 1 ≤ size → IsWithin all work → IsWithin size (work_for work label size)
  within all some h = record {
    actors = (let n = mapped_length (placed size) work.actors in let few = h.actors in omega arith);
    lines = (let low = fewer keeps work.lines in let few = h.lines in omega arith);
    ranks = All-map (λ a. (a.of ≡ None) → a.rank < size) (placed size) work.actors (λ k d low top. mod-lt (slice_index_or work.actors k d).rank (let pos : zero < size = omega arith in pos));
    known = All-filter keeps (λ l. l.actor < length (map (placed size) work.actors)) work.lines
        (subst (λ n. All (λ l. l.actor < n) work.lines) (sym (mapped_length (placed size) work.actors)) h.known);
    placed = All-filter keeps (λ l. is_in_place (map (placed size) work.actors) l.actor l.command ≡ true) work.lines
        (All-weaker (λ l. is_in_place work.actors l.actor l.command ≡ true) (λ l. is_in_place (map (placed size) work.actors) l.actor l.command ≡ true)
        (λ l is. in_place size work.actors l.actor l.command ∙ is) work.lines h.placed);
    granted = h.granted;
  }

  pub built : All (λ l. IsBuilt l.command) work.lines → All (λ l. IsBuilt l.command) (work_for work label size).lines
  built h = All-filter keeps (λ l. IsBuilt l.command) work.lines h

  pub own_labels : HasOwnLabels work.lines → HasOwnLabels (work_for work label size).lines
  own_labels h before line after name split declared =
      let cut = cut_kept keeps work.lines before line after split in
      false_from_ne_true (is_declared name before) (λ there.
      true≢false (sym (any_fewer keeps (λ l. declares name l.command) cut.front (ap (is_declared name) cut.kept ∙ there)) ∙ h cut.front line cut.back name cut.whole declared))

  pub tallies : KeepsTallies work.lines → KeepsTallies (work_for work label size).lines
  tallies h = record {
    submits = (let low = sum_fewer keeps (λ l. cond (submits l.command) 1 0) work.lines in let few = h.submits in omega arith);
    instances = (let low = sum_fewer keeps (λ l. cond (begins l.command) 1 0) work.lines in let few = h.instances in omega arith);
    seconds = (let low = sum_fewer keeps (λ l. seconds_of l.command) work.lines in let few = h.seconds in omega arith);
    posts = λ name. (let low = sum_fewer keeps (λ l. cond (posts_on name l.command) 1 0) work.lines in let few = h.posts name in omega arith);
  }

-- ---- the lines of one actor

module _ (passes : ℕ → Bool) (actor : ℕ) where
  counted : passes actor ≡ true → (lines : List Line) → count_by (λ line. line.actor == actor) (filter (λ line. passes line.actor) lines) ≡ count_by (λ line. line.actor == actor) lines
  counted h [] = refl
  counted h (line ∷ lines) = by (passes line.actor) refl (counted h lines)
    where
      other : passes line.actor ≡ false → (line.actor == actor) ≡ false
      other out = false_from_ne_true (line.actor == actor) (λ t. true≢false (sym h ∙ ap passes (sym (eqb-true line.actor actor t)) ∙ out))

      by : (b : Bool) → passes line.actor ≡ b → count_by (λ line. line.actor == actor) (filter (λ line. passes line.actor) lines) ≡ count_by (λ line. line.actor == actor) lines
          → count_by (λ line. line.actor == actor) (cond b (line ∷ filter (λ line. passes line.actor) lines) (filter (λ line. passes line.actor) lines)) ≡ count_by (λ line. line.actor == actor) (line ∷ lines)
      by true is again =
          sum_by-cons (λ (l : Line). cond (l.actor == actor) 1 0) line (filter (λ line. passes line.actor) lines)
          ∙ ap (λ n. cond (line.actor == actor) 1 0 + n) again ∙ sym (sum_by-cons (λ (l : Line). cond (l.actor == actor) 1 0) line lines)
      by false is again =
          let none : cond (line.actor == actor) 1 0 ≡ 0 = ap (λ b. cond b 1 0) (other is) in
          let more = sum_by-cons (λ (l : Line). cond (l.actor == actor) 1 0) line lines in
          again ∙ sym (more ∙ ap (λ n. n + count_by (λ line. line.actor == actor) lines) none ∙ (omega arith))

  uncounted : passes actor ≡ false → (lines : List Line) → count_by (λ line. line.actor == actor) (filter (λ line. passes line.actor) lines) ≡ 0
  uncounted h [] = refl
  uncounted h (line ∷ lines) = by (passes line.actor) refl (uncounted h lines)
    where
      other : passes line.actor ≡ true → (line.actor == actor) ≡ false
      other there = false_from_ne_true (line.actor == actor) (λ t. true≢false (sym there ∙ ap passes (eqb-true line.actor actor t) ∙ h))

      by : (b : Bool) → passes line.actor ≡ b → count_by (λ line. line.actor == actor) (filter (λ line. passes line.actor) lines) ≡ 0
          → count_by (λ line. line.actor == actor) (cond b (line ∷ filter (λ line. passes line.actor) lines) (filter (λ line. passes line.actor) lines)) ≡ 0
      by true is again =
          sum_by-cons (λ (l : Line). cond (l.actor == actor) 1 0) line (filter (λ line. passes line.actor) lines)
          ∙ ap₂ (λ b n. cond b 1 0 + n) (other is) again
      by false is again = again

  none_of : passes actor ≡ false → (lines : List Line) → filter_map (λ line. if line.actor == actor then Some line.command else None) (filter (λ line. passes line.actor) lines) ≡ []
  none_of h [] = refl
  none_of h (line ∷ lines) = by (passes line.actor) refl (none_of h lines)
    where
      other : passes line.actor ≡ true → (line.actor == actor) ≡ false
      other there = false_from_ne_true (line.actor == actor) (λ t. true≢false (sym there ∙ ap passes (eqb-true line.actor actor t) ∙ h))

      by : (b : Bool) → passes line.actor ≡ b → filter_map (λ line. if line.actor == actor then Some line.command else None) (filter (λ line. passes line.actor) lines) ≡ []
          → filter_map (λ line. if line.actor == actor then Some line.command else None) (cond b (line ∷ filter (λ line. passes line.actor) lines) (filter (λ line. passes line.actor) lines)) ≡ []
      by true is again = ap₂ (λ t l. cons_option (if t then Some line.command else None) l) (other is) again
      by false is again = again

module _ (work : Workload) (label : Option (List ℕ)) (size : ℕ) where
  pub own_lines : (actor : ℕ) → is_at work.actors label actor ≡ true → count_by (λ line. line.actor == actor) (work_for work label size).lines ≡ count_by (λ line. line.actor == actor) work.lines
  own_lines actor h = counted (is_at work.actors label) actor h work.lines

  pub no_lines : (actor : ℕ) → is_at work.actors label actor ≡ false → count_by (λ line. line.actor == actor) (work_for work label size).lines ≡ 0
  no_lines actor h = uncounted (is_at work.actors label) actor h work.lines

  pub own_commands : (by : By) → is_at work.actors label by.actor ≡ true → command_at (work_for work label size) by ≡ command_at work by
  own_commands by h = ap (λ commands. slice_get commands by.command) (lines_of (is_at work.actors label) by.actor h work.lines)

  pub no_commands : (by : By) → is_at work.actors label by.actor ≡ false → command_at (work_for work label size) by ≡ None
  no_commands by h = ap (λ commands. slice_get commands by.command) (none_of (is_at work.actors label) by.actor h work.lines)

-- ---- instances

-- a command stands in a line of its actor
record StandsIn (lines : List Line) (actor : ℕ) (c : Command) : Type 0 where
  line : Line
  there : Among line lines
  own : line.actor ≡ actor
  is : line.command ≡ c

stands : (lines : List Line) (actor number : ℕ) (c : Command) → slice_get (filter_map (λ line. if line.actor == actor then Some line.command else None) lines) number ≡ Some c → StandsIn lines actor c
stands [] actor number c e = cc
stands (l ∷ lines) actor number c e = by (l.actor == actor) refl number e (λ k h. stands lines actor k c h)
  where
    further : StandsIn lines actor c → StandsIn (l ∷ lines) actor c
    further s = record { line = s.line; there = inr s.there; own = s.own; is = s.is }

    by : (b : Bool) → (l.actor == actor) ≡ b → (k : ℕ)
        → slice_get (cons_option (if b then Some l.command else None) (filter_map (λ line. if line.actor == actor then Some line.command else None) lines)) k ≡ Some c
        → ((k : ℕ) → slice_get (filter_map (λ line. if line.actor == actor then Some line.command else None) lines) k ≡ Some c → StandsIn lines actor c) → StandsIn (l ∷ lines) actor c
    by true is zero e again = record { line = l; there = inl refl; own = eqb-true l.actor actor is; is = (let same : l.command ≡ c = cc in same) }
    by true is (suc k) e again = further (again k e)
    by false is k e again = further (again k e)

in_range : (c : Command) → IsBuilt c → IfSome (job_ask_of c) IsInRange
in_range (command.Submit label urgency depends spec) h = let high : urgency ≤ most_urgency = h in omega arith
in_range (command.Raise label kind severity note) h = let high : severity ≤ most_severity = h.0 in (omega arith, h.1, h.2)
in_range (command.Urgency label urgency) h = let high : urgency ≤ most_urgency = h in omega arith
in_range _ h = tt

module _ (s : Setup) (within : IsWithin s.size s.work) (built : All (λ l. IsBuilt l.command) s.work.lines) where
  asked : (by : By) (ask : rules.JobAsk) → job_ask_at s.work by ≡ Some ask → (by.actor < 2 ^ 32) × IsInRange ask
  asked by ask e = on (command_at s.work by) refl e
    where
      on : (o : Option Command) → command_at s.work by ≡ o → option_and_then job_ask_of o ≡ Some ask → (by.actor < 2 ^ 32) × IsInRange ask
      on None is h = cc
      on (Some c) is h =
          let st = stands s.work.lines by.actor by.command c is in
          let known : st.line.actor < length s.work.actors = all_at (λ l. l.actor < length s.work.actors) s.work.lines st.line within.known st.there in
          let sound : IsBuilt st.line.command = all_at (λ l. IsBuilt l.command) s.work.lines st.line built st.there in
          let own : st.line.actor ≡ by.actor = st.own in
          let few : length s.work.actors ≤ most_actors = within.actors in
          (omega arith, subst (λ o. IfSome o IsInRange) h (in_range c (subst IsBuilt st.is sound)))

  given_instance : s.base ≡ None → s.grant ≡ r_text s.resources → IsGrant s.resources.nodes → IsInstance (instance_of s)
  given_instance anew text grant = is_instance s (record { anew = anew; text = text; grant = grant; asks = asked })

pub enough_brokers : (b : Birth) → 1 ≤ length b.grant.nodes → (1 ≤ brokers_for b) × (brokers_for b ≤ most_brokers)
enough_brokers b h = (omega arith, omega arith)

pub child_instance : (set : Setup) (b : Birth) → IsWithin set.size set.work → All (λ l. IsBuilt l.command) set.work.lines → 1 ≤ length b.grant.nodes → IsGrant b.grant.nodes → IsInstance (instance_of (child_setup set b))
child_instance set b h bs some grant =
    given_instance (child_setup set b) (within set.work (Some b.label) (brokers_for b) set.size (enough_brokers b some).0 h) (built set.work (Some b.label) (brokers_for b) bs) refl refl grant

pub top_instance : (set : Setup) → IsWithin set.size set.work → All (λ l. IsBuilt l.command) set.work.lines → 1 ≤ set.size → IsGrant set.resources.nodes → set.base ≡ None → set.grant ≡ r_text set.resources
    → IsInstance (instance_of (record set { work = work_for set.work None set.size }))
top_instance set h bs some grant anew text =
    given_instance (record set { work = work_for set.work None set.size }) (within set.work None set.size set.size some h) (built set.work None set.size bs) anew text grant
