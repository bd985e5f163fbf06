-- The commands that a run issues are lines of its workload, each once, also those of some actors alone.
use Rattle.std.proofs.Common.{◌≡◌, ℕ, ◌+◌, ◌≤◌, ◌==◌, ◌&&◌, List, [], ◌∷◌, ◌++◌, Bool, true, false, cond, ◌||◌, Option, Some, None, count_by, filter_map, refl, sym, ap, ap₂, ◌∙◌, subst, arith, true≢false}
use Rattle.std.specs.Prelude.{IfSome, IsSome, filter, slice_get}
use Rattle.std.specs.List.{cons_option, list_any, sum_by}
use Rattle.std.specs.Option.{option_map_or}
use Rattle.std.proofs.lemmas.Bool.{eqb-true}
use Rattle.std.proofs.lemmas.List.Elements.{filter_map-append}
use Rattle.std.proofs.lemmas.List.Sums.{sum_by-cons}
use Rattle.kvs_txn.specs.declared.txn.By.{By}
use Rattle.kvs_model.specs.Store.{Name}
use Rattle.kvs_rules.specs.Log as service
use Rattle.kvs_rules.specs.Sequence.{EachAfter}
use Rattle.kvs_rules.proofs.Sequences.{each_along}
use Rattle.workload.specs.Tallies.{seconds_in, seconds_of}
use Rattle.workload.specs.declared.work.Line.{Line}
use Rattle.workload.specs.declared.work.Workload.{Workload}
use Rattle.answers.specs.Chronicle.{Setup, is_replied, issues_of, replies_to, top}
use Rattle.answers.specs.Commands.{command_at}
use Rattle.answers.specs.Legal.{IsLegal, IsLegalEntry, IsLegalIssue}
use Rattle.answers.specs.Services.{asked_at, moments_after}
use Rattle.answers.specs.Whole.{has_ended}
use Rattle.answers.specs.declared.chronicle.Entry.{Entry}
use Rattle.answers.specs.declared.chronicle.Entry.TheVariants as entry
use Rattle.answers.specs.declared.chronicle.Reply.TheVariants as reply
use Rattle.run_laws.specs.Times.{seconds_by, seconds_issued}
use Rattle.run_laws.proofs.Lines.{issued_within}
use Rattle.hierarchy.specs.Legal.{IsLegalRun, IsLegalRunEntry}
use Rattle.hierarchy.proofs.OneEntry.{legal_more}
use Rattle.hierarchy.proofs.Steps.{lines_of}

-- what some actors do in the run, as one instance would have it that carries nothing out
abbrev kept_if : Bool → Entry → Option Entry
kept_if b e = cond b (Some e) None

abbrev done_by : (ℕ → Bool) → Entry → Option Entry
done_by passes (entry.Issued actor command) = kept_if (passes actor) (entry.Issued actor command)
done_by passes (entry.Replied actor command given number) = kept_if (passes actor) (entry.Replied actor command reply.NotReached None)
done_by passes _ = None

abbrev as_one : (ℕ → Bool) → List Entry → List Entry
as_one passes c = filter_map (done_by passes) c

-- the run's lines of these actors alone
abbrev lines_by : (ℕ → Bool) → Setup → Setup
lines_by passes set = let work : Workload = record set.work { lines = filter (λ line. passes line.actor) set.work.lines } in record set { work = work }

-- the seconds that the issues of these actors let pass
abbrev pub seconds_for : (ℕ → Bool) → Workload → Entry → ℕ
seconds_for passes work (entry.Issued actor command) = cond (passes actor) (seconds_by work (entry.Issued actor command)) 0
seconds_for passes work _ = 0

module _ (set : Setup) (passes : ℕ → Bool) where
  one : Setup
  one = lines_by passes set

  pushed : (c : List Entry) (e : Entry) → as_one passes (c ++ e ∷ []) ≡ as_one passes c ++ cons_option (done_by passes e) []
  pushed c e = filter_map-append (done_by passes) c (e ∷ [])

  ends_not : (c : List Entry) → has_ended (as_one passes c) ≡ false
  ends_not [] = refl
  ends_not (entry.Issued actor command ∷ c) = by (passes actor) (ends_not c)
    where
      by : (b : Bool) → has_ended (as_one passes c) ≡ false → has_ended (cons_option (kept_if b (entry.Issued actor command)) (as_one passes c)) ≡ false
      by true h = h
      by false h = h
  ends_not (entry.Replied actor command given number ∷ c) = by (passes actor) (ends_not c)
    where
      by : (b : Bool) → has_ended (as_one passes c) ≡ false → has_ended (cons_option (kept_if b (entry.Replied actor command reply.NotReached None)) (as_one passes c)) ≡ false
      by true h = h
      by false h = h
  ends_not (_ ∷ c) = ends_not c

  -- neither a landing nor a denial stands there
  none_carried : (test : service.Moment → Bool) → ((by : By) (floors : Name → ℕ) → test (service.Asked by floors) ≡ false) → (work : Workload) (c base : List Entry) → list_any test (moments_after work top base (as_one passes c)) ≡ false
  none_carried test asked work [] base = refl
  none_carried test asked work (entry.Issued actor command ∷ c) base = by (passes actor) (none_carried test asked work c (base ++ entry.Issued actor command ∷ [])) (none_carried test asked work c base)
    where
      at : (b : Bool) (m : service.Moment) (more : List service.Moment) → test m ≡ false → list_any test more ≡ false → list_any test (cons_option (cond b (Some m) None) more) ≡ false
      at true m more h g = ap₂ (λ a b. a || b) h g
      at false m more h g = g

      by : (b : Bool) → list_any test (moments_after work top (base ++ entry.Issued actor command ∷ []) (as_one passes c)) ≡ false → list_any test (moments_after work top base (as_one passes c)) ≡ false
          → list_any test (moments_after work top base (cons_option (kept_if b (entry.Issued actor command)) (as_one passes c))) ≡ false
      by true behind here = at _ (asked_at work base (record { actor = actor; command = command })) (moments_after work top (base ++ entry.Issued actor command ∷ []) (as_one passes c)) (asked _ _) behind
      by false behind here = here
  none_carried test asked work (entry.Replied actor command given number ∷ c) base = by (passes actor) (none_carried test asked work c (base ++ entry.Replied actor command reply.NotReached None ∷ [])) (none_carried test asked work c base)
    where
      by : (b : Bool) → list_any test (moments_after work top (base ++ entry.Replied actor command reply.NotReached None ∷ []) (as_one passes c)) ≡ false → list_any test (moments_after work top base (as_one passes c)) ≡ false
          → list_any test (moments_after work top base (cons_option (kept_if b (entry.Replied actor command reply.NotReached None)) (as_one passes c))) ≡ false
      by true behind here = behind
      by false behind here = here
  none_carried test asked work (_ ∷ c) base = none_carried test asked work c base

  module _ (actor : ℕ) (here : passes actor ≡ true) where
    -- an actor that passes is no other one
    differs : (a : ℕ) → passes a ≡ false → (actor == a) ≡ false
    differs a none = by (actor == a) refl
      where
        by : (b : Bool) → (actor == a) ≡ b → b ≡ false
        by false is = refl
        by true is = absurd (true≢false (sym here ∙ ap passes (eqb-true actor a is) ∙ none))

    module _ (c : List Entry) (rest : count_by (issues_of actor) (as_one passes c) ≡ count_by (issues_of actor) c) where
      issued_counted : (b : Bool) (a command : ℕ) → passes a ≡ b → count_by (issues_of actor) (cons_option (kept_if b (entry.Issued a command)) (as_one passes c)) ≡ cond (actor == a) 1 0 + count_by (issues_of actor) c
      issued_counted true a command is = sum_by-cons (λ x. cond (issues_of actor x) 1 0) (entry.Issued a command) (as_one passes c) ∙ ap (λ n. cond (actor == a) 1 0 + n) rest
      issued_counted false a command is = let other = differs a is in rw other (omega (arith, rest))

      replied_counted : (b : Bool) (a command : ℕ) → count_by (issues_of actor) (cons_option (kept_if b (entry.Replied a command reply.NotReached None)) (as_one passes c)) ≡ 0 + count_by (issues_of actor) c
      replied_counted true a command = sum_by-cons (λ x. cond (issues_of actor x) 1 0) (entry.Replied a command reply.NotReached None) (as_one passes c) ∙ ap (λ n. 0 + n) rest
      replied_counted false a command = omega (arith, rest)

      entry_counted : (e : Entry) → count_by (issues_of actor) (cons_option (done_by passes e) (as_one passes c)) ≡ cond (issues_of actor e) 1 0 + count_by (issues_of actor) c
      entry_counted (entry.Issued a command) = issued_counted (passes a) a command refl
      entry_counted (entry.Replied a command given number) = replied_counted (passes a) a command
      entry_counted _ = omega (arith, rest)

    counted : (c : List Entry) → count_by (issues_of actor) (as_one passes c) ≡ count_by (issues_of actor) c
    counted [] = refl
    counted (e ∷ c) = entry_counted c (counted c) e ∙ sym (sum_by-cons (λ x. cond (issues_of actor x) 1 0) e c)

    replied_so : (k : ℕ) (c : List Entry) → is_replied (record { actor = actor; command = k }) (as_one passes c) ≡ is_replied (record { actor = actor; command = k }) c
    replied_so k [] = refl
    replied_so k (entry.Issued a command ∷ c) = by (passes a) (replied_so k c)
      where
        by : (b : Bool) → is_replied (record { actor = actor; command = k }) (as_one passes c) ≡ is_replied (record { actor = actor; command = k }) c
            → is_replied (record { actor = actor; command = k }) (cons_option (kept_if b (entry.Issued a command)) (as_one passes c)) ≡ is_replied (record { actor = actor; command = k }) c
        by true h = h
        by false h = h
    replied_so k (entry.Replied a command given number ∷ c) = by (passes a) refl (replied_so k c)
      where
        by : (b : Bool) → passes a ≡ b → is_replied (record { actor = actor; command = k }) (as_one passes c) ≡ is_replied (record { actor = actor; command = k }) c
            → is_replied (record { actor = actor; command = k }) (cons_option (kept_if b (entry.Replied a command reply.NotReached None)) (as_one passes c))
            ≡ (replies_to (record { actor = actor; command = k }) (entry.Replied a command given number) || is_replied (record { actor = actor; command = k }) c)
        by true is h = ap (λ b. replies_to (record { actor = actor; command = k }) (entry.Replied a command given number) || b) h
        by false is h = h ∙ ap (λ b. (b && (k == command)) || is_replied (record { actor = actor; command = k }) c) (sym (differs a is))
    replied_so k (_ ∷ c) = replied_so k c

    named_so : (k : ℕ) → command_at one.work (record { actor = actor; command = k }) ≡ command_at set.work (record { actor = actor; command = k })
    unfolding one
    named_so k = ap (λ commands. slice_get commands k) (lines_of passes actor here set.work.lines)

    issue_so : (c : List Entry) (command : ℕ) → IsLegalIssue set c (record { actor = actor; command = command }) → IsLegalIssue one (as_one passes c) (record { actor = actor; command = command })
    issue_so c command l = record {
      exists = subst IsSome (sym (named_so command)) l.exists;
      next = l.next ∙ sym (counted c);
      replied = λ earlier low. replied_so earlier c ∙ l.replied earlier low;
    }

  -- each of these entries may follow in the one instance
  entry_so : (c : List Entry) (e : Entry) → IsLegalRunEntry set c e → IfSome (done_by passes e) (IsLegalEntry one (as_one passes c))
  entry_so c (entry.Issued actor command) l = by (passes actor) refl
    where
      by : (b : Bool) → passes actor ≡ b → IfSome (kept_if b (entry.Issued actor command)) (IsLegalEntry one (as_one passes c))
      by true is = record { goes_on = ends_not c; grounds = issue_so actor is c command l.grounds.0 }
      by false is = tt
  entry_so c (entry.Replied actor command given number) l = by (passes actor)
    where
      by : (b : Bool) → IfSome (kept_if b (entry.Replied actor command reply.NotReached None)) (IsLegalEntry one (as_one passes c))
      by true = record {
        goes_on = ends_not c;
        grounds = (refl, (none_carried (service.lands_now (record { actor = actor; command = command })) (λ by floors. refl) one.work c [], none_carried (service.denies_now (record { actor = actor; command = command })) (λ by floors. refl) one.work c []));
      }
      by false = tt
  entry_so c _ l = tt

  legal_so : (c : List Entry) → IsLegalRun set c → IsLegal one (as_one passes c)
  legal_so c l = each_along (IsLegalRunEntry set) (λ xs. IsLegal one (as_one passes xs)) step [] c tt l tt
    where
      more : (own : List Entry) (o : Option Entry) → IsLegal one own → IfSome o (IsLegalEntry one own) → IsLegal one (own ++ cons_option o [])
      more own o = legal_more one own o

      step : (xs : List Entry) (e : Entry) → EachAfter (IsLegalRunEntry set) [] xs → IsLegalRunEntry set xs e → IsLegal one (as_one passes xs) → IsLegal one (as_one passes (xs ++ e ∷ []))
      step xs e before l h = subst (IsLegal one) (sym (pushed xs e)) (more (as_one passes xs) (done_by passes e) h (entry_so xs e l))

  -- ---- their seconds

  module _ (c : List Entry) (rest : seconds_issued one.work (as_one passes c) ≡ sum_by (seconds_for passes set.work) c) where
    issued_seconds : (b : Bool) (a command : ℕ) → passes a ≡ b → seconds_issued one.work (cons_option (kept_if b (entry.Issued a command)) (as_one passes c)) ≡ cond b (seconds_by set.work (entry.Issued a command)) 0 + sum_by (seconds_for passes set.work) c
    issued_seconds true a command is =
        let same = named_so a is command in
        sum_by-cons (seconds_by one.work) (entry.Issued a command) (as_one passes c)
        ∙ ap₂ (λ m n. m + n) (ap (λ o. option_map_or seconds_of o 0) same) rest
    issued_seconds false a command is = omega (arith, rest)

    replied_seconds : (b : Bool) (a command : ℕ) → seconds_issued one.work (cons_option (kept_if b (entry.Replied a command reply.NotReached None)) (as_one passes c)) ≡ 0 + sum_by (seconds_for passes set.work) c
    replied_seconds true a command = sum_by-cons (seconds_by one.work) (entry.Replied a command reply.NotReached None) (as_one passes c) ∙ ap (λ n. 0 + n) rest
    replied_seconds false a command = omega (arith, rest)

    entry_seconds : (e : Entry) → seconds_issued one.work (cons_option (done_by passes e) (as_one passes c)) ≡ seconds_for passes set.work e + sum_by (seconds_for passes set.work) c
    entry_seconds (entry.Issued a command) = issued_seconds (passes a) a command refl
    entry_seconds (entry.Replied a command given number) = replied_seconds (passes a) a command
    entry_seconds _ = omega (arith, rest)

  seconds_so : (c : List Entry) → seconds_issued one.work (as_one passes c) ≡ sum_by (seconds_for passes set.work) c
  seconds_so [] = refl
  seconds_so (e ∷ c) = entry_seconds c (seconds_so c) e ∙ sym (sum_by-cons (seconds_for passes set.work) e c)

  -- these actors' issues let no more seconds pass than their lines have
  pub issued_by_some : (c : List Entry) → IsLegalRun set c → sum_by (seconds_for passes set.work) c ≤ seconds_in (filter (λ line. passes line.actor) set.work.lines)
  unfolding one
  issued_by_some c l =
      let same = seconds_so c in
      let within = issued_within one (as_one passes c) (legal_so c l) in
      omega (arith, same, within)

-- ---- all actors

module _ (set : Setup) where
  all_seconds : (c : List Entry) → sum_by (seconds_for (λ actor. true) set.work) c ≡ seconds_issued set.work c
  all_seconds [] = refl
  all_seconds (e ∷ c) = sum_by-cons (seconds_for (λ actor. true) set.work) e c ∙ ap₂ (λ m n. m + n) (of e) (all_seconds c) ∙ sym (sum_by-cons (seconds_by set.work) e c)
    where
      of : (e : Entry) → seconds_for (λ actor. true) set.work e ≡ seconds_by set.work e
      of (entry.Issued a command) = refl
      of _ = refl

  all_lines : (lines : List Line) → filter (λ line. true) lines ≡ lines
  all_lines [] = refl
  all_lines (line ∷ lines) = ap (λ l. line ∷ l) (all_lines lines)

  -- no more seconds are issued in the run than its lines have
  pub issued_in_run : (c : List Entry) → IsLegalRun set c → seconds_issued set.work c ≤ seconds_in set.work.lines
  issued_in_run c l =
      let some = issued_by_some set (λ actor. true) c l in
      let seconds = all_seconds c in
      let lines : seconds_in (filter (λ line. true) set.work.lines) ≡ seconds_in set.work.lines = ap seconds_in (all_lines set.work.lines) in
      omega (arith, some, seconds, lines)
