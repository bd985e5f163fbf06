-- A run that can end is whole with the closing replies behind it.
use Rattle.std.proofs.Common.{◌≡◌, ◌≢◌, ℕ, suc, ◌+◌, ◌-◌, ◌<◌, ◌≤◌, ◌==◌, ◌⊎◌, inl, inr, List, [], ◌∷◌, ◌++◌, length, map, Bool, true, false, ◌&&◌, ◌||◌, cond, refl, sym, ap, ap₂, ◌∙◌, subst, arith, count_by, take, drop, get_or, Option, Some, None, ne_eqb, eq-eqb, true≢false, Contains}
use Rattle.std.specs.Prelude.{slice_get, nat_lt, IfSome, IsSome, IsNone, IsTrue, option_and_then, unwrap_or}
use Rattle.std.specs.Option.{option_map_or, is_some}
use Rattle.std.specs.List.{AllByRecursion as Each, list_any, range_with_len}
use Rattle.std.specs.Str.{bytes_eq}
use Rattle.std.proofs.lemmas.Bool.{cases_lt, cases_eq, lt-ltb, le-ltb}
use Rattle.std.proofs.lemmas.List.{take_all, take-append-drop, length-map}
use Rattle.std.proofs.lemmas.List.Elements.{Contains-get_or}
use Rattle.std.proofs.lemmas.List.Folds.{list_any-append}
use Rattle.std.proofs.lemmas.Option.{slice_get_cases, slice_get_past, slice_get_within}
use Rattle.services.specs.kvs_txn.declared.txn.By.{By}
use Rattle.services.specs.kvs_model.Store.{Name}
use Rattle.services.specs.kvs_rules.Sequence.{EachAfter}
use Rattle.services.specs.kvs_rules.Log.{Log, is_asked, is_landed, is_denied}
use Rattle.services.specs.kvs_rules.Namespaces.{landed, is_live}
use Rattle.services.specs.kvs_rules.Brokers.{heard}
use Rattle.services.specs.kvs_rules.Landings.{IsMember}
use Rattle.services.specs.kvs_rules.Quiet.{IsQuiet}
use Rattle.services.proofs.kvs_rules_proofs.Sequences.{each_joined}
use Rattle.services.specs.workload.declared.work.Command.{Command}
use Rattle.services.specs.workload.declared.work.Command.TheVariants as command
use Rattle.services.specs.workload.declared.work.Line.{Line}
use Rattle.services.specs.answers.declared.chronicle.Entry.{Entry}
use Rattle.services.specs.answers.declared.chronicle.Entry.TheVariants as entry
use Rattle.services.specs.answers.declared.chronicle.Reply.{Reply}
use Rattle.services.specs.answers.declared.chronicle.Reply.TheVariants as reply
use Rattle.services.specs.answers.Chronicle.{top, issues, is_issued, replies_to}
use Rattle.services.specs.answers.Commands.{broker_of, command_at, commands_of, subject_at}
use Rattle.services.specs.answers.Legal.{HasEntryGrounds, IsLegalEntry}
use Rattle.services.specs.answers.Jobs.{happening_of, job_ask_at, log_in}
use Rattle.services.specs.answers.Services.{setting_of, log_of}
use Rattle.services.specs.instance_rules.Family.{IsLeftResult}
use Rattle.services.specs.instance_rules.Log.{JobAsk, Log as InstanceLog, service_of}
use Rattle.services.specs.job_states.declared.job.State.{State}
use Rattle.services.specs.answers.Whole.{IsWhole, IsGrounded, IsClosingEntry, has_ended, is_closing, is_end, is_unfinished, joins, leaves_member, leaves_of}
use Rattle.services.proofs.answers_proofs.Services.{asked_issued, issued_below}
use Rattle.instance.specs.declared.seats.Seat.{Seat}
use Rattle.instance.specs.declared.seats.Waiting.{Waiting}
use Rattle.instance.specs.declared.seats.Waiting.TheVariants as waiting
use Rattle.instance.specs.Seats.{last_command, replied_of}
use Rattle.instance.specs.Closings.{closings, closings_at, closings_of, left_reply, not_reached, open_command, unfinished_as, waiting_in, waits_in}
use Rattle.instance.specs.Makes.{Ends}
use Rattle.instance.specs.Agrees.{is_of, command_of, Stands, ActorStands}
use Rattle.instance.specs.Steps.{IsOver}
use Rattle.instance.proofs.Owning.{Own, DoesAgree}
use Rattle.instance.proofs.Listing.{any_left, count-append}
use Rattle.instance.proofs.Ranges.{counted_flat, counted_none, counted_one, counted_range, contained_flat, distinct_passed, each_flat, each_mapped, each_passed, no_more_than}
use Rattle.instance.proofs.Commanding.{own_length}
use Rattle.instance.proofs.Leaving.{IsCause, IsDone, IsLeft, IsStuckFence, ends_at, in_fence, numbers_of, seat_told, states_of, told_of}
use Rattle.services.proofs.answers_proofs.Carried.{unasked_uncarried}
use Rattle.instance.proofs.Closing.{AreResults, left_of, past_all}
use Rattle.instance.proofs.Stilling.{CanDoNothing, IsStillSo, advanced_so, heard_so, quiet_so, rest_so, results_so}
use Rattle.instance.proofs.Families.{advanced_at_end, rests_at_end, same_living}
use Rattle.instance.proofs.Logs.{log_closed, log_without, served_log}
use Rattle.instance.proofs.Results.{unissued_uncarried}
use Rattle.instance.proofs.Going.{unended}
use Rattle.instance.proofs.Seeing.{name_is}

-- ---- closing replies, whatever the seats say

left_closes : (had : ℕ) (lines : List Line) (seats : List Seat) (space : Name) (c : Command) → IfSome (left_reply had lines seats space c) (λ given. IsTrue (is_closing given))
left_closes had lines seats space (command.Fence name count) = refl
left_closes had lines seats space (command.Wait number) = refl
left_closes had lines seats space _ = tt

unfinished_closes : (w : Waiting) (had : ℕ) (left : Option State) (lines : List Line) (seats : List Seat) (seat : Seat) → IfSome (unfinished_as w had left lines seats seat) (λ given. IsTrue (is_closing given))
unfinished_closes waiting.Service had left lines seats seat = on (open_command lines seat)
  where
    on : (c : Option Command) → IfSome (option_and_then (left_reply had lines seats seat.subject) c) (λ given. IsTrue (is_closing given))
    on None = tt
    on (Some c) = left_closes had lines seats seat.subject c
unfinished_closes waiting.Jobs had None lines seats seat = tt
unfinished_closes waiting.Jobs had (Some where_) lines seats seat = refl
unfinished_closes _ had left lines seats seat = tt

told_closing : (numbers : ℕ → Name → ℕ) (states : By → Option State) (lines : List Line) (seats : List Seat) (a : ℕ) → Each IsClosingEntry (closings_of numbers states lines seats a)
told_closing numbers states lines seats a = on (slice_get seats a)
  where
    on : (o : Option Seat) → Each IsClosingEntry (option_map_or (λ seat. option_map_or (closings_at lines a seat) (ends_at numbers states lines seats a seat) []) o [])
    on None = tt
    on (Some seat) = by (ends_at numbers states lines seats a seat) (unfinished_closes seat.waiting (numbers seat.broker seat.subject) (states (last_command a seat)) lines seats seat)
      where
        by : (f : Option Reply) → IfSome f (λ given. IsTrue (is_closing given)) → Each IsClosingEntry (option_map_or (closings_at lines a seat) f [])
        by None h = tt
        by (Some given) h = ((h, refl), each_mapped IsClosingEntry (λ number. entry.Replied a number reply.NotReached None) seat.issued (count_by (is_of a) lines - seat.issued) (λ k low. (refl, refl)))

pub all_closing : (numbers : ℕ → Name → ℕ) (states : By → Option State) (lines : List Line) (seats : List Seat) → Each IsClosingEntry (closings numbers states lines seats)
all_closing numbers states lines seats = each_flat IsClosingEntry (closings_of numbers states lines seats) (told_closing numbers states lines seats) (range_with_len 0 (length seats))

-- ---- small facts

or_no : (a b : Bool) → a ≡ false → b ≡ false → (a || b) ≡ false
or_no true b e f = absurd (true≢false e)
or_no false b e f = f

none_counted_in : {A : Type 0} (p : A → Bool) (f : ℕ → A) → ((k : ℕ) → p (f k) ≡ false) → (ns : List ℕ) → count_by p (map f ns) ≡ 0
none_counted_in p f none [] = refl
none_counted_in p f none (n ∷ ns) =
    let head : ◌≡◌ {A = ℕ} (cond (p (f n)) 1 0) 0 = ap (λ b. cond {A = ℕ} b 1 0) (none n) in
    let tail : count_by p (map f ns) ≡ 0 = none_counted_in p f none ns in
    count-append p (f n ∷ []) (map f ns) ∙ omega (arith, head, tail)

none_issued : (by : By) (es : List Entry) → Each IsClosingEntry es → list_any (issues by) es ≡ false
none_issued by [] h = refl
none_issued by (entry.Replied a k given number ∷ es) h = none_issued by es h.1
none_issued by (entry.Issued a k ∷ es) h = absurd h.0
none_issued by (entry.Landed i space number authors groups ∷ es) h = absurd h.0
none_issued by (entry.Denied i space authors group refusal ∷ es) h = absurd h.0
none_issued by (entry.Heard i b space number ∷ es) h = absurd h.0
none_issued by (entry.Got i b reference ∷ es) h = absurd h.0
none_issued by (entry.Dropped i b reference ∷ es) h = absurd h.0
none_issued by (entry.Told from to ∷ es) h = absurd h.0
none_issued by (entry.Watched actor command number first count ∷ es) h = absurd h.0
none_issued by (entry.Ticked second ∷ es) h = absurd h.0
none_issued by (entry.Born child parent job label second grant ∷ es) h = absurd h.0
none_issued by (entry.Gone child parent job shut ∷ es) h = absurd h.0
none_issued by (entry.Closed ∷ es) h = absurd h.0

none_ended : (es : List Entry) → Each IsClosingEntry es → list_any is_end es ≡ false
none_ended [] h = refl
none_ended (entry.Replied a k given number ∷ es) h = none_ended es h.1
none_ended (entry.Issued a k ∷ es) h = absurd h.0
none_ended (entry.Landed i space number authors groups ∷ es) h = absurd h.0
none_ended (entry.Denied i space authors group refusal ∷ es) h = absurd h.0
none_ended (entry.Heard i b space number ∷ es) h = absurd h.0
none_ended (entry.Got i b reference ∷ es) h = absurd h.0
none_ended (entry.Dropped i b reference ∷ es) h = absurd h.0
none_ended (entry.Told from to ∷ es) h = absurd h.0
none_ended (entry.Watched actor command number first count ∷ es) h = absurd h.0
none_ended (entry.Ticked second ∷ es) h = absurd h.0
none_ended (entry.Born child parent job label second grant ∷ es) h = absurd h.0
none_ended (entry.Gone child parent job shut ∷ es) h = absurd h.0
none_ended (entry.Closed ∷ es) h = absurd h.0

-- ---- what is left at the end

module _ (v : Own) (h : DoesAgree v) (over : IsOver v.set.work.lines v.instance) (promise : IsStillSo v) where
  abbrev log : Log
  log = log_of v.set.work top v.chronicle

  abbrev lines : List Line
  lines = v.set.work.lines

  abbrev left : List Entry
  left = closings (numbers_of v) (states_of v) lines v.instance.seats

  abbrev told : List Entry
  told = v.chronicle ++ left

  abbrev whole : List Entry
  whole = told ++ entry.Closed ∷ []

  rest : CanDoNothing v.instance
  rest = record { steps = over.steps; feeds = over.feeds; answers = over.answers; looks = over.looks; due = over.due }

  quiet : IsQuiet (setting_of v.set) log
  quiet = quiet_so v h rest promise

  results : AreResults v h
  results = results_so v h rest promise over.targets

  ends : (a : ℕ) → IsDone v a ⊎ IsLeft v a
  ends a = left_of v h over quiet results a

  stands : (a : ℕ) (seat : Seat) → slice_get v.instance.seats a ≡ Some seat → ActorStands v.set log v.chronicle a (Some seat)
  stands a seat at = subst (ActorStands v.set log v.chronicle a) at (h.actors a)

  -- why an actor waits on, and what it is told
  abbrev open_by : (a : ℕ) → IsLeft v a → By
  open_by a l = command_of a (l.seat.issued - 1)

  abbrev left_told : (a : ℕ) → IsLeft v a → Reply
  left_told a l = seat_told v a l.seat l.cause

  -- a closing reply to the actor's command of this number
  abbrev member_told : (a : ℕ) → IsLeft v a → Entry
  member_told a l = entry.Replied a (l.seat.issued - 1) (left_told a l) None

  abbrev rest_told : (a : ℕ) → IsLeft v a → List Entry
  rest_told a l = not_reached a l.seat.issued (count_by (is_of a) lines - l.seat.issued)

  -- what holds of each closing reply, if it holds of those of members and of commands behind
  each_told : (P : Entry → Type 0) → ((a : ℕ) (l : IsLeft v a) → P (member_told a l)) → ((a : ℕ) (l : IsLeft v a) (k : ℕ) → l.seat.issued ≤ k → P (entry.Replied a k reply.NotReached None)) → Each P left
  each_told P members rest = each_flat P (closings_of (numbers_of v) (states_of v) lines v.instance.seats) each_of (range_with_len 0 (length v.instance.seats))
    where
      each_of : (a : ℕ) → Each P (closings_of (numbers_of v) (states_of v) lines v.instance.seats a)
      each_of a = elim (ends a) [
        | inl d ↦ subst (Each P) (sym d.replies) tt
        | inr l ↦ subst (Each P) (sym l.replies) (members a l, each_mapped P (λ number. entry.Replied a number reply.NotReached None) l.seat.issued (count_by (is_of a) lines - l.seat.issued) (rest a l))
      ]

  -- ---- the members of a fence

  -- as many closing replies are of members of this fence as actors wait in it
  counted : (space name : Name) → count_by (leaves_member v.set.work space name) left ≡ length (waiting_in lines v.instance.seats space name)
  counted space name = counted_flat p (waits_in lines v.instance.seats space name) (closings_of (numbers_of v) (states_of v) lines v.instance.seats) each (range_with_len 0 (length v.instance.seats))
    where
      p : Entry → Bool
      p = leaves_member v.set.work space name

      joined : (a k had : ℕ) (own : Name) → subject_at v.set.work (command_of a k) ≡ own → (cause : IsCause v own (command_of a k)) → p (entry.Replied a k (told_of v own (command_of a k) had cause) None) ≡ in_fence v own (command_of a k) cause space name
      joined a k had own subject (inl (inl f)) = ap₂ (λ s c. bytes_eq space s && joins name c) subject f.command
      joined a k had own subject (inl (inr w)) = refl
      joined a k had own subject (inr j) = refl

      each : (a : ℕ) → count_by p (closings_of (numbers_of v) (states_of v) lines v.instance.seats a) ≡ cond (waits_in lines v.instance.seats space name a) 1 0
      each a = elim (ends a) [
        | inl d ↦ ap (count_by p) d.replies ∙ sym (ap (λ b. cond {A = ℕ} b 1 0) (d.waits space name))
        | inr l ↦
            let none : count_by p (rest_told a l) ≡ 0 = none_counted_in p (λ number. entry.Replied a number reply.NotReached None) (λ k. refl) (range_with_len l.seat.issued (count_by (is_of a) lines - l.seat.issued)) in
            let own : p (member_told a l) ≡ in_fence v l.seat.subject (open_by a l) l.cause space name = joined a (l.seat.issued - 1) (numbers_of v l.seat.broker l.seat.subject) l.seat.subject l.stuck.subject l.cause in
            let one : ◌≡◌ {A = ℕ} (cond (p (member_told a l)) 1 0) (cond (waits_in lines v.instance.seats space name a) 1 0) = ap (λ b. cond {A = ℕ} b 1 0) (own ∙ sym (l.waits space name)) in
            ap (count_by p) l.replies ∙ count-append p (member_told a l ∷ []) (rest_told a l) ∙ omega (arith, none, one)
      ]

  -- one that waits in a fence which is short of members is a member of it, and has its count
  member_as : {by : By} {space : Name} (f : IsStuckFence v space by) (own : Name) (other : By) (g : IsStuckFence v own other) → bytes_eq space own ≡ true → bytes_eq f.name g.name ≡ true → IsMember (setting_of v.set) log space f.name g.count other
  member_as {by} {space} f own other g here same =
      subst (λ (s : Name). IsMember (setting_of v.set) log s f.name g.count other) (sym (name_is space own here))
      (subst (λ (n : Name). IsMember (setting_of v.set) log own n g.count other) (sym (name_is f.name g.name same)) g.member)

  both_so : (a b : Bool) → (a && b) ≡ true → (a ≡ true) × (b ≡ true)
  both_so true b e = (refl, e)
  both_so false b e = absurd (true≢false (sym e))

  -- all of them have the count of one that is short of members
  agreed : {by : By} (space : Name) (f : IsStuckFence v space by) → count_by (λ e. leaves_member v.set.work space f.name e && leaves_of f.count e) left ≡ length (waiting_in lines v.instance.seats space f.name)
  agreed space f = counted_flat p (waits_in lines v.instance.seats space f.name) (closings_of (numbers_of v) (states_of v) lines v.instance.seats) each (range_with_len 0 (length v.instance.seats))
    where
      p : Entry → Bool
      p = λ e. leaves_member v.set.work space f.name e && leaves_of f.count e

      agrees : (own : Name) (by : By) (g : IsStuckFence v own by) (t : Bool) → (bytes_eq space own && bytes_eq f.name g.name) ≡ t → (t && (f.count == g.count)) ≡ t
      agrees own by g false e = refl
      agrees own by g true e =
          let both = both_so (bytes_eq space own) (bytes_eq f.name g.name) e in
          eq-eqb f.count g.count (sym (f.short.agreed by g.count (member_as f own by g both.0 both.1)))

      joined : (b k had : ℕ) (own : Name) → subject_at v.set.work (command_of b k) ≡ own → (cause : IsCause v own (command_of b k)) → p (entry.Replied b k (told_of v own (command_of b k) had cause) None) ≡ in_fence v own (command_of b k) cause space f.name
      joined b k had own subject (inl (inl g)) =
          ap₂ (λ s c. (bytes_eq space s && joins f.name c) && (f.count == g.count)) subject g.command
          ∙ agrees own (command_of b k) g (bytes_eq space own && bytes_eq f.name g.name) refl
      joined b k had own subject (inl (inr w)) = refl
      joined b k had own subject (inr j) = refl

      each : (b : ℕ) → count_by p (closings_of (numbers_of v) (states_of v) lines v.instance.seats b) ≡ cond (waits_in lines v.instance.seats space f.name b) 1 0
      each b = elim (ends b) [
        | inl d ↦ ap (count_by p) d.replies ∙ sym (ap (λ b. cond {A = ℕ} b 1 0) (d.waits space f.name))
        | inr m ↦
            let none : count_by p (rest_told b m) ≡ 0 = none_counted_in p (λ number. entry.Replied b number reply.NotReached None) (λ k. refl) (range_with_len m.seat.issued (count_by (is_of b) lines - m.seat.issued)) in
            let own : p (member_told b m) ≡ in_fence v m.seat.subject (open_by b m) m.cause space f.name = joined b (m.seat.issued - 1) (numbers_of v m.seat.broker m.seat.subject) m.seat.subject m.stuck.subject m.cause in
            let one : ◌≡◌ {A = ℕ} (cond (p (member_told b m)) 1 0) (cond (waits_in lines v.instance.seats space f.name b) 1 0) = ap (λ b. cond {A = ℕ} b 1 0) (own ∙ sym (m.waits space f.name)) in
            ap (count_by p) m.replies ∙ count-append p (member_told b m ∷ []) (rest_told b m) ∙ omega (arith, none, one)
      ]

  -- the command that the actor has open
  abbrev open_of : ℕ → Option Seat → By
  open_of a None = command_of a 0
  open_of a (Some seat) = command_of a (seat.issued - 1)

  abbrev opens : ℕ → By
  opens a = open_of a (slice_get v.instance.seats a)

  opens_actor : (a : ℕ) → (opens a).actor ≡ a
  opens_actor a = on (slice_get v.instance.seats a)
    where
      on : (o : Option Seat) → (open_of a o).actor ≡ a
      on None = refl
      on (Some seat) = refl

  opens_once : (a b : ℕ) → opens a ≡ opens b → a ≡ b
  opens_once a b e = sym (opens_actor a) ∙ ap (λ (by : By). by.actor) e ∙ opens_actor b

  -- fewer wait in such a fence than its count says
  fewer : {by : By} (space : Name) (f : IsStuckFence v space by) → length (waiting_in lines v.instance.seats space f.name) < f.count
  fewer space f =
      let few : length (map opens (waiting_in lines v.instance.seats space f.name)) ≤ length f.short.members =
      no_more_than (map opens (waiting_in lines v.instance.seats space f.name)) f.short.members
      (distinct_passed opens (waits_in lines v.instance.seats space f.name) opens_once 0 (length v.instance.seats))
      (each_passed (Contains f.short.members) opens (waits_in lines v.instance.seats space f.name) (range_with_len 0 (length v.instance.seats)) (λ b t. (f.short.come (opens b)).1 (members b t))) in
      let long = length-map (waiting_in lines v.instance.seats space f.name) opens in
      omega (arith, few, long, f.short.short)
    where
      member_of : (own : Name) (by : By) (cause : IsCause v own by) → in_fence v own by cause space f.name ≡ true → IsMember (setting_of v.set) log space f.name f.count by
      member_of own by (inr j) t = absurd (true≢false (sym t))
      member_of own by (inl (inr w)) t = absurd (true≢false (sym t))
      member_of own by (inl (inl g)) t =
          let both = both_so (bytes_eq space own) (bytes_eq f.name g.name) t in
          let named = member_as f own by g both.0 both.1 in
          subst (λ (n : ℕ). IsMember (setting_of v.set) log space f.name n by) (f.short.agreed by g.count named) named

      members : (b : ℕ) → waits_in lines v.instance.seats space f.name b ≡ true → IsMember (setting_of v.set) log space f.name f.count (opens b)
      members b t = elim (ends b) [
        | inl d ↦ absurd (true≢false (sym t ∙ d.waits space f.name))
        | inr m ↦ subst (IsMember (setting_of v.set) log space f.name f.count) (ap (open_of b) (sym m.sits)) (member_of m.seat.subject (open_by b m) m.cause (sym (m.waits space f.name) ∙ t))
      ]

  -- ---- closing replies make no moment and follow the chronicle

  abbrev now : InstanceLog
  now = log_in v.set.work v.chronicle

  abbrev IsEnding : Entry → Type 0
  IsEnding e = ((c : List Entry) → happening_of v.set.work c e ≡ None) × (is_end e ≡ false) × ((c : List Entry) → log_of v.set.work top c ≡ log → HasEntryGrounds v.set c e)

  abbrev IsUndone : By → Log → Type 0
  IsUndone by l = (is_landed by l ≡ false) × (is_denied by l ≡ false)

  member_ending : (a : ℕ) (l : IsLeft v a) → IsEnding (member_told a l)
  member_ending a l = by_cause l.cause
    where
      undone : (c : Log) → c ≡ log → IsUndone (open_by a l) c
      undone c same = subst (IsUndone (open_by a l)) (sym same) l.stuck.uncarried

      by_cause : (cause : IsCause v l.seat.subject (open_by a l)) → IsEnding (entry.Replied a (l.seat.issued - 1) (seat_told v a l.seat cause) None)
      by_cause (inl (inl f)) = (λ c. refl, refl, λ c same. (refl, undone (log_of v.set.work top c) same))
      by_cause (inl (inr w)) = (λ c. refl, refl, λ c same. (refl, undone (log_of v.set.work top c) same))
      by_cause (inr j) = (λ c. refl, refl, λ c same. (refl, undone (log_of v.set.work top c) same))

  unissued : (a : ℕ) (l : IsLeft v a) (k : ℕ) → l.seat.issued ≤ k → is_issued (command_of a k) v.chronicle ≡ false
  unissued a l k low = on (is_issued (command_of a k) v.chronicle) refl
    where
      on : (b : Bool) → is_issued (command_of a k) v.chronicle ≡ b → b ≡ false
      on false t = refl
      on true t =
          let below = issued_below v.set v.chronicle h.legal (command_of a k) t in
          let issued = (stands a l.seat l.sits).0.counted in
          absurd (omega (arith, below, issued, low))

  unasked : (a : ℕ) (l : IsLeft v a) (k : ℕ) → l.seat.issued ≤ k → is_asked (command_of a k) log ≡ false
  unasked a l k low = on (is_asked (command_of a k) log) refl
    where
      on : (b : Bool) → is_asked (command_of a k) log ≡ b → b ≡ false
      on false t = refl
      on true t = absurd (true≢false (sym (asked_issued v.set.work top (command_of a k) [] v.chronicle t) ∙ unissued a l k low))

  -- no landing names a command that isn't issued
  undone_so : (a : ℕ) (l : IsLeft v a) (k : ℕ) → l.seat.issued ≤ k → IsUndone (command_of a k) log
  undone_so a l k low = on (job_ask_at v.set.work (command_of a k)) refl
    where
      on : (o : Option JobAsk) → job_ask_at v.set.work (command_of a k) ≡ o → IsUndone (command_of a k) log
      on None none = unasked_uncarried v.set (command_of a k) none v.chronicle h.legal (unasked a l k low)
      on (Some asked) some = unissued_uncarried v.set v.chronicle v.chronicle refl v.instance.services.jobs h.agrees.jobs (command_of a k) (ap is_some some) (unissued a l k low)

  rest_ending : (a : ℕ) (l : IsLeft v a) (k : ℕ) → l.seat.issued ≤ k → IsEnding (entry.Replied a k reply.NotReached None)
  rest_ending a l k low = (λ c. refl, refl, λ c same. (refl, subst (IsUndone (command_of a k)) (sym same) (undone_so a l k low)))

  all_ending : Each IsEnding left
  all_ending = each_told IsEnding member_ending rest_ending

  log_on : (c : List Entry) (e : Entry) → IsEnding e → log_of v.set.work top c ≡ log → log_of v.set.work top (c ++ e ∷ []) ≡ log
  log_on c e g same = sym (served_log v.set.work (c ++ e ∷ [])) ∙ ap service_of (log_without v.set.work c e (g.0 c)) ∙ served_log v.set.work c ∙ same

  legal_along : (es : List Entry) → Each IsEnding es → (c : List Entry) → has_ended c ≡ false → log_of v.set.work top c ≡ log → EachAfter (IsLegalEntry v.set) c es
  legal_along [] g c goes same = tt
  legal_along (e ∷ es) g c goes same = (
    record { goes_on = goes; grounds = g.0.2 c same },
    legal_along es g.1 (c ++ e ∷ []) (list_any-append is_end c (e ∷ []) ∙ or_no (has_ended c) (is_end e || false) goes (or_no (is_end e) false g.0.1 refl)) (log_on c e g.0 same),
  )

  closing_all : Each IsClosingEntry left
  closing_all = all_closing (numbers_of v) (states_of v) lines v.instance.seats

  now_whole : log_in v.set.work whole ≡ now
  now_whole = log_closed v.set.work v.chronicle left closing_all

  log_whole : log_of v.set.work top whole ≡ log
  log_whole = sym (served_log v.set.work whole) ∙ ap service_of now_whole ∙ served_log v.set.work v.chronicle

  earlier : has_ended v.chronicle ≡ false
  earlier = unended v.chronicle h.early

  goes_told : has_ended told ≡ false
  goes_told = list_any-append is_end v.chronicle left ∙ or_no (has_ended v.chronicle) (has_ended left) earlier (none_ended left (all_closing (numbers_of v) (states_of v) lines v.instance.seats))

  issued_still : (by : By) → is_issued by v.chronicle ≡ true → is_issued by whole ≡ true
  issued_still by t = any_left (issues by) told (entry.Closed ∷ []) (any_left (issues by) v.chronicle left t)

  unissued_still : (by : By) → is_issued by v.chronicle ≡ false → is_issued by whole ≡ false
  unissued_still by f =
      list_any-append (issues by) told (entry.Closed ∷ [])
      ∙ or_no (is_issued by told) false (list_any-append (issues by) v.chronicle left ∙ or_no (is_issued by v.chronicle) (is_issued by left) f (none_issued by left (all_closing (numbers_of v) (states_of v) lines v.instance.seats))) refl

  -- of a namespace that lives each broker has heard the last landing
  told_number : (b : ℕ) (space : Name) → b < v.set.size → IsTrue (is_live log space) → heard log b space ≡ Some (landed log space)
  told_number b space low living =
      quiet.told b space low (heard_so v h rest promise b space low living)

  member_grounds : (a : ℕ) (l : IsLeft v a) → IsGrounded v.set whole left (member_told a l)
  member_grounds a l = by_cause l.cause
    where
      by : By
      by = open_by a l

      begun : is_issued by v.chronicle ≡ true
      begun = let some = l.stuck.some in (stands a l.seat l.sits).0.begun (l.seat.issued - 1) (omega (arith, some))

      space : Name
      space = l.seat.subject

      living_so : IsTrue (is_live log space) → IsTrue (is_live (log_of v.set.work top whole) (subject_at v.set.work by))
      living_so living = subst (λ (c : Log). IsTrue (is_live c (subject_at v.set.work by))) (sym log_whole) (subst (λ (s : Name). IsTrue (is_live log s)) (sym l.stuck.subject) living)

      told_here : IsTrue (is_live log space) → heard log l.seat.broker space ≡ Some (landed log space)
      told_here living = told_number l.seat.broker space (stands a l.seat l.sits).1.inside living

      had_is : IsTrue (is_live log space) → numbers_of v l.seat.broker space ≡ landed log space
      had_is living = ap (λ o. unwrap_or o 0) (told_here living)

      known_so : IsTrue (is_live log space) → heard (log_of v.set.work top whole) (broker_of v.set.work a) (subject_at v.set.work by) ≡ Some (numbers_of v l.seat.broker space)
      known_so living =
          ap (λ (c : Log). heard c (broker_of v.set.work a) (subject_at v.set.work by)) log_whole
          ∙ ap (heard log (broker_of v.set.work a)) l.stuck.subject
          ∙ ap (λ b. heard log b space) (sym (stands a l.seat l.sits).1.home)
          ∙ told_here living
          ∙ ap Some (sym (had_is living))

      by_cause : (cause : IsCause v space by) → IsGrounded v.set whole left (entry.Replied a (l.seat.issued - 1) (seat_told v a l.seat cause) None)
      by_cause (inl (inl f)) = (
        refl,
        (
          issued_still by begun,
          record {
            name = f.name;
            asked = f.command;
            living = living_so f.short.living;
            short = fewer space f;
            members = sym (ap (λ (s : Name). count_by (leaves_member v.set.work s f.name) left) l.stuck.subject ∙ counted space f.name);
            agreed = sym (ap (λ (s : Name). count_by (λ e. leaves_member v.set.work s f.name e && leaves_of f.count e) left) l.stuck.subject ∙ agreed space f);
          },
        ),
      )
      by_cause (inl (inr w)) = (
        refl,
        (
          issued_still by begun,
          record {
            asked = w.command;
            living = living_so w.living;
            known = known_so w.living;
            short = let above = w.above in let is = had_is w.living in omega arith;
          },
        ),
      )
      by_cause (inr j) = (
        refl,
        (
          issued_still by begun,
          subst (λ living. IsLeftResult living by j.where_) (sym (same_living v.set whole v.chronicle now_whole)) j.left,
        ),
      )

  unfinished_so : (space : Name) (by : By) (had : ℕ) (cause : IsCause v space by) → IsTrue (is_unfinished (told_of v space by had cause))
  unfinished_so space by had (inl (inl f)) = refl
  unfinished_so space by had (inl (inr w)) = refl
  unfinished_so space by had (inr j) = refl

  rest_grounds : (a : ℕ) (l : IsLeft v a) (k : ℕ) → l.seat.issued ≤ k → IsGrounded v.set whole left (entry.Replied a k reply.NotReached None)
  rest_grounds a l k low =
      let some = l.stuck.some in
      let within = slice_get_within v.instance.seats a l.seat l.sits in (
        refl,
        (
          unissued_still (command_of a k) (unissued a l k low),
          record {
            earlier = l.seat.issued - 1;
            before = omega (arith, some, low);
            given = left_told a l;
            left = contained_flat (closings_of (numbers_of v) (states_of v) lines v.instance.seats) (member_told a l) a 0 (length v.instance.seats) (omega arith) (omega (arith, within))
                (subst (λ es. Contains es (member_told a l)) (sym l.replies) (Contains-get_or (member_told a l ∷ rest_told a l) 0 (member_told a l) (omega arith)));
            unfinished = unfinished_so l.seat.subject (open_by a l) (numbers_of v l.seat.broker l.seat.subject) l.cause;
          },
        ),
      )

  grounded : Each (IsGrounded v.set whole left) left
  grounded = each_told (IsGrounded v.set whole left) member_grounds rest_grounds

  -- ---- each command has its one reply

  module _ (by : By) where
    abbrev mine : Entry → Bool
    mine = replies_to by

    other_replies : (a : ℕ) → a ≢ by.actor → count_by mine (closings_of (numbers_of v) (states_of v) lines v.instance.seats a) ≡ 0
    other_replies a apart = elim (ends a) [
      | inl d ↦ ap (count_by mine) d.replies
      | inr l ↦
          let strange : (by.actor == a) ≡ false = ne_eqb by.actor a (λ same. apart (sym same)) in
          let head : ◌≡◌ {A = ℕ} (cond (mine (member_told a l)) 1 0) 0 = ap (λ b. cond {A = ℕ} (b && (by.command == l.seat.issued - 1)) 1 0) strange in
          let tail : count_by mine (rest_told a l) ≡ 0 = none_counted_in mine (λ number. entry.Replied a number reply.NotReached None) (λ k. ap (λ b. b && (by.command == k)) strange) (range_with_len l.seat.issued (count_by (is_of a) lines - l.seat.issued)) in
          ap (count_by mine) l.replies ∙ count-append mine (member_told a l ∷ []) (rest_told a l) ∙ omega (arith, head, tail)
    ]

    own_replies : count_by mine left ≡ count_by mine (closings_of (numbers_of v) (states_of v) lines v.instance.seats by.actor)
    own_replies = elim (cases_lt by.actor (length v.instance.seats)) [
      | inl low ↦ counted_one mine (closings_of (numbers_of v) (states_of v) lines v.instance.seats) by.actor other_replies 0 (length v.instance.seats) (omega arith) (omega (arith, low))
      | inr high ↦ counted_none mine (closings_of (numbers_of v) (states_of v) lines v.instance.seats) by.actor other_replies 0 (length v.instance.seats) (omega (arith, high)) ∙ sym (nobody high (ends by.actor))
    ]
      where
        nobody : length v.instance.seats ≤ by.actor → IsDone v by.actor ⊎ IsLeft v by.actor → count_by mine (closings_of (numbers_of v) (states_of v) lines v.instance.seats by.actor) ≡ 0
        nobody high (inl d) = ap (count_by mine) d.replies
        nobody high (inr l) = let low = slice_get_within v.instance.seats by.actor l.seat l.sits in absurd (omega (arith, low, high))

    abbrev total : ℕ
    total = count_by mine v.chronicle + count_by mine (closings_of (numbers_of v) (states_of v) lines v.instance.seats by.actor)

    replies_whole : count_by mine whole ≡ total
    replies_whole =
        let closed : count_by mine whole ≡ count_by mine told + 0 = count-append mine told (entry.Closed ∷ []) in
        let parts : count_by mine told ≡ count_by mine v.chronicle + count_by mine left = count-append mine v.chronicle left in
        let own : count_by mine left ≡ count_by mine (closings_of (numbers_of v) (states_of v) lines v.instance.seats by.actor) = own_replies in
        omega (arith, closed, parts, own)

    abbrev HasOne : Type 0
    HasOne = (command_at v.set.work by ≡ None) × (total ≡ 0) ⊎ IsSome (command_at v.set.work by) × (total ≡ 1)

    long : (a : ℕ) → length (commands_of v.set.work a) ≡ count_by (is_of a) lines
    long a = own_length a lines

    -- the workload has the actor's command of this number
    there : by.command < count_by (is_of by.actor) lines → IsSome (command_at v.set.work by)
    there low =
        let within : by.command < length (commands_of v.set.work by.actor) = subst (λ (n : ℕ). by.command < n) (sym (long by.actor)) low in
        elim (slice_get_cases (commands_of v.set.work by.actor) by.command).1 [
          | inl at ↦ ap is_some at.2
          | inr past ↦ absurd (omega (arith, within, past.0))
        ]

    gone : count_by (is_of by.actor) lines ≤ by.command → command_at v.set.work by ≡ None
    gone high = slice_get_past (commands_of v.set.work by.actor) by.command (subst (λ (n : ℕ). n ≤ by.command) (sym (long by.actor)) high)

    -- no actor
    unseated : slice_get v.instance.seats by.actor ≡ None → IsDone v by.actor → HasOne
    unseated at d =
        let nobody : Stands log v.chronicle by.actor 0 0 = subst (ActorStands v.set log v.chronicle by.actor) at (h.actors by.actor) in
        let never : count_by mine v.chronicle ≡ 0 = nobody.ended by.command ∙ ap (λ b. cond {A = ℕ} b 1 0) (le-ltb by.command 0 (omega arith)) in
        let own : count_by mine (closings_of (numbers_of v) (states_of v) lines v.instance.seats by.actor) ≡ 0 = ap (count_by mine) d.replies in
        inl (gone (subst (λ (n : ℕ). n ≤ by.command) (sym none) (omega arith)), omega (arith, never, own))
      where
        high : length v.set.work.actors ≤ by.actor
        high = subst (λ (n : ℕ). n ≤ by.actor) h.seated (elim (slice_get_cases v.instance.seats by.actor).1 [
          | inl low ↦ absurd (no_seat low.0 (sym at ∙ low.2))
          | inr past ↦ past.0
        ])
          where
            no_seat : (seat : Seat) → ◌≡◌ {A = Option Seat} None (Some seat) → ⊥
            no_seat seat e = cc

        others_none : (ls : List Line) → ((k : ℕ) (d : Line) → k < length ls → (get_or ls k d).actor < length v.set.work.actors) → count_by (is_of by.actor) ls ≡ 0
        others_none [] low = refl
        others_none (l ∷ ls) low =
            let first : l.actor < length v.set.work.actors = low 0 l (omega arith) in
            let above = high in
            let head : ◌≡◌ {A = ℕ} (cond (is_of by.actor l) 1 0) 0 = ap (λ b. cond {A = ℕ} b 1 0) (ne_eqb l.actor by.actor (λ same. absurd (omega arith))) in
            let tail : count_by (is_of by.actor) ls ≡ 0 = others_none ls (λ k d below. low (suc k) d (omega arith)) in
            count-append (is_of by.actor) (l ∷ []) ls ∙ omega (arith, head, tail)

        none : count_by (is_of by.actor) lines ≡ 0
        none = others_none lines h.within.known

    -- an actor that waits for nothing has been replied to
    done : (seat : Seat) → slice_get v.instance.seats by.actor ≡ Some seat → IsDone v by.actor → HasOne
    done seat at d =
        let free = d.free seat at in
        let past = past_all v h over quiet results by.actor seat at free in
        let s = stands by.actor seat at in
        let all : count_by (is_of by.actor) lines ≡ seat.issued = ap (count_by (is_of by.actor)) (sym (take_all seat.next lines past)) ∙ s.1.placed.passed in
        let replied : replied_of seat ≡ seat.issued = ap (λ b. cond b seat.issued (seat.issued - 1)) free in
        let had : count_by mine v.chronicle ≡ cond (nat_lt by.command seat.issued) 1 0 = s.0.ended by.command ∙ ap (λ n. cond {A = ℕ} (nat_lt by.command n) 1 0) replied in
        let own : count_by mine (closings_of (numbers_of v) (states_of v) lines v.instance.seats by.actor) ≡ 0 = ap (count_by mine) d.replies in
        elim (cases_lt by.command seat.issued) [
          | inl low ↦
              let one : ◌≡◌ {A = ℕ} (cond (nat_lt by.command seat.issued) 1 0) 1 = ap (λ b. cond {A = ℕ} b 1 0) (lt-ltb by.command seat.issued low) in
              inr (there (subst (λ (n : ℕ). by.command < n) (sym all) low), omega (arith, had, own, one))
          | inr high ↦
              let zero_of : ◌≡◌ {A = ℕ} (cond (nat_lt by.command seat.issued) 1 0) 0 = ap (λ b. cond {A = ℕ} b 1 0) (le-ltb by.command seat.issued high) in
              inl (gone (subst (λ (n : ℕ). n ≤ by.command) (sym all) high), omega (arith, had, own, zero_of))
        ]

    -- an actor that waits for what does not come has closing replies from its open command on
    stuck : IsLeft v by.actor → HasOne
    stuck l =
        let some = l.stuck.some in
        let s = stands by.actor l.seat l.sits in
        let few : l.seat.issued ≤ count_by (is_of by.actor) lines = few_of in
        let replied : replied_of l.seat ≡ l.seat.issued - 1 = ap (λ b. cond b l.seat.issued (l.seat.issued - 1)) l.busy in
        let had : count_by mine v.chronicle ≡ cond (nat_lt by.command (l.seat.issued - 1)) 1 0 = s.0.ended by.command ∙ ap (λ n. cond {A = ℕ} (nat_lt by.command n) 1 0) replied in
        let self : (by.actor == by.actor) ≡ true = eq-eqb by.actor by.actor refl in
        let rest = counted_range mine (λ number. entry.Replied by.actor number reply.NotReached None) by.command
        (λ k apart. ap₂ (λ x y. x && y) self (ne_eqb by.command k (λ same. apart (sym same))))
        (ap₂ (λ x y. x && y) self (eq-eqb by.command by.command refl)) l.seat.issued (count_by (is_of by.actor) lines - l.seat.issued) in
        let own : count_by mine (closings_of (numbers_of v) (states_of v) lines v.instance.seats by.actor) ≡ (0 + cond (mine (member_told by.actor l)) 1 0) + count_by mine (rest_told by.actor l) =
        ap (count_by mine) l.replies ∙ count-append mine (member_told by.actor l ∷ []) (rest_told by.actor l) in
        let member : ◌≡◌ {A = ℕ} (cond (mine (member_told by.actor l)) 1 0) (cond (by.command == l.seat.issued - 1) 1 0) = ap (λ b. cond {A = ℕ} (b && (by.command == l.seat.issued - 1)) 1 0) self in
        elim (cases_lt by.command l.seat.issued) [
          | inl low ↦
              let behind : count_by mine (rest_told by.actor l) ≡ 0 = rest.0 (inl low) in
              elim (cases_eq by.command (l.seat.issued - 1)) [
                | inl same ↦
                    let here : ◌≡◌ {A = ℕ} (cond (by.command == l.seat.issued - 1) 1 0) 1 = ap (λ b. cond {A = ℕ} b 1 0) (eq-eqb by.command (l.seat.issued - 1) same) in
                    let not_yet : ◌≡◌ {A = ℕ} (cond (nat_lt by.command (l.seat.issued - 1)) 1 0) 0 = ap (λ b. cond {A = ℕ} b 1 0) (le-ltb by.command (l.seat.issued - 1) (omega arith)) in
                    inr (there (omega (arith, low, few)), omega (arith, had, own, member, behind, here, not_yet))
                | inr other ↦
                    let here : ◌≡◌ {A = ℕ} (cond (by.command == l.seat.issued - 1) 1 0) 0 = ap (λ b. cond {A = ℕ} b 1 0) (ne_eqb by.command (l.seat.issued - 1) other) in
                    let before : ◌≡◌ {A = ℕ} (cond (nat_lt by.command (l.seat.issued - 1)) 1 0) 1 = ap (λ b. cond {A = ℕ} b 1 0) (lt-ltb by.command (l.seat.issued - 1) (omega arith)) in
                    inr (there (omega (arith, low, few)), omega (arith, had, own, member, behind, here, before))
              ]
          | inr high ↦
              let here : ◌≡◌ {A = ℕ} (cond (by.command == l.seat.issued - 1) 1 0) 0 = ap (λ b. cond {A = ℕ} b 1 0) (ne_eqb by.command (l.seat.issued - 1) (λ same. absurd (omega arith))) in
              let not_yet : ◌≡◌ {A = ℕ} (cond (nat_lt by.command (l.seat.issued - 1)) 1 0) 0 = ap (λ b. cond {A = ℕ} b 1 0) (le-ltb by.command (l.seat.issued - 1) (omega arith)) in
              elim (cases_lt by.command (count_by (is_of by.actor) lines)) [
                | inl within ↦
                    let behind : count_by mine (rest_told by.actor l) ≡ 1 = rest.1 high (omega (arith, few, within)) in
                    inr (there within, omega (arith, had, own, member, behind, here, not_yet))
                | inr past ↦
                    let behind : count_by mine (rest_told by.actor l) ≡ 0 = rest.0 (inr (omega (arith, few, past))) in
                    inl (gone past, omega (arith, had, own, member, behind, here, not_yet))
              ]
        ]
      where
        few_of : l.seat.issued ≤ count_by (is_of by.actor) lines
        few_of =
            let passed : count_by (is_of by.actor) (take l.seat.next lines) ≡ l.seat.issued = (stands by.actor l.seat l.sits).1.placed.passed in
            let split : count_by (is_of by.actor) lines ≡ count_by (is_of by.actor) (take l.seat.next lines) + count_by (is_of by.actor) (drop l.seat.next lines) =
            ap (count_by (is_of by.actor)) (sym (take-append-drop l.seat.next lines)) ∙ count-append (is_of by.actor) (take l.seat.next lines) (drop l.seat.next lines) in
            omega (arith, passed, split)

    has_one : HasOne
    has_one = elim (ends by.actor) [
      | inl d ↦ seat_or (slice_get v.instance.seats by.actor) refl d
      | inr l ↦ stuck l
    ]
      where
        seat_or : (o : Option Seat) → slice_get v.instance.seats by.actor ≡ o → IsDone v by.actor → HasOne
        seat_or None at d = unseated at d
        seat_or (Some seat) at d = done seat at d

    replied_once : IsSome (command_at v.set.work by) → count_by mine whole ≡ 1
    replied_once some = replies_whole ∙ elim has_one [
      | inl r ↦ absurd (true≢false (sym some ∙ ap is_some r.0))
      | inr r ↦ r.1
    ]

    not_replied : IsNone (command_at v.set.work by) → count_by mine whole ≡ 0
    not_replied none = replies_whole ∙ elim has_one [
      | inl r ↦ r.1
      | inr r ↦ absurd (true≢false (sym r.0 ∙ none_of (command_at v.set.work by) none))
    ]
      where
        none_of : {A : Type 0} (o : Option A) → IsNone o → is_some o ≡ false
        none_of None n = refl
        none_of (Some x) n = cc

  -- ---- the whole

  whole_so : IsWhole v.set whole
  whole_so = record {
    earlier = v.chronicle;
    closings = left;
    split = refl;
    body = h.early;
    closing = grounded;
    answered = λ by some. replied_once by some;
    no_other = λ by none. not_replied by none;
    rests = rests_at_end v.set v.chronicle left closing_all (rest_so v h rest promise);
    advanced = advanced_at_end v.set v.chronicle left closing_all (advanced_so v h rest promise over.targets);
  }

  pub close_ends : Ends v.set v.chronicle left
  close_ends = record {
    closing = all_closing (numbers_of v) (states_of v) lines v.instance.seats;
    legal = each_joined (IsLegalEntry v.set) v.chronicle left (entry.Closed ∷ []) (legal_along left all_ending v.chronicle earlier refl) (record { goes_on = goes_told; grounds = whole_so }, tt);
    whole = whole_so;
  }
