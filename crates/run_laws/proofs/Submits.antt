-- A label stands in one submission, and so it names one job.
use Rattle.std.proofs.Common.{◌≡◌, ℕ, zero, suc, ◌+◌, ◌<◌, ◌^◌, ◌==◌, List, [], ◌∷◌, ◌++◌, Bool, true, false, cond, ◌||◌, Option, Some, None, filter_map, refl, sym, ap, ap₂, ◌∙◌, subst, arith, true≢false}
use Rattle.std.specs.Prelude.{Contains, if◌then◌else◌, slice_get}
use Rattle.std.specs.List.{cons_option}
use Rattle.std.specs.Option.{option_and_then}
use Rattle.std.proofs.lemmas.Bool.{eqb-true, or_parts, or_right}
use Rattle.std.proofs.lemmas.List.Elements.{Contains-append_left, filter_map-append}
use Rattle.std.proofs.lemmas.Slice.Eq.{bytes_eq-Decides}
use Rattle.kvs_rules.specs.Log as service
use Rattle.kvs_rules.specs.Namespaces.{primary}
use Rattle.kvs_rules.specs.declared.events.KvsEvent.TheVariants as event
use Rattle.kvs_txn.specs.declared.txn.By.{By}
use Rattle.instance_rules.specs.Desks.{HasSubmitted, Names}
use Rattle.instance_rules.specs.Log as rules
use Rattle.instance_rules.specs.Log.{Log, served, service_of}
use Rattle.workload.specs.Laws.{HasOwnLabels}
use Rattle.workload.specs.Tallies.{declares, is_declared}
use Rattle.workload.specs.declared.work.Command.{Command}
use Rattle.workload.specs.declared.work.Command.TheVariants as command
use Rattle.workload.specs.declared.work.Line.{Line}
use Rattle.answers.specs.Chronicle.{Setup}
use Rattle.answers.specs.Commands.{command_at}
use Rattle.answers.specs.Jobs.{instance_of, job_ask_of, log_in}
use Rattle.answers.specs.Legal.{IsLegal}
use Rattle.answers.specs.declared.chronicle.Entry.{Entry}
use Rattle.run_laws.proofs.Once.{begins_one}

-- ---- a label stands in one submission

abbrev pub commands : ℕ → List Line → List Command
commands actor lines = filter_map (λ line. if line.actor == actor then Some line.command else None) lines

-- a command of these lines is the first line's, or one of those behind it
data Stands (line : Line) (lines : List Line) (actor k : ℕ) (c : Command) : Type 0 where
  first : line.actor ≡ actor → k ≡ 0 → line.command ≡ c → Stands line lines actor k c
  behind : (j : ℕ) → slice_get (commands actor lines) j ≡ Some c → k ≡ j + cond (line.actor == actor) 1 0 → Stands line lines actor k c

stands : (line : Line) (lines : List Line) (actor k : ℕ) (c : Command) → slice_get (commands actor (line ∷ lines)) k ≡ Some c → Stands line lines actor k c
stands line lines actor k c is = by (line.actor == actor) refl k is
  where
    by : (b : Bool) → (line.actor == actor) ≡ b → (k : ℕ) → slice_get (cons_option (if b then Some line.command else None) (commands actor lines)) k ≡ Some c → Stands line lines actor k c
    by true own zero is = let same : line.command ≡ c = cc in first (eqb-true line.actor actor own) refl same
    by true own (suc j) is = behind j is (rw own (omega arith))
    by false own k is = behind k is (rw own (omega arith))

declared_in : (label : List ℕ) (lines : List Line) (actor k : ℕ) (c : Command) → slice_get (commands actor lines) k ≡ Some c → declares label c ≡ true → is_declared label lines ≡ true
declared_in label [] actor k c is d = cc
declared_in label (line ∷ lines) actor k c is d = elim (stands line lines actor k c is) [
  | first own k0 same ↦ ap (λ b. b || is_declared label lines) (ap (declares label) same ∙ d)
  | behind j there count ↦ or_right (declares label line.command) (is_declared label lines) (declared_in label lines actor j c there d)
]

record Split (label : List ℕ) (lines : List Line) : Type 0 where
  before : List Line
  line : Line
  after : List Line
  cut : lines ≡ before ++ line ∷ after
  says : declares label line.command ≡ true

split_of : (label : List ℕ) (lines : List Line) → is_declared label lines ≡ true → Split label lines
split_of label [] h = absurd (true≢false (sym h))
split_of label (line ∷ lines) h = by (declares label line.command) refl h (λ more. split_of label lines more)
  where
    by : (b : Bool) → declares label line.command ≡ b → (b || is_declared label lines) ≡ true → (is_declared label lines ≡ true → Split label lines) → Split label (line ∷ lines)
    by true is h again = record { before = []; line = line; after = lines; cut = refl; says = is }
    by false is h again = let s = again h in record { before = line ∷ s.before; line = s.line; after = s.after; cut = ap (λ l. line ∷ l) s.cut; says = s.says }

labels_behind : (line : Line) (lines : List Line) → HasOwnLabels (line ∷ lines) → HasOwnLabels lines
labels_behind line lines h before x after label cut says =
    (or_parts (declares label line.command) (is_declared label before) (h (line ∷ before) x after label (ap (λ l. line ∷ l) cut) says)).1

label_once : (label : List ℕ) (line : Line) (lines : List Line) → HasOwnLabels (line ∷ lines) → declares label line.command ≡ true → is_declared label lines ≡ true → ⊥
label_once label line lines h here more =
    let s = split_of label lines more in
    let none = h (line ∷ s.before) s.line s.after label (ap (λ l. line ∷ l) s.cut) s.says in
    true≢false (sym here ∙ (or_parts (declares label line.command) (is_declared label s.before) none).0)

pub one_line : (label : List ℕ) (lines : List Line) → HasOwnLabels lines → (a m b n : ℕ) (c d : Command) → slice_get (commands a lines) m ≡ Some c → declares label c ≡ true
    → slice_get (commands b lines) n ≡ Some d → declares label d ≡ true → (a ≡ b) × (m ≡ n)
one_line label [] h a m b n c d x says y too = cc
one_line label (line ∷ lines) h a m b n c d x says y too = elim (stands line lines a m c x) [
  | first own k0 same ↦ elim (stands line lines b n d y) [
    | first mine k1 also ↦ (sym own ∙ mine, k0 ∙ sym k1)
    | behind j there count ↦ absurd (label_once label line lines h (ap (declares label) same ∙ says) (declared_in label lines b j d there too))
  ]
  | behind i here counted ↦ elim (stands line lines b n d y) [
    | first mine k1 also ↦ absurd (label_once label line lines h (ap (declares label) also ∙ too) (declared_in label lines a i c here says))
    | behind j there count ↦
        let both = one_line label lines (labels_behind line lines h) a i b j c d here says there too in
        (both.0, counted ∙ ap₂ (λ k x. k + cond (line.actor == x) 1 0) both.1 both.0 ∙ sym count)
  ]
]

-- ---- submissions

pub asks_submit : (o : Option Command) (label : List ℕ) (urgency : ℕ) (needs : List rules.Named) (text : List ℕ) → option_and_then job_ask_of o ≡ Some (rules.Submit label urgency needs text)
    → (c : Command) × (o ≡ Some c) × (declares label c ≡ true)
asks_submit None label urgency needs text is = cc
asks_submit (Some c) label urgency needs text is = (c, refl, of c is)
  where
    of : (c : Command) → job_ask_of c ≡ Some (rules.Submit label urgency needs text) → declares label c ≡ true
    of (command.Submit other urgent depends spec) is = let same : other ≡ label = cc in (bytes_eq-Decides other label).1 same
    of _ is = cc

-- ---- logs grow

-- what a command has begun it has begun later too
pub submitted_later : (log more : Log) (by : By) (id : ℕ) → HasSubmitted log by id → HasSubmitted (log ++ more) by id
submitted_later log more by id h = (
  h.0,
  record {
    authors = h.1.authors;
    groups = h.1.groups;
    landing = subst (λ l. Contains l (service.Happened (event.Landed primary h.0 h.1.authors h.1.groups))) (sym (filter_map-append served log more))
        (Contains-append_left (service_of log) (service_of more) (service.Happened (event.Landed primary h.0 h.1.authors h.1.groups)) h.1.landing);
    group = h.1.group;
    one = h.1.one;
    alone = h.1.alone;
    begins = h.1.begins;
  },
)

-- ---- a label names one job

pub names_later : (set : Setup) (log more : Log) (label : List ℕ) (id : ℕ) → Names (instance_of set) log label id → Names (instance_of set) (log ++ more) label id
names_later set log more label id n = record {
  by = n.by;
  urgency = n.urgency;
  needs = n.needs;
  text = n.text;
  asks = n.asks;
  landed = submitted_later log more n.by id n.landed;
}

pub names_one : (set : Setup) → HasOwnLabels set.work.lines → (c : List Entry) → IsLegal set c → (label : List ℕ) (id other : ℕ) → id < 2 ^ 64
    → Names (instance_of set) (log_in set.work c) label id → Names (instance_of set) (log_in set.work c) label other → other ≡ id
names_one set labels c legal label id other small n m =
    let a = asks_submit (command_at set.work n.by) label n.urgency n.needs n.text n.asks in
    let b = asks_submit (command_at set.work m.by) label m.urgency m.needs m.text m.asks in
    let one = one_line label set.work.lines labels m.by.actor m.by.command n.by.actor n.by.command b.0 a.0 b.1 b.2 a.1 a.2 in
    let same : m.by ≡ n.by = ap₂ (λ (x k : ℕ). (let by : By = record { actor = x; command = k } in by)) one.0 one.1 in
    begins_one set c legal n.by id other small n.landed (subst (λ by. HasSubmitted (log_in set.work c) by other) same m.landed)
