-- What a workload that keeps to its limits gives an instance.
use Rattle.std.proofs.Common.{◌≡◌, inl, inr, ℕ, zero, suc, ◌+◌, ◌<◌, ◌≤◌, ◌==◌, ◌||◌, List, [], ◌∷◌, ◌++◌, length, Bool, true, false, cond, Option, Some, None, filter_map, take, drop, count_by, All, refl, sym, ap, ap₂, ◌∙◌, subst, arith, true≢false}
use Rattle.std.specs.Prelude.{IfSome, IsSome, slice_get}
use Rattle.std.specs.Option.{option_and_then, option_map_or}
use Rattle.std.specs.List.{cons_option, list_any}
use Rattle.std.specs.Str.{bytes_eq}
use Rattle.std.proofs.lemmas.Bool.{cases_lt}
use Rattle.std.proofs.lemmas.List.Sums.{sum_by-cons}
use Rattle.std.proofs.lemmas.Option.{get_or_from_slice_get, slice_get_within}
use Rattle.std.proofs.lemmas.Slice.Eq.{bytes_eq-Decides}
use Rattle.services.specs.fl_digest.declared.Hash.{Hash}
use Rattle.services.specs.kvs_txn.declared.txn.By.{By}
use Rattle.services.specs.job_rules.Fits.{IsGrant}
use Rattle.services.specs.resource_set.Writing.{r_text}
use Rattle.services.specs.resource_set.declared.node.Resources.{Resources}
use Rattle.services.specs.instance_rules.Log as rules
use Rattle.services.specs.instance_rules.Log.{IsInRange, IsInstance}
use Rattle.services.specs.job_commands.Agrees.{HasUniqueLabels}
use Rattle.services.specs.answers.Chronicle.{Setup}
use Rattle.services.specs.answers.Commands.{broker_of, command_at}
use Rattle.services.specs.answers.Jobs.{IsSetup, instance_of, job_ask_at, job_ask_of}
use Rattle.services.proofs.answers_proofs.OwnLinks.{built_asks_own}
use Rattle.services.proofs.answers_proofs.JobLogs.{built_instance, is_instance}
use Rattle.services.proofs.answers_proofs.Services.{eqb_is}
use Rattle.services.specs.Agrees.{IsGiven}
use Rattle.services.specs.workload.declared.work.Actor.{Actor}
use Rattle.services.specs.workload.declared.work.Command.{Command}
use Rattle.services.specs.workload.declared.work.Command.TheVariants as command
use Rattle.services.specs.workload.declared.work.Line.{Line}
use Rattle.services.specs.workload.declared.work.Workload.{Workload}
use Rattle.services.specs.workload.Laws.{HasOwnLabels, IsBuilt, IsWithin}
use Rattle.services.specs.workload.Limits.{most_severity, most_urgency}
use Rattle.services.specs.workload.Tallies.{declares}
use Rattle.instance.specs.Agrees.{is_of}
use Rattle.services.specs.tap.Factors.{priority_by}
use Rattle.services.specs.manager_rules.declared.terms.Terms.{Terms}

-- ---- commands stand in lines

-- the line of the actor's command of this number
pub record IsLineOf (lines : List Line) (actor number : ℕ) (c : Command) : Type 0 where
  pub place : ℕ
  pub line : Line
  pub there : slice_get lines place ≡ Some line
  pub own : line.actor ≡ actor
  pub is : line.command ≡ c
  pub counted : count_by (is_of actor) (take place lines) ≡ number

abbrev own_command : ℕ → Line → Option Command
own_command actor line = cond (line.actor == actor) (Some line.command) None

line_of : (lines : List Line) (actor number : ℕ) (c : Command) → slice_get (filter_map (own_command actor) lines) number ≡ Some c → IsLineOf lines actor number c
line_of [] actor number c e = cc
line_of (l ∷ lines) actor number c e = on (l.actor == actor) refl number (λ k h. line_of lines actor k c h) e
  where
    counts : (place : ℕ) (b : Bool) → (l.actor == actor) ≡ b → count_by (is_of actor) (l ∷ take place lines) ≡ cond b 1 0 + count_by (is_of actor) (take place lines)
    counts place b is = sum_by-cons (λ x. cond (is_of actor x) 1 0) l (take place lines) ∙ ap (λ t. cond t 1 0 + count_by (is_of actor) (take place lines)) is

    some_is : (x : Command) → ◌≡◌ {A = Option Command} (Some x) (Some c) → x ≡ c
    some_is x e = cc

    on : (b : Bool) → (l.actor == actor) ≡ b → (k : ℕ) → ((k : ℕ) → slice_get (filter_map (own_command actor) lines) k ≡ Some c → IsLineOf lines actor k c)
        → slice_get (cons_option (cond b (Some l.command) None) (filter_map (own_command actor) lines)) k ≡ Some c → IsLineOf (l ∷ lines) actor k c
    on true is zero again h = record { place = 0; line = l; there = refl; own = eqb_is l.actor actor is; is = some_is l.command h; counted = refl }
    on true is (suc k) again h =
        let more = again k h in
        record {
          place = suc more.place;
          line = more.line;
          there = more.there;
          own = more.own;
          is = more.is;
          counted = counts more.place true is ∙ (let n = more.counted in omega arith);
        }
    on false is k again h =
        let more = again k h in
        record {
          place = suc more.place;
          line = more.line;
          there = more.there;
          own = more.own;
          is = more.is;
          counted = counts more.place false is ∙ (let n = more.counted in omega arith);
        }

-- what a command asks is what some line asks
pub record IsAskedIn (work : Workload) (by : By) (ask : rules.JobAsk) : Type 0 where
  pub command : Command
  pub asks : job_ask_of command ≡ Some ask
  pub line : IsLineOf work.lines by.actor by.command command

pub asked_in : (work : Workload) (by : By) (ask : rules.JobAsk) → job_ask_at work by ≡ Some ask → IsAskedIn work by ask
asked_in work by ask e = on (command_at work by) refl e
  where
    on : (o : Option Command) → command_at work by ≡ o → option_and_then job_ask_of o ≡ Some ask → IsAskedIn work by ask
    on None is h = cc
    on (Some c) is h = record { command = c; asks = h; line = line_of work.lines by.actor by.command c is }

pub line_at : (P : Line → Type 0) (lines : List Line) (k : ℕ) (line : Line) → All P lines → slice_get lines k ≡ Some line → P line
line_at P lines k line h e = subst P (get_or_from_slice_get lines k line line e) (h k line (slice_get_within lines k line e))

-- ---- the ranges

some_there : {A : Type 0} (xs : List A) (k : ℕ) → k < length xs → (x : A) × (slice_get xs k ≡ Some x)
some_there [] k low = absurd (omega arith)
some_there (x ∷ xs) zero low = (x, refl)
some_there (x ∷ xs) (suc k) low = some_there xs k (omega arith)

in_range : (c : Command) → IsBuilt c → IfSome (job_ask_of c) IsInRange
in_range (command.Submit label urgency depends spec) h = let high : urgency ≤ most_urgency = h in omega arith
in_range (command.Raise label kind severity note) h = let high : severity ≤ most_severity = h.0 in (omega arith, h.1, h.2)
in_range (command.Urgency label urgency) h = let high : urgency ≤ most_urgency = h in omega arith
in_range _ h = tt

-- ---- what a run is given

module _ (set : Setup) (within : IsWithin set.size set.work) (built : All (λ l. IsBuilt l.command) set.work.lines) where
  actor_known : (by : By) (ask : rules.JobAsk) → job_ask_at set.work by ≡ Some ask → by.actor < length set.work.actors
  actor_known by ask e =
      let asked = asked_in set.work by ask e in
      subst (λ a. a < length set.work.actors) asked.line.own (line_at (λ l. l.actor < length set.work.actors) set.work.lines asked.line.place asked.line.line within.known asked.line.there)

  ask_in_range : (by : By) (ask : rules.JobAsk) → job_ask_at set.work by ≡ Some ask → IsInRange ask
  ask_in_range by ask e =
      let asked = asked_in set.work by ask e in
      let sound = line_at (λ l. IsBuilt l.command) set.work.lines asked.line.place asked.line.line built asked.line.there in
      subst (λ o. IfSome o IsInRange) asked.asks (in_range asked.command (subst IsBuilt asked.line.is sound))

  pub is_setup : set.base ≡ None → set.grant ≡ r_text set.resources → IsGrant set.resources.nodes → IsSetup set
  is_setup anew text grant = record {
    anew = anew;
    text = text;
    grant = grant;
    asks = λ by ask e. (let low = actor_known by ask e in let few = within.actors in omega arith, ask_in_range by ask e);
  }

  -- the broker of a command on jobs is one of the instance's
  pub in_ranks : All (λ a. a.rank < set.size) set.work.actors → (by : By) → IsSome (job_ask_at set.work by) → broker_of set.work by.actor < set.size
  in_ranks ranks by some = on (job_ask_at set.work by) refl some
    where
      ranked : (o : Option Actor) → slice_get set.work.actors by.actor ≡ o → by.actor < length set.work.actors → option_map_or (λ a. a.rank) o 0 < set.size
      ranked None e low = absurd (past (some_there set.work.actors by.actor low) e)
        where
          past : {A : Type 0} {o : Option A} → (x : A) × (o ≡ Some x) → o ≡ None → ⊥
          past h e = let never : None ≡ Some h.0 = sym e ∙ h.1 in cc
      ranked (Some actor) e low = subst (λ (a : Actor). a.rank < set.size) (get_or_from_slice_get set.work.actors by.actor actor actor e) (ranks by.actor actor low)

      on : (o : Option rules.JobAsk) → job_ask_at set.work by ≡ o → IsSome o → broker_of set.work by.actor < set.size
      on None e s = absurd (true≢false (sym s))
      on (Some ask) e s = ranked (slice_get set.work.actors by.actor) refl (actor_known by ask e)

-- ---- the labels

-- the text of a label that is submitted
abbrev submits_as : List ℕ → rules.JobAsk → Bool
submits_as label (rules.Submit other urgency needs text) = bytes_eq other label
submits_as label _ = false

declares_so : (label : List ℕ) (c : Command) → declares label c ≡ option_map_or (submits_as label) (job_ask_of c) false
declares_so label (command.Submit other urgency depends spec) = refl
declares_so label _ = refl

same_bytes : (xs : List ℕ) → bytes_eq xs xs ≡ true
same_bytes xs = (bytes_eq-Decides xs xs).1 refl

does_declare : (label : List ℕ) (urgency : ℕ) (needs : List rules.Named) (text : List ℕ) (c : Command) → job_ask_of c ≡ Some (rules.Submit label urgency needs text) → declares label c ≡ true
does_declare label urgency needs text c e = declares_so label c ∙ ap (λ o. option_map_or (submits_as label) o false) e ∙ same_bytes label

split_there : {A : Type 0} (xs : List A) (k : ℕ) (x : A) → slice_get xs k ≡ Some x → xs ≡ take k xs ++ x ∷ drop (suc k) xs
split_there [] k x e = cc
split_there (y ∷ xs) zero x e = ap (λ z. z ∷ xs) (one y x e)
  where
    one : {A : Type 0} (y x : A) → ◌≡◌ {A = Option A} (Some y) (Some x) → y ≡ x
    one y x e = cc
split_there (y ∷ xs) (suc k) x e = ap (λ l. y ∷ l) (split_there xs k x e)

any_before : {A : Type 0} (p : A → Bool) (xs : List A) (i j : ℕ) (x : A) → i < j → slice_get xs i ≡ Some x → p x ≡ true → list_any p (take j xs) ≡ true
any_before p [] i j x low e h = cc
any_before p (y ∷ xs) i zero x low e h = absurd (omega arith)
any_before p (y ∷ xs) zero (suc j) x low e h = ap (λ b. b || list_any p (take j xs)) (ap p (one y x e) ∙ h)
  where
    one : {A : Type 0} (y x : A) → ◌≡◌ {A = Option A} (Some y) (Some x) → y ≡ x
    one y x e = cc
any_before p (y ∷ xs) (suc i) (suc j) x low e h = or_right (p y) (list_any p (take j xs)) (any_before p xs i j x (omega arith) e h)
  where
    or_right : (a b : Bool) → b ≡ true → (a || b) ≡ true
    or_right true b h = refl
    or_right false b h = h

-- no two lines declare one label
no_later : (lines : List Line) → HasOwnLabels lines → (label : List ℕ) (i j : ℕ) (x y : Line) → i < j → slice_get lines i ≡ Some x → slice_get lines j ≡ Some y → declares label x.command ≡ true → declares label y.command ≡ true → ⊥
no_later lines own label i j x y low there after first second =
    true≢false (sym (any_before (λ line. declares label line.command) lines i j x low there first) ∙ own (take j lines) y (drop (suc j) lines) label (split_there lines j y after) second)

one_place : (lines : List Line) → HasOwnLabels lines → (label : List ℕ) (i j : ℕ) (x y : Line) → slice_get lines i ≡ Some x → slice_get lines j ≡ Some y → declares label x.command ≡ true → declares label y.command ≡ true → i ≡ j
one_place lines own label i j x y there after first second = elim (cases_lt i j) [
  | inl below ↦ absurd (no_later lines own label i j x y below there after first second)
  | inr above ↦ elim (cases_lt j i) [
    | inl below ↦ absurd (no_later lines own label j i y x below after there second first)
    | inr same ↦ omega arith
  ]
]

pub unique_labels : (set : Setup) → HasOwnLabels set.work.lines → HasUniqueLabels (instance_of set)
unique_labels set own a b label urgency other needs named text more asks_a asks_b =
    let one = asked_in set.work a _ asks_a in
    let two = asked_in set.work b _ asks_b in
    let first : declares label one.line.line.command ≡ true = ap (declares label) one.line.is ∙ does_declare label urgency needs text one.command one.asks in
    let second : declares label two.line.line.command ≡ true = ap (declares label) two.line.is ∙ does_declare label other named more two.command two.asks in
    let place : one.line.place ≡ two.line.place = one_place set.work.lines own label one.line.place two.line.place one.line.line two.line.line one.line.there two.line.there first second in
    let line : one.line.line ≡ two.line.line = one_line (sym one.line.there ∙ ap (slice_get set.work.lines) place ∙ two.line.there) in
    let actor : a.actor ≡ b.actor = sym one.line.own ∙ ap (λ l. l.actor) line ∙ two.line.own in
    let number : a.command ≡ b.command = sym one.line.counted ∙ ap₂ (λ n k. count_by (is_of n) (take k set.work.lines)) actor place ∙ two.line.counted in
    ap₂ (λ n k. record { actor = n; command = k }) actor number
  where
    one_line : {x y : Line} → ◌≡◌ {A = Option Line} (Some x) (Some y) → x ≡ y
    one_line e = cc

-- ---- the whole

pub is_given : (set : Setup) (size fanout : ℕ) (hash : Hash) (grant : Resources) (birth : ℕ) (terms : Terms) → set.size ≡ size → set.fanout ≡ fanout → set.hash ≡ hash → set.grant ≡ r_text grant → set.resources ≡ grant → set.base ≡ None → set.terms ≡ terms → set.birth ≡ birth
    → IsGrant grant.nodes → IsWithin set.size set.work → All (λ a. a.rank < set.size) set.work.actors → All (λ l. IsBuilt l.command) set.work.lines → HasOwnLabels set.work.lines → IsGiven (instance_of set) size fanout hash grant birth terms
is_given set size fanout hash grant birth terms brokers children hashed text resources anew same born granted within ranks built own = record {
  hash = hashed;
  served = record {
    valid = is_instance set (is_setup set within built anew (text ∙ ap r_text (sym resources)) (subst (λ (r : Resources). IsGrant r.nodes) (sym resources) granted));
    unique = unique_labels set own;
    ranks = in_ranks set within built ranks;
    served = record {
      built = built_instance set anew;
      answer = ap (λ t. priority_by t.weights) same;
      policy = ap (λ t. t.policy) same;
      limits = ap (λ t. t.limits) same;
      shown = ap (λ t. t.shown) same;
    };
    birth = born;
    grant = resources;
    size = brokers;
    fanout = children;
    links = built_asks_own set built;
  };
}
