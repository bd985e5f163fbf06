-- Targets of rows, and the open advances of the log.
use Rattle.std.proofs.Common.{◌≡◌, ℕ, ◌+◌, ◌-◌, ◌≤◌, ◌&&◌, ◌||◌, ◌⊎◌, inl, inr, List, [], ◌∷◌, ◌++◌, Bool, true, false, cond, Option, Some, None, Contains, refl, sym, ap, ap₂, ◌∙◌, subst, true≢false, arith}
use Rattle.std.specs.Prelude.{filter_map}
use Rattle.std.specs.List.{cons_option, list_any}
use Rattle.std.proofs.lemmas.Bool.{le-leb, or_parts}
use Rattle.job_rules.proofs.Among.{Among, among_from, contains_from}
use Rattle.kvs_rules.proofs.Asking.{command_is}
use Rattle.kvs_rules.proofs.Sequences.{until-append}
use Rattle.kvs_rules.proofs.Stores.{any_push}
use Rattle.kvs_rules.specs.Sequence.{until}
use Rattle.kvs_txn.specs.declared.txn.By.{By}
use Rattle.instance_rules.specs.Log.{Advance, Instance, IsOpen, JobAsk as Asks, Log, Moment, Issued, before_issue, is_issued, is_replied, issues_now, now_of, replies_now}
use Rattle.job_commands.specs.Agrees.{AgreesCommands, HasLanded, StageAgrees}
use Rattle.job_commands.specs.Asks.{told}
use Rattle.job_commands.specs.Rows.{CommandsValue}
use Rattle.job_commands.specs.declared.ask.JobAsk.{JobAsk}
use Rattle.job_commands.specs.declared.ask.JobAsk.TheVariants as ask
use Rattle.job_commands.specs.declared.row.Row.{Row}
use Rattle.job_commands.specs.declared.row.Stage.{Stage}
use Rattle.job_commands.specs.declared.row.Stage.TheVariants as stage
use Rattle.job_clock.specs.Targets.{IsNewTarget, IsReached, target_at, target_by, target_in, targets_of}

-- ---- lists

pub from_kept : {A B : Type 0} (f : A → Option B) (xs : List A) (y : B) → Among y (filter_map f xs) → (x : A) × Among x xs × (f x ≡ Some y)
from_kept f [] y i = absurd i
from_kept {A} {B} f (x ∷ xs) y i = at (f x) refl (from_kept f xs y) i
  where
    at : (o : Option B) → f x ≡ o → (Among y (filter_map f xs) → (z : A) × Among z xs × (f z ≡ Some y)) → Among y (cons_option o (filter_map f xs)) → (z : A) × Among z (x ∷ xs) × (f z ≡ Some y)
    at None e more j = let m = more j in (m.0, inr m.1, m.2)
    at (Some z) e more (inl same) = (x, inl refl, e ∙ ap Some same)
    at (Some z) e more (inr j) = let m = more j in (m.0, inr m.1, m.2)

pub to_kept : {A B : Type 0} (f : A → Option B) (xs : List A) (x : A) (y : B) → Among x xs → f x ≡ Some y → Among y (filter_map f xs)
to_kept f [] x y i e = absurd i
to_kept {A} {B} f (z ∷ zs) x y i e = at (f z) refl (λ j. to_kept f zs x y j e) i
  where
    at : (o : Option B) → f z ≡ o → (Among x zs → Among y (filter_map f zs)) → (z ≡ x) ⊎ Among x zs → Among y (cons_option o (filter_map f zs))
    at None g more (inl same) = (let both : None ≡ Some y = sym g ∙ ap f same ∙ e in cc)
    at (Some w) g more (inl same) = (let both : Some w ≡ Some y = sym g ∙ ap f same ∙ e in let is : w ≡ y = cc in inl is)
    at None g more (inr j) = more j
    at (Some w) g more (inr j) = inr (more j)

-- the elements before one that passes first
until_new : {A : Type 0} (test : A → Bool) (xs : List A) (y : A) → list_any test xs ≡ false → test y ≡ true → until test (xs ++ y ∷ []) ≡ xs
until_new test [] y none passes = ap (λ b. cond b [] (y ∷ [])) passes
until_new {A} test (x ∷ xs) y none passes = at (test x) (λ e. until_new test xs y e passes) none
  where
    at : (b : Bool) → (list_any test xs ≡ false → until test (xs ++ y ∷ []) ≡ xs) → (b || list_any test xs) ≡ false → cond b [] (x ∷ until test (xs ++ y ∷ [])) ≡ x ∷ xs
    at true more e = absurd (true≢false e)
    at false more e = ap (λ l. x ∷ l) (more e)

-- ---- rows

-- the advance of this row waits for this second
pub record WaitsFor (row : Row) (target : ℕ) : Type 0 where
  pub seconds : ℕ
  pub asks : row.ask ≡ ask.Advance seconds
  pub waits : row.stage ≡ stage.Waits
  pub is : row.issued + seconds ≡ target

pub target_is : (row : Row) (seconds : ℕ) → row.ask ≡ ask.Advance seconds → row.stage ≡ stage.Waits → target_in row ≡ Some (row.issued + seconds)
target_is row seconds asks waits = ap (target_at row) waits ∙ ap (target_by row.issued) asks

waits_by : (issued : ℕ) (x : JobAsk) (target : ℕ) → target_by issued x ≡ Some target → (seconds : ℕ) × (x ≡ ask.Advance seconds) × (issued + seconds ≡ target)
waits_by issued (ask.Advance seconds) target e = (seconds, refl, cc)
waits_by issued _ target e = cc

waits_at : (row : Row) (s : Stage) (target : ℕ) → target_at row s ≡ Some target → (s ≡ stage.Waits) × (target_by row.issued row.ask ≡ Some target)
waits_at row stage.Waits target e = (refl, e)
waits_at row (stage.Landed number) target e = cc

pub waits_for : (row : Row) (target : ℕ) → target_in row ≡ Some target → WaitsFor row target
waits_for row target e =
    let at = waits_at row row.stage target e in
    let by = waits_by row.issued row.ask target at.1 in
    record { seconds = by.0; asks = by.1; waits = at.0; is = by.2 }

pub is_reached : (row : Row) (now target : ℕ) → target_in row ≡ Some target → target ≤ now → IsReached row now
is_reached row now target e within =
    let w = waits_for row target e in
    let since : row.issued ≤ now = omega (arith, w.is, within) in
    let over : w.seconds ≤ now - row.issued = omega (arith, w.is, within) in
    record {
      seconds = w.seconds;
      asks = w.asks;
      waits = w.waits;
      passed = ap₂ (λ a b. a && b) (le-leb row.issued now since) (le-leb w.seconds (now - row.issued) over);
    }

pub row_of_target : (v : CommandsValue) (target : ℕ) → Contains (targets_of v) target → (row : Row) × Among row v.rows × (target_in row ≡ Some target)
row_of_target v target c = from_kept target_in v.rows target (among_from (targets_of v) target c)

pub target_of_row : (v : CommandsValue) (row : Row) (target : ℕ) → Among row v.rows → target_in row ≡ Some target → Contains (targets_of v) target
target_of_row v row target i e = contains_from (targets_of v) target (to_kept target_in v.rows row target i e)

pub reached_row : (v : CommandsValue) (now target : ℕ) → Contains (targets_of v) target → target ≤ now → (row : Row) × Contains v.rows row × IsReached row now
reached_row v now target c within =
    let r = row_of_target v target c in
    (r.0, contains_from v.rows r.0 r.1, is_reached r.0 now target r.2 within)

-- ---- the log

advance_is : (x : JobAsk) (seconds : ℕ) → told x ≡ Advance seconds → x ≡ ask.Advance seconds
advance_is (ask.Advance n) seconds e = let same : n ≡ seconds = cc in ap ask.Advance same
advance_is _ seconds e = cc

advance_waits : (log : Log) (by : By) (x : JobAsk) (s : Stage) (seconds : ℕ) → x ≡ ask.Advance seconds → StageAgrees log by x s → s ≡ stage.Waits
advance_waits log by x stage.Waits seconds is a = refl
advance_waits log by x (stage.Landed number) seconds is a = absurd (subst (HasLanded log by number) is a.1)

same_ask : (inst : Instance) (a b : By) (x y : Asks) → inst.asks a ≡ Some x → inst.asks b ≡ Some y → a ≡ b → x ≡ y
same_ask inst a b x y ea eb same = let both : Some x ≡ Some y = sym ea ∙ ap inst.asks same ∙ eb in cc

-- an advance that is open by the log, with its target
pub record IsOpenTarget (inst : Instance) (log : Log) (target : ℕ) : Type 0 where
  pub by : By
  pub seconds : ℕ
  pub asks : inst.asks by ≡ Some (Advance seconds)
  pub waits : IsOpen by log
  pub is : target ≡ now_of inst (before_issue by log) + seconds

module _ (v : CommandsValue) (inst : Instance) (log : Log) (h : AgreesCommands v inst log) where
  pub target_known : (target : ℕ) → IsOpenTarget inst log target → Contains (targets_of v) target
  target_known target o =
      let r = h.all o.by (ask.Advance o.seconds) o.asks o.waits in
      let a = h.rows r.0 r.1 in
      let asks = advance_is r.0.ask o.seconds (same_ask inst r.0.by o.by (told r.0.ask) (Advance o.seconds) a.asks o.asks r.2) in
      let waits = advance_waits log r.0.by r.0.ask r.0.stage o.seconds asks a.staged in
      let issued : r.0.issued ≡ now_of inst (before_issue o.by log) = a.issued ∙ ap (λ b. now_of inst (before_issue b log)) r.2 in
      target_of_row v r.0 target (among_from v.rows r.0 r.1) (target_is r.0 o.seconds asks waits ∙ ap (λ n. Some (n + o.seconds)) issued ∙ ap Some (sym o.is))

  pub target_open : (target : ℕ) → Contains (targets_of v) target → IsOpenTarget inst log target
  target_open target c =
      let r = row_of_target v target c in
      let w = waits_for r.0 target r.2 in
      let a = h.rows r.0 (contains_from v.rows r.0 r.1) in
      record {
        by = r.0.by;
        seconds = w.seconds;
        asks = a.asks ∙ ap (λ x. Some (told x)) w.asks;
        waits = a.waits;
        is = sym w.is ∙ ap (λ n. n + w.seconds) a.issued;
      }

-- ---- after a moment

issues : (by : By) (m : Moment) → issues_now by m ≡ true → m ≡ Issued by
issues by (Issued other) e = ap Issued (sym (command_is by other e))
issues by _ e = cc

pub unanswered_before : (by : By) (log : Log) (m : Moment) → IsOpen by (log ++ m ∷ []) → is_replied by log ≡ false
unanswered_before by log m o = (or_parts (is_replied by log) _ (sym (any_push (replies_now by) log m) ∙ o.unanswered)).0

-- what a command that is open now was: it has been open before, or is issued now
pub was_open : (by : By) (log : Log) (m : Moment) → IsOpen by (log ++ m ∷ []) → IsOpen by log ⊎ ((m ≡ Issued by) × (is_issued by log ≡ false))
was_open by log m o = at (is_issued by log) refl
  where
    at : (b : Bool) → is_issued by log ≡ b → IsOpen by log ⊎ ((m ≡ Issued by) × (is_issued by log ≡ false))
    at true e = inl (record { issued = e; unanswered = unanswered_before by log m o })
    at false e = inr (issues by m (ap (λ b. b || issues_now by m) (sym e) ∙ sym (any_push (issues_now by) log m) ∙ o.issued), e)

pub issue_kept : (by : By) (log : Log) (m : Moment) → IsOpen by log → before_issue by (log ++ m ∷ []) ≡ before_issue by log
issue_kept by log m o = until-append (issues_now by) log (m ∷ []) o.issued

module _ (v new : CommandsValue) (inst : Instance) (log : Log) (m : Moment) (h : AgreesCommands v inst log) (k : AgreesCommands new inst (log ++ m ∷ [])) where
  new_target : (target : ℕ) (o : IsOpenTarget inst (log ++ m ∷ []) target) → m ≡ Issued o.by → is_issued o.by log ≡ false → IsNewTarget inst log m target
  new_target target o now fresh =
      let passes : issues_now o.by m ≡ true = (or_known (is_issued o.by log) _ fresh (sym (any_push (issues_now o.by) log m) ∙ o.waits.issued)) in
      record {
        by = o.by;
        seconds = o.seconds;
        issues = now;
        asks = o.asks;
        is = o.is ∙ ap (λ l. now_of inst l + o.seconds) (until_new (issues_now o.by) log m fresh passes);
      }
    where
      or_known : (a b : Bool) → a ≡ false → (a || b) ≡ true → b ≡ true
      or_known true b none e = absurd (true≢false none)
      or_known false b none e = e

  pub targets_go_on : (target : ℕ) → Contains (targets_of new) target → Contains (targets_of v) target ⊎ IsNewTarget inst log m target
  targets_go_on target c =
      let o = target_open new inst (log ++ m ∷ []) k target c in
      elim (was_open o.by log m o.waits) [
        | inl old ↦ inl (target_known v inst log h target (record {
          by = o.by;
          seconds = o.seconds;
          asks = o.asks;
          waits = old;
          is = o.is ∙ ap (λ l. now_of inst l + o.seconds) (issue_kept o.by log m old);
        }))
        | inr now ↦ inr (new_target target o now.0 now.1)
      ]
