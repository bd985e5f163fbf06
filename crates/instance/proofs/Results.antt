-- What job commands are told, and what is left of those that wait for the end of a job.
use Rattle.std.proofs.Common.{◌≡◌, ◌⊎◌, inl, inr, ℕ, suc, arith, List, [], ◌∷◌, ◌++◌, Bool, true, false, ◌&&◌, ◌||◌, cond, not, Option, Some, None, find, is_some, refl, sym, ap, ◌∙◌, subst, true≢false}
use Rattle.std.specs.Prelude.{Contains, IsSome}
use Rattle.std.specs.Option.{option_map, option_map_or}
use Rattle.services.specs.kvs_rules.Log.{is_denied, is_landed}
use Rattle.services.proofs.kvs_rules_proofs.Asking.{command_is}
use Rattle.services.specs.kvs_txn.declared.txn.By.{By}
use Rattle.services.specs.job_states.declared.job.State.{State}
use Rattle.services.specs.instance_rules.Family.{IsLeftResult}
use Rattle.services.specs.instance_rules.Log as rules
use Rattle.services.specs.instance_rules.Log.{Instance, IsOpen, JobReply, Log, Replied, is_decided, service_of}
use Rattle.services.specs.instance_rules.Replies.{IsLegalReply}
use Rattle.services.specs.job_commands.Agrees.{AgreesCommands, HasLanded, HasRow, StageAgrees}
use Rattle.services.specs.job_commands.Asks.{told}
use Rattle.services.specs.job_commands.Rows.{CommandsValue}
use Rattle.services.specs.job_commands.declared.ask.JobAsk.{JobAsk}
use Rattle.services.specs.job_commands.declared.ask.JobAsk.TheVariants as ask
use Rattle.services.specs.job_commands.declared.row.Row.{Row}
use Rattle.services.specs.job_commands.declared.row.Stage.{Stage}
use Rattle.services.specs.job_commands.declared.row.Stage.TheVariants as stage
use Rattle.services.proofs.job_commands_proofs.Tables.{found}
use Rattle.services.specs.job_service.declared.refusals.Refused.{Refused}
use Rattle.services.specs.job_service.Agrees.{AgreesJobs}
use Rattle.services.specs.job_service.Refusals.{fault_for, is_refusal_of, row_in}
use Rattle.services.specs.job_service.Replies.{can_reply, is_kept_back, is_ready_in}
use Rattle.services.specs.job_service.Value.{JobServiceValue}
use Rattle.services.specs.Agrees.{AgreesServices}
use Rattle.services.specs.Asks.{Answers}
use Rattle.services.specs.Value.{ServicesValue}
use Rattle.services.specs.answers.declared.chronicle.Entry.{Entry}
use Rattle.services.specs.answers.declared.chronicle.Entry.TheVariants as entry
use Rattle.services.specs.answers.declared.chronicle.Reply.{Reply}
use Rattle.services.specs.answers.declared.chronicle.Reply.TheVariants as reply
use Rattle.services.specs.answers.Chronicle.{Setup, is_issued}
use Rattle.services.specs.answers.Jobs.{instance_of, job_ask_at, job_reply_of, living_of, log_in}
use Rattle.services.specs.answers.Legal.{HasReplyGrounds, IsLegalEntry, IsUncarried}
use Rattle.services.specs.answers.Whole.{HasClosingGrounds, has_ended, is_closing}
use Rattle.instance.proofs.Families.{same_living}
use Rattle.instance.proofs.Logs.{job_replied, log_issued, log_unissued, log_with, served_log}

-- ---- a reply that hands on what became of a command

nothing_told : {A : Type 0} (r : JobReply) → ◌≡◌ {A = Option JobReply} None (Some r) → A
nothing_told r e = cc

same_told : (x r : JobReply) → ◌≡◌ {A = Option JobReply} (Some x) (Some r) → r ≡ x
same_told x r e = cc

-- it is no closing reply
pub told_goes_on : (given : Reply) (r : JobReply) → job_reply_of given ≡ Some r → is_closing given ≡ false
told_goes_on (reply.UnfinishedFence have want) r e = nothing_told r e
told_goes_on (reply.UnfinishedWait had wanted) r e = nothing_told r e
told_goes_on (reply.UnfinishedJob where_) r e = nothing_told r e
told_goes_on reply.UnfinishedUnborn r e = nothing_told r e
told_goes_on reply.NotReached r e = nothing_told r e
told_goes_on _ r e = refl

module _ (set : Setup) (c : List Entry) (by : By) (number : Option ℕ) where
  abbrev IsFor : JobReply → Type 0
  IsFor r = IsLegalReply (instance_of set) (log_in set.work c) by r number

  -- and has its grounds
  pub told_grounds : (given : Reply) (r : JobReply) → job_reply_of given ≡ Some r → IsFor r → HasReplyGrounds set c by number given
  told_grounds (reply.Submitted id) r e h = subst IsFor (same_told _ r e) h
  told_grounds (reply.BadSpec fault) r e h = subst IsFor (same_told _ r e) h
  told_grounds (reply.Checked reason) r e h = subst IsFor (same_told _ r e) h
  told_grounds reply.NoJob r e h = subst IsFor (same_told _ r e) h
  told_grounds reply.Raised r e h = subst IsFor (same_told _ r e) h
  told_grounds reply.Ended r e h = subst IsFor (same_told _ r e) h
  told_grounds (reply.NotWaiting where_) r e h = subst IsFor (same_told _ r e) h
  told_grounds (reply.StateIs where_) r e h = subst IsFor (same_told _ r e) h
  told_grounds (reply.Info shown) r e h = subst IsFor (same_told _ r e) h
  told_grounds (reply.Jobs jobs) r e h = subst IsFor (same_told _ r e) h
  told_grounds (reply.Busy ids) r e h = subst IsFor (same_told _ r e) h
  told_grounds (reply.Behind id) r e h = subst IsFor (same_told _ r e) h
  told_grounds reply.Held r e h = subst IsFor (same_told _ r e) h
  told_grounds reply.Ready r e h = subst IsFor (same_told _ r e) h
  told_grounds (reply.EndedWith status) r e h = subst IsFor (same_told _ r e) h
  told_grounds (reply.Watched shown) r e h = subst IsFor (same_told _ r e) h
  told_grounds (reply.Advanced second) r e h = subst IsFor (same_told _ r e) h
  told_grounds reply.Shut r e h = subst IsFor (same_told _ r e) h
  told_grounds _ r e h = nothing_told r e

module _ (set : Setup) (c : List Entry) (new : ServicesValue) (by : By) (given : Reply) (number : Option ℕ) (a : Answers new (instance_of set) (log_in set.work c) by given number) where
  pub answer_goes_on : is_closing given ≡ false
  answer_goes_on = told_goes_on given a.reply a.hands

  pub answer_legal : has_ended c ≡ false → IsLegalEntry set c (entry.Replied by.actor by.command given number)
  answer_legal goes_on = record { goes_on = goes_on; grounds = told_grounds set c by number given a.reply a.hands a.legal }

  -- the services agree with it
  pub answer_agrees : AgreesServices new (instance_of set) (log_in set.work (c ++ entry.Replied by.actor by.command given number ∷ []))
  answer_agrees = subst (AgreesServices new (instance_of set)) (sym (log_with set.work c (entry.Replied by.actor by.command given number) (Replied by a.reply number) (job_replied set.work c by given number a.reply a.hands))) a.agrees

-- ---- commands that no landing carried out

neither : (a b : Bool) → (a || b) ≡ false → (a ≡ false) × (b ≡ false)
neither true b e = absurd (true≢false e)
neither false b e = (refl, e)

pub uncarried : (set : Setup) (c : List Entry) (by : By) → is_decided by (log_in set.work c) ≡ false → IsUncarried set c by
uncarried set c by none =
    let log = served_log set.work c in
    let parts = neither (is_landed by (service_of (log_in set.work c))) (is_denied by (service_of (log_in set.work c))) none in
    (ap (is_landed by) (sym log) ∙ parts.0, ap (is_denied by) (sym log) ∙ parts.1)

-- a command that waits for the end of a job was carried out by none
abbrev asks_end : rules.JobAsk → Bool
asks_end (rules.ResultOf label) = true
asks_end (rules.Watch label) = true
asks_end _ = false

waits_undecided : (log : Log) (by : By) (asked : JobAsk) (s : Stage) → asks_end (told asked) ≡ true → StageAgrees log by asked s → is_decided by log ≡ false
waits_undecided log by asked stage.Waits e h = h
waits_undecided log by asked (stage.Landed number) e h = on asked e h.1
  where
    on : (a : JobAsk) → asks_end (told a) ≡ true → HasLanded log by number a → is_decided by log ≡ false
    on (ask.Submit l urgency needs text) e landed = absurd (true≢false (sym e))
    on (ask.Cancel l) e landed = absurd (true≢false (sym e))
    on (ask.Raise l kind severity note) e landed = absurd (true≢false (sym e))
    on (ask.Urge l urgency) e landed = absurd (true≢false (sym e))
    on _ e landed = absurd landed

end_undecided : (v : CommandsValue) (inst : Instance) (log : Log) → AgreesCommands v inst log → (by : By) (asked : JobAsk) → asks_end (told asked) ≡ true → inst.asks by ≡ Some (told asked) → IsOpen by log → is_decided by log ≡ false
end_undecided v inst log h by asked end asks waits =
    let row : HasRow v by = h.all by asked asks waits in
    let agrees = h.rows row.0 row.1 in
    let same : told row.0.ask ≡ told asked = one (sym agrees.asks ∙ ap inst.asks row.2 ∙ asks) in
    subst (λ b. is_decided b log ≡ false) row.2 (waits_undecided log row.0.by row.0.ask row.0.stage (ap asks_end same ∙ end) agrees.staged)
  where
    one : {x y : rules.JobAsk} → ◌≡◌ {A = Option rules.JobAsk} (Some x) (Some y) → x ≡ y
    one e = cc

-- a command that is left for a job asks for its result, or watches it
asks_so : (set : Setup) (own : List Entry) (by : By) (where_ : State) → IsLeftResult (living_of set own) by where_ → (asked : JobAsk) × (asks_end (told asked) ≡ true) × (job_ask_at set.work by ≡ Some (told asked))
asks_so set own by where_ left = elim left.asks [
  | inl asks ↦ (ask.ResultOf left.label, refl, asks)
  | inr watches ↦ (ask.Watch left.label, refl, watches.0)
]

module _ (set : Setup) (c own : List Entry) (same : log_in set.work c ≡ log_in set.work own) (v : JobServiceValue) (h : AgreesJobs v (instance_of set) (log_in set.work own)) where
  -- one that is left at the end, in a chronicle with the same log
  pub result_uncarried : (by : By) (where_ : State) → IsLeftResult (living_of set own) by where_ → IsUncarried set c by
  result_uncarried by where_ left = uncarried set c by (ap (is_decided by) same ∙ undecided (asks_so set own by where_ left))
    where
      undecided : (asked : JobAsk) × (asks_end (told asked) ≡ true) × (job_ask_at set.work by ≡ Some (told asked)) → is_decided by (log_in set.work own) ≡ false
      undecided a = end_undecided v.commands (instance_of set) (log_in set.work own) h.commands by a.0 a.1 a.2 left.waits

  -- one that isn't issued
  pub unissued_uncarried : (by : By) → IsSome (job_ask_at set.work by) → is_issued by own ≡ false → IsUncarried set c by
  unissued_uncarried by asks none = uncarried set c by (ap (is_decided by) same ∙ (h.untold by asks (log_unissued set.work by own none)).undecided)

-- what a closing reply to a command that waits for the end of a job rests on
pub left_grounds : (set : Setup) (c own closings : List Entry) → log_in set.work c ≡ log_in set.work own → (by : By) (where_ : State) → IsLeftResult (living_of set own) by where_ → HasClosingGrounds set c closings by (reply.UnfinishedJob where_)
left_grounds set c own closings same by where_ left = (
  sym (log_issued set.work by c (ap is_some (asks_so set own by where_ left).2)) ∙ ap (rules.is_issued by) same ∙ left.waits.issued,
  subst (λ l. IsLeftResult l by where_) (sym (same_living set c own same)) left,
)

-- ---- commands that can be told

abbrev AsksJob : Instance → Log → By → Type 0
AsksJob inst log by = IsSome (inst.asks by) × IsOpen by log

refusal_found : (list : List Refused) (by : By) → is_some (fault_for list by) ≡ true → (r : Refused) × Contains list r × (by ≡ r.by)
refusal_found [] by h = absurd (true≢false (sym h))
refusal_found (r ∷ list) by h = on (is_refusal_of by r) refl (refusal_found list by) h
  where
    later : (x : Refused) → Contains list x → Contains (r ∷ list) x
    later x c = (suc c.0, omega (arith, c.1), c.2)

    on : (b : Bool) → is_refusal_of by r ≡ b → (is_some (fault_for list by) ≡ true → (x : Refused) × Contains list x × (by ≡ x.by))
        → is_some (option_map (λ (x : Refused). x.fault) (cond b (Some r) (find (is_refusal_of by) list))) ≡ true → (x : Refused) × Contains (r ∷ list) x × (by ≡ x.by)
    on true is again t = (r, (0, omega arith, refl), command_is by r.by is)
    on false is again t = let x = again t in (x.0, later x.0 x.1, x.2)

module _ (v : JobServiceValue) (inst : Instance) (log : Log) (h : AgreesJobs v inst log) where
  refused_open : (by : By) → is_some (fault_for v.refused by) ≡ true → AsksJob inst log by
  refused_open by t =
      let r = refusal_found v.refused by t in
      let legal = h.refused r.0 r.1 in
      subst (AsksJob inst log) (sym r.2) (ap is_some legal.made, legal.waits)

  ready_open : (by : By) → is_ready_in v by ≡ true → AsksJob inst log by
  ready_open by t = on _ (row_in v.commands by) refl t
    where
      on : (p : Row → Bool) (o : Option Row) → row_in v.commands by ≡ o → option_map_or p o false ≡ true → AsksJob inst log by
      on p None e s = absurd (true≢false (sym s))
      on p (Some row) e s =
          let f = found by v.commands.rows row e in
          let agrees = h.commands.rows row f.0 in
          subst (AsksJob inst log) f.1 (ap is_some agrees.asks, agrees.waits)

  -- a command that can be told waits, and is one on jobs
  pub can_be_told : (by : By) → can_reply v by ≡ true → AsksJob inst log by
  can_be_told by can = elim (either (is_some (fault_for v.refused by)) (is_ready_in v by) (second (not (is_kept_back v by)) _ can)) [
    | inl refused ↦ refused_open by refused
    | inr ready ↦ ready_open by ready
  ]
    where
      second : (a b : Bool) → (a && b) ≡ true → b ≡ true
      second true b e = e
      second false b e = absurd (true≢false (sym e))

      either : (a b : Bool) → (a || b) ≡ true → (a ≡ true) ⊎ (b ≡ true)
      either true b e = inl refl
      either false b e = inr e
