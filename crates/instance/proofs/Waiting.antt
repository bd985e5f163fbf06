-- A job command that can be told what became of it is open, and a watch that can be fed, and one that was replied to in the chronicle was so in the log.
use Rattle.std.proofs.Common.{◌≡◌, ℕ, suc, List, [], ◌∷◌, ◌++◌, Bool, true, false, ◌||◌, ◌&&◌, inl, inr, not, cond, Option, Some, None, is_some, refl, sym, ap, ◌∙◌, subst, arith, true≢false}
use Rattle.std.specs.Prelude.{Contains, IsSome, find, option_and_then}
use Rattle.std.specs.Option.{option_map, option_map_or}
use Rattle.std.specs.List.{AllByRecursion as Each, cons_option, list_any}
use Rattle.std.proofs.lemmas.List.Folds.{list_any-append}
use Rattle.services.specs.kvs_txn.declared.txn.By.{By}
use Rattle.services.specs.kvs_rules.declared.events.KvsAnswer.{KvsAnswer}
use Rattle.services.specs.kvs_rules.Log.{same_command}
use Rattle.services.specs.kvs_rules.Sequence.{EachAfter}
use Rattle.services.proofs.kvs_rules_proofs.Asking.{command_is}
use Rattle.services.proofs.kvs_rules_proofs.Sequences.{each_along}
use Rattle.services.specs.instance_rules.Log as rules
use Rattle.services.specs.instance_rules.Log.{Instance, IsOpen, JobReply, Log, Moment, replies_now}
use Rattle.services.specs.job_commands.declared.row.Row.{Row}
use Rattle.services.specs.job_service.declared.refusals.Refused.{Refused}
use Rattle.services.specs.job_service.Agrees.{AgreesJobs}
use Rattle.services.specs.job_service.Feeds.{can_feed}
use Rattle.services.specs.job_service.Refusals.{fault_for, is_refusal_of, row_in}
use Rattle.services.specs.job_service.Replies.{can_reply, is_kept_back, is_ready_in}
use Rattle.services.specs.job_service.Value.{JobServiceValue}
use Rattle.services.specs.workload.declared.work.Command.{Command}
use Rattle.services.specs.workload.declared.work.Command.TheVariants as command
use Rattle.services.specs.answers.declared.chronicle.Entry.{Entry}
use Rattle.services.specs.answers.declared.chronicle.Entry.TheVariants as entry
use Rattle.services.specs.answers.declared.chronicle.Reply.{Reply}
use Rattle.services.specs.answers.declared.chronicle.Reply.TheVariants as reply
use Rattle.services.specs.answers.Chronicle.{Setup, answer_of, is_replied, replies_to}
use Rattle.services.specs.answers.Commands.{command_at, op_of}
use Rattle.services.specs.answers.Jobs.{happening_of, job_ask_at, job_ask_of, job_reply_of, log_in}
use Rattle.services.specs.answers.Legal.{HandsOn, HasReplyGrounds, IsLegal, IsLegalEntry}
use Rattle.services.specs.answers.Whole.{IsEarlierEntry, is_closing}
use Rattle.services.proofs.answers_proofs.JobLogs.{asks_no_service}
use Rattle.services.proofs.answers_proofs.Services.{or_cases}
use Rattle.instance.proofs.Listing.{any_left}
use Rattle.instance.proofs.Logs.{job_replied, log_grown}

-- ---- what can be told

-- what is found is there and passes
found_in : {A : Type 0} (p : A → Bool) (xs : List A) (x : A) → find p xs ≡ Some x → Contains xs x × (p x ≡ true)
found_in p [] x e = cc
found_in {A} p (y ∷ xs) x e = on (p y) refl e (found_in p xs x)
  where
    on : (b : Bool) → p y ≡ b → cond b (Some y) (find p xs) ≡ Some x → (find p xs ≡ Some x → Contains xs x × (p x ≡ true)) → Contains (y ∷ xs) x × (p x ≡ true)
    on true is same again = let here : y ≡ x = cc in ((0, omega arith, here), ap p (sym here) ∙ is)
    on false is same again = let there = again same in ((suc there.0.0, omega (arith, there.0.1), there.0.2), there.1)

both_right : (a b : Bool) → (a && b) ≡ true → b ≡ true
both_right true b e = e
both_right false b e = absurd (true≢false (sym e))

-- the command is one of the instance, and waits
pub record IsWaitingCommand (inst : Instance) (log : Log) (by : By) : Type 0 where
  pub asks : IsSome (inst.asks by)
  pub waits : IsOpen by log

module _ (v : JobServiceValue) (inst : Instance) (log : Log) (a : AgreesJobs v inst log) (by : By) where
  by_refusal : (o : Option Refused) → find (is_refusal_of by) v.refused ≡ o → is_some (option_map (λ (r : Refused). r.fault) o) ≡ true → IsWaitingCommand inst log by
  by_refusal None e t = absurd (true≢false (sym t))
  by_refusal (Some r) e t =
      let there = found_in (is_refusal_of by) v.refused r e in
      let legal = a.refused r there.0 in
      subst (IsWaitingCommand inst log) (sym (command_is by r.by there.1)) (record { asks = ap is_some legal.made; waits = legal.waits })

  by_row : (p : Row → Bool) (o : Option Row) → row_in v.commands by ≡ o → option_map_or p o false ≡ true → IsWaitingCommand inst log by
  by_row p None e t = absurd (true≢false (sym t))
  by_row p (Some row) e t =
      let there = found_in (λ (row : Row). same_command by row.by) v.commands.rows row e in
      let agrees = a.commands.rows row there.0 in
      subst (IsWaitingCommand inst log) (sym (command_is by row.by there.1)) (record { asks = ap is_some agrees.asks; waits = agrees.waits })

  pub reply_waits : can_reply v by ≡ true → IsWaitingCommand inst log by
  reply_waits can = elim (or_cases (is_some (fault_for v.refused by)) (is_ready_in v by) (both_right (not (is_kept_back v by)) _ can)) [
    | inl refused ↦ by_refusal (find (is_refusal_of by) v.refused) refl refused
    | inr ready ↦ by_row _ (row_in v.commands by) refl ready
  ]

  pub feed_waits : can_feed v by ≡ true → IsWaitingCommand inst log by
  feed_waits can = by_row _ (row_in v.commands by) refl can

-- ---- replies to job commands

-- a command that stages an operation is none on jobs or on time
stages_no_job : {A : Type 0} (c : Command) → IsSome (op_of c) → IsSome (job_ask_of c) → A
stages_no_job (command.Put path bytes) h g = absurd (true≢false (sym g))
stages_no_job (command.Append path bytes) h g = absurd (true≢false (sym g))
stages_no_job (command.Unlink path) h g = absurd (true≢false (sym g))
stages_no_job (command.Mkdir path) h g = absurd (true≢false (sym g))
stages_no_job (command.Symlink path target) h g = absurd (true≢false (sym g))
stages_no_job _ h g = absurd (true≢false (sym h))

module _ (set : Setup) (c : List Entry) (by : By) (asks : IsSome (job_ask_at set.work by)) where
  other_command : {A : Type 0} (x : Command) → command_at set.work by ≡ Some x → job_ask_of x ≡ None → A
  other_command x at none = absurd (true≢false (sym asks ∙ ap (λ o. is_some (option_and_then job_ask_of o)) at ∙ ap is_some none))

  handed : (number : Option ℕ) (o : Option KvsAnswer) (t : Option JobReply) → HandsOn set c by number o t → IsSome t
  handed number (Some given) t h =
      let never : None ≡ Some h.1.request = sym (asks_no_service set.work by asks) ∙ h.1.made in cc
  handed number None (Some r) h = refl
  handed number None None h = absurd h

  told_of_jobs : (given : Reply) (number : Option ℕ) → is_closing given ≡ false → HasReplyGrounds set c by number given → IsSome (job_reply_of given)
  told_of_jobs reply.Staged number early h = stages_no_job h.2.asked h.2.stages (sym (ap (λ o. is_some (option_and_then job_ask_of o)) h.2.named) ∙ asks)
  told_of_jobs reply.TxnFull number early h = stages_no_job h.2.asked h.2.stages (sym (ap (λ o. is_some (option_and_then job_ask_of o)) h.2.named) ∙ asks)
  told_of_jobs reply.Told number early h = other_command (command.Tell h.2.to) h.2.asked refl
  told_of_jobs reply.Using number early h = other_command (command.NsUse h.2.0) h.2.1 refl
  told_of_jobs reply.Seen None early h = absurd h.1
  told_of_jobs reply.Seen (Some number) early h = other_command command.Look h.1.asked refl
  told_of_jobs (reply.UnfinishedFence have want) number early h = absurd (true≢false early)
  told_of_jobs (reply.UnfinishedWait had wanted) number early h = absurd (true≢false early)
  told_of_jobs (reply.UnfinishedJob where_) number early h = absurd (true≢false early)
  told_of_jobs reply.UnfinishedUnborn number early h = absurd (true≢false early)
  told_of_jobs reply.NotReached number early h = absurd (true≢false early)
  told_of_jobs given number early h = handed number (answer_of given) (job_reply_of given) h

module _ (set : Setup) (by : By) (asks : IsSome (job_ask_at set.work by)) where
  WasReplied : List Entry → Type 0
  WasReplied c = Each IsEarlierEntry c → is_replied by c ≡ true → rules.is_replied by (log_in set.work c) ≡ true

  abbrev answers_in : Option Moment → Bool
  answers_in None = false
  answers_in (Some m) = replies_now by m

  -- one entry that replies to it
  here : (c : List Entry) (e : Entry) → IsLegalEntry set c e → IsEarlierEntry e → replies_to by e ≡ true → answers_in (happening_of set.work c e) ≡ true
  here c (entry.Replied actor command given number) legal early is =
      let other : By = record { actor = actor; command = command } in
      let same : by ≡ other = command_is by other is in
      let asks_other : IsSome (job_ask_at set.work other) = subst (λ b. IsSome (job_ask_at set.work b)) same asks in
      on other (job_reply_of given) refl (told_of_jobs set c other asks_other given number early legal.grounds) is
    where
      on : (other : By) (t : Option JobReply) → job_reply_of given ≡ t → IsSome t → same_command by other ≡ true → answers_in (happening_of set.work c (entry.Replied other.actor other.command given number)) ≡ true
      on other None e some is = absurd (true≢false (sym some))
      on other (Some r) e some is = ap answers_in (job_replied set.work c other given number r e) ∙ is
  here c (entry.Issued a k) legal early is = absurd (true≢false (sym is))
  here c (entry.Landed i space number authors groups) legal early is = absurd (true≢false (sym is))
  here c (entry.Denied i space authors group refusal) legal early is = absurd (true≢false (sym is))
  here c (entry.Heard i b space number) legal early is = absurd (true≢false (sym is))
  here c (entry.Got i b reference) legal early is = absurd (true≢false (sym is))
  here c (entry.Dropped i b reference) legal early is = absurd (true≢false (sym is))
  here c (entry.Told from to) legal early is = absurd (true≢false (sym is))
  here c (entry.Watched actor command number first count) legal early is = absurd (true≢false (sym is))
  here c (entry.Ticked second) legal early is = absurd (true≢false (sym is))
  here c (entry.Born child parent job label second grant) legal early is = absurd (true≢false (sym is))
  here c (entry.Gone child parent job shut) legal early is = absurd (true≢false (sym is))
  here c entry.Closed legal early is = absurd (true≢false (sym is))

  one_more : (log : Log) (o : Option Moment) → answers_in o ≡ true → list_any (replies_now by) (log ++ cons_option o []) ≡ true
  one_more log None h = absurd (true≢false (sym h))
  one_more log (Some m) h = list_any-append (replies_now by) log (m ∷ []) ∙ last (rules.is_replied by log) (replies_now by m) h
    where
      last : (x y : Bool) → y ≡ true → (x || (y || false)) ≡ true
      last true y t = refl
      last false true t = refl
      last false false t = absurd (true≢false (sym t))

  earlier : (c : List Entry) (e : Entry) → Each IsEarlierEntry (c ++ e ∷ []) → Each IsEarlierEntry c × IsEarlierEntry e
  earlier [] e h = (tt, h.0)
  earlier (x ∷ c) e h = let more = earlier c e h.1 in ((h.0, more.0), more.1)

  or_end : (x : Bool) → (x || false) ≡ true → x ≡ true
  or_end true h = refl
  or_end false h = h

  step : (c : List Entry) (e : Entry) → EachAfter (IsLegalEntry set) [] c → IsLegalEntry set c e → WasReplied c → WasReplied (c ++ e ∷ [])
  unfolding WasReplied
  step c e before legal again early is =
      let parts = earlier c e early in
      subst (λ l. rules.is_replied by l ≡ true) (sym (log_grown set.work c e))
      (elim (or_cases (is_replied by c) (replies_to by e || false) (sym (list_any-append (replies_to by) c (e ∷ [])) ∙ is)) [
        | inl old ↦ any_left (replies_now by) (log_in set.work c) (cons_option (happening_of set.work c e) []) (again parts.0 old)
        | inr new ↦ one_more (log_in set.work c) (happening_of set.work c e) (here c e legal parts.1 (or_end (replies_to by e) new))
      ])

  pub replied_alike : (c : List Entry) → IsLegal set c → Each IsEarlierEntry c → is_replied by c ≡ true → rules.is_replied by (log_in set.work c) ≡ true
  unfolding WasReplied
  replied_alike c legal early is = each_along (IsLegalEntry set) WasReplied step [] c tt legal (λ none e. absurd (true≢false (sym e))) early is
