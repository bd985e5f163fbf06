-- What is said of the job of a label.
use Rattle.std.proofs.Common.{◌≡◌, ℕ, List, Option, Some, None, refl, sym, subst}
use Rattle.std.specs.Prelude.{option_and_then, option_map}
use Rattle.answers.specs.declared.chronicle.Reply.{Reply}
use Rattle.job_deeds.proofs.Whys.{found_job}
use Rattle.job_commands.specs.Rows.{Labels, job_at}
use Rattle.job_commands.specs.declared.ask.JobAsk.{JobAsk}
use Rattle.job_manager.specs.Value.{ManagerValue}
use Rattle.job_deeds.specs.job_states.declared.job.Job.{Job}
use Rattle.job_deeds.specs.manager_rules.Dependencies.{job_at as stored_at}
use Rattle.job_deeds.specs.manager_rules.Jobs.{StoredJob}
use Rattle.job_replies.specs.Jobs.{IsSaidIf, IsSaidOf, IsSaidOfJob}

pub said-of : (labels : Labels) (manager : ManagerValue) (now : ℕ) (asks : JobAsk) (label : List ℕ) (id : ℕ) (job : Job) (given : Reply) → Some id ≡ job_at label labels →
    Some job ≡ option_map (λ j. j.job) (stored_at manager.book.jobs id) → IsSaidOfJob manager now asks id job given → IsSaidOf labels manager now asks label given
said-of labels manager now asks label id job given named stands said =
    subst (λ o. IsSaidIf manager now asks (option_and_then (stored_at manager.book.jobs) o) given) named (by (stored_at manager.book.jobs id) refl stands)
  where
    by : (o : Option StoredJob) → stored_at manager.book.jobs id ≡ o → Some job ≡ option_map (λ j. j.job) o → IsSaidIf manager now asks o given
    by None e is = cc
    by (Some j) e is =
        let there = found_job manager.book.jobs id j e in
        subst (λ n. IsSaidOfJob manager now asks n j.job given) (sym there.1) (subst (λ (k : Job). IsSaidOfJob manager now asks id k given) (some_same is) said)
      where
        some_same : {x y : Job} → Some x ≡ Some y → x ≡ y
        some_same e = cc
