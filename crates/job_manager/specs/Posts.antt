-- Posts as the rules see them.
use Rattle.std.specs.Prelude.{◌==◌, ℕ, Bool, false, Option, Some, None}
use Rattle.kvs_txn.specs.declared.txn.By.{By}
use Rattle.manager_rules.specs.Posts as rules
use Rattle.job_manager.specs.declared.post.Post.{Post}
use Rattle.job_manager.specs.declared.post.Post.TheVariants as post
use Rattle.job_manager.specs.declared.post.Submission.{Submission}

abbrev pub told : Submission → rules.Submission
told x = record {
  id = x.id;
  text = x.text;
  spec = x.spec;
  event = x.event;
  needs = x.needs;
  command = x.command;
}

abbrev pub post_of : Post → rules.Post
post_of (post.Submits x) = rules.Submits (told x)
post_of (post.Does due) = rules.Does due

-- the command that a post carries out, if it carries out one
abbrev pub command_of : rules.Post → Option By
command_of (rules.Submits x) = Some x.command
command_of (rules.Does due) = due.command

-- whether it is an event of this job that was posted
abbrev pub is_posted_for : ℕ → Option rules.Post → Bool
is_posted_for job (Some (rules.Does due)) = due.job == job
is_posted_for job (Some (rules.Submits x)) = false
is_posted_for job None = false
