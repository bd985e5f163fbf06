use Rattle.std.proofs.Common.{◌≡◌, ◌∙◌, ◌<◌, ◌≤◌, ◌++◌, ◌∷◌, [], Some, None, length, ap, sym, subst, get_or}
use Rattle.std.specs.Prelude.{option_map}
use Rattle.answers.specs.declared.chronicle.JobState.{JobState}
use Rattle.job_deeds.specs.manager_rules.Dependencies.{job_at}
use Rattle.job_replies.proofs.States.{all-told, one-more, stands}
use Rattle.job_replies.proofs.jobs.states_of.Goals as goal

pub loop-id-init : goal.loop-id-init
loop-id-init c = record { items = c.as_slice-id-items.ensures ∙ c.in_ok-ids.ensures; told = c.new-list.ensures }

pub unreachable-requires : goal.unreachable-requires
unreachable-requires c =
    let jobs = c.args.book.now.jobs in
    let items = c.loop-id.invariant.items in
    stands jobs c.keeps.ensures.rising c.loop-id.id-index (subst (λ ids. c.loop-id.id-index < length ids) items c.loop-id-test.true)
    (subst (λ ids. option_map (λ j. j.job) (job_at jobs (get_or ids c.loop-id.id-index 0)) ≡ None) items (sym c.in-None.ensures))

pub loop-id-preserved : goal.loop-id-preserved
loop-id-preserved c =
    let jobs = c.args.book.now.jobs in
    let items = c.loop-id.invariant.items in
    record {
      items = items;
      told = c.in_ok-push-in-Some.ensures.added
          ∙ ap (λ ids. c.loop-id.list ++ (let told : JobState = record { id = get_or ids c.loop-id.id-index 0; state = c.in-Some.job.now.state } in told) ∷ []) items
          ∙ one-more jobs c.keeps.ensures.rising c.loop-id.id-index (subst (λ ids. c.loop-id.id-index < length ids) items c.loop-id-test.true) c.loop-id.list c.loop-id.invariant.told c.in-Some.job.now
          (subst (λ ids. Some c.in-Some.job.now ≡ option_map (λ j. j.job) (job_at jobs (get_or ids c.loop-id.id-index 0))) items c.in-Some.ensures);
    }

pub returns : goal.returns
returns c = c.loop-id.invariant.told ∙ all-told c.args.book.now.jobs c.loop-id.id-index (subst (λ ids. length ids ≤ c.loop-id.id-index) c.loop-id.invariant.items c.loop-id-test.false)
