use Rattle.std.proofs.Common.{◌≡◌, ◌∙◌, ◌∷◌, sym, ap, subst, true≢false}
use Rattle.std.specs.Map.{keys_of}
use Rattle.job_commands.specs.Rows.{job_at}
use Rattle.job_commands.specs.Shown.{shown}
use Rattle.job_commands.proofs.Finding.{AreLeft, all_left, left_on, none_left}
use Rattle.job_commands.proofs.labels.Labels.of.Goals as goal

pub loop-label-init : goal.loop-label-init
loop-label-init c =
    let entries = c.self.inside.jobs.entries in
    let is : c.into_iter-label-iterator.result ≡ keys_of entries = c.into_iter-label-iterator.ensures.into_iter_gives ∙ c.keys-label-items.ensures.rest in
    subst (λ l. AreLeft l c.args.id c.into_iter-label-iterator.result) c.self.view_is (subst (AreLeft (shown entries) c.args.id) (sym is) (all_left entries c.args.id))

pub loop-label-preserved : goal.loop-label-preserved
loop-label-preserved c =
    let more : c.loop-label.label-iterator ≡ c.in-Some.label.now ∷ c.next.new.self = c.in-Some.ensures.steps in
    left_on c.args.self.now c.args.id c.in-Some.label.now c.next.new.self
    (λ e. true≢false (sym (c.names.ensures.1 (ap (λ l. job_at l c.args.self.now) c.as_slice.ensures.value ∙ e)) ∙ c.if-names.false))
    (subst (AreLeft c.args.self.now c.args.id) more c.loop-label.invariant)

pub returns-clause-unnamed : goal.returns-clause-unnamed
returns-clause-unnamed c = none_left c.args.self.now c.args.id c.loop-label.label-iterator c.in-None.ensures.steps.0 c.loop-label.invariant
