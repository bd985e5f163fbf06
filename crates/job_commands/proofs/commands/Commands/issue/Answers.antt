use Rattle.std.proofs.Common.{◌≡◌, ◌++◌, ◌∷◌, [], map, refl, ap, sym, subst, ◌∙◌, rules}
use Rattle.job_commands.specs.declared.row.Row.{Row}
use Rattle.job_commands.specs.declared.row.Stage.TheVariants as stage
use Rattle.job_commands.specs.declared.tally.Tally.{Tally}
use Rattle.job_commands.proofs.Marks.{IsMarked, mark_of, marked_by, marked_same}
use Rattle.job_commands.proofs.Steps.{issue_agrees}
use Rattle.job_commands.proofs.Tables.{IsCounted, counted_same}
use Rattle.job_commands.proofs.Tallies.{counted_set, marked_set, sequence_is}
use Rattle.job_commands.proofs.commands.Commands.issue.Goals as goal

pub returns-then-submits-clause-agrees : goal.returns-then-submits-clause-agrees
returns-then-submits-clause-agrees c = λ inst log h asks rank now since unissued unanswered undecided.
    let row : Row = record { by = c.args.by; rank = c.args.rank; ask = c.args.ask; issued = c.args.now; sequence = c.saturating_sub-sequence.result; stage = stage.Waits } in
    let v = c.args.self.now in
    let tallies = c.self.inside.tallies.items in
    let tally = c.index-tally.result.now in
    let issued : map (λ (t : Tally). t.issued) tallies ≡ v.issued = ap (λ w. w.issued) c.self.view_is in
    let marks : map (λ (t : Tally). t.mark) tallies ≡ v.marks = ap (λ w. w.marks) c.self.view_is in
    let submits = sym c.is_submit-submits.ensures ∙ c.if-submits.true in
    let pushed : c.push.new.self.items ≡ c.self.inside.rows.items ++ row ∷ [] = search rules in
    issue_agrees v _ row inst log (ap (λ w. w.labels) c.self.view_is) (pushed ∙ ap (λ w. w.rows ++ row ∷ []) c.self.view_is) (ap (λ w. w.children) c.self.view_is)
    (counted_set tallies v issued marks c.args.rank c.requires.within tally c.index-tally.ensures row refl c.mark_now-mark.result c.mark_now-mark.ensures submits)
    (marked_set tallies v issued marks c.args.rank c.requires.within tally c.index-tally.ensures row refl c.mark_now-mark.result c.mark_now-mark.ensures submits)
    c.requires.few c.requires.later (c.saturating_sub-sequence.ensures ∙ sequence_is tallies v issued marks c.args.rank c.requires.within tally c.index-tally.ensures row refl c.mark_now-mark.result c.mark_now-mark.ensures) refl h asks rank now since unissued unanswered undecided

pub returns-then-submits-clause-marked : goal.returns-then-submits-clause-marked
returns-then-submits-clause-marked c = λ h.
    let row : Row = record { by = c.args.by; rank = c.args.rank; ask = c.args.ask; issued = c.args.now; sequence = c.saturating_sub-sequence.result; stage = stage.Waits } in
    let v = c.args.self.now in
    let tallies = c.self.inside.tallies.items in
    let tally = c.index-tally.result.now in
    let issued : map (λ (t : Tally). t.issued) tallies ≡ v.issued = ap (λ w. w.issued) c.self.view_is in
    let marks : map (λ (t : Tally). t.mark) tallies ≡ v.marks = ap (λ w. w.marks) c.self.view_is in
    let submits = sym c.is_submit-submits.ensures ∙ c.if-submits.true in
    marked_by v _ row (marked_set tallies v issued marks c.args.rank c.requires.within tally c.index-tally.ensures row refl c.mark_now-mark.result c.mark_now-mark.ensures submits) h

pub returns-else-submits-clause-agrees : goal.returns-else-submits-clause-agrees
returns-else-submits-clause-agrees c = λ inst log h asks rank now since unissued unanswered undecided.
    let row : Row = record { by = c.args.by; rank = c.args.rank; ask = c.args.ask; issued = c.args.now; sequence = c.saturating_sub-sequence.result; stage = stage.Waits } in
    let v = c.args.self.now in
    let tallies = c.self.inside.tallies.items in
    let tally = c.index-tally.result.now in
    let issued : map (λ (t : Tally). t.issued) tallies ≡ v.issued = ap (λ w. w.issued) c.self.view_is in
    let marks : map (λ (t : Tally). t.mark) tallies ≡ v.marks = ap (λ w. w.marks) c.self.view_is in
    let submits = sym c.is_submit-submits.ensures ∙ c.if-submits.false in
    let pushed : c.push.new.self.items ≡ c.self.inside.rows.items ++ row ∷ [] = search rules in
    issue_agrees v _ row inst log (ap (λ w. w.labels) c.self.view_is) (pushed ∙ ap (λ w. w.rows ++ row ∷ []) c.self.view_is) (ap (λ w. w.children) c.self.view_is)
    (subst (IsCounted row v.issued) (sym issued) (counted_same row v.issued submits))
    (subst (IsMarked row (mark_of v row) v.marks) (sym marks) (marked_same row (mark_of v row) v.marks submits))
    c.requires.few c.requires.later (c.saturating_sub-sequence.ensures ∙ sequence_is tallies v issued marks c.args.rank c.requires.within tally c.index-tally.ensures row refl c.mark_now-mark.result c.mark_now-mark.ensures) refl h asks rank now since unissued unanswered undecided
