use Rattle.std.proofs.Common.{◌≡◌, ◌++◌, ◌-◌, ◌∙◌, ◌∷◌, ◌<◌, ℕ, Some, None, sym, ap, ap₂, subst, append_assoc, length}
use Rattle.std.specs.Prelude.{slice_get, count_by, unwrap_or}
use Rattle.std.proofs.lemmas.Bool.{ltb-true, ltb-false}
use Rattle.std.proofs.lemmas.Option.{slice_get-get_or, slice_get_past}
use Rattle.services.specs.answers.declared.chronicle.Entry.TheVariants as entry
use Rattle.instance.specs.Closings.{not_reached, numbers_in, unfinished_at}
use Rattle.services.specs.job_service.Still.{awaited}
use Rattle.instance.specs.Agrees.{command_of, is_of}
use Rattle.instance.specs.Seats.{last_command}
use Rattle.instance.proofs.Leaving.{ends_at, told_none, told_finished, told_left}
use Rattle.instance.proofs.unfinished.close_actor.Goals as goal

pub heard-requires-clause-within : goal.heard-requires-clause-within
heard-requires-clause-within c =
    let low : c.args.actor < length c.args.seats.now = ltb-true _ _ (sym c.in-Some.ensures.lookup.0) in
    subst (λ s. s.broker < c.args.core.now.size) (sym c.in-Some.ensures.lookup.1) (c.requires.within c.args.actor c.in-Some.seat.now low)

pub returns-in_default : goal.returns-in_default
returns-in_default c = λ set log a.
    let none : slice_get c.args.seats.now c.args.actor ≡ None = slice_get_past c.args.seats.now c.args.actor (ltb-false _ _ (sym c.in_default.ensures.lookup.0)) in
    told_none (numbers_in log) (awaited c.args.jobs.now) c.args.lines.now c.args.seats.now c.args.actor c.args.chronicle.now none

pub returns-in_default-unfinished : goal.returns-in_default-unfinished
returns-in_default-unfinished c = λ set log a.
    let seat = c.in-Some.seat.now in
    let lines = c.args.lines.now in
    let seats = c.args.seats.now in
    let states = awaited c.args.jobs.now in
    let at : slice_get seats c.args.actor ≡ Some seat = slice_get-get_or seats c.args.actor seat (ltb-true _ _ (sym c.in-Some.ensures.lookup.0)) ∙ ap Some (sym c.in-Some.ensures.lookup.1) in
    let had : c.unwrap_or-heard.result ≡ numbers_in log seat.broker seat.subject = c.unwrap_or-heard.ensures ∙ ap (λ o. unwrap_or o 0) (c.heard.ensures set log a) in
    let left : c.awaited-left.result ≡ states (last_command c.args.actor seat) = c.awaited-left.ensures ∙ ap (λ n. states (command_of c.args.actor n)) c.saturating_sub-command.ensures in
    let none : ends_at (numbers_in log) states lines seats c.args.actor seat ≡ None = ap₂ (λ n l. unfinished_at n l lines seats seat) (sym had) (sym left) ∙ sym c.in_default-unfinished.ensures in
    told_finished (numbers_in log) states lines seats c.args.actor c.args.chronicle.now seat at none

pub returns : goal.returns
returns c = λ set log a.
    let lines = c.args.lines.now in
    let seats = c.args.seats.now in
    let states = awaited c.args.jobs.now in
    let seat = c.in-Some.seat.now in
    let given = c.in-Some-unfinished.reply in
    let at : slice_get seats c.args.actor ≡ Some seat = slice_get-get_or seats c.args.actor seat (ltb-true _ _ (sym c.in-Some.ensures.lookup.0)) ∙ ap Some (sym c.in-Some.ensures.lookup.1) in
    let had : c.unwrap_or-heard.result ≡ numbers_in log seat.broker seat.subject = c.unwrap_or-heard.ensures ∙ ap (λ o. unwrap_or o 0) (c.heard.ensures set log a) in
    let left : c.awaited-left.result ≡ states (last_command c.args.actor seat) = c.awaited-left.ensures ∙ ap (λ n. states (command_of c.args.actor n)) c.saturating_sub-command.ensures in
    let ends : ends_at (numbers_in log) states lines seats c.args.actor seat ≡ Some given = ap₂ (λ n l. unfinished_at n l lines seats seat) (sym had) (sym left) ∙ sym c.in-Some-unfinished.ensures in
    c.in_ok-pass_over.ensures
    ∙ ap (λ es. es ++ not_reached c.args.actor seat.issued (c.commands.result - seat.issued)) c.in_ok-push.ensures.added
    ∙ append_assoc c.args.chronicle.now _ _
    ∙ ap (λ (n : ℕ). c.args.chronicle.now ++ entry.Replied c.args.actor c.saturating_sub-command.result given None ∷ not_reached c.args.actor seat.issued (n - seat.issued)) c.commands.ensures
    ∙ ap (λ (n : ℕ). c.args.chronicle.now ++ entry.Replied c.args.actor n given None ∷ not_reached c.args.actor seat.issued (count_by (is_of c.args.actor) lines - seat.issued)) c.saturating_sub-command.ensures
    ∙ told_left (numbers_in log) states lines seats c.args.actor c.args.chronicle.now seat given at ends
