use Rattle.std.proofs.Common.{◌∙◌, ◌∷◌, Some, None, length, List, sym, ap, ap₂, subst, arith, refl}
use Rattle.std.specs.Option.{option_copied}
use Rattle.std.specs.Prelude.{IsOk, if◌then◌else◌}
use Rattle.job_deeds.specs.event_log.declared.event.Event.{Event}
use Rattle.job_deeds.specs.job_states.Replay.{replayed}
use Rattle.job_deeds.specs.job_states.declared.job.State.{State}
use Rattle.job_deeds.specs.manager_rules.Limits.{names_shown}
use Rattle.job_replies.specs.Ready.{is_inactive}
use Rattle.job_service.proofs.Reading.{seen-log}
use Rattle.kvs_core.specs.Seen.{primary_heard}
use Rattle.job_service.proofs.feeds.next_feed.Goals as goal

pub events_of-requires : goal.events_of-requires
events_of-requires c =
    let s = seen-log c.args.manager.now c.keeps.ensures c.args.rank c.args.id c.in-Some.log.now c.ranges.id.fits (sym c.log_at.ensures ∙ ap option_copied c.in-Some.is) in
    (s.first ∷ s.more, s.logged.events, s.text_is)

pub state_after-requires : goal.state_after-requires
state_after-requires c =
    let s = seen-log c.args.manager.now c.keeps.ensures c.args.rank c.args.id c.in-Some.log.now c.ranges.id.fits (sym c.log_at.ensures ∙ ap option_copied c.in-Some.is) in
    let read = c.in_ok-events.ensures (s.first ∷ s.more) s.logged.events s.text_is in
    subst IsOk (sym (ap replayed (c.as_slice.ensures.value ∙ read) ∙ s.replays)) refl

pub returns-clause-fed : goal.returns-clause-fed
returns-clause-fed c =
    let s = seen-log c.args.manager.now c.keeps.ensures c.args.rank c.args.id c.in-Some.log.now c.ranges.id.fits (sym c.log_at.ensures ∙ ap option_copied c.in-Some.is) in
    let read = c.in_ok-events.ensures (s.first ∷ s.more) s.logged.events s.text_is in
    let state = c.in_ok-state.ensures s.j.job (ap replayed (c.as_slice.ensures.value ∙ read) ∙ s.replays) in
    record {
      number = c.heard_primary.ensures ∙ ap (λ k. primary_heard k c.args.rank) c.core.ensures;
      store = s.store;
      stands = s.stands;
      jobs = s.jobs;
      are = s.are;
      j = s.j;
      known = s.known;
      named = s.named;
      events = s.first ∷ s.more;
      logged = s.logged;
      some = omega arith;
      count = c.len.ensures ∙ c.in_ok-events.events.ok.0 ∙ ap length read;
      bytes = ap length (c.as_slice-2.ensures ∙ s.text_is);
      told = c.in_ok-names_at_end.ensures
          ∙ ap₂ (λ (where_ : State) (es : List Event). if is_inactive where_ then Some (names_shown c.args.shown.now es) else None) state (c.as_slice-3.ensures.value ∙ read);
    }
