use Rattle.std.proofs.Common.{◌≡◌, ℕ, ◌++◌, length, sym, ap, ◌∙◌, subst}
use Rattle.std.specs.Fn.{FnReturnsAt}
use Rattle.event_log.specs.declared.event.Event.{Event}
use Rattle.job_watch.specs.Watched.{AreShown}
use Rattle.job_watch.proofs.Growing.{text_behind, valid_more}
use Rattle.job_watch.proofs.Shown.{shown_both}
use Rattle.job_watch.proofs.watcher.Watcher.feed.Goals as goal

pub events_of-requires : goal.events_of-requires
events_of-requires g c =
    let grown = c.requires.grown in (
      grown.more,
      valid_more grown.events grown.more grown.valid,
      text_behind c.self.inside.fed c.args.log.now grown.events grown.more (ap (λ w. w.fed) c.self.view_is ∙ grown.fed) grown.is,
    )

pub returns-clause-fed : goal.returns-clause-fed
returns-clause-fed g c = λ events more valid is was.
    let answers = λ (event : Event) (n : ℕ). FnReturnsAt g.W.Fn c.args.show.now event n in
    let read : c.in_ok-events.events.items ≡ more = c.in_ok-events.ensures more (valid_more events more valid) (text_behind c.self.inside.fed c.args.log.now events more (ap (λ w. w.fed) c.self.view_is ∙ was.log) is) in
    let next : AreShown answers more c.in_ok-names.names.items = subst (λ es. AreShown answers es c.in_ok-names.names.items) (c.deref.ensures.value ∙ read) c.in_ok-names.ensures in (
      cc (c.len.ensures, c.deref.ensures.len, ap length c.deref.ensures.value, ap length read),
      record {
        log = ap length is;
        names = subst (AreShown answers (events ++ more)) (sym (c.in_ok-add_names.ensures.added ∙ ap (λ w. w.shown ++ c.in_ok-names.names.items) c.self.view_is))
            (shown_both answers events more c.args.self.now.shown c.in_ok-names.names.items was.names next);
      },
    )
