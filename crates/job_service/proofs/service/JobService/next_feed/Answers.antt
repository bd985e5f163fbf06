use Rattle.std.proofs.Common.{◌≡◌, ◌∙◌, ◌<◌, ◌^◌, Some, true, sym, ap, subst, arith}
use Rattle.std.specs.Option.{option_copied}
use Rattle.std.specs.Prelude.{IfOk}
use Rattle.job_commands.specs.Rows.{job_at}
use Rattle.job_commands.specs.declared.ask.JobAsk.TheVariants as ask
use Rattle.job_manager.specs.Places.{log_seen}
use Rattle.job_service.specs.Feeds.{IsFedByRow, can_feed}
use Rattle.job_service.specs.View.{value_of}
use Rattle.job_service.specs.Watching.{feed_of, has_more, has_news}
use Rattle.job_service.proofs.Calls.{rank_within, row_known}
use Rattle.job_service.proofs.News.{job_news, row_news}
use Rattle.job_commands.proofs.Submitting.{of_ok}
use Rattle.job_service.proofs.service.JobService.next_feed.Goals as goal

pub next_feed-requires-clause-within : goal.next_feed-requires-clause-within
next_feed-requires-clause-within c =
    let i = c.self.invariant (ap (λ v. v.spent) c.self.view_is ∙ c.requires.ready) in
    rank_within (value_of c.self.inside) i.fit.agreed.inst i.fit.agreed.log i.fit.agreed.agrees c.in-Some.row.now (row_known c.self.inside.commands c.args.by c.row_of.result c.in-Some.row c.row_of.ensures c.in-Some.is).0

pub returns-clause-fed : goal.returns-clause-fed
returns-clause-fed c =
    let v = value_of c.self.inside in
    let row = c.in-Some.row.now in
    let known = row_known c.self.inside.commands c.args.by c.row_of.result c.in-Some.row c.row_of.ensures c.in-Some.is in
    let label = c.in-Watch.label in
    let asks : row.ask ≡ ask.Watch label = c.in-Watch.is in
    let names : job_at label v.commands.labels ≡ Some c.in-Some-job_of.id = ap (λ l. job_at l v.commands.labels) (sym c.as_slice.ensures) ∙ sym c.job_of.ensures.job ∙ c.in-Some-job_of.is in
    let can : can_feed v c.args.by ≡ true = subst (λ w. can_feed w c.args.by ≡ true) (sym c.self.view_is) c.requires.can in
    let news = row_news v c.args.by row (sym c.row_of.ensures ∙ ap option_copied c.in-Some.is) can in
    let more = job_news v.commands.labels v.manager row.rank (feed_of v.feeds row.by) label c.in-Some-job_of.id names (subst (λ x. has_news v.commands.labels v.manager row.rank (feed_of v.feeds row.by) x ≡ true) asks news) in
    let small : c.in-Some-job_of.id < 2 ^ 64 = omega arith in
    subst (λ w. IfOk c.next_feed.result (IsFedByRow w c.args.by)) c.self.view_is
    (of_ok c.next_feed.result (λ f h. record {
      row = row;
      stands = known.0;
      of = known.1;
      label = label;
      asks = asks;
      id = c.in-Some-job_of.id;
      small = small;
      names = names;
      news = subst (λ b. has_more v.manager.core row.rank (feed_of v.feeds b) (log_seen v.manager.core row.rank c.in-Some-job_of.id) ≡ true) known.1 more;
      fed = h;
    }) c.next_feed.ensures.fed)
