use Rattle.std.proofs.Common.{◌≡◌, ◌<◌, ◌≤◌, ◌++◌, get_or, length, take, ap, ◌∙◌, subst}
use Rattle.std.specs.Prelude.{filter, flat_map, nat_lt}
use Rattle.std.proofs.lemmas.List.{take_all}
use Rattle.job_deeds.specs.manager_rules.Times.{seconds_of}
use Rattle.job_book.specs.Active.{active_of}
use Rattle.job_book.specs.Seconds.{IsSoonest}
use Rattle.job_book.proofs.Actives.{active_length, ends_not, flat_active}
use Rattle.job_book.proofs.Ahead.{seconds_more}
use Rattle.job_book.proofs.seconds.next_of_rows.Goals as goal

pub loop-index-preserved : goal.loop-index-preserved
loop-index-preserved c =
    let jobs = active_of c.args.rows.now in
    let at = c.loop-index.index in
    let job = c.index-rows-at.result in
    let seconds = filter (λ second. nat_lt c.args.now second) (flat_map seconds_of (take at jobs)) in
    let here : job ≡ get_or jobs at job = c.index-rows-at.is ∙ c.place_of_active-at.ensures.job job in
    let within : at < length jobs = subst (λ n. at < n) (active_length c.args.rows.now c.args.active.now c.requires.active) c.loop-index-test.true in
    subst (λ ns. IsSoonest ns c.sooner_with-next.result) (seconds_more c.args.now at jobs job within)
    (subst (λ k. IsSoonest (seconds ++ filter (λ second. nat_lt c.args.now second) (seconds_of k)) c.sooner_with-next.result) here (c.sooner_with-next.ensures seconds c.loop-index.invariant))

pub returns : goal.returns
returns c =
    let jobs = active_of c.args.rows.now in
    let all : length jobs ≤ c.loop-index.index = subst (λ n. n ≤ c.loop-index.index) (active_length c.args.rows.now c.args.active.now c.requires.active) c.loop-index-test.false in
    subst (λ ns. IsSoonest (filter (λ second. nat_lt c.args.now second) ns) c.loop-index.next) (ap (flat_map seconds_of) (take_all c.loop-index.index jobs all) ∙ flat_active seconds_of ends_not c.args.rows.now) c.loop-index.invariant
