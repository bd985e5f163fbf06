use Rattle.std.proofs.Common.{◌≡◌, ap, ap₂, rules}
use Rattle.std.specs.Bool.{Decides}
use Rattle.job_texts.proofs.Listing.{differ_in_jobs, same_decided}
use Rattle.job_texts.proofs.needs.tell_one.Goals as goal

pub returns-then-on-other_on : goal.returns-then-on-other_on
returns-then-on-other_on c =
    let on : c.args.on ≡ c.args.other_on = search rules in
    let way : Decides c.eq.result (c.args.scheme ≡ c.args.other) = search rules in
    same_decided _ _ c.eq.result c.ranges.on.fits c.ranges.other_on.fits (
      λ e. ap₂ (λ s n. record { scheme = s; on = n }) (way.0 e) on,
      λ e. way.1 (ap (λ n. n.scheme) e),
    )

pub returns-else-on-other_on : goal.returns-else-on-other_on
returns-else-on-other_on c = differ_in_jobs c.args.scheme c.args.other c.args.on c.args.other_on c.ranges.on.fits c.ranges.other_on.fits
    (let differ : c.args.on ≡ c.args.other_on → ⊥ = search rules in differ)
