use Rattle.std.proofs.Common.{◌∙◌, ap, take, drop}
use Rattle.idset.specs.Text.{leading_digits, behind_digits}
use Rattle.idset.proofs.Numbers.{all_digits}
use Rattle.idset.proofs.reader.digits.Goals as goal

pub returns-clause-digits : goal.returns-clause-digits
unfolding leading_digits
returns-clause-digits c = c.split_at.ensures.front ∙ ap (λ n. take n c.args.text.now) c.count_digits.ensures.count

pub returns-clause-behind : goal.returns-clause-behind
unfolding behind_digits
returns-clause-behind c = c.split_at.ensures.back ∙ ap (λ n. drop n c.args.text.now) c.count_digits.ensures.count

pub returns-clause-all : goal.returns-clause-all
returns-clause-all c = rw (c.split_at.ensures.front, c.count_digits.ensures.count) (all_digits c.args.text.now)
