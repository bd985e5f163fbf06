use Rattle.manager_rules.proofs.Taking.{post_taken}
use Rattle.manager_rules.proofs.laws.due_posts_take_effect.Goals as goal

pub returns : goal.returns
returns c = λ d post st desk is are only few due. post_taken d desk st is are only few post due
