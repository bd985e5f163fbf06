use Rattle.kvs_keys.proofs.Leaving.{contents-leave}
use Rattle.kvs_keys.proofs.laws.content_moments_leave_the_keys.Goals as goal

pub returns : goal.returns
returns c = λ v set log m a legal h. contents-leave v set log m a legal h
