use Rattle.job_commands.proofs.Numbers.{is_new}
use Rattle.job_commands.proofs.laws.new_ids_are_new.Goals as goal

pub returns : goal.returns
returns c = λ v inst log by id h short made label. is_new v inst.birth h.drawn short by id made label
