use Rattle.kvs_requests.specs.Stages.{is_on}
use Rattle.kvs_space.proofs.Finding.{found-none}
use Rattle.kvs_requests.proofs.Carrying.{carry-is, carry-placed, carry-agrees, carry-left}
use Rattle.kvs_requests.proofs.rows.carry.Goals as goal

pub unreachable-requires : goal.unreachable-requires
unreachable-requires c = found-none (is_on c.args.from c.args.to) c.args.rows.now.items c.in-None.ensures c.requires.some

pub returns-clause-carried : goal.returns-clause-carried
returns-clause-carried c = rw c.set_stage.ensures (carry-is c.args.from c.args.to c.args.rows.now.items c.in-Some.i c.index_mut-row.result.now c.index_mut-row.ensures.value c.in-Some.ensures c.take_stage-stage.result c.onward.result c.take_stage-stage.ensures c.args.fanout c.onward.ensures.goes)

pub returns-clause-placed : goal.returns-clause-placed
returns-clause-placed c = rw c.set_stage.ensures (carry-placed c.args.from c.args.to c.args.rows.now.items c.in-Some.i c.index_mut-row.result.now c.index_mut-row.ensures.value c.in-Some.ensures c.take_stage-stage.result c.onward.result c.take_stage-stage.ensures c.args.fanout c.onward.ensures.place)

pub returns-clause-agrees : goal.returns-clause-agrees
returns-clause-agrees c = rw c.set_stage.ensures (carry-agrees c.args.from c.args.to c.args.rows.now.items c.in-Some.i c.index_mut-row.result.now c.index_mut-row.ensures.value c.in-Some.ensures c.take_stage-stage.result c.onward.result c.take_stage-stage.ensures c.onward.ensures.agrees c.onward.ensures.joined)

pub returns-clause-left : goal.returns-clause-left
returns-clause-left c = rw c.set_stage.ensures (carry-left c.args.from c.args.to c.args.rows.now.items c.in-Some.i c.index_mut-row.result.now c.index_mut-row.ensures.value c.in-Some.ensures c.take_stage-stage.result c.onward.result c.take_stage-stage.ensures c.args.fanout c.onward.ensures.left)
