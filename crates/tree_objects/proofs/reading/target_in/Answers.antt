use Rattle.serde_json.specs.View.{view}
use Rattle.tree_objects.proofs.Links.{no_path, no_space}
use Rattle.tree_objects.proofs.reading.target_in.Goals as goal

pub returns-in-Err : goal.returns-in-Err
returns-in-Err c = no_space (view c.args.content.now) c.in-Err.fault c.in-Err.ensures

pub returns-in-Ok-path_in : goal.returns-in-Ok-path_in
returns-in-Ok-path_in c = record { inside = c.in-Ok-path_in.ensures; space = c.in-Ok.ensures }

pub returns-in-Err-path_in : goal.returns-in-Err-path_in
returns-in-Err-path_in c = no_path (view c.args.content.now) c.in-Err-path_in.fault c.in-Err-path_in.ensures
