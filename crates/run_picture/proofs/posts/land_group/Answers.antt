use Rattle.std.proofs.Common.{◌∙◌}
use Rattle.run_picture.proofs.Groups.{managers_keep, others_keep}
use Rattle.run_picture.proofs.Keeping.{done_more}
use Rattle.run_picture.proofs.posts.land_group.Goals as goal

pub returns-in-User : goal.returns-in-User
returns-in-User c = others_keep c.args.rows.now.items c.args.group.now c.in-User.field-0 c.in-User.is

pub returns-in_ok-label-in-Manager : goal.returns-in_ok-label-in-Manager
returns-in_ok-label-in-Manager c = done_more _ _ c.land.result (λ lands.
    managers_keep c.args.rows.now.items c.land.new.rows.items c.args.group.now c.in-Manager.is (λ post jobs ops. lands post jobs (c.as_slice-in-Manager.ensures ∙ ops))) c.land.ensures
