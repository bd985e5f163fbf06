use Rattle.std.proofs.Common.{◌∙◌, sym, subst}
use Rattle.std.specs.Prelude.{option_map}
use Rattle.job_commands.proofs.Submitting.{of_ok}
use Rattle.job_manager.specs.Posts.{post_of}
use Rattle.job_service.specs.Due.{IsFound}
use Rattle.job_service.proofs.Owing.{beside-none}
use Rattle.job_service.proofs.due.look.Goals as goal

pub returns : goal.returns
returns c = of_ok c.find.result
    (λ found h. beside-none c.args.terms c.args.commands.now c.args.manager.now.book c.args.now c.args.birth c.args.manager.now.posted (option_map post_of found) (sym c.is_waiting.ensures ∙ c.if-is_waiting.false)
    (subst (λ b. IsFound c.args.terms c.args.commands.now b c.args.now c.args.birth (option_map post_of found)) c.book.ensures h)) c.find.ensures
