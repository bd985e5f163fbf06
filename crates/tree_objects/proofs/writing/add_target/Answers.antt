use Rattle.std.proofs.Common.{◌∙◌}
use Rattle.std.proofs.lemmas.Result.{on_ok_weaker}
use Rattle.tree_objects.proofs.Links.{named_link, own_link}
use Rattle.tree_objects.proofs.writing.add_target.Goals as goal

pub returns-in-None : goal.returns-in-None
returns-in-None c = on_ok_weaker c.add_path.result (λ e. (
  e.0 ∙ c.in_ok-begin_object.ensures.room.0,
  own_link c.args.target.now c.args.out.now.tokens c.begin_object.new.self.tokens c.add_path.new.out.tokens c.in-None.is c.in_ok-begin_object.ensures.ok e.1,
)) c.add_path.ensures

pub returns-in_ok-add_namespace-in-Some : goal.returns-in_ok-add_namespace-in-Some
returns-in_ok-add_namespace-in-Some c = on_ok_weaker c.add_path-in-Some.result (λ e. (
  e.0 ∙ c.in_ok-add_namespace-in-Some.ensures.0 ∙ c.in_ok-begin_object.ensures.room.0,
  named_link c.args.target.now c.in-Some.name c.args.out.now.tokens c.begin_object.new.self.tokens c.add_namespace.new.out.tokens c.add_path-in-Some.new.out.tokens c.in-Some.is c.in_ok-begin_object.ensures.ok c.in_ok-add_namespace-in-Some.ensures.1 e.1,
)) c.add_path-in-Some.ensures
