use Rattle.std.proofs.Common.{◌≡◌, ◌<◌, ◌∙◌, ◌++◌, [], ◌∷◌, false, Some, None, length, refl, ap, sym, subst}
use Rattle.kvs_core.specs.Agrees.{Agrees}
use Rattle.kvs_core.specs.Posted.{CanPost, IsNewPost, posted}
use Rattle.kvs_keys.specs.Posted as keys
use Rattle.job_manager.specs.Managed.{IsOutstanding, WasDuePost}
use Rattle.job_manager.specs.Posts.{command_of, post_of}
use Rattle.manager_rules.specs.Posts.{txn_of}
use Rattle.job_manager.specs.View.{value_of}
use Rattle.job_manager.proofs.Steps.{can-post, group-is, kept-managed}
use Rattle.job_manager.proofs.manager.Manager.place.Goals as goal

pub post-requires-clause-can : goal.post-requires-clause-can
post-requires-clause-can c =
    let e = sym c.self.view_is in
    let m = c.self.invariant (ap (λ v. v.spent) c.self.view_is ∙ c.requires.ready) in
    let can = can-post (value_of c.self.inside) m (subst (λ v. v.posted ≡ None) e c.requires.free) (subst (λ v. length v.book.jobs < 2000) e c.requires.few) (post_of c.args.post) (subst (λ v. WasDuePost v.book (post_of c.args.post)) e c.requires.due) c.due_posts_take_effect.ensures in
    subst (λ t. CanPost c.self.inside.core c.command_of.result t) (sym c.in_ok-txn.ensures) (subst (λ o. CanPost c.self.inside.core o (txn_of (post_of c.args.post))) (sym c.command_of.ensures) can)

pub returns-clause-places : goal.returns-clause-places
returns-clause-places c = record {
  posted = refl;
  book = ap (λ v. v.book) c.self.view_is;
  size = c.in_ok-post.ensures.size ∙ ap (λ v. v.core.size) c.self.view_is;
  agrees = λ set log a new.
      c.in_ok-post.ensures.agrees set log (subst (λ v. Agrees v.core set log) (sym c.self.view_is) a)
      (subst (λ o. IsNewPost c.self.inside.core set log o) (sym c.command_of.ensures) (subst (λ v. IsNewPost v.core set log (command_of (post_of c.args.post))) (sym c.self.view_is) new));
}

pub invariant_of-self-2 : goal.invariant_of-self-2
invariant_of-self-2 c = λ _.
    let v = value_of c.self.inside in
    let m = c.self.invariant (ap (λ w. w.spent) c.self.view_is ∙ c.requires.ready) in
    let e = c.in_ok-post.ensures in
    let waits = subst (λ w. w.posted ≡ None) (sym c.self.view_is) c.requires.free in
    let none : posted v.core ≡ [] = subst (IsOutstanding v.core v.book) waits m.outstanding in
    let made = e.posted ∙ ap (λ gs. gs ++ keys.post_of c.command_of.result c.in_ok-txn.txn ∷ []) none in
    let is = made ∙ ap (λ t. keys.post_of c.command_of.result t ∷ []) c.in_ok-txn.ensures ∙ ap (λ o. keys.post_of o (txn_of (post_of c.args.post)) ∷ []) c.command_of.ensures ∙ ap (λ g. g ∷ []) (group-is (post_of c.args.post)) in
    kept-managed v m c.post.new.self e.extends c.standing.ensures.kept c.standing-2.ensures.kept e.ready (Some (post_of c.args.post)) (is, subst (λ w. WasDuePost w.book (post_of c.args.post)) (sym c.self.view_is) c.requires.due) false
