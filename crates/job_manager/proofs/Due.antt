-- Which of the transactions of a landing are due at the stores on which they work.
use Rattle.std.proofs.Common.{◌≡◌, List, [], ◌∷◌, Bool, true, false, Result, Ok, Err, refl, sym, ap, ◌∙◌, subst}
use Rattle.std.specs.Prelude.{IfSome}
use Rattle.instance_rules.specs.Desks.{AreDueFrom, IsDeskOf, IsDueAt, IsDueFor}
use Rattle.instance_rules.specs.Log.{Instance, IsInstance, Log}
use Rattle.instance_rules.proofs.Feeding.{none_old}
use Rattle.kvs_model.specs.History.{landed_on}
use Rattle.kvs_model.specs.Operation.{effect}
use Rattle.kvs_model.specs.Store.{Store}
use Rattle.kvs_space.proofs.Posting.{with-post, with-user}
use Rattle.kvs_txn.specs.declared.answers.Refusal.{Refusal}
use Rattle.kvs_txn.specs.declared.txn.Author.{Author}
use Rattle.kvs_txn.specs.declared.txn.Author.TheVariants as author
use Rattle.kvs_txn.specs.declared.txn.Group.{Group}
use Rattle.kvs_txn.specs.declared.txn.Scope.TheVariants as scope
use Rattle.manager_rules.specs.Posts.{Desk, IsDuePost, Post, group_of}
use Rattle.manager_rules.proofs.Stores.{users_leave_jobs}
use Rattle.resource_set.specs.Writing.{r_text}
use Rattle.store_laws.specs.Posts.{is_manager, posts_in}
use Rattle.job_manager.proofs.Landing.{as-user}

is-managers : (who : Author) → is_manager who ≡ true → who ≡ author.Manager
is-managers author.Manager e = refl
is-managers (author.User id) e = cc

each-after : (P : Store → Type 0) (r : Result Store Refusal) → ((mid : Store) → r ≡ Ok mid → P mid) → IfSome (landed_on r) P
each-after P (Ok mid) h = h mid refl
each-after P (Err refusal) h = tt

module _ (inst : Instance) (log : Log) where
  user-due : (st : Store) (group : Group) (who : Author) → is_manager who ≡ false → IsDueFor inst log st group who
  user-due st group author.Manager e = cc
  user-due st group (author.User id) e = tt

  pub users-due : (groups : List Group) (st : Store) → posts_in groups ≡ [] → AreDueFrom inst log groups st
  users-due [] st none = tt
  users-due (g ∷ gs) st none = by (is_manager g.txn.author) refl (users-due gs)
    where
      by : (b : Bool) → is_manager g.txn.author ≡ b → ((mid : Store) → posts_in gs ≡ [] → AreDueFrom inst log gs mid) → AreDueFrom inst log (g ∷ gs) st
      by true m more = (let wrong : g ∷ posts_in gs ≡ [] = sym (with-post g gs m) ∙ none in cc)
      by false m more = (
        user-due st g g.txn.author m,
        each-after (AreDueFrom inst log gs) (effect st g.txn scope.Primary) (λ mid e. more mid (sym (with-user g gs m) ∙ none)),
      )

  module _ (valid : IsInstance inst) (desk : Desk) (post : Post) (due : IsDuePost desk post) where
    at-desk : (st mid : Store) (g : Group) → is_manager g.txn.author ≡ false → effect st g.txn scope.Primary ≡ Ok mid → IsDeskOf inst log st desk → IsDeskOf inst log mid desk
    at-desk st mid g m e is = record {
      now = is.now;
      grant = is.grant;
      answer = is.answer;
      policy = is.policy;
      limits = is.limits;
      old = λ id. is.old id ∙ none_old inst (r_text inst.grant) st id valid.text ∙ sym (none_old inst (r_text inst.grant) mid id valid.text);
      birth = is.birth;
      jobs = users_leave_jobs st mid g.txn desk.scene.jobs (as-user g.txn.author m) e is.jobs;
      asked = is.asked;
      submits = is.submits;
    }

    pub post-due : (groups : List Group) (st : Store) → IsDeskOf inst log st desk → posts_in groups ≡ group_of post ∷ [] → AreDueFrom inst log groups st
    post-due [] st is one = cc
    post-due (g ∷ gs) st is one = by (is_manager g.txn.author) refl (post-due gs)
      where
        by : (b : Bool) → is_manager g.txn.author ≡ b → ((mid : Store) → IsDeskOf inst log mid desk → posts_in gs ≡ group_of post ∷ [] → AreDueFrom inst log gs mid) → AreDueFrom inst log (g ∷ gs) st
        by true m more =
            let here : g ∷ posts_in gs ≡ group_of post ∷ [] = sym (with-post g gs m) ∙ one in
            let same : g ≡ group_of post = cc in
            let none : posts_in gs ≡ [] = cc in
            let at : IsDueAt inst log st g = record { desk = desk; is = is; post = post; due = due; txn = ap (λ x. x.txn) same; authors = ap (λ x. x.authors) same } in (
              subst (IsDueFor inst log st g) (sym (is-managers g.txn.author m)) at,
              each-after (AreDueFrom inst log gs) (effect st g.txn scope.Primary) (λ mid e. users-due gs mid none),
            )
        by false m more = (
          user-due st g g.txn.author m,
          each-after (AreDueFrom inst log gs) (effect st g.txn scope.Primary) (λ mid e. more mid (at-desk st mid g m e is) (sym (with-user g gs m) ∙ one)),
        )
