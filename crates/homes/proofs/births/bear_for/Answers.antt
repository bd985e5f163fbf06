use Rattle.std.proofs.Common.{◌≡◌, ◌∙◌, ◌+◌, ℕ, suc, List, [], ◌∷◌, ap, length, refl, sym, subst, arith}
use Rattle.instance.specs.child_grant.Child.{numbered}
use Rattle.instance.specs.resource_set.declared.node.Node.{Node}
use Rattle.instance.specs.answers.Jobs.{instance_of, log_in}
use Rattle.hierarchy.specs.Families.{living_in}
use Rattle.hierarchy.specs.Own.{own_of, setup_in}
use Rattle.hierarchy.proofs.Nested.{in_family}
use Rattle.instance.specs.instance_rules.Desks.{Names}
use Rattle.homes.proofs.births.bear_for.Goals as goal

long : (rank : ℕ) (nodes : List Node) → length (numbered rank nodes) ≡ length nodes
long rank [] = refl
long rank (node ∷ more) = ap suc (long (rank + 1) more)

pub returns-clause-some : goal.returns-clause-some
returns-clause-some c = λ set own agrees.
    let held = (rw c.in-Some-2.is at c.in_ok-grant.ensures.held) set own agrees in
    let same = ap (λ g. length g.nodes) held.given ∙ long 0 held.r.nodes in
    let some = held.some in
    omega arith

pub returns-clause-legal : goal.returns-clause-legal
returns-clause-legal c = λ set d child i second here agrees next now.
    let s = setup_in set d i in
    let own = own_of set d i in
    let first = (rw (c.birth.ensures.kept ∙ c.requires.due) at c.birth.ensures.some) s own agrees in
    let held = (rw c.in-Some-2.is at c.in_ok-grant.ensures.held) s own agrees in
    record {
      next = next;
      now = now;
      due = record { living = living_in set d i; lives = in_family set d i here; named = refl; due = (first.0, first.1, (first.2.0, first.2.1, first.2.2.due)) };
      labelled = subst (λ l. Names (instance_of s) (log_in s.work own) l c.args.job) (sym c.in_ok-label.ensures) (c.in-Some.ensures.names s own agrees);
      granted = record {
        store = held.store;
        standing = held.standing;
        jobs = held.jobs;
        are = held.are;
        j = held.j;
        known = held.known;
        is = held.is;
        r = held.r;
        held = held.held;
        given = held.given;
      };
    }
