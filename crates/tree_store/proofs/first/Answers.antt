use Rattle.std.proofs.Common.{option_map, sym, subst}
use Rattle.kvs_model.specs.History.{first_store}
use Rattle.kvs_model.specs.Store.{empty_store}
use Rattle.tree_store.specs.Landing.{table, opening}
use Rattle.tree_store.specs.Shown.{Directories, Shows}
use Rattle.tree_store.proofs.Rooted.{empty_shows}
use Rattle.tree_store.proofs.first.Goals.{in-Some+in_ok-grant, in_default}
use Rattle.tree_store.proofs.first.Goals as goal

pub written-requires : goal.written-requires
written-requires c =
    let h = c.args.hash in
    let start : Shows h (table c.args.store.now) c.in_ok-opened.opened empty_store = subst (λ (d : Directories). Shows h (table c.args.store.now) d empty_store) (sym c.in_ok-opened.ensures) (empty_shows h (table c.args.store.now)) in
    let shows : Shows h (table c.args.store.now) c.match-grant.opened (opening (option_map (λ g. g.now) c.args.grant)) = elim c.match-grant.branch [
      | in-Some+in_ok-grant w ↦
          subst (λ o. Shows h (table c.args.store.now) c.match-grant.opened (opening (option_map (λ g. g.now) o))) (sym w.in-Some.is)
          (subst (λ (d : Directories). Shows h (table c.args.store.now) d (first_store w.in-Some.grant.now)) (sym w.opened-is) (w.in_ok-grant.ensures h (table c.args.store.now) start))
      | in_default w ↦
          subst (λ o. Shows h (table c.args.store.now) c.match-grant.opened (opening (option_map (λ g. g.now) o))) (sym w.in_default.is)
          (subst (λ (d : Directories). Shows h (table c.args.store.now) d empty_store) (sym w.opened-is) start)
    ] in
    (opening (option_map (λ g. g.now) c.args.grant), shows)

pub returns : goal.returns
returns c =
    let h = c.args.hash in
    let start : Shows h (table c.args.store.now) c.in_ok-opened.opened empty_store = subst (λ (d : Directories). Shows h (table c.args.store.now) d empty_store) (sym c.in_ok-opened.ensures) (empty_shows h (table c.args.store.now)) in
    let shows : Shows h (table c.args.store.now) c.match-grant.opened (opening (option_map (λ g. g.now) c.args.grant)) = elim c.match-grant.branch [
      | in-Some+in_ok-grant w ↦
          subst (λ o. Shows h (table c.args.store.now) c.match-grant.opened (opening (option_map (λ g. g.now) o))) (sym w.in-Some.is)
          (subst (λ (d : Directories). Shows h (table c.args.store.now) d (first_store w.in-Some.grant.now)) (sym w.opened-is) (w.in_ok-grant.ensures h (table c.args.store.now) start))
      | in_default w ↦
          subst (λ o. Shows h (table c.args.store.now) c.match-grant.opened (opening (option_map (λ g. g.now) o))) (sym w.in_default.is)
          (subst (λ (d : Directories). Shows h (table c.args.store.now) d empty_store) (sym w.opened-is) start)
    ] in
    c.written.ensures (opening (option_map (λ g. g.now) c.args.grant)) shows
