use Rattle.std.proofs.Common.{option_map, subst}
use Rattle.tree_objects.specs.Level.{tree_of}
use Rattle.tree_store.specs.Landing.{table}
use Rattle.tree_store.specs.Shown.{Stands}
use Rattle.tree_store.proofs.operations.append_refusal.Goals as goal

pub returns-in-Some : goal.returns-in-Some
returns-in-Some c = λ h directories st path stands.
    c.object_refusal.ensures h directories st path (subst (λ o. Stands h (table c.args.store.now) directories st path (option_map (λ o. tree_of o.now) o)) c.in-Some.is stands)
