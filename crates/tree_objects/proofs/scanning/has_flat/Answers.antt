use Rattle.std.proofs.Common.{◌≡◌, ℕ, zero, suc, ◌+◌, ◌<◌, List, [], ◌∷◌, length, get_or, drop, refl, subst, arith}
use Rattle.kvs_model.specs.Store.{Name}
use Rattle.tree_rules.specs.Objects.{listed}
use Rattle.tree_objects.specs.Directories.{names_of}
use Rattle.tree_objects.specs.Level.{tree_of}
use Rattle.tree_objects.proofs.Pairs.{entries_of_listed}
use Rattle.tree_objects.proofs.Tokens.{listed_next, members_end}
use Rattle.tree_objects.proofs.Flat.{more_flat, none_flat, readable_directory, shallow_directory}
use Rattle.tree_objects.proofs.scanning.has_flat.Goals as goal

name_at : (names : List Name) (i : ℕ) (d : Name) → i < length names → get_or names i d ≡ get_or names i (get_or names i d)
name_at [] i d h = absurd (omega arith)
name_at (n ∷ ns) zero d h = refl
name_at (n ∷ ns) (suc i) d h = name_at ns i d (omega arith)

pub loop-index-preserved : goal.loop-index-preserved
loop-index-preserved c = λ h.
    let map = c.args.directory.now in
    let i = c.loop-index.index in
    let o = c.index-objects-index.result in
    let within : i < length (names_of map) = subst (λ (ns : List Name). i < length ns) c.names-names.ensures c.loop-index-test.true in
    let name = get_or (names_of map) i [] in
    let next : drop i (listed map) ≡ (name, tree_of o) ∷ drop (i + 1) (listed map) = listed_next map (names_of map) c.objects-objects.result.now refl c.objects-objects.ensures.objects c.objects-objects.ensures.length i name o within (name_at (names_of map) i [] within) c.index-objects-index.is in
    c.loop-index.invariant (more_flat (drop i (listed map)) name (tree_of o) (drop (i + 1) (listed map)) next (c.is_flat.ensures c.if-not-is_flat.false) h)

pub returns-clause-readable : goal.returns-clause-readable
returns-clause-readable c = λ _.
    let map = c.args.directory.now in
    let i = c.loop-index.index in
    readable_directory map c.is_directory.ensures.sorted (c.loop-index.invariant (none_flat (drop i (listed map)) (members_end map c.names-names.result.now i c.names-names.ensures c.loop-index-test.false))) (entries_of_listed map)

pub returns-clause-shallow : goal.returns-clause-shallow
returns-clause-shallow c = λ _.
    let map = c.args.directory.now in
    let i = c.loop-index.index in
    shallow_directory map (c.loop-index.invariant (none_flat (drop i (listed map)) (members_end map c.names-names.result.now i c.names-names.ensures c.loop-index-test.false))) (entries_of_listed map)
