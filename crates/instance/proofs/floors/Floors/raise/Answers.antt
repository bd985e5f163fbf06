use Rattle.instance.proofs.Seeing.{raised_floor}
use Rattle.std.proofs.Common.{◌∙◌, ap, max, subst, ◌≡◌, cond, Some, sym}
use Rattle.std.specs.BTreeMap.{is_at}
use Rattle.std.specs.Cmp.Lexicographic.{slice_cmp}
use Rattle.std.specs.Map.{lookup}
use Rattle.std.specs.Ordering.{nat_cmp}
use Rattle.std.specs.Str.{bytes_eq}
use Rattle.services.specs.kvs_model.Store.{Name}
use Rattle.instance.specs.Floors.{Floors, floor_in}
use Rattle.instance.proofs.floors.Floors.raise.Goals as goal

pub returns : goal.returns
returns c =
    let new = c.insert.new.self.entries in
    let key = c.args.space.now in
    subst (λ (old : Floors). (q : Name) → floor_in new q ≡ cond (bytes_eq q key) (max (floor_in old q) c.args.number) (floor_in old q)) c.self.view_is
    (raised_floor c.self.inside.numbers.entries new key c.args.number c.max-number.result
    (c.max-number.ensures ∙ ap (λ n. max n c.args.number) (c.of.ensures ∙ ap (λ es. floor_in es key) (sym c.self.view_is)))
    (subst
    (λ (k : Name). (q : Name) → lookup (is_at (slice_cmp nat_cmp q)) new ≡ cond (is_at (slice_cmp nat_cmp k) q) (Some c.max-number.result) (lookup (is_at (slice_cmp nat_cmp q)) c.self.inside.numbers.entries))
    c.in_ok-copy.ensures c.in_ok-insert.ensures.updates.0))
