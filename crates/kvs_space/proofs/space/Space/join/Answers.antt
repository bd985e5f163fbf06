use Rattle.std.proofs.Common.{◌≡◌, subst, sym}
use Rattle.std.specs.Option.{option_map_or}
use Rattle.fence_merge.specs.Fences.{fence_of}
use Rattle.kvs_space.proofs.Differing.{never-differs}
use Rattle.kvs_space.proofs.space.Space.join.Goals as goal

pub unreachable-requires : goal.unreachable-requires
unreachable-requires c =
    let same = subst (λ v. option_map_or (λ f. f.count) (fence_of c.args.fence.now v.merger.fences) c.args.count ≡ c.args.count) (sym c.self.view_is) c.requires.same in
    never-differs c.join.result c.in-Err-CountDiffers.field-0 c.in-Err-CountDiffers.field-0-0 c.in-Err-CountDiffers.field-0-1 c.args.member (fence_of c.args.fence.now c.self.inside.merger.fences) c.args.count
    c.in-Err-CountDiffers.is c.in-Err-CountDiffers.field-0-is c.join.ensures.back (c.join.ensures.differs c.in-Err-CountDiffers.field-0-0).0 same
