use Rattle.std.proofs.Common.{◌∙◌, sym}
use Rattle.root_feed.proofs.Steps.{joins}
use Rattle.root_feed.proofs.feed.Token.join.Goals as goal

pub join_seat-requires : goal.join_seat-requires
join_seat-requires g c = let feed = c.args.feed.now in (
  c.self.invariant.0 ∙ sym feed.named,
  c.other.invariant.0 ∙ sym feed.named,
  c.other.invariant.1,
  rw feed.named c.requires,
  joins _ _ _ _ _,
)
