use Rattle.std.proofs.Common.{◌∙◌, sym}
use Rattle.root_feed.proofs.Steps.{makes}
use Rattle.root_feed.proofs.feed.Token.herald.Goals as goal

pub split_seat-requires : goal.split_seat-requires
split_seat-requires g c = let feed = c.args.feed.now in (c.self.invariant.0 ∙ sym feed.named, rw feed.named c.requires.some, makes _ _ _ (rw c.self.view_is c.requires.maker))
