use Rattle.std.proofs.Common.{◌∙◌, sym}
use Rattle.root_feed.proofs.Steps.{loads}
use Rattle.root_feed.proofs.feed.Token.load.Goals as goal

pub load-requires : goal.load-requires
load-requires g c = let feed = c.args.feed.now in (c.self.invariant.0 ∙ sym feed.named, rw feed.named c.requires, loads _ _ _ _ _ (rw feed.counted c.requires))
