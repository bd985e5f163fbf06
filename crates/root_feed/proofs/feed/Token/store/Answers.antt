use Rattle.std.proofs.Common.{◌∙◌, sym}
use Rattle.root_feed.proofs.Steps.{stores}
use Rattle.root_feed.proofs.feed.Token.store.Goals as goal

pub store-requires : goal.store-requires
store-requires g c =
    let feed = c.args.feed.now in
    let step = stores _ _ _ _ _ _ (rw feed.counted c.requires.inside) (rw c.self.view_is c.requires.herald.0) (rw c.self.view_is c.requires.herald.1) (rw c.self.view_is c.requires.up) in
    (c.self.invariant.0 ∙ sym feed.named, rw feed.named c.requires.inside, step)
