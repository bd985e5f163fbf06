use Rattle.kvs_content.proofs.Linking.{link-of}
use Rattle.kvs_content.proofs.contents.Contents.links.Goals as goal

pub returns : goal.returns
returns c = link-of c.args.self.now c.requires
