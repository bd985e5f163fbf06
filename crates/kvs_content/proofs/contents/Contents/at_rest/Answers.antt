use Rattle.kvs_content.proofs.Resting.{all-clean, no-offers, no-wants}
use Rattle.kvs_content.proofs.contents.Contents.at_rest.Goals as goal

pub returns-clause-offers : goal.returns-clause-offers
returns-clause-offers c = no-offers c.args.self.now c.requires.sound c.requires.rest

pub returns-clause-wants : goal.returns-clause-wants
returns-clause-wants c = no-wants c.args.self.now c.requires.sound c.requires.rest

pub returns-clause-clean : goal.returns-clause-clean
returns-clause-clean c = all-clean c.args.self.now c.requires.sound c.requires.rest
