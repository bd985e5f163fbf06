use Rattle.kvs_txn.proofs.Names.{name_utf8}
use Rattle.kvs_txn.proofs.words.names_are_texts.Goals as goal

pub returns : goal.returns
returns c name h = name_utf8 name h
