-- Stores that are needed next, and the clashes that they meet.
use Rattle.std.specs.Prelude.{◌≡◌, ◌≢◌, ◌⊎◌, false, IsTrue, List, ℕ, Contains}
use Rattle.fl_digest.specs.declared.BlobRef.{BlobRef}
use Rattle.fl_digest.specs.Reference.{reference_of}
use Rattle.kvs_txn.specs.declared.txn.By.{By}
use Rattle.kvs_model.specs.Store.{Name, Store, empty_store}
use Rattle.tree_rules.specs.Texts.{contents}
use Rattle.kvs_rules.specs.declared.events.KvsAsk.TheVariants as ask
use Rattle.kvs_rules.specs.Brokers.{IsContent}
use Rattle.kvs_rules.specs.Log.{Log, is_asked, is_landed}
use Rattle.kvs_rules.specs.Namespaces.{Asks, Setting}

-- a text or a value of a store that is needed has the reference of another byte string: of one of
-- that store too, or of a content
pub record IsClashWith (set : Setting) (log : Log) (st : Store)
    (reference : BlobRef) (kept offered : List ℕ) : Type 0 where
  pub differ : kept ≢ offered
  pub needed : Contains (contents set.hash st) offered
  pub other : Contains (contents set.hash st) kept ⊎ IsContent set log kept
  pub named : reference ≡ reference_of set.hash offered
  pub shared : reference ≡ reference_of set.hash kept

-- the store of a namespace that a command has asked to open, and no landing has opened for it
pub record IsOpenedNext (set : Setting) (log : Log) (st : Store) : Type 0 where
  pub by : By
  pub space : Name
  pub asks : Asks set space by ask.Create
  pub asked : IsTrue (is_asked by log)
  pub unlanded : is_landed by log ≡ false
  pub empty : st ≡ empty_store
