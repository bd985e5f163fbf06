-- What a reader is told that looks in texts as far as these are known.
use Rattle.std.specs.Prelude.{◌≡◌, ◌++◌, ◌∷◌, ℕ, List, Some, None, Contains, IsSome}
use Rattle.fl_digest.specs.declared.BlobRef.{BlobRef}
use Rattle.fl_digest.specs.declared.Hash.{Hash}
use Rattle.kvs_txn.specs.declared.answers.Found.{Found}
use Rattle.kvs_model.specs.Store.{Store}
use Rattle.tree_rules.specs.Held.{Table, IsRootOf}
use Rattle.tree_look.specs.declared.Advance.{Advance}
use Rattle.tree_look.specs.declared.Advance.TheVariants as advance

-- the root is that of this store, which a table holds that has what is known of the texts
pub record Reads (hash : Hash) (st : Store) (root : BlobRef) (texts : Table) : Type 0 where
  pub table : Table
  pub holds : IsRootOf hash table root st
  pub agrees : (reference : BlobRef) (bytes : List ℕ)
      → texts reference ≡ Some bytes → table reference ≡ Some bytes

-- all of these are known in the texts
abbrev pub AreKnown : Table → List BlobRef → Type 0
AreKnown texts references = (reference : BlobRef) → Contains references reference
    → IsSome (texts reference)

-- of the references that a walk needs besides the old ones it has passed all
pub record PassesAll (texts : Table) (wanted old new : List BlobRef) : Type 0 where
  pub passed : new ≡ old ++ wanted
  pub known : AreKnown texts wanted

-- it has passed those before this one, which isn't known
pub record Misses (texts : Table) (wanted old new : List BlobRef)
    (reference : BlobRef) : Type 0 where
  pub before : List BlobRef
  pub behind : List BlobRef
  pub parts : wanted ≡ before ++ reference ∷ behind
  pub passed : new ≡ old ++ before
  pub known : AreKnown texts before
  pub missing : texts reference ≡ None

-- what a walk tells that finds this and needs these references besides the old ones
abbrev pub EndTells : Found → List BlobRef → Table → List BlobRef → List BlobRef → Advance → Type 0
EndTells what wanted texts old new (advance.Done found) =
    (found ≡ what) × PassesAll texts wanted old new
EndTells what wanted texts old new (advance.Needs reference) = Misses texts wanted old new reference
