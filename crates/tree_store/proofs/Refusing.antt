-- Why an operation is refused.
use Rattle.std.proofs.Common.{◌≡◌, ℕ, Bool, true, false, cond, List, [], ◌∷◌, ◌++◌, length, Option, Some, None, nat_lt, refl, ap, ◌∙◌, true≢false, append-nil}
use Rattle.fl_digest.specs.declared.BlobRef.{BlobRef}
use Rattle.fl_digest.specs.declared.Hash.{Hash}
use Rattle.kvs_txn.specs.declared.answers.Cause.{Cause}
use Rattle.kvs_txn.specs.declared.answers.Cause.TheVariants as cause
use Rattle.kvs_txn.specs.declared.txn.Author.{Author}
use Rattle.kvs_txn.specs.declared.txn.Author.TheVariants as author
use Rattle.kvs_txn.specs.declared.txn.Scope.{Scope}
use Rattle.kvs_txn.specs.declared.txn.Op.{Op}
use Rattle.kvs_txn.specs.declared.txn.Op.TheVariants as op
use Rattle.kvs_model.specs.Operation.{appended, is_reserved, first_cause, refusals, enters_full_from, overfills_value, is_directory, is_link, most_bytes}
use Rattle.kvs_txn.specs.declared.words.Target.{Target}
use Rattle.kvs_model.specs.Store.{Path, Node, Value, Directory, Link, Store, node_at}
use Rattle.tree_rules.specs.Held.{Table}
use Rattle.tree_rules.specs.Objects.{val, valref}
use Rattle.tree_store.specs.Shown.{Directories, Stands, too_long, append_cause}

-- ---- an append to a value

pub value_cause : (h : Hash) (table : Table) (ds : Directories) (st : Store) (path : Path) (bytes : List ℕ) (who : Author) (more : List ℕ) → Stands h table ds st path (Some (val bytes))
    → too_long who (appended (node_at st path) [] ++ more) ≡ append_cause who (node_at st path) more
value_cause h table ds st path bytes who more is = of_value who (node_at st path) bytes more is
  where
    of_value : (who : Author) (o : Option Node) (bytes more : List ℕ) → o ≡ Some (Value bytes) → too_long who (appended o [] ++ more) ≡ append_cause who o more
    of_value who None bytes more e = absurd (cc)
    of_value who (Some (Value old)) bytes more e = ap (λ (b : List ℕ). too_long who (b ++ more)) (append-nil old)
    of_value who (Some Directory) bytes more e = absurd (cc)
    of_value who (Some (Link target)) bytes more e = absurd (cc)

pub valref_cause : (h : Hash) (table : Table) (ds : Directories) (st : Store) (path : Path) (references : List BlobRef) (who : Author) (more : List ℕ) → Stands h table ds st path (Some (valref references))
    → too_long who (appended (node_at st path) [] ++ more) ≡ append_cause who (node_at st path) more
valref_cause h table ds st path references who more is = value_cause h table ds st path is.bytes who more is.value

-- ---- the causes in their order

-- a user's value that is too long after an append
abbrev overfills : Author → Option Node → List ℕ → Bool
overfills author.Manager node bytes = false
overfills (author.User id) node bytes = nat_lt most_bytes (length (appended node bytes))

abbrev pub first_of : Option Cause → Option Cause → Option Cause
first_of (Some why) other = Some why
first_of None other = other

abbrev pub full : Store → Path → Option Cause
full st at = cond (enters_full_from st [] at) (Some cause.DirFull) None

reserved : (b : Bool) (rest : Option Cause) → b ≡ false → cond b (Some cause.Reserved) rest ≡ rest
reserved true rest e = absurd (true≢false e)
reserved false rest e = refl

-- what stands there counts before the names on the way
at_node : (who : Author) (st : Store) (path at : Path) (bytes : List ℕ) (node : Option Node) → node_at st at ≡ node
    → cond (is_directory node) (Some cause.IsDir) (cond (is_link node) (Some cause.IsLink) (cond (overfills who node bytes) (Some cause.ValueFull) (full st at))) ≡ first_of (append_cause who node bytes) (full st at)
at_node author.Manager st path at bytes None e = refl
at_node author.Manager st path at bytes (Some (Value old)) e = refl
at_node author.Manager st path at bytes (Some Directory) e = refl
at_node author.Manager st path at bytes (Some (Link target)) e = refl
at_node (author.User id) st path at bytes None e = elim (nat_lt most_bytes (length bytes)) as (λ b. cond b (Some cause.ValueFull) (full st at) ≡ first_of (cond b (Some cause.ValueFull) None) (full st at)) [ true ↦ refl | false ↦ refl ]
at_node (author.User id) st path at bytes (Some (Value old)) e = elim (nat_lt most_bytes (length (old ++ bytes))) as (λ b. cond b (Some cause.ValueFull) (full st at) ≡ first_of (cond b (Some cause.ValueFull) None) (full st at)) [ true ↦ refl | false ↦ refl ]
at_node (author.User id) st path at bytes (Some Directory) e = refl
at_node (author.User id) st path at bytes (Some (Link target)) e = refl

same_overfill : (who : Author) (st : Store) (path at : Path) (bytes : List ℕ) → overfills_value st who (op.Append path bytes) at ≡ overfills who (node_at st at) bytes
same_overfill author.Manager st path at bytes = refl
same_overfill (author.User id) st path at bytes = refl

full_again : (st : Store) (at : Path) → cond (enters_full_from st [] at) (Some cause.DirFull) (first_cause []) ≡ full st at
full_again st at = refl

pub of_append : (who : Author) (space : Scope) (st : Store) (path at : Path) (bytes : List ℕ) → is_reserved who space at ≡ false
    → first_cause (refusals st who space (op.Append path bytes) at) ≡ first_of (append_cause who (node_at st at) bytes) (full st at)
of_append who space st path at bytes free =
    reserved (is_reserved who space at) _ free
    ∙ ap (λ b. cond (is_directory (node_at st at)) (Some cause.IsDir) (cond (is_link (node_at st at)) (Some cause.IsLink) (cond b (Some cause.ValueFull) (full st at)))) (same_overfill who st path at bytes)
    ∙ at_node who st path at bytes (node_at st at) refl

no_overfill : (who : Author) (st : Store) (o : Op) (at : Path) → ((path : Path) (bytes : List ℕ) → o ≡ op.Append path bytes → ⊥) → overfills_value st who o at ≡ false
no_overfill author.Manager st o at unlike = refl
no_overfill (author.User id) st (op.Put path bytes) at unlike = refl
no_overfill (author.User id) st (op.Append path bytes) at unlike = absurd (unlike path bytes refl)
no_overfill (author.User id) st (op.Unlink path) at unlike = refl
no_overfill (author.User id) st (op.Mkdir path) at unlike = refl
no_overfill (author.User id) st (op.Link path target) at unlike = refl

-- of another that makes a name
of_other : (who : Author) (space : Scope) (st : Store) (at : Path) (overfills : Bool) → is_reserved who space at ≡ false → overfills ≡ false
    → first_cause ((cause.Reserved, is_reserved who space at) ∷ (cause.IsDir, false) ∷ (cause.IsLink, false) ∷ (cause.ValueFull, overfills) ∷ (cause.DirFull, enters_full_from st [] at) ∷ []) ≡ full st at
of_other who space st at overfills free none =
    reserved (is_reserved who space at) _ free ∙ ap (λ b. cond b (Some cause.ValueFull) (full st at)) none

pub of_put : (who : Author) (space : Scope) (st : Store) (path at : Path) (bytes : List ℕ) → is_reserved who space at ≡ false → first_cause (refusals st who space (op.Put path bytes) at) ≡ full st at
of_put who space st path at bytes free = of_other who space st at (overfills_value st who (op.Put path bytes) at) free (no_overfill who st (op.Put path bytes) at (λ p b e. absurd (cc)))

pub of_mkdir : (who : Author) (space : Scope) (st : Store) (path at : Path) → is_reserved who space at ≡ false → first_cause (refusals st who space (op.Mkdir path) at) ≡ full st at
of_mkdir who space st path at free = of_other who space st at (overfills_value st who (op.Mkdir path) at) free (no_overfill who st (op.Mkdir path) at (λ p b e. absurd (cc)))

pub of_link : (who : Author) (space : Scope) (st : Store) (path at : Path) (target : Target) → is_reserved who space at ≡ false → first_cause (refusals st who space (op.Link path target) at) ≡ full st at
of_link who space st path at target free = of_other who space st at (overfills_value st who (op.Link path target) at) free (no_overfill who st (op.Link path target) at (λ p b e. absurd (cc)))
