-- An id tells its second, its rank and its sequence number, and so the id of a submission that waits is new.
use Rattle.std.proofs.Common.{◌≡◌, ◌≢◌, ℕ, zero, suc, ◌+◌, ◌-◌, ◌*◌, ◌^◌, ◌<◌, ◌≤◌, inl, inr, List, [], ◌∷◌, length, Some, sym, ◌∙◌, arith}
use Rattle.std.specs.Prelude.{slice_index}
use Rattle.std.proofs.lemmas.Bool.{cases_order}
use Rattle.fluid_ids.specs.Ids.{id_of}
use Rattle.kvs_txn.specs.declared.txn.By.{By}
use Rattle.job_commands.specs.Agrees.{AreDrawn, IsIdOf}
use Rattle.job_commands.specs.Rows.{CommandsValue, job_at}

within : (xs : List ℕ) (i : ℕ) → 0 < slice_index xs i → i < length xs
within [] i e = absurd (let none : 0 < 0 = e in omega arith)
within (x ∷ xs) zero e = omega arith
within (x ∷ xs) (suc i) e = let more = within xs i e in omega arith

-- a quotient by 1,024 and what is left, and one by 16,384
sequences : (a b s t : ℕ) → s < 1024 → t < 1024 → a * 1024 + s ≡ b * 1024 + t → (a ≡ b) × (s ≡ t)
sequences a b s t ls lt e = elim (cases_order a b) [
  | inl same ↦ (same, omega arith)
  | inr other ↦ elim other [ inl less ↦ absurd (omega arith) | inr more ↦ absurd (omega arith) ]
]

ranks : (m n r q : ℕ) → r < 16384 → q < 16384 → m * 16384 + r ≡ n * 16384 + q → (m ≡ n) × (r ≡ q)
ranks m n r q lr lq e = elim (cases_order m n) [
  | inl same ↦ (same, omega arith)
  | inr other ↦ elim other [ inl less ↦ absurd (omega arith) | inr more ↦ absurd (omega arith) ]
]

-- the numbers of an id
record Same (m n r q s t : ℕ) : Type 0 where
  millis : m ≡ n
  rank : r ≡ q
  sequence : s ≡ t

parts : (m n r q s t : ℕ) → r < 16384 → q < 16384 → s < 1024 → t < 1024 → id_of m r s ≡ id_of n q t → Same m n r q s t
parts m n r q s t lr lq ls lt e =
    let both = sequences (m * 16384 + r) (n * 16384 + q) s t ls lt e in
    let higher = ranks m n r q lr lq both.0 in
    record { millis = higher.0; rank = higher.1; sequence = both.1 }

same_second : (birth a b : ℕ) → birth ≤ a → birth ≤ b → 1000 * (a - birth) ≡ 1000 * (b - birth) → a ≡ b
same_second birth a b la lb e = omega (arith, la, lb, e)

module _ (v : CommandsValue) (birth : ℕ) (d : AreDrawn v birth) (short : length v.issued ≤ 2 ^ 14) where
  rank_small : (rank sequence : ℕ) → sequence < slice_index v.issued rank → rank < 16384
  rank_small rank sequence low = let w = within v.issued rank (omega (arith, low)) in omega (arith, w, short)

  sequence_small : (rank sequence : ℕ) → sequence < slice_index v.issued rank → sequence < 1024
  sequence_small rank sequence low = let few = d.few rank in omega (arith, low, few)

  pub is_new : (by : By) (id : ℕ) → IsIdOf v birth by id → (label : List ℕ) → job_at label v.labels ≢ Some id
  is_new by id made label e =
      let old = d.used label id e in
      let row = made.row in
      let its = d.rows row made.known made.waits in
      let same = parts (1000 * (row.issued - birth)) (1000 * (old.second - birth)) row.rank old.rank row.sequence old.sequence
      (rank_small row.rank row.sequence its.below) (rank_small old.rank old.sequence old.drawn.below)
      (sequence_small row.rank row.sequence its.below) (sequence_small old.rank old.sequence old.drawn.below)
      (sym made.made ∙ old.made) in
      old.other row made.known made.waits same.rank (same_second birth row.issued old.second its.since old.drawn.since same.millis) same.sequence
