-- A keeper in memory.
use Rattle.std.specs.Prelude.{ℕ, ◌++◌, List, Bool, ◌≡◌, IsTrue, Result, Ok, Err}
use Rattle.backing.specs.declared.keeper.KeepFault.{KeepFault}
use Rattle.backing.specs.declared.keeper.KeepFault.TheVariants.{NoMemory, Failed, Clash}
use Rattle.backing.specs.declared.Write.{Write}
use Rattle.outside.specs.Doubles.{is_listed, one_more}

-- what was written, the numbers of the calls that fail, and the calls and the faults so far
pub record Kept : Type 0 where
  pub writes : List Write
  pub fails : List ℕ
  pub calls : ℕ
  pub faults : ℕ

-- a keeper of these writes before its first call
abbrev pub new_kept : List Write → List ℕ → Kept
new_kept writes fails = record { writes = writes; fails = fails; calls = 0; faults = 0 }

-- whether the next call is listed among those that fail
abbrev pub fails_next : Kept → Bool
fails_next kept = is_listed kept.fails kept.calls

-- the keeper behind a call with this result, which writes so much where it goes well
abbrev pub after_call : {T : Type 0} → Kept → List Write → Result T KeepFault → Kept
after_call kept more (Ok x) =
    record kept { writes = kept.writes ++ more; calls = one_more kept.calls }
after_call kept more (Err Failed) =
    record kept { calls = one_more kept.calls; faults = one_more kept.faults }
after_call kept more (Err NoMemory) = record kept { calls = one_more kept.calls }
after_call kept more (Err (Clash other)) = record kept { calls = one_more kept.calls }

-- a call that is listed fails where it isn't answered otherwise before, and no other call does
pub record Fails {T : Type 0} (kept : Kept) (reached : Type 0)
    (result : Result T KeepFault) : Type 0 where
  pub only : result ≡ Err Failed → IsTrue (fails_next kept)
  pub listed : IsTrue (fails_next kept) → reached → result ≡ Err Failed
