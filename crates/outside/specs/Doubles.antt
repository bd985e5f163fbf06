-- What a source and a sink in memory are, and what a call makes of them.
use Rattle.std.specs.Prelude.{◌≡◌, ◌⊎◌, [], IsTrue, ℕ, ◌+◌, ◌-◌, ◌^◌, min, List, ◌++◌, length, take, drop, Bool, nat_eq, Result, Ok, Err}
use Rattle.std.specs.List.{list_any}

-- a source: the bytes left, the most that a call gives, the numbers of the calls that fail, and the
-- calls and the faults so far
pub record Supply : Type 0 where
  pub left : List ℕ
  pub most : ℕ
  pub fails : List ℕ
  pub calls : ℕ
  pub faults : ℕ

-- a sink: the bytes taken, the room for them, and the same
pub record Vessel : Type 0 where
  pub taken : List ℕ
  pub room : ℕ
  pub most : ℕ
  pub fails : List ℕ
  pub calls : ℕ
  pub faults : ℕ

-- a source of these bytes before its first call
abbrev pub new_supply : List ℕ → ℕ → List ℕ → Supply
new_supply bytes most fails = record {
  left = bytes;
  most = most;
  fails = fails;
  calls = 0;
  faults = 0;
}

-- an empty sink before its first call
abbrev pub new_vessel : ℕ → ℕ → List ℕ → Vessel
new_vessel room most fails = record {
  taken = [];
  room = room;
  most = most;
  fails = fails;
  calls = 0;
  faults = 0;
}

-- whether the call of this number is listed among those that fail
abbrev pub is_listed : List ℕ → ℕ → Bool
is_listed fails call = list_any (λ listed. nat_eq listed call) fails

-- the sink's next call fails: it is listed, or there is no room left
abbrev pub RefusesNext : Vessel → Type 0
RefusesNext s = IsTrue (is_listed s.fails s.calls) ⊎ (length s.taken ≡ s.room)

-- one more, up to the last value of a count
abbrev pub one_more : ℕ → ℕ
one_more n = min (n + 1) (2 ^ 64 - 1)

-- how many bytes a call gives into so much room
abbrev pub given : Supply → ℕ → ℕ
given s room = min (min room s.most) (length s.left)

-- how many bytes a call takes of so many
abbrev pub accepted : Vessel → ℕ → ℕ
accepted s count = min (min count s.most) (s.room - length s.taken)

-- a source behind a call with this result
abbrev pub read_from : {E : Type 0} → Supply → Result ℕ E → Supply
read_from s (Ok n) = record s { left = drop n s.left; calls = one_more s.calls }
read_from s (Err e) = record s { calls = one_more s.calls; faults = one_more s.faults }

-- a sink behind a call with this piece and this result
abbrev pub written_to : {E : Type 0} → Vessel → List ℕ → Result ℕ E → Vessel
written_to s piece (Ok n) = record s { taken = s.taken ++ take n piece; calls = one_more s.calls }
written_to s piece (Err e) = record s { calls = one_more s.calls; faults = one_more s.faults }
