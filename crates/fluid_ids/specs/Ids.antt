-- FLUIDs and their generator (Flux RFC 19): 40 bits of milliseconds, 14 bits of generator id and 10
-- bits of sequence number.
use Rattle.std.specs.Prelude.{◌≡◌, ℕ, ◌+◌, ◌-◌, ◌*◌, ◌/◌, ◌%◌, ◌^◌, ◌<◌, ◌≤◌, ◌==◌, nat_lt, if◌then◌else◌}

-- what a generator has drawn
pub record State : Type 0 where
  pub rank : ℕ
  pub millis : ℕ  -- the last millisecond that it used
  pub used : ℕ  -- how many ids it drew in that millisecond
  pub seconds : ℕ  -- when it was last asked
  pub drawn : ℕ  -- how many ids it drew

abbrev pub new_state : ℕ → State
new_state rank = record { rank = rank; millis = 0; used = 0; seconds = 0; drawn = 0 }

-- the id of a millisecond, a rank and a sequence number
abbrev pub id_of : ℕ → ℕ → ℕ → ℕ
id_of millis rank sequence = (millis * 2 ^ 14 + rank) * 2 ^ 10 + sequence

-- the id that was drawn last
abbrev pub last_id : State → ℕ
last_id g = id_of g.millis g.rank (g.used - 1)

-- the state after an id more, which takes the first sequence number that is free from now on
abbrev pub next_state : State → ℕ → State
next_state g now = if nat_lt g.millis (1000 * now) then record {
  rank = g.rank;
  millis = 1000 * now;
  used = 1;
  seconds = now;
  drawn = g.drawn + 1;
}
    else if g.used == 1024 then record {
      rank = g.rank;
      millis = g.millis + 1;
      used = 1;
      seconds = now;
      drawn = g.drawn + 1;
    }
    else record {
      rank = g.rank;
      millis = g.millis;
      used = g.used + 1;
      seconds = now;
      drawn = g.drawn + 1;
    }

-- what every generator keeps
pub record IsState (g : State) : Type 0 where
  pub rank : g.rank < 2 ^ 14
  pub used : g.used ≤ 2 ^ 10
  pub some : 0 < g.drawn → 0 < g.used
  pub few : g.drawn ≤ 2 ^ 32
  pub soon : g.seconds ≤ 1000000000
  pub close : g.millis ≤ 1000 * g.seconds + g.drawn

-- an id of a rank, with each part within its bits
pub record IsFluid (rank id : ℕ) : Type 0 where
  pub millis : id / 2 ^ 24 < 2 ^ 40
  pub rank_is : id / 2 ^ 10 % 2 ^ 14 ≡ rank
