-- The options of a run, and the values that they take.
use Rattle.std.specs.Prelude.{ℕ, ◌≤◌, ◌&&◌, nat_le, List, true, false, Option, Some, None, IfSome, is_some, codes, length, unwrap_or, option_and_then, if◌then◌else◌}
use Rattle.std.specs.Str.{bytes_eq}
use Rattle.workload.specs.Words.{is_number, number_value}
use Rattle.fl_digest.specs.declared.Hash.{Hash}
use Rattle.fl_digest.specs.declared.Hash.TheVariants.{Sha1, Sha256}
use Rattle.run_options.specs.declared.Options.{Options}
use Rattle.run_options.specs.declared.given.Given.{Given}

-- the most digits of a number
abbrev pub most_digits : ℕ
most_digits = 20

-- the number that 1 to 20 decimal digits write, where it is below 2^64
abbrev pub number_of : List ℕ → Option ℕ
number_of text = if nat_le (length text) most_digits && is_number text
    then Some (number_value text) else None

-- a number of brokers: 1 to 32
abbrev pub as_brokers : ℕ → Option ℕ
as_brokers n = if nat_le 1 n && nat_le n 32 then Some n else None

-- the number of brokers that a text writes
abbrev pub brokers_of : List ℕ → Option ℕ
brokers_of text = option_and_then as_brokers (number_of text)

-- a number of losses: 0 to 10,000
abbrev pub as_losses : ℕ → Option ℕ
as_losses n = if nat_le n 10000 then Some n else None

-- the number of losses that a text writes
abbrev pub losses_of : List ℕ → Option ℕ
losses_of text = option_and_then as_losses (number_of text)

-- a number of workers: 1 to 16
abbrev pub as_workers : ℕ → Option ℕ
as_workers n = if nat_le 1 n && nat_le n 16 then Some n else None

-- the number of workers that a text writes
abbrev pub workers_of : List ℕ → Option ℕ
workers_of text = option_and_then as_workers (number_of text)

-- the hash that a text names
abbrev pub hash_of : List ℕ → Option Hash
hash_of text = if bytes_eq text (codes "sha1") then Some Sha1
    else if bytes_eq text (codes "sha256") then Some Sha256
    else None

-- no option is given
abbrev pub nothing : Given
nothing = record {
  size = None;
  fanout = None;
  hash = None;
  shuffle = None;
  losses = None;
  workers = None;
  journal = false;
  backfill = false;
}

-- one option more, where it is not given yet
abbrev pub with_size : Given → ℕ → Option Given
with_size g n = if is_some g.size then None else Some (record g { size = Some n })

abbrev pub with_fanout : Given → ℕ → Option Given
with_fanout g n = if is_some g.fanout then None else Some (record g { fanout = Some n })

abbrev pub with_hash : Given → Hash → Option Given
with_hash g h = if is_some g.hash then None else Some (record g { hash = Some h })

abbrev pub with_shuffle : Given → ℕ → Option Given
with_shuffle g seed = if is_some g.shuffle then None else Some (record g { shuffle = Some seed })

abbrev pub with_losses : Given → ℕ → Option Given
with_losses g n = if is_some g.losses then None else Some (record g { losses = Some n })

abbrev pub with_workers : Given → ℕ → Option Given
with_workers g n = if is_some g.workers then None else Some (record g { workers = Some n })

abbrev pub with_journal : Given → Option Given
with_journal g = if g.journal then None else Some (record g { journal = true })

abbrev pub with_backfill : Given → Option Given
with_backfill g = if g.backfill then None else Some (record g { backfill = true })

-- the option of this name more, where it takes this value
abbrev pub with_value : Given → List ℕ → List ℕ → Option Given
with_value g name value = if bytes_eq name (codes "--size")
    then option_and_then (with_size g) (brokers_of value)
    else if bytes_eq name (codes "--fanout") then option_and_then (with_fanout g) (brokers_of value)
    else if bytes_eq name (codes "--hash") then option_and_then (with_hash g) (hash_of value)
    else if bytes_eq name (codes "--shuffle")
    then option_and_then (with_shuffle g) (number_of value)
    else if bytes_eq name (codes "--losses") then option_and_then (with_losses g) (losses_of value)
    else if bytes_eq name (codes "--workers")
    then option_and_then (with_workers g) (workers_of value)
    else None

-- the options: four brokers, two below one, SHA-1, no drawn order, no losses, one worker, no
-- journal and no backfill where the words say nothing else
abbrev pub options_from : Given → Options
options_from g = record {
  size = unwrap_or g.size 4;
  fanout = unwrap_or g.fanout 2;
  hash = unwrap_or g.hash Sha1;
  shuffle = g.shuffle;
  losses = unwrap_or g.losses 0;
  workers = unwrap_or g.workers 1;
  journal = g.journal;
  backfill = g.backfill;
}

-- a number of brokers: 1 to 32
abbrev pub IsBrokers : ℕ → Type 0
IsBrokers n = (1 ≤ n) × (n ≤ 32)

-- a number of losses: at most 10,000
abbrev pub AreLosses : ℕ → Type 0
AreLosses n = n ≤ 10000

-- a number of workers: 1 to 16
abbrev pub AreWorkers : ℕ → Type 0
AreWorkers n = (1 ≤ n) × (n ≤ 16)

-- the numbers of brokers, of losses and of workers that are given
pub record IsWithin (g : Given) : Type 0 where
  pub size : IfSome g.size IsBrokers
  pub fanout : IfSome g.fanout IsBrokers
  pub losses : IfSome g.losses AreLosses
  pub workers : IfSome g.workers AreWorkers

-- an instance has 1 to 32 brokers, and so many stand below one; at most 10,000 announcements are
-- lost, repeated or swapped; 1 to 16 workers make the steps
pub record AreWithin (o : Options) : Type 0 where
  pub size : IsBrokers o.size
  pub fanout : IsBrokers o.fanout
  pub losses : AreLosses o.losses
  pub workers : AreWorkers o.workers
