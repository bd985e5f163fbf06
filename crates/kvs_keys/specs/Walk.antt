-- The steps that can be made, by number.
use Rattle.std.specs.Prelude.{ℕ, zero, suc, ◌-◌, List, [], ◌∷◌, Result, Ok, Err, map, flat_map}
use Rattle.std.specs.List.{range_with_len}
use Rattle.kvs_rules.specs.declared.events.KvsStep.{KvsStep}
use Rattle.kvs_rules.specs.declared.events.KvsStep.TheVariants as kvs
use Rattle.kvs_space.specs.declared.links.Loss.{Loss}
use Rattle.kvs_keys.specs.Order.{loss_step}
use Rattle.kvs_keys.specs.declared.service.walk.Strand.{Strand}
use Rattle.kvs_keys.specs.declared.service.walk.Strand.TheVariants as strand

-- the item of this number, from 0, or what the number has left behind the list
abbrev pub nth : {X : Type 0} → List X → ℕ → Result X ℕ
nth [] number = Err number
nth (x ∷ xs) zero = Ok x
nth (x ∷ xs) (suc number) = nth xs number

-- the step at a place of a strand
abbrev pub step_of : Strand → ℕ → KvsStep
step_of (strand.Deliveries from) at = kvs.Deliver from at
step_of strand.Services at = kvs.Serve at
step_of strand.Landings at = kvs.Land at
step_of strand.Resyncs at = kvs.Resync at
step_of (strand.Losses kind from) at = loss_step kind from at

-- the numbers from one up to another
abbrev pub between : ℕ → ℕ → List ℕ
between first end = range_with_len first (end - first)

-- the deliveries from a broker to so many, by receiver
abbrev pub sent : ℕ → ℕ → List KvsStep
sent brokers from = map (kvs.Deliver from) (range_with_len 0 brokers)

-- the deliveries between so many brokers, by sender and then by receiver
abbrev pub deliveries : ℕ → List KvsStep
deliveries brokers = flat_map (sent brokers) (range_with_len 0 brokers)

-- the losses of one kind on the links from a broker to so many, by receiver
abbrev pub lost : Loss → ℕ → ℕ → List KvsStep
lost kind brokers from = map (loss_step kind from) (range_with_len 0 brokers)
