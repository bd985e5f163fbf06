-- What callers see of a machine that is held.
use Rattle.std.specs.Prelude.{Bool, false, List, []}

-- the machine, the steps that it has made, and whether memory has failed
pub record HeldValue (M Step : Type 0) : Type 0 where
  pub machine : M
  pub steps : List Step
  pub spent : Bool

abbrev pub new_held : {M Step : Type 0} → M → HeldValue M Step
new_held machine = record { machine = machine; steps = []; spent = false }
