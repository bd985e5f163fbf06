-- An instance with a chronicle of its own.
use Rattle.std.specs.Prelude.{List}
use Rattle.services.specs.answers.declared.chronicle.Entry.{Entry}
use Rattle.services.specs.answers.Chronicle.{Setup}
use Rattle.instance.specs.Agrees.{AgreesOwn}
use Rattle.instance.specs.Value.{InstanceValue}

pub record Own : Type 0 where
  pub set : Setup
  pub chronicle : List Entry
  pub instance : InstanceValue

-- the chronicle agrees with it
abbrev pub DoesAgree : Own → Type 0
DoesAgree v = AgreesOwn v.instance v.set v.chronicle

abbrev pub own_of : InstanceValue → Setup → List Entry → Own
own_of v set own = record { set = set; chronicle = own; instance = v }
