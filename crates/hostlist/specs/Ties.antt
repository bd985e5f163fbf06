-- What holds a part of a list of hosts together.
use Rattle.std.specs.Prelude.{ℕ, List, Bool}
use Rattle.hostlist.specs.Names.{shares_prefix, follows}
use Rattle.hostlist.specs.declared.printing.Tie.{Tie}
use Rattle.hostlist.specs.declared.printing.Tie.TheVariants.{Prefix, Follower}

-- whether b goes with a, which stands before it
abbrev pub goes : Tie → List ℕ → List ℕ → Bool
goes Prefix a b = shares_prefix a b
goes Follower a b = follows a b
