-- A grant with the live jobs.
use Rattle.std.specs.Prelude.{ℕ, List}
use Rattle.job_rules.specs.declared.hold.Hold.{Hold}
use Rattle.resource_set.specs.declared.node.Node.{Node}

-- a grant's hosts and its second of expiration (0 is none), and what live jobs hold of it
pub record Allotment : Type 0 where
  pub grant : List Node
  pub expiration : ℕ
  pub live : List Hold
