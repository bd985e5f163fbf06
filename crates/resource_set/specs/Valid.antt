-- The resources that an R tells.
use Rattle.hostlist.specs.Names.{AreHostNames}
use Rattle.resource_set.specs.Units.{AreHosts, host_names}
use Rattle.resource_set.specs.declared.node.Resources.{Resources}

-- the ranks rise and are below 65,536, and the hosts are different names of hosts
pub record IsR (r : Resources) : Type 0 where
  pub hosts : AreHosts r.nodes
  pub named : AreHostNames (host_names r.nodes)
