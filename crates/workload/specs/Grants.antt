-- The resources that a workload gives its instance.
use Rattle.std.specs.Prelude.{ℕ, nat_lt, List, Bool, ◌||◌, Option, length}
use Rattle.std.specs.List.{list_any}
use Rattle.std.specs.Result.{result_ok}
use Rattle.resource_set.specs.declared.node.Node.{Node}
use Rattle.resource_set.specs.declared.node.Resources.{Resources}
use Rattle.resource_set.specs.Reading.{told}
use Rattle.workload.specs.Limits.{most_hosts, most_cores, most_gpus}

-- the resources that a text tells, if it is an R
unfoldable pub grant_of : List ℕ → Option Resources
grant_of text = result_ok (told text)

-- a host has too many cores or GPUs
abbrev pub is_past_host : Node → Bool
is_past_host node = nat_lt most_cores (length node.cores) || nat_lt most_gpus (length node.gpus)

-- there are too many hosts, or one with too many cores or GPUs
abbrev pub is_past_grant : Resources → Bool
is_past_grant r = nat_lt most_hosts (length r.nodes) || list_any is_past_host r.nodes
