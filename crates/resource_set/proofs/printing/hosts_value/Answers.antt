use Rattle.std.proofs.Common.{sym, subst}
use Rattle.std.specs.Str.{IsUtf8}
use Rattle.hostlist.specs.Names.{AreHostNames}
use Rattle.resource_set.proofs.Ascii.{canonical_utf8}
use Rattle.resource_set.proofs.printing.hosts_value.Goals as goal

pub text_value-requires : goal.text_value-requires
text_value-requires c = subst IsUtf8 (sym c.in_ok-print.ensures.canonical) (canonical_utf8 c.in_ok-names.names (subst AreHostNames (sym c.in_ok-names.ensures) c.requires.named))
