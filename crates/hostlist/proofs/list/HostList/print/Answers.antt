use Rattle.std.proofs.Common.{◌≡◌, ◌++◌, ap, ◌∙◌, sym, subst, [], List, ℕ, arith}
use Rattle.std.proofs.lemmas.List.{nil_from_length}
use Rattle.std.proofs.lemmas.Bool.Decides.{nat_tests}
use Rattle.hostlist.specs.Names.{AreHostNames}
use Rattle.hostlist.specs.Printing.{canonical}
use Rattle.hostlist.proofs.RoundTrip.{IsReadAgain, canonical_spells, canonical_none}
use Rattle.hostlist.proofs.list.HostList.print.Goals as goal

-- a text that is the canonical one is read again
again : (names : List (List ℕ)) (text : List ℕ) → AreHostNames names → text ≡ canonical names → IsReadAgain names text
again names text named is = subst (IsReadAgain names) (sym is) (canonical_spells names named)

pub returns-then-is_empty : goal.returns-then-is_empty
returns-then-is_empty c =
    let none : c.as_slice-names.result.now ≡ [] = nil_from_length c.as_slice-names.result.now (grind (arith, nat_tests)) in
    let text : c.new-text.result.items ≡ canonical c.args.self.now = c.new-text.ensures.items ∙ sym canonical_none ∙ ap canonical (sym none ∙ c.as_slice-names.ensures.names) in
    let read = again c.args.self.now c.new-text.result.items (subst AreHostNames c.as_slice-names.ensures.names c.as_slice-names.ensures.named) text in
    record { canonical = text; read_again = read.hosts; fault = read.fault }

pub returns : goal.returns
returns c =
    let text : c.print_groups.new.text.items ≡ canonical c.args.self.now = c.in_ok-print_groups.ensures ∙ ap (λ t. t ++ canonical c.as_slice-names.result.now) c.new-text.ensures.items ∙ ap canonical c.as_slice-names.ensures.names in
    let read = again c.args.self.now c.print_groups.new.text.items (subst AreHostNames c.as_slice-names.ensures.names c.as_slice-names.ensures.named) text in
    record { canonical = text; read_again = read.hosts; fault = read.fault }
