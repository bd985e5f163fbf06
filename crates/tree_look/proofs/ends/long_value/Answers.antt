use Rattle.std.proofs.Common.{sym, ap, ◌∙◌}
use Rattle.kvs_txn.specs.declared.answers.Found.TheVariants as found
use Rattle.fl_digest.specs.Reference.{reference_of}
use Rattle.tree_look.proofs.Ending.{no_first, first_is, value_misses, value_needs, found_some}
use Rattle.tree_look.proofs.Stored.{known_value}
use Rattle.tree_look.proofs.ends.long_value.Goals as goal

pub returns-in_default : goal.returns-in_default
returns-in_default g c = λ h st top p bytes reads there long named. absurd (no_first c.args.references.now (reference_of h bytes) c.in_default.ensures.value named)

pub returns-in_default-text : goal.returns-in_default-text
returns-in_default-text g c = λ h st top p bytes reads there long named.
    value_misses (found.Value bytes) (g.T.Texts.seen c.args.texts.now) c.args.passed.now.items c.args.references.now c.in-Some.first.now (reference_of h bytes) c.in-Some.ensures.value named (sym c.in_default-text.ensures.found)

pub returns : goal.returns
returns g c = λ h st top p bytes reads there long named.
    let x = c.in-Some.first.now in
    let known = c.in-Some-text.ensures.found in
    value_needs (found.Value bytes) (g.T.Texts.seen c.args.texts.now) c.args.passed.now.items c.push.new.self.items c.args.references.now x (reference_of h bytes) (found.Value c.in_ok-bytes.bytes) c.in-Some.ensures.value named
    (ap found.Value (c.in_ok-bytes.ensures ∙ known_value h st top (g.T.Texts.seen c.args.texts.now) p bytes x c.in-Some-text.bytes.now reads there long (first_is c.args.references.now x (reference_of h bytes) c.in-Some.ensures.value named) (sym known)))
    (found_some ((g.T.Texts.seen c.args.texts.now) x) c.in-Some-text.bytes.now known) c.in_ok-push.ensures.items
