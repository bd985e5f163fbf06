use Rattle.std.proofs.Common.{◌≡◌, IsSome, is_some, sym, ap, ◌∙◌, subst, false}
use Rattle.plain_store.specs.Counted.{kept_at}
use Rattle.plain_store.proofs.Counted.{kept_lookup, countable-root, countable-child, same-new_count, stays-new_count, there-new_count}
use Rattle.plain_store.proofs.counts.make_count.Goals as goal

pub returns-in_default-clause-made : goal.returns-in_default-clause-made
returns-in_default-clause-made c = countable-root c.args.counts.now.entries c.args.path.now c.in_default.ensures.cases

pub returns-then-contains_key-clause-made : goal.returns-then-contains_key-clause-made
returns-then-contains_key-clause-made c =
    countable-child c.args.counts.now.entries c.args.path.now c.in-Some.place.now c.in-Some.field-0-0.now c.in-Some.ensures.cases.0
    (ap is_some (sym (kept_lookup c.args.counts.now.entries c.in-Some.place.now)) ∙ sym c.contains_key.ensures ∙ c.if-contains_key.true)

pub returns-clause-made : goal.returns-clause-made
returns-clause-made c =
    countable-child c.insert.new.self.entries c.args.path.now c.in-Some.place.now c.in-Some.field-0-0.now c.in-Some.ensures.cases.0
    (subst (λ p. IsSome (kept_at c.insert.new.self.entries p)) c.in_ok-copy_of.ensures (there-new_count c.args.counts.now.entries c.insert.new.self.entries c.in_ok-copy_of.field-0 c.in_ok-insert.ensures.entries))

pub returns-clause-same : goal.returns-clause-same
returns-clause-same c =
    let absent : is_some (kept_at c.args.counts.now.entries c.in-Some.place.now) ≡ false = ap is_some (sym (kept_lookup c.args.counts.now.entries c.in-Some.place.now)) ∙ sym c.contains_key.ensures ∙ c.if-contains_key.false in
    same-new_count c.args.counts.now.entries c.insert.new.self.entries c.in_ok-copy_of.field-0 c.in_ok-insert.ensures.entries (ap (λ p. is_some (kept_at c.args.counts.now.entries p)) c.in_ok-copy_of.ensures ∙ absent)

pub returns-clause-stays : goal.returns-clause-stays
returns-clause-stays c = stays-new_count c.args.counts.now.entries c.insert.new.self.entries c.in_ok-copy_of.field-0 c.in_ok-insert.ensures.entries
