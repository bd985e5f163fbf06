use Rattle.std.proofs.Common.{◌≡◌, ℕ, ◌+◌, ◌-◌, ◌++◌, ◌∷◌, [], map, ap, ap₂, append_assoc, ◌∙◌, sym, arith}
use Rattle.std.specs.List.{range_with_len}
use Rattle.std.proofs.lemmas.List.FromFn.{map-range_with_len_more}
use Rattle.hostlist.specs.Names.{padded}
use Rattle.hostlist.proofs.parts.add_range.Goals as goal

pub loop-number-preserved : goal.loop-number-preserved
loop-number-preserved c =
    let prefix = c.args.prefix.now in
    let range = c.args.range in
    let n = c.loop-number.number in
    let old = c.args.names.now.items in
    let host = λ (number : ℕ). prefix ++ padded range.width number in
    let count : n + 1 - range.first ≡ n - range.first + 1 = omega arith in
    let step = map-range_with_len_more host range.first (n - range.first) n (omega arith) in
    let name : c.in_ok-joined.field-0 ≡ host n = c.in_ok-joined.ensures ∙ ap (λ x. prefix ++ x) (c.as_slice.ensures ∙ c.of-digits.ensures) in
    c.in_ok-push.ensures.items ∙ ap₂ (λ xs x. xs ++ x ∷ []) c.loop-number.invariant name
    ∙ append_assoc old (map host (range_with_len range.first (n - range.first))) (host n ∷ [])
    ∙ ap (λ xs. old ++ xs) (sym step) ∙ ap (λ k. old ++ map host (range_with_len range.first k)) (sym count)
