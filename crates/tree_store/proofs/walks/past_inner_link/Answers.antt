use Rattle.std.proofs.Common.{◌≡◌, ◌<◌, ◌++◌, true, false, Option, Some, None, is_some, length, take, drop, option_map, ◌-◌, List, ℕ, refl, sym, ap, ap₂, ◌∙◌, arith, length-drop, true≢false}
use Rattle.kvs_model.specs.Store.{Name, node_at}
use Rattle.tree_store.specs.Landing.{table}
use Rattle.tree_store.specs.Shown.{link_target, own_path, path_in_store}
use Rattle.tree_store.proofs.Walked.{opens_upto, opens_path, next_at, next_none, with_rest}
use Rattle.std.proofs.lemmas.List.{take_all}
use Rattle.tree_store.proofs.walks.past_inner_link.Goals as goal

leads_out : (n : Option Name) (p : List (List ℕ)) → is_some n ≡ true → path_in_store n p ≡ None
leads_out None p e = absurd (true≢false (sym e))
leads_out (Some name) p e = refl

leads_in : (n : Option Name) (p : List (List ℕ)) → is_some n ≡ false → path_in_store n p ≡ Some p
leads_in None p e = refl
leads_in (Some name) p e = absurd (true≢false e)

pub returns-then-count-path-clause-next : goal.returns-then-count-path-clause-next
returns-then-count-path-clause-next c = λ h st shows.
    sym (ap (option_map own_path) (next_none st c.args.path.now c.in_ok-count.count (c.in_ok-count.ensures.stop h st shows) (omega (arith, c.if-count-path.true))))

pub returns-in_default-clause-next : goal.returns-in_default-clause-next
returns-in_default-clause-next c = λ h st shows.
    let path = c.args.path.now in
    let count = c.in_ok-count.count in
    let more : 0 < length (drop count path) = omega (arith, length-drop count path, c.in_ok-count.ensures.bound, c.if-count-path.false) in
    let above = opens_upto c.passed.new.opened st path count c.in_ok-count.ensures.opens in
    let none : None ≡ link_target (node_at st (take count path)) = c.in_default.ensures h (table c.args.store.now) st (c.in_ok-count.ensures.shown h st shows) above in
    sym (ap (option_map own_path) (next_at st path count (c.in_ok-count.ensures.stop h st shows) more ∙ ap (option_map (with_rest (drop count path))) (sym none)))

pub returns-in_default-clause-opens : goal.returns-in_default-clause-opens
returns-in_default-clause-opens c = λ h st shows none.
    opens_path c.passed.new.opened st c.args.path.now c.in_ok-count.count shows.store c.in_ok-count.ensures.opens (c.in_ok-count.ensures.ends h st shows)

pub returns-then-is_some-clause-next : goal.returns-then-is_some-clause-next
returns-then-is_some-clause-next c = λ h st shows.
    let path = c.args.path.now in
    let count = c.in_ok-count.count in
    let target = c.in-Some.target.now in
    let more : 0 < length (drop count path) = omega (arith, length-drop count path, c.in_ok-count.ensures.bound, c.if-count-path.false) in
    let above = opens_upto c.passed.new.opened st path count c.in_ok-count.ensures.opens in
    let some : Some target ≡ link_target (node_at st (take count path)) = c.in-Some.ensures h (table c.args.store.now) st (c.in_ok-count.ensures.shown h st shows) above in
    let out : is_some target.namespace ≡ true = sym c.is_some.ensures ∙ c.if-is_some.true in
    ap Some (sym (leads_out target.namespace (target.path ++ drop count path) out))
    ∙ ap (λ o. option_map own_path (option_map (with_rest (drop count path)) o)) some
    ∙ sym (ap (option_map own_path) (next_at st path count (c.in_ok-count.ensures.stop h st shows) more))

pub returns-clause-next : goal.returns-clause-next
returns-clause-next c = λ h st shows.
    let path = c.args.path.now in
    let count = c.in_ok-count.count in
    let target = c.in-Some.target.now in
    let more : 0 < length (drop count path) = omega (arith, length-drop count path, c.in_ok-count.ensures.bound, c.if-count-path.false) in
    let above = opens_upto c.passed.new.opened st path count c.in_ok-count.ensures.opens in
    let some : Some target ≡ link_target (node_at st (take count path)) = c.in-Some.ensures h (table c.args.store.now) st (c.in_ok-count.ensures.shown h st shows) above in
    let stays : is_some target.namespace ≡ false = sym c.is_some.ensures ∙ c.if-is_some.false in
    let whole : take (length path - count) (drop count path) ≡ drop count path = take_all (length path - count) (drop count path) (omega (arith, length-drop count path)) in
    let next : c.in_ok-next.next.items ≡ target.path ++ drop count path = c.in_ok-next.ensures ∙ ap₂ (λ (front back : List (List ℕ)). front ++ back) c.as_slice.ensures whole in
    ap (λ (p : List (List ℕ)). Some (Some p)) next
    ∙ ap Some (sym (leads_in target.namespace (target.path ++ drop count path) stays))
    ∙ ap (λ o. option_map own_path (option_map (with_rest (drop count path)) o)) some
    ∙ sym (ap (option_map own_path) (next_at st path count (c.in_ok-count.ensures.stop h st shows) more))
