use Rattle.std.proofs.Common.{◌≡◌, ◌+◌, ◌<◌, true, false, cond, ◌||◌, [], ◌∷◌, ◌++◌, take, length, refl, sym, ap, ap₂, ◌∙◌, arith}
use Rattle.std.specs.List.{list_any}
use Rattle.std.specs.Str.{bytes_eq}
use Rattle.std.proofs.lemmas.List.{take_more}
use Rattle.std.proofs.lemmas.List.Folds.{list_any_more}
use Rattle.std.proofs.lemmas.Map.Text.{is_eq-slice_cmp}
use Rattle.resource_set.specs.Reading.{are_distinct}
use Rattle.resource_set.proofs.Ranks.{repeated, distinct_push, bytes_eq_back, cond_or, not_is}
use Rattle.resource_set.proofs.placing.are_different.Goals as goal

pub returns-then-not-branch : goal.returns-then-not-branch
returns-then-not-branch c =
    let names = c.args.names.now in
    let i = c.loop-name.name-index in
    let inside : i < length names = omega arith in
    let name = c.name-item.result in
    let seen = not_is _ _ (sym c.in_ok-insert.ensures.added ∙ c.if-not-branch.true) ∙ refl in
    let met : list_any (bytes_eq name) (take i names) ≡ true = sym (c.loop-name.invariant.seen c.in_ok-copy.field-0 ∙ ap (λ n. list_any (bytes_eq n) (take i names)) c.in_ok-copy.ensures) ∙ seen in
    sym (repeated names i name inside c.name-item.is met)

pub loop-name-preserved : goal.loop-name-preserved
loop-name-preserved c =
    let names = c.args.names.now in
    let i = c.loop-name.name-index in
    let inside : i < length names = omega arith in
    let name = c.name-item.result in
    let key = c.in_ok-copy.field-0 in
    let unseen = not_is _ _ (sym c.in_ok-insert.ensures.added ∙ c.if-not-branch.false) in
    let unmet : list_any (bytes_eq name) (take i names) ≡ false = sym (c.loop-name.invariant.seen key ∙ ap (λ n. list_any (bytes_eq n) (take i names)) c.in_ok-copy.ensures) ∙ unseen in
    let more : take (i + 1) names ≡ take i names ++ name ∷ [] = take_more names i name inside ∙ ap (λ n. take i names ++ n ∷ []) (sym c.name-item.is) in
    record {
      seen = λ other. c.in_ok-insert.ensures.updates.0 other
          ∙ ap₂ (λ a b. cond a true b) (is_eq-slice_cmp key other ∙ ap (λ k. bytes_eq k other) c.in_ok-copy.ensures ∙ bytes_eq_back name other) (c.loop-name.invariant.seen other)
          ∙ cond_or (bytes_eq other name) (list_any (bytes_eq other) (take i names))
          ∙ sym (list_any_more (bytes_eq other) names i name inside ∙ ap (λ n. list_any (bytes_eq other) (take i names) || bytes_eq other n) (sym c.name-item.is));
      distinct = ap are_distinct more ∙ distinct_push (take i names) name c.loop-name.invariant.distinct unmet;
    }
