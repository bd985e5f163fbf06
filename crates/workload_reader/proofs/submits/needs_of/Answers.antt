use Rattle.std.proofs.Common.{◌≡◌, ℕ, ◌+◌, ◌<◌, eqb, List, [], ◌∷◌, ◌++◌, length, take, filter_map, get_or, lit<, sym, ap, ◌∙◌, arith}
use Rattle.std.specs.List.{slice_split}
use Rattle.std.proofs.lemmas.Iterator.Splits.{YieldsList-from_str_split}
use Rattle.std.proofs.lemmas.Iterator.Consumers.{YieldsList-turn, YieldsList-end}
use Rattle.std.proofs.lemmas.List.{length_push, take_all}
use Rattle.std.proofs.lemmas.List.Elements.{filter_map-append}
use Rattle.std.proofs.lemmas.Grind.{common_steps, take_at_read}
use Rattle.workload_reader.specs.Submits.{needed_of}
use Rattle.workload_reader.proofs.submits.needs_of.Goals as goal

-- one piece more
more : (pieces : List (List ℕ)) (n : ℕ) (x : List ℕ) → (n < length pieces) × (x ≡ get_or pieces n x)
    → filter_map needed_of (take (n + 1) pieces) ≡ filter_map needed_of (take n pieces) ++ filter_map needed_of (x ∷ [])
more pieces n x h =
    ap (filter_map needed_of) ((take_at_read pieces n x h.0).1 ∙ ap (λ y. take n pieces ++ y ∷ []) (sym h.1))
    ∙ filter_map-append needed_of (take n pieces) (x ∷ [])

pub loop-word-preserved-in-Continue-branch-2 : goal.loop-word-preserved-in-Continue-branch-2
loop-word-preserved-in-Continue-branch-2 c =
    let t = YieldsList-turn (YieldsList-from_str_split 32 c.args.text.now (lit< tt) (cc) (cc) (cc)) c.loop-word.yielded _ c.loop-word.yielded_by _ _ c.in-Some.word c.in-Some.is c.next.ensures.steps in
    let m = more _ _ _ t in
    let n = length_push c.loop-word.yielded c.in-Some.word in
    grind (arith, common_steps)

pub loop-word-preserved : goal.loop-word-preserved
loop-word-preserved c =
    let t = YieldsList-turn (YieldsList-from_str_split 32 c.args.text.now (lit< tt) (cc) (cc) (cc)) c.loop-word.yielded _ c.loop-word.yielded_by _ _ c.in-Some.word c.in-Some.is c.next.ensures.steps in
    let m = more _ _ _ t in
    let n = length_push c.loop-word.yielded c.in-Some.word in
    grind (arith, common_steps)

pub returns : goal.returns
returns c =
    let t = YieldsList-end (YieldsList-from_str_split 32 c.args.text.now (lit< tt) (cc) (cc) (cc)) c.loop-word.yielded _ c.loop-word.yielded_by _ _ c.in-None.is c.next.ensures.steps in
    let e = take_all (length c.loop-word.yielded) (slice_split (λ b. eqb b 32) c.args.text.now) (omega (arith, t.1)) in
    grind (arith, common_steps)
