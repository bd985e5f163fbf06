use Rattle.std.proofs.Common.{◌≡◌, ℕ, ◌<◌, List, [], ◌∷◌, length, refl, sym, arith}
use Rattle.std.specs.List.{slice_split}
use Rattle.std.proofs.lemmas.Bool.Decides.{nat_tests}
use Rattle.idset.specs.Text.{is_comma, items}
use Rattle.idset.proofs.reader.item_ranges.Goals as goal

some_items : (text : List ℕ) → 0 < length text → slice_split is_comma text ≡ items text
some_items [] h = absurd (omega arith)
some_items (b ∷ bs) h = refl

pub returns : goal.returns
returns c =
    let some : 0 < length c.args.text.now = grind (arith, nat_tests) in
    rw (sym (some_items c.args.text.now some)) c.ranges-2.ensures
