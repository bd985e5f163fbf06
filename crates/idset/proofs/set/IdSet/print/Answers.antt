use Rattle.std.proofs.Common.{◌≡◌, ◌∙◌, sym, ap, List, ℕ, map}
use Rattle.std.specs.List.{join_with_byte}
use Rattle.idset.specs.Ranges.{AreApart, ids_in}
use Rattle.idset.specs.Runs.{runs, range_text, printed}
use Rattle.idset.specs.declared.ranges.IdRange.{IdRange}
use Rattle.idset.proofs.Sets.{runs_in}
use Rattle.idset.proofs.Rereads.{sound_again, read_again}
use Rattle.idset.proofs.set.IdSet.print.Goals as goal

printed_is : (rs : List IdRange) (ids : List ℕ) → AreApart 0 rs → ids_in rs ≡ ids → join_with_byte 44 (map range_text rs) ≡ printed ids
unfolding printed
printed_is rs ids a v = ap (λ xs. join_with_byte 44 (map range_text xs)) (sym (runs_in rs a) ∙ ap runs v)

text_is : (rs slice : List IdRange) (items bytes : List ℕ) → items ≡ bytes → bytes ≡ join_with_byte 44 (map range_text slice) → slice ≡ rs → items ≡ join_with_byte 44 (map range_text rs)
text_is rs slice items bytes e f g = e ∙ f ∙ ap (λ xs. join_with_byte 44 (map range_text xs)) g

pub returns-clause-text : goal.returns-clause-text
returns-clause-text c =
    let rs = c.self.inside.ranges.items in
    text_is rs _ _ _ (ap (λ v. v.items) c.into_bytes.ensures.value) c.in_ok-text.ensures c.deref.ensures.value ∙ printed_is rs _ c.self.invariant c.self.view_is

pub returns-clause-read : goal.returns-clause-read
returns-clause-read c =
    let rs = c.self.inside.ranges.items in
    rw (text_is rs _ _ _ (ap (λ v. v.items) c.into_bytes.ensures.value) c.in_ok-text.ensures c.deref.ensures.value) (sound_again rs c.self.invariant, read_again rs c.self.invariant ∙ c.self.view_is)
