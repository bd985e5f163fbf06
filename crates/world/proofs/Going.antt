-- The world is closed exactly where its chronicle has the end.
use Rattle.std.proofs.Common.{◌≡◌, ◌∙◌, [], ◌∷◌, ◌++◌, Bool, true, false, ◌||◌, refl, sym, ap}
use Rattle.std.proofs.lemmas.List.Folds.{list_any-append}
use Rattle.instance.specs.answers.declared.chronicle.Entry.TheVariants as entry
use Rattle.instance.specs.answers.Whole.{has_ended, is_end}
use Rattle.hierarchy.proofs.Steps.{unended}
use Rattle.world.specs.Sound.{IsSound}
use Rattle.world.specs.Value.{WorldValue}

ends_at : (a : Bool) → (a || true) ≡ true
ends_at true = refl
ends_at false = refl

module _ (v : WorldValue) (sound : IsSound v) where
  pub ended_so : v.closed ≡ has_ended v.chronicle
  ended_so = by v.closed refl
    where
      by : (b : Bool) → v.closed ≡ b → v.closed ≡ has_ended v.chronicle
      by false runs = runs ∙ sym (unended v.chronicle (sound.runs runs).on.early)
      by true ended =
          let whole = sound.ended ended in
          ended ∙ sym (ap has_ended whole.split
          ∙ list_any-append is_end (whole.earlier ++ whole.closings) (entry.Closed ∷ [])
          ∙ ends_at (has_ended (whole.earlier ++ whole.closings)))
