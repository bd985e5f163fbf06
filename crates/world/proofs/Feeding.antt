-- A watch that is fed by the living instance of its actor.
use Rattle.std.proofs.Common.{◌≡◌, ℕ, List, [], ◌∷◌, ◌++◌, false, Some, length, map, refl}
use Rattle.std.specs.Prelude.{slice_get}
use Rattle.std.specs.List.{AllByRecursion as Each}
use Rattle.instance.specs.answers.declared.chronicle.Entry.{Entry}
use Rattle.instance.specs.answers.declared.steps.Step.{Step}
use Rattle.instance.specs.answers.declared.steps.Step.TheVariants as step
use Rattle.hierarchy.specs.Births.{label_of}
use Rattle.hierarchy.specs.Growing.{IsMadeIn, StartsNothing}
use Rattle.hierarchy.specs.Own.{own_of, setup_in}
use Rattle.hierarchy.specs.Stretches.{IsRunStretch, entered_in}
use Rattle.instance.specs.Makes.{Follows, Makes}
use Rattle.instance.specs.Value.{InstanceValue}
use Rattle.world.specs.Advances.{Advances}
use Rattle.world.specs.Sound.{IsSound}
use Rattle.world.specs.Value.{WorldValue}
use Rattle.homes.specs.declared.homes.Home.{Home}
use Rattle.homes.specs.declared.homes.Place.{Place}
use Rattle.homes.proofs.Making.{IsQuiet, all_quiet, made_quietly, nothing_issued, quiet_feed}
use Rattle.homes.proofs.Placing.{places_stay}
use Rattle.world.proofs.Acting.{home_here}
use Rattle.world.proofs.Running.{grown, home_agrees, home_born}
use Rattle.world.proofs.Serving.{homes_with, own_advances, own_sound}
use Rattle.world.proofs.Stepping.{stepped}

module _ (v : WorldValue) (sound : IsSound v) (runs : v.closed ≡ false) (actor i : ℕ) (p : Place) (h : Home)
    (standing : slice_get v.places actor ≡ Some p) (home : p.home ≡ Some i) (here : slice_get v.homes i ≡ Some h) (living : h.gone ≡ false)
    (new : InstanceValue) (own : List Entry) (ready : new.spent ≡ false) (makes : Makes h.instance (step.Feed actor) new own)
    (c : List Entry) (steps : List Step) (ends : List ℕ) (ec : c ≡ v.chronicle ++ map (entered_in i) own) (es : steps ≡ v.steps ++ step.Feed actor ∷ []) (ee : ends ≡ v.ends ++ length c ∷ []) where
  follows : Follows (setup_in v.set v.chronicle i) (own_of v.set v.chronicle i) (step.Feed actor) new own
  follows = makes (setup_in v.set v.chronicle i) (own_of v.set v.chronicle i) (home_agrees v sound runs i h here living)

  quiet : Each (IsQuiet v.set.work.actors (label_of v.chronicle i)) own
  quiet = quiet_feed v.set.work.actors (label_of v.chronicle i) (setup_in v.set v.chronicle i).work actor (home_here v sound runs actor i p h standing home here living) own follows.made

  stretch : IsRunStretch v.set v.chronicle (step.Feed actor) (map (entered_in i) own)
  stretch = record {
    home = i;
    is = home_here v sound runs actor i p h standing home here living;
    stretch = record { born = home_born v sound runs i h here; own = own; entered = refl; allowed = follows.made };
  }

  made : Each (IsMadeIn v.set.work.actors (label_of v.chronicle i)) own
  made = made_quietly v.set.work.actors (label_of v.chronicle i) own quiet

  nothing : Each StartsNothing own
  nothing = nothing_issued v.set.work.actors (label_of v.chronicle i) own quiet

  pub feed_sound : IsSound (stepped v c steps ends (homes_with v.homes i h new) v.places)
  feed_sound =
      let g = grown v sound runs i h here living (step.Feed actor) new own follows made in
      own_sound v sound runs i h here living new own ready c steps ends ec (step.Feed actor) (step.Feed actor) follows made nothing stretch es ee v.places
      (places_stay v.set v.chronicle (map (entered_in i) own) g.so.numbered g.so.births v.places (sound.runs runs).places
      (λ a. all_quiet v.set.work.actors (label_of v.chronicle i) own quiet i a))

  pub feed_advances : Advances v (step.Feed actor) (stepped v c steps ends (homes_with v.homes i h new) v.places)
  feed_advances = own_advances v sound runs i h here living new own ready c steps ends ec (step.Feed actor) (step.Feed actor) follows made nothing stretch es ee v.places
