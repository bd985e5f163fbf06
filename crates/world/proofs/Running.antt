-- What one instance makes by itself leaves the world running.
use Rattle.std.proofs.Common.{◌≡◌, ◌∙◌, ℕ, ◌<◌, List, ◌++◌, Bool, true, false, ◌&&◌, ◌||◌, is_some, map, length, refl, sym, ap, subst}
use Rattle.std.specs.Prelude.{Some, slice_get, slice_set}
use Rattle.std.specs.List.{AllByRecursion as Each}
use Rattle.std.proofs.lemmas.Option.{slice_get_within}
use Rattle.instance.specs.answers.Whole.{IsEarlierEntry}
use Rattle.instance.specs.answers.declared.chronicle.Entry.{Entry}
use Rattle.instance.specs.answers.declared.steps.Step.{Step}
use Rattle.hierarchy.specs.Births.{birth_of, is_born, label_of, lives, numbers}
use Rattle.hierarchy.specs.Families.{living_in}
use Rattle.hierarchy.specs.Growing.{IsMadeIn, StartsNothing}
use Rattle.hierarchy.specs.Grows.{GrowsByOwn}
use Rattle.hierarchy.specs.Own.{own_of, setup_in}
use Rattle.hierarchy.specs.Stretches.{entered_in}
use Rattle.hierarchy.proofs.Growth.{own_grown}
use Rattle.hierarchy.proofs.Numbering.{born_exactly}
use Rattle.hierarchy.proofs.Owning.{is_alive}
use Rattle.instance.specs.Agrees.{AgreesOwn}
use Rattle.instance.specs.Makes.{Follows}
use Rattle.instance.specs.Value.{InstanceValue}
use Rattle.homes.specs.Homes.{AreHomes, ArePlaces, IsHome}
use Rattle.world.specs.Sound.{IsRunning, IsSound}
use Rattle.world.specs.Value.{WorldValue}
use Rattle.homes.specs.declared.homes.Home.{Home}
use Rattle.homes.specs.declared.homes.Place.{Place}
use Rattle.homes.proofs.Making.{each_apart, unshut}
use Rattle.homes.proofs.Standing.{grown_home, homes_behind}
use Rattle.world.proofs.Stepping.{stepped}

nothing_more : (a b : Bool) → (a || (b && false)) ≡ a
nothing_more true b = refl
nothing_more false true = refl
nothing_more false false = refl

module _ (v : WorldValue) (sound : IsSound v) (runs : v.closed ≡ false) where
  -- each number below that of the next one is born
  pub known : (k : ℕ) → k < length (numbers v.chronicle) → is_born v.chronicle k ≡ true
  known k below = (born_exactly v.set v.chronicle k sound.legal).1 below

  module _ (i : ℕ) (h : Home) (here : slice_get v.homes i ≡ Some h) where
    pub home_is : IsHome v.set v.chronicle i h
    home_is = (sound.runs runs).homes.each i h here

    pub home_born : is_born v.chronicle i ≡ true
    home_born = known i (subst (λ n. i < n) (sound.runs runs).homes.all (slice_get_within v.homes i h here))

    module _ (living : h.gone ≡ false) where
      pub home_lives : lives v.chronicle i ≡ true
      home_lives = is_alive v.chronicle i home_born (sym home_is.gone ∙ living)

      pub home_agrees : AgreesOwn h.instance (setup_in v.set v.chronicle i) (own_of v.set v.chronicle i)
      home_agrees = (home_is.lives living).agrees

      module _ (s : Step) (new : InstanceValue) (own : List Entry) (f : Follows (setup_in v.set v.chronicle i) (own_of v.set v.chronicle i) s new own)
          (made : Each (IsMadeIn v.set.work.actors (label_of v.chronicle i)) own) where
        pub early : Each IsEarlierEntry own
        early = (each_apart IsEarlierEntry (own_of v.set v.chronicle i) own f.agrees.early).1

        pub grown : GrowsByOwn v.set v.chronicle i own
        grown = own_grown v.set v.chronicle i own (sound.runs runs).on home_lives f.legal made early

        -- nobody shuts down where nothing is issued
        pub shuts_same : Each StartsNothing own → h.shuts ≡ (living_in v.set (v.chronicle ++ map (entered_in i) own) i).shuts
        shuts_same none =
            (home_is.lives living).shuts
            ∙ sym (grown.mine.shuts
            ∙ ap (λ b. (living_in v.set v.chronicle i).shuts || (is_some (birth_of v.chronicle i) && b)) (unshut v.set.work own none)
            ∙ nothing_more (living_in v.set v.chronicle i).shuts (is_some (birth_of v.chronicle i)))

        pub homes_on : (shuts : Bool) → shuts ≡ (living_in v.set (v.chronicle ++ map (entered_in i) own) i).shuts → new.spent ≡ false
            → AreHomes v.set (v.chronicle ++ map (entered_in i) own) (slice_set v.homes i (record { origin = h.origin; work = h.work; instance = new; shuts = shuts; gone = h.gone }))
        homes_on shuts same ready =
            let one : Home = record { origin = h.origin; work = h.work; instance = new; shuts = shuts; gone = h.gone } in
            homes_behind v.set v.chronicle (map (entered_in i) own) v.homes (sound.runs runs).homes known grown.so i h one own here living grown.mine grown.others
            (grown_home v.set v.chronicle (map (entered_in i) own) grown.so i home_born h one own grown.mine home_is living refl living refl ready same f.agrees)

        pub runs_on : (steps : List Step) (ends : List ℕ) (homes : List Home) (places : List Place) → AreHomes v.set (v.chronicle ++ map (entered_in i) own) homes
            → ArePlaces v.set (v.chronicle ++ map (entered_in i) own) places → IsRunning (stepped v (v.chronicle ++ map (entered_in i) own) steps ends homes places)
        runs_on steps ends homes places are stand = record { on = grown.on; homes = are; places = stand }
