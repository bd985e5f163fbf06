-- A child is born, and its parent is told: what that leaves of the world.
use Rattle.std.proofs.Common.{◌≡◌, ◌∙◌, ℕ, ◌+◌, ◌<◌, ◌^◌, List, [], ◌∷◌, ◌++◌, true, false, Option, Some, None, get_or, length, refl, sym, ap, arith}
use Rattle.std.specs.Prelude.{slice_get, slice_set}
use Rattle.std.proofs.lemmas.Bool.{eqb-true}
use Rattle.std.proofs.lemmas.Option.{get_or_from_slice_get}
use Rattle.instance.specs.workload.Actors.{are_together}
use Rattle.instance.specs.answers.Chronicle.{top}
use Rattle.instance.specs.answers.declared.chronicle.Entry.{Entry}
use Rattle.instance.specs.answers.declared.steps.Step.{Step}
use Rattle.instance.specs.answers.declared.steps.Step.TheVariants as step
use Rattle.hierarchy.specs.Births.{Birth, births, is_born, label_of, lives}
use Rattle.hierarchy.specs.Families.{second_in}
use Rattle.hierarchy.specs.Grows.{GrowsByBirth, born_by, born_to}
use Rattle.hierarchy.specs.Legal.{IsLegalBirth}
use Rattle.hierarchy.specs.Own.{own_of, setup_in}
use Rattle.hierarchy.specs.Stretches.{IsRunStretch}
use Rattle.hierarchy.proofs.Advances.{time_within}
use Rattle.hierarchy.proofs.Labels.{new_label}
use Rattle.hierarchy.proofs.Numbering.{numbers_count, top_lives}
use Rattle.hierarchy.proofs.Owning.{alive}
use Rattle.hierarchy.proofs.Settling.{nothing_issued}
use Rattle.instance.specs.Agrees.{AgreesOwn}
use Rattle.instance.specs.Makes.{Bears, Follows}
use Rattle.instance.specs.Value.{InstanceValue}
use Rattle.world.specs.Advances.{Advances}
use Rattle.homes.specs.Homes.{AreHomes}
use Rattle.homes.specs.Inside.{AreSettled, IsChildHome}
use Rattle.world.specs.Sound.{IsSound}
use Rattle.world.specs.Steps.{is_job}
use Rattle.world.specs.Value.{WorldValue}
use Rattle.homes.specs.declared.homes.Home.{Home}
use Rattle.homes.specs.declared.homes.Place.{Place}
use Rattle.homes.proofs.Bearing.{birth_grows, homes_with, places_with, valid_with}
use Rattle.homes.proofs.Standing.{item_at}
use Rattle.world.proofs.Stepping.{starts_at_0, step_advances, step_sound, stepped}

pub job_is : (job : ℕ) (o : Option ℕ) → is_job job o ≡ true → o ≡ Some job
job_is job None never = cc
job_is job (Some other) same = ap Some (eqb-true other job same)

module _ (v : WorldValue) (sound : IsSound v) (runs : v.closed ≡ false) where
  homes_are : AreHomes v.set v.chronicle v.homes
  homes_are = (sound.runs runs).homes

  -- ---- what is known before

  -- a living instance agrees with its own chronicle
  pub home_agrees : (i : ℕ) (h : Home) → slice_get v.homes i ≡ Some h → h.gone ≡ false → AgreesOwn h.instance (setup_in v.set v.chronicle i) (own_of v.set v.chronicle i)
  home_agrees i h at here = ((homes_are.each i h at).lives here).agrees

  -- the top lives, and has the second of the run
  pub record IsTop (h : Home) : Type 0 where
    pub at : slice_get v.homes 0 ≡ Some h
    pub ready : h.instance.spent ≡ false
    pub agrees : AgreesOwn h.instance (setup_in v.set v.chronicle top) (own_of v.set v.chronicle top)

  pub top_is : (h : Home) → h ≡ get_or v.homes 0 h → IsTop h
  top_is h read =
      let count = numbers_count v.chronicle in
      let many = homes_are.all in
      let first = item_at v.homes 0 (omega arith) in
      let same : first.0 ≡ h = sym (read ∙ get_or_from_slice_get v.homes 0 first.0 h first.1) in
      let at : slice_get v.homes 0 ≡ Some h = first.1 ∙ ap Some same in
      let is = homes_are.each 0 h at in
      record { at = at; ready = is.ready; agrees = home_agrees 0 h at (is.gone ∙ (alive v.chronicle top (top_lives v.set v.chronicle sound.legal)).1) }

  -- the second of the run is early enough for a birth
  pub early_now : second_in v.set v.chronicle + 2000000000 < 2 ^ 64
  early_now =
      let low = time_within v.set v.chronicle sound.legal in
      let most = sound.run.few.seconds in
      let first = starts_at_0 v.set sound.run in
      omega arith

  -- there are no more places than actors
  pub few_places : (places : List Place) → places ≡ v.places → length places < 2 ^ 32
  few_places places same =
      let long = ap length same in
      let all = (sound.runs runs).places.all in
      let most = sound.run.within.actors in
      omega arith

  pub next_number : length v.homes ≡ length (births v.chronicle) + 1
  next_number = (let count = numbers_count v.chronicle in let many = homes_are.all in omega arith)

  -- ---- the world with the child

  module _ (b : Birth) (p : Home) (bearer : slice_get v.homes b.parent ≡ Some p) (here : p.gone ≡ false)
      (legal : IsLegalBirth v.set v.chronicle b.child b.parent b.job b.label b.second b.grant) (new : InstanceValue) (ready : new.spent ≡ false) (bears : Bears p.instance b.job new)
      (child : Home) (is : IsChildHome v.set b child) (few : length v.homes + 1 < 2 ^ 32)
      (places : List Place) (settled : AreSettled v.set.work.actors b.label b.child v.places places)
      (c : List Entry) (steps : List Step) (ends : List ℕ) (told : c ≡ v.chronicle ++ born_by b ∷ [])
      (es : steps ≡ v.steps ++ step.Birth b.parent b.job ∷ []) (ee : ends ≡ v.ends ++ length c ∷ []) where
    follows : Follows (setup_in v.set v.chronicle b.parent) (own_of v.set v.chronicle b.parent) (step.Birth top b.job) new (born_to b ∷ [])
    follows = bears (setup_in v.set v.chronicle b.parent) (own_of v.set v.chronicle b.parent) (home_agrees b.parent p bearer here) b.child b.label b.second b.grant

    grows : GrowsByBirth v.set v.chronicle b
    grows = birth_grows v.set v.chronicle (sound.runs runs).on b sound.run.labels legal follows.legal.0

    new_so : (i : ℕ) → is_born v.chronicle i ≡ true → are_together (label_of v.chronicle i) (Some b.label) ≡ false
    new_so i born = new_label v.set v.chronicle (sound.runs runs).on b.child b.parent b.job b.label b.second b.grant legal sound.run.labels i born

    stretch : IsRunStretch v.set v.chronicle (step.Birth b.parent b.job) (born_by b ∷ [])
    stretch = record { child = b.child; label = b.label; second = b.second; grant = b.grant; behind = []; split = refl; others = tt }

    abbrev homes_now : List Home
    homes_now = slice_set v.homes b.parent (record p { instance = new }) ++ child ∷ []

    pub birth_sound : IsSound (stepped v c steps ends homes_now places)
    birth_sound =
        step_sound v (step.Birth b.parent b.job) (born_by b ∷ []) stretch c steps ends homes_now places told es ee sound runs
        (grows.legal, tt) (valid_with v.set v.chronicle v.homes homes_are sound.legal b grows sound.valid is.agrees.agrees.jobs.kind.valid) (record {
          on = grows.on;
          homes = homes_with v.set v.chronicle v.homes homes_are sound.legal b grows p new child bearer here ready follows.agrees is few;
          places = places_with v.set v.chronicle (sound.runs runs).on b grows new_so v.places places (sound.runs runs).places settled;
        })

    pub birth_advances : Advances v (step.Birth b.parent b.job) (stepped v c steps ends homes_now places)
    birth_advances =
        step_advances v (step.Birth b.parent b.job) (born_by b ∷ []) stretch c steps ends homes_now places told es ee
        (λ _. nothing_issued v.set (born_by b ∷ []) v.chronicle (tt, tt))
