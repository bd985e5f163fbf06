-- What an actor does whose instance lives.
use Rattle.std.proofs.Common.{◌≡◌, ◌∙◌, ℕ, ◌+◌, ◌-◌, ◌≤◌, List, [], ◌∷◌, ◌++◌, Bool, true, false, Option, Some, None, cond, count_by, length, map, refl, sym, ap, subst, arith}
use Rattle.std.specs.Prelude.{option_map, slice_get, slice_set}
use Rattle.instance.specs.kvs_rules.Brokers.{HasHeard}
use Rattle.instance.specs.kvs_rules.Log.{Log}
use Rattle.instance.specs.kvs_rules.Namespaces.{primary}
use Rattle.instance.specs.answers.Chronicle.{Setup, issues_of, replies_to, top}
use Rattle.instance.specs.answers.Commands.{broker_of}
use Rattle.instance.specs.answers.Services.{log_of}
use Rattle.instance.specs.answers.declared.chronicle.Entry.{Entry}
use Rattle.instance.specs.answers.declared.steps.Step.{Step}
use Rattle.instance.specs.answers.declared.steps.Step.TheVariants as step
use Rattle.hierarchy.specs.Births.{is_at, label_of, lives}
use Rattle.hierarchy.specs.Growing.{ActsAlike}
use Rattle.hierarchy.specs.Grows.{GrowsByOwn}
use Rattle.hierarchy.specs.Own.{own_of, setup_in}
use Rattle.hierarchy.specs.Stretches.{IsRunStretch, entered_in}
use Rattle.instance.specs.Agrees.{ActorStands, Stands}
use Rattle.instance.specs.Makes.{Follows, Makes, Records}
use Rattle.instance.specs.Seats.{is_free, replied_of}
use Rattle.instance.specs.Value.{InstanceValue}
use Rattle.instance.specs.declared.seats.Seat.{Seat}
use Rattle.world.specs.Advances.{Advances}
use Rattle.homes.specs.Homes.{ArePlaces, IsPlace}
use Rattle.world.specs.Sound.{IsSound}
use Rattle.world.specs.Value.{WorldValue}
use Rattle.homes.specs.declared.homes.Home.{Home}
use Rattle.homes.specs.declared.homes.Place.{Place}
use Rattle.world.proofs.Left.{at_home}
use Rattle.homes.proofs.Making.{IsReplyIn, look_stretch, reply_stretch}
use Rattle.homes.proofs.Placing.{by_of, counts_joined, home_stays, place_replied, places_behind}
use Rattle.world.proofs.Running.{grown, home_agrees, home_born, home_lives}
use Rattle.world.proofs.Serving.{homes_with, own_advances, own_sound}
use Rattle.world.proofs.Stepping.{stepped}

module _ (v : WorldValue) (sound : IsSound v) (runs : v.closed ≡ false) (actor i : ℕ) (p : Place) (h : Home)
    (standing : slice_get v.places actor ≡ Some p) (home : p.home ≡ Some i) (here : slice_get v.homes i ≡ Some h) (living : h.gone ≡ false) where
  pub placed_so : IsPlace v.set v.chronicle actor p
  placed_so = (sound.runs runs).places.each actor p standing

  pub home_here : is_at v.set.work.actors (label_of v.chronicle i) actor ≡ true
  home_here = at_home v.set v.chronicle actor i (sym placed_so.home ∙ home)

  module _ (own : List Entry) (g : GrowsByOwn v.set v.chronicle i own) where
    abbrev behind : List Entry
    behind = v.chronicle ++ map (entered_in i) own

    -- the actor acts alike in the run and in its instance's own chronicle
    acts_on : ActsAlike (own_of v.set v.chronicle i ++ own) behind actor
    acts_on = subst (λ o. ActsAlike o behind actor) g.mine.own
        (g.on.acts i actor (g.so.lives_so i ∙ home_lives v sound runs i h here living)
        (ap (λ b. is_at v.set.work.actors (option_map (λ o. o.label) b) actor) (g.so.births i) ∙ home_here))

    -- so far it has this many replies
    module _ (new : InstanceValue) (unissued : count_by (issues_of actor) (map (entered_in i) own) ≡ 0)
        (k : ℕ) (replied : count_by (replies_to (by_of actor k)) (map (entered_in i) own) ≡ 1) where
      replied_place : (log : Log) (issued told : ℕ) → told ≤ issued → Stands log (own_of v.set v.chronicle i ++ own) actor issued told
          → IsPlace v.set behind actor (record { home = p.home; next = p.next; issued = p.issued; waits = false })
      replied_place log issued told low stands =
          let same : count_by (issues_of actor) behind ≡ issued = sym acts_on.issued ∙ stands.counted in
          let all = counts_joined (issues_of actor) v.chronicle (map (entered_in i) own) in
          let was = placed_so.issued in
          place_replied v.set v.chronicle (map (entered_in i) own) actor (home_stays v.set v.chronicle (map (entered_in i) own) actor g.so.numbered g.so.births) p placed_so
          unissued k (omega arith) told (omega arith) (λ k. sym (acts_on.counted k) ∙ stands.ended k)

      seat_place : (set : Setup) (log : Log) (o : Option Seat) → ActorStands set log (own_of v.set v.chronicle i ++ own) actor o
          → IsPlace v.set behind actor (record { home = p.home; next = p.next; issued = p.issued; waits = false })
      seat_place set log None stands = replied_place log 0 0 (omega arith) stands
      seat_place set log (Some seat) stands = replied_place log seat.issued (replied_of seat) (few (is_free seat.waiting) seat.issued) stands.0
        where
          few : (b : Bool) (n : ℕ) → cond b n (n - 1) ≤ n
          few true n = omega arith
          few false n = omega arith

  abbrev pub told_at : Place
  told_at = record { home = p.home; next = p.next; issued = p.issued; waits = false }

  -- ---- a step in which the actor gets one reply

  module _ (s : Step) (new : InstanceValue) (own : List Entry) (ready : new.spent ≡ false) (follows : Follows (setup_in v.set v.chronicle i) (own_of v.set v.chronicle i) s new own)
      (reply_in : IsReplyIn v.set.work.actors (label_of v.chronicle i) actor i own) (stretch : IsRunStretch v.set v.chronicle s (map (entered_in i) own))
      (c : List Entry) (steps : List Step) (ends : List ℕ) (ec : c ≡ v.chronicle ++ map (entered_in i) own) (es : steps ≡ v.steps ++ s ∷ []) (ee : ends ≡ v.ends ++ length c ∷ []) where
    grows : GrowsByOwn v.set v.chronicle i own
    grows = grown v sound runs i h here living s new own follows reply_in.made

    places : ArePlaces v.set (v.chronicle ++ map (entered_in i) own) (slice_set v.places actor told_at)
    places = places_behind v.set v.chronicle (map (entered_in i) own) grows.so.numbered grows.so.births v.places (sound.runs runs).places actor p told_at standing reply_in.others
        (seat_place own grows new reply_in.unissued reply_in.command reply_in.replied (setup_in v.set v.chronicle i)
        (log_of (setup_in v.set v.chronicle i).work top (own_of v.set v.chronicle i ++ own)) (slice_get new.seats actor) (follows.agrees.actors actor))

    replied_sound : IsSound (stepped v c steps ends (homes_with v.homes i h new) (slice_set v.places actor told_at))
    replied_sound = own_sound v sound runs i h here living new own ready c steps ends ec s s follows reply_in.made reply_in.nothing stretch es ee
        (slice_set v.places actor told_at) places

    replied_advances : Advances v s (stepped v c steps ends (homes_with v.homes i h new) (slice_set v.places actor told_at))
    replied_advances = own_advances v sound runs i h here living new own ready c steps ends ec s s follows reply_in.made reply_in.nothing stretch es ee
        (slice_set v.places actor told_at)

  -- ---- a reply

  module _ (new : InstanceValue) (own : List Entry) (ready : new.spent ≡ false) (makes : Makes h.instance (step.Answer actor) new own)
      (c : List Entry) (steps : List Step) (ends : List ℕ) (ec : c ≡ v.chronicle ++ map (entered_in i) own) (es : steps ≡ v.steps ++ step.Answer actor ∷ []) (ee : ends ≡ v.ends ++ length c ∷ []) where
    follows : Follows (setup_in v.set v.chronicle i) (own_of v.set v.chronicle i) (step.Answer actor) new own
    follows = makes (setup_in v.set v.chronicle i) (own_of v.set v.chronicle i) (home_agrees v sound runs i h here living)

    reply_in : IsReplyIn v.set.work.actors (label_of v.chronicle i) actor i own
    reply_in = reply_stretch v.set.work.actors (label_of v.chronicle i) (setup_in v.set v.chronicle i).work actor i home_here own follows.made

    stretch : IsRunStretch v.set v.chronicle (step.Answer actor) (map (entered_in i) own)
    stretch = record { home = i; is = home_here; stretch = record { born = home_born v sound runs i h here; own = own; entered = refl; allowed = follows.made } }

    pub reply_sound : IsSound (stepped v c steps ends (homes_with v.homes i h new) (slice_set v.places actor told_at))
    reply_sound = replied_sound (step.Answer actor) new own ready follows reply_in stretch c steps ends ec es ee

    pub reply_advances : Advances v (step.Answer actor) (stepped v c steps ends (homes_with v.homes i h new) (slice_set v.places actor told_at))
    reply_advances = replied_advances (step.Answer actor) new own ready follows reply_in stretch c steps ends ec es ee

  -- ---- a look

  module _ (number : ℕ) (known : HasHeard (log_of (setup_in v.set v.chronicle i).work top (own_of v.set v.chronicle i)) (broker_of (setup_in v.set v.chronicle i).work actor) primary number)
      (new : InstanceValue) (own : List Entry) (ready : new.spent ≡ false) (makes : Records h.instance actor number new own)
      (c : List Entry) (steps : List Step) (ends : List ℕ) (ec : c ≡ v.chronicle ++ map (entered_in i) own) (es : steps ≡ v.steps ++ step.Record actor ∷ []) (ee : ends ≡ v.ends ++ length c ∷ []) where
    records : Follows (setup_in v.set v.chronicle i) (own_of v.set v.chronicle i) (step.Record actor) new own
    records = makes (setup_in v.set v.chronicle i) (own_of v.set v.chronicle i) (home_agrees v sound runs i h here living) known

    look_in : IsReplyIn v.set.work.actors (label_of v.chronicle i) actor i own
    look_in = look_stretch v.set.work.actors (label_of v.chronicle i) (setup_in v.set v.chronicle i).work actor i home_here own records.made

    looked : IsRunStretch v.set v.chronicle (step.Record actor) (map (entered_in i) own)
    looked = record { home = i; is = home_here; stretch = record { born = home_born v sound runs i h here; own = own; entered = refl; allowed = records.made } }

    pub look_sound : IsSound (stepped v c steps ends (homes_with v.homes i h new) (slice_set v.places actor told_at))
    look_sound = replied_sound (step.Record actor) new own ready records look_in looked c steps ends ec es ee

    pub look_advances : Advances v (step.Record actor) (stepped v c steps ends (homes_with v.homes i h new) (slice_set v.places actor told_at))
    look_advances = replied_advances (step.Record actor) new own ready records look_in looked c steps ends ec es ee
