-- A child goes with all within it, and its parent is told: what that leaves of the world.
use Rattle.std.proofs.Common.{◌≡◌, ◌∙◌, ℕ, List, [], ◌∷◌, ◌++◌, ◌||◌, ◌&&◌, Bool, true, false, Option, Some, None, get_or, length, refl, sym, ap, ap₂, subst}
use Rattle.std.specs.Prelude.{filter_map, not, slice_get, slice_set}
use Rattle.std.specs.Option.{option_map_or}
use Rattle.std.proofs.lemmas.Bool.{and_parts, not-true}
use Rattle.std.proofs.lemmas.Option.{get_or_from_slice_get}
use Rattle.instance.specs.answers.Chronicle.{Setup, top}
use Rattle.instance.specs.answers.declared.chronicle.Entry.{Entry}
use Rattle.instance.specs.answers.declared.chronicle.Entry.TheVariants as entry
use Rattle.instance.specs.answers.declared.steps.Step.{Step}
use Rattle.instance.specs.answers.declared.steps.Step.TheVariants as step
use Rattle.hierarchy.specs.Births.{Birth, birth_of, lives}
use Rattle.hierarchy.specs.Families.{family_of, living_in}
use Rattle.hierarchy.specs.Inside.{GoesWithAll, ends_within, marked_below}
use Rattle.hierarchy.specs.Legal.{IsLegalRun}
use Rattle.hierarchy.specs.Own.{own_of, setup_in}
use Rattle.hierarchy.proofs.Inside.{goes_with_all}
use Rattle.hierarchy.proofs.Nested.{parent_lives}
use Rattle.hierarchy.proofs.Numbering.{number_of}
use Rattle.hierarchy.proofs.Owning.{alive}
use Rattle.hierarchy.proofs.Settling.{nothing_issued}
use Rattle.instance.specs.Agrees.{AgreesOwn}
use Rattle.instance.specs.Family.{may_end}
use Rattle.instance.specs.Makes.{Follows, LetsGo}
use Rattle.instance.specs.Value.{InstanceValue}
use Rattle.instance.specs.instance_rules.Family.{IsEndOf}
use Rattle.world.specs.Advances.{Advances}
use Rattle.homes.specs.Homes.{AreHomes}
use Rattle.homes.specs.Inside.{AreInside, HaveGone, end_at}
use Rattle.world.specs.Sound.{IsSound}
use Rattle.homes.specs.Times.{may_go}
use Rattle.world.specs.Steps.{can_make}
use Rattle.world.specs.Value.{WorldValue}
use Rattle.homes.specs.declared.homes.Home.{Home}
use Rattle.homes.specs.declared.homes.Origin.{Origin}
use Rattle.homes.proofs.Families.{born_as, home_lives, origin_by, says_here, valid_kept}
use Rattle.homes.proofs.Leaving.{ends_are_silent, ends_issue_nothing, ends_told, homes_left}
use Rattle.homes.proofs.Marking.{mark_at}
use Rattle.homes.proofs.Placing.{places_stay}
use Rattle.world.proofs.Stepping.{step_advances, step_sound, stepped}

-- ---- who may go

-- a living child that may go by what its parent says
pub record MayLeave (homes : List Home) (h : Home) (o : Origin) : Type 0 where
  pub here : h.gone ≡ false
  pub p : Home
  pub bearer : slice_get homes o.parent ≡ Some p
  pub may : may_end p.instance o.job h.shuts ≡ true

pub may_leave : (homes : List Home) (h : Home) (o : Origin) → h.origin ≡ Some o → may_go homes h ≡ true → MayLeave homes h o
may_leave homes h o from may = by (slice_get homes o.parent) refl (ap (λ x. option_map_or (λ o. option_map_or (λ p. not h.gone && may_end p.instance o.job h.shuts) (slice_get homes o.parent) false) x false) (sym from) ∙ may)
  where
    by : (x : Option Home) → slice_get homes o.parent ≡ x → option_map_or (λ p. not h.gone && may_end p.instance o.job h.shuts) x false ≡ true → MayLeave homes h o
    by None at never = cc
    by (Some p) at ever =
        let both = and_parts (not h.gone) (may_end p.instance o.job h.shuts) ever in
        record { here = not-true h.gone both.0; p = p; bearer = at; may = both.1 }

-- the birth that the origin of a home tells
abbrev pub born_with : Birth → ℕ → Origin → Birth
born_with b number o = record b { child = number; parent = o.parent; job = o.job; label = o.label }

pub birth_told : (c : List Entry) (b : Birth) (number : ℕ) (o : Origin) → birth_of c number ≡ Some b → o ≡ origin_by b → birth_of c number ≡ Some (born_with b number o)
birth_told c b number o birth is =
    birth ∙ ap₂ (λ n x. Some (born_with b n x)) (number_of c number b birth) (sym is)

-- what the step says of the instance, and its birth
pub record Leaves (v : WorldValue) (number : ℕ) (h : Home) (o : Origin) : Type 0 where
  pub at : slice_get v.homes number ≡ Some h
  pub may : MayLeave v.homes h o
  pub b : Birth
  pub birth : birth_of v.chronicle number ≡ Some (born_with b number o)

pub leaves : (v : WorldValue) → IsSound v → v.closed ≡ false → (number : ℕ) (h : Home) (o : Origin) → can_make v (step.End number) ≡ true
    → h ≡ get_or v.homes number h → h.origin ≡ Some o → Leaves v number h o
leaves v sound runs number h o can read from =
    let goes = says_here v.homes (may_go v.homes) number h can read in
    let born = born_as v.set v.chronicle v.homes (sound.runs runs).homes sound.legal number h o goes.0 from in
    record { at = goes.0; may = may_leave v.homes h o from goes.2; b = born.b; birth = birth_told v.chronicle born.b number o born.birth born.is }

-- what is read of the parent, behind those that go
pub parent_read : (homes left : List Home) (marks : List Bool) (i : ℕ) (p x : Home) → HaveGone marks homes left → slice_get homes i ≡ Some p → x ≡ get_or left i x
    → x ≡ record p { gone = p.gone || mark_at marks i }
parent_read homes left marks i p x gone at read = read ∙ get_or_from_slice_get left i (record p { gone = p.gone || mark_at marks i }) x (gone.each i p at)

-- ---- the world without it

module _ (v : WorldValue) (sound : IsSound v) (runs : v.closed ≡ false) (b : Birth) (birth : birth_of v.chronicle b.child ≡ Some b)
    (h : Home) (at : slice_get v.homes b.child ≡ Some h) (here : h.gone ≡ false) (p : Home) (bearer : slice_get v.homes b.parent ≡ Some p) where
  homes_are : AreHomes v.set v.chronicle v.homes
  homes_are = (sound.runs runs).homes

  pub child_lives : lives v.chronicle b.child ≡ true
  child_lives = home_lives v.set v.chronicle v.homes homes_are sound.legal b.child h at here

  pub bearer_lives : lives v.chronicle b.parent ≡ true
  bearer_lives = parent_lives v.set v.chronicle sound.legal b.child b child_lives birth

  pub bearer_agrees : AgreesOwn p.instance (setup_in v.set v.chronicle b.parent) (own_of v.set v.chronicle b.parent)
  bearer_agrees = let is = homes_are.each b.parent p bearer in (is.lives (is.gone ∙ (alive v.chronicle b.parent bearer_lives).1)).agrees

  pub shuts_so : h.shuts ≡ (living_in v.set v.chronicle b.child).shuts
  shuts_so = ((homes_are.each b.child h at).lives here).shuts

  module _ (new : InstanceValue) (ready : new.spent ≡ false) (lets : LetsGo p.instance b.job h.shuts new)
      (over : IsEndOf (family_of v.set v.chronicle) (living_in v.set v.chronicle b.child))
      (marks : List Bool) (inside : AreInside b.child v.homes marks) (left : List Home) (gone : HaveGone marks v.homes left)
      (c : List Entry) (steps : List Step) (ends : List ℕ) (told : c ≡ v.chronicle ++ filter_map (end_at v.homes) (marked_below (mark_at marks) (length marks)))
      (es : steps ≡ v.steps ++ step.End b.child ∷ []) (ee : ends ≡ v.ends ++ length c ∷ []) where
    follows : Follows (setup_in v.set v.chronicle b.parent) (own_of v.set v.chronicle b.parent) (step.End b.child) new
        (entry.Gone b.child top b.job (living_in v.set v.chronicle b.child).shuts ∷ [])
    follows = subst (λ s. Follows (setup_in v.set v.chronicle b.parent) (own_of v.set v.chronicle b.parent) (step.End b.child) new (entry.Gone b.child top b.job s ∷ []))
        shuts_so (lets (setup_in v.set v.chronicle b.parent) (own_of v.set v.chronicle b.parent) bearer_agrees b.child)

    goes : GoesWithAll v.set v.chronicle b
    goes = goes_with_all v.set v.chronicle b sound.legal child_lives birth over (sound.runs runs).on follows.legal.0

    told_all : c ≡ v.chronicle ++ ends_within v.set v.chronicle b.child
    told_all = told ∙ ap (λ more. v.chronicle ++ more) (ends_told v.set v.chronicle v.homes homes_are sound.legal b.child child_lives marks inside)

    abbrev homes_now : List Home
    homes_now = slice_set left b.parent (record p { instance = new; gone = p.gone || mark_at marks b.parent })

    pub end_sound : IsSound (stepped v c steps ends homes_now v.places)
    end_sound =
        step_sound v (step.End b.child) (ends_within v.set v.chronicle b.child) goes.stretch c steps ends homes_now v.places told_all es ee sound runs
        goes.grows.legal (valid_kept v.set v.chronicle (ends_within v.set v.chronicle b.child) goes.grows.births sound.valid) (record {
          on = goes.grows.on;
          homes = homes_left v.set v.chronicle v.homes homes_are sound.legal b child_lives marks inside goes left gone p new bearer ready follows.agrees;
          places = places_stay v.set v.chronicle (ends_within v.set v.chronicle b.child) goes.grows.numbered goes.grows.births v.places (sound.runs runs).places
              (λ actor. ends_are_silent v.set v.chronicle b.child actor);
        })

    pub end_advances : Advances v (step.End b.child) (stepped v c steps ends homes_now v.places)
    end_advances =
        step_advances v (step.End b.child) (ends_within v.set v.chronicle b.child) goes.stretch c steps ends homes_now v.places told_all es ee
        (λ _. nothing_issued v.set (ends_within v.set v.chronicle b.child) v.chronicle (ends_issue_nothing v.set v.chronicle b.child))

-- so by what is read in the course of the step
module _ (v : WorldValue) (sound : IsSound v) (runs : v.closed ≡ false) (number : ℕ) (h : Home) (o : Origin) (l : Leaves v number h o)
    (marks : List Bool) (inside : AreInside number v.homes marks) (left : List Home) (gone : HaveGone marks v.homes left)
    (x : Home) (is : x ≡ record l.may.p { gone = l.may.p.gone || mark_at marks o.parent }) (new : InstanceValue) (ready : new.spent ≡ false) (lets : LetsGo x.instance o.job h.shuts new)
    (due : (set : Setup) (c : List Entry) (b : Birth) → IsLegalRun set c → lives c b.child ≡ true → birth_of c b.child ≡ Some b → b.job ≡ o.job
    → (living_in set c b.child).shuts ≡ h.shuts → AgreesOwn x.instance (setup_in set c b.parent) (own_of set c b.parent) → IsEndOf (family_of set c) (living_in set c b.child))
    (c : List Entry) (steps : List Step) (ends : List ℕ) (told : c ≡ v.chronicle ++ filter_map (end_at v.homes) (marked_below (mark_at marks) (length marks)))
    (es : steps ≡ v.steps ++ step.End number ∷ []) (ee : ends ≡ v.ends ++ length c ∷ []) where
  abbrev birth_now : Birth
  birth_now = born_with l.b number o

  lets_go : LetsGo l.may.p.instance o.job h.shuts new
  lets_go = subst (λ y. LetsGo y.instance o.job h.shuts new) is lets

  is_due : IsEndOf (family_of v.set v.chronicle) (living_in v.set v.chronicle number)
  is_due =
      due v.set v.chronicle birth_now sound.legal (child_lives v sound runs birth_now l.birth h l.at l.may.here l.may.p l.may.bearer) l.birth refl
      (sym (shuts_so v sound runs birth_now l.birth h l.at l.may.here l.may.p l.may.bearer))
      (subst (λ y. AgreesOwn y.instance (setup_in v.set v.chronicle o.parent) (own_of v.set v.chronicle o.parent)) (sym is)
      (bearer_agrees v sound runs birth_now l.birth h l.at l.may.here l.may.p l.may.bearer))

  pub ends_sound : IsSound (stepped v c steps ends (slice_set left o.parent (record x { instance = new })) v.places)
  ends_sound = subst (λ y. IsSound (stepped v c steps ends (slice_set left o.parent (record y { instance = new })) v.places)) (sym is)
      (end_sound v sound runs birth_now l.birth h l.at l.may.here l.may.p l.may.bearer new ready lets_go is_due marks inside left gone c steps ends told es ee)

  pub ends_advance : Advances v (step.End number) (stepped v c steps ends (slice_set left o.parent (record x { instance = new })) v.places)
  ends_advance = subst (λ y. Advances v (step.End number) (stepped v c steps ends (slice_set left o.parent (record y { instance = new })) v.places)) (sym is)
      (end_advances v sound runs birth_now l.birth h l.at l.may.here l.may.p l.may.bearer new ready lets_go is_due marks inside left gone c steps ends told es ee)
