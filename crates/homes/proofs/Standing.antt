-- The instances of a run behind what one of them has made.
use Rattle.std.proofs.Common.{◌≡◌, ◌∙◌, ℕ, zero, suc, ◌==◌, ◌<◌, ◌^◌, ◌⊎◌, inl, inr, List, [], ◌∷◌, ◌++◌, Bool, true, false, ◌&&◌, ◌||◌, Some, None, length, refl, sym, ap, subst, true≢false, arith}
use Rattle.std.specs.Prelude.{not, is_some, option_map, slice_get, slice_set}
use Rattle.std.specs.Option.{option_map_or}
use Rattle.std.proofs.lemmas.Bool.{eq-eqb, eqb-true}
use Rattle.std.proofs.lemmas.Option.{slice_get_within}
use Rattle.std.proofs.lemmas.List.{length-set}
use Rattle.instance.specs.answers.Chronicle.{Setup, top}
use Rattle.instance.specs.answers.declared.chronicle.Entry.{Entry}
use Rattle.hierarchy.specs.Births.{is_born, is_gone, lives, numbers}
use Rattle.hierarchy.specs.Families.{living_in}
use Rattle.hierarchy.specs.Grows.{GrowsOwn, LivesSo, StaysAs}
use Rattle.hierarchy.specs.Own.{child_setup, own_of, setup_in, work_for}
use Rattle.hierarchy.proofs.Owning.{is_alive}
use Rattle.instance.specs.Agrees.{AgreesOwn}
use Rattle.homes.specs.Homes.{AreHomes, IsHome, origin_in}
use Rattle.homes.specs.declared.homes.Home.{Home}

-- ---- lists with one item changed

pub set_here : {X : Type 0} (xs : List X) (i : ℕ) (x y : X) → slice_get xs i ≡ Some x → slice_get (slice_set xs i y) i ≡ Some y
set_here [] i x y e = cc
set_here (z ∷ xs) zero x y e = refl
set_here (z ∷ xs) (suc i) x y e = set_here xs i x y e

pub set_other : {X : Type 0} (xs : List X) (i k : ℕ) (y : X) → (k ≡ i → ⊥) → slice_get (slice_set xs i y) k ≡ slice_get xs k
set_other [] i k y e = refl
set_other (z ∷ xs) zero zero y e = absurd (e refl)
set_other (z ∷ xs) zero (suc k) y e = refl
set_other (z ∷ xs) (suc i) zero y e = refl
set_other (z ∷ xs) (suc i) (suc k) y e = set_other xs i k y (λ s. e (ap suc s))

pub item_at : {X : Type 0} (xs : List X) (k : ℕ) → k < length xs → (x : X) × (slice_get xs k ≡ Some x)
item_at [] k below = absurd (omega arith)
item_at (x ∷ xs) zero below = (x, refl)
item_at (x ∷ xs) (suc k) below = item_at xs k (omega (arith, below))

pub same_item : {X : Type 0} (x y : X) → Some x ≡ Some y → x ≡ y
same_item x y e = cc

-- ---- who has gone

not_same : (a b : Bool) → not a ≡ not b → a ≡ b
not_same true true e = refl
not_same true false e = cc
not_same false true e = cc
not_same false false e = refl

module _ (c more : List Entry) (so : LivesSo c more) (k : ℕ) where
  born_so : is_born (c ++ more) k ≡ is_born c k
  born_so = ap (λ b. (k == top) || is_some b) (so.births k)

  pub gone_so : is_born c k ≡ true → is_gone (c ++ more) k ≡ is_gone c k
  gone_so born = not_same (is_gone (c ++ more) k) (is_gone c k)
      (sym (ap (λ b. b && not (is_gone (c ++ more) k)) (born_so ∙ born))
      ∙ so.lives_so k
      ∙ ap (λ b. b && not (is_gone c k)) born)

  pub origin_so : origin_in (c ++ more) k ≡ origin_in c k
  origin_so = ap (λ b. option_map (λ b. record { parent = b.parent; job = b.job; label = b.label }) b) (so.births k)

-- ---- the instances

module _ (set : Setup) (c more : List Entry) (so : LivesSo c more) (k : ℕ) (born : is_born c k ≡ true) where
  -- one of which nothing changes
  pub stays_home : (h : Home) → (is_gone c k ≡ false → StaysAs set c more k) → setup_in set (c ++ more) k ≡ setup_in set c k → IsHome set c k h → IsHome set (c ++ more) k h
  stays_home h stays given old = record {
    origin = old.origin ∙ sym (origin_so c more so k);
    gone = old.gone ∙ sym (gone_so c more so k born);
    work = old.work ∙ sym (ap (λ s. s.work) given);
    ready = old.ready;
    lives = λ here.
        let was = old.lives here in
        let same = stays (sym old.gone ∙ here) in
        record {
          shuts = was.shuts ∙ sym (ap (λ l. l.shuts) same.living);
          agrees = subst (λ s. AgreesOwn h.instance s (own_of set (c ++ more) k)) (sym same.setup)
              (subst (λ o. AgreesOwn h.instance (setup_in set c k) o) (sym same.own) was.agrees);
        };
  }

  -- one whose own chronicle is longer
  pub grown_home : (h new : Home) (told : List Entry) → GrowsOwn set c more k told → IsHome set c k h → h.gone ≡ false
      → new.origin ≡ h.origin → new.gone ≡ false → new.work ≡ h.work → new.instance.spent ≡ false
      → new.shuts ≡ (living_in set (c ++ more) k).shuts
      → AgreesOwn new.instance (setup_in set c k) (own_of set c k ++ told)
      → IsHome set (c ++ more) k new
  grown_home h new told grows old here origin gone work ready shuts agrees = record {
    origin = origin ∙ old.origin ∙ sym (origin_so c more so k);
    gone = gone ∙ sym here ∙ old.gone ∙ sym (gone_so c more so k born);
    work = work ∙ old.work ∙ sym (ap (λ s. s.work) grows.setup);
    ready = ready;
    lives = λ _. record {
      shuts = shuts;
      agrees = subst (λ s. AgreesOwn new.instance s (own_of set (c ++ more) k)) (sym grows.setup)
          (subst (λ o. AgreesOwn new.instance (setup_in set c k) o) (sym grows.own) agrees);
    };
  }

-- ---- all instances

pub decided : (k i : ℕ) → (k ≡ i) ⊎ (k ≡ i → ⊥)
decided k i = by (k == i) refl
  where
    by : (b : Bool) → (k == i) ≡ b → (k ≡ i) ⊎ (k ≡ i → ⊥)
    by true is = inl (eqb-true k i is)
    by false is = inr (λ s. true≢false (sym (eq-eqb k i s) ∙ is))

module _ (set : Setup) (c more : List Entry) (homes : List Home) (all : AreHomes set c homes)
    (known : (k : ℕ) → k < length (numbers c) → is_born c k ≡ true) where
  -- each is born that has a place
  pub placed_born : (k : ℕ) (h : Home) → slice_get homes k ≡ Some h → is_born c k ≡ true
  placed_born k h e = known k (subst (λ n. k < n) all.all (slice_get_within homes k h e))

  setup_so : LivesSo c more → (k : ℕ) → setup_in set (c ++ more) k ≡ setup_in set c k
  setup_so so k = ap (λ b. option_map_or (child_setup set) b (record set { work = work_for set.work None set.size })) (so.births k)

  -- where nothing changes for those that live
  pub homes_stay : LivesSo c more → ((k : ℕ) → lives c k ≡ true → StaysAs set c more k) → AreHomes set (c ++ more) homes
  homes_stay so stays = record {
    few = all.few;
    all = all.all ∙ ap length (sym so.numbered);
    each = λ k h e.
        let born = placed_born k h e in
        stays_home set c more so k born h (λ alive. stays k (is_alive c k born alive)) (setup_so so k) (all.each k h e);
  }

  -- where one instance makes something
  pub homes_behind : (so : LivesSo c more) (i : ℕ) (h new : Home) (told : List Entry)
      → slice_get homes i ≡ Some h → h.gone ≡ false → GrowsOwn set c more i told
      → ((k : ℕ) → lives c k ≡ true → (k ≡ i → ⊥) → StaysAs set c more k)
      → IsHome set (c ++ more) i new → AreHomes set (c ++ more) (slice_set homes i new)
  homes_behind so i h new told here living grows others is = record {
    few = subst (λ n. n < 2 ^ 32) (sym (length-set homes i new)) all.few;
    all = length-set homes i new ∙ all.all ∙ ap length (sym so.numbered);
    each = λ k one e. elim (decided k i) [
      | inl same ↦
          let at : slice_get (slice_set homes i new) i ≡ Some one = ap (slice_get (slice_set homes i new)) (sym same) ∙ e in
          let one_is : new ≡ one = same_item new one (sym (set_here homes i h new here) ∙ at) in
          subst (λ n. IsHome set (c ++ more) n one) (sym same) (subst (IsHome set (c ++ more) i) one_is is)
      | inr other ↦
          let was : slice_get homes k ≡ Some one = sym (set_other homes i k new other) ∙ e in
          let born = placed_born k one was in
          stays_home set c more so k born one
          (λ alive. others k (is_alive c k born alive) other)
          (setup_so so k)
          (all.each k one was)
    ];
  }

  -- where each living one is told the same
  pub homes_told : (so : LivesSo c more) (new : List Home) → length new ≡ length homes
      → ((k : ℕ) (h one : Home) → slice_get homes k ≡ Some h → slice_get new k ≡ Some one → IsHome set (c ++ more) k one)
      → AreHomes set (c ++ more) new
  homes_told so new long each = record {
    few = subst (λ n. n < 2 ^ 32) (sym long) all.few;
    all = long ∙ all.all ∙ ap length (sym so.numbered);
    each = λ k one e.
        let below : k < length homes = subst (λ n. k < n) long (slice_get_within new k one e) in
        let was = item_at homes k below in
        each k was.0 one was.1 e;
  }
