-- A world whose instance goes with all within it.
use Rattle.std.proofs.Common.{◌≡◌, ◌∙◌, ℕ, ◌^◌, ◌<◌, ◌==◌, inl, inr, List, [], ◌∷◌, ◌++◌, Bool, true, false, ◌&&◌, ◌||◌, Option, Some, None, length, refl, sym, ap, ap₂, subst}
use Rattle.std.specs.Prelude.{filter_map, is_some, not, option_and_then, option_map, slice_get, slice_set}
use Rattle.std.specs.List.{AllByRecursion as Each, cons_option, list_any}
use Rattle.std.proofs.lemmas.Bool.{and_parts, cases_eq}
use Rattle.std.proofs.lemmas.List.{length-set}
use Rattle.std.proofs.lemmas.Option.{slice_get_within}
use Rattle.instance.specs.answers.Chronicle.{Setup, top}
use Rattle.instance.specs.answers.declared.chronicle.Entry.{Entry}
use Rattle.instance.specs.answers.declared.chronicle.Entry.TheVariants as entry
use Rattle.hierarchy.specs.Births.{Birth, birth_of, is_born, is_gone, lives}
use Rattle.hierarchy.specs.Families.{living_in}
use Rattle.hierarchy.specs.Growing.{StartsNothing}
use Rattle.hierarchy.specs.Inside.{AreMarked, GoesWithAll, end_in, ends_within, inside_of, is_parent_marked, marked_below}
use Rattle.hierarchy.specs.Legal.{IsLegalRun}
use Rattle.hierarchy.specs.Own.{own_of, setup_in}
use Rattle.hierarchy.proofs.Marks.{marks_find}
use Rattle.hierarchy.proofs.Owning.{is_alive}
use Rattle.instance.specs.Agrees.{AgreesOwn}
use Rattle.instance.specs.Value.{InstanceValue}
use Rattle.homes.specs.Homes.{AreHomes, IsHome}
use Rattle.homes.specs.Inside.{AreInside, HaveGone, end_at, end_of, has_marked}
use Rattle.homes.specs.declared.homes.Home.{Home}
use Rattle.homes.proofs.Families.{home_born, home_kept, lives_on, lives_told, origin_by}
use Rattle.homes.proofs.Marking.{mark_at, marked_alike, marked_among}
use Rattle.homes.proofs.Placing.{AreSilent, IsSilent, all_silent}
use Rattle.homes.proofs.Standing.{item_at, same_item, set_here, set_other}

-- ---- the marked homes

parent_alike : (marks : List Bool) (birth : Option Birth) → has_marked marks (option_map origin_by birth) ≡ is_parent_marked (mark_at marks) birth
parent_alike marks None = refl
parent_alike marks (Some b) = refl

module _ (set : Setup) (c : List Entry) (homes : List Home) (all : AreHomes set c homes) (run : IsLegalRun set c)
    (number : ℕ) (here : lives c number ≡ true) (marks : List Bool) (inside : AreInside number homes marks) where
  are_marked : AreMarked c number (mark_at marks)
  are_marked i low =
      let at = item_at homes i (subst (λ n. i < n) (sym all.all) low) in
      let is = all.each i at.0 at.1 in
      inside.each i at.0 at.1
      ∙ ap₂ (λ g p. not g && ((i == number) || p)) is.gone (ap (has_marked marks) is.origin ∙ parent_alike marks (birth_of c i))
      ∙ ap (λ b. (b && not (is_gone c i)) && ((i == number) || is_parent_marked (mark_at marks) (birth_of c i))) (sym (home_born set c homes all run i at.0 at.1))

  found : inside_of c number ≡ marked_below (mark_at marks) (length marks)
  found = marks_find set c number (mark_at marks) run here are_marked ∙ ap (marked_below (mark_at marks)) (sym (inside.all ∙ all.all))

  -- whoever is marked lives
  marked_lives : (k : ℕ) (h : Home) → slice_get homes k ≡ Some h → mark_at marks k ≡ true → h.gone ≡ false
  marked_lives k h e is = by h.gone (and_parts (not h.gone) ((k == number) || has_marked marks h.origin) (sym (inside.each k h e) ∙ is)).0
    where
      by : (b : Bool) → not b ≡ true → b ≡ false
      by true e = cc
      by false e = refl

  same_end : (k : ℕ) → k < length marks → mark_at marks k ≡ true → end_at homes k ≡ end_in set c k
  same_end k low is =
      let at = item_at homes k (subst (λ n. k < n) inside.all low) in
      let home = all.each k at.0 at.1 in
      ap (option_and_then (end_of k)) at.1
      ∙ ap₂ (λ o s. option_map (λ o. entry.Gone k o.parent o.job s) o) home.origin (home.lives (marked_lives k at.0 at.1 is)).shuts
      ∙ by (birth_of c k)
    where
      by : (birth : Option Birth) → option_map (λ o. entry.Gone k o.parent o.job (living_in set c k).shuts) (option_map origin_by birth)
          ≡ option_map (λ b. entry.Gone k b.parent b.job (living_in set c k).shuts) birth
      by None = refl
      by (Some b) = refl

  -- their ends are those of the instance and of all within it
  pub ends_told : filter_map (end_at homes) (marked_below (mark_at marks) (length marks)) ≡ ends_within set c number
  ends_told = marked_alike (end_at homes) (end_in set c) (mark_at marks) (length marks) same_end ∙ ap (filter_map (end_in set c)) (sym found)

  -- whoever is marked is found
  pub found_marked : (k : ℕ) → k < length homes → list_any (λ n. n == k) (inside_of c number) ≡ mark_at marks k
  found_marked k low = ap (list_any (λ n. n == k)) found ∙ marked_among (mark_at marks) (length marks) k (subst (λ n. k < n) (sym inside.all) low)

-- ---- what ends are

ends_each : (P : Entry → Type 0) (set : Setup) (c : List Entry) → ((child parent job : ℕ) (shut : Bool) → P (entry.Gone child parent job shut))
    → (ks : List ℕ) → Each P (filter_map (end_in set c) ks)
ends_each P set c is [] = tt
ends_each P set c is (k ∷ ks) = by (birth_of c k) (ends_each P set c is ks)
  where
    by : (birth : Option Birth) → Each P (filter_map (end_in set c) ks)
        → Each P (cons_option (option_map (λ b. entry.Gone k b.parent b.job (living_in set c k).shuts) birth) (filter_map (end_in set c) ks))
    by None more = more
    by (Some b) more = (is k b.parent b.job (living_in set c k).shuts, more)

pub ends_issue_nothing : (set : Setup) (c : List Entry) (number : ℕ) → Each StartsNothing (ends_within set c number)
ends_issue_nothing set c number = ends_each StartsNothing set c (λ child parent job shut. tt) (inside_of c number)

pub ends_are_silent : (set : Setup) (c : List Entry) (number actor : ℕ) → AreSilent actor (ends_within set c number)
ends_are_silent set c number actor = all_silent actor (ends_within set c number)
    (ends_each (IsSilent actor) set c (λ child parent job shut. record { issues = refl; replies = λ k. refl }) (inside_of c number))

-- ---- behind the ends

not_both : (a b d : Bool) → not a ≡ (not b && not d) → (b || d) ≡ a
not_both true true d e = refl
not_both true false true e = refl
not_both true false false e = cc
not_both false true d e = cc
not_both false false true e = cc
not_both false false false e = refl

module _ (set : Setup) (c : List Entry) (homes : List Home) (all : AreHomes set c homes) (run : IsLegalRun set c)
    (b : Birth) (here : lives c b.child ≡ true) (marks : List Bool) (inside : AreInside b.child homes marks) (goes : GoesWithAll set c b)
    (left : List Home) (gone : HaveGone marks homes left) where
  abbrev ends : List Entry
  ends = ends_within set c b.child

  gone_so : (k : ℕ) (h : Home) → slice_get homes k ≡ Some h → (h.gone || mark_at marks k) ≡ is_gone (c ++ ends) k
  gone_so k h e =
      let born = home_born set c homes all run k h e in
      let low = slice_get_within homes k h e in
      not_both (is_gone (c ++ ends) k) h.gone (mark_at marks k)
      (sym (ap (λ x. x && not (is_gone (c ++ ends) k)) (born_alike k ∙ born))
      ∙ goes.lives_so k
      ∙ ap₂ (λ x y. (x && not (is_gone c k)) && not y) born (found_marked set c homes all run b.child here marks inside k low)
      ∙ ap (λ g. not g && not (mark_at marks k)) (sym (all.each k h e).gone))
    where
      born_alike : (k : ℕ) → is_born (c ++ ends) k ≡ is_born c k
      born_alike k = ap (λ o. (k == top) || is_some o) (goes.grows.births k)

  -- who hasn't gone lives behind the ends
  stays_alive : (k : ℕ) (h : Home) → slice_get homes k ≡ Some h → (h.gone || mark_at marks k) ≡ false → lives (c ++ ends) k ≡ true
  stays_alive k h e on =
      is_alive (c ++ ends) k (ap (λ o. (k == top) || is_some o) (goes.grows.births k) ∙ home_born set c homes all run k h e) (sym (gone_so k h e) ∙ on)

  or_none : (x y : Bool) → (x || y) ≡ false → x ≡ false
  or_none true y e = e
  or_none false y e = refl

  abbrev gone_home : ℕ → Home → Home
  gone_home k h = record h { gone = h.gone || mark_at marks k }

  abbrev told_home : Home → InstanceValue → Home
  told_home h new = record (gone_home b.parent h) { instance = new }

  -- the parent of the instance, which is told of the end
  parent_told : (h : Home) (new : InstanceValue) → slice_get homes b.parent ≡ Some h → new.spent ≡ false
      → AgreesOwn new (setup_in set c b.parent) (own_of set c b.parent ++ entry.Gone b.child top b.job (living_in set c b.child).shuts ∷ [])
      → IsHome set (c ++ ends) b.parent (told_home h new)
  parent_told h new at ready agrees =
      home_kept set c ends b.parent h (told_home h new) (all.each b.parent h at) (goes.grows.births b.parent) refl refl ready (gone_so b.parent h at)
      (λ on. lives_told set c ends b.parent h (told_home h new) (all.each b.parent h at)
      (entry.Gone b.child top b.job (living_in set c b.child).shuts ∷ []) (or_none h.gone (mark_at marks b.parent) on) (goes.grows.told goes.bearer) refl refl agrees)

  -- another one, which may have gone
  other_left : (k : ℕ) (h : Home) → slice_get homes k ≡ Some h → (k ≡ b.parent → ⊥) → IsHome set (c ++ ends) k (gone_home k h)
  other_left k h at other =
      let was = all.each k h at in
      home_kept set c ends k h (gone_home k h) was (goes.grows.births k) refl refl was.ready (gone_so k h at)
      (λ on. lives_on set c ends k h (gone_home k h) was (or_none h.gone (mark_at marks k) on) (goes.grows.others k (stays_alive k h at on) other) refl refl)

  -- the instances where the parent is told
  pub homes_left : (h : Home) (new : InstanceValue) → slice_get homes b.parent ≡ Some h → new.spent ≡ false
      → AgreesOwn new (setup_in set c b.parent) (own_of set c b.parent ++ entry.Gone b.child top b.job (living_in set c b.child).shuts ∷ [])
      → AreHomes set (c ++ ends) (slice_set left b.parent (told_home h new))
  homes_left h new at ready agrees = record {
    few = subst (λ n. n < 2 ^ 32) (sym (length-set left b.parent (told_home h new) ∙ gone.all)) all.few;
    all = length-set left b.parent (told_home h new) ∙ gone.all ∙ all.all ∙ ap length (sym goes.grows.numbered);
    each = λ k one e. elim (cases_eq k b.parent) [
      | inl same ↦
          let there : slice_get (slice_set left b.parent (told_home h new)) b.parent ≡ Some one = ap (slice_get (slice_set left b.parent (told_home h new))) (sym same) ∙ e in
          let is : told_home h new ≡ one = same_item (told_home h new) one (sym (set_here left b.parent (gone_home b.parent h) (told_home h new) (gone.each b.parent h at)) ∙ there) in
          subst (λ n. IsHome set (c ++ ends) n one) (sym same) (subst (IsHome set (c ++ ends) b.parent) is (parent_told h new at ready agrees))
      | inr other ↦
          let was : slice_get left k ≡ Some one = sym (set_other left b.parent k (told_home h new) other) ∙ e in
          let old = item_at homes k (subst (λ n. k < n) gone.all (slice_get_within left k one was)) in
          subst (IsHome set (c ++ ends) k) (same_item (gone_home k old.0) one (sym (gone.each k old.0 old.1) ∙ was)) (other_left k old.0 old.1 other)
    ];
  }
