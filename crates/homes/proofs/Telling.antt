-- What is told at the end, one after the other.
use Rattle.std.proofs.Common.{◌≡◌, ◌∙◌, ℕ, ◌+◌, List, [], ◌∷◌, ◌++◌, Bool, true, false, Some, None, append_assoc, append-nil, cond, filter, flat_map, is_some, map, refl, sym, ap, ap₂, arith}
use Rattle.std.specs.Prelude.{not, option_and_then, slice_get}
use Rattle.std.specs.List.{range_with_len}
use Rattle.std.specs.Option.{option_map_or}
use Rattle.std.proofs.lemmas.Grind.{flat_map-append}
use Rattle.std.proofs.lemmas.List.{map-append}
use Rattle.std.proofs.lemmas.List.FromFn.{map-range_with_len_more}
use Rattle.instance.specs.answers.declared.chronicle.Entry.{Entry}
use Rattle.instance.specs.answers.declared.chronicle.Entry.TheVariants as entry
use Rattle.instance.specs.answers.declared.chronicle.Reply.{Reply}
use Rattle.instance.specs.workload.declared.work.Workload.{Workload}
use Rattle.hierarchy.specs.Closing.{Part, told_unborn, unborn_reply}
use Rattle.homes.specs.Closing.{AreLeft, IsLeft, LeavesBy, entered_part, is_unborn, living_below}
use Rattle.homes.specs.Homes.{if_living, living_at}
use Rattle.homes.specs.declared.homes.Home.{Home}
use Rattle.homes.specs.declared.homes.Place.{Place}
use Rattle.homes.proofs.Making.{each_append}

-- ---- numbers

pub range_more : (a n : ℕ) → range_with_len a (n + 1) ≡ range_with_len a n ++ (a + n) ∷ []
range_more a n = sym (kept (range_with_len a (n + 1))) ∙ map-range_with_len_more (λ k. k) a n (a + n) refl ∙ ap (λ ks. ks ++ (a + n) ∷ []) (kept (range_with_len a n))
  where
    kept : (ks : List ℕ) → map (λ k. k) ks ≡ ks
    kept [] = refl
    kept (k ∷ ks) = ap (λ more. k ∷ more) (kept ks)

filter_joined : (p : ℕ → Bool) (xs ys : List ℕ) → filter p (xs ++ ys) ≡ filter p xs ++ filter p ys
filter_joined p [] ys = refl
filter_joined p (x ∷ xs) ys = by (p x) (filter_joined p xs ys)
  where
    by : (b : Bool) → filter p (xs ++ ys) ≡ filter p xs ++ filter p ys → cond b (x ∷ filter p (xs ++ ys)) (filter p (xs ++ ys)) ≡ cond b (x ∷ filter p xs) (filter p xs) ++ filter p ys
    by true e = ap (λ more. x ∷ more) e
    by false e = e

pub filter_more : (p : ℕ → Bool) (n : ℕ) → filter p (range_with_len 0 (n + 1)) ≡ filter p (range_with_len 0 n) ++ cond (p n) (n ∷ []) []
filter_more p n = ap (filter p) (range_more 0 n ∙ ap (λ k. range_with_len 0 n ++ k ∷ []) zeroth) ∙ filter_joined p (range_with_len 0 n) (n ∷ [])
  where
    zeroth : 0 + n ≡ n
    zeroth = omega arith

-- ---- the parts of the living instances

pub none_left : (homes : List Home) → AreLeft homes 0 []
none_left homes = record { parts = []; numbers = refl; each = tt; entered = refl }

module _ (homes : List Home) (n : ℕ) (h : Home) (here : slice_get homes n ≡ Some h) (start old new told : List Entry) (was : old ≡ start ++ told) (left : AreLeft homes n told) where
  living_is : (b : Bool) → h.gone ≡ b → is_some (living_at homes n) ≡ not b
  living_is true gone = ap (λ o. is_some (option_and_then if_living o)) here ∙ ap (λ b. is_some (cond b None (Some h))) gone
  living_is false gone = ap (λ o. is_some (option_and_then if_living o)) here ∙ ap (λ b. is_some (cond b None (Some h))) gone

  below_more : (b : Bool) → h.gone ≡ b → living_below homes (n + 1) ≡ living_below homes n ++ cond (not b) (n ∷ []) []
  below_more b gone = filter_more (λ i. is_some (living_at homes i)) n ∙ ap (λ x. living_below homes n ++ cond x (n ∷ []) []) (living_is b gone)

  -- one that has gone leaves nothing
  pub nothing_left : h.gone ≡ true → new ≡ old → (more : List Entry) × (new ≡ start ++ more) × AreLeft homes (n + 1) more
  nothing_left gone same = (
    told,
    same ∙ was,
    record {
      parts = left.parts;
      numbers = left.numbers ∙ sym (below_more true gone ∙ append-nil (living_below homes n));
      each = left.each;
      entered = left.entered;
    },
  )

  pub part_left : h.gone ≡ false → LeavesBy h n old new → (more : List Entry) × (new ≡ start ++ more) × AreLeft homes (n + 1) more
  part_left gone l =
      let part : Part = record { number = n; left = l.left } in (
        told ++ entered_part part,
        l.told ∙ ap (λ es. es ++ entered_part part) was ∙ append_assoc start told (entered_part part),
        record {
          parts = left.parts ++ part ∷ [];
          numbers = map-append (λ (p : Part). p.number) left.parts (part ∷ []) ∙ ap (λ ns. ns ++ n ∷ []) left.numbers ∙ sym (below_more false gone);
          each = each_append (IsLeft homes) left.parts (part ∷ []) left.each (record { home = h; here = here; living = gone; ends = l.ends }, tt);
          entered = ap₂ (λ a b. a ++ b) left.entered (sym (append-nil (entered_part part))) ∙ sym (flat_map-append entered_part left.parts (part ∷ []));
        },
      )

  pub left_more : (h.gone ≡ true → new ≡ old) → (h.gone ≡ false → LeavesBy h n old new) → (more : List Entry) × (new ≡ start ++ more) × AreLeft homes (n + 1) more
  left_more stays leaves = by h.gone refl
    where
      by : (b : Bool) → h.gone ≡ b → (more : List Entry) × (new ≡ start ++ more) × AreLeft homes (n + 1) more
      by true gone = nothing_left gone (stays gone)
      by false gone = part_left gone (leaves gone)

-- ---- those that were never born

abbrev pub unborn_told : ℕ → ℕ → Entry
unborn_told actor command = entry.Replied actor command (unborn_reply command) None

pub replies_more : (actor n : ℕ) (start old new : List Entry) (given : Reply) → old ≡ start ++ map (unborn_told actor) (range_with_len 0 n) → given ≡ unborn_reply n
    → new ≡ old ++ entry.Replied actor n given None ∷ [] → new ≡ start ++ map (unborn_told actor) (range_with_len 0 (n + 1))
replies_more actor n start old new given was is added =
    added
    ∙ ap₂ (λ es r. es ++ entry.Replied actor n r None ∷ []) was is
    ∙ append_assoc start (map (unborn_told actor) (range_with_len 0 n)) (unborn_told actor n ∷ [])
    ∙ ap (λ es. start ++ es) (sym (map-range_with_len_more (unborn_told actor) 0 n n (omega arith)))

module _ (work : Workload) (places : List Place) (n : ℕ) (p : Place) (here : slice_get places n ≡ Some p)
    (start old : List Entry) (was : old ≡ start ++ flat_map (told_unborn work) (filter (is_unborn places) (range_with_len 0 n))) where
  unborn_is : is_unborn places n ≡ not (is_some p.home)
  unborn_is = ap (λ o. option_map_or (λ (p : Place). not (is_some p.home)) o false) here

  all_more : (b : Bool) → not (is_some p.home) ≡ b → flat_map (told_unborn work) (filter (is_unborn places) (range_with_len 0 (n + 1)))
      ≡ flat_map (told_unborn work) (filter (is_unborn places) (range_with_len 0 n)) ++ flat_map (told_unborn work) (cond b (n ∷ []) [])
  all_more b is =
      ap (flat_map (told_unborn work)) (filter_more (is_unborn places) n ∙ ap (λ x. filter (is_unborn places) (range_with_len 0 n) ++ cond x (n ∷ []) []) (unborn_is ∙ is))
      ∙ flat_map-append (told_unborn work) (filter (is_unborn places) (range_with_len 0 n)) (cond b (n ∷ []) [])

  pub told_more : not (is_some p.home) ≡ true → (new : List Entry) → new ≡ old ++ told_unborn work n
      → new ≡ start ++ flat_map (told_unborn work) (filter (is_unborn places) (range_with_len 0 (n + 1)))
  told_more is new told =
      told
      ∙ ap₂ (λ a b. a ++ b) was (sym (append-nil (told_unborn work n)))
      ∙ append_assoc start (flat_map (told_unborn work) (filter (is_unborn places) (range_with_len 0 n))) (told_unborn work n ++ [])
      ∙ ap (λ es. start ++ es) (sym (all_more true is))

  pub untold_more : not (is_some p.home) ≡ false → old ≡ start ++ flat_map (told_unborn work) (filter (is_unborn places) (range_with_len 0 (n + 1)))
  untold_more is =
      was ∙ ap (λ es. start ++ es) (sym (all_more false is ∙ append-nil (flat_map (told_unborn work) (filter (is_unborn places) (range_with_len 0 n)))))
