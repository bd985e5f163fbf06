-- How many namespaces are live.
use Rattle.std.proofs.Common.{◌≡◌, ℕ, suc, ◌+◌, ◌<◌, List, [], ◌∷◌, length, map, Bool, true, cond, ◌&&◌, not, Some, option_map, refl, sym, ap, ◌∙◌, arith, get_or}
use Rattle.std.specs.List.{count_by}
use Rattle.std.proofs.lemmas.List.Sums.{sum_by-cons}
use Rattle.std.proofs.lemmas.Option.{slice_get-get_or}
use Rattle.std.specs.Cmp.Lexicographic.{bytes_decides}
use Rattle.kvs_rules.specs.Log.{Log}
use Rattle.kvs_rules.specs.Namespaces.{Setting, is_live, is_removed, live_count, opened_names, primary}
use Rattle.kvs_space.specs.Space.{SpaceValue, live_in}
use Rattle.kvs_keys.specs.Agrees.{Agrees}
use Rattle.kvs_keys.specs.Sound.{IsSound}
use Rattle.kvs_keys.specs.Value.{KeysValue}
use Rattle.kvs_keys.proofs.Heads.{head-of, opened-there}
use Rattle.kvs_keys.proofs.Heard.{no-space}
use Rattle.kvs_keys.proofs.Landing.{primary-live, primary-there}

count-cons : {X : Type 0} (p : X → Bool) (x : X) (xs : List X) → count_by p (x ∷ xs) ≡ cond (p x) 1 0 + count_by p xs
count-cons p x xs = sum_by-cons (λ y. cond (p y) 1 0) x xs

-- two tests that agree on each element count the same
count-same : {X : Type 0} (p q : X → Bool) (xs : List X) → ((k : ℕ) (d : X) → k < length xs → p (get_or xs k d) ≡ q (get_or xs k d)) → count_by p xs ≡ count_by q xs
count-same p q [] same = refl
count-same p q (x ∷ xs) same =
    count-cons p x xs ∙ ap (λ b. cond b 1 0 + count_by p xs) (same 0 x (omega arith))
    ∙ ap (λ n. cond (q x) 1 0 + n) (count-same p q xs (λ k d l. same (suc k) d (omega arith))) ∙ sym (count-cons q x xs)

count-map : {X Y : Type 0} (p : Y → Bool) (f : X → Y) (xs : List X) → count_by (λ x. p (f x)) xs ≡ count_by p (map f xs)
count-map p f [] = refl
count-map p f (x ∷ xs) = count-cons (λ y. p (f y)) x xs ∙ ap (λ n. cond (p (f x)) 1 0 + n) (count-map p f xs) ∙ sym (count-cons p (f x) (map f xs))

module _ {v : KeysValue} (s : IsSound v) {set₀ : Setting} {log : Log} (a : Agrees v set₀ log) where
  live-here : (k : ℕ) (d : SpaceValue) → k < length v.spaces → not (get_or v.spaces k d).removed ≡ is_live log (get_or v.spaces k d).name
  live-here k d l =
      ap not (sym (a.spaces k d l).removed)
      ∙ ap (λ b. b && not (is_removed log (get_or v.spaces k d).name)) (sym (opened-there (head-of a) k d l))

  first-live : is_live log primary ≡ true
  first-live =
      let l = primary-there v.spaces s.first in
      let named : Some (get_or v.spaces 0 no-space).name ≡ Some primary = sym (ap (option_map (λ x. x.name)) (slice_get-get_or v.spaces 0 no-space l)) ∙ s.first in
      let is : (get_or v.spaces 0 no-space).name ≡ primary = cc in
      ap (is_live log) (sym is) ∙ sym (live-here 0 no-space l)
      ∙ ap not (primary-live (get_or v.spaces 0 no-space) (s.spaces 0 no-space l).living ((bytes_decides (get_or v.spaces 0 no-space).name primary).1 is))

  -- as many namespaces are live as the table has
  pub live-count : live_count log ≡ live_in v.spaces
  live-count = sym (
      count-same (λ x. not x.removed) (λ x. is_live log x.name) v.spaces live-here
      ∙ count-map (is_live log) (λ x. x.name) v.spaces ∙ ap (count_by (is_live log)) a.names
      ∙ count-cons (is_live log) primary (opened_names log) ∙ ap (λ b. cond b 1 0 + count_by (is_live log) (opened_names log)) first-live
      )
