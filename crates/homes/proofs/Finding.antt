-- What is read of lists, and of the instances of a run.
use Rattle.std.proofs.Common.{◌≡◌, ◌∙◌, ◌<◌, ℕ, List, Bool, true, false, Option, Some, None, cond, get_or, is_some, length, refl, sym, ap}
use Rattle.std.specs.Prelude.{option_and_then, slice_get}
use Rattle.std.specs.Option.{option_map_or}
use Rattle.std.proofs.lemmas.Option.{get_or_from_slice_get, slice_get-get_or}
use Rattle.homes.specs.Homes.{if_living, living_at}
use Rattle.homes.specs.declared.homes.Home.{Home}
use Rattle.homes.specs.declared.homes.Place.{Place}

-- what an option says that is true
pub record IsFoundIn {X : Type 0} (o : Option X) (says : X → Bool) : Type 0 where
  pub it : X
  pub is : o ≡ Some it
  pub so : says it ≡ true

pub option_found : {X : Type 0} (o : Option X) (says : X → Bool) → option_map_or says o false ≡ true → IsFoundIn o says
option_found None says e = cc
option_found (Some x) says e = record { it = x; is = refl; so = e }

-- what is read at a place of a list is what stands there
pub item_read : {X : Type 0} (xs : List X) (i : ℕ) (one x : X) → slice_get xs i ≡ Some one → x ≡ get_or xs i x → slice_get xs i ≡ Some x
item_read xs i one x at read = at ∙ ap Some (sym (read ∙ get_or_from_slice_get xs i one x at))

-- whichever is named for a place past the end
pub same_at : {X : Type 0} (xs : List X) (i : ℕ) (d e : X) → i < length xs → get_or xs i d ≡ get_or xs i e
same_at {X = X} xs i d e below = of (get_or xs i d) (get_or xs i e) (sym (slice_get-get_or xs i d below) ∙ slice_get-get_or xs i e below)
  where
    of : (x y : X) → Some x ≡ Some y → x ≡ y
    of x y same = cc

-- an instance that lives
pub some_says : {X : Type 0} (o : Option X) → is_some o ≡ true → option_map_or (λ _. true) o false ≡ true
some_says None e = e
some_says (Some x) e = e

pub same_read : (places : List Place) (actor : ℕ) (p q : Place) → slice_get places actor ≡ Some p → slice_get places actor ≡ Some q → p ≡ q
same_read places actor p q one other = cc

pub home_read : (homes : List Home) (i : ℕ) (h : Home) → i < length homes → h ≡ get_or homes i h → slice_get homes i ≡ Some h
home_read homes i h below read = slice_get-get_or homes i h below ∙ ap Some (sym read)

pub is_living : (homes : List Home) (i : ℕ) (h : Home) → slice_get homes i ≡ Some h → h.gone ≡ false → is_some (living_at homes i) ≡ true
is_living homes i h here living = ap (λ o. is_some (option_and_then if_living o)) here ∙ ap (λ b. is_some (cond b None (Some h))) living
