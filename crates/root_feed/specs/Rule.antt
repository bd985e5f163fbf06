-- The rule of the words: what they, and all seats, keep at each step.
use Rattle.std.specs.Prelude.{◌≡◌, ℕ, ◌+◌, ◌<◌, ◌≤◌, true, false, List, [], ◌∷◌, ◌++◌, length, slice_index}
use mathlib.Core.Option.{some}
use lib.ListN.{get_elem?}
use Rattle.atomic_table.specs.Table.{State}
use Rattle.root_feed.specs.declared.rule.Load.{Load}
use Rattle.root_feed.specs.declared.rule.View.{View}
use Rattle.root_feed.specs.Numbers.{IsWithin, AreRising, greater, load_of}

-- a seat that only knows what was seen
abbrev pub reader : List ℕ → View
reader seen = record {
  seen = seen;
  loads = [];
  is_herald = false;
  broker = 0;
  number = 0;
  is_maker = false;
  made = 0;
}

-- the seat that makes the heralds, after so many
abbrev pub maker_of : ℕ → View
maker_of made = record {
  seen = [];
  loads = [];
  is_herald = false;
  broker = 0;
  number = 0;
  is_maker = true;
  made = made;
}

abbrev pub first_view : View
first_view = maker_of 0

-- a herald that has stored nothing
abbrev pub heralded : ℕ → List ℕ → View
heralded broker seen = record {
  seen = seen;
  loads = [];
  is_herald = true;
  broker = broker;
  number = 0;
  is_maker = false;
  made = 0;
}

abbrev pub next_made : View → View
next_made v = record v { made = v.made + 1 }

-- the first view with what the second has seen
abbrev pub joined : View → View → View
joined v w = record v { seen = greater v.seen w.seen }

-- the view after a load
abbrev pub loaded : View → ℕ → ℕ → List ℕ → View
loaded v word found seen = record v { seen = seen; loads = v.loads ++ load_of word found ∷ [] }

-- the herald's view after a store
abbrev pub stored : View → ℕ → List ℕ → View
stored v number seen = record v { seen = seen; number = number }

-- a load adds itself to the view's loads, and a herald that loads its own word finds its number
abbrev pub LoadsWord : ℕ → View → ℕ → View → Type 0
LoadsWord word v found w =
    (slice_index w.seen word ≡ found) × IsWithin v.seen w.seen
    × (w ≡ loaded v word found w.seen) × AreRising w.loads
    × (v.is_herald ≡ true → v.broker ≡ word → found ≡ v.number)

-- a store gives the herald its new number
abbrev pub StoresWord : ℕ → View → ℕ → View → Type 0
StoresWord word v number w = (slice_index w.seen word ≡ number)
    × IsWithin v.seen w.seen × (w ≡ stored v number w.seen)

-- what a seat knows is so. The owner of a broker's word is the seat of its herald
pub record Fits (words : List ℕ) (owner : ℕ → ℕ) (maker made seat : ℕ) (v : View) : Type 0 where
  pub seen : IsWithin v.seen words
  pub known : (i : ℕ) (l : Load) → get_elem? v.loads i ≡ some l
      → l.number ≤ slice_index v.seen l.broker
  pub rising : AreRising v.loads
  pub herald : v.is_herald ≡ true
      → (owner v.broker ≡ seat) × (v.broker < made) × (slice_index words v.broker ≡ v.number)
  pub chief : v.is_maker ≡ true → (maker ≡ seat) × (v.made ≡ made)

-- so many words, each with one herald at most, and seats that know what is so
pub record Keeps (count : ℕ) (s : State (Unit {0}) View) : Type 0 where
  pub owner : ℕ → ℕ
  pub maker : ℕ
  pub made : ℕ
  pub wide : length s.words ≡ count
  pub rest : (broker : ℕ) → made ≤ broker → slice_index s.words broker ≡ 0
  pub each : (seat : ℕ) (v : View) → get_elem? s.views seat ≡ some v
      → Fits s.words owner maker made seat v
