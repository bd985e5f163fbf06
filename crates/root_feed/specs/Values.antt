-- What callers see of a feed's passes and heralds, and of a feed that has no name yet.
use Rattle.std.specs.Prelude.{ℕ, zero, suc, List, [], ◌∷◌, ◌++◌}
use Rattle.atomic_table.specs.Seated.{TableId}
use Rattle.root_feed.specs.declared.rule.Load.{Load}

-- a pass: its broker, the number seen of each broker's word, and its loads in order
pub record PassValue : Type 0 where
  pub broker : ℕ
  pub seen : List ℕ
  pub loads : List Load

-- a herald: its broker, the number in that broker's word, the number seen of each word, and its
-- loads in order
pub record HeraldValue : Type 0 where
  pub broker : ℕ
  pub number : ℕ
  pub seen : List ℕ
  pub loads : List Load

-- words without a name: which they are, how many brokers they are for, and the broker of each pass
pub record BlankValue : Type 0 where
  pub table : TableId
  pub brokers : ℕ
  pub at : List ℕ

abbrev pub new_pass : ℕ → PassValue
new_pass broker = record { broker = broker; seen = []; loads = [] }

abbrev pub new_herald : ℕ → HeraldValue
new_herald broker = record { broker = broker; number = 0; seen = []; loads = [] }

-- a herald for each broker, in order
abbrev pub new_heralds : ℕ → List HeraldValue
new_heralds zero = []
new_heralds (suc brokers) = new_heralds brokers ++ new_herald brokers ∷ []
