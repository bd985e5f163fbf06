-- Descriptions of dependencies as JSON values.
use Rattle.std.proofs.Common.{◌≡◌, ◌||◌, ℕ, List, [], ◌∷◌, map, false, refl, ap}
use Rattle.std.specs.Prelude.{codes}
use Rattle.serde_json.specs.Data.{Data, item, no_members, object, string}
use Rattle.serde_json.specs.View.{items_of}
use Rattle.serde_json.specs.Written.{has_float, items_have_float}
use Rattle.job_spec.specs.declared.spec.Depend.{Depend}
use Rattle.manager_rules.specs.Jobs.{description_of}
use Rattle.manager_rules.specs.Deeds.{number_member}
use Rattle.manager_rules.specs.Posts.{depends_member, described}

abbrev pub described_one : Depend → Data
described_one need = string (description_of need)

pub all_described : (needs : List Depend) → items_of (map described_one needs) ≡ described needs
all_described [] = refl
all_described (need ∷ needs) = ap (item (described_one need)) (all_described needs)

no-floats-in : (needs : List Depend) → items_have_float (described needs) ≡ false
no-floats-in [] = refl
no-floats-in (need ∷ needs) = no-floats-in needs

-- what a submission tells has no fraction
pub no_floats : (needs : List Depend) (urgency userid : ℕ) →
    has_float (object (depends_member needs (number_member (codes "flags") 0 (number_member (codes "urgency") urgency (number_member (codes "userid") userid (number_member (codes "version") 1 no_members)))))) ≡ false
no_floats [] urgency userid = refl
no_floats (need ∷ needs) urgency userid = ap (λ b. b || false) (no-floats-in (need ∷ needs))
