-- The clash that ends a run: two byte strings of one reference, at a store that the run needs next.
use Rattle.std.specs.Prelude.{◌⊎◌, ℕ, List, [], IsTrue}
use Rattle.fl_digest.specs.declared.BlobRef.{BlobRef}
use Rattle.kvs_rules.specs.Clashes.{IsClashWith}
use Rattle.resource_set.specs.declared.node.Resources.{Resources}
use Rattle.instance_rules.specs.Clashes.{IsClashIn}
use Rattle.answers.specs.Chronicle.{Setup}
use Rattle.answers.specs.Jobs.{instance_of, log_in}
use Rattle.answers.specs.Services.{setting_of}
use Rattle.answers.specs.declared.chronicle.Entry.{Entry}
use Rattle.hierarchy.specs.Births.{lives}
use Rattle.hierarchy.specs.Legal.{IsLegalBirth}
use Rattle.hierarchy.specs.Own.{child_setup, own_of, setup_in}

-- a living instance meets it at a store that it needs next
pub record IsClashOf (set : Setup) (c : List Entry)
    (reference : BlobRef) (kept offered : List ℕ) : Type 0 where
  pub instance : ℕ
  pub living : IsTrue (lives c instance)
  pub clash : IsClashIn (instance_of (setup_in set c instance))
      (log_in (setup_in set c instance).work (own_of set c instance)) reference kept offered

-- the first store of a child whose birth is due meets it
pub record IsClashAtBirth (set : Setup) (c : List Entry)
    (reference : BlobRef) (kept offered : List ℕ) : Type 0 where
  pub child : ℕ
  pub parent : ℕ
  pub job : ℕ
  pub label : List ℕ
  pub second : ℕ
  pub grant : Resources
  pub due : IsLegalBirth set c child parent job label second grant
  pub clash : let inside : Setup = child_setup set (record {
    child = child;
    parent = parent;
    job = job;
    label = label;
    second = second;
    grant = grant;
  }) in IsClashWith (setting_of inside) [] (setting_of inside).base.store reference kept offered

-- the run meets it
abbrev pub IsRunClash : Setup → List Entry → BlobRef → List ℕ → List ℕ → Type 0
IsRunClash set c reference kept offered = IsClashOf set c reference kept offered
    ⊎ IsClashAtBirth set c reference kept offered
