use Rattle.std.proofs.Common.{◌≡◌, List, map, take, Some}
use Rattle.serde_json.specs.View.{items_view}
use Rattle.job_spec.specs.declared.spec.Depend.{Depend}
use Rattle.manager_rules.specs.Jobs.{description_of, texts_of}
use Rattle.job_texts.specs.Listed.{AreSmall}
use Rattle.job_texts.proofs.needs.described.Given as goal

abbrev pub invariant-loop-item : goal.invariant-loop-item
invariant-loop-item l = (listed : List Depend) → AreSmall listed → texts_of (items_view l.items) ≡ Some (map description_of listed) → l.needs ≡ take l.item-index listed
