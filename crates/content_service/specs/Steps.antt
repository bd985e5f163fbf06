-- Which steps a content service can make, and what each does.
use Rattle.std.specs.Prelude.{◌≡◌, ℕ, ◌<◌, ◌&&◌, nat_lt, List, [], ◌∷◌, Bool, true, false}
use Rattle.std.specs.List.{list_any}
use Rattle.kvs_txn.specs.declared.txn.By.{By}
use Rattle.kvs_rules.specs.declared.events.KvsStep.{KvsStep}
use Rattle.kvs_rules.specs.declared.events.KvsStep.TheVariants as kvs
use Rattle.kvs_content.specs.Messages.{deliveries_left}
use Rattle.kvs_content.specs.Steps.{can_deliver}
use Rattle.kvs_content.specs.Value.{ContentValue, node_at, size_of}
use Rattle.content_service.specs.Rows.{all_services, is_held, may_serve}
use Rattle.content_service.specs.Value.{ContentServiceValue}

-- whether there are none
abbrev pub are_none : {X : Type 0} → List X → Bool
are_none [] = true
are_none (x ∷ xs) = false

-- whether the broker has nothing dirty
abbrev pub is_flushed : ContentValue → ℕ → Bool
is_flushed v broker = are_none (node_at v broker).cache.dirty

-- whether the step can be made: a message is on the link, or a request at the broker has just come
-- or is a flush there that nothing dirty keeps waiting; nothing lands
abbrev pub can_step : ContentServiceValue → KvsStep → Bool
can_step v (kvs.Deliver from to) = can_deliver v.content from to
can_step v (kvs.Serve broker) =
    nat_lt broker v.size && list_any (may_serve broker (is_flushed v.content broker)) v.rows
can_step v _ = false

-- whether the command's answer waits to be taken
abbrev pub can_take : ContentServiceValue → By → Bool
can_take v by = list_any (is_held by) v.rows

-- no step can be made, and no answer waits to be taken
pub record IsStill (v : ContentServiceValue) : Type 0 where
  pub steps : (step : KvsStep) → can_step v step ≡ false
  pub answers : (by : By) → can_take v by ≡ false

-- how many deliveries are left, at most, where no request is served
abbrev pub deliveries_of : ContentServiceValue → ℕ
deliveries_of v = deliveries_left (size_of v.content) v.content.offers v.content.wants

-- each service leaves fewer of them, and each delivery as many of them and fewer deliveries: so
-- every run of steps ends
abbrev pub DoesStep : KvsStep → ContentServiceValue → ContentServiceValue → Type 0
DoesStep (kvs.Deliver from to) old new =
    (deliveries_of new < deliveries_of old) × (all_services new.rows ≡ all_services old.rows)
DoesStep (kvs.Serve broker) old new = all_services new.rows < all_services old.rows
DoesStep _ old new = ⊥
