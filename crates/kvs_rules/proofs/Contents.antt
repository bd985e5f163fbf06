-- A content of an instance stays one.
use Rattle.std.proofs.Common.{◌≡◌, inl, inr, ℕ, List, ◌++◌, Bool, true, false, ◌||◌, flat_map, refl, sym, ap, ◌∙◌, append_assoc, true≢false}
use Rattle.std.specs.List.{list_any}
use Rattle.std.proofs.lemmas.List.Concat.{flat_map-append}
use Rattle.std.proofs.lemmas.List.Elements.{filter_map-append}
use Rattle.std.proofs.lemmas.List.Folds.{list_any-append}
use Rattle.kvs_txn.specs.declared.txn.Group.{Group}
use Rattle.kvs_model.specs.Store.{Name, Store}
use Rattle.kvs_rules.specs.Brokers.{IsContent}
use Rattle.kvs_rules.specs.Log.{Log, asks_now}
use Rattle.kvs_rules.specs.Namespaces.{IsStoreIn, Setting, groups_landed, landings}
use Rattle.kvs_rules.proofs.Logs.{opened_stays}

either_left : (a b : Bool) → a ≡ true → (a || b) ≡ true
either_left true b h = refl
either_left false b h = absurd (true≢false (sym h))

store_in_stays : (set : Setting) (log more : Log) (space : Name) (st : Store) → IsStoreIn set log space st → IsStoreIn set (log ++ more) space st
store_in_stays set log more space st h =
    let each : List Group → List Group = λ groups. groups in
    let later : List Group = flat_map each (landings more space) in
    record {
      opened = opened_stays log more space h.opened;
      before = h.before;
      behind = h.behind ++ later;
      split = ap (flat_map each) (filter_map-append (groups_landed space) log more)
          ∙ flat_map-append each (landings log space) (landings more space)
          ∙ ap (λ (groups : List Group). groups ++ later) h.split
          ∙ append_assoc h.before h.behind later;
      made = h.made;
    }

pub content_stays : (set : Setting) (log more : Log) (bytes : List ℕ) → IsContent set log bytes → IsContent set (log ++ more) bytes
content_stays set log more bytes (inl h) = inl (record {
  by = h.by;
  asked = list_any-append (asks_now h.by) log more ∙ either_left (list_any (asks_now h.by) log) (list_any (asks_now h.by) more) h.asked;
  request = h.request;
  made = h.made;
  among = h.among;
})
content_stays set log more bytes (inr h) = inr (record { space = h.space; st = h.st; stands = store_in_stays set log more h.space h.st h.stands; among = h.among })
