-- What a legal chronicle says of `primary`.
use Rattle.std.proofs.Common.{◌≡◌, ◌∙◌, List, ap, ap₂, sym, length}
use Rattle.std.specs.Prelude.{ℕ, IsSome, None, Some, is_some}
use Rattle.kvs_txn.specs.declared.txn.Group.{Group}
use Rattle.kvs_txn.specs.declared.txn.Scope.TheVariants as scope
use Rattle.kvs_model.specs.Store.{Store}
use Rattle.kvs_model.specs.History.{after, first_store}
use Rattle.kvs_rules.specs.Namespaces.{Base, landings, newest_store, primary}
use Rattle.answers.specs.declared.chronicle.Entry.{Entry}
use Rattle.answers.specs.Chronicle.{Setup, top}
use Rattle.answers.specs.Legal.{IsLegal}
use Rattle.answers.specs.Services.{base_of, log_of, setting_of}
use Rattle.answers.proofs.JobLogs.{begins_anew}
use Rattle.answers.proofs.Services.{service_legal}
use Rattle.summaries.specs.Roots.{store_left}
use Rattle.summaries.proofs.Primary.{left, newest_left}

begins_at_0 : (set : Setup) → set.base ≡ None → (base_of set).number ≡ 0
begins_at_0 set anew = ap (λ (b : Base). b.number) (begins_anew set anew)

-- the store of `primary` at the end of a legal chronicle
pub store_at : (set : Setup) → set.base ≡ None → (c : List Entry) → IsLegal set c → Store
store_at set anew c legal = (left (setting_of set) (begins_at_0 set anew) (log_of set.work top c) (service_legal set c legal)).store

pub left_at : (set : Setup) (anew : set.base ≡ None) (c : List Entry) (legal : IsLegal set c) (grant : List ℕ) (ls : List (List Group)) → set.grant ≡ grant → ls ≡ landings (log_of set.work top c) primary → store_left grant ls ≡ Some (store_at set anew c legal)
unfolding store_at
left_at set anew c legal grant ls is found =
    ap₂ (λ g l. after scope.Primary l (length l) (first_store g)) (sym is) found
    ∙ ap (λ (b : Base). after scope.Primary (landings (log_of set.work top c) primary) (length (landings (log_of set.work top c) primary)) b.store) (sym (begins_anew set anew))
    ∙ (left (setting_of set) (begins_at_0 set anew) (log_of set.work top c) (service_legal set c legal)).stands

pub newest_at : (set : Setup) (anew : set.base ≡ None) (c : List Entry) (legal : IsLegal set c) → newest_store (setting_of set) (log_of set.work top c) primary ≡ Some (store_at set anew c legal)
unfolding store_at
newest_at set anew c legal = newest_left (setting_of set) (begins_at_0 set anew) (log_of set.work top c) (service_legal set c legal)

pub some_left : (set : Setup) (anew : set.base ≡ None) (c : List Entry) (legal : IsLegal set c) (grant : List ℕ) (ls : List (List Group)) → set.grant ≡ grant → ls ≡ landings (log_of set.work top c) primary → IsSome (store_left grant ls)
some_left set anew c legal grant ls is found = ap is_some (left_at set anew c legal grant ls is found)
