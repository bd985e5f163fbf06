-- Who asks of a service of keys at rest comes to rank 0 alone, behind all that wait.
use Rattle.std.proofs.Common.{◌≡◌, ◌≢◌, List, [], ◌∷◌, ◌++◌, Bool, true, false, ◌||◌, refl, sym, ap, ◌∙◌, subst, true≢false}
use Rattle.std.specs.Prelude.{ℕ, IsSome, IsTrue}
use Rattle.kvs_txn.specs.declared.txn.By.{By}
use Rattle.kvs_model.specs.Store.{Name}
use Rattle.kvs_rules.specs.Landings.{IsMember}
use Rattle.kvs_rules.specs.Log.{Log, Moment, Asked, IsPending, asks_now, before_asked, is_asked}
use Rattle.kvs_rules.specs.Namespaces.{Setting}
use Rattle.kvs_rules.proofs.Sequences.{until-append}
use Rattle.kvs_rules.proofs.Stores.{any_push}
use Rattle.kvs_requests.specs.declared.rows.Row.{Row}
use Rattle.kvs_requests.proofs.Later.{differs}
use Rattle.kvs_keys.specs.Agrees.{Agrees}
use Rattle.kvs_keys.specs.Sound.{IsSound}
use Rattle.kvs_keys.specs.Steps.{IsStill}
use Rattle.kvs_keys.specs.Turns.{ComesLast, HasItsTurn, InTurn, IsComing}
use Rattle.kvs_keys.specs.Value.{KeysValue}
use Rattle.kvs_keys.proofs.Asking.{asked-now, asks-itself, until-none}
use Rattle.kvs_keys.proofs.Resting.{member-met, nobody-comes}
use Rattle.kvs_keys.proofs.Turns.{pending-before, pushed-alone, until-none-of}

module _ {v : KeysValue} (s : IsSound v) (still : IsStill v) {set₀ : Setting} {log : Log} (a : Agrees v set₀ log) (settled : IsTrue set₀.settled) (row : Row) (floors : Name → ℕ) (some : IsSome (set₀.asks row.by)) (fresh : is_asked row.by log ≡ false) where
  abbrev m : Moment
  m = Asked row.by floors

  other-than : (by : By) → is_asked by log ≡ true → by ≢ row.by
  other-than by asked e = true≢false (sym asked ∙ ap (λ b. is_asked b log) e ∙ fresh)

  was : (space : Name) (fence : List ℕ) (count : ℕ) (by : By) → by ≢ row.by → IsMember set₀ (log ++ Asked row.by floors ∷ []) space fence count by → IsMember set₀ log space fence count by
  was space fence count by ne h = (pending-before by log m (differs by row.by ne) h.0, h.1)

  kept : (by : By) → is_asked by log ≡ true → before_asked by (log ++ Asked row.by floors ∷ []) ≡ before_asked by log
  kept by e = until-append (asks_now by) log (m ∷ []) e

  -- who waited when a command asked has asked
  asked-then : (by earlier : By) → is_asked earlier (before_asked by log) ≡ true → is_asked earlier log ≡ true
  asked-then by earlier e = at (is_asked earlier log) refl
    where
      at : (b : Bool) → is_asked earlier log ≡ b → b ≡ true
      at true q = refl
      at false q = absurd (true≢false (sym e ∙ until-none-of (asks_now earlier) (asks_now by) log q))

  turn-kept : (by : By) → HasItsTurn set₀ log by → HasItsTurn set₀ (log ++ Asked row.by floors ∷ []) by
  turn-kept by o = record {
    asked = any_push (asks_now by) log m ∙ ap (λ b. b || asks_now by m) o.asked;
    unrivalled = λ space earlier fence count other here there before.
        let then : IsPending earlier (before_asked by log) = subst (IsPending earlier) (kept by o.asked) before in
        o.unrivalled space earlier fence count other (was space fence count by (other-than by o.asked) here)
        (was space fence other earlier (other-than earlier (asked-then by earlier then.waits.asked)) there) then;
  }

  alone : (by : By) → IsComing (v.rows ++ row ∷ []) by → by ≡ row.by
  alone = pushed-alone v.rows row (nobody-comes v s still)

  last : ComesLast set₀ (log ++ Asked row.by floors ∷ []) v.spaces (v.rows ++ row ∷ []) row.by
  last = record {
    asked = asked-now s a row.by floors some fresh;
    alone = alone;
    met = λ other space fence count ne h.
        let there = was space fence count other ne h in
        (subst (IsPending other) (sym (until-none (asks_now row.by) log m fresh (asks-itself s a row.by floors some fresh))) there.0, member-met v s still a other space fence count there);
  }

  pub asked-turns : InTurn a.entered set₀ (log ++ Asked row.by floors ∷ []) v.spaces (v.rows ++ row ∷ [])
  asked-turns = record {
    let_in = λ by h. turn-kept by ((a.turns settled).let_in by h);
    coming = λ by c. subst (ComesLast set₀ (log ++ Asked row.by floors ∷ []) v.spaces (v.rows ++ row ∷ [])) (sym (alone by c)) last;
  }
