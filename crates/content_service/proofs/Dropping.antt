-- What a broker held and holds no more it has dropped.
use Rattle.std.proofs.Common.{◌≡◌, ℕ, suc, ◌==◌, [], ◌∷◌, Bool, true, false, ◌||◌, cond, Contains, Some, None, unwrap_or, refl, sym, ap, ◌∙◌, arith, true≢false}
use Rattle.fl_digest.specs.declared.BlobRef.{BlobRef}
use Rattle.cache_node.proofs.Same.{same_true}
use Rattle.kvs_txn.specs.declared.txn.By.{By}
use Rattle.kvs_rules.specs.declared.events.KvsEvent.TheVariants as event
use Rattle.kvs_rules.specs.Log.{Asked, Happened, Resumed, Log, Moment, asks_now, before_asked, is_asked}
use Rattle.kvs_rules.specs.Sequence.{latest, until}
use Rattle.kvs_rules.specs.Brokers.{drops_now, gets_now, held_from, holds}
use Rattle.kvs_rules.specs.Answers.{IsDroppedSince}
use Rattle.kvs_content.proofs.Lists.{and-left, and-right, same-number}

module _ (broker : ℕ) (r : BlobRef) where
  -- a moment at which the broker drops the reference
  drops-is : (m : Moment) → drops_now broker r m ≡ true → m ≡ Happened (event.Dropped broker r)
  drops-is (Happened (event.Dropped b x)) e =
      let at : broker ≡ b = same-number broker b (and-left (broker == b) _ e) in
      let named : r ≡ x = same_true r x (and-right (broker == b) _ e) in
      ap (λ c. Happened (event.Dropped c x)) (sym at) ∙ ap (λ y. Happened (event.Dropped broker y)) (sym named)
  drops-is (Asked by floors) e = absurd (true≢false (sym e))
  drops-is (Resumed number) e = absurd (true≢false (sym e))
  drops-is (Happened _) e = absurd (true≢false (sym e))

  further : (m : Moment) (xs : Log) → Contains xs (Happened (event.Dropped broker r)) → Contains (m ∷ xs) (Happened (event.Dropped broker r))
  further m xs c = (suc c.0, (let l = c.1 in omega arith), c.2)

  -- either the moment drops it, or it is held then
  stays : (m : Moment) → (g d : Bool) → gets_now broker r m ≡ g → drops_now broker r m ≡ d → d ≡ false → unwrap_or (held_from broker r m) true ≡ true
  stays m true d e f n = ap (λ t. unwrap_or (cond t (Some true) (cond (drops_now broker r m) (Some false) None)) true) e
  stays m false d e f n =
      ap (λ t. unwrap_or (cond t (Some true) (cond (drops_now broker r m) (Some false) None)) true) e ∙ ap (λ t. unwrap_or (cond t (Some false) None) true) (f ∙ n)

  dropped-among : (xs : Log) → latest (held_from broker r) true xs ≡ false → Contains xs (Happened (event.Dropped broker r))
  dropped-among [] e = absurd (true≢false e)
  dropped-among (m ∷ xs) e = by (λ f. dropped-among xs f) (drops_now broker r m) refl
    where
      by : (latest (held_from broker r) true xs ≡ false → Contains xs (Happened (event.Dropped broker r))) → (d : Bool) → drops_now broker r m ≡ d → Contains (m ∷ xs) (Happened (event.Dropped broker r))
      by rest true d = (0, omega arith, drops-is m d)
      by rest false d = further m xs (rest (ap (λ h. latest (held_from broker r) h xs) (sym (stays m (gets_now broker r m) false refl d refl)) ∙ e))

  -- the moment at which a command asks drops nothing
  asking-keeps : (by : By) (m : Moment) → asks_now by m ≡ true → (first : Bool) → unwrap_or (held_from broker r m) first ≡ first
  asking-keeps by (Asked other floors) e first = refl
  asking-keeps by (Resumed number) e first = absurd (true≢false (sym e))
  asking-keeps by (Happened x) e first = absurd (true≢false (sym e))

  since : (by : By) (xs : Log) (first : Bool) → is_asked by xs ≡ true → latest (held_from broker r) first (until (asks_now by) xs) ≡ true → latest (held_from broker r) first xs ≡ false → IsDroppedSince xs by broker r
  since by [] first asked was now = absurd (true≢false (sym asked))
  since by (m ∷ xs) first asked was now = at (λ f a w n. since by xs f a w n) (asks_now by m) refl
    where
      Rest : Type 0
      Rest = (f : Bool) → is_asked by xs ≡ true → latest (held_from broker r) f (until (asks_now by) xs) ≡ true → latest (held_from broker r) f xs ≡ false → IsDroppedSince xs by broker r

      at : Rest → (b : Bool) → asks_now by m ≡ b → IsDroppedSince (m ∷ xs) by broker r
      at rest true e =
          let held : first ≡ true = let h : latest (held_from broker r) first [] ≡ true = rw e at was in h in
          record {
            past = m ∷ [];
            later = xs;
            split = refl;
            asked = ap (λ b. b || false) e;
            dropped = dropped-among xs (ap (λ h. latest (held_from broker r) h xs) (sym (asking-keeps by m e first ∙ held)) ∙ now);
          }
      at rest false e =
          let behind : is_asked by xs ≡ true = rw e at asked in
          let d = rest (unwrap_or (held_from broker r m) first) behind (let w : latest (held_from broker r) first (m ∷ until (asks_now by) xs) ≡ true = rw e at was in w) now in
          record {
            past = m ∷ d.past;
            later = d.later;
            split = ap (λ l. m ∷ l) d.split;
            asked = ap (λ b. b || is_asked by d.past) e ∙ d.asked;
            dropped = d.dropped;
          }

-- what a broker held when a command asked and holds no more it has dropped since
pub dropped-since : (log : Log) (by : By) (broker : ℕ) (r : BlobRef) → is_asked by log ≡ true → holds (before_asked by log) broker r ≡ true → holds log broker r ≡ false → IsDroppedSince log by broker r
dropped-since log by broker r asked was now = since broker r by log false asked was now
