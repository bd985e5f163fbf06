-- What the events of a broker that gets and drops contents make of a log.
use Rattle.std.proofs.Common.{◌≡◌, ℕ, ◌==◌, List, [], ◌∷◌, ◌++◌, Bool, true, false, ◌||◌, ◌&&◌, cond, Option, Some, None, unwrap_or, map, refl, sym, ap, ◌∙◌, subst, true≢false}
use Rattle.std.specs.List.{AllByRecursion as Each, IsDistinct, list_any}
use Rattle.std.proofs.lemmas.List.Folds.{list_any-append}
use Rattle.fl_digest.specs.declared.BlobRef.{BlobRef}
use Rattle.fl_digest.specs.Reference.{same_reference}
use Rattle.cache_node.proofs.Same.{same_refl, same_true}
use Rattle.kvs_rules.specs.declared.events.KvsEvent.{KvsEvent}
use Rattle.kvs_rules.specs.declared.events.KvsEvent.TheVariants as event
use Rattle.kvs_rules.specs.Log.{Happened, Log}
use Rattle.kvs_rules.specs.Namespaces.{Setting}
use Rattle.kvs_rules.specs.Sequence.{latest}
use Rattle.kvs_rules.specs.Brokers.{IsLegalGetting, gets_now, has_got, held_from, holds}
use Rattle.kvs_rules.specs.Answers.{IsLegalAfter, IsLegalMoment}
use Rattle.kvs_rules.proofs.Sequences.{each_joined, latest_push}
use Rattle.kvs_content.specs.Node.{GetsOrDrops, dropping, getting}

latest-append : {A X : Type 0} (given : A → Option X) (first : X) (xs ys : List A) → latest given first (xs ++ ys) ≡ latest given (latest given first xs) ys
latest-append given first [] ys = refl
latest-append given first (x ∷ xs) ys = latest-append given (unwrap_or (given x) first) xs ys

happened-append : (xs ys : List KvsEvent) → map Happened (xs ++ ys) ≡ map Happened xs ++ map Happened ys
happened-append [] ys = refl
happened-append (x ∷ xs) ys = ap (λ l. Happened x ∷ l) (happened-append xs ys)

drop-held : (a s t h : Bool) → cond (a && t) false (unwrap_or (cond (a && s) (Some false) None) h) ≡ cond (a && (s || t)) false h
drop-held true true true h = refl
drop-held true true false h = refl
drop-held true false t h = refl
drop-held false s t h = refl

-- what a broker holds after another or the same one dropped these references
held-dropped : (broker : ℕ) (gone : List BlobRef) (b : ℕ) (x : BlobRef) (h : Bool)
    → latest (held_from b x) h (map Happened (dropping broker gone)) ≡ cond ((b == broker) && list_any (same_reference x) gone) false h
held-dropped broker [] b x h = by (b == broker)
  where
    by : (a : Bool) → h ≡ cond (a && false) false h
    by true = refl
    by false = refl
held-dropped broker (g ∷ gs) b x h =
    held-dropped broker gs b x (unwrap_or (cond ((b == broker) && same_reference x g) (Some false) None) h)
    ∙ drop-held (b == broker) (same_reference x g) (list_any (same_reference x) gs) h

none-got : (broker : ℕ) (gone : List BlobRef) (b : ℕ) (x : BlobRef) → has_got (map Happened (dropping broker gone)) b x ≡ false
none-got broker [] b x = refl
none-got broker (g ∷ gs) b x = none-got broker gs b x

-- whether a broker gets the reference
abbrev pub gets : ℕ → BlobRef → Bool → ℕ → BlobRef → Bool
gets broker r does b x = does && ((b == broker) && same_reference x r)

got-now : (broker : ℕ) (r : BlobRef) (does : Bool) (b : ℕ) (x : BlobRef) → has_got (map Happened (getting broker r does)) b x ≡ gets broker r does b x
got-now broker r true b x = by ((b == broker) && same_reference x r)
  where
    by : (t : Bool) → (t || false) ≡ t
    by true = refl
    by false = refl
got-now broker r false b x = refl

held-now : (broker : ℕ) (r : BlobRef) (does : Bool) (b : ℕ) (x : BlobRef) (h : Bool) → latest (held_from b x) h (map Happened (getting broker r does)) ≡ (gets broker r does b x || h)
held-now broker r true b x h = by ((b == broker) && same_reference x r)
  where
    by : (t : Bool) → unwrap_or (cond t (Some true) (cond false (Some false) None)) h ≡ (t || h)
    by true = refl
    by false = refl
held-now broker r false b x h = refl

-- the events of a broker that gets a reference, where it does, and drops others
abbrev pub coming : ℕ → BlobRef → Bool → List BlobRef → List KvsEvent
coming broker r does gone = getting broker r does ++ dropping broker gone

or-false : (a b : Bool) → (a || (b || false)) ≡ (a || b)
or-false true b = refl
or-false false true = refl
or-false false false = refl

pub got-after : (log : Log) (broker : ℕ) (r : BlobRef) (does : Bool) (gone : List BlobRef) (b : ℕ) (x : BlobRef)
    → has_got (log ++ map Happened (coming broker r does gone)) b x ≡ (has_got log b x || gets broker r does b x)
got-after log broker r does gone b x =
    list_any-append (gets_now b x) log (map Happened (coming broker r does gone))
    ∙ ap (λ t. has_got log b x || t) (ap (λ ms. has_got ms b x) (happened-append (getting broker r does) (dropping broker gone)) ∙ list_any-append (gets_now b x) (map Happened (getting broker r does)) (map Happened (dropping broker gone)))
    ∙ ap (λ t. has_got log b x || (has_got (map Happened (getting broker r does)) b x || t)) (none-got broker gone b x)
    ∙ or-false (has_got log b x) _
    ∙ ap (λ t. has_got log b x || t) (got-now broker r does b x)

pub held-after : (log : Log) (broker : ℕ) (r : BlobRef) (does : Bool) (gone : List BlobRef) (b : ℕ) (x : BlobRef)
    → holds (log ++ map Happened (coming broker r does gone)) b x ≡ cond ((b == broker) && list_any (same_reference x) gone) false (gets broker r does b x || holds log b x)
held-after log broker r does gone b x =
    latest-append (held_from b x) false log (map Happened (coming broker r does gone))
    ∙ ap (latest (held_from b x) (holds log b x)) (happened-append (getting broker r does) (dropping broker gone))
    ∙ latest-append (held_from b x) (holds log b x) (map Happened (getting broker r does)) (map Happened (dropping broker gone))
    ∙ ap (λ h. latest (held_from b x) h (map Happened (dropping broker gone))) (held-now broker r does b x (holds log b x))
    ∙ held-dropped broker gone b x (gets broker r does b x || holds log b x)

module _ (set : Setting) (broker : ℕ) where
  -- references, each once, that are held can be dropped one behind another
  pub drops-legal : (log : Log) (gone : List BlobRef) → IsDistinct same_reference gone → ((x : BlobRef) → list_any (same_reference x) gone ≡ true → holds log broker x ≡ true)
      → IsLegalAfter set log (map Happened (dropping broker gone))
  unfolding IsDistinct
  drops-legal log [] once there = tt
  drops-legal log (g ∷ gs) once there =
      (there g (ap (λ b. b || list_any (same_reference g) gs) (same_refl g)), drops-legal (log ++ Happened (event.Dropped broker g) ∷ []) gs once.1 still)
    where
      either-right : (a b : Bool) → b ≡ true → (a || b) ≡ true
      either-right true b h = refl
      either-right false b h = h

      none-of : (ks : List BlobRef) → Each (λ y. same_reference g y ≡ false) ks → list_any (same_reference g) ks ≡ false
      none-of [] all = refl
      none-of (k ∷ ks) all = ap (λ b. b || list_any (same_reference g) ks) all.0 ∙ none-of ks all.1

      pick : (x : BlobRef) (s : Bool) → same_reference x g ≡ s → list_any (same_reference x) gs ≡ true → holds log broker x ≡ true → unwrap_or (cond ((broker == broker) && s) (Some false) None) (holds log broker x) ≡ true
      pick x true e h held = absurd (true≢false (sym h ∙ ap (λ y. list_any (same_reference y) gs) (same_true x g e) ∙ none-of gs once.0))
      pick x false e h held = by (broker == broker)
        where
          by : (a : Bool) → unwrap_or (cond (a && false) (Some false) None) (holds log broker x) ≡ true
          by true = held
          by false = held

      still : (x : BlobRef) → list_any (same_reference x) gs ≡ true → holds (log ++ Happened (event.Dropped broker g) ∷ []) broker x ≡ true
      still x h =
          latest_push (held_from broker x) false log (Happened (event.Dropped broker g))
          ∙ pick x (same_reference x g) refl h (there x (either-right (same_reference x g) _ h))

  pub gets-legal : (log : Log) (r : BlobRef) (does : Bool) → (does ≡ true → IsLegalGetting set log broker r) → IsLegalAfter set log (map Happened (getting broker r does))
  gets-legal log r true may = (may refl, tt)
  gets-legal log r false may = tt

  pub comes-legal : (log : Log) (r : BlobRef) (does : Bool) (gone : List BlobRef) → (does ≡ true → IsLegalGetting set log broker r) → IsDistinct same_reference gone
      → ((x : BlobRef) → list_any (same_reference x) gone ≡ true → (gets broker r does broker x || holds log broker x) ≡ true)
      → IsLegalAfter set log (map Happened (coming broker r does gone))
  comes-legal log r does gone may once there =
      subst (IsLegalAfter set log) (sym (happened-append (getting broker r does) (dropping broker gone)))
      (each_joined (IsLegalMoment set) log (map Happened (getting broker r does)) (map Happened (dropping broker gone)) (gets-legal log r does may)
      (drops-legal (log ++ map Happened (getting broker r does)) gone once (λ x h. held x ∙ there x h)))
    where
      held : (x : BlobRef) → holds (log ++ map Happened (getting broker r does)) broker x ≡ (gets broker r does broker x || holds log broker x)
      held x = latest-append (held_from broker x) false log (map Happened (getting broker r does)) ∙ held-now broker r does broker x (holds log broker x)

-- all of them come to the broker
pub drops-come : (broker : ℕ) (gone : List BlobRef) → Each (GetsOrDrops broker) (dropping broker gone)
drops-come broker [] = tt
drops-come broker (g ∷ gs) = (refl, drops-come broker gs)

pub comes : (broker : ℕ) (r : BlobRef) (does : Bool) (gone : List BlobRef) → Each (GetsOrDrops broker) (coming broker r does gone)
comes broker r true gone = (refl, drops-come broker gone)
comes broker r false gone = drops-come broker gone
