-- A want is asked on, and what was found is handed down.
use Rattle.std.proofs.Common.{◌≡◌, ℕ, List, [], ◌∷◌, ◌++◌, map, ◌+◌, ◌<◌, true, Option, Some, None, option_map, refl, sym, subst, arith}
use Rattle.std.specs.Prelude.{IfSome}
use Rattle.fl_digest.specs.declared.BlobRef.{BlobRef}
use Rattle.kvs_txn.specs.declared.txn.By.{By}
use Rattle.kvs_rules.specs.declared.events.KvsEvent.{KvsEvent}
use Rattle.kvs_rules.specs.Log.{Happened, Log, before_asked}
use Rattle.kvs_rules.specs.Namespaces.{Request, Setting}
use Rattle.kvs_rules.specs.Brokers.{has_got, parent}
use Rattle.kvs_rules.specs.Answers.{IsStoredAt}
use Rattle.kvs_content.specs.declared.wants.Gift.{Gift}
use Rattle.kvs_content.specs.declared.wants.WantStage.{WantStage}
use Rattle.kvs_content.specs.declared.wants.WantStage.TheVariants as wanted
use Rattle.kvs_content.specs.Agrees.{Follows, GiftAgrees, IsFound, IsFrom, MayTell, WantAgrees}
use Rattle.kvs_content.specs.Messages.{IsAbove, falls_on, link_now, rises_on, want_left, want_of}
use Rattle.kvs_content.specs.Sound.{IsWantNamed, IsWantPlaced, IsWantSame}
use Rattle.kvs_content.specs.Steps.{AreAlike}
use Rattle.kvs_content.specs.Value.{ContentValue, size_of}
use Rattle.kvs_content.proofs.Finding.{may-tell, missing-of}
use Rattle.kvs_content.proofs.Later.{want-later}
use Rattle.kvs_content.proofs.Lists.{and-left, and-right, same-number}
use Rattle.kvs_content.proofs.Resting.{parent-below}
use Rattle.kvs_content.proofs.Wanting.{put-want-follows, with-wants}
use Rattle.kvs_content.proofs.Ways.{above-le, climbed}

-- where a message on a link goes
pub rises-to : (fanout from to child : ℕ) → rises_on fanout from to child ≡ true → to ≡ parent fanout child
rises-to fanout from to child h = same-number to (parent fanout child) (and-right _ _ h)

pub falls-to : (fanout from to child : ℕ) → falls_on fanout from to child ≡ true → to ≡ child
falls-to fanout from to child h = same-number to child (and-left _ _ h)

-- a want that is asked on, or turned back, comes to fewer brokers
pub asked-left : (fanout size child at : ℕ) → 0 < child → at ≡ parent fanout child → (stage : WantStage) → want_left size (link_now child at stage) stage < size + child
asked-left fanout size child at below up wanted.Rising = let less = parent-below fanout child below in omega (arith, less, up)
asked-left fanout size child at below up (wanted.Falling gift) = omega (arith, below)

module _ (set : Setting) (log : Log) (fanout : ℕ) (by : By) (r : BlobRef) where
  -- what a broker found agrees for the broker below it
  found-gift : (child at : ℕ) → at ≡ parent fanout child → (request : Request) (gift : Option Gift) → IsFound set log r at (wanted.Falling gift)
      → (IsStoredAt set (before_asked by log) request.broker r → has_got log 0 r ≡ true) → GiftAgrees set log fanout child by request r gift
  found-gift child at up request (Some gift) found kept = (found.0, λ clean. subst (λ b. has_got log b r ≡ true) up (found.1 clean))
  found-gift child at up request None found kept = missing-of set log by request r found.1 kept

  pub asked-agrees : (broker child at : ℕ) → at ≡ parent fanout child → (stage : WantStage)
      → WantAgrees set log fanout (record { by = by; broker = broker; child = child; reference = r; stage = wanted.Rising }) → IsFound set log r at stage
      → WantAgrees set log fanout (record { by = by; broker = broker; child = link_now child at stage; reference = r; stage = stage })
  asked-agrees broker child at up wanted.Rising h found = record { loading = h.loading; staged = h.staged }
  asked-agrees broker child at up (wanted.Falling gift) h found = record { loading = h.loading; staged = found-gift child at up h.loading.request gift found h.staged }

  -- what a broker keeps or not agrees for the next one below it
  pub gift-passed : (at next : ℕ) → at ≡ parent fanout next → (request : Request) (gift : Option Gift) → GiftAgrees set log fanout at by request r gift → IfSome gift (IsFrom log at r)
      → GiftAgrees set log fanout next by request r gift
  gift-passed at next up request (Some gift) g from = (g.0, λ clean. subst (λ b. has_got log b r ≡ true) up (from clean))
  gift-passed at next up request None g from = g

-- what came down to a broker agrees for the next one below it later
pub handed-agrees : (set : Setting) (log more : Log) (fanout : ℕ) (by : By) (r : BlobRef) (broker at next : ℕ) → at ≡ parent fanout next → (gift : Option Gift)
    → WantAgrees set log fanout (record { by = by; broker = broker; child = at; reference = r; stage = wanted.Falling gift }) → IfSome gift (IsFrom (log ++ more) at r)
    → WantAgrees set (log ++ more) fanout (record { by = by; broker = broker; child = next; reference = r; stage = wanted.Falling gift })
handed-agrees set log more fanout by r broker at next up gift h from =
    let later = want-later log more set fanout _ h in
    record { loading = later.loading; staged = gift-passed set (log ++ more) fanout by r at next up later.loading.request gift later.staged from }

-- and the command may be told it
pub handed-told : (set : Setting) (log more : Log) (fanout : ℕ) (by : By) (r : BlobRef) (broker at : ℕ) (gift : Option Gift)
    → WantAgrees set log fanout (record { by = by; broker = broker; child = at; reference = r; stage = wanted.Falling gift }) → MayTell set (log ++ more) by (option_map (λ g. g.bytes) gift)
handed-told set log more fanout by r broker at gift h =
    let later = want-later log more set fanout _ h in
    may-tell set (log ++ more) fanout at by broker r later.loading gift later.staged

module _ (v u : ContentValue) (alike : AreAlike v u) (by : By) (r : BlobRef) (broker : ℕ) where
  -- a want that is asked on, or turned back, is at its place
  pub asked-placed : (child at : ℕ) → 0 < child → at ≡ parent v.fanout child → broker < size_of v → IsAbove v.fanout child broker
      → (stage : WantStage) → (stage ≡ wanted.Rising → 0 < at) → IsWantNamed r stage → IsWantSame u.store r stage → IsWantPlaced u (want_of by broker (link_now child at stage) r stage)
  asked-placed child at below up within way wanted.Rising rises named same = record {
    below = rises refl;
    within = subst (λ n. broker < n) (sym alike.size) within;
    way = subst (λ f. IsAbove f at broker) (sym alike.fanout) (subst (λ k. IsAbove v.fanout k broker) (sym up) (climbed v.fanout child broker way));
    named = named;
    same = same;
  }
  asked-placed child at below up within way (wanted.Falling gift) rises named same = record {
    below = below;
    within = subst (λ n. broker < n) (sym alike.size) within;
    way = subst (λ f. IsAbove f child broker) (sym alike.fanout) way;
    named = named;
    same = same;
  }

  module _ (events : List KvsEvent) (set : Setting) (log : Log) (f : Follows v u events set log) where
    -- and agrees
    pub ask-follows : (child at : ℕ) → at ≡ parent v.fanout child → (stage : WantStage) → WantAgrees set log v.fanout (want_of by broker child r wanted.Rising) → IsFound set (log ++ map Happened events) r at stage
        → Follows v (with-wants u (u.wants ++ want_of by broker (link_now child at stage) r stage ∷ [])) events set log
    ask-follows child at up stage h found =
        put-want-follows v u (want_of by broker (link_now child at stage) r stage) events set log f
        (subst (λ fanout. WantAgrees set (log ++ map Happened events) fanout (want_of by broker (link_now child at stage) r stage)) (sym alike.fanout)
        (asked-agrees set (log ++ map Happened events) v.fanout by r broker child at up stage (want-later log (map Happened events) set v.fanout (want_of by broker child r wanted.Rising) h) found))

    -- what came down is handed on
    pub hand-follows : (at next : ℕ) → at ≡ parent v.fanout next → (gift : Option Gift) → WantAgrees set log v.fanout (want_of by broker at r (wanted.Falling gift)) → IfSome gift (IsFrom (log ++ map Happened events) at r)
        → Follows v (with-wants u (u.wants ++ want_of by broker next r (wanted.Falling gift) ∷ [])) events set log
    hand-follows at next up gift h from =
        put-want-follows v u (want_of by broker next r (wanted.Falling gift)) events set log f
        (subst (λ fanout. WantAgrees set (log ++ map Happened events) fanout (want_of by broker next r (wanted.Falling gift))) (sym alike.fanout)
        (handed-agrees set log (map Happened events) v.fanout by r broker at next up gift h from))

    -- a load comes to wait
    pub load-follows : WantAgrees set (log ++ map Happened events) v.fanout (want_of by broker broker r wanted.Rising) → Follows v (with-wants u (u.wants ++ want_of by broker broker r wanted.Rising ∷ [])) events set log
    load-follows h =
        put-want-follows v u (want_of by broker broker r wanted.Rising) events set log f
        (subst (λ fanout. WantAgrees set (log ++ map Happened events) fanout (want_of by broker broker r wanted.Rising)) (sym alike.fanout) h)

-- a broker on the way down to another one is one of them
pub on-the-way : (v : ContentValue) (at broker : ℕ) → IsAbove v.fanout at broker → broker < size_of v → at < size_of v
on-the-way v at broker way within = let le = above-le v.fanout at broker way in omega (arith, le, within)

-- and so is the one above a broker
pub above-within : (v : ContentValue) (at child : ℕ) → 0 < child → at ≡ parent v.fanout child → child < size_of v → at < size_of v
above-within v at child below up within = let less = parent-below v.fanout child below in omega (arith, less, up, within)
