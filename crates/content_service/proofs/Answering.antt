-- What a broker makes of each request.
use Rattle.std.proofs.Common.{◌≡◌, ◌⊎◌, inl, inr, ℕ, zero, suc, ◌+◌, ◌<◌, ◌≤◌, List, [], ◌∷◌, ◌++◌, map, Bool, true, false, cond, Option, Some, None, Contains, refl, sym, ap, ◌∙◌, subst, arith, true≢false, append-nil, get_or, set as put}
use Rattle.std.specs.Prelude.{IfOk, IsTrue, IsSome, Result, Ok, Err}
use Rattle.std.specs.List.{AllByRecursion as Each}
use Rattle.std.specs.Map.{lookup}
use Rattle.std.proofs.lemmas.Bool.{cases_eq}
use Rattle.std.proofs.lemmas.List.{length-set, get_or-set_same, get_or-set_other}
use Rattle.fl_digest.specs.declared.BlobRef.{BlobRef}
use Rattle.fl_digest.specs.Reference.{reference_of, same_reference}
use Rattle.kvs_txn.specs.declared.txn.By.{By}
use Rattle.kvs_rules.specs.declared.events.KvsAnswer.TheVariants as answer
use Rattle.kvs_rules.specs.declared.events.KvsEvent.{KvsEvent}
use Rattle.kvs_rules.specs.declared.events.KvsEvent.TheVariants as event
use Rattle.kvs_rules.specs.Log.{Happened, Log, before_asked, same_command}
use Rattle.kvs_rules.specs.Namespaces.{Setting, Request}
use Rattle.kvs_rules.specs.declared.events.KvsAsk.{KvsAsk}
use Rattle.kvs_rules.specs.Brokers.{IsContent, has_got, holds, texts_of}
use Rattle.kvs_rules.specs.Answers.{HasGrounds, IsClash, IsDroppedSince, IsStoredAt}
use Rattle.kvs_content.specs.declared.outcomes.Load.{Load}
use Rattle.kvs_content.specs.declared.outcomes.Load.TheVariants as load
use Rattle.kvs_content.specs.declared.node.Flush.{Flush}
use Rattle.kvs_content.specs.declared.node.Flush.TheVariants as flush
use Rattle.cache_node.specs.Cache.{dirty_at}
use Rattle.kvs_content.specs.Agrees.{AgreesContent, Follows, IsKept, IsLoad, IsRefused, MayLoad, told_so}
use Rattle.kvs_content.specs.Agrees as contents
use Rattle.kvs_content.specs.Messages.{loads_of}
use Rattle.kvs_content.specs.Node.{GetsOrDrops, IsFlush, NodeValue, empty_node}
use Rattle.kvs_content.specs.Sound.{IsDirty, IsSoundContent}
use Rattle.kvs_content.specs.Steps.{AreAlike, waiting}
use Rattle.kvs_content.specs.Value.{ContentValue, node_at, size_of}
use Rattle.kvs_content.proofs.Later.{before-same}
use Rattle.content_service.specs.declared.rows.ContentAsk.TheVariants as content
use Rattle.content_service.specs.declared.rows.Stage.TheVariants as stage
use Rattle.content_service.specs.Agrees.{MayTell, StageAgrees}
use Rattle.content_service.specs.Asks.{IsContentAnswer}
use Rattle.content_service.specs.Rows.{flushed_stage, is_loading_stage, loaded, services_left}
use Rattle.content_service.specs.Served.{IsAsking, IsServed}
use Rattle.content_service.proofs.Dropping.{dropped-since}
use Rattle.content_service.proofs.Later.{dropped-later}
use Rattle.content_service.proofs.Lists.{empty-of}

-- nobody waits where no load does
waits-none : (other by : By) (n : ℕ) → n ≡ n + cond (same_command by other) 0 0
waits-none other by n = at (same_command by other)
  where
    at : (b : Bool) → n ≡ n + cond b 0 0
    at true = omega arith
    at false = omega arith

pub same-wants : (v w : ContentValue) → w.wants ≡ v.wants → (by other : By) → loads_of other w.wants ≡ loads_of other v.wants + cond (same_command by other) 0 0
same-wants v w e by other = ap (loads_of other) e ∙ waits-none other by (loads_of other v.wants)

-- ---- a store

pub stored-content : {v : ContentValue} {set : Setting} {log : Log} {by : By} {broker : ℕ} {request : Request} {bytes : List ℕ} → IsAsking v set log by broker request (content.Store bytes) → IsContent set log bytes
stored-content {by = by} {request = request} {bytes = bytes} h = inl (record { by = by; asked = h.come; request = request; made = h.made; among = subst (λ (a : KvsAsk). Contains (texts_of a) bytes) (sym h.asks) (0, omega arith, refl) })

pub stored-served : (v w : ContentValue) (by : By) (broker : ℕ) (bytes : List ℕ) (r : BlobRef) (events : List KvsEvent)
    → IsSoundContent w → AreAlike v w → w.wants ≡ v.wants → r ≡ reference_of v.hash bytes → Each (GetsOrDrops broker) events
    → ((set : Setting) (log : Log) → AgreesContent v set log → IsContent set log bytes → Follows v w events set log)
    → ((set : Setting) (log : Log) → AgreesContent v set log → IsContent set log bytes → IsKept w set (log ++ map Happened events) broker r)
    → IsServed v w by broker (content.Store bytes) (record { stage = stage.Held (answer.Stored r); events = events })
stored-served v w by broker bytes r events sound alike wants named made follows kept = record {
  sound = sound;
  alike = alike;
  waits = λ other. same-wants v w wants by other;
  made = made;
  once = omega arith;
  ended = λ e. refl;
  follows = λ set log request a h. follows set log a (stored-content h);
  staged = λ set log request a h. record {
    about = tt;
    grounds = (refl, bytes, h.asks, named ∙ ap (λ hash. reference_of hash bytes) (sym a.hash));
    safe = subst (λ b. IsKept w set (log ++ map Happened events) b r) (sym h.home) (kept set log a (stored-content h));
  };
}

-- ---- a load

pub load-asked : {v : ContentValue} {set : Setting} {log : Log} {by : By} {broker : ℕ} {request : Request} {r : BlobRef} → IsAsking v set log by broker request (content.Load r) → IsLoad v set log by broker r
load-asked {request = request} {r = r} h = record {
  loading = record { asked = h.come; request = request; made = h.made; home = h.home; loads = h.asks };
  kept = h.kept r;
}

about-told : (bytes : Option (List ℕ)) → IsContentAnswer (told_so bytes)
about-told (Some bytes) = tt
about-told None = tt

safe-told : (v : ContentValue) (set : Setting) (log : Log) (by : By) (request : Request) (bytes : Option (List ℕ)) → HasGrounds set log by request (told_so bytes) None → MayTell v set log by request (told_so bytes)
safe-told v set log by request (Some bytes) g = record { about = tt; grounds = g; safe = tt }
safe-told v set log by request None g = record { about = tt; grounds = g; safe = tt }

-- what the contents let a load be told it may be told
pub told-staged : (v : ContentValue) (set : Setting) (log : Log) (by : By) (request : Request) → set.asks by ≡ Some request → (bytes : Option (List ℕ)) → contents.MayTell set log by bytes → MayTell v set log by request (told_so bytes)
told-staged v set log by request made bytes h =
    let same : Some h.0 ≡ Some request = sym h.1 ∙ made in
    safe-told v set log by request bytes (subst (λ q. HasGrounds set log by q (told_so bytes) None) (let e : h.0 ≡ request = cc in e) h.2)

load-waits : (by other : By) (l : Load) → waiting by other l ≡ cond (same_command by other) (cond (is_loading_stage (loaded l)) 1 0) 0
load-waits by other load.Waits = refl
load-waits by other (load.Told bytes) = at (same_command by other)
  where
    at : (b : Bool) → ◌≡◌ {A = ℕ} 0 (cond b 0 0)
    at true = refl
    at false = refl

load-ends : (l : Load) → services_left (loaded l) ≡ 0
load-ends load.Waits = refl
load-ends (load.Told bytes) = refl

load-staged : (v : ContentValue) (set : Setting) (log : Log) (by : By) (request : Request) → set.asks by ≡ Some request → (l : Load) → MayLoad set log by l → StageAgrees v set log by request (loaded l)
load-staged v set log by request made load.Waits h = tt
load-staged v set log by request made (load.Told bytes) h = told-staged v set log by request made bytes h

pub load-served : (v w : ContentValue) (by : By) (broker : ℕ) (r : BlobRef) (l : Load) (events : List KvsEvent)
    → IsSoundContent w → AreAlike v w → ((other : By) → loads_of other w.wants ≡ loads_of other v.wants + waiting by other l) → Each (GetsOrDrops broker) events
    → ((set : Setting) (log : Log) → AgreesContent v set log → IsLoad v set log by broker r → Follows v w events set log)
    → ((set : Setting) (log : Log) → AgreesContent v set log → IsLoad v set log by broker r → MayLoad set (log ++ map Happened events) by l)
    → IsServed v w by broker (content.Load r) (record { stage = loaded l; events = events })
load-served v w by broker r l events sound alike waits made follows told = record {
  sound = sound;
  alike = alike;
  waits = λ other. waits other ∙ ap (λ n. loads_of other v.wants + n) (load-waits by other l);
  made = made;
  once = let e = load-ends l in omega arith;
  ended = λ _. load-ends l;
  follows = λ set log request a h. follows set log a (load-asked h);
  staged = λ set log request a h. load-staged w set (log ++ map Happened events) by request h.made l (told set log a (load-asked h));
}

-- ---- a flush and a drop, which change one broker

module _ (v w : ContentValue) (broker : ℕ) (within : broker < size_of v) (new : NodeValue) (rest : w ≡ record v { nodes = put v.nodes broker new }) where
  node-alike : AreAlike v w
  node-alike = record { size = ap size_of rest ∙ length-set v.nodes broker new; fanout = ap (λ x. x.fanout) rest; hash = ap (λ x. x.hash) rest }

  node-wants : w.wants ≡ v.wants
  node-wants = ap (λ x. x.wants) rest

  node-dirty : new.cache ≡ (node_at v broker).cache → (b : ℕ) (r : BlobRef) → IsDirty v b r → IsDirty w b r
  node-dirty same b r d = subst (λ x. IsDirty x b r) (sym rest) (elim (cases_eq b broker) [
    | inl e ↦ subst (λ k. IsSome (dirty_at r (get_or (put v.nodes broker new) k empty_node).cache)) (sym e)
        (subst (λ n. IsSome (dirty_at r n.cache)) (sym (get_or-set_same v.nodes broker new empty_node within))
        (subst (λ c. IsSome (dirty_at r c)) (sym same) (subst (λ k. IsDirty v k r) e d)))
    | inr ne ↦ subst (λ n. IsSome (dirty_at r n.cache)) (sym (get_or-set_other v.nodes broker b new empty_node ne)) d
  ])

flush-cache : (old new : NodeValue) (f : Flush) → IsFlush old new f → new.cache ≡ old.cache
flush-cache old new flush.Waits h = ap (λ n. n.cache) h.1
flush-cache old new (flush.Clashed r) h = h.2
flush-cache old new flush.Flushed h = ap (λ n. n.cache) h.2

flush-waits : (f : Flush) → is_loading_stage (flushed_stage f) ≡ false
flush-waits flush.Waits = refl
flush-waits (flush.Clashed r) = refl
flush-waits flush.Flushed = refl

flush-once : (f : Flush) → services_left (flushed_stage f) ≤ 1
flush-once flush.Waits = omega arith
flush-once (flush.Clashed r) = omega arith
flush-once flush.Flushed = omega arith

flush-ended : (old new : NodeValue) (f : Flush) → IsFlush old new f → old.cache.dirty ≡ [] → services_left (flushed_stage f) ≡ 0
flush-ended old new flush.Waits h e = absurd (h.0 e)
flush-ended old new (flush.Clashed r) h e = refl
flush-ended old new flush.Flushed h e = refl

module _ (v w : ContentValue) (broker : ℕ) (within : broker < size_of v) (new : NodeValue) (rest : w ≡ record v { nodes = put v.nodes broker new }) (f : Flush) (h : IsFlush (node_at v broker) new f) where
  flush-kept : (set : Setting) (log : Log) (b : ℕ) (r : BlobRef) → IsKept v set log b r → IsKept w set log b r
  flush-kept set log b r (inl d) = inl (node-dirty v w broker within new rest (flush-cache (node_at v broker) new f h) b r d)
  flush-kept set log b r (inr k) = inr k

  module _ (by : By) (set : Setting) (log : Log) (request : Request) (a : AgreesContent v set log) (asking : IsAsking v set log by broker request content.Flush) where
    -- what was stored at the broker it has got, or it clashes
    all-stored : (node_at v broker).cache.dirty ≡ [] → (r : BlobRef) → IsStoredAt set (before_asked by log) request.broker r → IsTrue (has_got log request.broker r) ⊎ IsClash set log r
    all-stored none r s = at (asking.kept r (subst (λ b. IsStoredAt set (before_asked by log) b r) asking.home s))
      where
        at : IsKept v set log broker r → IsTrue (has_got log request.broker r) ⊎ IsClash set log r
        at (inl d) = absurd (true≢false (sym (subst (λ (es : List (BlobRef × List ℕ)). IsSome (lookup (same_reference r) es)) none d)))
        at (inr (inl g)) = inl (subst (λ b. has_got log b r ≡ true) (sym asking.home) g)
        at (inr (inr c)) = inr c.0

    told-flush : (g : Flush) → IsFlush (node_at v broker) new g → StageAgrees w set log by request (flushed_stage g)
    told-flush flush.Waits i = asking.asks
    told-flush (flush.Clashed r) i = record {
      about = tt;
      grounds = (refl, asking.asks, (subst (Each (IsRefused set log)) i.1 (a.nodes broker within).refused).0.0);
      safe = tt;
    }
    told-flush flush.Flushed i = record { about = tt; grounds = (refl, asking.asks, all-stored i.0); safe = tt }

  pub flush-served : (by : By) → IsSoundContent w → ((set : Setting) (log : Log) → AgreesContent v set log → AgreesContent w set log) → IsServed v w by broker content.Flush (record { stage = flushed_stage f; events = [] })
  flush-served by sound agrees = record {
    sound = sound;
    alike = node-alike v w broker within new rest;
    waits = λ other. same-wants v w (node-wants v w broker within new rest) by other ∙ ap (λ b. loads_of other v.wants + cond (same_command by other) (cond b 1 0) 0) (sym (flush-waits f));
    made = tt;
    once = flush-once f;
    ended = λ e. flush-ended (node_at v broker) new f h (empty-of (node_at v broker).cache.dirty e);
    follows = λ set log request a asking. record {
      legal = tt;
      agrees = subst (AgreesContent w set) (sym (append-nil log)) (agrees set log a);
      kept = λ b r l k. subst (λ ms. IsKept w set ms b r) (sym (append-nil log)) (flush-kept set log b r k);
    };
    staged = λ set log request a asking. subst (λ ms. StageAgrees w set ms by request (flushed_stage f)) (sym (append-nil log)) (told-flush by set log request a asking f h);
  }

happened-in : (es : List KvsEvent) (e : KvsEvent) → Contains es e → Contains (map Happened es) (Happened e)
happened-in [] e c = absurd (let l = c.1 in omega arith)
happened-in (x ∷ xs) e (zero, l, is) = (0, omega arith, ap Happened is)
happened-in (x ∷ xs) e (suc k, l, is) = let rest = happened-in xs e (k, omega arith, is) in (suc rest.0, (let m = rest.1 in omega arith), rest.2)

module _ (v w : ContentValue) (broker : ℕ) (within : broker < size_of v) (new : NodeValue) (rest : w ≡ record v { nodes = put v.nodes broker new }) (events : List KvsEvent)
    (all : (set : Setting) (log : Log) → AgreesContent v set log → (r : BlobRef) → IsTrue (holds log broker r) → Contains events (event.Dropped broker r)) where
  -- all that the broker held when the command asked it has dropped since
  all-gone : (by : By) (set : Setting) (log : Log) (request : Request) → AgreesContent v set log → IsAsking v set log by broker request content.DropClean
      → (r : BlobRef) → holds (before_asked by (log ++ map Happened events)) request.broker r ≡ true → IsDroppedSince (log ++ map Happened events) by request.broker r
  all-gone by set log request a asking r held =
      subst (λ b. IsDroppedSince (log ++ map Happened events) by b r) (sym asking.home) (at (holds log broker r) refl)
    where
      was : holds (before_asked by log) broker r ≡ true
      was = subst (λ past. holds past broker r ≡ true) (before-same log (map Happened events) by asking.come) (subst (λ b. holds (before_asked by (log ++ map Happened events)) b r ≡ true) asking.home held)

      at : (b : Bool) → holds log broker r ≡ b → IsDroppedSince (log ++ map Happened events) by broker r
      at true e = record { past = log; later = map Happened events; split = refl; asked = asking.come; dropped = happened-in events _ (all set log a r e) }
      at false e = dropped-later log (map Happened events) by broker r (dropped-since log by broker r asking.come was e)

  pub dropped-served : (by : By) → IsSoundContent w → Each (GetsOrDrops broker) events → ((set : Setting) (log : Log) → AgreesContent v set log → Follows v w events set log)
      → IsServed v w by broker content.DropClean (record { stage = stage.Held answer.Dropped; events = events })
  dropped-served by sound made follows = record {
    sound = sound;
    alike = node-alike v w broker within new rest;
    waits = λ other. same-wants v w (node-wants v w broker within new rest) by other;
    made = made;
    once = omega arith;
    ended = λ e. refl;
    follows = λ set log request a asking. follows set log a;
    staged = λ set log request a asking. record { about = tt; grounds = (refl, asking.asks, inl (all-gone by set log request a asking)); safe = tt };
  }

-- what is served for whichever command is served for this one
pub for-this : {T E : Type 0} (r : Result T E) (P : By → T → Type 0) (by : By) → IfOk r (λ x. (b : By) → P b x) → IfOk r (P by)
for-this (Ok x) P by h = h by
for-this (Err e) P by h = tt
