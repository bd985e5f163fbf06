-- A want is taken out of the list, or put at its end.
use Rattle.std.proofs.Common.{◌≡◌, ℕ, ◌+◌, ◌<◌, List, [], ◌∷◌, ◌++◌, length, map, cond, sym, ap, ◌∙◌, get_or}
use Rattle.std.specs.List.{remove}
use Rattle.std.proofs.lemmas.List.Sums.{sum_by-remove, sum_by_push}
use Rattle.kvs_txn.specs.declared.txn.By.{By}
use Rattle.kvs_rules.specs.declared.events.KvsEvent.{KvsEvent}
use Rattle.kvs_rules.specs.Log.{Happened, Log, same_command}
use Rattle.kvs_rules.specs.Namespaces.{Setting}
use Rattle.kvs_content.specs.declared.offers.Offer.{Offer}
use Rattle.kvs_content.specs.declared.wants.Want.{Want}
use Rattle.kvs_content.specs.Agrees.{AgreesContent, Follows, WantAgrees}
use Rattle.kvs_content.specs.Messages.{loads_of}
use Rattle.kvs_content.specs.Sound.{IsOfferPlaced, IsSoundContent, IsWantPlaced}
use Rattle.kvs_content.specs.Value.{ContentValue}
use Rattle.kvs_content.proofs.Sending.{push-all, remove-was}

-- the value with other wants
abbrev pub with-wants : ContentValue → List Want → ContentValue
with-wants v wants = record v { wants = wants }

offer-moved : (v : ContentValue) (wants : List Want) (o : Offer) → IsOfferPlaced v o → IsOfferPlaced (with-wants v wants) o
offer-moved v wants o p = record { below = p.below; within = p.within; waits = p.waits; named = p.named; same = p.same }

want-moved : (v : ContentValue) (wants : List Want) (w : Want) → IsWantPlaced v w → IsWantPlaced (with-wants v wants) w
want-moved v wants w p = record { below = p.below; within = p.within; way = p.way; named = p.named; same = p.same }

-- wants that are each at their place leave all sound
pub wants-sound : (v : ContentValue) → IsSoundContent v → (wants : List Want) → ((k : ℕ) (d : Want) → k < length wants → IsWantPlaced v (get_or wants k d)) → IsSoundContent (with-wants v wants)
wants-sound v s wants all = record {
  placed = record {
    fanout = s.placed.fanout;
    some = s.placed.some;
    root = s.placed.root;
    store = s.placed.store;
    same = s.placed.same;
    offers = λ k d l. offer-moved v wants _ (s.placed.offers k d l);
    wants = λ k d l. want-moved v wants _ (all k d l);
  };
  carried = s.carried;
}

pub taken-want-sound : (v : ContentValue) → IsSoundContent v → (i : ℕ) → IsSoundContent (with-wants v (remove v.wants i))
taken-want-sound v s i = wants-sound v s (remove v.wants i) (remove-was (IsWantPlaced v) v.wants i s.placed.wants)

pub put-want-sound : (v : ContentValue) (w : Want) → IsSoundContent v → IsWantPlaced v w → IsSoundContent (with-wants v (v.wants ++ w ∷ []))
put-want-sound v w s here = wants-sound v s (v.wants ++ w ∷ []) (push-all (IsWantPlaced v) v.wants w s.placed.wants here)

-- and where the log says of each what it should, the contents stand where it leaves them
pub wants-agree : (v : ContentValue) (set : Setting) (log : Log) → AgreesContent v set log → (wants : List Want) → ((k : ℕ) (d : Want) → k < length wants → WantAgrees set log v.fanout (get_or wants k d)) → AgreesContent (with-wants v wants) set log
wants-agree v set log a wants all = record {
  size = a.size;
  fanout = a.fanout;
  hash = a.hash;
  root = a.root;
  above = a.above;
  store = a.store;
  nodes = a.nodes;
  offers = a.offers;
  wants = all;
}

pub taken-want-agrees : (v : ContentValue) (set : Setting) (log : Log) → AgreesContent v set log → (i : ℕ) → AgreesContent (with-wants v (remove v.wants i)) set log
taken-want-agrees v set log a i = wants-agree v set log a (remove v.wants i) (remove-was (WantAgrees set log v.fanout) v.wants i a.wants)

pub put-want-agrees : (v : ContentValue) (set : Setting) (log : Log) (w : Want) → AgreesContent v set log → WantAgrees set log v.fanout w → AgreesContent (with-wants v (v.wants ++ w ∷ [])) set log
put-want-agrees v set log w a here = wants-agree v set log a (v.wants ++ w ∷ []) (push-all (WantAgrees set log v.fanout) v.wants w a.wants here)

-- what follows of the contents without a want follows of them, and a want that agrees may be put at the end
pub taken-want-follows : (v w : ContentValue) (i : ℕ) (events : List KvsEvent) (set : Setting) (log : Log) → Follows (with-wants v (remove v.wants i)) w events set log → Follows v w events set log
taken-want-follows v w i events set log f = record { legal = f.legal; agrees = f.agrees; kept = λ b x l k. f.kept b x l k }

pub put-want-follows : (v u : ContentValue) (w : Want) (events : List KvsEvent) (set : Setting) (log : Log) → Follows v u events set log → WantAgrees set (log ++ map Happened events) u.fanout w
    → Follows v (with-wants u (u.wants ++ w ∷ [])) events set log
put-want-follows v u w events set log f here = record {
  legal = f.legal;
  agrees = put-want-agrees u set (log ++ map Happened events) w f.agrees here;
  kept = λ b x l k. f.kept b x l k;
}

-- one load fewer waits, or one more
pub taken-loads : (by : By) (wants : List Want) (i : ℕ) (w : Want) → i < length wants → get_or wants i w ≡ w → loads_of by wants ≡ loads_of by (remove wants i) + cond (same_command w.by by) 1 0
taken-loads by wants i w l is =
    sym (sum_by-remove (λ (x : Want). cond (same_command x.by by) 1 0) wants i w l)
    ∙ ap (λ (x : Want). loads_of by (remove wants i) + cond (same_command x.by by) 1 0) is

-- a want is put at the end of those that there are
pub want-pushed : {u v : ContentValue} (e : u ≡ v) (w x : Want) → w ≡ x → (wants : List Want) → wants ≡ u.wants ++ w ∷ [] → with-wants u wants ≡ with-wants v (v.wants ++ x ∷ [])
want-pushed {u} {v} e w x same wants is = ap (with-wants u) (is ∙ ap (λ y. u.wants ++ y ∷ []) same) ∙ ap (λ (z : ContentValue). with-wants z (z.wants ++ x ∷ [])) e

pub pushed-loads : (by : By) (wants : List Want) (w : Want) → loads_of by (wants ++ w ∷ []) ≡ loads_of by wants + cond (same_command w.by by) 1 0
pushed-loads by wants w = sum_by_push (λ (x : Want). cond (same_command x.by by) 1 0) wants w
