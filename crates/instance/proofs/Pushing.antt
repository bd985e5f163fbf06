-- What one entry more leaves of what the chronicle and its log say of an actor that it does not concern.
use Rattle.std.proofs.Common.{◌≡◌, ℕ, ◌+◌, ◌-◌, List, [], ◌∷◌, ◌++◌, Bool, true, false, ◌||◌, cond, refl, sym, ap, ◌∙◌, arith, append-nil, Option, Some, None, true≢false}
use Rattle.std.specs.List.{cons_option}
use Rattle.std.proofs.lemmas.List.Folds.{list_any-append}
use Rattle.services.specs.kvs_txn.declared.txn.By.{By}
use Rattle.services.specs.kvs_rules.Log.{Log, Moment, is_asked, is_answered, asks_now, answers_now}
use Rattle.services.specs.kvs_model.Store.{Name}
use Rattle.services.specs.answers.declared.chronicle.Entry.{Entry}
use Rattle.services.specs.answers.Chronicle.{Setup, issues_of, replies_to, issues}
use Rattle.services.specs.answers.Floors.{floor}
use Rattle.services.proofs.answers_proofs.Services.{asks_of}
use Rattle.instance.specs.declared.seats.Seat.{Seat}
use Rattle.instance.specs.declared.seats.Waiting.{Waiting}
use Rattle.instance.specs.declared.seats.Waiting.TheVariants as waiting
use Rattle.instance.specs.Floors.{Floors, floor_in}
use Rattle.instance.specs.Seats.{with_floors}
use Rattle.instance.specs.Agrees.{command_of, Stands, Waits, IsSeat, ActorStands}
use Rattle.instance.proofs.Listing.{count-push, any_left}

or_no : (a b : Bool) → b ≡ false → (a || b) ≡ a
or_no true b e = refl
or_no false b e = e

pub asked_push : (by : By) (log : Log) (o : Option Moment) → asks_of by o ≡ false → is_asked by (log ++ cons_option o []) ≡ is_asked by log
asked_push by log None h = ap (is_asked by) (append-nil log)
asked_push by log (Some m) h = list_any-append (asks_now by) log (m ∷ []) ∙ or_no (is_asked by log) _ (or_no (asks_now by m) false refl ∙ h)

pub answered_push : (by : By) (log : Log) (o : Option Moment) → is_answered by log ≡ true → is_answered by (log ++ cons_option o []) ≡ true
answered_push by log o h = any_left (answers_now by) log (cons_option o []) h

no_more : (n : ℕ) (b : Bool) → b ≡ false → n + cond b 1 0 ≡ n
no_more n true e = absurd (true≢false e)
no_more n false e = omega arith

-- the entry neither issues a command of the actor nor replies to one, and its moment is not one at which the actor asks
pub record IsOthers (a : ℕ) (e : Entry) (o : Option Moment) : Type 0 where
  pub unissued : issues_of a e ≡ false
  pub unreplied : (k : ℕ) → replies_to (command_of a k) e ≡ false
  pub unasked : (k : ℕ) → asks_of (command_of a k) o ≡ false

pub stands_other : (log : Log) (c : List Entry) (e : Entry) (o : Option Moment) (a issued replied : ℕ) → IsOthers a e o → Stands log c a issued replied → Stands (log ++ cons_option o []) (c ++ e ∷ []) a issued replied
stands_other log c e o a issued replied other h = record {
  counted = count-push (issues_of a) c e ∙ no_more _ _ other.unissued ∙ h.counted;
  begun = λ k below. any_left (issues (command_of a k)) c (e ∷ []) (h.begun k below);
  ended = λ k. count-push (replies_to (command_of a k)) c e ∙ no_more _ _ (other.unreplied k) ∙ h.ended k;
  answered = λ k asked below. answered_push (command_of a k) log o (h.answered k (sym (asked_push (command_of a k) log o (other.unasked k)) ∙ asked) below);
}

pub waits_other : (set : Setup) (log : Log) (o : Option Moment) (a issued : ℕ) (w : Waiting) → ((k : ℕ) → asks_of (command_of a k) o ≡ false) → Waits set log a issued w → Waits set (log ++ cons_option o []) a issued w
waits_other set log o a issued waiting.Nothing un h = tt
waits_other set log o a issued waiting.Staged un h = (h.0, asked_push (command_of a (issued - 1)) log o (un (issued - 1)) ∙ h.1, h.2)
waits_other set log o a issued waiting.TxnFull un h = (h.0, asked_push (command_of a (issued - 1)) log o (un (issued - 1)) ∙ h.1, h.2)
waits_other set log o a issued (waiting.Tell to) un h = (h.0, asked_push (command_of a (issued - 1)) log o (un (issued - 1)) ∙ h.1, h.2)
waits_other set log o a issued waiting.Using un h = (h.0, asked_push (command_of a (issued - 1)) log o (un (issued - 1)) ∙ h.1, h.2)
waits_other set log o a issued waiting.Look un h = (h.0, asked_push (command_of a (issued - 1)) log o (un (issued - 1)) ∙ h.1, h.2)
waits_other set log o a issued waiting.Service un h = (h.0, asked_push (command_of a (issued - 1)) log o (un (issued - 1)) ∙ h.1)
waits_other set log o a issued waiting.Jobs un h = (h.0, asked_push (command_of a (issued - 1)) log o (un (issued - 1)) ∙ h.1, h.2, h.3)
waits_other set log o a issued waiting.Shutdown un h = (h.0, asked_push (command_of a (issued - 1)) log o (un (issued - 1)) ∙ h.1, h.2)

seat_other : (set : Setup) (log : Log) (c : List Entry) (e : Entry) (o : Option Moment) (a : ℕ) (seat : Seat) → IsOthers a e o →
    ((space : Name) → floor set.work (c ++ e ∷ []) a space ≡ floor set.work c a space) → IsSeat set log c a seat → IsSeat set (log ++ cons_option o []) (c ++ e ∷ []) a seat
seat_other set log c e o a seat other same h = record {
  home = h.home;
  inside = h.inside;
  author = h.author;
  placed = h.placed;
  opened = h.opened;
  staged = h.staged;
  works = h.works;
  about = h.about;
  floored = λ space. same space ∙ h.floored space;
  waits = waits_other set log o a seat.issued seat.waiting other.unasked h.waits;
}

-- one whose floors the entry raises
pub actor_raised : (set : Setup) (log : Log) (c : List Entry) (e : Entry) (o : Option Moment) (a : ℕ) (seat : Seat) (floors : Floors) → IsOthers a e o →
    ((space : Name) → floor set.work (c ++ e ∷ []) a space ≡ floor_in floors space) → ActorStands set log c a (Some seat) → ActorStands set (log ++ cons_option o []) (c ++ e ∷ []) a (Some (with_floors floors seat))
actor_raised set log c e o a seat floors other now h = (
  stands_other log c e o a _ _ other h.0,
  record {
    home = h.1.home;
    inside = h.1.inside;
    author = h.1.author;
    placed = record { within = h.1.placed.within; passed = h.1.placed.passed; here = h.1.placed.here };
    opened = h.1.opened;
    staged = h.1.staged;
    works = h.1.works;
    about = h.1.about;
    floored = now;
    waits = waits_other set log o a seat.issued seat.waiting other.unasked h.1.waits;
  },
)

pub actor_other : (set : Setup) (log : Log) (c : List Entry) (e : Entry) (o : Option Moment) (a : ℕ) (seat : Option Seat) → IsOthers a e o →
    ((space : Name) → floor set.work (c ++ e ∷ []) a space ≡ floor set.work c a space) → ActorStands set log c a seat → ActorStands set (log ++ cons_option o []) (c ++ e ∷ []) a seat
actor_other set log c e o a None other same h = stands_other log c e o a 0 0 other h
actor_other set log c e o a (Some seat) other same h = (stands_other log c e o a _ _ other h.0, seat_other set log c e o a seat other same h.1)
