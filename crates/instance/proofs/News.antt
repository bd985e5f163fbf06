-- What a step of the service leaves of the chronicle, its log and what these say of the actors.
use Rattle.std.proofs.Common.{◌≡◌, ℕ, ◌+◌, ◌-◌, ◌⊎◌, inl, inr, List, [], ◌∷◌, ◌++◌, map, Bool, true, false, ◌||◌, refl, sym, ap, ◌∙◌, subst, arith, append_assoc, append-nil, count_by, fold, Option, Some, None}
use Rattle.std.specs.List.{list_any}
use Rattle.std.specs.List.{AllByRecursion as Each}
use Rattle.std.proofs.lemmas.List.Folds.{list_any-append}
use Rattle.std.proofs.lemmas.List.Sums.{fold-append}
use Rattle.services.specs.kvs_txn.declared.txn.By.{By}
use Rattle.services.specs.kvs_model.Store.{Name}
use Rattle.services.specs.kvs_rules.declared.events.KvsEvent.{KvsEvent}
use Rattle.services.specs.kvs_rules.declared.events.KvsEvent.TheVariants as event
use Rattle.services.specs.kvs_rules.declared.events.KvsStep.{KvsStep}
use Rattle.services.specs.kvs_rules.declared.events.KvsStep.TheVariants as kvs
use Rattle.services.specs.kvs_rules.Sequence.{EachAfter}
use Rattle.services.specs.kvs_rules.Log.{Log, Happened, is_asked, asks_now}
use Rattle.services.specs.kvs_rules.Steps.{AreMadeBy, ComesTo, IsRuling, IsBrokersWork}
use Rattle.services.specs.kvs_rules.Answers.{IsLegalEvent}
use Rattle.services.specs.answers.declared.chronicle.Entry.{Entry}
use Rattle.services.specs.workload.declared.work.Workload.{Workload}
use Rattle.services.specs.answers.Chronicle.{Setup, top, issues_of, replies_to, issues}
use Rattle.services.specs.answers.Entering.{entered}
use Rattle.services.specs.answers.Floors.{floor, raised}
use Rattle.services.specs.answers.Legal.{IsLegalEntry, HasEntryGrounds, SettlesFirst}
use Rattle.services.specs.answers.Services.{setting_of, log_of}
use Rattle.services.specs.answers.Whole.{IsEarlierEntry}
use Rattle.services.specs.answers.Jobs.{instance_of, log_in}
use Rattle.services.proofs.answers_proofs.Services.{log_push}
use Rattle.services.specs.instance_rules.Legal.{IsDueEvent, IsLegalMoment}
use Rattle.services.specs.job_landings.Landings.{happening}
use Rattle.instance.specs.declared.seats.Seat.{Seat}
use Rattle.instance.specs.declared.seats.Waiting.{Waiting}
use Rattle.instance.specs.declared.seats.Waiting.TheVariants as waiting
use Rattle.instance.specs.Agrees.{command_of, Stands, Waits, IsSeat, ActorStands}
use Rattle.instance.proofs.Listing.{count-append, any_left, each_append, each_weaker}
use Rattle.instance.proofs.Logs.{IsNews, log_with, news_is, served_log}
use Rattle.instance.proofs.Going.{unended, all_unclosed}

work_news : (broker : ℕ) (e : KvsEvent) → IsBrokersWork broker e → IsNews e
work_news broker (event.Landed space number authors groups) h = tt
work_news broker (event.Denied space authors group refusal) h = tt
work_news broker (event.Heard b space number) h = tt
work_news broker (event.Got b reference) h = tt
work_news broker (event.Dropped b reference) h = tt
work_news broker (event.Answered by number given) (inl h) = h
work_news broker (event.Answered by number given) (inr h) = h.1

land_news : (space : Name) (e : KvsEvent) → IsRuling space e ⊎ ComesTo 0 e → IsNews e
land_news space (event.Landed named number authors groups) h = tt
land_news space (event.Denied named authors group refusal) h = tt
land_news space (event.Heard b named number) h = tt
land_news space (event.Got b reference) h = tt
land_news space (event.Dropped b reference) h = tt
land_news space (event.Answered by number given) (inl h) = h
land_news space (event.Answered by number given) (inr h) = h

pub made_news : (log : Log) (s : KvsStep) (events : List KvsEvent) → AreMadeBy log s events → Each IsNews events
made_news log (kvs.Deliver from to) events h = each_weaker (IsBrokersWork to) IsNews (work_news to) events h
made_news log (kvs.Serve broker) events h = each_weaker (IsBrokersWork broker) IsNews (work_news broker) events h
made_news log (kvs.Land number) events h = each_weaker (λ e. IsRuling h.0 e ⊎ ComesTo 0 e) IsNews (land_news h.0) events h.2
made_news log (kvs.Lose from to) events h = subst (Each IsNews) (sym h) tt
made_news log (kvs.Repeat from to) events h = subst (Each IsNews) (sym h) tt
made_news log (kvs.Swap from to) events h = subst (Each IsNews) (sym h) tt
made_news log (kvs.Resync broker) events h = subst (Each IsNews) (sym h) tt

log_one : (work : Workload) (c : List Entry) (e : KvsEvent) → IsNews e → log_of work top (c ++ entered 0 e ∷ []) ≡ log_of work top c ++ Happened e ∷ []
log_one work c (event.Landed space number authors groups) n = log_push work top c (entered 0 (event.Landed space number authors groups))
log_one work c (event.Denied space authors group refusal) n = log_push work top c (entered 0 (event.Denied space authors group refusal))
log_one work c (event.Heard b space number) n = log_push work top c (entered 0 (event.Heard b space number))
log_one work c (event.Got b reference) n = log_push work top c (entered 0 (event.Got b reference))
log_one work c (event.Dropped b reference) n = log_push work top c (entered 0 (event.Dropped b reference))
log_one work c (event.Answered by number given) n = absurd n

pub log_news : (work : Workload) (c : List Entry) (es : List KvsEvent) → Each IsNews es → log_of work top (c ++ map (entered 0) es) ≡ log_of work top c ++ map Happened es
log_news work c [] n = ap (log_of work top) (append-nil c) ∙ sym (append-nil (log_of work top c))
log_news work c (e ∷ es) n =
    ap (log_of work top) (sym (append_assoc c (entered 0 e ∷ []) (map (entered 0) es)))
    ∙ log_news work (c ++ entered 0 e ∷ []) es n.1
    ∙ ap (λ l. l ++ map Happened es) (log_one work c e n.0)
    ∙ append_assoc (log_of work top c) (Happened e ∷ []) (map Happened es)

-- each event that is legal in the log, and due, is a legal entry
grounds_one : (set : Setup) (c : List Entry) (e : KvsEvent) → IsNews e → Each IsEarlierEntry c →
    IsLegalEvent (setting_of set) (log_of set.work top c) e → IsDueEvent (instance_of set) (log_in set.work c) e → HasEntryGrounds set c (entered 0 e)
grounds_one set c (event.Landed space number authors groups) n early h due = ((refl, h), all_unclosed c early authors, due)
grounds_one set c (event.Denied space authors group refusal) n early h due = ((refl, h), all_unclosed c early authors)
grounds_one set c (event.Heard b space number) n early h due = (refl, h)
grounds_one set c (event.Got b reference) n early h due = (refl, h)
grounds_one set c (event.Dropped b reference) n early h due = (refl, h)
grounds_one set c (event.Answered by number given) n early h due = absurd n

early_one : (e : KvsEvent) → IsNews e → IsEarlierEntry (entered 0 e)
early_one (event.Answered by number given) n = absurd n
early_one (event.Landed space number authors groups) n = tt
early_one (event.Denied space authors group refusal) n = tt
early_one (event.Heard b space number) n = tt
early_one (event.Got b reference) n = tt
early_one (event.Dropped b reference) n = tt

pub legal_news : (set : Setup) (c : List Entry) (es : List KvsEvent) → Each IsNews es → Each IsEarlierEntry c →
    EachAfter (IsLegalMoment (instance_of set)) (log_in set.work c) (map happening es) → EachAfter (IsLegalEntry set) c (map (entered 0) es)
legal_news set c [] n early h = tt
legal_news set c (e ∷ es) n early h = (
  record {
    goes_on = unended c early;
    grounds = grounds_one set c e n.0 early (subst (λ l. IsLegalEvent (setting_of set) l e) (served_log set.work c) h.0.0) h.0.1;
  },
  legal_news set (c ++ entered 0 e ∷ []) es n.1 (each_append IsEarlierEntry c (entered 0 e ∷ []) early (early_one e n.0, tt))
      (subst (λ l. EachAfter (IsLegalMoment (instance_of set)) l (map happening es)) (sym (log_with set.work c (entered 0 e) (happening e) (news_is set.work c e n.0))) h.1),
)

-- news issue and reply to nothing, end nothing, and ask nothing
pub early_news : (es : List KvsEvent) → Each IsNews es → Each IsEarlierEntry (map (entered 0) es)
early_news [] n = tt
early_news (e ∷ es) n = (early_one e n.0, early_news es n.1)

zero_more : (n m : ℕ) → m ≡ 0 → n + m ≡ n
zero_more n m e = omega arith

count_issues : (a : ℕ) (es : List KvsEvent) → Each IsNews es → count_by (issues_of a) (map (entered 0) es) ≡ 0
count_issues a [] n = refl
count_issues a (event.Landed space number authors groups ∷ es) n = let r : count_by (issues_of a) (map (entered 0) es) ≡ 0 = count_issues a es n.1 in omega arith
count_issues a (event.Denied space authors group refusal ∷ es) n = let r : count_by (issues_of a) (map (entered 0) es) ≡ 0 = count_issues a es n.1 in omega arith
count_issues a (event.Heard b space number ∷ es) n = let r : count_by (issues_of a) (map (entered 0) es) ≡ 0 = count_issues a es n.1 in omega arith
count_issues a (event.Got b reference ∷ es) n = let r : count_by (issues_of a) (map (entered 0) es) ≡ 0 = count_issues a es n.1 in omega arith
count_issues a (event.Dropped b reference ∷ es) n = let r : count_by (issues_of a) (map (entered 0) es) ≡ 0 = count_issues a es n.1 in omega arith
count_issues a (event.Answered by number given ∷ es) n = absurd n.0

count_replies : (by : By) (es : List KvsEvent) → Each IsNews es → count_by (replies_to by) (map (entered 0) es) ≡ 0
count_replies by [] n = refl
count_replies by (event.Landed space number authors groups ∷ es) n = let r : count_by (replies_to by) (map (entered 0) es) ≡ 0 = count_replies by es n.1 in omega arith
count_replies by (event.Denied space authors group refusal ∷ es) n = let r : count_by (replies_to by) (map (entered 0) es) ≡ 0 = count_replies by es n.1 in omega arith
count_replies by (event.Heard b space number ∷ es) n = let r : count_by (replies_to by) (map (entered 0) es) ≡ 0 = count_replies by es n.1 in omega arith
count_replies by (event.Got b reference ∷ es) n = let r : count_by (replies_to by) (map (entered 0) es) ≡ 0 = count_replies by es n.1 in omega arith
count_replies by (event.Dropped b reference ∷ es) n = let r : count_by (replies_to by) (map (entered 0) es) ≡ 0 = count_replies by es n.1 in omega arith
count_replies by (event.Answered other number given ∷ es) n = absurd n.0

asks_nothing : (by : By) (es : List KvsEvent) → list_any (asks_now by) (map Happened es) ≡ false
asks_nothing by [] = refl
asks_nothing by (e ∷ es) = asks_nothing by es

or_false : (a b : Bool) → b ≡ false → (a || b) ≡ a
or_false true b e = refl
or_false false b e = e

pub asked_news : (by : By) (log : Log) (es : List KvsEvent) → is_asked by (log ++ map Happened es) ≡ is_asked by log
asked_news by log es = list_any-append (asks_now by) log (map Happened es) ∙ or_false (is_asked by log) _ (asks_nothing by es)

raised_news : (work : Workload) (space : Name) (floors : ℕ → ℕ) (es : List KvsEvent) → Each IsNews es → (a : ℕ) → fold (raised work space) floors (map (entered 0) es) a ≡ floors a
raised_news work space floors [] n a = refl
raised_news work space floors (event.Landed named number authors groups ∷ es) n a = raised_news work space floors es n.1 a
raised_news work space floors (event.Denied named authors group refusal ∷ es) n a = raised_news work space floors es n.1 a
raised_news work space floors (event.Heard b named number ∷ es) n a = raised_news work space floors es n.1 a
raised_news work space floors (event.Got b reference ∷ es) n a = raised_news work space floors es n.1 a
raised_news work space floors (event.Dropped b reference ∷ es) n a = raised_news work space floors es n.1 a
raised_news work space floors (event.Answered by number given ∷ es) n a = absurd n.0

pub floor_news : (work : Workload) (c : List Entry) (es : List KvsEvent) → Each IsNews es → (a : ℕ) (space : Name) → floor work (c ++ map (entered 0) es) a space ≡ floor work c a space
floor_news work c es n a space = ap (λ f. f a) (fold-append (raised work space) (λ _. 0) c (map (entered 0) es)) ∙ raised_news work space (λ b. floor work c b space) es n a

stands_news : (log : Log) (c : List Entry) (es : List KvsEvent) → Each IsNews es → (a issued replied : ℕ) → Stands log c a issued replied → Stands (log ++ map Happened es) (c ++ map (entered 0) es) a issued replied
stands_news log c es n a issued replied h = record {
  counted = count-append (issues_of a) c (map (entered 0) es) ∙ zero_more _ _ (count_issues a es n) ∙ h.counted;
  begun = λ k below. any_left (issues (command_of a k)) c (map (entered 0) es) (h.begun k below);
  ended = λ k. count-append (replies_to (command_of a k)) c (map (entered 0) es) ∙ zero_more _ _ (count_replies (command_of a k) es n) ∙ h.ended k;
  answered = λ k asked below. any_left _ log (map Happened es) (h.answered k (sym (asked_news (command_of a k) log es) ∙ asked) below);
}

waits_news : (set : Setup) (log : Log) (es : List KvsEvent) (a issued : ℕ) (w : Waiting) → Waits set log a issued w → Waits set (log ++ map Happened es) a issued w
waits_news set log es a issued waiting.Nothing h = tt
waits_news set log es a issued waiting.Staged h = (h.0, asked_news (command_of a (issued - 1)) log es ∙ h.1, h.2)
waits_news set log es a issued waiting.TxnFull h = (h.0, asked_news (command_of a (issued - 1)) log es ∙ h.1, h.2)
waits_news set log es a issued (waiting.Tell to) h = (h.0, asked_news (command_of a (issued - 1)) log es ∙ h.1, h.2)
waits_news set log es a issued waiting.Using h = (h.0, asked_news (command_of a (issued - 1)) log es ∙ h.1, h.2)
waits_news set log es a issued waiting.Look h = (h.0, asked_news (command_of a (issued - 1)) log es ∙ h.1, h.2)
waits_news set log es a issued waiting.Service h = (h.0, asked_news (command_of a (issued - 1)) log es ∙ h.1)
waits_news set log es a issued waiting.Jobs h = (h.0, asked_news (command_of a (issued - 1)) log es ∙ h.1, h.2, h.3)
waits_news set log es a issued waiting.Shutdown h = (h.0, asked_news (command_of a (issued - 1)) log es ∙ h.1, h.2)

seat_news : (set : Setup) (log : Log) (c : List Entry) (es : List KvsEvent) → Each IsNews es → (a : ℕ) (seat : Seat) → IsSeat set log c a seat → IsSeat set (log ++ map Happened es) (c ++ map (entered 0) es) a seat
seat_news set log c es n a seat h = record {
  home = h.home;
  inside = h.inside;
  author = h.author;
  placed = h.placed;
  opened = h.opened;
  staged = h.staged;
  works = h.works;
  about = h.about;
  floored = λ space. floor_news set.work c es n a space ∙ h.floored space;
  waits = waits_news set log es a seat.issued seat.waiting h.waits;
}

pub actor_news : (set : Setup) (log : Log) (c : List Entry) (es : List KvsEvent) → Each IsNews es → (a : ℕ) (seat : Option Seat) → ActorStands set log c a seat → ActorStands set (log ++ map Happened es) (c ++ map (entered 0) es) a seat
actor_news set log c es n a None h = stands_news log c es n a 0 0 h
actor_news set log c es n a (Some seat) h = (stands_news log c es n a _ _ h.0, seat_news set log c es n a seat h.1)

-- news issue nothing, so they leave a chronicle settled
pub settled_news : (set : Setup) (c : List Entry) (es : List KvsEvent) → Each IsNews es → EachAfter (SettlesFirst set) c (map (entered 0) es)
settled_news set c [] n = tt
settled_news set c (event.Landed space number authors groups ∷ es) n = (tt, settled_news set _ es n.1)
settled_news set c (event.Denied space authors group refusal ∷ es) n = (tt, settled_news set _ es n.1)
settled_news set c (event.Heard b space number ∷ es) n = (tt, settled_news set _ es n.1)
settled_news set c (event.Got b reference ∷ es) n = (tt, settled_news set _ es n.1)
settled_news set c (event.Dropped b reference ∷ es) n = (tt, settled_news set _ es n.1)
settled_news set c (event.Answered by number given ∷ es) n = absurd n.0
