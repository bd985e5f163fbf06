-- What each call makes of a core, and that it can go on.
use Rattle.std.proofs.Common.{◌≡◌, ℕ, List, [], ◌∷◌, ◌++◌, map, true, false, Option, Some, None, refl, sym, ap, ◌∙◌, subst, append-nil, append_assoc}
use Rattle.std.specs.Prelude.{flat_map}
use Rattle.std.specs.List.{AllByRecursion as Each}
use Rattle.kvs_txn.specs.declared.txn.By.{By}
use Rattle.kvs_model.specs.Store.{Name}
use Rattle.kvs_rules.specs.declared.events.KvsAnswer.{KvsAnswer}
use Rattle.kvs_rules.specs.declared.events.KvsAsk.{KvsAsk}
use Rattle.kvs_rules.specs.declared.events.KvsEvent.{KvsEvent}
use Rattle.kvs_rules.specs.declared.events.KvsEvent.TheVariants as event
use Rattle.kvs_rules.specs.declared.events.KvsStep.{KvsStep}
use Rattle.kvs_rules.specs.Answers.{IsLegalAfter, IsLegalAnswer, IsLegalMoment}
use Rattle.kvs_rules.specs.Log.{Asked, Happened, Log, Moment, is_asked}
use Rattle.kvs_rules.specs.Namespaces.{Request, Setting}
use Rattle.store_laws.specs.Posts.{posts_in}
use Rattle.kvs_keys.specs.Agrees.{Agrees as KeysAgree}
use Rattle.kvs_keys.specs.Histories.{Extends as KeysExtend, history_of, landings_in}
use Rattle.kvs_keys.specs.Makes.{IsOfKeys, Makes as KeysMake}
use Rattle.kvs_keys.specs.Posted.{posted as keys_posted, posts_landed}
use Rattle.kvs_keys.specs.Requests.{AsksAtRest as KeysAskAtRest}
use Rattle.kvs_keys.specs.Steps.{can_take as keys_can_take}
use Rattle.kvs_keys.specs.Value.{KeysValue}
use Rattle.content_service.specs.Agrees.{AgreesService}
use Rattle.content_service.specs.Asks.{IsOthers, is_content}
use Rattle.content_service.specs.Makes.{IsOfContents as IsContentEvent, Makes as ContentsMake}
use Rattle.content_service.specs.Steps.{can_take as contents_can_take}
use Rattle.content_service.specs.Value.{ContentServiceValue}
use Rattle.kvs_core.specs.Agrees.{Agrees}
use Rattle.kvs_core.specs.Makes.{IsOfStep, Makes}
use Rattle.kvs_core.specs.Requests.{AgreesOnce}
use Rattle.kvs_core.specs.Value.{CoreValue}
use Rattle.kvs_core.specs.View.{IsFit}
use Rattle.kvs_core.proofs.Beside.{KeysStay, asks_so, contents_answer, keys_answer, keys_are_others, of_contents, same_asks}

-- the core with other keys, or with other contents
abbrev pub with_keys : CoreValue → KeysValue → CoreValue
with_keys v keys = record { spent = false; size = v.size; fanout = v.fanout; keys = keys; contents = v.contents }

abbrev pub with_contents : CoreValue → ContentServiceValue → CoreValue
with_contents v contents = record { spent = false; size = v.size; fanout = v.fanout; keys = v.keys; contents = contents }

-- what others make leaves the contents, a moment or many
abbrev pub ContentsStay : Type 0
ContentsStay = (v : ContentServiceValue) (set : Setting) (log : Log) (m : Moment) → AgreesService v set log → IsLegalMoment set log m → IsOthers set m → AgreesService v set (log ++ m ∷ [])

abbrev pub ContentsStayAll : Type 0
ContentsStayAll = (v : ContentServiceValue) (set : Setting) (log more : Log) → AgreesService v set log → IsLegalAfter set log more → Each (IsOthers set) more → AgreesService v set (log ++ more)

-- ---- events of keys, and of contents

keys_of_step : (es : List KvsEvent) → Each IsOfKeys es → Each IsOfStep es
keys_of_step [] h = tt
keys_of_step (event.Landed space number authors groups ∷ es) h = (tt, keys_of_step es h.1)
keys_of_step (event.Denied space authors group refusal ∷ es) h = (tt, keys_of_step es h.1)
keys_of_step (event.Heard broker space number ∷ es) h = (tt, keys_of_step es h.1)
keys_of_step (event.Got broker reference ∷ es) h = absurd h.0
keys_of_step (event.Dropped broker reference ∷ es) h = absurd h.0
keys_of_step (event.Answered by number given ∷ es) h = absurd h.0

contents_of_step : (es : List KvsEvent) → Each IsContentEvent es → Each IsOfStep es
contents_of_step [] h = tt
contents_of_step (event.Got broker reference ∷ es) h = (tt, contents_of_step es h.1)
contents_of_step (event.Dropped broker reference ∷ es) h = (tt, contents_of_step es h.1)
contents_of_step (event.Landed space number authors groups ∷ es) h = absurd h.0
contents_of_step (event.Denied space authors group refusal ∷ es) h = absurd h.0
contents_of_step (event.Heard broker space number ∷ es) h = absurd h.0
contents_of_step (event.Answered by number given ∷ es) h = absurd h.0

-- nothing of contents lands
contents_land_none : (es : List KvsEvent) → Each IsContentEvent es → (landings_in es ≡ []) × (posts_landed es ≡ [])
contents_land_none [] h = (refl, refl)
contents_land_none (event.Got broker reference ∷ es) h = contents_land_none es h.1
contents_land_none (event.Dropped broker reference ∷ es) h = contents_land_none es h.1
contents_land_none (event.Landed space number authors groups ∷ es) h = absurd h.0
contents_land_none (event.Denied space authors group refusal ∷ es) h = absurd h.0
contents_land_none (event.Heard broker space number ∷ es) h = absurd h.0
contents_land_none (event.Answered by number given ∷ es) h = absurd h.0

none_extend : (v : KeysValue) (es : List KvsEvent) → landings_in es ≡ [] → posts_landed es ≡ [] → KeysExtend v v es
none_extend v es none posts = record {
  history = sym (ap (λ ls. history_of v ++ ls) none ∙ append-nil (history_of v));
  inside = posts ∙ sym (ap (λ ls. posts_in (flat_map (λ groups. groups) ls)) none);
  grant = refl;
  fanout = refl;
}

pub same_extend : (v : KeysValue) → KeysExtend v v []
same_extend v = none_extend v [] refl refl

-- the events of a step of contents leave the keys
events_leave : KeysStay → (v : KeysValue) (set : Setting) (es : List KvsEvent) (log : Log) → Each IsContentEvent es → IsLegalAfter set log (map Happened es) → KeysAgree v set log → KeysAgree v set (log ++ map Happened es)
events_leave stays v set [] log own legal a = subst (KeysAgree v set) (sym (append-nil log)) a
events_leave stays v set (e ∷ es) log own legal a =
    subst (KeysAgree v set) (append_assoc log (Happened e ∷ []) (map Happened es))
    (events_leave stays v set es (log ++ Happened e ∷ []) own.1 legal.1 (stays v set log (Happened e) a legal.0 (of_contents set e own.0)))

module _ (v : CoreValue) where
  -- the keys and the contents go on to where the log leads
  joined : (keys : KeysValue) (contents : ContentServiceValue) (set : Setting) (log later : Log) → Agrees v set log → KeysAgree keys set later → AgreesService contents set later
      → Agrees (record { spent = false; size = v.size; fanout = v.fanout; keys = keys; contents = contents }) set later
  joined keys contents set log later a k c = record { size = a.size; fanout = a.fanout; keys = k; contents = c }

  -- the keys alone go on, where the log shows nothing
  pub beside : (new : KeysValue) (set : Setting) (log : Log) → Agrees v set log → KeysAgree new set log → Agrees (with_keys v new) set log
  beside new set log a k = joined new v.contents set log log a k a.contents

  -- a step of the keys
  pub keys-make : ContentsStayAll → (new : KeysValue) (s : KvsStep) (events : List KvsEvent) → KeysMake s v.keys new events → Makes s v (with_keys v new) events
  keys-make stay new s events makes = record {
    ready = refl;
    size = refl;
    order = makes.order;
    extends = makes.extends;
    own = keys_of_step events makes.own;
    made = λ set log a. makes.made set log a.keys;
    legal = λ set log a. makes.legal set log a.keys;
    agrees = λ set log a.
        joined new v.contents set log (log ++ map Happened events) a (makes.agrees set log a.keys)
        (stay v.contents set log (map Happened events) a.contents (makes.legal set log a.keys) (keys_are_others set events makes.own));
  }

  -- a step of the contents
  pub contents-make : KeysStay → (new : ContentServiceValue) (s : KvsStep) (events : List KvsEvent) → ContentsMake s v.contents new events → Makes s v (with_contents v new) events
  contents-make stays new s events makes =
      let none = contents_land_none events makes.own in
      record {
        ready = refl;
        size = refl;
        order = ap (λ gs. gs ++ keys_posted v.keys) none.1;
        extends = none_extend v.keys events none.0 none.1;
        own = contents_of_step events makes.own;
        made = λ set log a. makes.made log;
        legal = λ set log a. makes.legal set log a.contents;
        agrees = λ set log a.
            joined v.keys new set log (log ++ map Happened events) a (events_leave stays v.keys set events log makes.own (makes.legal set log a.contents) a.keys)
            (makes.agrees set log a.contents);
      }

  -- a command asks the keys
  pub keys-asked : ContentsStay → (new : KeysValue) (by : By) (broker : ℕ) (space : Name) (floor : ℕ) (asked : KvsAsk) → is_content asked ≡ false
      → ((set : Setting) (log : Log) → KeysAgree v.keys set log → set.asks by ≡ Some (record { broker = broker; namespace = space; ask = asked }) → (floors : Name → ℕ) → floors space ≡ floor → is_asked by log ≡ false → KeysAskAtRest set v.keys → KeysAgree new set (log ++ Asked by floors ∷ []))
      → AgreesOnce v (with_keys v new) by broker space floor asked
  keys-asked stay new by broker space floor asked plain agrees set log a asks floors seen fresh rested =
      joined new v.contents set log (log ++ Asked by floors ∷ []) a (agrees set log a.keys asks floors seen fresh rested)
      (stay v.contents set log (Asked by floors) a.contents ((request, asks), fresh) (asks_so set by request false asks plain))
    where
      request : Request
      request = record { broker = broker; namespace = space; ask = asked }

  -- a command asks the contents
  pub contents-asked : KeysStay → (new : ContentServiceValue) (by : By) (broker : ℕ) (asked : KvsAsk) → is_content asked ≡ true
      → ((set : Setting) (log : Log) (space : Name) (floors : Name → ℕ) → AgreesService v.contents set log → set.asks by ≡ Some (record { broker = broker; namespace = space; ask = asked }) → is_asked by log ≡ false → AgreesService new set (log ++ Asked by floors ∷ []))
      → (space : Name) (floor : ℕ) → AgreesOnce v (with_contents v new) by broker space floor asked
  contents-asked stays new by broker asked about agrees space floor set log a asks floors seen fresh rested =
      joined v.keys new set log (log ++ Asked by floors ∷ []) a
      (stays v.keys set log (Asked by floors) a.keys ((request, asks), fresh) (same_asks set by ∙ asks_so set by request true asks about))
      (agrees set log space floors a.contents asks fresh)
    where
      request : Request
      request = record { broker = broker; namespace = space; ask = asked }

  -- an answer of the keys
  pub keys-tell : ContentsStay → (new : KeysValue) (by : By) (number : Option ℕ) (given : KvsAnswer) → keys_can_take v.keys by ≡ true
      → ((set : Setting) (log : Log) → KeysAgree v.keys set log → IsLegalAnswer set log by number given)
      → ((set : Setting) (log : Log) → KeysAgree v.keys set log → KeysAgree new set (log ++ Happened (event.Answered by number given) ∷ []))
      → (set : Setting) (log : Log) → Agrees v set log → Agrees (with_keys v new) set (log ++ Happened (event.Answered by number given) ∷ [])
  keys-tell stay new by number given can legal agrees set log a =
      joined new v.contents set log (log ++ Happened (event.Answered by number given) ∷ []) a (agrees set log a.keys)
      (stay v.contents set log (Happened (event.Answered by number given)) a.contents (legal set log a.keys) (keys_answer v.keys set log a.keys by can))

  -- an answer of the contents
  pub contents-tell : KeysStay → (new : ContentServiceValue) (by : By) (given : KvsAnswer) → contents_can_take v.contents by ≡ true
      → ((set : Setting) (log : Log) → AgreesService v.contents set log → IsLegalAnswer set log by None given)
      → ((set : Setting) (log : Log) → AgreesService v.contents set log → AgreesService new set (log ++ Happened (event.Answered by None given) ∷ []))
      → (set : Setting) (log : Log) → Agrees v set log → Agrees (with_contents v new) set (log ++ Happened (event.Answered by None given) ∷ [])
  contents-tell stays new by given can legal agrees set log a =
      joined v.keys new set log (log ++ Happened (event.Answered by None given) ∷ []) a
      (stays v.keys set log (Happened (event.Answered by None given)) a.keys (legal set log a.contents) (same_asks set by ∙ contents_answer v.contents set log a.contents by can))
      (agrees set log a.contents)

  -- it can go on behind each of these
  pub keys-fit : IsFit v → (new : KeysValue) → new.spent ≡ false → new.size ≡ v.keys.size → new.fanout ≡ v.keys.fanout → IsFit (with_keys v new)
  keys-fit fit new ready size fanout = record {
    keys = ready;
    contents = fit.contents;
    keys_size = size ∙ fit.keys_size;
    contents_size = fit.contents_size;
    keys_fanout = fanout ∙ fit.keys_fanout;
    contents_fanout = fit.contents_fanout;
    some = fit.some;
  }

  pub contents-fit : IsFit v → (new : ContentServiceValue) → new.spent ≡ false → new.size ≡ v.contents.size → new.content.fanout ≡ v.contents.content.fanout → IsFit (with_contents v new)
  contents-fit fit new ready size fanout = record {
    keys = fit.keys;
    contents = ready;
    keys_size = fit.keys_size;
    contents_size = size ∙ fit.contents_size;
    keys_fanout = fit.keys_fanout;
    contents_fanout = fanout ∙ fit.contents_fanout;
    some = fit.some;
  }
