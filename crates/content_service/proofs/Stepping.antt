-- The steps of a content service.
use Rattle.std.proofs.Common.{◌≡◌, ℕ, ◌+◌, ◌<◌, ◌≤◌, ◌==◌, inl, List, ◌++◌, length, map, Bool, true, false, ◌&&◌, cond, Some, None, Option, IfSome, refl, sym, ap, ◌∙◌, subst, arith, true≢false, get_or, set as put}
use Rattle.std.specs.List.{AllByRecursion as Each, list_any}
use Rattle.std.proofs.lemmas.List.{get_or-set_same, get_or_default}
use Rattle.std.proofs.lemmas.Bool.Decides.{nat_tests}
use Rattle.std.proofs.lemmas.List.Sums.{sum_by-set}
use Rattle.kvs_txn.specs.declared.txn.By.{By}
use Rattle.kvs_rules.specs.declared.events.KvsEvent.{KvsEvent}
use Rattle.kvs_rules.specs.declared.events.KvsEvent.TheVariants as event
use Rattle.kvs_rules.specs.declared.events.KvsStep.TheVariants as kvs
use Rattle.kvs_rules.specs.Log.{Happened, Log, asks_now, is_asked, same_command}
use Rattle.kvs_rules.specs.Namespaces.{Setting, Request}
use Rattle.kvs_rules.specs.Steps.{IsBrokersWork}
use Rattle.kvs_rules.proofs.Asking.{command_is}
use Rattle.kvs_content.specs.declared.outcomes.Answer.{Answer}
use Rattle.kvs_content.specs.Agrees.{AgreesContent, FollowsAlways, MayAnswer, MayTell as MayTellBytes, told_so}
use Rattle.kvs_content.specs.Messages.{loads_of}
use Rattle.kvs_content.specs.Node.{GetsOrDrops}
use Rattle.kvs_content.specs.Sound.{IsSoundContent}
use Rattle.kvs_content.specs.Steps.{AreAlike, answered}
use Rattle.kvs_content.specs.Value.{ContentValue}
use Rattle.kvs_content.proofs.Agreeing.{each-map}
use Rattle.kvs_content.proofs.Lists.{and-left, and-right, same-number}
use Rattle.content_service.specs.declared.rows.ContentAsk.{ContentAsk}
use Rattle.content_service.specs.declared.rows.ContentAsk.TheVariants as content
use Rattle.content_service.specs.declared.rows.Row.{Row}
use Rattle.content_service.specs.declared.rows.Stage.{Stage}
use Rattle.content_service.specs.declared.rows.Stage.TheVariants as stage
use Rattle.content_service.specs.declared.serving.Served.{Served}
use Rattle.content_service.specs.Agrees.{AgreesService, StageAgrees}
use Rattle.content_service.specs.Makes.{IsOfContents, Makes}
use Rattle.content_service.specs.Rows.{IsHanded, IsPut, all_services, ask_now, asked_of, is_due, is_loading, is_loading_stage, loading, may_serve, services_left, with_stage}
use Rattle.content_service.specs.Served.{IsAsking, IsServed}
use Rattle.content_service.specs.Sound.{IsSound}
use Rattle.content_service.specs.Steps.{deliveries_of, is_flushed}
use Rattle.content_service.specs.Value.{ContentServiceValue}
use Rattle.content_service.proofs.Lists.{found-passes, found-within, set-all, set-again, some-counts}
use Rattle.content_service.proofs.Answering.{told-staged}
use Rattle.content_service.proofs.Tables.{events-agrees, home-within, put-agrees, stored-since}

pub same-self : (by : By) → same_command by by ≡ true
same-self by = grind (arith, nat_tests)

-- a row, as a default
abbrev any : Row
any = record { by = record { actor = 0; command = 0 }; broker = 0; stage = stage.Loading }

-- ---- what the events are

comes-so : (broker : ℕ) (e : KvsEvent) → GetsOrDrops broker e → IsBrokersWork broker e
comes-so broker (event.Got b r) h = inl h
comes-so broker (event.Dropped b r) h = inl h
comes-so broker _ h = absurd h

own-so : (broker : ℕ) (e : KvsEvent) → GetsOrDrops broker e → IsOfContents e
own-so broker (event.Got b r) h = tt
own-so broker (event.Dropped b r) h = tt
own-so broker _ h = absurd h

all-come : (broker : ℕ) (events : List KvsEvent) → Each (GetsOrDrops broker) events → Each (IsBrokersWork broker) events
all-come broker events h = each-map (GetsOrDrops broker) (IsBrokersWork broker) (λ e g. comes-so broker e g) events h

all-own : (broker : ℕ) (events : List KvsEvent) → Each (GetsOrDrops broker) events → Each IsOfContents events
all-own broker events h = each-map (GetsOrDrops broker) IsOfContents (λ e g. own-so broker e g) events h

-- ---- one request is put at another stage

module _ (rows rows₁ : List Row) (i : ℕ) (within : i < length rows) (s : Stage) (is : IsPut rows rows₁ i s) where
  abbrev row : Row
  row = get_or rows i any

  put-home : (size : ℕ) → ((k : ℕ) (d : Row) → k < length rows → (get_or rows k d).broker < size) → (k : ℕ) (d : Row) → k < length rows₁ → (get_or rows₁ k d).broker < size
  put-home size home = subst (λ rs. (k : ℕ) (d : Row) → k < length rs → (get_or rs k d).broker < size) (sym (is any))
      (set-all (λ r. r.broker < size) rows i (with_stage s row) (home i any within) (λ k d l ne. home k d l))

  put-loading : (by : By) → loading by rows₁ + cond (is_loading by row) 1 0 ≡ loading by rows + cond (is_loading by (with_stage s row)) 1 0
  put-loading by = ap (λ rs. loading by rs + cond (is_loading by row) 1 0) (is any) ∙ sum_by-set (λ r. cond (is_loading by r) 1 0) rows i (with_stage s row) any within

  put-services : all_services rows₁ + services_left row.stage ≡ all_services rows + services_left s
  put-services = ap (λ rs. all_services rs + services_left row.stage) (is any) ∙ sum_by-set (λ r. services_left r.stage) rows i (with_stage s row) any within

-- the later of two stages stays
pub put-again : (rows rows₁ rows₂ : List Row) (i : ℕ) → i < length rows → (s t : Stage) → IsPut rows rows₁ i s → IsPut rows₁ rows₂ i t → IsPut rows rows₂ i t
put-again rows rows₁ rows₂ i within s t first second d =
    second d ∙ ap (λ rs. put rs i (with_stage t (get_or rs i d))) (first d) ∙ set-again rows i (with_stage s (get_or rows i d)) _
    ∙ ap (λ (r : Row). put rows i (with_stage t r)) (get_or-set_same rows i (with_stage s (get_or rows i d)) d within)

-- the request of a place at another stage agrees, where the log says so of the stage
put-row : {v : ContentServiceValue} {set : Setting} {log : Log} → AgreesService v set log → (rows₁ : List Row) (i : ℕ) → i < length v.rows → (s : Stage) → IsPut v.rows rows₁ i s
    → ((request : Request) → set.asks (get_or v.rows i any).by ≡ Some request → StageAgrees v.content set log (get_or v.rows i any).by request s)
    → (spent : Bool) (size : ℕ) → AgreesService (record { spent = spent; size = size; content = v.content; rows = rows₁ }) set log
put-row {v} {set} {log} a rows₁ i within s is staged spent size =
    let r = a.rows i any within in
    subst (λ rs. AgreesService (record { spent = spent; size = size; content = v.content; rows = rs }) set log) (sym (is any))
    (put-agrees v set log a i within (with_stage s (get_or v.rows i any)) (λ d. ap (λ (x : Row). x.by) (get_or_default v.rows i any d within))
    (record { asked = r.asked; unanswered = r.unanswered; request = r.request; made = r.made; about = r.about; home = r.home; staged = staged r.request r.made }) spent size)

-- ---- a delivery

loading-ends : (s : Stage) → is_loading_stage s ≡ true → services_left s ≡ 0
loading-ends (stage.Entered asks) e = absurd (true≢false (sym e))
loading-ends stage.Loading e = refl
loading-ends stage.Flushing e = absurd (true≢false (sym e))
loading-ends (stage.Held given) e = refl

and-none : (a : Bool) → (a && false) ≡ false
and-none true = refl
and-none false = refl

module _ (v : ContentServiceValue) (sound : IsSound v) (w : ContentValue) (told : Option Answer) (events : List KvsEvent) (waits : (by : By) → loads_of by v.content.wants ≡ loads_of by w.wants + answered by told) where
  -- the load that is answered waits in the rows
  pub answered-waits : IfSome told (λ t. list_any (is_loading t.by) v.rows ≡ true)
  answered-waits = by told refl
    where
      by : (o : Option Answer) → told ≡ o → IfSome o (λ t. list_any (is_loading t.by) v.rows ≡ true)
      by None e = tt
      by (Some t) e =
          let one : answered t.by told ≡ 1 = ap (answered t.by) e ∙ ap (λ b. cond b 1 0) (same-self t.by) in
          let all = waits t.by in
          let here = sound.waits t.by in
          some-counts (is_loading t.by) v.rows (let n : loading t.by v.rows ≡ loads_of t.by w.wants + 1 = sym here ∙ all ∙ ap (λ k. loads_of t.by w.wants + k) one in omega arith)

  module _ (from to : ℕ) (rows₁ : List Row) (handed : IsHanded told v.rows rows₁) (sound-now : IsSoundContent w) (alike : AreAlike v.content w) (shorter : deliveries_of (record v { content = w }) < deliveries_of v)
      (made : Each (GetsOrDrops to) events) (follows : FollowsAlways v.content w events) (may : (set : Setting) (log : Log) → AgreesContent v.content set log → MayAnswer set (log ++ map Happened events) told) where
    abbrev after : ContentServiceValue
    after = record { spent = false; size = v.size; content = w; rows = rows₁ }

    record Hands : Type 0 where
      home : (k : ℕ) (d : Row) → k < length rows₁ → (get_or rows₁ k d).broker < v.size
      loads : (by : By) → loads_of by w.wants ≡ loading by rows₁
      services : all_services rows₁ ≡ all_services v.rows
      agrees : (set : Setting) (log : Log) → AgreesService v set log → AgreesService after set (log ++ map Happened events)

    hands : (o : Option Answer) → told ≡ o → IsHanded o v.rows rows₁ → Hands
    hands None e h = record {
      home = subst (λ rs. (k : ℕ) (d : Row) → k < length rs → (get_or rs k d).broker < v.size) (sym h) sound.home;
      loads = λ by. (let n = waits by in let z : answered by told ≡ 0 = ap (answered by) e in omega arith) ∙ sound.waits by ∙ ap (loading by) (sym h);
      services = ap all_services h;
      agrees = λ set log a. subst (λ rs. AgreesService (record { spent = false; size = v.size; content = w; rows = rs }) set (log ++ map Happened events)) (sym h)
          (events-agrees v sound set log a events (all-own to events made) w (follows set log a.content) false v.size);
    }
    hands (Some t) e (i, first, is) = record {
      home = put-home v.rows rows₁ i within held is v.size sound.home;
      loads = λ by.
          let there : is_loading by row-there ≡ same_command t.by by = ap (λ b. same_command row-there.by by && b) (and-right (same_command row-there.by t.by) _ passes) ∙ and-all (same_command row-there.by by) ∙ ap (λ c. same_command c by) same in
          let put = put-loading v.rows rows₁ i within held is by in
          let none : ◌≡◌ {A = ℕ} (cond (is_loading by (with_stage held row-there)) 1 0) 0 = ap (λ b. cond b 1 0) (and-none (same_command row-there.by by)) in
          let one : ◌≡◌ {A = ℕ} (cond (is_loading by row-there) 1 0) (answered by told) = ap (λ b. cond b 1 0) there ∙ sym (ap (answered by) e) in
          let n = waits by in
          let s = sound.waits by in
          omega arith;
      services =
          let put = put-services v.rows rows₁ i within held is in
          let z = loading-ends row-there.stage (and-right (same_command row-there.by t.by) _ passes) in
          omega arith;
      agrees = λ set log a.
          let b = events-agrees v sound set log a events (all-own to events made) w (follows set log a.content) false v.size in
          let tells = subst (MayAnswer set (log ++ map Happened events)) e (may set log a.content) in
          put-row b rows₁ i within held is
          (λ request asks. told-staged w set (log ++ map Happened events) row-there.by request asks t.bytes
          (subst (λ c. MayTellBytes set (log ++ map Happened events) c t.bytes) (sym same) tells)) false v.size;
    } where
      held : Stage
      held = stage.Held (told_so t.bytes)

      within : i < length v.rows
      within = found-within (is_loading t.by) v.rows i (sym first)

      row-there : Row
      row-there = get_or v.rows i any

      passes : is_loading t.by row-there ≡ true
      passes = found-passes (is_loading t.by) v.rows i any (sym first)

      same : row-there.by ≡ t.by
      same = command_is row-there.by t.by (and-left (same_command row-there.by t.by) _ passes)

      and-all : (x : Bool) → (x && true) ≡ x
      and-all true = refl
      and-all false = refl

    handing : Hands
    handing = hands told refl handed

    pub delivered-sound : (spent : Bool) → IsSound (record { spent = spent; size = v.size; content = w; rows = rows₁ })
    delivered-sound spent = record { content = sound-now; size = alike.size ∙ sound.size; home = handing.home; waits = handing.loads }

    pub delivered-makes : Makes (kvs.Deliver from to) v after events
    delivered-makes = record {
      ready = refl;
      size = refl;
      fanout = alike.fanout;
      does = (shorter, handing.services);
      own = all-own to events made;
      made = λ log. all-come to events made;
      legal = λ set log a. (follows set log a.content).legal;
      agrees = handing.agrees;
    }

-- ---- a service

due-loads : (flushed : Bool) (s : Stage) → is_due flushed s ≡ true → is_loading_stage s ≡ false
due-loads flushed (stage.Entered asks) e = refl
due-loads flushed stage.Loading e = absurd (true≢false (sym e))
due-loads flushed stage.Flushing e = refl
due-loads flushed (stage.Held given) e = absurd (true≢false (sym e))

due-left : (flushed : Bool) (s t : Stage) → is_due flushed s ≡ true → services_left t ≤ 1 → (flushed ≡ true → services_left t ≡ 0) → services_left t < services_left s
due-left flushed (stage.Entered asks) t e once ended = omega arith
due-left flushed stage.Loading t e once ended = absurd (true≢false (sym e))
due-left flushed stage.Flushing t e once ended = let z = ended e in omega arith
due-left flushed (stage.Held given) t e once ended = absurd (true≢false (sym e))

-- what a request that is due asks
due-asks : (v : ContentValue) (set : Setting) (log : Log) (by : By) (request : Request) (s : Stage) (asks : ContentAsk) → ask_now true s ≡ Some asks → StageAgrees v set log by request s → request.ask ≡ asked_of asks
due-asks v set log by request (stage.Entered asked) asks e h = h ∙ ap asked_of (let same : asked ≡ asks = cc in same)
due-asks v set log by request stage.Loading asks e h = let no : ⊥ = cc in absurd no
due-asks v set log by request stage.Flushing asks e h = h ∙ ap asked_of (let same : content.Flush ≡ asks = cc in same)
due-asks v set log by request (stage.Held given) asks e h = let no : ⊥ = cc in absurd no

cond-and : (a b : Bool) → ◌≡◌ {A = ℕ} (cond (a && b) 1 0) (cond a (cond b 1 0) 0)
cond-and true b = refl
cond-and false b = refl

module _ (v : ContentServiceValue) (sound : IsSound v) (w : ContentValue) (i : ℕ) (within : i < length v.rows) (broker : ℕ) (can : (d : Row) → may_serve broker (is_flushed v.content broker) (get_or v.rows i d) ≡ true)
    (asks : ContentAsk) (was : (d : Row) → ask_now true (get_or v.rows i d).stage ≡ Some asks) (by : By) (whose : (d : Row) → (get_or v.rows i d).by ≡ by) (served : Served) (h : IsServed v.content w by broker asks served)
    (rows₁ : List Row) (is : IsPut v.rows rows₁ i served.stage) where
  abbrev row-here : Row
  row-here = get_or v.rows i any

  due : is_due (is_flushed v.content broker) row-here.stage ≡ true
  due = and-right (row-here.broker == broker) _ (can any)

  at-home : row-here.broker ≡ broker
  at-home = same-number row-here.broker broker (and-left (row-here.broker == broker) _ (can any))

  asking : (set : Setting) (log : Log) (a : AgreesService v set log) → IsAsking v.content set log by broker (a.rows i any within).request asks
  asking set log a =
      let r = a.rows i any within in
      record {
        come = ap (λ b. is_asked b log) (sym (whose any)) ∙ r.asked;
        made = ap set.asks (sym (whose any)) ∙ r.made;
        home = r.home ∙ at-home;
        asks = due-asks v.content set log row-here.by r.request row-here.stage asks (was any) r.staged;
        kept = λ x s. a.kept broker x (subst (λ b. b < set.size) at-home (home-within sound a i any within)) (stored-since set (asks_now by) log broker x s);
      }

  pub served-sound : (spent : Bool) → IsSound (record { spent = spent; size = v.size; content = w; rows = rows₁ })
  served-sound spent = record {
    content = h.sound;
    size = h.alike.size ∙ sound.size;
    home = put-home v.rows rows₁ i within served.stage is v.size sound.home;
    waits = λ other.
        let put = put-loading v.rows rows₁ i within served.stage is other in
        let none : ◌≡◌ {A = ℕ} (cond (is_loading other row-here) 1 0) 0 = ap (λ b. cond b 1 0) (ap (λ b. same_command row-here.by other && b) (due-loads (is_flushed v.content broker) row-here.stage due) ∙ and-none (same_command row-here.by other)) in
        let new : ◌≡◌ {A = ℕ} (cond (is_loading other (with_stage served.stage row-here)) 1 0) (cond (same_command by other) (cond (is_loading_stage served.stage) 1 0) 0) =
        cond-and (same_command row-here.by other) (is_loading_stage served.stage) ∙ ap (λ c. cond (same_command c other) (cond (is_loading_stage served.stage) 1 0) 0) (whose any) in
        let n = h.waits other in
        let s = sound.waits other in
        omega arith;
  }

  pub served-makes : Makes (kvs.Serve broker) v (record { spent = false; size = v.size; content = w; rows = rows₁ }) served.events
  served-makes = record {
    ready = refl;
    size = refl;
    fanout = h.alike.fanout;
    does =
        let put = put-services v.rows rows₁ i within served.stage is in
        let less = due-left (is_flushed v.content broker) row-here.stage served.stage due h.once h.ended in
        omega arith;
    own = all-own broker served.events h.made;
    made = λ log. all-come broker served.events h.made;
    legal = λ set log a. (h.follows set log (a.rows i any within).request a.content (asking set log a)).legal;
    agrees = λ set log a.
        let q = asking set log a in
        let b = events-agrees v sound set log a served.events (all-own broker served.events h.made) w (h.follows set log (a.rows i any within).request a.content q) false v.size in
        put-row b rows₁ i within served.stage is
        (λ request made. subst (λ c. StageAgrees w set (log ++ map Happened served.events) c request served.stage) (sym (whose any))
        (subst (λ x. StageAgrees w set (log ++ map Happened served.events) by x served.stage)
        (let same : Some (a.rows i any within).request ≡ Some request = sym (a.rows i any within).made ∙ made in let e : (a.rows i any within).request ≡ request = cc in e)
        (h.staged set log (a.rows i any within).request a.content q)))
        false v.size;
  }

-- what was read at a place is there, whatever the default
pub read-there : (rows : List Row) (i : ℕ) → i < length rows → (row : Row) → row ≡ get_or rows i row → (d : Row) → (get_or rows i d).by ≡ row.by
read-there rows i within row read d = ap (λ (r : Row). r.by) (get_or_default rows i d row within ∙ sym read)
