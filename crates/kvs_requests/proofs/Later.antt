-- What a further moment leaves of what the log says of a request.
use Rattle.std.proofs.Common.{true≢false, ◌≡◌, ◌≢◌, ℕ, zero, suc, ◌<◌, ◌≤◌, ◌⊎◌, inl, inr, [], ◌∷◌, ◌++◌, List, append_assoc, Bool, true, false, ◌||◌, Option, Some, None, unwrap_or, IfSome, IsSomeAnd, Contains, bytes_eq, refl, sym, ap, ◌∙◌, subst, arith}
use Rattle.std.specs.List.{list_any}
use Rattle.std.proofs.Math.Bool.{or-false}
use Rattle.std.proofs.lemmas.List.Elements.{Contains-append_left, Contains-append_cases}
use Rattle.kvs_txn.specs.declared.txn.By.{By}
use Rattle.kvs_txn.specs.declared.answers.Refusal.{Refusal}
use Rattle.std.specs.List.{AllByRecursion as Each}
use Rattle.std.specs.Prelude.{Result, Ok, is_some}
use Rattle.kvs_txn.specs.declared.answers.Found.{Found}
use Rattle.kvs_txn.specs.declared.answers.Numbered.{Numbered}
use Rattle.kvs_txn.specs.declared.answers.Query.{Query}
use Rattle.kvs_model.specs.Store.{Name, Path, Store}
use Rattle.kvs_model.specs.Walk.{Family, used, walk}
use Rattle.kvs_rules.specs.declared.events.KvsAnswer.{KvsAnswer}
use Rattle.kvs_rules.specs.declared.events.KvsAnswer.TheVariants as answer
use Rattle.kvs_rules.specs.declared.events.KvsEvent.TheVariants as event
use Rattle.kvs_rules.specs.Log.{Log, Moment, Happened, Resumed, asks_now, answers_now, lands_now, denies_now, SinceAsked, before_asked, floor_at, is_asked, is_answered, is_landed, is_denied, same_command}
use Rattle.kvs_rules.specs.Namespaces.{Setting, Request, family_at, landed, store_after, is_opened, is_primary, is_removed, opened_names}
use Rattle.kvs_rules.specs.Brokers.{heard, HasHeard, number_heard}
use Rattle.kvs_rules.specs.Answers.{IsDeniedWith, IsLegalAnswer, IsFresh, IsFreshRoot, IsCarriedOut, InFreshStore, WalkTells, roots_of, HasGrounds, TellsEnd, HasHeardRemoval, FindsNoNamespace}
use Rattle.kvs_rules.specs.declared.events.KvsAsk.{KvsAsk}
use Rattle.kvs_rules.specs.declared.events.KvsAsk.TheVariants as ask
use Rattle.kvs_rules.proofs.Sequences.{latest_push, until-append}
use Rattle.kvs_rules.proofs.Logs.{store_kept, HearsIn, ResumesIn, heard_or_not}
use Rattle.kvs_rules.proofs.Families.{Stands, same_family}
use Rattle.kvs_rules.proofs.Stores.{any_push, opened_push, removed_push}
use Rattle.kvs_rules.proofs.Asking.{command_is, floor_unchanged}
use Rattle.kvs_requests.specs.declared.rows.Row.{Row}
use Rattle.kvs_requests.specs.declared.rows.Stage.{Stage}
use Rattle.kvs_requests.specs.declared.rows.Stage.TheVariants as stage
use Rattle.kvs_space.specs.Space.{SpaceValue}
use Rattle.kvs_requests.specs.Agreement.{IsUndecided, HasLanded, Entrants, IsNeeded, MayTell, StageAgrees, RowAgrees, heard_at}

-- the moment is not about the command
pub record IsAside (by : By) (m : Moment) : Type 0 where
  pub asks : asks_now by m ≡ false
  pub answers : answers_now by m ≡ false
  pub lands : lands_now by m ≡ false
  pub denies : denies_now by m ≡ false

-- with the moment brokers have heard no less, and no fewer have landed
pub record Grows (log : Log) (m : Moment) : Type 0 where
  pub told : (broker : ℕ) (space : Name) (number : ℕ) → HasHeard log broker space number → HasHeard (log ++ m ∷ []) broker space number
  pub rises : (space : Name) → landed log space ≤ landed (log ++ m ∷ []) space
  pub ends : (space : Name) → is_removed log space ≡ true → landed (log ++ m ∷ []) space ≡ landed log space

pub differs : (a b : By) → a ≢ b → same_command a b ≡ false
differs a b ne = by (same_command a b) refl
  where
    by : (t : Bool) → same_command a b ≡ t → t ≡ false
    by true e = absurd (ne (command_is a b e))
    by false e = refl

pub heard-push : (log : Log) (m : Moment) (broker : ℕ) (space : Name) → heard (log ++ m ∷ []) broker space ≡ unwrap_or (number_heard broker space m) (heard log broker space)
heard-push log m broker space = latest_push (number_heard broker space) _ log m

-- a moment at which no broker hears
pub told-silent : (log : Log) (m : Moment) → ((broker : ℕ) (space : Name) → number_heard broker space m ≡ None) → (broker : ℕ) (space : Name) (number : ℕ) → HasHeard log broker space number → HasHeard (log ++ m ∷ []) broker space number
told-silent log m silent broker space number h =
    subst (λ o. IsSomeAnd o (λ n. number ≤ n)) (sym (heard-push log m broker space ∙ ap (λ o. unwrap_or o (heard log broker space)) (silent broker space))) h

at-least : (o : Option ℕ) (number new : ℕ) → IfSome o (λ h. h < new) → IsSomeAnd o (λ h. number ≤ h) → number ≤ new
at-least None number new news had = absurd had
at-least (Some h) number new news had = let a : h < new = news in let b : number ≤ h = had in omega arith

-- a broker hears more than it had heard
pub told-more : (log : Log) (broker : ℕ) (space : Name) (new : ℕ) → IfSome (heard log broker space) (λ h. h < new) → (b : ℕ) (s : Name) (number : ℕ) → HasHeard log b s number → HasHeard (log ++ Happened (event.Heard broker space new) ∷ []) b s number
told-more log broker space new news b s number h = by (heard_or_not b s m)
  where
    m : Moment
    m = Happened (event.Heard broker space new)

    by : (number_heard b s m ≡ None) ⊎ HearsIn b s m ⊎ ResumesIn s m → HasHeard (log ++ m ∷ []) b s number
    by (inl e) = subst (λ o. IsSomeAnd o (λ n. number ≤ n)) (sym (heard-push log m b s ∙ ap (λ o. unwrap_or o (heard log b s)) e)) h
    by (inr (inr r)) = let e : m ≡ Resumed r.number = r.is in absurd (cc)
    by (inr (inl l)) =
        let same : m ≡ Happened (event.Heard b s l.number) = l.is in
        let b-is : broker ≡ b = cc in
        let s-is : space ≡ s = cc in
        let n-is : new ≡ l.number = cc in
        let had : HasHeard log broker space number = subst (λ x. HasHeard log x space number) (sym b-is) (subst (λ x. HasHeard log b x number) (sym s-is) h) in
        let le : number ≤ new = at-least (heard log broker space) number new news had in
        let le2 : number ≤ l.number = omega arith in
        subst (λ o. IsSomeAnd o (λ n. number ≤ n)) (sym (heard-push log m b s ∙ ap (λ o. unwrap_or o (heard log b s)) l.gives)) le2

module _ {by : By} (log : Log) {m : Moment} (aside : IsAside by m) where
  pub asked-kept : is_asked by (log ++ m ∷ []) ≡ is_asked by log
  asked-kept = any_push (asks_now by) log m ∙ ap (λ b. is_asked by log || b) aside.asks ∙ or-false _

  pub answered-kept : is_answered by (log ++ m ∷ []) ≡ is_answered by log
  answered-kept = any_push (answers_now by) log m ∙ ap (λ b. is_answered by log || b) aside.answers ∙ or-false _

  pub landed-kept : is_landed by (log ++ m ∷ []) ≡ is_landed by log
  landed-kept = any_push (lands_now by) log m ∙ ap (λ b. is_landed by log || b) aside.lands ∙ or-false _

  pub denied-kept : is_denied by (log ++ m ∷ []) ≡ is_denied by log
  denied-kept = any_push (denies_now by) log m ∙ ap (λ b. is_denied by log || b) aside.denies ∙ or-false _

  pub floor-kept : (space : Name) → floor_at by (log ++ m ∷ []) space ≡ floor_at by log space
  floor-kept space = floor_unchanged by log m space aside.asks

  pub before-kept : is_asked by log ≡ true → before_asked by (log ++ m ∷ []) ≡ before_asked by log
  before-kept asked = until-append (asks_now by) log (m ∷ []) asked

  pub undecided-kept : IsUndecided log by → IsUndecided (log ++ m ∷ []) by
  undecided-kept u = record { unlanded = landed-kept ∙ u.unlanded; undenied = denied-kept ∙ u.undenied }

contains-kept : (log : Log) (m x : Moment) → Contains log x → Contains (log ++ m ∷ []) x
contains-kept log m x h = Contains-append_left log (m ∷ []) x h

pub denial-kept : (log : Log) (m : Moment) (by : By) (refusal : Refusal) → IsDeniedWith log by refusal → IsDeniedWith (log ++ m ∷ []) by refusal
denial-kept log m by refusal h = record { space = h.space; authors = h.authors; group = h.group; denial = contains-kept log m _ h.denial; named = h.named }

pub landing-kept : (log : Log) (m : Moment) (space : Name) (by : By) (number : ℕ) → HasLanded log space by number → HasLanded (log ++ m ∷ []) space by number
landing-kept log m space by number h = record { authors = h.authors; groups = h.groups; landing = contains-kept log m _ h.landing; named = h.named }

-- a command that waits to land, or has waited, is not told at the moment that the counts differ
abbrev pub Upholds : Entrants → Moment → Type 0
Upholds entered m = (by : By) → entered by ≡ true → (number : Option ℕ) (kept : ℕ) → m ≢ Happened (event.Answered by number (answer.CountDiffers kept))

opened-kept : (log : Log) (m : Moment) (space : Name) → is_opened log space ≡ true → is_opened (log ++ m ∷ []) space ≡ true
opened-kept log m space h = opened_push log m space ∙ stays (is_primary space) (list_any (bytes_eq space) (opened_names log)) _ h
  where
    stays : (x y z : Bool) → (x || y) ≡ true → (x || (y || z)) ≡ true
    stays true y z e = refl
    stays false true z e = refl
    stays false false z e = cc

-- the answers that read nothing of other commands
abbrev IsPlainAnswer : KvsAnswer → Type 0
IsPlainAnswer answer.Committed = Unit {0}
IsPlainAnswer answer.Fenced = Unit {0}
IsPlainAnswer answer.Created = Unit {0}
IsPlainAnswer answer.Removed = Unit {0}
IsPlainAnswer (answer.Refused refusal) = Unit {0}
IsPlainAnswer (answer.Read found uses) = Unit {0}
IsPlainAnswer answer.Reached = Unit {0}
IsPlainAnswer answer.NoNamespace = Unit {0}
IsPlainAnswer answer.Exists = Unit {0}
IsPlainAnswer answer.TooMany = Unit {0}
IsPlainAnswer answer.IsPrimary = Unit {0}
IsPlainAnswer _ = ⊥

contained-last : (log : Log) (m x : Moment) → Contains (log ++ m ∷ []) x → Contains log x ⊎ (m ≡ x)
contained-last log m x h = at (Contains-append_cases log (m ∷ []) x h)
  where
    only : Contains (m ∷ []) x → m ≡ x
    only (zero, l, e) = e
    only (suc k, l, e) = absurd (omega arith)

    at : Contains log x ⊎ Contains (m ∷ []) x → Contains log x ⊎ (m ≡ x)
    at (inl c) = inl c
    at (inr c) = inr (only c)

module _ (set : Setting) (by : By) (log : Log) (m : Moment) (aside : IsAside by m) (grows : Grows log m) (asked : is_asked by log ≡ true) where
  out-kept : (request : Request) (n : ℕ) → IsCarriedOut log by request n → IsCarriedOut (log ++ m ∷ []) by request n
  out-kept request n was = record { authors = was.authors; groups = was.groups; landing = contains-kept log m _ was.landing; named = was.named; told = grows.told _ _ _ was.told }

  outs-kept : (request : Request) (number : Option ℕ) → IsSomeAnd number (IsCarriedOut log by request) → IsSomeAnd number (IsCarriedOut (log ++ m ∷ []) by request)
  outs-kept request None h = absurd h
  outs-kept request (Some n) h = out-kept request n h

  since-kept : (P : Log → Type 0) → SinceAsked by P log → SinceAsked by P (log ++ m ∷ [])
  since-kept P h = record { past = h.past; later = h.later ++ m ∷ []; split = ap (λ l. l ++ m ∷ []) h.split ∙ append_assoc h.past h.later (m ∷ []); asked = h.asked; held = h.held }

  or-stays : (a b : Bool) → a ≡ true → (a || b) ≡ true
  or-stays true b e = refl
  or-stays false b e = cc

  removal-kept : (broker : ℕ) (space : Name) → HasHeardRemoval log broker space → HasHeardRemoval (log ++ m ∷ []) broker space
  removal-kept broker space h = (
    removed_push log m space ∙ or-stays (is_removed log space) _ h.0,
    subst (λ n. HasHeard (log ++ m ∷ []) broker space n) (sym (grows.ends space h.0)) (grows.told broker space (landed log space) h.1),
  )

  reader-kept : (broker : ℕ) (space : Name) (P : Log → Type 0) → HasHeardRemoval log broker space ⊎ SinceAsked by P log → HasHeardRemoval (log ++ m ∷ []) broker space ⊎ SinceAsked by P (log ++ m ∷ [])
  reader-kept broker space P (inl h) = inl (removal-kept broker space h)
  reader-kept broker space P (inr h) = inr (since-kept P h)

  none-kept : (request : Request) (asks : KvsAsk) → FindsNoNamespace log by request asks → FindsNoNamespace (log ++ m ∷ []) by request asks
  none-kept request (ask.Commit txn) h = since-kept _ h
  none-kept request (ask.Fence name count txn) h = since-kept _ h
  none-kept request ask.Remove h = since-kept _ h
  none-kept request (ask.Read query path) h = reader-kept request.broker request.namespace _ h
  none-kept request ask.Root h = reader-kept request.broker request.namespace _ h
  none-kept request (ask.Wait number) h = reader-kept request.broker request.namespace _ h
  none-kept request ask.Create h = absurd h
  none-kept request (ask.Store bytes) h = absurd h
  none-kept request (ask.Load reference) h = absurd h
  none-kept request ask.Flush h = absurd h
  none-kept request ask.DropClean h = absurd h

  fresh-kept : (broker : ℕ) (space : Name) (n : ℕ) → IsFresh log by broker space n → IsFresh (log ++ m ∷ []) by broker space n
  fresh-kept broker space n fresh = record {
    floor = subst (λ x. x ≤ n) (sym (floor-kept log aside space)) fresh.floor;
    known = subst (λ l. unwrap_or (heard l broker space) 0 ≤ n) (sym (before-kept log aside asked)) fresh.known;
    told = grows.told _ _ _ fresh.told;
  }

  store-kept : (request : Request) (n : ℕ) (P : Store → Type 0) → InFreshStore set log by request P n → InFreshStore set (log ++ m ∷ []) by request P n
  store-kept request n P h = record {
    fresh = fresh-kept request.broker request.namespace n h.fresh;
    store = h.store;
    standing = store_kept set log (m ∷ []) request.namespace n h.store h.standing;
    held = h.held;
  }

  stands-still : (o other : Option Store) → ((st : Store) → o ≡ Some st → other ≡ Some st) → (x : Option Store) → o ≡ x → is_some x ≡ true → is_some other ≡ true
  stands-still o other kept None is some = absurd (true≢false (sym some))
  stands-still o other kept (Some st) is some = ap is_some (kept st is)

  root-kept : (broker : ℕ) (root : Numbered) → IsFreshRoot set log by broker root → IsFreshRoot set (log ++ m ∷ []) by broker root
  root-kept broker root h = record {
    fresh = fresh-kept broker root.namespace root.number h.fresh;
    stands = stands-still (store_after set log root.namespace root.number) (store_after set (log ++ m ∷ []) root.namespace root.number)
        (λ st e. store_kept set log (m ∷ []) root.namespace root.number st e) (store_after set log root.namespace root.number) refl h.stands;
  }

  roots-kept : (broker : ℕ) (roots : List Numbered) → Each (IsFreshRoot set log by broker) roots → Each (IsFreshRoot set (log ++ m ∷ []) by broker) roots
  roots-kept broker [] h = tt
  roots-kept broker (root ∷ roots) h = (root-kept broker root h.0, roots-kept broker roots h.1)

  all-stand : (broker : ℕ) (roots : List Numbered) → Each (IsFreshRoot set log by broker) roots → Each (Stands set log) roots
  all-stand broker [] h = tt
  all-stand broker (root ∷ roots) h = (h.0.stands, all-stand broker roots h.1)

  walk-kept : (request : Request) (asked : Query) (path : Path) (uses : List Numbered) (told : Result Found Name) (n : ℕ) → WalkTells set log by request asked path uses told n → WalkTells set (log ++ m ∷ []) by request asked path uses told n
  walk-kept request asked path uses told n h =
      let roots : List Numbered = roots_of request n uses in
      let same : family_at set (log ++ m ∷ []) roots ≡ family_at set log roots = same_family set log (m ∷ []) roots (all-stand request.broker roots h.fresh) in
      record {
        fresh = roots-kept request.broker roots h.fresh;
        tells = ap (λ (f : Family). walk f request.namespace asked path) same ∙ h.tells;
        exactly = h.exactly ∙ ap (λ (f : Family). used f request.namespace asked path) (sym same);
      }

  grounds-kept : (request : Request) (given : KvsAnswer) (number : Option ℕ) → IsPlainAnswer given → HasGrounds set log by request given number → HasGrounds set (log ++ m ∷ []) by request given number
  grounds-kept request answer.Committed number made h = (h.0, outs-kept request number h.1)
  grounds-kept request answer.Fenced number made h = (h.0, outs-kept request number h.1)
  grounds-kept request answer.Created number made h = (h.0, outs-kept request number h.1)
  grounds-kept request answer.Removed number made h = (h.0, outs-kept request number h.1)
  grounds-kept request (answer.Refused refusal) number made h = (h.0, denial-kept log m by refusal h.1)
  grounds-kept request (answer.Read found uses) None made h = absurd h.3
  grounds-kept request (answer.Read found uses) (Some n) made h = (h.0, h.1, h.2, walk-kept request h.0 h.1 uses (Ok found) n h.3)
  grounds-kept request answer.Reached None made h = absurd h.2
  grounds-kept request answer.Reached (Some n) made h = (h.0, h.1, (h.2.0, store-kept request n _ h.2.1))
  grounds-kept request answer.NoNamespace number made h = (h.0, none-kept request request.ask h.1)
  grounds-kept request answer.Exists number made h = (h.0, h.1, opened-kept log m request.namespace h.2)
  grounds-kept request answer.TooMany number made h = (h.0, h.1, since-kept _ h.2)
  grounds-kept request answer.IsPrimary number made h = h
  grounds-kept request _ number made h = absurd made

  tells-kept : (given : KvsAnswer) → TellsEnd given (is_landed by log) (is_denied by log) → TellsEnd given (is_landed by (log ++ m ∷ [])) (is_denied by (log ++ m ∷ []))
  tells-kept given h = subst (λ c. TellsEnd given c (is_denied by (log ++ m ∷ []))) (sym (landed-kept log aside)) (subst (λ d. TellsEnd given (is_landed by log) d) (sym (denied-kept log aside)) h)

  legal-kept : (number : Option ℕ) (given : KvsAnswer) → IsPlainAnswer given → IsLegalAnswer set log by number given → IsLegalAnswer set (log ++ m ∷ []) by number given
  legal-kept number given made was = record {
    request = was.request;
    made = was.made;
    waits = record { asked = asked-kept log aside ∙ was.waits.asked; unanswered = answered-kept log aside ∙ was.waits.unanswered };
    tells = tells-kept given was.tells;
    grounds = grounds-kept was.request given number made was.grounds;
  }

  module _ (entered : Entrants) (spaces : List SpaceValue) (upholds : Upholds entered m) where
    differs-kept : (kept : ℕ) (number : Option ℕ) → (legal : IsLegalAnswer set log by number (answer.CountDiffers kept)) → entered legal.grounds.5.held.rival ≡ true → entered by ≡ false → MayTell entered set (log ++ m ∷ []) by number (answer.CountDiffers kept)
    differs-kept kept number was rival-in self-out =
        let rivals = was.grounds.5.held in (
          record {
            request = was.request;
            made = was.made;
            waits = record { asked = asked-kept log aside ∙ was.waits.asked; unanswered = answered-kept log aside ∙ was.waits.unanswered };
            tells = tells-kept (answer.CountDiffers kept) was.tells;
            grounds = (
              was.grounds.0,
              was.grounds.1,
              was.grounds.2,
              was.grounds.3,
              was.grounds.4,
              record {
                past = was.grounds.5.past;
                later = was.grounds.5.later ++ m ∷ [];
                split = ap (λ l. l ++ m ∷ []) was.grounds.5.split ∙ append_assoc was.grounds.5.past was.grounds.5.later (m ∷ []);
                asked = was.grounds.5.asked;
                held = record {
                  rival = rivals.rival;
                  txn = rivals.txn;
                  asked = rivals.asked;
                  differs = rivals.differs;
                  pending = rivals.pending;
                  accepted = λ n other c. never n other (contained-last log m _ c);
                  first = rivals.first;
                };
              },
            );
          },
          tt,
          (rival-in, self-out),
        )
      where
        never : (n : Option ℕ) (other : ℕ) → Contains log (Happened (event.Answered was.grounds.5.held.rival n (answer.CountDiffers other))) ⊎ (m ≡ Happened (event.Answered was.grounds.5.held.rival n (answer.CountDiffers other))) → ⊥
        never n other (inl c) = was.grounds.5.held.accepted n other c
        never n other (inr e) = upholds was.grounds.5.held.rival rival-in n other e

    tell-kept : (number : Option ℕ) (given : KvsAnswer) → MayTell entered set log by number given → MayTell entered set (log ++ m ∷ []) by number given
    tell-kept number answer.Committed h = (legal-kept number answer.Committed tt h.0, tt, tt)
    tell-kept number answer.Fenced h = (legal-kept number answer.Fenced tt h.0, tt, tt)
    tell-kept number answer.Created h = (legal-kept number answer.Created tt h.0, tt, tt)
    tell-kept number answer.Removed h = (legal-kept number answer.Removed tt h.0, tt, tt)
    tell-kept number (answer.Refused refusal) h = (legal-kept number (answer.Refused refusal) tt h.0, tt, tt)
    tell-kept number (answer.Read found uses) h = (legal-kept number (answer.Read found uses) tt h.0, tt, tt)
    tell-kept number answer.Reached h = (legal-kept number answer.Reached tt h.0, tt, tt)
    tell-kept number answer.NoNamespace h = (legal-kept number answer.NoNamespace tt h.0, tt, tt)
    tell-kept number answer.Exists h = (legal-kept number answer.Exists tt h.0, tt, tt)
    tell-kept number answer.TooMany h = (legal-kept number answer.TooMany tt h.0, tt, tt)
    tell-kept number answer.IsPrimary h = (legal-kept number answer.IsPrimary tt h.0, tt, tt)
    tell-kept number (answer.CountDiffers kept) h = differs-kept kept number h.0 h.2.0 h.2.1
    tell-kept number _ h = absurd h.1

    stage-kept : (request : Request) (s : Stage) → StageAgrees entered set log spaces by request s → StageAgrees entered set (log ++ m ∷ []) spaces by request s
    stage-kept request (stage.Rising from to asks) h = (undecided-kept log aside h.0, h.1, h.2, h.3)
    stage-kept request (stage.Arrived asks) h = (undecided-kept log aside h.0, h.1, h.2, h.3)
    stage-kept request (stage.Joined space work) h = (undecided-kept log aside h.0, h.1, h.2, h.3, h.4)
    stage-kept request (stage.Landed space number work) h = (h.0, denied-kept log aside ∙ h.1, landing-kept log m request.namespace by number h.2, h.3)
    stage-kept request (stage.Falling from to given) h = tell-kept None given h
    stage-kept request (stage.Ended given) h = tell-kept None given h
    stage-kept request (stage.Returning from to space asked) h = (undecided-kept log aside h.0, h.1, h.2, h.3)
    stage-kept request (stage.Parked space asked) h = (undecided-kept log aside h.0, h.1, h.2, h.3)
    stage-kept request (stage.Held number given) h = tell-kept number given h

-- what a request needs stays where its command doesn't ask
pub need-kept : (log : Log) (m : Moment) (by : By) (request : Request) (need : ℕ) → Grows log m → asks_now by m ≡ false → is_asked by log ≡ true → IsNeeded log by request need → IsNeeded (log ++ m ∷ []) by request need
need-kept log m by request need grows quiet asked h =
    let at : heard_at (log ++ m ∷ []) by request ≡ heard_at log by request = ap (λ l. unwrap_or (heard l request.broker request.namespace) 0) (until-append (asks_now by) log (m ∷ []) asked) in
    record {
      needs = rw (floor_unchanged by log m request.namespace quiet, at) h.needs;
      low = let r = grows.rises request.namespace in let l = h.low in omega arith;
    }

-- a moment that is not about a row's command leaves what the log says of the row
pub row-kept : (entered : Entrants) (set : Setting) (log : Log) (spaces : List SpaceValue) (m : Moment) (row : Row) → Grows log m → Upholds entered m → IsAside row.by m → RowAgrees entered set log spaces row → RowAgrees entered set (log ++ m ∷ []) spaces row
row-kept entered set log spaces m row grows upholds aside h = record {
  asked = asked-kept log aside ∙ h.asked;
  unanswered = answered-kept log aside ∙ h.unanswered;
  request = h.request;
  made = h.made;
  home = h.home;
  inside = h.inside;
  keys = h.keys;
  needed = need-kept log m row.by h.request row.need grows aside.asks h.asked h.needed;
  staged = stage-kept set row.by log m aside grows h.asked entered spaces upholds h.request row.stage h.staged;
  tied = h.tied;
}
