-- Moments of contents leave a service of keys where it stands.
use Rattle.std.proofs.Common.{◌≡◌, ◌≢◌, ℕ, ◌<◌, [], ◌∷◌, ◌++◌, length, Bool, true, false, ◌||◌, Option, Some, None, refl, sym, ap, ◌∙◌, subst, true≢false, get_or}
use Rattle.std.specs.Option.{option_map_or}
use Rattle.kvs_txn.specs.declared.txn.By.{By}
use Rattle.kvs_model.specs.Store.{Name}
use Rattle.kvs_rules.specs.declared.events.KvsAnswer.TheVariants as answer
use Rattle.kvs_rules.specs.declared.events.KvsEvent.TheVariants as event
use Rattle.kvs_rules.specs.Log.{Asked, Happened, Resumed, Log, Moment, asks_now, is_asked, same_command}
use Rattle.kvs_rules.specs.Namespaces.{Request, Setting, name_opened}
use Rattle.kvs_rules.specs.Answers.{IsLegalMoment}
use Rattle.kvs_rules.proofs.Stores.{any_push}
use Rattle.kvs_requests.specs.declared.rows.Row.{Row}
use Rattle.kvs_requests.specs.Agreement.{Entrants, RowsAgree}
use Rattle.kvs_requests.specs.Rows.{asks_contents, is_about_contents}
use Rattle.kvs_requests.proofs.Later.{Grows, IsAside, Upholds, row-kept}
use Rattle.kvs_requests.proofs.Tables.{aside-answered, aside-asked, open-before, outside-kept, same-self, strange-kept}
use Rattle.kvs_space.specs.Space.{queued}
use Rattle.kvs_keys.specs.Agrees.{Agrees}
use Rattle.kvs_keys.specs.Contents.{IsOfContents}
use Rattle.kvs_keys.specs.Value.{KeysValue}
use Rattle.kvs_keys.proofs.Carried.{plain-asks, IsPlain, each-map, space-plain, waiting}
use Rattle.kvs_rules.specs.declared.events.KvsAsk.TheVariants as ask
use Rattle.kvs_keys.proofs.Turns.{turns-later}
use Rattle.kvs_keys.proofs.Heads.{IsElsewhere, agrees-of, head-kept, head-of}
use Rattle.kvs_keys.proofs.Moving.{grows-silent}

or-true : (b : Bool) → (b || true) ≡ true
or-true true = refl
or-true false = refl

-- what a setting says of a command
asks-is : (set : Setting) (by : By) (o : Option Request) → set.asks by ≡ o → asks_contents set by ≡ option_map_or (λ request. is_about_contents request.ask) o false
asks-is set by o e = ap (λ (q : Option Request). option_map_or (λ request. is_about_contents request.ask) q false) e

other-than-plain : (set : Setting) (by other : By) → IsPlain set by → asks_contents set other ≡ true → by ≢ other
other-than-plain set by other plain content same = true≢false (sym content ∙ ap (asks_contents set) (sym same) ∙ plain)

-- such a moment is about no command that asks something else
plain-aside : (set : Setting) (m : Moment) → IsOfContents set m → (by : By) → IsPlain set by → IsAside by m
plain-aside set (Asked other floors) h by plain = aside-asked by other floors (other-than-plain set by other plain h)
plain-aside set (Happened (event.Answered other number given)) h by plain = aside-answered by other number given (other-than-plain set by other plain h)
plain-aside set (Happened (event.Got broker r)) h by plain = record { asks = refl; answers = refl; lands = refl; denies = refl }
plain-aside set (Happened (event.Dropped broker r)) h by plain = record { asks = refl; answers = refl; lands = refl; denies = refl }
plain-aside set (Happened _) h by plain = absurd h
plain-aside set (Resumed number) h by plain = absurd h

-- nor about one that has not asked by then
strange-aside : (set : Setting) (log : Log) (m : Moment) → IsLegalMoment set log m → IsOfContents set m → (by : By) → is_asked by (log ++ m ∷ []) ≡ false → is_asked by log ≡ false → IsAside by m
strange-aside set log (Asked other floors) legal h by now was =
    aside-asked by other floors (λ same. true≢false (sym (any_push (asks_now by) log (Asked other floors) ∙ ap (λ x. is_asked by log || x) (subst (λ x. same_command by x ≡ true) same (same-self by)) ∙ or-true (is_asked by log)) ∙ now))
strange-aside set log (Happened (event.Answered other number given)) legal h by now was =
    aside-answered by other number given (λ same. true≢false (sym legal.waits.asked ∙ ap (λ b. is_asked b log) (sym same) ∙ was))
strange-aside set log (Happened (event.Got broker r)) legal h by now was = record { asks = refl; answers = refl; lands = refl; denies = refl }
strange-aside set log (Happened (event.Dropped broker r)) legal h by now was = record { asks = refl; answers = refl; lands = refl; denies = refl }
strange-aside set log (Happened _) legal h by now was = absurd h
strange-aside set log (Resumed number) legal h by now was = absurd h

off : (set : Setting) (m : Moment) → IsOfContents set m → (name : Name) → IsElsewhere name m
off set (Asked other floors) h name = record { groups = refl; number = refl; removed = refl; silent = λ b. refl }
off set (Happened (event.Answered other number given)) h name = record { groups = refl; number = refl; removed = refl; silent = λ b. refl }
off set (Happened (event.Got broker r)) h name = record { groups = refl; number = refl; removed = refl; silent = λ b. refl }
off set (Happened (event.Dropped broker r)) h name = record { groups = refl; number = refl; removed = refl; silent = λ b. refl }
off set (Happened _) h name = absurd h
off set (Resumed number) h name = absurd h

opens-none : (set : Setting) (m : Moment) → IsOfContents set m → name_opened m ≡ None
opens-none set (Asked other floors) h = refl
opens-none set (Happened (event.Answered other number given)) h = refl
opens-none set (Happened (event.Got broker r)) h = refl
opens-none set (Happened (event.Dropped broker r)) h = refl
opens-none set (Happened _) h = absurd h
opens-none set (Resumed number) h = absurd h

-- no fence is told then that its count differs
upheld : (set : Setting) (log : Log) (m : Moment) → IsLegalMoment set log m → IsOfContents set m → (entered : Entrants) → Upholds entered m
upheld set log m legal h entered by inside number kept e =
    let l : IsLegalMoment set log (Happened (event.Answered by number (answer.CountDiffers kept))) = subst (IsLegalMoment set log) e legal in
    let content : asks_contents set by ≡ true = subst (IsOfContents set) e h in
    true≢false (sym content ∙ asks-is set by (Some l.request) l.made ∙ ap is_about_contents l.grounds.4)

module _ (v : KeysValue) (set : Setting) (log : Log) (m : Moment) (a : Agrees v set log) (legal : IsLegalMoment set log m) (h : IsOfContents set m) where
  grows : Grows log m
  grows = grows-silent log m (λ space. (off set m h space).number) (λ b space. (off set m h space).silent b)

  plain-row : (k : ℕ) (d : Row) → k < length v.rows → IsPlain set (get_or v.rows k d).by
  plain-row k d l = let r = a.rows k d l in asks-is set _ (Some r.request) r.made ∙ r.keys

  rows-now : RowsAgree a.entered set (log ++ m ∷ []) v.spaces v.rows
  rows-now = record {
    rows = λ k d l. row-kept a.entered set log v.spaces m (get_or v.rows k d) grows (upheld set log m legal h a.entered) (plain-aside set m h _ (plain-row k d l)) (a.rows k d l);
    apart = a.apart;
    strange = strange-kept set log m a.strange (λ by some now was. strange-aside set log m legal h by now was);
    outside = outside-kept log m a.outside;
    open_rows = λ by plain o. a.open_rows by plain (open-before by log m (plain-aside set m h by plain).asks o);
  }

  pub contents-leave : Agrees v set (log ++ m ∷ [])
  contents-leave = agrees-of (head-kept (head-of a) m (opens-none set m h) (off set m h)
      (λ k d l. each-map (IsPlain set) (λ by. IsAside by m) (waiting (queued (get_or v.spaces k d).merger)) (space-plain (a.spaces k d l)) (λ by plain. plain-aside set m h by plain))) rows-now
      (λ settled. turns-later (a.turns settled) m (λ by space fence count txn asks. (plain-aside set m h by (plain-asks set space by (ask.Fence fence count txn) asks refl)).asks))
