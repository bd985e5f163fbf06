-- What the brokers of the top have heard of `primary`, by the chronicle of a run and by the log of the top's service.
use Rattle.std.proofs.Common.{◌≡◌, ◌∙◌, ℕ, zero, suc, ◌==◌, ◌<◌, ◌≤◌, ◌&&◌, List, [], ◌∷◌, ◌++◌, drop, take, Bool, true, false, cond, Option, Some, None, IfSome, option_map, unwrap_or, refl, sym, ap, subst, arith, append-nil, true≢false}
use Rattle.std.specs.Prelude.{option_and_then, slice_get}
use Rattle.std.specs.List.{cons_option}
use Rattle.std.specs.Str.{bytes_eq}
use Rattle.std.proofs.lemmas.Bool.Decides.{same_from_decides}
use Rattle.std.proofs.lemmas.Option.{cond_some, none-some, same_Some}
use Rattle.std.proofs.lemmas.Slice.Eq.{bytes_eq-Decides}
use Rattle.kvs_rules.proofs.Sequences.{each_along, each_at, each_parts, latest_push}
use Rattle.kvs_rules.specs.Brokers.{heard, number_heard}
use Rattle.kvs_rules.specs.Log.{Happened, Log, Moment}
use Rattle.kvs_rules.specs.Namespaces.{is_primary, primary}
use Rattle.kvs_rules.specs.declared.events.KvsAnswer.{KvsAnswer}
use Rattle.kvs_rules.specs.declared.events.KvsEvent.TheVariants as event
use Rattle.kvs_txn.specs.declared.txn.By.{By}
use Rattle.workload.specs.declared.work.Workload.{Workload}
use Rattle.answers.proofs.Services.{log_push}
use Rattle.answers.specs.Chronicle.{Setup, answer_of, top}
use Rattle.answers.specs.Services.{log_of, moment_of}
use Rattle.answers.specs.declared.chronicle.Entry.{Entry}
use Rattle.answers.specs.declared.chronicle.Entry.TheVariants as entry
use Rattle.answers.specs.Legal.{IsLegal, IsLegalEntry}
use Rattle.hierarchy.specs.Births.{is_at}
use Rattle.hierarchy.specs.Heard.{HearUpwards, heard_at, heard_by, hearing}
use Rattle.hierarchy.specs.Legal.{IsLegalRun, IsLegalRunEntry}
use Rattle.hierarchy.specs.Own.{only_if, own_entry, own_of, setup_in}
use Rattle.hierarchy.proofs.Owning.{lives_on, own_push}
use Rattle.hierarchy.proofs.Seconds.{top_lives, top_stays}

turned : (a b : List ℕ) → bytes_eq a b ≡ bytes_eq b a
turned a b = same_from_decides (bytes_eq a b) (bytes_eq b a) (bytes_eq-Decides a b) ((λ e. sym ((bytes_eq-Decides b a).0 e)), (λ e. (bytes_eq-Decides b a).1 (sym e)))

and_left : (a b : Bool) → (a && b) ≡ true → a ≡ true
and_left true b h = refl
and_left false b h = h

and_right : (a b : Bool) → (a && b) ≡ true → b ≡ true
and_right true b h = h
and_right false b h = absurd (true≢false (sym h))

-- a list before, at and behind one of its places
split_at : {A : Type 0} (xs : List A) (i : ℕ) (x : A) → slice_get xs i ≡ Some x → xs ≡ take i xs ++ x ∷ drop (suc i) xs
split_at [] i x is = cc
split_at (y ∷ xs) zero x is = ap (λ z. z ∷ xs) (same_Some y x is)
split_at (y ∷ xs) (suc i) x is = ap (λ zs. y ∷ zs) (split_at xs i x is)

module _ (work : Workload) (b : ℕ) where
  -- a moment that lets the broker hear nothing
  abbrev IsQuiet : Option Moment → Type 0
  IsQuiet o = IfSome o (λ m. number_heard b primary m ≡ None)

  quiet_if : (t : Bool) (m : Moment) → number_heard b primary m ≡ None → IsQuiet (cond t (Some m) None)
  quiet_if true m h = h
  quiet_if false m h = tt

  quiet_answer : (t : Bool) (by : By) (number : Option ℕ) (o : Option KvsAnswer) → IsQuiet (cond t (option_map (λ a. Happened (event.Answered by number a)) o) None)
  quiet_answer true by number (Some a) = refl
  quiet_answer true by number None = tt
  quiet_answer false by number o = tt

  quiet_more : (log : Log) (o : Option Moment) → IsQuiet o → heard (log ++ cons_option o []) b primary ≡ heard log b primary
  quiet_more log None q = ap (λ l. heard l b primary) (append-nil log)
  quiet_more log (Some m) q = latest_push (number_heard b primary) (cond (is_primary primary) (Some 0) None) log m ∙ ap (λ o. unwrap_or o (heard log b primary)) q

  abbrev Knows : List Entry → ℕ → Type 0
  Knows own x = heard (log_of work top own) b primary ≡ Some x

  quiet_push : (own : List Entry) (e : Entry) (x : ℕ) → IsQuiet (moment_of work top own e) → Knows own x → Knows (own ++ e ∷ []) x
  quiet_push own e x q h = ap (λ l. heard l b primary) (log_push work top own e) ∙ quiet_more (log_of work top own) (moment_of work top own e) q ∙ h

  quiet_own : (own : List Entry) (t : Bool) (e : Entry) (x : ℕ) → IsQuiet (moment_of work top own e) → Knows own x → Knows (own ++ cons_option (only_if t e) []) x
  quiet_own own true e x q h = quiet_push own e x q h
  quiet_own own false e x q h = subst (λ l. Knows l x) (sym (append-nil own)) h

  -- a root of a namespace
  hears_push : (own : List Entry) (broker : ℕ) (space : List ℕ) (number x : ℕ) → Knows own x
      → Knows (own ++ entry.Heard top broker space number ∷ []) (unwrap_or (heard_by b (entry.Heard top broker space number)) x)
  hears_push own broker space number x h =
      let log = log_of work top own in
      ap (λ l. heard l b primary) (log_push work top own (entry.Heard top broker space number))
      ∙ latest_push (number_heard b primary) (cond (is_primary primary) (Some 0) None) log (Happened (event.Heard broker space number))
      ∙ ap (unwrap_or (number_heard b primary (Happened (event.Heard broker space number)))) h
      ∙ ap (λ t. unwrap_or (cond ((b == broker) && t) (Some (Some number)) None) (Some x)) (turned primary space)
      ∙ by (bytes_eq space primary)
    where
      named : (one : Bool) → unwrap_or (cond (one && true) (Some (Some number)) None) (Some x) ≡ Some (unwrap_or (cond one (Some number) None) x)
      named true = refl
      named false = refl

      other : (one : Bool) → unwrap_or (cond (one && false) (Some (Some number)) None) (Some x) ≡ Some x
      other true = refl
      other false = refl

      by : (two : Bool) → unwrap_or (cond ((b == broker) && two) (Some (Some number)) None) (Some x)
          ≡ Some (unwrap_or (option_and_then (λ (h : ℕ × ℕ). cond (b == h.0) (Some h.1) None) (cond two (Some (broker, number)) None)) x)
      by true = named (b == broker)
      by false = other (b == broker)

  hears_own : (own : List Entry) (t : Bool) (broker : ℕ) (space : List ℕ) (number x : ℕ) → Knows own x
      → Knows (own ++ cons_option (only_if t (entry.Heard top broker space number)) [])
      (unwrap_or (option_and_then (λ (h : ℕ × ℕ). cond (b == h.0) (Some h.1) None) (cond (t && is_primary space) (Some (broker, number)) None)) x)
  hears_own own true broker space number x h = hears_push own broker space number x h
  hears_own own false broker space number x h = subst (λ l. Knows l x) (sym (append-nil own)) h

  module _ (set : Setup) where
    told : (own : List Entry) (e : Entry) (x : ℕ) → Knows own x
        → Knows (own ++ cons_option (own_entry set.work.actors None top e) []) (unwrap_or (heard_by b e) x)
    told own (entry.Issued actor command) x h = quiet_own own (is_at set.work.actors None actor) (entry.Issued actor command) x (quiet_if _ _ refl) h
    told own (entry.Landed i space number authors groups) x h = quiet_own own (i == top) (entry.Landed top space number authors groups) x refl h
    told own (entry.Denied i space authors group refusal) x h = quiet_own own (i == top) (entry.Denied top space authors group refusal) x refl h
    told own (entry.Heard i broker space number) x h = hears_own own (i == top) broker space number x h
    told own (entry.Got i broker reference) x h = quiet_own own (i == top) (entry.Got top broker reference) x refl h
    told own (entry.Dropped i broker reference) x h = quiet_own own (i == top) (entry.Dropped top broker reference) x refl h
    told own (entry.Replied actor command given number) x h = quiet_own own (is_at set.work.actors None actor) (entry.Replied actor command given number) x (quiet_answer true _ number (answer_of given)) h
    told own (entry.Told from to) x h = quiet_own own (is_at set.work.actors None from) (entry.Told from to) x tt h
    told own (entry.Ticked second) x h = quiet_push own (entry.Ticked second) x tt h
    told own (entry.Born child parent job name second grant) x h = quiet_own own (parent == top) (entry.Born child top job name second grant) x tt h
    told own (entry.Gone child parent job shut) x h = quiet_own own (parent == top) (entry.Gone child top job shut) x tt h
    told own (entry.Watched actor command number first count) x h = quiet_own own (is_at set.work.actors None actor) (entry.Watched actor command number first count) x tt h
    told own entry.Closed x h = quiet_push own entry.Closed x tt h

module _ (set : Setup) where
  -- what the log of the top's service says is what the run says
  pub tied : (c : List Entry) (b : ℕ) → IsLegalRun set c
      → heard (log_of (setup_in set c top).work top (own_of set c top)) b primary ≡ Some (heard_at c b)
  tied c b l = each_along (IsLegalRunEntry set) (λ xs. Knows (setup_in set c top).work b (own_of set xs top) (heard_at xs b)) step [] c tt l refl
    where
      step : (xs : List Entry) (e : Entry) → IsLegalRun set xs → IsLegalRunEntry set xs e
          → Knows (setup_in set c top).work b (own_of set xs top) (heard_at xs b)
          → Knows (setup_in set c top).work b (own_of set (xs ++ e ∷ []) top) (heard_at (xs ++ e ∷ []) b)
      step xs e before fits h =
          subst (λ n. Knows (setup_in set c top).work b (own_of set (xs ++ e ∷ []) top) n) (sym (latest_push (heard_by b) 0 xs e))
          (subst (λ own. Knows (setup_in set c top).work b own (unwrap_or (heard_by b e) (heard_at xs b)))
          (sym (own_push set xs e top (top_lives set xs before) (top_stays set xs e fits)))
          (told (setup_in set c top).work b set (own_of set xs top) e (heard_at xs b) h))

  -- what a broker hears is no older than what it has heard
  hears_more : (past : List Entry) (e : Entry) (h : ℕ × ℕ) → IsLegalRun set past → IsLegalRunEntry set past e → hearing e ≡ Some h
      → (h.0 < set.size) × (heard_at past h.0 ≤ h.1)
  hears_more past (entry.Heard i broker space number) h before fits hears =
      let e : Entry = entry.Heard i broker space number in
      let there = cond_some ((i == top) && is_primary space) (broker, number) h hears in
      let here : (i == top) ≡ true = and_left (i == top) (is_primary space) there.0 in
      let named : space ≡ primary = (bytes_eq-Decides space primary).0 (and_right (i == top) (is_primary space) there.0) in
      let s = setup_in set past top in
      let own = own_of set past top in
      let on = top_lives set past before in
      let stays = top_stays set past e fits in
      let legal : IsLegal s (own_of set (past ++ e ∷ []) top) = fits.own refl top (lives_on past e top on stays) in
      let more : IsLegal s (own ++ entry.Heard top broker space number ∷ []) =
      subst (λ t. IsLegal s (own ++ cons_option (only_if t (entry.Heard top broker space number)) [])) here (subst (IsLegal s) (own_push set past e top on stays) legal) in
      let hearing = (each_at (IsLegalEntry s) own (entry.Heard top broker space number) [] more).grounds.1 in
      let news : IfSome (heard (log_of s.work top own) broker primary) (λ x. x < number) =
      subst (λ n. IfSome (heard (log_of s.work top own) broker n) (λ x. x < number)) named hearing.news in
      let below : heard_at past broker < number = subst (λ o. IfSome o (λ x. x < number)) (tied past broker before) news in
      subst (λ (q : ℕ × ℕ). (q.0 < set.size) × (heard_at past q.0 ≤ q.1)) there.1 (hearing.exists, omega (arith, below))
  hears_more past (entry.Issued actor command) h before fits hears = absurd (none-some h hears)
  hears_more past (entry.Landed i space number authors groups) h before fits hears = absurd (none-some h hears)
  hears_more past (entry.Denied i space authors group refusal) h before fits hears = absurd (none-some h hears)
  hears_more past (entry.Got i broker reference) h before fits hears = absurd (none-some h hears)
  hears_more past (entry.Dropped i broker reference) h before fits hears = absurd (none-some h hears)
  hears_more past (entry.Replied actor command given number) h before fits hears = absurd (none-some h hears)
  hears_more past (entry.Told from to) h before fits hears = absurd (none-some h hears)
  hears_more past (entry.Ticked second) h before fits hears = absurd (none-some h hears)
  hears_more past (entry.Born child parent job name second grant) h before fits hears = absurd (none-some h hears)
  hears_more past (entry.Gone child parent job shut) h before fits hears = absurd (none-some h hears)
  hears_more past (entry.Watched actor command number first count) h before fits hears = absurd (none-some h hears)
  hears_more past entry.Closed h before fits hears = absurd (none-some h hears)

  pub rises : (c : List Entry) → IsLegalRun set c → HearUpwards set.size c
  rises c l i e h at hears =
      let cut : IsLegalRun set (take i c ++ e ∷ drop (suc i) c) = subst (IsLegalRun set) (split_at c i e at) l in
      hears_more (take i c) e h (each_parts (IsLegalRunEntry set) [] (take i c) (e ∷ drop (suc i) c) cut).0
      (each_at (IsLegalRunEntry set) (take i c) e (drop (suc i) c) cut) hears
