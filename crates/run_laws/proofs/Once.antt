-- In a legal chronicle a command begins one job.
use Rattle.std.proofs.Common.{◌≡◌, ◌≢◌, ℕ, ◌<◌, ◌^◌, ◌&&◌, ◌||◌, ◌⊎◌, inl, inr, List, [], ◌∷◌, ◌++◌, Bool, true, false, Option, Some, None, refl, sym, ap, ap₂, ◌∙◌, subst, true≢false}
use Rattle.std.specs.List.{list_any}
use Rattle.std.proofs.lemmas.Bool.{eq-eqb, or_cases}
use Rattle.job_rules.proofs.Among.{Among, among_append, among_from, any_at, each_at}
use Rattle.kvs_rules.specs.Answers.{IsLegalLog, IsLegalMoment}
use Rattle.kvs_rules.specs.Landings.{IsAdvance, IsFreshCommand, IsLegalLanding, IsOpening, IsRemoval, commands_of, names_of, names_of_group}
use Rattle.kvs_rules.specs.Log.{Happened, Log, Moment, is_author, is_landed, lands_now, same_command}
use Rattle.kvs_rules.specs.Namespaces.{Setting, primary}
use Rattle.kvs_rules.specs.Sequence.{AreDistinct, EachAfter}
use Rattle.kvs_rules.specs.declared.events.KvsEvent.TheVariants as event
use Rattle.kvs_rules.proofs.Asking.{command_is}
use Rattle.kvs_rules.proofs.Sequences.{each_along}
use Rattle.kvs_txn.specs.declared.txn.By.{By}
use Rattle.kvs_txn.specs.declared.txn.Group.{Group}
use Rattle.instance_rules.specs.Desks.{Begins, HasBegun, HasSubmitted}
use Rattle.instance_rules.specs.Log as rules
use Rattle.answers.specs.Chronicle.{Setup}
use Rattle.answers.specs.Jobs.{log_in}
use Rattle.answers.specs.Legal.{IsLegal}
use Rattle.answers.specs.Services.{setting_of}
use Rattle.answers.specs.declared.chronicle.Entry.{Entry}
use Rattle.answers.proofs.JobLogs.{service_kept}
use Rattle.answers.proofs.Services.{service_legal}
use Rattle.instance_rules.proofs.Sole.{sole}

itself : (by : By) → same_command by by ≡ true
itself by = ap₂ (λ a b. a && b) (eq-eqb by.actor by.actor refl) (eq-eqb by.command by.command refl)

-- ---- one landing

-- an author is one of the commands
among_authors : (by : By) (authors : List (Option By)) → list_any (is_author by) authors ≡ true → Among by (commands_of authors)
among_authors by [] h = absurd (true≢false (sym h))
among_authors by (None ∷ authors) h = among_authors by authors h
among_authors by (Some other ∷ authors) h = elim (or_cases (same_command by other) (list_any (is_author by) authors) h) [
  | inl same ↦ inl (sym (command_is by other same))
  | inr more ↦ inr (among_authors by authors more)
]

unlanded : (set : Setting) (past : Log) (m : Moment) (by : By) → IsLegalMoment set past m → lands_now by m ≡ true → is_landed by past ≡ false
unlanded set past (Happened (event.Landed space number authors groups)) by l h =
    (each_at (IsFreshCommand set past) (commands_of authors) by l.fresh.fresh (among_authors by authors h)).unlanded
unlanded set past _ by l h = absurd (true≢false (sym h))

LandsOnce : By → Log → Type 0
LandsOnce by log = (a b : Moment) → Among a log → Among b log → lands_now by a ≡ true → lands_now by b ≡ true → a ≡ b

module _ (set : Setting) (by : By) where
  once_step : (xs : Log) (m : Moment) → EachAfter (IsLegalMoment set) [] xs → IsLegalMoment set xs m → LandsOnce by xs → LandsOnce by (xs ++ m ∷ [])
  unfolding LandsOnce
  once_step xs m before l old a b here there x y = elim (among_append xs (m ∷ []) a here) [
    | inl i ↦ elim (among_append xs (m ∷ []) b there) [
      | inl j ↦ old a b i j x y
      | inr j ↦ absurd (clash a i x b (is_last b j) y)
    ]
    | inr i ↦ elim (among_append xs (m ∷ []) b there) [
      | inl j ↦ absurd (clash b j y a (is_last a i) x)
      | inr j ↦ sym (is_last a i) ∙ is_last b j
    ]
  ]
    where
      is_last : (z : Moment) → Among z (m ∷ []) → m ≡ z
      is_last z (inl same) = same
      is_last z (inr none) = absurd none

      clash : (old : Moment) → Among old xs → lands_now by old ≡ true → (new : Moment) → m ≡ new → lands_now by new ≡ true → ⊥
      clash old i x new same y = true≢false (sym (any_at (lands_now by) xs old i x) ∙ unlanded set xs m by l (ap (lands_now by) same ∙ y))

  lands_once : (log : Log) → IsLegalLog set log → LandsOnce by log
  unfolding LandsOnce
  lands_once log l = each_along (IsLegalMoment set) (LandsOnce by) once_step [] log tt l (λ a b here there x y. absurd here)

-- ---- one transaction in it

among_legal : (set : Setting) (base log : Log) (m : Moment) → EachAfter (IsLegalMoment set) base log → Among m log → (past : Log) × IsLegalMoment set past m
among_legal set base [] m l there = absurd there
among_legal set base (x ∷ log) m l (inl same) = (base, subst (IsLegalMoment set base) same l.0)
among_legal set base (x ∷ log) m l (inr more) = among_legal set (base ++ x ∷ []) log m l.1 more

commands_joined : (xs ys : List (Option By)) → commands_of (xs ++ ys) ≡ commands_of xs ++ commands_of ys
commands_joined [] ys = refl
commands_joined (None ∷ xs) ys = commands_joined xs ys
commands_joined (Some by ∷ xs) ys = ap (λ l. by ∷ l) (commands_joined xs ys)

distinct_behind : (xs ys : List By) → AreDistinct (xs ++ ys) → AreDistinct ys
distinct_behind [] ys d = d
distinct_behind (x ∷ xs) ys d = distinct_behind xs ys d.1

among_behind : (xs ys : List By) (by : By) → Among by ys → Among by (xs ++ ys)
among_behind [] ys by there = there
among_behind (x ∷ xs) ys by there = inr (among_behind xs ys by there)

among_group : (by : By) (groups : List Group) (g : Group) → Among g groups → g.authors ≡ by ∷ [] → Among by (commands_of (names_of groups))
among_group by [] g there alone = absurd there
among_group by (x ∷ groups) g (inl same) alone =
    let is : x.authors ≡ by ∷ [] = ap (λ z. z.authors) same ∙ alone in
    subst (Among by) (sym (ap (λ l. commands_of (names_of_group l ++ names_of groups)) is)) (inl refl)
among_group by (x ∷ groups) g (inr more) alone =
    subst (Among by) (sym (commands_joined (names_of_group x.authors) (names_of groups))) (among_behind (commands_of (names_of_group x.authors)) (commands_of (names_of groups)) by (among_group by groups g more alone))

one_group : (by : By) (groups : List Group) → AreDistinct (commands_of (names_of groups)) → (a b : Group) → Among a groups → Among b groups → a.authors ≡ by ∷ [] → b.authors ≡ by ∷ [] → a ≡ b
one_group by [] d a b here there x y = absurd here
one_group by (g ∷ groups) d a b here there x y = elim here [
  | inl i ↦ elim there [
    | inl j ↦ sym i ∙ j
    | inr j ↦ absurd (clash (ap (λ z. z.authors) i ∙ x) (among_group by groups b j y))
  ]
  | inr i ↦ elim there [
    | inl j ↦ absurd (clash (ap (λ z. z.authors) j ∙ y) (among_group by groups a i x))
    | inr j ↦ one_group by groups (distinct_behind (commands_of (names_of_group g.authors)) (commands_of (names_of groups)) (subst AreDistinct (commands_joined (names_of_group g.authors) (names_of groups)) d)) a b i j x y
  ]
]
  where
    clash : g.authors ≡ by ∷ [] → Among by (commands_of (names_of groups)) → ⊥
    clash is more =
        let apart : AreDistinct (by ∷ commands_of (names_of groups)) = subst (λ l. AreDistinct (commands_of (names_of_group l ++ names_of groups))) is d in
        each_at (λ other. by ≢ other) (commands_of (names_of groups)) by apart.0 more refl

-- a landing of transactions names them
named_so : (set : Setting) (past : Log) (number : ℕ) (authors : List (Option By)) (groups : List Group) → IsLegalLanding set past primary number authors groups → (g : Group) → Among g groups → authors ≡ names_of groups
named_so set past number authors groups l g there = of l.form
  where
    of : IsOpening set past primary number authors groups ⊎ IsRemoval set past primary number authors groups ⊎ IsAdvance set past primary number authors groups → authors ≡ names_of groups
    of (inl opening) = absurd (let none : Among g [] = subst (Among g) opening.empty there in none)
    of (inr (inl removal)) = absurd (let none : Among g [] = subst (Among g) removal.empty there in none)
    of (inr (inr advance)) = advance.named

-- ---- one job

module _ (s : Setup) (own : List Entry) (legal : IsLegal s own) (by : By) where
  log : Log
  log = rules.service_of (log_in s.work own)

  log_legal : IsLegalLog (setting_of s) (rules.service_of (log_in s.work own))
  log_legal = subst (IsLegalLog (setting_of s)) (sym (service_kept s.work own)) (service_legal s own legal)

  -- whoever stands alone in a transaction of a landing is one of its authors
  lands_so : (id number : ℕ) (h : HasBegun (log_in s.work own) by id number) → (past : Log) × IsLegalLanding (setting_of s) past primary number h.authors h.groups
  lands_so id number h = among_legal (setting_of s) [] (rules.service_of (log_in s.work own)) (Happened (event.Landed primary number h.authors h.groups)) log_legal (among_from (rules.service_of (log_in s.work own)) _ h.landing)

  authors_are : (id number : ℕ) (h : HasBegun (log_in s.work own) by id number) → h.authors ≡ names_of h.groups
  authors_are id number h = let l = lands_so id number h in named_so (setting_of s) l.0 number h.authors h.groups l.1 h.group (among_from h.groups h.group h.one)

  author_in : (authors : List (Option By)) → Among by (commands_of authors) → list_any (is_author by) authors ≡ true
  author_in [] there = absurd there
  author_in (None ∷ authors) there = author_in authors there
  author_in (Some other ∷ authors) there = at (same_command by other) refl there (author_in authors)
    where
      at : (b : Bool) → same_command by other ≡ b → (other ≡ by) ⊎ Among by (commands_of authors) → (Among by (commands_of authors) → list_any (is_author by) authors ≡ true) → (b || list_any (is_author by) authors) ≡ true
      at true is there again = refl
      at false is (inl same) again = absurd (true≢false (sym (ap (same_command by) same ∙ itself by) ∙ is))
      at false is (inr more) again = again more

  lands_by : (id number : ℕ) (h : HasBegun (log_in s.work own) by id number) → lands_now by (Happened (event.Landed primary number h.authors h.groups)) ≡ true
  lands_by id number h = author_in h.authors (subst (λ l. Among by (commands_of l)) (sym (authors_are id number h)) (among_group by h.groups h.group (among_from h.groups h.group h.one) h.alone))

  pub begins_one : (id other : ℕ) → id < 2 ^ 64 → HasSubmitted (log_in s.work own) by id → HasSubmitted (log_in s.work own) by other → other ≡ id
  unfolding LandsOnce
  begins_one id other small a b =
      let x = a.1 in
      let y = b.1 in
      let here = among_from (rules.service_of (log_in s.work own)) (Happened (event.Landed primary a.0 x.authors x.groups)) x.landing in
      let there = among_from (rules.service_of (log_in s.work own)) (Happened (event.Landed primary b.0 y.authors y.groups)) y.landing in
      let same : Happened (event.Landed primary a.0 x.authors x.groups) ≡ Happened (event.Landed primary b.0 y.authors y.groups)
      = lands_once (setting_of s) by (rules.service_of (log_in s.work own)) log_legal (Happened (event.Landed primary a.0 x.authors x.groups)) (Happened (event.Landed primary b.0 y.authors y.groups)) here there (lands_by id a.0 x) (lands_by other b.0 y) in
      let groups : x.groups ≡ y.groups = cc in
      let l = lands_so other b.0 y in
      let distinct = subst (λ n. AreDistinct (commands_of n)) (authors_are other b.0 y) l.1.fresh.differ in
      let one : x.group ≡ y.group = one_group by y.groups distinct x.group y.group (subst (Among x.group) groups (among_from x.groups x.group x.one)) (among_from y.groups y.group y.one) x.alone y.alone in
      sole y.group id other small (subst (λ g. Begins g id) one x.begins) y.begins
