-- What an actor does whose instance has gone.
use Rattle.std.proofs.Common.{◌≡◌, ◌∙◌, ℕ, ◌+◌, ◌-◌, ◌<◌, ◌≤◌, ◌==◌, ◌&&◌, ◌||◌, inl, inr, List, [], ◌∷◌, ◌++◌, Bool, true, false, Some, None, cond, count_by, length, refl, sym, ap, ap₂, subst, arith}
use Rattle.std.specs.Prelude.{find, is_some, nat_lt, slice_get, slice_set}
use Rattle.std.specs.List.{list_any}
use Rattle.std.proofs.lemmas.Bool.{cases_lt, eq-eqb, eqb-true, le-ltb, lt-ltb, ne_eqb}
use Rattle.std.proofs.lemmas.Bool.Decides.{nat_tests}
use Rattle.std.proofs.lemmas.List.Folds.{list_any-append}
use Rattle.instance.proofs.kvs_rules_proofs.Sequences.{each_along}
use Rattle.instance.specs.workload.declared.work.Line.{Line}
use Rattle.instance.specs.answers.Chronicle.{IsOpenCommand, Setup, is_issued, issues, issues_of, replies_to}
use Rattle.instance.specs.answers.Legal.{IsLegalIssue}
use Rattle.instance.specs.answers.declared.chronicle.Entry.{Entry}
use Rattle.instance.specs.answers.declared.chronicle.Entry.TheVariants as entry
use Rattle.instance.specs.answers.declared.chronicle.Reply.TheVariants as reply
use Rattle.instance.specs.answers.declared.steps.Step.{Step}
use Rattle.instance.specs.answers.declared.steps.Step.TheVariants as step
use Rattle.hierarchy.specs.Births.{has_lost_home, is_at, label_of, numbers}
use Rattle.hierarchy.specs.Grows.{GrowsByLost}
use Rattle.hierarchy.specs.Legal.{HasRunRest, IsLegalRun, IsLegalRunEntry, RunRestsFirst}
use Rattle.hierarchy.specs.Stretches.{IsRunStretch}
use Rattle.hierarchy.proofs.Growth.{issue_grown, reply_grown}
use Rattle.hierarchy.proofs.Homes.{lost_so}
use Rattle.instance.specs.Steps.{IsStart}
use Rattle.world.specs.Advances.{Advances}
use Rattle.homes.specs.Homes.{IsNextLine, IsPlace, answered, home_in}
use Rattle.world.specs.Sound.{IsSound}
use Rattle.world.specs.Value.{WorldValue}
use Rattle.homes.specs.declared.homes.Home.{Home}
use Rattle.homes.specs.declared.homes.Place.{Place}
use Rattle.homes.proofs.Lining.{next_command}
use Rattle.homes.proofs.Placing.{AreSilent, by_of, counts_joined, home_stays, place_issued, place_replied, places_behind}
use Rattle.world.proofs.Running.{home_born, home_is, known}
use Rattle.homes.proofs.Seating.{any_counted, none_counted}
use Rattle.homes.proofs.Standing.{homes_stay}
use Rattle.world.proofs.Stepping.{step_advances, step_sound, stepped, valid_so}

-- ---- the commands that are issued

issue_here : (set : Setup) (c : List Entry) (e : Entry) (actor : ℕ) → IsLegalRunEntry set c e → issues_of actor e ≡ true → issues (by_of actor (count_by (issues_of actor) c)) e ≡ true
issue_here set c (entry.Issued a k) actor legal is =
    let same : actor ≡ a = eqb-true actor a is in
    ap₂ (λ x y. x && y) is (eq-eqb (count_by (issues_of actor) c) k (ap (λ x. count_by (issues_of x) c) same ∙ sym legal.grounds.0.next))
issue_here set c (entry.Landed i space number authors groups) actor legal is = cc
issue_here set c (entry.Denied i space authors group refusal) actor legal is = cc
issue_here set c (entry.Heard i b space number) actor legal is = cc
issue_here set c (entry.Got i b reference) actor legal is = cc
issue_here set c (entry.Dropped i b reference) actor legal is = cc
issue_here set c (entry.Replied a k given number) actor legal is = cc
issue_here set c (entry.Told from to) actor legal is = cc
issue_here set c (entry.Watched other command number first count) actor legal is = cc
issue_here set c (entry.Ticked second) actor legal is = cc
issue_here set c (entry.Born child parent job name second grant) actor legal is = cc
issue_here set c (entry.Gone child parent job shut) actor legal is = cc
issue_here set c entry.Closed actor legal is = cc

-- each of so many commands of the actor is issued
abbrev AreIssued : ℕ → List Entry → Type 0
AreIssued actor c = (k : ℕ) → k < count_by (issues_of actor) c → is_issued (by_of actor k) c ≡ true

issued_push : (set : Setup) (actor : ℕ) (c : List Entry) (e : Entry) → IsLegalRunEntry set c e → AreIssued actor c → AreIssued actor (c ++ e ∷ [])
issued_push set actor c e legal old k below =
    list_any-append (issues (by_of actor k)) c (e ∷ []) ∙ by (issues_of actor e) refl
  where
    counted : count_by (issues_of actor) (c ++ e ∷ []) ≡ count_by (issues_of actor) c + count_by (issues_of actor) (e ∷ [])
    counted = counts_joined (issues_of actor) c (e ∷ [])

    left : (a b : Bool) → a ≡ true → (a || b) ≡ true
    left true b h = refl
    left false b h = cc

    right : (a b : Bool) → b ≡ true → (a || (b || false)) ≡ true
    right true b h = refl
    right false true h = refl
    right false false h = cc

    by : (b : Bool) → issues_of actor e ≡ b → (is_issued (by_of actor k) c || list_any (issues (by_of actor k)) (e ∷ [])) ≡ true
    by false is =
        let none : count_by (issues_of actor) (e ∷ []) ≡ 0 = ap (λ (b : Bool). 0 + cond {A = ℕ} b 1 0) is in
        left (is_issued (by_of actor k) c) (list_any (issues (by_of actor k)) (e ∷ [])) (old k (omega (arith, counted, below)))
    by true is =
        let one : count_by (issues_of actor) (e ∷ []) ≡ 1 = ap (λ (b : Bool). 0 + cond {A = ℕ} b 1 0) is in
        elim (cases_lt k (count_by (issues_of actor) c)) [
          | inl less ↦ left (is_issued (by_of actor k) c) (list_any (issues (by_of actor k)) (e ∷ [])) (old k less)
          | inr past ↦
              let last : k ≡ count_by (issues_of actor) c = omega (arith, counted, below) in
              right (is_issued (by_of actor k) c) (issues (by_of actor k) e) (ap (λ n. issues (by_of actor n) e) last ∙ issue_here set c e actor legal is)
        ]

-- in a legal run the commands of an actor are issued in order
pub all_issued : (set : Setup) (c : List Entry) (actor : ℕ) → IsLegalRun set c → AreIssued actor c
all_issued set c actor legal =
    each_along (IsLegalRunEntry set) (AreIssued actor) (λ xs y _ h old. issued_push set actor xs y h old) [] c tt legal (λ k below. absurd (omega (arith, below)))

-- ---- where the actor's instance is

found_passes : (test : ℕ → Bool) (xs : List ℕ) (x : ℕ) → find test xs ≡ Some x → test x ≡ true
found_passes test [] x e = cc
found_passes test (y ∷ xs) x e = by (test y) refl e (found_passes test xs x)
  where
    by : (b : Bool) → test y ≡ b → cond b (Some y) (find test xs) ≡ Some x → (find test xs ≡ Some x → test x ≡ true) → test x ≡ true
    by true is e more = (let same : y ≡ x = cc in ap test (sym same) ∙ is)
    by false is e more = more e

pub at_home : (set : Setup) (c : List Entry) (actor i : ℕ) → home_in set c actor ≡ Some i → is_at set.work.actors (label_of c i) actor ≡ true
at_home set c actor i e = found_passes (λ n. is_at set.work.actors (label_of c n) actor) (numbers c) i e

module _ (v : WorldValue) (sound : IsSound v) (runs : v.closed ≡ false) (actor i : ℕ) (p : Place) (h : Home)
    (standing : slice_get v.places actor ≡ Some p) (home : p.home ≡ Some i) (here : slice_get v.homes i ≡ Some h) (gone : h.gone ≡ true) where
  place : IsPlace v.set v.chronicle actor p
  place = (sound.runs runs).places.each actor p standing

  is_here : is_at v.set.work.actors (label_of v.chronicle i) actor ≡ true
  is_here = at_home v.set v.chronicle actor i (sym place.home ∙ home)

  lost : has_lost_home v.set.work.actors v.chronicle actor ≡ true
  lost = lost_so v.set v.chronicle (sound.runs runs).on i actor (sym (home_is v sound runs i h here).gone ∙ gone) is_here

  module _ (e : Entry) (t : Step) (g : GrowsByLost v.set v.chronicle e) (stretch : IsRunStretch v.set v.chronicle t (e ∷ []))
      (new : Place) (stands : IsPlace v.set (v.chronicle ++ e ∷ []) actor new) (others : (other : ℕ) → (other ≡ actor → ⊥) → AreSilent other (e ∷ []))
      (c : List Entry) (steps : List Step) (ends : List ℕ) (ec : c ≡ v.chronicle ++ e ∷ []) (es : steps ≡ v.steps ++ t ∷ []) (ee : ends ≡ v.ends ++ length c ∷ []) where
    left_sound : IsSound (stepped v c steps ends v.homes (slice_set v.places actor new))
    left_sound = step_sound v t (e ∷ []) stretch c steps ends v.homes (slice_set v.places actor new) ec es ee sound runs (g.legal, tt)
        (valid_so v.set v.chronicle (e ∷ []) g.so sound.valid)
        (record {
          on = g.on;
          homes = homes_stay v.set v.chronicle (e ∷ []) v.homes (sound.runs runs).homes (known v sound runs) g.so g.others;
          places = places_behind v.set v.chronicle (e ∷ []) g.so.numbered g.so.births v.places (sound.runs runs).places actor p new standing others stands;
        })

    left_advances : ((IsStart t → HasRunRest v.set v.chronicle) → RunRestsFirst v.set v.chronicle e) → Advances v t (stepped v c steps ends v.homes (slice_set v.places actor new))
    left_advances rests = step_advances v t (e ∷ []) stretch c steps ends v.homes (slice_set v.places actor new) ec es ee (λ told. (rests told, tt))

  -- ---- it is told

  module _ (waits : p.waits ≡ true) where
    abbrev pub told : Entry
    told = entry.Replied actor (p.issued - 1) reply.Gone None

    pub has_some : 0 < p.issued
    has_some = place.begun waits

    all_but_last : answered p ≡ p.issued - 1
    all_but_last = ap (λ b. cond b (p.issued - 1) p.issued) waits

    open_last : IsOpenCommand (by_of actor (p.issued - 1)) v.chronicle
    open_last = (
      all_issued v.set v.chronicle actor sound.legal (p.issued - 1) (let many = place.issued in let some = has_some in omega arith),
      none_counted (replies_to (by_of actor (p.issued - 1))) v.chronicle
          (place.replied (p.issued - 1) ∙ ap (λ b. cond b 1 0) (le-ltb (p.issued - 1) (answered p) (let last = all_but_last in omega arith))),
    )

    grows : GrowsByLost v.set v.chronicle told
    grows = reply_grown v.set v.chronicle actor (p.issued - 1) (sound.runs runs).on lost open_last

    told_stretch : IsRunStretch v.set v.chronicle (step.Answer actor) (told ∷ [])
    told_stretch = record {
      home = i;
      is = is_here;
      stretch = record {
        born = home_born v sound runs i h here;
        own = told ∷ [];
        entered = refl;
        allowed = record { before = []; reply = told; split = refl; replies = (refl, refl); others = tt };
      };
    }

    one_reply : (k : ℕ) → count_by (replies_to (by_of actor k)) (told ∷ []) ≡ cond (k == p.issued - 1) 1 0
    one_reply k = ap (λ (b : Bool). 0 + cond {A = ℕ} (b && (k == p.issued - 1)) 1 0) (eq-eqb actor actor refl) ∙ plain (cond (k == p.issued - 1) 1 0)
      where
        plain : (n : ℕ) → 0 + n ≡ n
        plain n = omega arith

    counted : (k : ℕ) → count_by (replies_to (by_of actor k)) (v.chronicle ++ told ∷ []) ≡ cond (nat_lt k p.issued) 1 0
    counted k =
        counts_joined (replies_to (by_of actor k)) v.chronicle (told ∷ [])
        ∙ ap₂ (λ a b. a + b) (place.replied k ∙ ap (λ n. cond (nat_lt k n) 1 0) all_but_last) (one_reply k)
        ∙ sums k p.issued has_some
      where
        sums : (k n : ℕ) → 0 < n → cond (nat_lt k (n - 1)) 1 0 + cond (k == n - 1) 1 0 ≡ cond (nat_lt k n) 1 0
        sums k n some = grind (arith, nat_tests)

    told_place : IsPlace v.set (v.chronicle ++ told ∷ []) actor (record { home = p.home; next = p.next; issued = p.issued; waits = false })
    told_place = place_replied v.set v.chronicle (told ∷ []) actor (home_stays v.set v.chronicle (told ∷ []) actor grows.so.numbered grows.so.births) p place
        refl (p.issued - 1) (le_of_one (one_reply (p.issued - 1) ∙ ap (λ b. cond b 1 0) (eq-eqb (p.issued - 1) (p.issued - 1) refl))) p.issued (omega arith) counted
      where
        le_of_one : {n : ℕ} → n ≡ 1 → 1 ≤ n
        le_of_one e = omega arith

    told_others : (other : ℕ) → (other ≡ actor → ⊥) → AreSilent other (told ∷ [])
    told_others other ne = record { issues = refl; replies = λ k. ap (λ (b : Bool). 0 + cond {A = ℕ} (b && (k == p.issued - 1)) 1 0) (ne_eqb other actor ne) }

    module _ (c : List Entry) (steps : List Step) (ends : List ℕ) (ec : c ≡ v.chronicle ++ told ∷ []) (es : steps ≡ v.steps ++ step.Answer actor ∷ []) (ee : ends ≡ v.ends ++ length c ∷ []) where
      pub tell_sound : IsSound (stepped v c steps ends v.homes (slice_set v.places actor (record { home = p.home; next = p.next; issued = p.issued; waits = false })))
      tell_sound = left_sound told (step.Answer actor) grows told_stretch (record { home = p.home; next = p.next; issued = p.issued; waits = false }) told_place told_others c steps ends ec es ee

      pub tell_advances : Advances v (step.Answer actor) (stepped v c steps ends v.homes (slice_set v.places actor (record { home = p.home; next = p.next; issued = p.issued; waits = false })))
      tell_advances = left_advances told (step.Answer actor) grows told_stretch (record { home = p.home; next = p.next; issued = p.issued; waits = false }) told_place told_others c steps ends ec es ee (λ _. tt)

  -- ---- it issues its next command

  module _ (free : p.waits ≡ false) (d : Line) (more : p.next < length v.set.work.lines) where
    abbrev pub issued : Entry
    issued = entry.Issued actor p.issued

    all_answered : answered p ≡ p.issued
    all_answered = ap (λ b. cond b (p.issued - 1) p.issued) free

    legal_issue : IsLegalIssue v.set v.chronicle (by_of actor p.issued)
    legal_issue = record {
      exists = ap is_some (next_command v.set.work actor p.issued p.next place.next d more);
      next = sym place.issued;
      replied = λ earlier below. any_counted (replies_to (by_of actor earlier)) v.chronicle
          (one_at earlier (place.replied earlier ∙ ap (λ b. cond b 1 0) (lt-ltb earlier (answered p) (let same = all_answered in omega arith))));
    }
      where
        one_at : (k : ℕ) → count_by (replies_to (by_of actor k)) v.chronicle ≡ 1 → 1 ≤ count_by (replies_to (by_of actor k)) v.chronicle
        one_at k e = omega arith

    issue_grows : GrowsByLost v.set v.chronicle issued
    issue_grows = issue_grown v.set v.chronicle actor p.issued (sound.runs runs).on lost legal_issue

    issued_stretch : IsRunStretch v.set v.chronicle (step.Issue actor) (issued ∷ [])
    issued_stretch = record {
      home = i;
      is = is_here;
      stretch = record {
        born = home_born v sound runs i h here;
        own = issued ∷ [];
        entered = refl;
        allowed = record { command = p.issued; behind = []; split = refl; others = tt };
      };
    }

    module _ (new : Place) (is : new ≡ record { home = p.home; next = new.next; issued = p.issued + 1; waits = true }) (line : IsNextLine v.set.work.lines actor (p.issued + 1) new.next) where
      issued_place : IsPlace v.set (v.chronicle ++ issued ∷ []) actor new
      issued_place = subst (IsPlace v.set (v.chronicle ++ issued ∷ []) actor) (sym is)
          (place_issued v.set v.chronicle (issued ∷ []) actor (home_stays v.set v.chronicle (issued ∷ []) actor issue_grows.so.numbered issue_grows.so.births) p place free
          (ap (λ (b : Bool). 0 + cond {A = ℕ} b 1 0) (eq-eqb actor actor refl)) (λ k. refl) new.next line)

      issued_others : (other : ℕ) → (other ≡ actor → ⊥) → AreSilent other (issued ∷ [])
      issued_others other ne = record { issues = ap (λ (b : Bool). 0 + cond {A = ℕ} b 1 0) (ne_eqb other actor ne); replies = λ k. refl }

      module _ (c : List Entry) (steps : List Step) (ends : List ℕ) (ec : c ≡ v.chronicle ++ issued ∷ []) (es : steps ≡ v.steps ++ step.Issue actor ∷ []) (ee : ends ≡ v.ends ++ length c ∷ []) where
        pub issue_left_sound : IsSound (stepped v c steps ends v.homes (slice_set v.places actor new))
        issue_left_sound = left_sound issued (step.Issue actor) issue_grows issued_stretch new issued_place issued_others c steps ends ec es ee

        pub issue_left_advances : Advances v (step.Issue actor) (stepped v c steps ends v.homes (slice_set v.places actor new))
        issue_left_advances = left_advances issued (step.Issue actor) issue_grows issued_stretch new issued_place issued_others c steps ends ec es ee (λ told. told tt)
