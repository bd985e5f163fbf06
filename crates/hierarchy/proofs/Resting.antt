-- When a run rests with its living instances, and when no advance is left behind.
use Rattle.std.proofs.Common.{◌≡◌, ℕ, ◌+◌, ◌&&◌, inl, inr, List, [], ◌∷◌, Bool, true, false, cond, count_by, not, Option, Some, None, is_some, option_map, filter_map, refl, sym, ap, ap₂, subst, arith, true≢false}
use Rattle.std.specs.Prelude.{Contains, option_and_then}
use Rattle.std.specs.List.{cons_option}
use Rattle.std.proofs.lemmas.Bool.{and_parts, eq-eqb, or_cases}
use Rattle.std.proofs.lemmas.List.Sums.{sum_by-cons}
use Rattle.job_rules.proofs.Among.{Among, any_at, any_from}
use Rattle.kvs_rules.specs.Quiet.{AreAllTold}
use Rattle.kvs_txn.specs.declared.txn.By.{By}
use Rattle.instance_rules.specs.Family.{HasToWait, HasToWaitIn, IsEndOf, IsFamilyTold, Living}
use Rattle.instance_rules.specs.Log.{service_of}
use Rattle.workload.specs.declared.work.Command.{Command}
use Rattle.answers.specs.Chronicle.{IsOpenCommand, Setup, before_issue, is_issued, is_replied, issues, issues_of}
use Rattle.answers.specs.Commands.{command_at}
use Rattle.answers.specs.Jobs.{living_of}
use Rattle.answers.specs.Legal.{HasSettled}
use Rattle.answers.specs.Services.{setting_of}
use Rattle.answers.specs.Whole.{HasComeToRest}
use Rattle.answers.specs.declared.chronicle.Entry.{Entry}
use Rattle.answers.specs.declared.chronicle.Entry.TheVariants as entry
use Rattle.answers.proofs.JobLogs.{service_kept}
use Rattle.hierarchy.specs.Births.{has_home, has_lost_home, is_at, is_born, is_gone, label_of, lives, numbers}
use Rattle.hierarchy.specs.Families.{family_of, left_by, left_in, living_in, second_in, seconds_asked}
use Rattle.hierarchy.specs.Growing.{GoesOn}
use Rattle.hierarchy.specs.Legal.{HasRunRest}
use Rattle.hierarchy.specs.Own.{own_of, setup_in}
use Rattle.hierarchy.proofs.Homes.{all_idle, lost_so}
use Rattle.hierarchy.proofs.Members.{member}
use Rattle.hierarchy.proofs.Nested.{in_family}
use Rattle.hierarchy.proofs.Open.{open_in}
use Rattle.hierarchy.proofs.Owning.{is_alive}

module _ (set : Setup) (c : List Entry) (rests : (i : ℕ) → lives c i ≡ true → HasComeToRest (setup_in set c i) (own_of set c i)) where
  pub all_told : IsFamilyTold (family_of set c)
  all_told l here =
      let m = member set c l here in
      subst (λ x. AreAllTold x.inst.service (service_of x.log)) (sym m.is)
      (subst (AreAllTold (setting_of (setup_in set c l.number))) (sym (service_kept (setup_in set c l.number).work (own_of set c l.number))) (rests l.number m.lives_so).told)

-- ---- open commands

-- what a command waits for is a matter of its instance and its log alone
waits_as : (l m : Living) (by : By) → m.inst ≡ l.inst → m.log ≡ l.log → HasToWait l by → HasToWait m by
waits_as l m by inst log w =
    subst (λ i. HasToWait (record { number = m.number; inst = i; log = m.log; from = m.from; shuts = m.shuts }) by) (sym inst)
    (subst (λ g. HasToWait (record { number = m.number; inst = l.inst; log = g; from = m.from; shuts = m.shuts }) by) (sym log) (of w))
  where
    of : HasToWait l by → HasToWait (record { number = m.number; inst = l.inst; log = l.log; from = m.from; shuts = m.shuts }) by
    of (inl r) = inl (record { request = r.request; asks = r.asks; waits = r.waits; left = r.left })
    of (inr (inl a)) = inr (inl (record { seconds = a.seconds; asks = a.asks; waits = a.waits; ahead = a.ahead }))
    of (inr (inr (where_, r))) = inr (inr (
      where_,
      record {
        label = r.label;
        waits = r.waits;
        store = r.store;
        standing = r.standing;
        jobs = r.jobs;
        are = r.are;
        j = r.j;
        known = r.known;
        asks = r.asks;
        names = r.names;
        is = r.is;
        goes_on = r.goes_on;
      },
    ))

issues_its : (by : By) (e : Entry) → issues by e ≡ true → issues_of by.actor e ≡ true
issues_its by (entry.Issued actor command) is = (and_parts _ _ is).0
issues_its by _ is = absurd (true≢false (sym is))

none_counted : (by : By) (c : List Entry) → count_by (issues_of by.actor) c ≡ 0 → is_issued by c ≡ true → ⊥
none_counted by [] none issued = true≢false (sym issued)
none_counted by (e ∷ c) none issued =
    let both : count_by (issues_of by.actor) (e ∷ c) ≡ cond (issues_of by.actor e) 1 0 + count_by (issues_of by.actor) c = sum_by-cons (λ x. cond (issues_of by.actor x) 1 0) e c in
    elim (or_cases (issues by e) (is_issued by c) issued) [
      | inl is ↦ let one : ◌≡◌ {A = ℕ} (cond (issues_of by.actor e) 1 0) 1 = ap (λ b. cond b 1 0) (issues_its by e is) in absurd (omega (arith, both, none, one))
      | inr more ↦ none_counted by c (omega (arith, both, none)) more
    ]

module _ (set : Setup) (c : List Entry) (on : GoesOn set c) (settled : (i : ℕ) → lives c i ≡ true → HasSettled (setup_in set c i) (own_of set c i))
    (lost : (by : By) → has_lost_home set.work.actors c by.actor ≡ true → IsOpenCommand by c → ⊥) where
  -- it is one of an actor whose instance lives
  all_wait : (by : By) → IsOpenCommand by c → HasToWaitIn (family_of set c) by
  all_wait by waiting = at (has_home set.work.actors c by.actor) refl
    where
      in_home : (i : ℕ) → is_born c i ≡ true → is_at set.work.actors (label_of c i) by.actor ≡ true → (b : Bool) → is_gone c i ≡ b → HasToWaitIn (family_of set c) by
      in_home i born here true gone = absurd (lost by (lost_so set c on i by.actor gone here) waiting)
      in_home i born here false stays =
          let alive = is_alive c i born stays in
          (living_in set c i, in_family set c i alive, waits_as (living_of (setup_in set c i) (own_of set c i)) (living_in set c i) by refl refl ((settled i alive).waits by (open_in set c i by on alive here waiting)))

      at : (b : Bool) → has_home set.work.actors c by.actor ≡ b → HasToWaitIn (family_of set c) by
      at false none = absurd (none_counted by c (on.quiet by.actor none).issued waiting.0)
      at true has =
          let f = any_from (λ n. is_born c n && is_at set.work.actors (label_of c n) by.actor) (numbers c) has in
          let p = and_parts (is_born c f.0) (is_at set.work.actors (label_of c f.0) by.actor) f.2 in
          in_home f.0 p.0 p.1 (is_gone c f.0) refl

  pub all_rest : ((l : Living) → Contains (family_of set c) l → IsEndOf (family_of set c) l → ⊥) → HasRunRest set c
  all_rest stays = record {
    told = all_told set c (λ i alive. (settled i alive).rests);
    idle = all_idle set c (λ i alive. (settled i alive).rests.idle) stays;
    waits = all_wait;
  }

-- ---- advances left behind

none_kept : {A B : Type 0} (f : A → Option B) (xs : List A) → ((x : A) → Among x xs → f x ≡ None) → filter_map f xs ≡ []
none_kept f [] h = refl
none_kept f (x ∷ xs) h = ap₂ cons_option (h x (inl refl)) (none_kept f xs (λ y there. h y (inr there)))

none_asked : (lost replied : Bool) (base : ℕ) (o : Option Command) → (lost ≡ true → is_some o ≡ true → replied ≡ true)
    → cond (lost && not replied) (option_map (λ seconds. base + seconds) (option_and_then seconds_asked o)) None ≡ None
none_asked false replied base o h = refl
none_asked true true base o h = refl
none_asked true false base None h = refl
none_asked true false base (Some command) h = absurd (true≢false (sym (h refl refl)))

module _ (set : Setup) (c : List Entry)
    (answered : (by : By) → has_lost_home set.work.actors c by.actor ≡ true → is_issued by c ≡ true → is_some (command_at set.work by) ≡ true → is_replied by c ≡ true) where
  none_left : (e : Entry) → Among e c → left_by set c e ≡ None
  none_left (entry.Issued actor number) there =
      let by : By = record { actor = actor; command = number } in
      let this : issues by (entry.Issued actor number) ≡ true = ap₂ (λ a b. a && b) (eq-eqb actor actor refl) (eq-eqb number number refl) in
      none_asked (has_lost_home set.work.actors c actor) (is_replied by c) (second_in set (before_issue by c)) (command_at set.work by)
      (λ lost some. answered by lost (any_at (issues by) c (entry.Issued actor number) there this) some)
  none_left _ there = refl

  pub left_empty : left_in set c ≡ []
  left_empty = none_kept (left_by set c) c none_left

-- no command is open whose actor's instance has gone
pub left_answered : (set : Setup) (c : List Entry) → ((by : By) → has_lost_home set.work.actors c by.actor ≡ true → IsOpenCommand by c → ⊥) → left_in set c ≡ []
left_answered set c none = left_empty set c (λ by lost issued some. replied by lost issued (is_replied by c) refl)
  where
    replied : (by : By) → has_lost_home set.work.actors c by.actor ≡ true → is_issued by c ≡ true → (b : Bool) → is_replied by c ≡ b → b ≡ true
    replied by lost issued true is = refl
    replied by lost issued false is = absurd (none by lost (issued, is))
