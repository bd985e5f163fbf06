-- The next second is the least one ahead.
use Rattle.std.proofs.Common.{◌≡◌, ℕ, ◌<◌, ◌≤◌, ◌⊎◌, inl, inr, List, [], ◌∷◌, ◌++◌, Option, Some, None, min, refl, sym, ◌∙◌, subst, arith}
use Rattle.std.specs.Prelude.{All, IfSome, filter, filter_map, nat_lt}
use Rattle.std.specs.List.{fold, reduce}
use Rattle.std.proofs.lemmas.Bool.{cases_lt, lt-ltb, ltb-true}
use Rattle.job_rules.proofs.Among.{Among, all_at, all_from, among_append, among_filter, among_from, among_kept, among_left, among_right, contains_from}
use Rattle.job_book.specs.Seconds.{IsSoonest}
use Rattle.manager_rules.specs.Times.{IsLeast}
use Rattle.job_clock.proofs.Targets.{from_kept, to_kept}
use Rattle.job_clock.specs.Targets.{IsNextTick}

-- ---- the least of a list

least_among : (a : ℕ) (xs : List ℕ) → Among (fold min a xs) (a ∷ xs)
least_among a [] = inl refl
least_among a (x ∷ xs) = elim (least_among (min a x) xs) [
  | inl e ↦ elim (either a x) [ inl m ↦ inl (sym m ∙ e) | inr m ↦ inr (inl (sym m ∙ e)) ]
  | inr i ↦ inr (inr i)
]
  where
    either : (m n : ℕ) → (min m n ≡ m) ⊎ (min m n ≡ n)
    either m n = grind arith

least_below : (a : ℕ) (xs : List ℕ) (o : ℕ) → Among o (a ∷ xs) → fold min a xs ≤ o
least_below a [] o i = elim i [ inl e ↦ omega (arith, e) | inr none ↦ absurd none ]
least_below a (x ∷ xs) o i = elim i [
  | inl e ↦ let m = least_below (min a x) xs (min a x) (inl refl) in omega (arith, m, e)
  | inr (inl e) ↦ let m = least_below (min a x) xs (min a x) (inl refl) in omega (arith, m, e)
  | inr (inr j) ↦ least_below (min a x) xs o (inr j)
]

pub soonest_of : (xs : List ℕ) (r : Option ℕ) → r ≡ reduce min xs → IsSoonest xs r
soonest_of [] r e = subst (IsSoonest []) (sym e) refl
soonest_of (x ∷ xs) r e = subst (IsSoonest (x ∷ xs)) (sym e) (record {
  one = contains_from (x ∷ xs) (fold min x xs) (least_among x xs);
  least = all_from (λ o. fold min x xs ≤ o) (x ∷ xs) (λ o i. least_below x xs o i);
})

-- ---- bounds and nothing ahead

pub bounded_in : {A : Type 0} (P : ℕ → Type 0) (f : A → Option ℕ) (xs : List A) → All P (filter_map f xs) → All (λ x. IfSome (f x) P) xs
bounded_in {A} P f xs h = all_from (λ x. IfSome (f x) P) xs (λ x i. at x i (f x) refl)
  where
    at : (x : A) → Among x xs → (o : Option ℕ) → f x ≡ o → IfSome o P
    at x i None e = tt
    at x i (Some y) e = all_at P (filter_map f xs) y h (to_kept f xs x y i e)

pub bounded_from : {A : Type 0} (P : ℕ → Type 0) (f : A → Option ℕ) (xs : List A) → All (λ x. IfSome (f x) P) xs → All P (filter_map f xs)
bounded_from P f xs h = all_from P (filter_map f xs) (λ y i.
    let k = from_kept f xs y i in
    subst (λ o. IfSome o P) k.2 (all_at (λ x. IfSome (f x) P) xs k.0 h k.1))

pub none_ahead : (targets : List ℕ) (now : ℕ) → filter (λ target. nat_lt now target) targets ≡ [] → All (λ target. target ≤ now) targets
none_ahead targets now e = all_from (λ target. target ≤ now) targets (λ target i. elim (cases_lt now target) [
  | inl ahead ↦ absurd (subst (Among target) e (among_kept (λ t. nat_lt now t) targets target i (lt-ltb now target ahead)))
  | inr past ↦ past
])

-- ---- the next tick

ahead_of : (xs : List ℕ) (now x : ℕ) → Among x (filter (λ t. nat_lt now t) xs) → Among x xs × (now < x)
ahead_of xs now x i = let both = among_filter (λ t. nat_lt now t) xs x i in (both.0, ltb-true now x both.1)

least_of : (xs : List ℕ) (now n x : ℕ) → IsLeast (filter (λ t. nat_lt now t) xs) n → Among x xs → now < x → n ≤ x
least_of xs now n x l i ahead = all_at (λ o. n ≤ o) (filter (λ t. nat_lt now t) xs) x l.least (among_kept (λ t. nat_lt now t) xs x i (lt-ltb now x ahead))

module _ (targets seconds : List ℕ) (now target : ℕ) (l : IsLeast (filter (λ t. nat_lt now t) targets) target) where
  abbrev ends : List ℕ
  ends = filter (λ t. nat_lt now t) seconds

  here : Among target targets × (now < target)
  here = ahead_of targets now target (among_from _ target l.one)

  pub next_alone : ends ≡ [] → IsNextTick targets ends now target
  next_alone none = record {
    target = target;
    wanted = contains_from targets target here.0;
    unreached = here.1;
    above = here.1;
    one = contains_from (targets ++ ends) target (among_left targets ends target here.0);
    least = λ other c ahead. elim (among_append targets ends other (among_from (targets ++ ends) other c)) [
      | inl i ↦ least_of targets now target other l i ahead
      | inr i ↦ absurd (subst (Among other) none i)
    ];
  }

  pub next_of_two : (second : ℕ) → IsLeast ends second → IsNextTick targets ends now (min target second)
  next_of_two second s =
      let end = ahead_of seconds now second (among_from ends second s.one) in
      record {
        target = target;
        wanted = contains_from targets target here.0;
        unreached = here.1;
        above = omega (arith, here.1, end.1);
        one = contains_from (targets ++ ends) (min target second) (elim (cases_lt target second) [
          | inl low ↦ let is : target ≡ min target second = omega (arith, low) in subst (λ n. Among n (targets ++ ends)) is (among_left targets ends target here.0)
          | inr high ↦ let is : second ≡ min target second = omega (arith, high) in subst (λ n. Among n (targets ++ ends)) is (among_right targets ends second (among_from ends second s.one))
        ]);
        least = λ other c ahead. elim (among_append targets ends other (among_from (targets ++ ends) other c)) [
          | inl i ↦ let low : target ≤ other = least_of targets now target other l i ahead in omega (arith, low)
          | inr i ↦ let low : second ≤ other = all_at (λ o. second ≤ o) ends other s.least i in omega (arith, low)
        ];
      }
