-- The children of jobs are those of the log.
use Rattle.std.proofs.Common.{◌≡◌, ◌≢◌, ℕ, ◌<◌, ◌==◌, ◌&&◌, ◌||◌, inl, inr, List, [], ◌∷◌, ◌++◌, length, map, Bool, true, false, cond, Option, Some, None, Contains, refl, sym, ap, ◌∙◌, subst, true≢false}
use Rattle.std.specs.Prelude.{not, unwrap_or, is_some}
use Rattle.std.specs.List.{list_any}
use Rattle.std.specs.Option.{option_map_or}
use Rattle.std.proofs.lemmas.Bool.{and_parts, cond-false, cond-true, eq-eqb, eqb-true, false_from_ne_true, ne_eqb}
use Rattle.std.proofs.lemmas.List.{get_or-map, length-map, same_lists}
use Rattle.job_rules.proofs.Among.{Among, among_append, among_from, among_left, among_map, among_mapped, among_right, any_at, any_from, contains_from}
use Rattle.kvs_rules.proofs.Sequences.{latest_push}
use Rattle.instance_rules.specs.Log.{Born, Gone, Log, Moment, child_of, child_told}
use Rattle.manager_rules.specs.Scene.{has_child, has_living_child, has_shut_child, is_child_of, is_living, is_shut}
use Rattle.manager_rules.specs.declared.asked.Asked.{Asked}
use Rattle.manager_rules.specs.declared.asked.Asked.TheVariants as asked
use Rattle.job_commands.specs.Children.{AreChildrenOf, AreEnded, LeavesChildren, all_children, born_child, ended, is_living_of}
use Rattle.job_commands.specs.declared.child.Child.{Child}

abbrev child : ℕ → Bool → Bool → Child
child job living shut = record { job = job; living = living; shut = shut }

same_pair : (a b : Bool × Bool) → Some a ≡ Some b → a ≡ b
same_pair a b e = cc

no_pair : (a : Bool × Bool) → None ≡ Some a → ⊥
no_pair a e = cc

-- ---- after a moment

told_now : (log : Log) (m : Moment) (job : ℕ) → child_of (log ++ m ∷ []) job ≡ unwrap_or (child_told job m) (child_of log job)
told_now log m job = latest_push (child_told job) None log m

pub children_left : (children : List Child) (log : Log) (m : Moment) → LeavesChildren m → AreChildrenOf children log → AreChildrenOf children (log ++ m ∷ [])
children_left children log m leaves h job living shut =
    let same : child_of (log ++ m ∷ []) job ≡ child_of log job = told_now log m job ∙ ap (λ o. unwrap_or o (child_of log job)) (leaves job) in
    (λ c. same ∙ (h job living shut).0 c, λ e. (h job living shut).1 (sym same ∙ e))

pub none_begun : (children : List Child) → children ≡ [] → AreChildrenOf children []
none_begun children none job living shut =
    (λ c. absurd (among_from [] _ (subst (λ l. Contains l (child job living shut)) none c)), λ e. absurd (no_pair (living, shut) e))

-- ---- a birth

module _ (children : List Child) (log : Log) (job : ℕ) (h : AreChildrenOf children log) (first : (c : Child) → Contains children c → c.job ≢ job) where
  abbrev bears : Moment
  bears = Born job

  at_birth : (other : ℕ) (b : Bool) → (other == job) ≡ b → child_of (log ++ bears ∷ []) other ≡ cond b (Some (true, false)) (child_of log other)
  at_birth other true t = told_now log bears other ∙ ap (λ b. unwrap_or (cond b (Some (Some (true, false))) None) (child_of log other)) t
  at_birth other false t = told_now log bears other ∙ ap (λ b. unwrap_or (cond b (Some (Some (true, false))) None) (child_of log other)) t

  pub children_born : AreChildrenOf (children ++ born_child job ∷ []) (log ++ bears ∷ [])
  children_born other living shut = (there, here (other == job) refl)
    where
      there : Contains (children ++ born_child job ∷ []) (child other living shut) → child_of (log ++ bears ∷ []) other ≡ Some (living, shut)
      there c = elim (among_append children (born_child job ∷ []) (child other living shut) (among_from _ _ c)) [
        | inl old ↦
            let was = contains_from children (child other living shut) old in
            at_birth other false (ne_eqb other job (first (child other living shut) was)) ∙ (h other living shut).0 was
        | inr (inl same) ↦
            let its : job ≡ other = ap (λ c. c.job) same in
            at_birth other true (eq-eqb other job (sym its)) ∙ ap (λ c. Some (c.living, c.shut)) same
        | inr (inr none) ↦ absurd none
      ]

      here : (b : Bool) → (other == job) ≡ b → child_of (log ++ bears ∷ []) other ≡ Some (living, shut) → Contains (children ++ born_child job ∷ []) (child other living shut)
      here true t e =
          let both = same_pair (true, false) (living, shut) (sym (at_birth other true t) ∙ e) in
          let lives : true ≡ living = ap (λ c. c.0) both in
          let not_shut : false ≡ shut = ap (λ c. c.1) both in
          let its : job ≡ other = sym (eqb-true other job t) in
          contains_from _ _ (among_right children (born_child job ∷ []) (child other living shut) (inl (λ i. child (its i) (lives i) (not_shut i))))
      here false t e =
          contains_from _ _ (among_left children (born_child job ∷ []) (child other living shut)
          (among_from children _ ((h other living shut).1 (sym (at_birth other false t) ∙ e))))

-- ---- an end

pub ended_all : (job : ℕ) (shut : Bool) (old new : List Child) → AreEnded job shut old new → new ≡ map (ended job shut) old
ended_all job shut old new h =
    same_lists new (map (ended job shut) old) (h.same_len ∙ sym (length-map old (ended job shut)))
    (λ k d w. let within : k < length old = subst (λ n. k < n) h.same_len w in h.each k d within ∙ sym (get_or-map (ended job shut) old k d d within))

ended_at : (job : ℕ) (shut : Bool) (c : Child) → (c.job == job) ≡ true → ended job shut c ≡ child c.job false shut
ended_at job shut c t = cond-true (c.job == job) _ _ t

ended_past : (job : ℕ) (shut : Bool) (c : Child) → (c.job == job) ≡ false → ended job shut c ≡ c
ended_past job shut c t = cond-false (c.job == job) _ _ t

module _ (children : List Child) (log : Log) (job : ℕ) (by : Bool) (h : AreChildrenOf children log) (had : (c : Child) × Contains children c × (c.job ≡ job)) where
  abbrev goes : Moment
  goes = Gone job by

  at_end : (other : ℕ) (b : Bool) → (other == job) ≡ b → child_of (log ++ goes ∷ []) other ≡ cond b (Some (false, by)) (child_of log other)
  at_end other true t = told_now log goes other ∙ ap (λ b. unwrap_or (cond b (Some (Some (false, by))) None) (child_of log other)) t
  at_end other false t = told_now log goes other ∙ ap (λ b. unwrap_or (cond b (Some (Some (false, by))) None) (child_of log other)) t

  pub children_gone : AreChildrenOf (map (ended job by) children) (log ++ goes ∷ [])
  children_gone other living shut = (there, here (other == job) refl)
    where
      from : (c : Child) → Among c children → (b : Bool) → (c.job == job) ≡ b → ended job by c ≡ child other living shut → child_of (log ++ goes ∷ []) other ≡ Some (living, shut)
      from c i true t e =
          let is : child c.job false by ≡ child other living shut = sym (ended_at job by c t) ∙ e in
          let its : c.job ≡ other = ap (λ x. x.job) is in
          at_end other true (ap (λ n. n == job) (sym its) ∙ t) ∙ ap (λ x. Some (x.living, x.shut)) is
      from c i false t e =
          let is : c ≡ child other living shut = sym (ended_past job by c t) ∙ e in
          at_end other false (ap (λ x. x.job == job) (sym is) ∙ t) ∙ (h other living shut).0 (subst (Contains children) is (contains_from children c i))

      there : Contains (map (ended job by) children) (child other living shut) → child_of (log ++ goes ∷ []) other ≡ Some (living, shut)
      there k =
          let m = among_map (ended job by) children (child other living shut) (among_from _ _ k) in
          from m.0 m.1 (m.0.job == job) refl m.2

      here : (b : Bool) → (other == job) ≡ b → child_of (log ++ goes ∷ []) other ≡ Some (living, shut) → Contains (map (ended job by) children) (child other living shut)
      here true t e =
          let both = same_pair (false, by) (living, shut) (sym (at_end other true t) ∙ e) in
          let gone : false ≡ living = ap (λ c. c.0) both in
          let so : by ≡ shut = ap (λ c. c.1) both in
          let its : had.0.job ≡ other = had.2 ∙ sym (eqb-true other job t) in
          let is : ended job by had.0 ≡ child other living shut = ended_at job by had.0 (eq-eqb had.0.job job had.2) ∙ (λ i. child (its i) (gone i) (so i)) in
          contains_from _ _ (subst (λ x. Among x (map (ended job by) children)) is (among_mapped (ended job by) children had.0 (among_from children had.0 had.1)))
      here false t e =
          let c = child other living shut in
          let was = (h other living shut).1 (sym (at_end other false t) ∙ e) in
          contains_from _ _ (subst (λ x. Among x (map (ended job by) children)) (ended_past job by c t) (among_mapped (ended job by) children c (among_from children c was)))

-- ---- what a list tells of the children of a job

module _ (list : List Asked) (log : Log) (stands : (job : ℕ) (living shut : Bool) → (Contains list (asked.Child job living shut) → child_of log job ≡ Some (living, shut)) × (child_of log job ≡ Some (living, shut) → Contains list (asked.Child job living shut)))
    (id : ℕ) (p : Asked → Bool) (only : (a : Asked) → p a ≡ true → is_child_of id a ≡ true) where
  abbrev told_by : Option (Bool × Bool) → Bool
  told_by o = option_map_or (λ c. p (asked.Child id c.0 c.1)) o false

  -- one of whom it is true is that of the log
  the_one : (a : Asked) → Contains list a → p a ≡ true → (living : Bool) × (shut : Bool) × (child_of log id ≡ Some (living, shut)) × (p (asked.Child id living shut) ≡ true)
  the_one (asked.Child job living shut) c t =
      let same : id ≡ job = eqb-true id job (only (asked.Child job living shut) t) in
      (living, shut, ap (child_of log) same ∙ (stands job living shut).0 c, ap (λ n. p (asked.Child n living shut)) same ∙ t)
  the_one (asked.Cancel by job) c t = absurd (true≢false (sym (only (asked.Cancel by job) t)))
  the_one (asked.Raise by job kind severity note) c t = absurd (true≢false (sym (only (asked.Raise by job kind severity note) t)))
  the_one (asked.Urgency by job urgency) c t = absurd (true≢false (sym (only (asked.Urgency by job urgency) t)))

  pub any_child : list_any p list ≡ told_by (child_of log id)
  any_child = at (child_of log id) refl
    where
      none_told : child_of log id ≡ None → list_any p list ≡ true → ⊥
      none_told e t =
          let f = any_from p list t in
          let o = the_one f.0 (contains_from list f.0 f.1) f.2 in
          no_pair (o.0, o.1) (sym e ∙ o.2)

      no_other : (c : Bool × Bool) → child_of log id ≡ Some c → p (asked.Child id c.0 c.1) ≡ false → list_any p list ≡ true → ⊥
      no_other c e fails t =
          let f = any_from p list t in
          let o = the_one f.0 (contains_from list f.0 f.1) f.2 in
          let same : c ≡ (o.0, o.1) = same_pair c (o.0, o.1) (sym e ∙ o.2) in
          true≢false (sym o.3 ∙ ap (λ x. p (asked.Child id x.0 x.1)) (sym same) ∙ fails)

      this : (c : Bool × Bool) → child_of log id ≡ Some c → (b : Bool) → p (asked.Child id c.0 c.1) ≡ b → list_any p list ≡ b
      this c e true t = any_at p list (asked.Child id c.0 c.1) (among_from list _ ((stands id c.0 c.1).1 e)) t
      this c e false t = false_from_ne_true (list_any p list) (no_other c e t)

      at : (o : Option (Bool × Bool)) → child_of log id ≡ o → list_any p list ≡ told_by o
      at None e = false_from_ne_true (list_any p list) (none_told e)
      at (Some c) e = this c e (p (asked.Child id c.0 c.1)) refl

itself : (id : ℕ) → (id == id) ≡ true
itself id = eq-eqb id id refl

module _ (list : List Asked) (log : Log) (stands : (job : ℕ) (living shut : Bool) → (Contains list (asked.Child job living shut) → child_of log job ≡ Some (living, shut)) × (child_of log job ≡ Some (living, shut) → Contains list (asked.Child job living shut)))
    (id : ℕ) where
  pub had_told : has_child list id ≡ is_some (child_of log id)
  had_told = any_child list log stands id (is_child_of id) (λ a t. t) ∙ at (child_of log id)
    where
      at : (o : Option (Bool × Bool)) → option_map_or (λ c. is_child_of id (asked.Child id c.0 c.1)) o false ≡ is_some o
      at None = refl
      at (Some c) = itself id

  pub living_told : has_living_child list id ≡ option_map_or (λ c. c.0) (child_of log id) false
  living_told = any_child list log stands id (λ a. is_child_of id a && is_living a) (λ a t. (and_parts (is_child_of id a) (is_living a) t).0) ∙ at (child_of log id)
    where
      at : (o : Option (Bool × Bool)) → option_map_or (λ c. (id == id) && c.0) o false ≡ option_map_or (λ c. c.0) o false
      at None = refl
      at (Some c) = ap (λ b. b && c.0) (itself id)

  pub shut_told : has_shut_child list id ≡ option_map_or (λ c. not c.0 && c.1) (child_of log id) false
  shut_told = any_child list log stands id (λ a. is_child_of id a && is_shut a) (λ a t. (and_parts (is_child_of id a) (is_shut a) t).0) ∙ at (child_of log id)
    where
      at : (o : Option (Bool × Bool)) → option_map_or (λ c. (id == id) && (not c.0 && c.1)) o false ≡ option_map_or (λ c. not c.0 && c.1) o false
      at None = refl
      at (Some c) = ap (λ b. b && (not c.0 && c.1)) (itself id)

-- a list of living children
pub living_any : (children : List Child) (job : ℕ) → list_any (is_living_of job) children ≡ has_living_child (all_children children) job
living_any [] job = refl
living_any (c ∷ children) job = more (c.living) (c.job == job) (job == c.job) (flips c.job job) (living_any children job)
  where
    flips : (a b : ℕ) → (a == b) ≡ (b == a)
    flips a b = at (a == b) refl
      where
        at : (t : Bool) → (a == b) ≡ t → t ≡ (b == a)
        at true e = sym (eq-eqb b a (sym (eqb-true a b e)))
        at false e = sym (ne_eqb b a (λ same. true≢false (sym (eq-eqb a b (sym same)) ∙ e)))

    more : (l t u : Bool) → t ≡ u → list_any (is_living_of job) children ≡ has_living_child (all_children children) job
        → ((l && t) || list_any (is_living_of job) children) ≡ ((u && l) || has_living_child (all_children children) job)
    more true true true e rest = refl
    more true false false e rest = rest
    more false true true e rest = rest
    more false false false e rest = rest
    more l true false e rest = absurd (true≢false e)
    more l false true e rest = absurd (true≢false (sym e))
