-- A world with a child more.
use Rattle.std.proofs.Common.{◌≡◌, ◌∙◌, ℕ, zero, suc, ◌+◌, ◌^◌, ◌<◌, ◌==◌, inl, inr, List, [], ◌∷◌, ◌++◌, Bool, true, false, ◌||◌, Option, Some, None, cond, length, refl, sym, ap, ap₂, subst, true≢false, arith}
use Rattle.std.specs.Prelude.{find, is_some, min, nat_lt, option_map, slice_get, slice_set, if◌then◌else◌}
use Rattle.std.specs.List.{AllByRecursion as Each, range_with_len}
use Rattle.std.specs.Option.{option_map_or, option_or}
use Rattle.std.proofs.lemmas.Bool.{cases_eq, cases_lt, false_from_ne_true}
use Rattle.std.proofs.lemmas.List.{length-set, length_push}
use Rattle.std.proofs.lemmas.List.Folds.{find-append}
use Rattle.std.proofs.lemmas.Option.{slice_get_within}
use Rattle.instance.specs.workload.Actors.{are_together, home_of}
use Rattle.instance.specs.workload.Laws.{HasOwnLabels}
use Rattle.instance.specs.workload.declared.work.Workload.{Workload}
use Rattle.instance.specs.resource_set.declared.node.Resources.{Resources}
use Rattle.instance.specs.answers.Chronicle.{Setup, issues_of, replies_to, top}
use Rattle.instance.specs.answers.Jobs.{instance_of}
use Rattle.instance.specs.answers.Legal.{IsLegalEntry}
use Rattle.instance.specs.answers.declared.chronicle.Entry.{Entry}
use Rattle.hierarchy.specs.Births.{Birth, is_at, is_born, is_gone, label_of, numbers}
use Rattle.hierarchy.specs.Growing.{GoesOn}
use Rattle.hierarchy.specs.Grows.{GrowsByBirth, born_by, born_to}
use Rattle.hierarchy.specs.Legal.{IsLegalBirth, IsLegalRun}
use Rattle.hierarchy.specs.Own.{brokers_for, child_setup, own_of, setup_in, work_for}
use Rattle.hierarchy.proofs.Growth.{birth_grown}
use Rattle.hierarchy.proofs.Labels.{new_label}
use Rattle.hierarchy.proofs.Numbering.{born_exactly, numbers_are}
use Rattle.hierarchy.proofs.OneEntry.{together_all}
use Rattle.hierarchy.proofs.Owning.{alive, gone_push}
use Rattle.instance.specs.Agrees.{AgreesOwn}
use Rattle.instance.specs.Value.{InstanceValue}
use Rattle.instance.specs.instance_rules.Log.{IsInstance}
use Rattle.homes.specs.Homes.{AreHomes, ArePlaces, AreValid, IsHome, IsPlace, answered, home_in}
use Rattle.homes.specs.Inside.{AreSettled, IsChildHome, settled_at}
use Rattle.homes.specs.declared.homes.Home.{Home}
use Rattle.homes.specs.declared.homes.Origin.{Origin}
use Rattle.homes.specs.declared.homes.Place.{Place}
use Rattle.homes.proofs.Families.{home_kept, home_lives, lives_on, lives_told, or_false, origin_by}
use Rattle.homes.proofs.Placing.{AreSilent, all_silent, by_of, counts_joined}
use Rattle.homes.proofs.Standing.{item_at, same_item, set_here, set_other}

-- ---- the birth

-- the run goes on by it, where no other submission has its label
pub birth_grows : (set : Setup) (c : List Entry) (on : GoesOn set c) (b : Birth) → HasOwnLabels set.work.lines
    → IsLegalBirth set c b.child b.parent b.job b.label b.second b.grant
    → IsLegalEntry (setup_in set c b.parent) (own_of set c b.parent) (born_to b) → GrowsByBirth set c b
birth_grows set c on b labels legal follows =
    birth_grown set c b on legal follows (λ i born. new_label set c on b.child b.parent b.job b.label b.second b.grant legal labels i born)

-- ---- the child's home

-- what is made of the parts that the birth tells
pub child_is : (set : Setup) (b : Birth) (origin : Origin) (work : Workload) (grant : Resources) (size : ℕ) (own : Workload) (instance : InstanceValue)
    → set.work ≡ work → b.parent ≡ origin.parent → b.job ≡ origin.job → b.label ≡ origin.label → b.grant ≡ grant
    → size ≡ min (length grant.nodes) 32 → own ≡ work_for work (Some origin.label) size → instance.spent ≡ false
    → (brokers_for b ≡ size → (child_setup set b).work ≡ own → AgreesOwn instance (child_setup set b) [])
    → IsChildHome set b (record { origin = Some origin; work = own; instance = instance; shuts = false; gone = false })
child_is set b origin work grant size own instance works parent job label grants sizes owns ready agrees = record {
  origin = sym (ap (λ p. Some (record { parent = p; job = b.job; label = b.label })) parent
      ∙ ap (λ j. Some (record { parent = origin.parent; job = j; label = b.label })) job
      ∙ ap (λ l. Some (record { parent = origin.parent; job = origin.job; label = l })) label);
  work = sym given;
  shuts = refl;
  gone = refl;
  ready = ready;
  agrees = agrees brokers given;
}
  where
    brokers : brokers_for b ≡ size
    brokers = ap (λ g. min (length g.nodes) 32) grants ∙ sym sizes

    given : (child_setup set b).work ≡ own
    given =
        ap (λ w. work_for w (Some b.label) (brokers_for b)) works
        ∙ ap (λ l. work_for work (Some l) (brokers_for b)) label
        ∙ ap (work_for work (Some origin.label)) brokers
        ∙ sym owns

-- ---- the instances

push_left : {A : Type 0} (xs : List A) (y : A) (k : ℕ) → k < length xs → slice_get (xs ++ y ∷ []) k ≡ slice_get xs k
push_left [] y k low = absurd (omega arith)
push_left (x ∷ xs) y zero low = refl
push_left (x ∷ xs) y (suc k) low = push_left xs y k (omega arith)

push_last : {A : Type 0} (xs : List A) (y : A) → slice_get (xs ++ y ∷ []) (length xs) ≡ Some y
push_last [] y = refl
push_last (x ∷ xs) y = push_last xs y

module _ (set : Setup) (c : List Entry) (homes : List Home) (all : AreHomes set c homes) (run : IsLegalRun set c) (b : Birth) (grows : GrowsByBirth set c b) where
  -- no other instance goes
  none_goes : (k : ℕ) → is_gone (c ++ born_by b ∷ []) k ≡ is_gone c k
  none_goes k = gone_push c (born_by b) k ∙ or_false (is_gone c k)

  below_child : (k : ℕ) → k < length homes → k ≡ b.child → ⊥
  below_child k low same = let next = grows.next in let as_many = all.all in absurd (omega arith)

  -- the parent of the child, which is told of the birth
  parent_told : (h : Home) (new : InstanceValue) → slice_get homes b.parent ≡ Some h → h.gone ≡ false → new.spent ≡ false
      → AgreesOwn new (setup_in set c b.parent) (own_of set c b.parent ++ born_to b ∷ []) → IsHome set (c ++ born_by b ∷ []) b.parent (record h { instance = new })
  parent_told h new at here ready agrees =
      let was = all.each b.parent h at in
      home_kept set c (born_by b ∷ []) b.parent h (record h { instance = new }) was (grows.births b.parent (below_child b.parent (slice_get_within homes b.parent h at))) refl refl ready
      (was.gone ∙ sym (none_goes b.parent))
      (λ _. lives_told set c (born_by b ∷ []) b.parent h (record h { instance = new }) was (born_to b ∷ []) here grows.parent refl refl agrees)

  other_stays : (k : ℕ) (h : Home) → slice_get homes k ≡ Some h → (k ≡ b.parent → ⊥) → IsHome set (c ++ born_by b ∷ []) k h
  other_stays k h at other =
      let was = all.each k h at in
      home_kept set c (born_by b ∷ []) k h h was (grows.births k (below_child k (slice_get_within homes k h at))) refl refl was.ready (was.gone ∙ sym (none_goes k))
      (λ here. lives_on set c (born_by b ∷ []) k h h was here (grows.others k (home_lives set c homes all run k h at here) other) refl refl)

  child_begins : (child : Home) → IsChildHome set b child → IsHome set (c ++ born_by b ∷ []) b.child child
  child_begins child is = record {
    origin = is.origin ∙ sym (ap (option_map origin_by) grows.birth);
    gone = is.gone ∙ sym (alive (c ++ born_by b ∷ []) b.child grows.begins).1;
    work = is.work ∙ sym (ap (λ s. s.work) grows.given);
    ready = is.ready;
    lives = λ _. record {
      shuts = is.shuts ∙ sym grows.shuts;
      agrees = subst (λ s. AgreesOwn child.instance s (own_of set (c ++ born_by b ∷ []) b.child)) (sym grows.given)
          (subst (AgreesOwn child.instance (child_setup set b)) (sym grows.own) is.agrees);
    };
  }

  abbrev told_homes : Home → InstanceValue → List Home
  told_homes h new = slice_set homes b.parent (record h { instance = new })

  -- all instances behind the birth
  pub homes_with : (h : Home) (new : InstanceValue) (child : Home) → slice_get homes b.parent ≡ Some h → h.gone ≡ false → new.spent ≡ false
      → AgreesOwn new (setup_in set c b.parent) (own_of set c b.parent ++ born_to b ∷ []) → IsChildHome set b child → length homes + 1 < 2 ^ 32
      → AreHomes set (c ++ born_by b ∷ []) (slice_set homes b.parent (record h { instance = new }) ++ child ∷ [])
  homes_with h new child at here ready agrees is few = record {
    few = subst (λ n. n < 2 ^ 32) (sym long) few;
    all = long ∙ ap (λ n. n + 1) all.all ∙ sym (ap length grows.numbered ∙ length_push (numbers c) b.child);
    each = λ k one e. elim (cases_lt k (length homes)) [
      | inl low ↦ old k one low (sym (push_left (told_homes h new) child k (subst (λ n. k < n) (sym (length-set homes b.parent (record h { instance = new }))) low)) ∙ e)
      | inr high ↦
          let within : k < length (told_homes h new ++ child ∷ []) = slice_get_within (told_homes h new ++ child ∷ []) k one e in
          let last : k ≡ length (told_homes h new) = (let many = long in let same = length-set homes b.parent (record h { instance = new }) in omega arith) in
          let is_child : child ≡ one = same_item child one (sym (push_last (told_homes h new) child) ∙ ap (slice_get (told_homes h new ++ child ∷ [])) (sym last) ∙ e) in
          let number : b.child ≡ k = (let next = grows.next in let as_many = all.all in let same = length-set homes b.parent (record h { instance = new }) in omega arith) in
          subst (λ n. IsHome set (c ++ born_by b ∷ []) n one) number (subst (IsHome set (c ++ born_by b ∷ []) b.child) is_child (child_begins child is))
    ];
  }
    where
      long : length (told_homes h new ++ child ∷ []) ≡ length homes + 1
      long = length_push (told_homes h new) child ∙ ap (λ n. n + 1) (length-set homes b.parent (record h { instance = new }))

      old : (k : ℕ) (one : Home) → k < length homes → slice_get (told_homes h new) k ≡ Some one → IsHome set (c ++ born_by b ∷ []) k one
      old k one low e = elim (cases_eq k b.parent) [
        | inl same ↦
            let there : slice_get (told_homes h new) b.parent ≡ Some one = ap (slice_get (told_homes h new)) (sym same) ∙ e in
            let is_told : record h { instance = new } ≡ one = same_item (record h { instance = new }) one (sym (set_here homes b.parent h (record h { instance = new }) at) ∙ there) in
            subst (λ n. IsHome set (c ++ born_by b ∷ []) n one) (sym same) (subst (IsHome set (c ++ born_by b ∷ []) b.parent) is_told (parent_told h new at here ready agrees))
        | inr other ↦ other_stays k one (sym (set_other homes b.parent k (record h { instance = new }) other) ∙ e) other
      ]

  -- what each instance is given stays valid
  pub valid_with : AreValid set c → IsInstance (instance_of (child_setup set b)) → AreValid set (c ++ born_by b ∷ [])
  valid_with valid child = λ k born. elim (cases_eq k b.child) [
    | inl same ↦ subst (λ n. IsInstance (instance_of (setup_in set (c ++ born_by b ∷ []) n))) (sym same) (subst (λ s. IsInstance (instance_of s)) (sym grows.given) child)
    | inr other ↦ subst (λ s. IsInstance (instance_of s))
        (sym (ap (λ o. option_map_or (child_setup set) o (record set { work = work_for set.work None set.size })) (grows.births k other)))
        (valid k (sym (ap (λ o. (k == top) || is_some o) (grows.births k other)) ∙ born))
  ]

-- ---- the places

range_each : (P : ℕ → Type 0) (from n : ℕ) → ((k : ℕ) → k < from + n → P k) → Each P (range_with_len from n)
range_each P from zero h = tt
range_each P from (suc n) h = (h from (omega arith), range_each P (from + 1) n (λ k low. h k (omega arith)))

find_so : {A : Type 0} (p q : A → Bool) (xs : List A) → Each (λ x. p x ≡ q x) xs → find p xs ≡ find q xs
find_so p q [] same = refl
find_so p q (x ∷ xs) same = ap₂ (λ b o. cond b (Some x) o) same.0 (find_so p q xs same.1)

none_there : {A : Type 0} (p : A → Bool) (xs : List A) → Each (λ x. p x ≡ false) xs → find p xs ≡ None
none_there p [] h = refl
none_there p (x ∷ xs) h = ap₂ (λ b o. cond b (Some x) o) h.0 (none_there p xs h.1)

-- the place of an actor that does nothing, but may have its home now
place_moved : (set : Setup) (c more : List Entry) (actor : ℕ) (p : Place) (home : Option ℕ) → AreSilent actor more
    → home ≡ home_in set (c ++ more) actor → IsPlace set c actor p → IsPlace set (c ++ more) actor (record p { home = home })
place_moved set c more actor p home silent is old = record {
  home = is;
  issued = (let all = counts_joined (issues_of actor) c more in let was = old.issued in let none = silent.issues in omega arith);
  next = old.next;
  begun = old.begun;
  replied = λ k. counts_joined (replies_to (by_of actor k)) c more ∙ ap₂ (λ a b. a + b) (old.replied k) (silent.replies k) ∙ plus_none (cond (nat_lt k (answered p)) 1 0);
}
  where
    plus_none : (n : ℕ) → n + 0 ≡ n
    plus_none n = omega arith

module _ (set : Setup) (c : List Entry) (on : GoesOn set c) (b : Birth) (grows : GrowsByBirth set c b)
    (new : (i : ℕ) → is_born c i ≡ true → are_together (label_of c i) (Some b.label) ≡ false) where
  -- the numbers so far
  numbers_so_far : (P : ℕ → Type 0) → ((k : ℕ) → k < length (numbers c) → P k) → Each P (numbers c)
  numbers_so_far P h = subst (Each P) (sym (numbers_are set c on.run)) (range_each P 0 (length (numbers c)) (λ k low. h k (omega arith)))

  -- those who were born have the actors that they had
  same_so_far : (actor k : ℕ) → k < length (numbers c) → is_at set.work.actors (label_of (c ++ born_by b ∷ []) k) actor ≡ is_at set.work.actors (label_of c k) actor
  same_so_far actor k low =
      ap (λ o. is_at set.work.actors (option_map (λ b. b.label) o) actor) (grows.births k (λ same. let next = grows.next in absurd (omega arith)))

  home_now : (actor : ℕ) → home_in set (c ++ born_by b ∷ []) actor
      ≡ option_or (home_in set c actor) (if is_at set.work.actors (Some b.label) actor then Some b.child else None)
  home_now actor =
      ap (find (λ k. is_at set.work.actors (label_of (c ++ born_by b ∷ []) k) actor)) grows.numbered
      ∙ find-append (λ k. is_at set.work.actors (label_of (c ++ born_by b ∷ []) k) actor) (numbers c) (b.child ∷ [])
      ∙ ap₂ option_or
      (find_so (λ k. is_at set.work.actors (label_of (c ++ born_by b ∷ []) k) actor) (λ k. is_at set.work.actors (label_of c k) actor) (numbers c)
      (numbers_so_far (λ k. is_at set.work.actors (label_of (c ++ born_by b ∷ []) k) actor ≡ is_at set.work.actors (label_of c k) actor) (same_so_far actor)))
      (ap (λ o. cond (is_at set.work.actors (option_map (λ b. b.label) o) actor) (Some b.child) None) grows.birth)

  -- none of them has an actor of the child
  none_so_far : (actor : ℕ) → is_at set.work.actors (Some b.label) actor ≡ true → home_in set c actor ≡ None
  none_so_far actor is = none_there (λ k. is_at set.work.actors (label_of c k) actor) (numbers c)
      (numbers_so_far (λ k. is_at set.work.actors (label_of c k) actor ≡ false) (λ k low. false_from_ne_true (is_at set.work.actors (label_of c k) actor)
      (λ yes. true≢false (sym (together_all (home_of set.work.actors actor) (label_of c k) (Some b.label) yes is) ∙ new k ((born_exactly set c k on.run).1 low)))))

  settled_place : (actor : ℕ) (p : Place) → IsPlace set c actor p → IsPlace set (c ++ born_by b ∷ []) actor (settled_at set.work.actors b.label b.child actor p)
  settled_place actor p was = by (is_at set.work.actors (Some b.label) actor) refl
    where
      silent : AreSilent actor (born_by b ∷ [])
      silent = all_silent actor (born_by b ∷ []) (record { issues = refl; replies = λ k. refl }, tt)

      kept : (o : Option ℕ) → o ≡ option_or o None
      kept None = refl
      kept (Some x) = refl

      by : (t : Bool) → is_at set.work.actors (Some b.label) actor ≡ t → IsPlace set (c ++ born_by b ∷ []) actor (cond t (record p { home = Some b.child }) p)
      by true is = place_moved set c (born_by b ∷ []) actor p (Some b.child) silent
          (sym (home_now actor ∙ ap₂ (λ o t. option_or o (cond t (Some b.child) None)) (none_so_far actor is) is)) was
      by false is = place_moved set c (born_by b ∷ []) actor p p.home silent
          (was.home ∙ kept (home_in set c actor) ∙ sym (home_now actor ∙ ap (λ t. option_or (home_in set c actor) (cond t (Some b.child) None)) is)) was

  -- the actors of the child stand there now
  pub places_with : (places new : List Place) → ArePlaces set c places → AreSettled set.work.actors b.label b.child places new → ArePlaces set (c ++ born_by b ∷ []) new
  places_with places new old settled = record {
    all = settled.all ∙ old.all;
    each = λ actor p e.
        let was = item_at places actor (subst (λ n. actor < n) settled.all (slice_get_within new actor p e)) in
        subst (IsPlace set (c ++ born_by b ∷ []) actor) (same_item (settled_at set.work.actors b.label b.child actor was.0) p (sym (settled.each actor was.0 was.1) ∙ e))
        (settled_place actor was.0 (old.each actor was.0 was.1));
  }
