-- The options that texts give, each at most once.
use Rattle.std.proofs.Common.{◌≡◌, ◌∙◌, ◌||◌, cond, ℕ, Bool, true, false, Option, Some, None, is_some, option_map, refl, sym, ap, subst, bytes_eq, true≢false}
use Rattle.std.specs.Prelude.{option_and_then, if◌then◌else◌}
use Rattle.clap.specs.Walk.{Text}
use Rattle.fl_digest.specs.declared.Hash.{Hash}
use Rattle.run_options.specs.Matches.{field, given_by}
use Rattle.run_options.specs.declared.given.Given.{Given}
use Rattle.run_options.specs.Given.{brokers_of, hash_of, losses_of, number_of, with_backfill, with_journal, with_value, workers_of}
use Rattle.run_options.proofs.Walks.{Name, by_size, by_fanout, by_hash, by_shuffle, by_losses, by_workers, Flag, by_journal, by_backfill, dashed, every, flag_text, not_every, same_name, text}

pub nothing_then : {X Y : Type 0} (o : Option X) → option_and_then {U = Y} (λ x. None) o ≡ None
nothing_then None = refl
nothing_then (Some x) = refl

pub then_in_turn : {X Y Z : Type 0} (f : X → Option Y) (g : Y → Option Z) (o : Option X)
    → option_and_then (λ x. option_and_then g (f x)) o ≡ option_and_then g (option_and_then f o)
then_in_turn f g None = refl
then_in_turn f g (Some x) = refl

pub then_same : {X Y : Type 0} (f g : X → Option Y) (o : Option X) → ((x : X) → f x ≡ g x) → option_and_then f o ≡ option_and_then g o
then_same f g None same = refl
then_same f g (Some x) same = same x

-- a flag more
abbrev pub with_flag : Flag → Given → Option Given
with_flag by_journal = with_journal
with_flag by_backfill = with_backfill

-- ---- what texts and flags give

abbrev pub Texts : Type 0
Texts = Name → Option Text

abbrev pub Flags : Type 0
Flags = Flag → Bool

-- the text of an option, if it stands there, is a value of its kind
abbrev pub fits : Name → Option Text → Bool
fits by_size t = is_some (field brokers_of t)
fits by_fanout t = is_some (field brokers_of t)
fits by_hash t = is_some (field hash_of t)
fits by_shuffle t = is_some (field number_of t)
fits by_losses t = is_some (field losses_of t)
fits by_workers t = is_some (field workers_of t)

absent_fits : (n : Name) → fits n None ≡ true
absent_fits by_size = refl
absent_fits _ = refl

abbrev pub values : Texts → Flags → Given
values t j = record {
  size = option_and_then brokers_of (t by_size);
  fanout = option_and_then brokers_of (t by_fanout);
  hash = option_and_then hash_of (t by_hash);
  shuffle = option_and_then number_of (t by_shuffle);
  losses = option_and_then losses_of (t by_losses);
  workers = option_and_then workers_of (t by_workers);
  journal = j by_journal;
  backfill = j by_backfill;
}

abbrev pub given_of : Texts → Flags → Option Given
given_of t j = given_by (t by_size) (t by_fanout) (t by_hash) (t by_shuffle) (t by_losses) (t by_workers) (j by_journal) (j by_backfill)

pub same_given : (t u : Texts) (j k : Flags) → ((n : Name) → t n ≡ u n) → ((f : Flag) → j f ≡ k f) → given_of t j ≡ given_of u k
same_given t u j k texts flags = λ i. given_of (λ n. texts n i) (λ f. flags f i)

pub none_given : (t : Texts) (j : Flags) (n : Name) → fits n (t n) ≡ false → given_of t j ≡ None
none_given t j n unfit = ap (λ b. cond b (Some (values t j)) None) (not_every (λ m. fits m (t m)) n unfit)

then_if : {X Y : Type 0} (f : X → Option Y) (b : Bool) (x : X) → option_and_then f (cond b (Some x) None) ≡ cond b (f x) None
then_if f true x = refl
then_if f false x = refl

either_way : {X : Type 0} (b : Bool) (x : X) → cond b x x ≡ x
either_way true x = refl
either_way false x = refl

-- ---- an option with a value, new

-- the text of this option more
abbrev pub put : Name → Text → Texts → Texts
put n v t m = cond (bytes_eq (text n) (text m)) (Some v) (t m)

one_more : {X : Type 0} (set : Option X → Given) (o : Option X)
    → option_and_then (λ x. Some (set (Some x))) o ≡ cond (is_some (option_map (λ x. Some x) o)) (Some (set o)) None
one_more set None = refl
one_more set (Some x) = refl

value_new : (n : Name) (v : Text) (t : Texts) (j : Flags) → t n ≡ None
    → with_value (values t j) (dashed n) v ≡ cond (fits n (Some v)) (Some (values (put n v t) j)) None
value_new by_size v t j none = ap (λ a. with_value (record (values t j) { size = option_and_then brokers_of a }) (dashed by_size) v) none
    ∙ one_more (λ (x : Option ℕ). record (values t j) { size = x }) (brokers_of v)
value_new by_fanout v t j none = ap (λ a. with_value (record (values t j) { fanout = option_and_then brokers_of a }) (dashed by_fanout) v) none
    ∙ one_more (λ (x : Option ℕ). record (values t j) { fanout = x }) (brokers_of v)
value_new by_hash v t j none = ap (λ a. with_value (record (values t j) { hash = option_and_then hash_of a }) (dashed by_hash) v) none
    ∙ one_more (λ (x : Option Hash). record (values t j) { hash = x }) (hash_of v)
value_new by_shuffle v t j none = ap (λ a. with_value (record (values t j) { shuffle = option_and_then number_of a }) (dashed by_shuffle) v) none
    ∙ one_more (λ (x : Option ℕ). record (values t j) { shuffle = x }) (number_of v)
value_new by_losses v t j none = ap (λ a. with_value (record (values t j) { losses = option_and_then losses_of a }) (dashed by_losses) v) none
    ∙ one_more (λ (x : Option ℕ). record (values t j) { losses = x }) (losses_of v)
value_new by_workers v t j none = ap (λ a. with_value (record (values t j) { workers = option_and_then workers_of a }) (dashed by_workers) v) none
    ∙ one_more (λ (x : Option ℕ). record (values t j) { workers = x }) (workers_of v)

-- a text that fits leaves it to the others whether all fit
put_fits : (n : Name) (v : Text) (t : Texts) → t n ≡ None → fits n (Some v) ≡ true → (m : Name) → fits m (put n v t m) ≡ fits m (t m)
put_fits n v t none fit m = go (bytes_eq (text n) (text m)) refl
  where
    go : (b : Bool) → bytes_eq (text n) (text m) ≡ b → fits m (cond b (Some v) (t m)) ≡ fits m (t m)
    go true e = subst (λ k. fits k (Some v) ≡ fits k (t k)) (same_name n m e) (fit ∙ sym (absent_fits n) ∙ ap (fits n) (sym none))
    go false e = refl

put_own : (n : Name) (v : Text) (t : Texts) → put n v t n ≡ Some v
put_own by_size v t = refl
put_own _ v t = refl

pub given_new : (n : Name) (v : Text) (t : Texts) (j : Flags) → t n ≡ None
    → option_and_then (λ g. with_value g (dashed n) v) (given_of t j) ≡ given_of (put n v t) j
given_new n v t j none = then_if (λ g. with_value g (dashed n) v) (every (λ m. fits m (t m))) (values t j)
    ∙ ap (λ o. cond (every (λ m. fits m (t m))) o None) (value_new n v t j none) ∙ go (fits n (Some v)) refl
  where
    go : (b : Bool) → fits n (Some v) ≡ b
        → cond (every (λ m. fits m (t m))) (cond b (Some (values (put n v t) j)) None) None ≡ given_of (put n v t) j
    go true fit =
        let same : every (λ m. fits m (put n v t m)) ≡ every (λ m. fits m (t m)) = λ i. every (λ m. put_fits n v t none fit m i) in
        ap (λ b. cond b (Some (values (put n v t) j)) None) (sym same)
    go false unfit = either_way (every (λ m. fits m (t m))) None ∙ sym (none_given (put n v t) j n (ap (fits n) (put_own n v t) ∙ unfit))

-- ---- an option with a value that stands there already

no_more : {X : Type 0} (was : Option X) (set : X → Given) (o : Option X) → is_some (option_map (λ x. Some x) was) ≡ true
    → option_and_then (λ x. if is_some was then None else Some (set x)) o ≡ None
no_more None set o is = absurd (true≢false (sym is))
no_more (Some x) set o is = nothing_then o

value_again : (n : Name) (v w : Text) (t : Texts) (j : Flags) → t n ≡ Some w → fits n (Some w) ≡ true → with_value (values t j) (dashed n) v ≡ None
value_again by_size v w t j some fit = ap (λ a. with_value (record (values t j) { size = option_and_then brokers_of a }) (dashed by_size) v) some
    ∙ no_more (brokers_of w) (λ (x : ℕ). record (values t j) { size = Some x }) (brokers_of v) fit
value_again by_fanout v w t j some fit = ap (λ a. with_value (record (values t j) { fanout = option_and_then brokers_of a }) (dashed by_fanout) v) some
    ∙ no_more (brokers_of w) (λ (x : ℕ). record (values t j) { fanout = Some x }) (brokers_of v) fit
value_again by_hash v w t j some fit = ap (λ a. with_value (record (values t j) { hash = option_and_then hash_of a }) (dashed by_hash) v) some
    ∙ no_more (hash_of w) (λ (x : Hash). record (values t j) { hash = Some x }) (hash_of v) fit
value_again by_shuffle v w t j some fit = ap (λ a. with_value (record (values t j) { shuffle = option_and_then number_of a }) (dashed by_shuffle) v) some
    ∙ no_more (number_of w) (λ (x : ℕ). record (values t j) { shuffle = Some x }) (number_of v) fit
value_again by_losses v w t j some fit = ap (λ a. with_value (record (values t j) { losses = option_and_then losses_of a }) (dashed by_losses) v) some
    ∙ no_more (losses_of w) (λ (x : ℕ). record (values t j) { losses = Some x }) (losses_of v) fit
value_again by_workers v w t j some fit = ap (λ a. with_value (record (values t j) { workers = option_and_then workers_of a }) (dashed by_workers) v) some
    ∙ no_more (workers_of w) (λ (x : ℕ). record (values t j) { workers = Some x }) (workers_of v) fit

pub given_again : (n : Name) (v w : Text) (t : Texts) (j : Flags) → t n ≡ Some w
    → option_and_then (λ g. with_value g (dashed n) v) (given_of t j) ≡ None
given_again n v w t j some = go (fits n (Some w)) refl
  where
    go : (b : Bool) → fits n (Some w) ≡ b → option_and_then (λ g. with_value g (dashed n) v) (given_of t j) ≡ None
    go true fit = then_if (λ g. with_value g (dashed n) v) (every (λ m. fits m (t m))) (values t j)
        ∙ ap (λ o. cond (every (λ m. fits m (t m))) o None) (value_again n v w t j some fit) ∙ either_way (every (λ m. fits m (t m))) None
    go false unfit = ap (option_and_then (λ g. with_value g (dashed n) v)) (none_given t j n (ap (fits n) some ∙ unfit))

-- ---- a flag

-- this flag more
abbrev pub raise : Flag → Flags → Flags
raise f j g = bytes_eq (flag_text f) (flag_text g) || j g

flag_new : (f : Flag) (t : Texts) (j : Flags) → j f ≡ false → with_flag f (values t j) ≡ Some (values t (raise f j))
flag_new by_journal t j none = ap (λ b. if b then None else Some (record (values t j) { journal = true })) none
flag_new by_backfill t j none = ap (λ b. if b then None else Some (record (values t j) { backfill = true })) none

pub flagged_new : (f : Flag) (t : Texts) (j : Flags) → j f ≡ false → option_and_then (with_flag f) (given_of t j) ≡ given_of t (raise f j)
flagged_new f t j none = then_if (with_flag f) (every (λ m. fits m (t m))) (values t j) ∙ ap (λ o. cond (every (λ m. fits m (t m))) o None) (flag_new f t j none)

flag_again : (f : Flag) (t : Texts) (j : Flags) → j f ≡ true → with_flag f (values t j) ≡ None
flag_again by_journal t j has = ap (λ b. if b then None else Some (record (values t j) { journal = true })) has
flag_again by_backfill t j has = ap (λ b. if b then None else Some (record (values t j) { backfill = true })) has

pub flagged_again : (f : Flag) (t : Texts) (j : Flags) → j f ≡ true → option_and_then (with_flag f) (given_of t j) ≡ None
flagged_again f t j has = then_if (with_flag f) (every (λ m. fits m (t m))) (values t j)
    ∙ ap (λ o. cond (every (λ m. fits m (t m))) o None) (flag_again f t j has) ∙ either_way (every (λ m. fits m (t m))) None
