-- Pins leave the clean contents as they are.
use Rattle.std.proofs.Common.{◌≡◌, ◌≢◌, true≢false, append_assoc, append-nil, ◌<◌, ◌≤◌, ◌+◌, ℕ, length, take, add-one, Bool, true, false, cond, List, [], ◌∷◌, ◌++◌, Option, Some, None, option_map, refl, sym, ap, ◌∙◌, subst, inl, inr, get_or, arith}
use Rattle.std.specs.Prelude.{Contains, IsSome, IsTrue, ◌⊎◌}
use Rattle.std.specs.List.{IsAnyAnswer}
use Rattle.std.specs.Option.{option_map_or}
use Rattle.std.proofs.Math.Seq.{take-suc}
use Rattle.std.proofs.lemmas.List.{get_or_default, take_all}
use Rattle.std.specs.Map.{lookup, remove_entry}
use Rattle.std.proofs.lemmas.List.Elements.{Contains-append_left, Contains-append_right, Contains-append_cases, Contains-push, Contains-push_cases}
use Rattle.fl_digest.specs.declared.BlobRef.{BlobRef}
use Rattle.fl_digest.specs.declared.Hash.{Hash}
use Rattle.fl_digest.specs.Reference.{same_reference}
use Rattle.kvs_txn.specs.declared.answers.Query.{Query}
use Rattle.kvs_model.specs.Store.{Path, Store}
use Rattle.kvs_model.specs.OneStore.{own_walk}
use Rattle.cache_node.specs.declared.content.Held.{Held}
use Rattle.cache_node.specs.Order.{pinned, used}
use Rattle.cache_node.specs.Cache.{Cache, held_at, clean_at, with_pin, with_clean}
use Rattle.cache_node.proofs.Same.{same_refl, same_true, derived_same}
use Rattle.std.proofs.lemmas.List.Quantifiers.{all_pairs_push}
use Rattle.fl_digest.specs.contracts.BlobRefPartialEq.TheImpl.{eq-value as derived}
use Rattle.tree_rules.specs.Held.{Table}
use Rattle.tree_rules.specs.OneStore.{own_needs}
use Rattle.tree_look.specs.declared.Advance.{Advance}
use Rattle.tree_look.specs.declared.Advance.TheVariants.{Done, Needs}
use Rattle.tree_look.specs.Looks.{EndTells, Reads as Looks}
use Rattle.tree_walk.specs.Pins.{AddsOnce, AreFresh, IsOnce}
use Rattle.tree_walk.specs.Walks.{Walk, with_pins, IsPassed, GoesOn, Reads, Tells}

abbrev Entry : Type 0
Entry = BlobRef × Held

-- what stands under another reference stands there still
pub lookup-remove-other : (r q : BlobRef) (es : List Entry) → same_reference r q ≡ false → lookup (same_reference r) (remove_entry (same_reference q) es) ≡ lookup (same_reference r) es
lookup-remove-other r q [] other = refl
lookup-remove-other r q (e ∷ es) other =
    elim (same_reference q e.0) as (λ b. same_reference q e.0 ≡ b → lookup (same_reference r) (cond b es (e ∷ remove_entry (same_reference q) es)) ≡ cond (same_reference r e.0) (Some e.1) (lookup (same_reference r) es)) [
      | true ↦ λ t. ap (λ b. cond b (Some e.1) (lookup (same_reference r) es)) (sym (ap (same_reference r) (sym (same_true q e.0 t)) ∙ other))
      | false ↦ λ t. ap (λ o. cond (same_reference r e.0) (Some e.1) o) (lookup-remove-other r q es other)
    ] refl

abbrev bytes_at : BlobRef → List Entry → Option (List ℕ)
bytes_at r es = option_map (λ (held : Held). held.bytes) (lookup (same_reference r) es)

clean_used : (r q : BlobRef) (held : Held) (es : List Entry) → lookup (same_reference q) es ≡ Some held → bytes_at r (used q (pinned held) es) ≡ bytes_at r es
clean_used r q held es found =
    elim (same_reference r q) as (λ b. same_reference r q ≡ b → option_map (λ (h : Held). h.bytes) (cond b (Some (pinned held)) (lookup (same_reference r) (remove_entry (same_reference q) es))) ≡ bytes_at r es) [
      | true ↦ λ t. sym (ap (λ (x : BlobRef). bytes_at x es) (same_true r q t) ∙ ap (option_map (λ (h : Held). h.bytes)) found)
      | false ↦ λ t. ap (option_map (λ (h : Held). h.bytes)) (lookup-remove-other r q es t)
    ] refl

-- a cache with one pin more of this content, if it is there
abbrev after_pin : BlobRef → Cache → Option Held → Cache
after_pin q cache o = option_map_or (λ held. with_clean (used q (pinned held) cache.clean) cache) o cache

by_held : (r q : BlobRef) (cache : Cache) (o : Option Held) → held_at q cache ≡ o → clean_at r (after_pin q cache o) ≡ clean_at r cache
by_held r q cache None e = refl
by_held r q cache (Some held) e = clean_used r q held cache.clean e

-- a pin changes no clean content
pub clean_at-with_pin : (r q : BlobRef) (cache : Cache) → clean_at r (with_pin q cache) ≡ clean_at r cache
clean_at-with_pin r q cache = by_held r q cache (held_at q cache) refl

pub clean_at-with_pins : (r : BlobRef) (references : List BlobRef) (cache : Cache) → clean_at r (with_pins references cache) ≡ clean_at r cache
clean_at-with_pins r [] cache = refl
clean_at-with_pins r (q ∷ references) cache = clean_at-with_pins r references (with_pin q cache) ∙ clean_at-with_pin r q cache

-- ---- which are to be pinned

any_contains : (rs : List BlobRef) (q : BlobRef) (b : Bool) → IsAnyAnswer (λ y t. derived.it y q ≡ t) rs b → b ≡ true → Contains rs q
any_contains rs q true h e = (h.0, h.1, same_true (get_or rs h.0 q) q (sym (derived_same (get_or rs h.0 q) q) ∙ h.2 q))
any_contains rs q false h e = absurd (cc)

not_contains : (rs : List BlobRef) (q : BlobRef) (b : Bool) → IsAnyAnswer (λ y t. derived.it y q ≡ t) rs b → b ≡ false → Contains rs q → ⊥
not_contains rs q true h e has = absurd (cc)
not_contains rs q false h e has =
    let no : derived.it (get_or rs has.0 q) q ≡ false = h has.0 q (omega arith) has.1 in
    true≢false (sym (same_refl q) ∙ sym (derived_same q q) ∙ sym (ap (λ (x : BlobRef). derived.it x q) has.2) ∙ no)

pub has_not : (rs : List BlobRef) (q : BlobRef) (b : Bool) → IsAnyAnswer (λ y t. derived.it y q ≡ t) rs b → b ≡ false → Contains rs q → ⊥
has_not rs q b h e = not_contains rs q b h e

pub has_it : (rs : List BlobRef) (q : BlobRef) (b : Bool) → IsAnyAnswer (λ y t. derived.it y q ≡ t) rs b → IsTrue b → Contains rs q
has_it rs q b h t = any_contains rs q b h t

pub adds_pinned : (pinned old : List BlobRef) (r : BlobRef) → Contains pinned r → AddsOnce pinned old old r
adds_pinned pinned old r has = record { there = Contains-append_left pinned old r has; kept = λ q h. h; only = λ q h. inl h; once = λ h. h }

pub adds_old : (pinned old : List BlobRef) (r : BlobRef) → Contains old r → AddsOnce pinned old old r
adds_old pinned old r has = record { there = Contains-append_right pinned old r has; kept = λ q h. h; only = λ q h. inl h; once = λ h. h }

pub adds_new : (pinned old : List BlobRef) (r : BlobRef) → (Contains pinned r → ⊥) → (Contains old r → ⊥) → AddsOnce pinned old (old ++ r ∷ []) r
adds_new pinned old r unpinned unlisted = record {
  there = Contains-append_right pinned (old ++ r ∷ []) r (Contains-push old r);
  kept = λ q h. elim (Contains-append_cases pinned old q h) [
    | inl a ↦ Contains-append_left pinned (old ++ r ∷ []) q a
    | inr b ↦ Contains-append_right pinned (old ++ r ∷ []) q (Contains-append_left old (r ∷ []) q b)
  ];
  only = λ q h. Contains-push_cases old r q h;
  once = λ h. subst IsOnce (append_assoc pinned old (r ∷ [])) (all_pairs_push (λ one other. one ≢ other) (pinned ++ old) r h (λ k d l e. absent (k, l, get_or_default (pinned ++ old) k r d l ∙ e)));
}
  where
    absent : Contains (pinned ++ old) r → ⊥
    absent has = elim (Contains-append_cases pinned old r has) [
      | inl a ↦ unpinned a
      | inr b ↦ unlisted b
    ]

nothing_in : (r : BlobRef) → Contains [] r → ⊥
nothing_in r has = absurd (omega (arith, has.1))

pub fresh_none : (pinned : List BlobRef) → AreFresh pinned [] []
fresh_none pinned = record { all = λ r h. absurd (nothing_in r h); only = λ r h. absurd (nothing_in r h); once = λ h. subst IsOnce (sym (append-nil pinned)) h }

pub fresh_more : (pinned passed old new : List BlobRef) (r : BlobRef) → AreFresh pinned passed old → AddsOnce pinned old new r → AreFresh pinned (passed ++ r ∷ []) new
fresh_more pinned passed old new r are adds = record {
  all = λ q h. elim (Contains-push_cases passed r q h) [
    | inl a ↦ adds.kept q (are.all q a)
    | inr e ↦ subst (λ (x : BlobRef). Contains (pinned ++ new) x) e adds.there
  ];
  only = λ q h. elim (adds.only q h) [
    | inl a ↦ Contains-append_left passed (r ∷ []) q (are.only q a)
    | inr e ↦ subst (λ (x : BlobRef). Contains (passed ++ r ∷ []) x) e (Contains-push passed r)
  ];
  once = λ h. adds.once (are.once h);
}

pub fresh_next : (pinned passed : List BlobRef) (i : ℕ) (d : BlobRef) (old new : List BlobRef) → i < length passed → AreFresh pinned (take i passed) old → AddsOnce pinned old new (get_or passed i d) → AreFresh pinned (take (i + 1) passed) new
fresh_next pinned passed i d old new within are adds =
    let more : take (i + 1) passed ≡ take i passed ++ get_or passed i d ∷ [] = ap (λ k. take k passed) (add-one i) ∙ take-suc passed i d within in
    subst (λ (l : List BlobRef). AreFresh pinned l new) (sym more) (fresh_more pinned (take i passed) old new (get_or passed i d) are adds)

pub fresh_all : (pinned passed : List BlobRef) (i : ℕ) (fresh : List BlobRef) → length passed ≤ i → AreFresh pinned (take i passed) fresh → AreFresh pinned passed fresh
fresh_all pinned passed i fresh within are = subst (λ (l : List BlobRef). AreFresh pinned l fresh) (take_all i passed within) are

-- ---- what an advance tells

-- what is clean, by its reference
abbrev pub seen : Cache → Table
seen cache reference = clean_at reference cache

read-there : (hash : Hash) (st : Store) (top : BlobRef) (cache : Cache) → Reads hash st top cache → Looks hash st top (seen cache)
read-there hash st top cache reads = record { table = reads.table; holds = reads.holds; agrees = reads.agrees }

after_pins : (before after : Cache) (fresh : List BlobRef) (r : BlobRef) → after ≡ with_pins fresh before → clean_at r after ≡ clean_at r before
after_pins before after fresh r is = ap (clean_at r) is ∙ clean_at-with_pins r fresh before

passed_now : (w : Walk) (before after : Cache) (fresh : List BlobRef) (r : BlobRef) → after ≡ with_pins fresh before → Contains w.pinned r → IsSome (clean_at r before) → IsPassed w after r
passed_now w before after fresh r is has clean = (subst (λ (o : Option (List ℕ)). IsSome o) (sym (after_pins before after fresh r is)) clean, has)

-- the same where the walk afterwards is written out
tells_by : (hash : Hash) (st : Store) (old : Walk) (before after : Cache) (passed fresh : List BlobRef) (told : Advance)
    → after ≡ with_pins fresh before
    → ((r : BlobRef) → Contains passed r → Contains (old.pinned ++ fresh) r)
    → ((r : BlobRef) → Contains fresh r → Contains passed r)
    → EndTells (own_walk st old.asked old.path) (own_needs hash st old.asked old.path) (seen before) [] passed told
    → Tells hash st old (record { root = old.root; asked = old.asked; path = old.path; pinned = old.pinned ++ fresh }) after told
tells_by hash st old before after passed fresh (Done found) is all only told =
    let w : Walk = record { root = old.root; asked = old.asked; path = old.path; pinned = old.pinned ++ fresh } in
    let wanted = own_needs hash st old.asked old.path in
    record {
      next = (told.0, λ r has. passed_now w before after fresh r is (all r (subst (λ (l : List BlobRef). Contains l r) (sym told.1.passed) has)) (told.1.known r has));
      pins = λ r has. elim (Contains-append_cases old.pinned fresh r has) as (λ _. Contains old.pinned r ⊎ (Contains wanted r × IsSome (clean_at r after))) [
        | inl a ↦ inl a
        | inr b ↦
            let needed : Contains wanted r = subst (λ (l : List BlobRef). Contains l r) told.1.passed (only r b) in
            inr (needed, (passed_now w before after fresh r is has (told.1.known r needed)).0)
      ];
    }
tells_by hash st old before after passed fresh (Needs reference) is all only told =
    let w : Walk = record { root = old.root; asked = old.asked; path = old.path; pinned = old.pinned ++ fresh } in
    let wanted = own_needs hash st old.asked old.path in
    record {
      next = (told.before, told.behind, told.parts, λ r has. passed_now w before after fresh r is (all r (subst (λ (l : List BlobRef). Contains l r) (sym told.passed) has)) (told.known r has), after_pins before after fresh reference is ∙ told.missing);
      pins = λ r has. elim (Contains-append_cases old.pinned fresh r has) as (λ _. Contains old.pinned r ⊎ (Contains wanted r × IsSome (clean_at r after))) [
        | inl a ↦ inl a
        | inr b ↦
            let front : Contains told.before r = subst (λ (l : List BlobRef). Contains l r) told.passed (only r b) in
            inr (subst (λ (l : List BlobRef). Contains l r) (sym told.parts) (Contains-append_left told.before (reference ∷ told.behind) r front), (passed_now w before after fresh r is has (told.known r front)).0)
      ];
    }

-- a walk that has pinned these besides goes on
pub goes_on : (top : BlobRef) (asked : Query) (path : Path) (pinned more now : List BlobRef) (old : Walk) (before after : Cache) → record { root = top; asked = asked; path = path; pinned = pinned } ≡ old → now ≡ pinned ++ more → after ≡ with_pins more before
    → GoesOn old (record { root = top; asked = asked; path = path; pinned = now }) before after
goes_on top asked path pinned more now old before after is added pins = record {
  more = more;
  root = ap (λ (w : Walk). w.root) is;
  asked = ap (λ (w : Walk). w.asked) is;
  path = ap (λ (w : Walk). w.path) is;
  pinned = added ∙ ap (λ (w : Walk). w.pinned ++ more) is;
  cache = pins;
}

-- what was pinned of what a look has passed
pub record IsPinned (before after : Cache) (pinned passed more now : List BlobRef) : Type 0 where
  pub added : now ≡ pinned ++ more
  pub pins : after ≡ with_pins more before
  pub fresh : AreFresh pinned passed more

pub advance_tells : (hash : Hash) (st : Store) (top : BlobRef) (asked : Query) (path slice : Path) (pinned passed more now none : List BlobRef) (old : Walk) (before after : Cache) (told : Advance)
    → record { root = top; asked = asked; path = path; pinned = pinned } ≡ old → IsPinned before after pinned passed more now → none ≡ [] → slice ≡ path
    → (Looks hash st top (seen before) → EndTells (own_walk st asked slice) (own_needs hash st asked slice) (seen before) none passed told)
    → Reads hash st old.root before → Tells hash st old (record { root = top; asked = asked; path = path; pinned = now }) after told
advance_tells hash st top asked path slice pinned passed more now none old before after told is has empty same looks =
    let w : Walk = record { root = top; asked = asked; path = path; pinned = pinned } in
    let here = λ (reads : Reads hash st top before).
    tells_by hash st w before after passed more told has.pins has.fresh.all has.fresh.only
    (subst (λ (l : List BlobRef). EndTells (own_walk st asked path) (own_needs hash st asked path) (seen before) l passed told) empty
    (subst (λ (q : Path). EndTells (own_walk st asked q) (own_needs hash st asked q) (seen before) none passed told) same (looks (read-there hash st top before reads)))) in
    subst (λ (v : Walk). Reads hash st v.root before → Tells hash st v (record { root = top; asked = asked; path = path; pinned = now }) after told) is
    (λ reads. subst (λ (l : List BlobRef). Tells hash st w (record { root = top; asked = asked; path = path; pinned = l }) after told) (sym has.added) (here reads))
