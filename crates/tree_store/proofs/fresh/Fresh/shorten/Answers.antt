use Rattle.std.proofs.Common.{rules, ◌≡◌, ◌<◌, ◌++◌, [], false, Some, length, ℕ, List, refl, sym, ap, ◌∙◌, subst, arith, add-one}
use Rattle.blob_store.specs.Blobs.{blob_at}
use Rattle.fl_digest.specs.Reference.{reference_of}
use Rattle.std.proofs.lemmas.Grind.{common_steps}
use Rattle.tree_objects.specs.Directories.{names_of}
use Rattle.tree_objects.specs.Level.{tree_of}
use Rattle.tree_rules.specs.Objects.{Entries}
use Rattle.tree_store.specs.Fresh.{HasAll, ClashesIn, HasLongAt, Blobs}
use Rattle.tree_store.specs.Long.{is_long_value}
use Rattle.tree_store.specs.Shown.{long_values, shortened_at, long_values_at}
use Rattle.std.specs.Prelude.{Contains}
use borrow.Author.Count.{below_more}
use Rattle.tree_store.proofs.Shortening.{first_shortened, first_more, first_all, names_first, values_first, of_all, all_held, tree_at, place_is, stays_at, values_at, object_same, object_none}
use Rattle.tree_store.proofs.Added.{adds_none, adds_more, adds_of, clashes_of, held_still}
use Rattle.tree_store.proofs.fresh.Fresh.shorten.Goals as goal

pub loop-index-init : goal.loop-index-init
loop-index-init c = record {
  shortened = refl;
  apart = c.requires;
  held = λ k w. absurd (omega arith);
  only = adds_none c.args.hash (long_values c.args.directory.now) c.args.self.now;
}

pub shorten_at-requires : goal.shorten_at-requires
shorten_at-requires c = record {
  apart = c.loop-index.invariant.apart;
  within = omega (arith, c.loop-index-test.true, ap length c.names-index-end.ensures, ap length (ap names_of c.loop-index.invariant.shortened ∙ names_first c.args.hash c.loop-index.index c.args.directory.now));
}

pub offset_bounds-objects-index : goal.offset_bounds-objects-index
offset_bounds-objects-index c =
    let same = ap length (ap names_of c.loop-index.invariant.shortened ∙ names_first c.args.hash c.loop-index.index c.args.directory.now) in
    let within : c.loop-index.index < length c.objects.result.now = omega (arith, c.loop-index-test.true, ap length c.names-index-end.ensures, same, c.objects.ensures.length) in
    first_of (omega (arith, within), search (rules, within))

pub bounds-objects-index : goal.bounds-objects-index
bounds-objects-index c =
    let same = ap length (ap names_of c.loop-index.invariant.shortened ∙ names_first c.args.hash c.loop-index.index c.args.directory.now) in
    omega (arith, c.loop-index-test.true, ap length c.names-index-end.ensures, same, c.objects.ensures.length)

pub loop-index-preserved-then-not-is_long : goal.loop-index-preserved-then-not-is_long
loop-index-preserved-then-not-is_long c =
    let es : Entries = c.args.directory.now in
    let now : Entries = c.loop-index.directory in
    let i = c.loop-index.index in
    let h = c.args.hash in
    let inv = c.loop-index.invariant in
    let o = c.index-objects-index.result in
    let same : long_values_at i now ≡ long_values_at i es = ap (long_values_at i) inv.shortened ∙ values_first h i es in
    let count = ap length (ap names_of inv.shortened ∙ names_first h i es) in
    let within : i < length (names_of now) = omega (arith, c.loop-index-test.true, ap length c.names-index-end.ensures, count) in
    let here : tree_at i now ≡ Some (tree_of o) = subst (λ (xs : Entries). tree_at i xs ≡ Some (tree_of o)) c.objects.ensures.objects (place_is (names_of now) c.objects.result.now i o c.objects.ensures.length within c.index-objects-index.is) in
    let short : is_long_value (tree_of o) ≡ false = grind (arith, common_steps, c.is_long.ensures, c.if-not-is_long.true) in
    let none : long_values_at i es ≡ [] = sym same ∙ values_at i now (tree_of o) here ∙ object_none (tree_of o) short in
    record {
      shortened = sym (stays_at h i now (tree_of o) here (object_same h (tree_of o) short)) ∙ ap (shortened_at h i) inv.shortened ∙ first_more h i es ∙ ap (λ n. first_shortened h n es) (sym (add-one i));
      apart = inv.apart;
      held = below_more (λ k. HasLongAt h es k (c.args.store.now ++ c.loop-index.self)) i inv.held (subst (λ (xs : List (List ℕ)). HasAll h xs (c.args.store.now ++ c.loop-index.self)) (sym none) tt);
      only = inv.only;
    }

pub loop-index-preserved : goal.loop-index-preserved
loop-index-preserved c =
    let es : Entries = c.args.directory.now in
    let i = c.loop-index.index in
    let h = c.args.hash in
    let inv = c.loop-index.invariant in
    let store : Blobs = c.args.store.now in
    let same : long_values_at i c.loop-index.directory ≡ long_values_at i es = ap (long_values_at i) inv.shortened ∙ values_first h i es in
    let within : (bytes : List ℕ) → Contains (long_values_at i c.loop-index.directory) bytes → Contains (long_values es) bytes = λ bytes d. of_all i es bytes (subst (λ (xs : List (List ℕ)). Contains xs bytes) same d) in
    record {
      shortened = c.in_ok-shorten_at.ensures.shortened ∙ ap (shortened_at h i) inv.shortened ∙ first_more h i es ∙ ap (λ n. first_shortened h n es) (sym (add-one i));
      apart = c.shorten_at.ensures.apart;
      held = below_more (λ k. HasLongAt h es k (store ++ c.shorten_at.new.self)) i
          (λ k w. held_still h (long_values_at i c.loop-index.directory) (long_values_at k es) store c.loop-index.self c.shorten_at.new.self c.shorten_at.ensures.only (inv.held k w))
          (subst (λ (xs : List (List ℕ)). HasAll h xs (store ++ c.shorten_at.new.self)) same c.in_ok-shorten_at.ensures.held);
      only = adds_more h (long_values es) c.args.self.now c.loop-index.self c.shorten_at.new.self inv.only (adds_of h (long_values_at i c.loop-index.directory) (long_values es) c.loop-index.self c.shorten_at.new.self within c.shorten_at.ensures.only);
    }

pub returns-in_err-shorten_at-clause-only : goal.returns-in_err-shorten_at-clause-only
returns-in_err-shorten_at-clause-only c =
    let es : Entries = c.args.directory.now in
    let i = c.loop-index.index in
    let h = c.args.hash in
    let inv = c.loop-index.invariant in
    let store : Blobs = c.args.store.now in
    let same : long_values_at i c.loop-index.directory ≡ long_values_at i es = ap (long_values_at i) inv.shortened ∙ values_first h i es in
    let within : (bytes : List ℕ) → Contains (long_values_at i c.loop-index.directory) bytes → Contains (long_values es) bytes = λ bytes d. of_all i es bytes (subst (λ (xs : List (List ℕ)). Contains xs bytes) same d) in
    adds_more h (long_values es) c.args.self.now c.loop-index.self c.shorten_at.new.self inv.only (adds_of h (long_values_at i c.loop-index.directory) (long_values es) c.loop-index.self c.shorten_at.new.self within c.shorten_at.ensures.only)

pub returns-in_err-shorten_at-clause-clash : goal.returns-in_err-shorten_at-clause-clash
returns-in_err-shorten_at-clause-clash c =
    let es : Entries = c.args.directory.now in
    let i = c.loop-index.index in
    let h = c.args.hash in
    let inv = c.loop-index.invariant in
    let store : Blobs = c.args.store.now in
    let same : long_values_at i c.loop-index.directory ≡ long_values_at i es = ap (long_values_at i) inv.shortened ∙ values_first h i es in
    let within : (bytes : List ℕ) → Contains (long_values_at i c.loop-index.directory) bytes → Contains (long_values es) bytes = λ bytes d. of_all i es bytes (subst (λ (xs : List (List ℕ)). Contains xs bytes) same d) in
    let mine : ClashesIn h (long_values es) (store ++ c.shorten_at.new.self) c.in_err-shorten_at.field-0.0 = clashes_of h (long_values_at i c.loop-index.directory) (long_values es) (store ++ c.shorten_at.new.self) c.in_err-shorten_at.field-0.0 within c.in_err-shorten_at.ensures.clash in
    search rules

pub returns-clause-shortened : goal.returns-clause-shortened
returns-clause-shortened c =
    c.loop-index.invariant.shortened ∙ first_all c.args.hash c.loop-index.index c.args.directory.now (omega (arith, c.loop-index-test.false, ap length c.names-index-end.ensures))

pub returns-clause-held : goal.returns-clause-held
returns-clause-held c =
    all_held (λ bytes. blob_at (reference_of c.args.hash bytes) (c.args.store.now ++ c.loop-index.self) ≡ Some bytes) c.args.directory.now
    (λ k w. c.loop-index.invariant.held k (omega (arith, w, c.loop-index-test.false, ap length c.names-index-end.ensures)))
