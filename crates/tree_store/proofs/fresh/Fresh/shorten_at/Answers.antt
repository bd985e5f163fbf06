use Rattle.std.proofs.Common.{rules, ◌≡◌, ◌++◌, ◌∷◌, [], Some, ℕ, true, false, List, sym, ap, ◌∙◌, subst, get_or}
use Rattle.tree_objects.specs.Directories.{names_of}
use Rattle.tree_objects.specs.Level.{tree_of}
use Rattle.tree_rules.specs.Objects.{Entries, val, entries_of}
use Rattle.tree_rules.specs.Texts.{is_long}
use Rattle.tree_store.specs.Fresh.{AddsSome, HasAll, ClashesIn}
use Rattle.tree_store.specs.Shown.{long_values_at}
use Rattle.tree_objects.specs.declared.object.Object.{Object}
use Rattle.tree_store.proofs.Shortening.{tree_at, place_is, stays_at, values_at, value_at, short_at, short_same, long_same, put_at, short_of, long_of, other_same, other_none, name_is, one_of_all}
use Rattle.tree_store.specs.declared.faults.TreeFault.{TreeFault}
use Rattle.tree_store.specs.declared.faults.TreeFault.TheVariants.{NoMemory}
use Rattle.tree_objects.proofs.Pairs.{entries_of_listed}
use Rattle.tree_store.proofs.fresh.Fresh.shorten_at.Goals as goal

pub returns-in_default-clause-shortened : goal.returns-in_default-clause-shortened
returns-in_default-clause-shortened c =
    let es : Entries = c.args.directory.now in
    let here : tree_at c.args.index es ≡ Some (tree_of c.index-objects-index.result) = subst (λ (xs : Entries). tree_at c.args.index xs ≡ Some (tree_of c.index-objects-index.result)) c.objects.ensures.objects (place_is (names_of es) c.objects.result.now c.args.index c.index-objects-index.result c.objects.ensures.length c.requires.within c.index-objects-index.is) in
    sym (stays_at c.args.hash c.args.index es (tree_of c.index-objects-index.result) here (other_same c.args.hash c.index-objects-index.result c.in_default.not-Val))

pub returns-in_default-clause-held : goal.returns-in_default-clause-held
returns-in_default-clause-held c =
    let es : Entries = c.args.directory.now in
    let here : tree_at c.args.index es ≡ Some (tree_of c.index-objects-index.result) = subst (λ (xs : Entries). tree_at c.args.index xs ≡ Some (tree_of c.index-objects-index.result)) c.objects.ensures.objects (place_is (names_of es) c.objects.result.now c.args.index c.index-objects-index.result c.objects.ensures.length c.requires.within c.index-objects-index.is) in
    subst (λ (xs : List (List ℕ)). HasAll c.args.hash xs (c.args.store.now ++ c.args.self.now)) (sym (values_at c.args.index es (tree_of c.index-objects-index.result) here ∙ other_none c.index-objects-index.result c.in_default.not-Val)) tt

pub returns-then-as_slice-le-MOST_INLINE-clause-shortened :
    goal.returns-then-as_slice-le-MOST_INLINE-clause-shortened
returns-then-as_slice-le-MOST_INLINE-clause-shortened c =
    let es : Entries = c.args.directory.now in
    let here : tree_at c.args.index es ≡ Some (tree_of c.index-objects-index.result) = subst (λ (xs : Entries). tree_at c.args.index xs ≡ Some (tree_of c.index-objects-index.result)) c.objects.ensures.objects (place_is (names_of es) c.objects.result.now c.args.index c.index-objects-index.result c.objects.ensures.length c.requires.within c.index-objects-index.is) in
    let value : tree_at c.args.index es ≡ Some (val c.in-Val.bytes) = here ∙ ap (λ (o : Object). Some (tree_of o)) c.in-Val.is in
    let short : is_long c.in-Val.bytes ≡ false = short_of c.in-Val.bytes c.as_slice.result.now c.as_slice.ensures c.if-as_slice-le-MOST_INLINE.true in
    sym (stays_at c.args.hash c.args.index es (val c.in-Val.bytes) value (short_same c.args.hash c.in-Val.bytes short))

pub returns-then-as_slice-le-MOST_INLINE-clause-held :
    goal.returns-then-as_slice-le-MOST_INLINE-clause-held
returns-then-as_slice-le-MOST_INLINE-clause-held c =
    let es : Entries = c.args.directory.now in
    let here : tree_at c.args.index es ≡ Some (tree_of c.index-objects-index.result) = subst (λ (xs : Entries). tree_at c.args.index xs ≡ Some (tree_of c.index-objects-index.result)) c.objects.ensures.objects (place_is (names_of es) c.objects.result.now c.args.index c.index-objects-index.result c.objects.ensures.length c.requires.within c.index-objects-index.is) in
    let value : tree_at c.args.index es ≡ Some (val c.in-Val.bytes) = here ∙ ap (λ (o : Object). Some (tree_of o)) c.in-Val.is in
    let short : is_long c.in-Val.bytes ≡ false = short_of c.in-Val.bytes c.as_slice.result.now c.as_slice.ensures c.if-as_slice-le-MOST_INLINE.true in
    subst (λ (xs : List (List ℕ)). HasAll c.args.hash xs (c.args.store.now ++ c.args.self.now)) (sym (short_at c.args.index es c.in-Val.bytes value short)) tt

pub returns-in_err-object-clause-only : goal.returns-in_err-object-clause-only
returns-in_err-object-clause-only c =
    let es : Entries = c.args.directory.now in
    let here : tree_at c.args.index es ≡ Some (tree_of c.index-objects-index.result) = subst (λ (xs : Entries). tree_at c.args.index xs ≡ Some (tree_of c.index-objects-index.result)) c.objects.ensures.objects (place_is (names_of es) c.objects.result.now c.args.index c.index-objects-index.result c.objects.ensures.length c.requires.within c.index-objects-index.is) in
    let value : tree_at c.args.index es ≡ Some (val c.in-Val.bytes) = here ∙ ap (λ (o : Object). Some (tree_of o)) c.in-Val.is in
    let long : is_long c.in-Val.bytes ≡ true = long_of c.in-Val.bytes c.as_slice.result.now c.as_slice.ensures c.if-as_slice-le-MOST_INLINE.false in
    let all : long_values_at c.args.index es ≡ c.in-Val.bytes ∷ [] = value_at c.args.index es c.in-Val.bytes value long in
    subst (λ (xs : List (List ℕ)). AddsSome c.args.hash xs c.args.self.now c.long_value.new.self) (sym all) c.long_value.ensures.only

pub returns-in_err-object-clause-clash : goal.returns-in_err-object-clause-clash
returns-in_err-object-clause-clash c =
    let es : Entries = c.args.directory.now in
    let here : tree_at c.args.index es ≡ Some (tree_of c.index-objects-index.result) = subst (λ (xs : Entries). tree_at c.args.index xs ≡ Some (tree_of c.index-objects-index.result)) c.objects.ensures.objects (place_is (names_of es) c.objects.result.now c.args.index c.index-objects-index.result c.objects.ensures.length c.requires.within c.index-objects-index.is) in
    let value : tree_at c.args.index es ≡ Some (val c.in-Val.bytes) = here ∙ ap (λ (o : Object). Some (tree_of o)) c.in-Val.is in
    let long : is_long c.in-Val.bytes ≡ true = long_of c.in-Val.bytes c.as_slice.result.now c.as_slice.ensures c.if-as_slice-le-MOST_INLINE.false in
    let all : long_values_at c.args.index es ≡ c.in-Val.bytes ∷ [] = value_at c.args.index es c.in-Val.bytes value long in
    let mine : ClashesIn c.args.hash (long_values_at c.args.index es) (c.args.store.now ++ c.long_value.new.self) c.in_err-object.field-0.0 = (c.in-Val.bytes, one_of_all (long_values_at c.args.index es) c.in-Val.bytes all, c.in_err-object.ensures.clash) in
    search rules

pub returns-in_err-name-clause-only : goal.returns-in_err-name-clause-only
returns-in_err-name-clause-only c =
    let es : Entries = c.args.directory.now in
    let here : tree_at c.args.index es ≡ Some (tree_of c.index-objects-index.result) = subst (λ (xs : Entries). tree_at c.args.index xs ≡ Some (tree_of c.index-objects-index.result)) c.objects.ensures.objects (place_is (names_of es) c.objects.result.now c.args.index c.index-objects-index.result c.objects.ensures.length c.requires.within c.index-objects-index.is) in
    let value : tree_at c.args.index es ≡ Some (val c.in-Val.bytes) = here ∙ ap (λ (o : Object). Some (tree_of o)) c.in-Val.is in
    let long : is_long c.in-Val.bytes ≡ true = long_of c.in-Val.bytes c.as_slice.result.now c.as_slice.ensures c.if-as_slice-le-MOST_INLINE.false in
    let all : long_values_at c.args.index es ≡ c.in-Val.bytes ∷ [] = value_at c.args.index es c.in-Val.bytes value long in
    subst (λ (xs : List (List ℕ)). AddsSome c.args.hash xs c.args.self.now c.long_value.new.self) (sym all) c.long_value.ensures.only

pub returns-in_err-name-clause-clash : goal.returns-in_err-name-clause-clash
returns-in_err-name-clause-clash c =
    let es : Entries = c.args.directory.now in
    let here : tree_at c.args.index es ≡ Some (tree_of c.index-objects-index.result) = subst (λ (xs : Entries). tree_at c.args.index xs ≡ Some (tree_of c.index-objects-index.result)) c.objects.ensures.objects (place_is (names_of es) c.objects.result.now c.args.index c.index-objects-index.result c.objects.ensures.length c.requires.within c.index-objects-index.is) in
    let value : tree_at c.args.index es ≡ Some (val c.in-Val.bytes) = here ∙ ap (λ (o : Object). Some (tree_of o)) c.in-Val.is in
    let long : is_long c.in-Val.bytes ≡ true = long_of c.in-Val.bytes c.as_slice.result.now c.as_slice.ensures c.if-as_slice-le-MOST_INLINE.false in
    let all : long_values_at c.args.index es ≡ c.in-Val.bytes ∷ [] = value_at c.args.index es c.in-Val.bytes value long in
    let want : (fault : TreeFault) → fault ≡ NoMemory → ClashesIn c.args.hash (long_values_at c.args.index es) (c.args.store.now ++ c.long_value.new.self) fault =
    λ fault is. subst (ClashesIn c.args.hash (long_values_at c.args.index es) (c.args.store.now ++ c.long_value.new.self)) (sym is) (c.in-Val.bytes, one_of_all (long_values_at c.args.index es) c.in-Val.bytes all, tt) in
    search (rules, want)

pub returns-in_err-put-clause-only : goal.returns-in_err-put-clause-only
returns-in_err-put-clause-only c =
    let es : Entries = c.args.directory.now in
    let here : tree_at c.args.index es ≡ Some (tree_of c.index-objects-index.result) = subst (λ (xs : Entries). tree_at c.args.index xs ≡ Some (tree_of c.index-objects-index.result)) c.objects.ensures.objects (place_is (names_of es) c.objects.result.now c.args.index c.index-objects-index.result c.objects.ensures.length c.requires.within c.index-objects-index.is) in
    let value : tree_at c.args.index es ≡ Some (val c.in-Val.bytes) = here ∙ ap (λ (o : Object). Some (tree_of o)) c.in-Val.is in
    let long : is_long c.in-Val.bytes ≡ true = long_of c.in-Val.bytes c.as_slice.result.now c.as_slice.ensures c.if-as_slice-le-MOST_INLINE.false in
    let all : long_values_at c.args.index es ≡ c.in-Val.bytes ∷ [] = value_at c.args.index es c.in-Val.bytes value long in
    subst (λ (xs : List (List ℕ)). AddsSome c.args.hash xs c.args.self.now c.long_value.new.self) (sym all) c.long_value.ensures.only

pub returns-in_err-put-clause-clash : goal.returns-in_err-put-clause-clash
returns-in_err-put-clause-clash c =
    let es : Entries = c.args.directory.now in
    let here : tree_at c.args.index es ≡ Some (tree_of c.index-objects-index.result) = subst (λ (xs : Entries). tree_at c.args.index xs ≡ Some (tree_of c.index-objects-index.result)) c.objects.ensures.objects (place_is (names_of es) c.objects.result.now c.args.index c.index-objects-index.result c.objects.ensures.length c.requires.within c.index-objects-index.is) in
    let value : tree_at c.args.index es ≡ Some (val c.in-Val.bytes) = here ∙ ap (λ (o : Object). Some (tree_of o)) c.in-Val.is in
    let long : is_long c.in-Val.bytes ≡ true = long_of c.in-Val.bytes c.as_slice.result.now c.as_slice.ensures c.if-as_slice-le-MOST_INLINE.false in
    let all : long_values_at c.args.index es ≡ c.in-Val.bytes ∷ [] = value_at c.args.index es c.in-Val.bytes value long in
    let want : (fault : TreeFault) → fault ≡ NoMemory → ClashesIn c.args.hash (long_values_at c.args.index es) (c.args.store.now ++ c.long_value.new.self) fault =
    λ fault is. subst (ClashesIn c.args.hash (long_values_at c.args.index es) (c.args.store.now ++ c.long_value.new.self)) (sym is) (c.in-Val.bytes, one_of_all (long_values_at c.args.index es) c.in-Val.bytes all, tt) in
    search (rules, want)

pub returns-clause-shortened : goal.returns-clause-shortened
returns-clause-shortened c =
    let es : Entries = c.args.directory.now in
    let here : tree_at c.args.index es ≡ Some (tree_of c.index-objects-index.result) = subst (λ (xs : Entries). tree_at c.args.index xs ≡ Some (tree_of c.index-objects-index.result)) c.objects.ensures.objects (place_is (names_of es) c.objects.result.now c.args.index c.index-objects-index.result c.objects.ensures.length c.requires.within c.index-objects-index.is) in
    let value : tree_at c.args.index es ≡ Some (val c.in-Val.bytes) = here ∙ ap (λ (o : Object). Some (tree_of o)) c.in-Val.is in
    let long : is_long c.in-Val.bytes ≡ true = long_of c.in-Val.bytes c.as_slice.result.now c.as_slice.ensures c.if-as_slice-le-MOST_INLINE.false in
    let all : long_values_at c.args.index es ≡ c.in-Val.bytes ∷ [] = value_at c.args.index es c.in-Val.bytes value long in
    let name : c.in_ok-name.name ≡ get_or (names_of es) c.args.index c.in_ok-name.name = name_is c.names.result.now (names_of es) c.args.index c.index-names-index.result c.in_ok-name.name c.in_ok-name.ensures c.index-names-index.is c.names.ensures in
    sym (entries_of_listed c.put.new.self) ∙ ap entries_of c.in_ok-put.ensures.put
    ∙ put_at c.args.hash es c.args.index c.in_ok-name.name (val c.in-Val.bytes) (tree_of c.in_ok-object.object) c.is_directory.ensures.sorted c.requires.within name value (long_same c.args.hash c.in-Val.bytes long ∙ sym c.in_ok-object.ensures.object)

pub returns-clause-held : goal.returns-clause-held
returns-clause-held c =
    let es : Entries = c.args.directory.now in
    let here : tree_at c.args.index es ≡ Some (tree_of c.index-objects-index.result) = subst (λ (xs : Entries). tree_at c.args.index xs ≡ Some (tree_of c.index-objects-index.result)) c.objects.ensures.objects (place_is (names_of es) c.objects.result.now c.args.index c.index-objects-index.result c.objects.ensures.length c.requires.within c.index-objects-index.is) in
    let value : tree_at c.args.index es ≡ Some (val c.in-Val.bytes) = here ∙ ap (λ (o : Object). Some (tree_of o)) c.in-Val.is in
    let long : is_long c.in-Val.bytes ≡ true = long_of c.in-Val.bytes c.as_slice.result.now c.as_slice.ensures c.if-as_slice-le-MOST_INLINE.false in
    let all : long_values_at c.args.index es ≡ c.in-Val.bytes ∷ [] = value_at c.args.index es c.in-Val.bytes value long in
    subst (λ (xs : List (List ℕ)). HasAll c.args.hash xs (c.args.store.now ++ c.long_value.new.self)) (sym all) (c.in_ok-object.ensures.held, tt)

pub returns-clause-only : goal.returns-clause-only
returns-clause-only c =
    let es : Entries = c.args.directory.now in
    let here : tree_at c.args.index es ≡ Some (tree_of c.index-objects-index.result) = subst (λ (xs : Entries). tree_at c.args.index xs ≡ Some (tree_of c.index-objects-index.result)) c.objects.ensures.objects (place_is (names_of es) c.objects.result.now c.args.index c.index-objects-index.result c.objects.ensures.length c.requires.within c.index-objects-index.is) in
    let value : tree_at c.args.index es ≡ Some (val c.in-Val.bytes) = here ∙ ap (λ (o : Object). Some (tree_of o)) c.in-Val.is in
    let long : is_long c.in-Val.bytes ≡ true = long_of c.in-Val.bytes c.as_slice.result.now c.as_slice.ensures c.if-as_slice-le-MOST_INLINE.false in
    let all : long_values_at c.args.index es ≡ c.in-Val.bytes ∷ [] = value_at c.args.index es c.in-Val.bytes value long in
    subst (λ (xs : List (List ℕ)). AddsSome c.args.hash xs c.args.self.now c.long_value.new.self) (sym all) c.long_value.ensures.only
