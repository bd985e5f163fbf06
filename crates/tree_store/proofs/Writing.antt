-- The last open directory is closed: its blobs are there, and it stands by its reference.
use Rattle.std.proofs.Common.{◌≡◌, ◌≢◌, ℕ, true, false, cond, List, [], ◌∷◌, ◌++◌, Option, Some, None, refl, sym, ap, ◌∙◌, subst, append_assoc, append-nil, arith, Ordering, Less, Equal, Greater}
use Rattle.std.specs.Prelude.{IsSome, IsTrue, Contains, Ok}
use Rattle.std.specs.FinMap.Entries as finite
use Rattle.std.specs.Ordering.{eq_by_cmp, ordering_then}
use Rattle.std.specs.Cmp.{tied_itself}
use Rattle.std.proofs.lemmas.Cmp.{nat_list_cmp_total}
use Rattle.std.proofs.lemmas.List.Elements.{Contains-append_left, Contains-append_right}
use Rattle.fl_digest.specs.declared.Hash.{Hash}
use Rattle.fl_digest.specs.Reference.{reference_of}
use Rattle.kvs_model.specs.Store.{Name, Path, Node, Value, Directory, Link, Store, IsStore, node_at, path_cmp, is_within}
use Rattle.kvs_model.proofs.Paths.{path_total, path_self, within_self, within_longer}
use Rattle.tree_rules.specs.Held.{Table, Keeps}
use Rattle.tree_rules.specs.Names.{name_cmp}
use Rattle.tree_rules.specs.Objects.{Tree, val, valref, dir, dirref, symlink, Entries, no_entries, entry, listed}
use Rattle.tree_rules.specs.Texts.{is_long, directory_text}
use Rattle.tree_objects.specs.Reading.{Gives}
use Rattle.tree_objects.specs.declared.object.Object.TheVariants.{Dir}
use Rattle.tree_store.proofs.Readable.{stored_gives}
use Rattle.tree_store.specs.Shown.{Directories, opened_at, Stands, Shows, HasBlob, HasBelow, with_object, all_shortened, long_values, entries_text}
use Rattle.tree_store.proofs.Opening.{longer, is_some, not_both, name_self}
use Rattle.tree_store.proofs.Closing.{closed_entries, closed_text}
use Rattle.tree_store.proofs.Replacing.{within_rest, shows_replaced}
use Rattle.tree_store.proofs.Steps.{path_apart, not_parent, not_whole, up_with, object_with, opened-put, find_with}

-- ---- a table that has more

stands_kept : (h : Hash) (table more : Table) (ds : Directories) (st : Store) (q : Path) (o : Option Tree) → Keeps table more → Stands h table ds st q o → Stands h more ds st q o
stands_kept h table more ds st q None keeps is = is
stands_kept h table more ds st q (Some (val bytes)) keeps is = is
stands_kept h table more ds st q (Some (valref references)) keeps is = record { bytes = is.bytes; value = is.value; long = is.long; named = is.named; held = keeps (reference_of h is.bytes) is.bytes is.held }
stands_kept h table more ds st q (Some (dir es)) keeps is = is
stands_kept h table more ds st q (Some (dirref reference)) keeps is = record {
  directory = is.directory;
  named = is.named;
  closed = is.closed;
  held = record {
    texts = λ place w d. keeps (reference_of h (directory_text h st place)) (directory_text h st place) (is.held.texts place w d);
    values = λ place bytes w v long. keeps (reference_of h bytes) bytes (is.held.values place bytes w v long);
  };
}
stands_kept h table more ds st q (Some (symlink target)) keeps is = is

pub shows_kept : (h : Hash) (table more : Table) (ds : Directories) (st : Store) → Keeps table more → Shows h table ds st → Shows h more ds st
shows_kept h table more ds st keeps shows = record {
  store = shows.store;
  storable = shows.storable;
  rooted = shows.rooted;
  places = shows.places;
  told = λ path es name is. stands_kept h table more ds st (path ++ name ∷ []) (finite.find name_cmp name (listed es)) keeps (shows.told path es name is);
  above = shows.above;
}

-- ---- the last of the open directories

abbrev first_of : Option Entries → Option Entries → Option Entries
first_of (Some es) other = Some es
first_of None other = other

opened-append : (q : Path) (front back : Directories) → opened_at (front ++ back) q ≡ first_of (opened_at front q) (opened_at back q)
opened-append q [] back = refl
opened-append q (e ∷ front) back =
    elim (eq_by_cmp path_cmp q e.0) as (λ b. cond b (Some e.1) (opened_at (front ++ back) q) ≡ first_of (cond b (Some e.1) (opened_at front q)) (opened_at back q)) [
      | true ↦ refl
      | false ↦ opened-append q front back
    ]

first_none : (o other : Option Entries) → other ≡ None → first_of o other ≡ o
first_none (Some es) other none = refl
first_none None other none = none

-- a longer path comes later
later : (p : Path) (n : Name) (r : Path) → path_cmp (p ++ n ∷ r) p ≡ Greater
later [] n r = refl
later (x ∷ p) n r = ap (λ (o : Ordering). ordering_then o (path_cmp (p ++ n ∷ r) p)) (tied_itself nat_list_cmp_total x) ∙ later p n r

less_not_greater : (o : Ordering) → o ≡ Less → o ≡ Greater → ⊥
less_not_greater o a b = let e : Less ≡ Greater = sym a ∙ b in absurd (cc)

less_not_equal : (o : Ordering) → o ≡ Less → o ≡ Equal → ⊥
less_not_equal o a b = let e : Less ≡ Equal = sym a ∙ b in absurd (cc)

-- a directory stands above each node
directory_above : (st : Store) → IsStore st → (c : Path) (n : Name) (r : Path) → IsSome (node_at st (c ++ n ∷ r)) → node_at st c ≡ Some Directory
directory_above st is c n [] some = is.parents c n some
directory_above st is c n (m ∷ r) some =
    is.parents c n (is_some (node_at st (c ++ n ∷ [])) Directory (directory_above st is (c ++ n ∷ []) m r (subst (λ (q : Path). IsSome (node_at st q)) (sym (append_assoc c (n ∷ []) (m ∷ r))) some)))

two_nodes : {A : Type 0} (o : Option Node) (x y : Node) → o ≡ Some x → o ≡ Some y → (Some x ≡ Some y → A) → A
two_nodes o x y a b f = f (sym a ∙ b)

no_node : {A : Type 0} (o : Option Node) (x : Node) → o ≡ None → o ≡ Some x → A
no_node o x a b = let e : None ≡ Some x = sym a ∙ b in absurd (cc)

-- a long value among entries is one of theirs
own_long : (m : Name) (tree : Tree) (es : Entries) (bytes : List ℕ) → tree ≡ val bytes → is_long bytes ≡ true → Contains (long_values (entry m tree es)) bytes
own_long m (val other) es bytes e long =
    let same : other ≡ bytes = (let f : val other ≡ val bytes = e in cc) in
    Contains-append_left (cond (is_long other) (other ∷ []) []) (long_values es) bytes
    (subst (λ b. Contains (cond b (other ∷ []) []) bytes) (sym (ap is_long same ∙ long)) (0, omega arith, same))
own_long m (valref references) es bytes e long = absurd (cc)
own_long m (dir inner) es bytes e long = absurd (cc)
own_long m (dirref reference) es bytes e long = absurd (cc)
own_long m (symlink target) es bytes e long = absurd (cc)

more_long : (m : Name) (tree : Tree) (es : Entries) (bytes : List ℕ) → Contains (long_values es) bytes → Contains (long_values (entry m tree es)) bytes
more_long m (val other) es bytes c = Contains-append_right (cond (is_long other) (other ∷ []) []) (long_values es) bytes c
more_long m (valref references) es bytes c = c
more_long m (dir inner) es bytes c = c
more_long m (dirref reference) es bytes c = c
more_long m (symlink target) es bytes c = c

some_tree : (a b : Tree) → Some a ≡ Some b → a ≡ b
some_tree a b e = cc

find_long : (n : Name) (bytes : List ℕ) (es : Entries) → finite.find name_cmp n (listed es) ≡ Some (val bytes) → is_long bytes ≡ true → Contains (long_values es) bytes
find_long n bytes no_entries is long = absurd (cc)
find_long n bytes (entry m tree es) is long =
    elim (eq_by_cmp name_cmp n m) as (λ b. cond b (Some tree) (finite.find name_cmp n (listed es)) ≡ Some (val bytes) → Contains (long_values (entry m tree es)) bytes) [
      | true ↦ λ e. own_long m tree es bytes (some_tree tree (val bytes) e) long
      | false ↦ λ e. more_long m tree es bytes (find_long n bytes es e long)
    ] is

module _ (h : Hash) (table : Table) (front : Directories) (path : Path) (es : Entries) (st : Store) (shows : Shows h table (front ++ (path, es) ∷ []) st)
    (earlier : (q : Path) → IsSome (opened_at front q) → path_cmp q path ≡ Less) (sorted : IsTrue (finite.is_sorted name_cmp (listed es))) where
  front_none : opened_at front path ≡ None
  front_none = nothing (opened_at front path) refl
    where
      nothing : (o : Option Entries) → opened_at front path ≡ o → o ≡ None
      nothing None e = refl
      nothing (Some fs) e = absurd (less_not_equal (path_cmp path path) (earlier path (is_some (opened_at front path) fs e)) (tied_itself path_total path))

  pub at_last : opened_at (front ++ (path, es) ∷ []) path ≡ Some es
  at_last =
      opened-append path front ((path, es) ∷ [])
      ∙ ap (λ (o : Option Entries). first_of o (opened_at ((path, es) ∷ []) path)) front_none
      ∙ ap (λ b. cond b (Some es) None) (path_self path)

  pub at_others : (q : Path) → q ≢ path → opened_at (front ++ (path, es) ∷ []) q ≡ opened_at front q
  at_others q ne =
      opened-append q front ((path, es) ∷ [])
      ∙ first_none (opened_at front q) (opened_at ((path, es) ∷ []) q) (ap (λ b. cond b (Some es) None) (path_apart q path ne))

  none_below : (n : Name) (r : Path) → opened_at (front ++ (path, es) ∷ []) (path ++ n ∷ r) ≡ None
  none_below n r = nothing (opened_at (front ++ (path, es) ∷ []) (path ++ n ∷ r)) refl
    where
      nothing : (o : Option Entries) → opened_at (front ++ (path, es) ∷ []) (path ++ n ∷ r) ≡ o → o ≡ None
      nothing None e = refl
      nothing (Some fs) e =
          let there : IsSome (opened_at front (path ++ n ∷ r)) = is_some (opened_at front (path ++ n ∷ r)) fs (sym (at_others (path ++ n ∷ r) (λ same. longer path r n same)) ∙ e) in
          absurd (less_not_greater (path_cmp (path ++ n ∷ r) path) (earlier (path ++ n ∷ r) there) (later path n r))

  rest_none : (q : Path) (r : Path) → q ≡ path ++ r → q ≢ path → opened_at front q ≡ None
  rest_none q [] is ne = absurd (ne (is ∙ append-nil path))
  rest_none q (n ∷ r) is ne = sym (at_others q ne) ∙ ap (opened_at (front ++ (path, es) ∷ [])) is ∙ none_below n r

  below_none : (q : Path) → is_within path q ≡ true → q ≢ path → opened_at front q ≡ None
  below_none q w ne = let rest = within_rest path q w in rest_none q rest.0 rest.1 ne

  -- the text of its entries is that of the directory
  pub last_text : entries_text h es ≡ directory_text h st path
  unfolding entries_text
  last_text =
      closed_text h st path (all_shortened h es) (closed_entries h table (front ++ (path, es) ∷ []) st path es shows at_last sorted (λ n. none_below n []))

  -- which tells its entries
  pub last_decoded : Gives (entries_text h es) (Ok (Dir (all_shortened h es)))
  last_decoded =
      stored_gives h st path (all_shortened h es) (entries_text h es) shows.store shows.storable last_text
      (closed_entries h table (front ++ (path, es) ∷ []) st path es shows at_last sorted (λ n. none_below n []))

  directory_there : node_at st path ≡ Some Directory
  directory_there = shows.places path (is_some (opened_at (front ++ (path, es) ∷ []) path) es at_last)

  -- its blobs are there besides what the table had
  module _ (more : Table) (keeps : Keeps table more) (text : HasBlob h more (entries_text h es)) (values : (bytes : List ℕ) → Contains (long_values es) bytes → HasBlob h more bytes) where
    child_texts : (n : Name) (place : Path) (o : Option Tree) → Stands h table (front ++ (path, es) ∷ []) st (path ++ n ∷ []) o → node_at st (path ++ n ∷ []) ≡ Some Directory
        → is_within (path ++ n ∷ []) place ≡ true → node_at st place ≡ Some Directory → HasBlob h more (directory_text h st place)
    child_texts n place None is d w there = no_node (node_at st (path ++ n ∷ [])) Directory is d
    child_texts n place (Some (val bytes)) is d w there = let e : Some (Value bytes) ≡ Some Directory = sym is ∙ d in absurd (cc)
    child_texts n place (Some (valref references)) is d w there = let e : Some (Value is.bytes) ≡ Some Directory = sym is.value ∙ d in absurd (cc)
    child_texts n place (Some (dir fs)) is d w there = absurd (not_both (opened_at (front ++ (path, es) ∷ []) (path ++ n ∷ [])) is.1 (none_below n []))
    child_texts n place (Some (dirref reference)) is d w there = keeps (reference_of h (directory_text h st place)) (directory_text h st place) (is.held.texts place w there)
    child_texts n place (Some (symlink target)) is d w there = let e : Some (Link target) ≡ Some Directory = sym is ∙ d in absurd (cc)

    -- a long value in a directory below
    deeper_values : (n : Name) (place : Path) (bytes : List ℕ) (o : Option Tree) → Stands h table (front ++ (path, es) ∷ []) st (path ++ n ∷ []) o → node_at st (path ++ n ∷ []) ≡ Some Directory
        → is_within (path ++ n ∷ []) place ≡ true → node_at st place ≡ Some (Value bytes) → is_long bytes ≡ true → HasBlob h more bytes
    deeper_values n place bytes None is d w there long = no_node (node_at st (path ++ n ∷ [])) Directory is d
    deeper_values n place bytes (Some (val other)) is d w there long = let e : Some (Value other) ≡ Some Directory = sym is ∙ d in absurd (cc)
    deeper_values n place bytes (Some (valref references)) is d w there long = let e : Some (Value is.bytes) ≡ Some Directory = sym is.value ∙ d in absurd (cc)
    deeper_values n place bytes (Some (dir fs)) is d w there long = absurd (not_both (opened_at (front ++ (path, es) ∷ []) (path ++ n ∷ [])) is.1 (none_below n []))
    deeper_values n place bytes (Some (dirref reference)) is d w there long = keeps (reference_of h bytes) bytes (is.held.values place bytes w there long)
    deeper_values n place bytes (Some (symlink target)) is d w there long = let e : Some (Link target) ≡ Some Directory = sym is ∙ d in absurd (cc)

    same_value : (a b : List ℕ) → Some (Value a) ≡ Some (Value b) → a ≡ b
    same_value a b e = cc

    -- a long value in the directory itself
    own_value : (n : Name) (bytes : List ℕ) (o : Option Tree) → finite.find name_cmp n (listed es) ≡ o → Stands h table (front ++ (path, es) ∷ []) st (path ++ n ∷ []) o
        → node_at st (path ++ n ∷ []) ≡ Some (Value bytes) → is_long bytes ≡ true → HasBlob h more bytes
    own_value n bytes None found is v long = no_node (node_at st (path ++ n ∷ [])) (Value bytes) is v
    own_value n bytes (Some (val other)) found is v long =
        let same : other ≡ bytes = same_value other bytes (sym is ∙ v) in
        values bytes (find_long n bytes es (found ∙ ap (λ (b : List ℕ). Some (val b)) same) long)
    own_value n bytes (Some (valref references)) found is v long =
        let same : is.bytes ≡ bytes = same_value is.bytes bytes (sym is.value ∙ v) in
        subst (HasBlob h more) same (keeps (reference_of h is.bytes) is.bytes is.held)
    own_value n bytes (Some (dir fs)) found is v long = let e : Some Directory ≡ Some (Value bytes) = sym is.0 ∙ v in absurd (cc)
    own_value n bytes (Some (dirref reference)) found is v long = let e : Some Directory ≡ Some (Value bytes) = sym is.directory ∙ v in absurd (cc)
    own_value n bytes (Some (symlink target)) found is v long = let e : Some (Link target) ≡ Some (Value bytes) = sym is ∙ v in absurd (cc)

    stands_under : (n : Name) → Stands h table (front ++ (path, es) ∷ []) st (path ++ n ∷ []) (finite.find name_cmp n (listed es))
    stands_under n = shows.told path es n at_last

    texts_below : (place : Path) (r : Path) → place ≡ path ++ r → node_at st place ≡ Some Directory → HasBlob h more (directory_text h st place)
    texts_below place [] is there = subst (λ (q : Path). HasBlob h more (directory_text h st q)) (sym (is ∙ append-nil path)) (subst (HasBlob h more) last_text text)
    texts_below place (n ∷ []) is there =
        child_texts n place (finite.find name_cmp n (listed es)) (stands_under n) (ap (node_at st) (sym is) ∙ there) (subst (λ (q : Path). is_within (path ++ n ∷ []) q ≡ true) (sym is) (within_self (path ++ n ∷ []))) there
    texts_below place (n ∷ m ∷ r) is there =
        let whole : place ≡ (path ++ n ∷ []) ++ m ∷ r = is ∙ sym (append_assoc path (n ∷ []) (m ∷ r)) in
        child_texts n place (finite.find name_cmp n (listed es)) (stands_under n)
        (directory_above st shows.store (path ++ n ∷ []) m r (is_some (node_at st ((path ++ n ∷ []) ++ m ∷ r)) Directory (ap (node_at st) (sym whole) ∙ there)))
        (subst (λ (q : Path). is_within (path ++ n ∷ []) q ≡ true) (sym whole) (within_longer (path ++ n ∷ []) (path ++ n ∷ []) (m ∷ r) (within_self (path ++ n ∷ [])))) there

    values_below : (place : Path) (bytes : List ℕ) (r : Path) → place ≡ path ++ r → node_at st place ≡ Some (Value bytes) → is_long bytes ≡ true → HasBlob h more bytes
    values_below place bytes [] is there long = let e : Some Directory ≡ Some (Value bytes) = sym directory_there ∙ ap (node_at st) (sym (is ∙ append-nil path)) ∙ there in absurd (cc)
    values_below place bytes (n ∷ []) is there long = own_value n bytes (finite.find name_cmp n (listed es)) refl (stands_under n) (ap (node_at st) (sym is) ∙ there) long
    values_below place bytes (n ∷ m ∷ r) is there long =
        let whole : place ≡ (path ++ n ∷ []) ++ m ∷ r = is ∙ sym (append_assoc path (n ∷ []) (m ∷ r)) in
        deeper_values n place bytes (finite.find name_cmp n (listed es)) (stands_under n)
        (directory_above st shows.store (path ++ n ∷ []) m r (is_some (node_at st ((path ++ n ∷ []) ++ m ∷ r)) (Value bytes) (ap (node_at st) (sym whole) ∙ there)))
        (subst (λ (q : Path). is_within (path ++ n ∷ []) q ≡ true) (sym whole) (within_longer (path ++ n ∷ []) (path ++ n ∷ []) (m ∷ r) (within_self (path ++ n ∷ [])))) there long

    -- the table has all that stands at the path and below
    pub last_below : HasBelow h more st path
    last_below = record {
      texts = λ place w there. let rest = within_rest path place w in texts_below place rest.0 rest.1 there;
      values = λ place bytes w there long. let rest = within_rest path place w in values_below place bytes rest.0 rest.1 there long;
    }

-- below the root, the others show the store when it stands by its reference
pub shows_closed : (h : Hash) (table more : Table) (front : Directories) (p : Path) (n : Name) (es : Entries) (st : Store) → Keeps table more → Shows h table (front ++ (p ++ n ∷ [], es) ∷ []) st
    → ((q : Path) → IsSome (opened_at front q) → path_cmp q (p ++ n ∷ []) ≡ Less) → IsTrue (finite.is_sorted name_cmp (listed es)) → HasBlob h more (entries_text h es)
    → ((bytes : List ℕ) → Contains (long_values es) bytes → HasBlob h more bytes) → (up : Entries) → opened_at front p ≡ Some up
    → Shows h more (with_object front (p ++ n ∷ []) (dirref (reference_of h (entries_text h es)))) st
shows_closed h table more front p n es st keeps shows earlier sorted text values up parent =
    let ds : Directories = front ++ (p ++ n ∷ [], es) ∷ [] in
    let tree : Tree = dirref (reference_of h (entries_text h es)) in
    let new : Directories = with_object front (p ++ n ∷ []) tree in
    let put : (q : Path) → opened_at new q ≡ cond (eq_by_cmp path_cmp q p) (Some (up_with up n tree)) (opened_at front q) = λ q. ap (λ (d : Directories). opened_at d q) (object_with front p n tree up parent) ∙ opened-put front p (up_with up n tree) q in
    let other : (q : Path) → q ≢ p → opened_at new q ≡ opened_at front q = λ q nf. put q ∙ ap (λ b. cond b (Some (up_with up n tree)) (opened_at front q)) (path_apart q p nf) in
    let was : (q : Path) → q ≢ p ++ n ∷ [] → opened_at ds q ≡ opened_at front q = at_others h table front (p ++ n ∷ []) es st shows earlier sorted in
    let gone : opened_at new (p ++ n ∷ []) ≡ None = other (p ++ n ∷ []) (λ e. longer p [] n e) ∙ front_none h table front (p ++ n ∷ []) es st shows earlier sorted in
    let there : opened_at ds (p ++ n ∷ []) ≡ Some es = at_last h table front (p ++ n ∷ []) es st shows earlier sorted in
    let here : finite.find name_cmp n (listed (up_with up n tree)) ≡ Some tree = find_with up n tree n ∙ ap (λ b. cond b (Some tree) (finite.find name_cmp n (listed up))) (name_self n) in
    let none : (q : Path) → is_within (p ++ n ∷ []) q ≡ true → q ≢ p ++ n ∷ [] → opened_at front q ≡ None = λ q w ne. below_none h table front (p ++ n ∷ []) es st shows earlier sorted q w ne in
    shows_replaced h more ds new st st p n up (up_with up n tree) (shows_kept h table more ds st keeps shows)
    (was p (λ e. longer p [] n (sym e)) ∙ parent)
    (record {
      parent = put p ∙ ap (λ b. cond b (Some (up_with up n tree)) (opened_at front p)) (path_self p);
      below = λ q w ne. other q (not_parent p n q w) ∙ none q w ne;
      others = λ q w nf. other q nf ∙ sym (was q (not_whole p n q w));
    })
    (record { store = shows.store; storable = shows.storable; others = λ q w. refl })
    (subst (Stands h more new st (p ++ n ∷ [])) (sym here) (record {
      directory = shows.places (p ++ n ∷ []) (is_some (opened_at ds (p ++ n ∷ [])) es there);
      named = ap (reference_of h) (last_text h table front (p ++ n ∷ []) es st shows earlier sorted);
      closed = gone;
      held = last_below h table front (p ++ n ∷ []) es st shows earlier sorted more keeps text values;
    }))
    (λ m e. find_with up n tree m ∙ ap (λ b. cond b (Some tree) (finite.find name_cmp m (listed up))) e)
    (λ fs e. absurd (not_both (opened_at new (p ++ n ∷ [])) (is_some (opened_at new (p ++ n ∷ [])) fs e) gone))
