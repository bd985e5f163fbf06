-- One directory more is opened.
use Rattle.std.proofs.Common.{◌≡◌, ◌≢◌, true, false, cond, List, [], ◌∷◌, ◌++◌, length, Option, Some, None, option_map, refl, sym, ap, ◌∙◌, subst, arith, length-append, inl, inr, true≢false, Ordering, Less, Equal, Greater}
use Rattle.std.specs.Prelude.{IsSome, ◌&&◌, ◌⊎◌}
use Rattle.std.specs.FinMap.Entries as finite
use Rattle.std.specs.Ordering.{is_eq, eq_by_cmp}
use Rattle.std.specs.Str.{bytes_eq}
use Rattle.std.proofs.lemmas.Cmp.{nat_list_cmp_total}
use Rattle.fl_digest.specs.declared.Hash.{Hash}
use Rattle.fl_digest.specs.declared.BlobRef.{BlobRef}
use Rattle.fl_digest.specs.Reference.{reference_of}
use Rattle.kvs_model.specs.Store.{Name, Path, Node, Value, Directory, Link, Store, root, node_at, path_cmp, is_within}
use Rattle.kvs_model.proofs.Paths.{path_from_test, path_self, within_self}
use Rattle.tree_rules.specs.Held.{Table}
use Rattle.tree_rules.specs.Names.{name_cmp}
use Rattle.tree_rules.specs.Objects.{Tree, val, valref, dir, dirref, symlink, Entries, no_entries, entries_of, listed}
use Rattle.tree_rules.specs.Texts.{is_long, object_of, objects, objects_in, stored_at, directory_text}
use Rattle.tree_rules.proofs.Objects.{stored_under}
use Rattle.tree_objects.proofs.Search.{same_name, self_name}
use Rattle.tree_store.specs.Shown.{Directories, opened_at, split_last, above, entries_at, Stands, Shows, IsClosed, HasBelow}

-- a place is open in both or in neither
pub record IsAlike (ds new : Directories) (q : Path) : Type 0 where
  pub stays : IsSome (opened_at ds q) → IsSome (opened_at new q)
  pub closed : opened_at ds q ≡ None → opened_at new q ≡ None

-- what stands there stands there still
pub stands_alike : (h : Hash) (table : Table) (ds new : Directories) (st : Store) (q : Path) (o : Option Tree) → IsAlike ds new q → Stands h table ds st q o → Stands h table new st q o
stands_alike h table ds new st q None alike is = is
stands_alike h table ds new st q (Some (val bytes)) alike is = is
stands_alike h table ds new st q (Some (valref references)) alike is = is
stands_alike h table ds new st q (Some (dir es)) alike is = (is.0, alike.stays is.1)
stands_alike h table ds new st q (Some (dirref reference)) alike is = record { directory = is.directory; named = is.named; closed = alike.closed is.closed; held = is.held }
stands_alike h table ds new st q (Some (symlink target)) alike is = is

pub within_further : (p r q : Path) → is_within (p ++ r) q ≡ true → is_within p q ≡ true
within_further [] r q h = refl
within_further (x ∷ p) r [] h = absurd (cc)
within_further (x ∷ p) r (y ∷ q) h =
    elim (bytes_eq x y) as (λ b. (b && is_within (p ++ r) q) ≡ true → (b && is_within p q) ≡ true) [
      | true ↦ λ g. within_further p r q g
      | false ↦ λ g. g
    ] h

-- what a table has below a directory it has below each place there
pub has_further : (h : Hash) (table : Table) (st : Store) (p r : Path) → HasBelow h table st p → HasBelow h table st (p ++ r)
has_further h table st p r has = record {
  texts = λ place w is. has.texts place (within_further p r place w) is;
  values = λ place bytes w is long. has.values place bytes (within_further p r place w) is long;
}

-- the object of a store stands for what the store has there
pub stored_stands : (h : Hash) (table : Table) (ds : Directories) (st : Store) (q : Path) (node : Option Node) → node_at st q ≡ node → opened_at ds q ≡ None → HasBelow h table st q
    → Stands h table ds st q (option_map (λ n. object_of h n (objects_in q (objects h st))) node)
unfolding directory_text
stored_stands h table ds st q None is closed has = is
stored_stands h table ds st q (Some (Value bytes)) is closed has =
    elim (is_long bytes) as (λ b. is_long bytes ≡ b → Stands h table ds st q (Some (cond b (valref (reference_of h bytes ∷ [])) (val bytes)))) [
      | true ↦ λ long. record { bytes = bytes; value = is; long = long; named = refl; held = has.values q bytes (within_self q) is long }
      | false ↦ λ long. is
    ] refl
stored_stands h table ds st q (Some Directory) is closed has = record { directory = is; named = refl; closed = closed; held = has }
stored_stands h table ds st q (Some (Link target)) is closed has = is

-- ---- paths

split_child : (x : Name) (p : Path) (n : Name) → split_last x (p ++ n ∷ []) ≡ (x ∷ p, n)
split_child x [] n = refl
split_child x (y ∷ p) n = ap (λ (s : Path × Name). (x ∷ s.0, s.1)) (split_child y p n)

pub above_child : (p : Path) (n : Name) → above (p ++ n ∷ []) ≡ Some (p, n)
above_child [] n = refl
above_child (x ∷ p) n = ap Some (split_child x p n)

some_pair : (a b : Path × Name) → Some a ≡ Some b → a ≡ b
some_pair a b e = cc

pub same_parent : (p q : Path) (m n : Name) → p ++ m ∷ [] ≡ q ++ n ∷ [] → (p ≡ q) × (m ≡ n)
same_parent p q m n e =
    let both : ◌≡◌ {A = Option (Path × Name)} (Some (p, m)) (Some (q, n)) = sym (above_child p m) ∙ ap above e ∙ above_child q n in
    let pair : ◌≡◌ {A = Path × Name} (p, m) (q, n) = some_pair (p, m) (q, n) both in
    (ap (λ (s : Path × Name). s.0) pair, ap (λ (s : Path × Name). s.1) pair)

is_equal : (o : Ordering) → is_eq o ≡ true → o ≡ Equal
is_equal Less e = absurd (cc)
is_equal Equal e = refl
is_equal Greater e = absurd (cc)

pub name_from_test : (m n : Name) → eq_by_cmp name_cmp m n ≡ true → m ≡ n
name_from_test m n e = same_name m n (is_equal (name_cmp m n) e)

pub name_self : (n : Name) → eq_by_cmp name_cmp n n ≡ true
name_self n = ap is_eq (self_name n)

pub longer : (p r : Path) (n : Name) → p ++ n ∷ r ≡ p → ⊥
longer p r n e = absurd (omega (arith, ap length e, length-append p (n ∷ r)))

pub path_dec : (p q : Path) → (p ≡ q) ⊎ (p ≢ q)
path_dec p q =
    elim (eq_by_cmp path_cmp p q) as (λ b. eq_by_cmp path_cmp p q ≡ b → (p ≡ q) ⊎ (p ≢ q)) [
      | true ↦ λ e. inl (path_from_test p q e)
      | false ↦ λ e. inr (λ same. let wrong : true ≡ false = sym (path_self p) ∙ ap (eq_by_cmp path_cmp p) same ∙ e in cc)
    ] refl

some_or_none : {A : Type 0} (o : Option A) → IsSome o ⊎ (o ≡ None)
some_or_none (Some x) = inl refl
some_or_none None = inr refl

pub is_some : {A : Type 0} (o : Option A) (x : A) → o ≡ Some x → IsSome o
is_some o x e = subst IsSome (sym e) refl

pub not_both : {A : Type 0} (o : Option A) → IsSome o → o ≡ None → ⊥
not_both o some none = true≢false (sym (subst IsSome none some))

pub some_same : {A : Type 0} (x y : A) → Some x ≡ Some y → x ≡ y
some_same x y e = cc

pub listed_again : (rows : List (Name × Tree)) → listed (entries_of rows) ≡ rows
listed_again [] = refl
listed_again (row ∷ rows) = ap (λ (more : List (Name × Tree)). row ∷ more) (listed_again rows)

-- ---- the directory under a name is opened

pub record IsOpened (ds new : Directories) (a : Path) (n : Name) (up here : Entries) : Type 0 where
  pub there : opened_at new (a ++ n ∷ []) ≡ Some here
  pub parent : opened_at new a ≡ Some up
  pub others : (q : Path) → q ≢ a ++ n ∷ [] → q ≢ a → opened_at new q ≡ opened_at ds q

module _ (h : Hash) (table : Table) (ds new : Directories) (st : Store) (a : Path) (n : Name) (es up : Entries) (r : BlobRef) (shows : Shows h table ds st)
    (parent : opened_at ds a ≡ Some es) (found : finite.find name_cmp n (listed es) ≡ Some (dirref r)) (marked : listed up ≡ finite.put name_cmp n (dir no_entries) (listed es))
    (opened : IsOpened ds new a n up (entries_at h st (a ++ n ∷ []))) where
  was : IsClosed h table ds st (a ++ n ∷ []) r
  was = subst (Stands h table ds st (a ++ n ∷ [])) found (shows.told a es n parent)

  some_stays : (q : Path) → IsSome (opened_at ds q) → IsSome (opened_at new q)
  some_stays q some =
      elim (path_dec q (a ++ n ∷ [])) [
        | inl e ↦ is_some (opened_at new q) (entries_at h st (a ++ n ∷ [])) (ap (opened_at new) e ∙ opened.there)
        | inr ne ↦ elim (path_dec q a) [
          | inl e ↦ is_some (opened_at new q) up (ap (opened_at new) e ∙ opened.parent)
          | inr nf ↦ subst IsSome (sym (opened.others q ne nf)) some
        ]
      ]

  some_was : (q : Path) → q ≢ a ++ n ∷ [] → IsSome (opened_at new q) → IsSome (opened_at ds q)
  some_was q ne some =
      elim (path_dec q a) [
        | inl e ↦ is_some (opened_at ds q) es (ap (opened_at ds) e ∙ parent)
        | inr nf ↦ subst IsSome (opened.others q ne nf) some
      ]

  none_stays : (q : Path) → q ≢ a ++ n ∷ [] → opened_at ds q ≡ None → opened_at new q ≡ None
  none_stays q ne none =
      elim (path_dec q a) [
        | inl e ↦ absurd (not_both (opened_at ds q) (is_some (opened_at ds q) es (ap (opened_at ds) e ∙ parent)) none)
        | inr nf ↦ opened.others q ne nf ∙ none
      ]

  alike : (q : Path) → q ≢ a ++ n ∷ [] → IsAlike ds new q
  alike q ne = record { stays = some_stays q; closed = none_stays q ne }

  below_closed : (m : Name) → opened_at new ((a ++ n ∷ []) ++ m ∷ []) ≡ None
  below_closed m =
      none_stays ((a ++ n ∷ []) ++ m ∷ []) (λ e. longer (a ++ n ∷ []) [] m e) (
      elim (some_or_none (opened_at ds ((a ++ n ∷ []) ++ m ∷ []))) [
        | inl some ↦ absurd (not_both (opened_at ds (a ++ n ∷ [])) (shows.above (a ++ n ∷ []) m some) was.closed)
        | inr none ↦ none
      ])

  told_there : (m : Name) → Stands h table new st ((a ++ n ∷ []) ++ m ∷ []) (finite.find name_cmp m (listed (entries_at h st (a ++ n ∷ []))))
  told_there m =
      let p : Path = a ++ n ∷ [] in
      let q : Path = p ++ m ∷ [] in
      let is : finite.find name_cmp m (listed (entries_at h st p)) ≡ stored_at h st q = ap (finite.find name_cmp m) (listed_again (objects_in p (objects h st))) ∙ stored_under h st p m shows.store.sorted in
      subst (Stands h table new st q) (sym is) (stored_stands h table new st q (node_at st q) refl (below_closed m) (has_further h table st p (m ∷ []) was.held))

  told_parent : (m : Name) → Stands h table new st (a ++ m ∷ []) (finite.find name_cmp m (listed up))
  told_parent m =
      let is : finite.find name_cmp m (listed up) ≡ cond (eq_by_cmp name_cmp m n) (Some (dir no_entries)) (finite.find name_cmp m (listed es)) = ap (finite.find name_cmp m) marked ∙ finite.find-put name_cmp nat_list_cmp_total m n (dir no_entries) (listed es) in
      subst (Stands h table new st (a ++ m ∷ [])) (sym is) (
      elim (eq_by_cmp name_cmp m n) as (λ b. eq_by_cmp name_cmp m n ≡ b → Stands h table new st (a ++ m ∷ []) (cond b (Some (dir no_entries)) (finite.find name_cmp m (listed es)))) [
        | true ↦ λ e. let same : m ≡ n = name_from_test m n e in
            subst (λ (k : Name). Stands h table new st (a ++ k ∷ []) (Some (dir no_entries))) (sym same) (was.directory, is_some (opened_at new (a ++ n ∷ [])) (entries_at h st (a ++ n ∷ [])) opened.there)
        | false ↦ λ e. stands_alike h table ds new st (a ++ m ∷ []) (finite.find name_cmp m (listed es))
            (alike (a ++ m ∷ []) (λ same. let wrong : true ≡ false = sym (name_self m) ∙ ap (eq_by_cmp name_cmp m) (same_parent a a m n same).1 ∙ e in cc)) (shows.told a es m parent)
      ] refl)

  told_all : (q : Path) (fs : Entries) (m : Name) → opened_at new q ≡ Some fs → Stands h table new st (q ++ m ∷ []) (finite.find name_cmp m (listed fs))
  told_all q fs m is =
      elim (path_dec q (a ++ n ∷ [])) [
        | inl e ↦ (
            let same : entries_at h st (a ++ n ∷ []) ≡ fs = some_same (entries_at h st (a ++ n ∷ [])) fs (sym opened.there ∙ ap (opened_at new) (sym e) ∙ is) in
            subst (λ (x : Path). Stands h table new st (x ++ m ∷ []) (finite.find name_cmp m (listed fs))) (sym e)
            (subst (λ (xs : Entries). Stands h table new st ((a ++ n ∷ []) ++ m ∷ []) (finite.find name_cmp m (listed xs))) same (told_there m)))
        | inr ne ↦ elim (path_dec q a) [
          | inl e ↦ (
              let same : up ≡ fs = some_same up fs (sym opened.parent ∙ ap (opened_at new) (sym e) ∙ is) in
              subst (λ (x : Path). Stands h table new st (x ++ m ∷ []) (finite.find name_cmp m (listed fs))) (sym e)
              (subst (λ (xs : Entries). Stands h table new st (a ++ m ∷ []) (finite.find name_cmp m (listed xs))) same (told_parent m)))
          | inr nf ↦ stands_alike h table ds new st (q ++ m ∷ []) (finite.find name_cmp m (listed fs))
              (alike (q ++ m ∷ []) (λ same. nf (same_parent q a m n same).0)) (shows.told q fs m (sym (opened.others q ne nf) ∙ is))
        ]
      ]

  pub shows_more : Shows h table new st
  shows_more = record {
    store = shows.store;
    storable = shows.storable;
    rooted = some_stays root shows.rooted;
    places = λ q some. elim (path_dec q (a ++ n ∷ [])) [ inl e ↦ ap (node_at st) e ∙ was.directory | inr ne ↦ shows.places q (some_was q ne some) ];
    told = told_all;
    above = λ q m some. elim (path_dec (q ++ m ∷ []) (a ++ n ∷ [])) [
      | inl e ↦ is_some (opened_at new q) up (ap (opened_at new) (same_parent q a m n e).0 ∙ opened.parent)
      | inr ne ↦ some_stays q (shows.above q m (some_was (q ++ m ∷ []) ne some))
    ];
  }
