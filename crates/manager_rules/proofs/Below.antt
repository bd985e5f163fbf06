-- Below `job` stands nothing but jobs, so a directory there has about as many names as there are jobs, and the manager finds room.
use Rattle.std.proofs.Common.{◌≡◌, ◌≢◌, ℕ, zero, suc, ◌+◌, ◌<◌, ◌≤◌, ◌⊎◌, inl, inr, List, [], ◌∷◌, ◌++◌, Bool, true, false, cond, drop, not, ◌&&◌, ◌||◌, length, map, get_or, Option, Some, None, Ok, codes, refl, sym, ap, ap₂, ◌∙◌, subst, true≢false, arith, bytes_eq, Ordering, Less, Equal, Greater, is_eq, is_lt}
use Rattle.std.specs.Prelude.{IsSome, IsTrue, filter_map, is_none, nat_le}
use Rattle.std.specs.List.{cons_option, AllByRecursion as Each, IsDistinct}
use Rattle.std.specs.Ordering.{eq_by_cmp}
use Rattle.std.specs.Cmp.Lexicographic.{bytes_decides, nat_list_eq_equiv}
use Rattle.std.specs.FinMap.Entries as entries
use Rattle.std.proofs.lemmas.Bool.{and_parts}
use Rattle.std.proofs.lemmas.Bool.Decides.{nat_tests}
use Rattle.std.proofs.lemmas.List.{length-append, length-map}
use Rattle.std.proofs.lemmas.Map.Made.{length-le_from_is_member}
use Rattle.job_rules.proofs.Among.{Among, Distinct, among_from, among_left, among_mapped, among_right, any_at, any_from, contains_from, each_from}
use Rattle.job_rules.proofs.Few.{other_bytes}
use Rattle.kvs_txn.specs.declared.answers.Cause.TheVariants as cause
use Rattle.kvs_txn.specs.declared.txn.Author.TheVariants as author
use Rattle.kvs_txn.specs.declared.txn.Op.{Op}
use Rattle.kvs_txn.specs.declared.txn.Op.TheVariants as op
use Rattle.kvs_txn.specs.declared.txn.Scope.TheVariants as scope
use Rattle.kvs_model.specs.Operation.{changed, effect_at, effect_from_key, enters_full_from, first_cause, is_directory, is_link, key_of, most_names, op_effect, placed, refusals, unless_refused}
use Rattle.kvs_model.specs.Store.{Directory, IsStore, Name, Node, Path, Store, Value, child_name, is_within, listed, names_in, node_at, path_cmp}
use Rattle.kvs_model.proofs.Paths as paths
use Rattle.kvs_model.proofs.Paths.{path_from_test, path_self, within_longer, within_self}
use Rattle.kvs_model.proofs.Sound.{node_at-placed}
use Rattle.store_laws.specs.Reserved.{HasNoLink}
use Rattle.store_laws.proofs.Users.{unlinked_resolved}
use Rattle.manager_rules.specs.Jobs.{HasOnlyJobs, IsJobKey, LeadsToJob}
use Rattle.manager_rules.specs.Keys.{job_path}
use Rattle.manager_rules.proofs.Stores.{unlinked}

-- ---- names of a directory

-- as many names that differ stand in a list as it is long
no_more : (xs ys : List Name) → Distinct xs → ((n : Name) → Among n xs → Among n ys) → length xs ≤ length ys
unfolding IsDistinct
no_more xs ys d h = length-le_from_is_member nat_list_eq_equiv xs ys (apart xs d) (λ q e. let found = any_from (bytes_eq q) xs e in any_at (bytes_eq q) ys found.0 (h found.0 found.1) found.2)
  where
    differ : (x : Name) (xs : List Name) → ((y : Name) → Among y xs → x ≢ y) → Each (λ y. bytes_eq x y ≡ false) xs
    differ x xs h = each_from (λ y. bytes_eq x y ≡ false) xs (λ y i. other_bytes x y (h y i))

    apart : (xs : List Name) → Distinct xs → IsDistinct bytes_eq xs
    apart [] d = tt
    apart (x ∷ xs) d = (differ x xs d.0, apart xs d.1)

abbrev names_below : Store → Path → List Name
names_below st place = filter_map (λ e. child_name place e.0) st

as_many : (st : Store) (place : Path) → length (names_in st place) ≡ length (names_below st place)
as_many [] place = refl
as_many (e ∷ es) place = elim (child_name place e.0) as (λ c. length (cons_option (listed c e.1) (names_in es place)) ≡ length (cons_option c (names_below es place))) [ None ↦ as_many es place | Some n ↦ ap suc (as_many es place) ]

child_is : (place path : Path) (n : Name) → child_name place path ≡ Some n → path ≡ place ++ n ∷ []
child_is [] [] n e = cc
child_is [] (name ∷ []) n e = let same : name ≡ n = cc in ap (λ m. m ∷ []) same
child_is [] (name ∷ more ∷ rest) n e = cc
child_is (x ∷ place) [] n e = cc
child_is (x ∷ place) (y ∷ path) n e = by (child_is place path n) (bytes_eq x y) refl e
  where
    by : (child_name place path ≡ Some n → path ≡ place ++ n ∷ []) → (b : Bool) → bytes_eq x y ≡ b → cond b (child_name place path) None ≡ Some n → y ∷ path ≡ x ∷ (place ++ n ∷ [])
    by more true t e = ap₂ (λ a b. a ∷ b) (sym ((bytes_decides x y).0 t)) (more e)
    by more false t e = cc

among_below : (es : Store) (place : Path) (n : Name) → Among n (names_below es place) → (e : Path × Node) × Among e es × (child_name place e.0 ≡ Some n)
among_below [] place n i = absurd i
among_below (e ∷ es) place n i = at (among_below es place n) (child_name place e.0) refl i
  where
    at : (Among n (names_below es place) → (f : Path × Node) × Among f es × (child_name place f.0 ≡ Some n)) → (c : Option Name) → child_name place e.0 ≡ c
        → Among n (cons_option c (names_below es place)) → (f : Path × Node) × Among f (e ∷ es) × (child_name place f.0 ≡ Some n)
    at later None t i = let found = later i in (found.0, inr found.1, found.2)
    at later (Some m) t i = elim i [
      | inl same ↦ (e, inl refl, t ∙ ap Some same)
      | inr more ↦ let found = later more in (found.0, inr found.1, found.2)
    ]

stands : (st : Store) (e : Path × Node) → Among e st → IsSome (node_at st e.0)
stands st e i = entries.is_some-find path_cmp e.0 st ∙ any_at (eq_by_cmp path_cmp e.0) (map (λ x. x.0) st) e.0 (among_mapped (λ (x : Path × Node). x.0) st e i) (path_self e.0)

not_both : (r : Ordering) → is_lt r ≡ true → is_eq r ≡ true → ⊥
not_both Less lower same = true≢false (sym same)
not_both Equal lower same = true≢false (sym lower)
not_both Greater lower same = true≢false (sym lower)

below_at : (x : Path) (es : Store) (e : Path × Node) → entries.below_all path_cmp x es ≡ true → Among e es → is_lt (path_cmp x e.0) ≡ true
below_at x [] e h i = absurd i
below_at x (f ∷ es) e h i =
    let two = and_parts (is_lt (path_cmp x f.0)) (entries.below_all path_cmp x es) h in
    elim i [
      | inl same ↦ subst (λ g. is_lt (path_cmp x g.0) ≡ true) same two.0
      | inr more ↦ below_at x es e two.1 more
    ]

differ : (es : Store) (place : Path) → IsTrue (entries.is_sorted path_cmp es) → Distinct (names_below es place)
differ [] place h = tt
differ (e ∷ es) place h =
    let two = and_parts (entries.below_all path_cmp e.0 es) (entries.is_sorted path_cmp es) h in
    at (child_name place e.0) refl two.0 (differ es place two.1)
  where
    at : (c : Option Name) → child_name place e.0 ≡ c → entries.below_all path_cmp e.0 es ≡ true → Distinct (names_below es place) → Distinct (cons_option c (names_below es place))
    at None t low d = d
    at (Some n) t low d = (
      λ m i same.
          let found = among_below es place m i in
          let one : e.0 ≡ found.0.0 = child_is place e.0 n t ∙ ap (λ k. place ++ k ∷ []) same ∙ sym (child_is place found.0.0 m found.2) in
          not_both (path_cmp e.0 e.0) (subst (λ p. is_lt (path_cmp e.0 p) ≡ true) (sym one) (below_at e.0 es found.0 low found.1)) (path_self e.0),
      d,
    )

-- ---- names below `job`

-- the name behind a place on a path
next_name : (p q : Path) (n : Name) → is_within (p ++ n ∷ []) q ≡ true → get_or q (length p) [] ≡ n
next_name [] [] n h = absurd (true≢false (sym h))
next_name [] (y ∷ q) n h = sym ((bytes_decides n y).0 (and_parts (bytes_eq n y) true h).0)
next_name (x ∷ p) [] n h = absurd (true≢false (sym h))
next_name (x ∷ p) (y ∷ q) n h = next_name p q n (and_parts (bytes_eq x y) (is_within (p ++ n ∷ []) q) h).1

last_or_before : (xs : Path) (y : Name) (k : ℕ) → (get_or (xs ++ y ∷ []) k [] ≡ get_or xs k []) ⊎ (get_or (xs ++ y ∷ []) k [] ≡ y)
last_or_before [] y zero = inr refl
last_or_before [] y (suc k) = inl refl
last_or_before (x ∷ xs) y zero = inl refl
last_or_before (x ∷ xs) y (suc k) = last_or_before xs y k

key_names : List Name
key_names = codes "jobspec" ∷ codes "R" ∷ codes "eventlog" ∷ []

among_keys : (key : Name) → IsJobKey key → Among key key_names
unfolding key_names
among_keys key named = elim named [ inl e ↦ inl (sym e) | inr more ↦ elim more [ inl e ↦ inr (inl (sym e)) | inr e ↦ inr (inr (inl (sym e))) ] ]

-- the names that a directory of jobs may have
names_at : List ℕ → ℕ → List Name
names_at ids k = map (λ id. get_or (job_path id) k []) ids ++ key_names

module _ (st : Store) (is : IsStore st) (ids : List ℕ) (only : HasOnlyJobs st ids) where
  longer : (place : Path) (n : Name) → is_within (codes "job" ∷ []) place ≡ true → place ++ n ∷ [] ≢ codes "job" ∷ []
  longer [] n inside e = true≢false (sym inside)
  longer (x ∷ place) n inside e = let long = ap length e in let all = length-append place (n ∷ []) in let no : ⊥ = omega (arith, long, all) in no

  named : (place : Path) → is_within (codes "job" ∷ []) place ≡ true → (n : Name) → Among n (names_below st place) → Among n (names_at ids (length place))
  unfolding names_at
  named place inside n i =
      let found = among_below st place n i in
      let there : IsSome (node_at st (place ++ n ∷ [])) = subst (λ p. IsSome (node_at st p)) (child_is place found.0.0 n found.2) (stands st found.0 found.1) in
      elim (only.only (place ++ n ∷ []) (within_longer (codes "job" ∷ []) place (n ∷ []) inside) there) [
        | inl top ↦ absurd (longer place n inside top)
        | inr l ↦
            let next = next_name place (job_path l.id ++ l.key ∷ []) n l.above in
            elim (last_or_before (job_path l.id) l.key (length place)) [
              | inl before ↦ among_left (map (λ id. get_or (job_path id) (length place) []) ids) key_names n
                  (subst (λ m. Among m (map (λ id. get_or (job_path id) (length place) []) ids)) (sym before ∙ next) (among_mapped (λ id. get_or (job_path id) (length place) []) ids l.id (among_from ids l.id l.known)))
              | inr last ↦ among_right (map (λ id. get_or (job_path id) (length place) []) ids) key_names n (subst (λ m. Among m key_names) (sym last ∙ next) (among_keys l.key l.named))
            ]
      ]

  few_names : (place : Path) → is_within (codes "job" ∷ []) place ≡ true → length (names_in st place) ≤ length ids + 3
  unfolding names_at key_names
  few_names place inside =
      let most = no_more (names_below st place) (names_at ids (length place)) (differ st place is.sorted) (named place inside) in
      let sum = length-append (map (λ id. get_or (job_path id) (length place) []) ids) key_names in
      let one = length-map ids (λ id. get_or (job_path id) (length place) []) in
      let same = as_many st place in
      omega (arith, most, sum, one, same)

  -- ---- room

  module _ (small : length ids + 3 < most_names) where
    room_below : (rest place : Path) → is_within (codes "job" ∷ []) place ≡ true → enters_full_from st place rest ≡ false
    room_below [] place inside = refl
    room_below (name ∷ rest) place inside =
        let few = few_names place inside in
        let short : length (names_in st place) < 2048 = omega (arith, few, small) in
        let full : nat_le most_names (length (names_in st place)) ≡ false = grind (arith, nat_tests, short) in
        ap₂ (λ a b. (is_none (node_at st (place ++ name ∷ [])) && a) || b) full (room_below rest (place ++ name ∷ []) (within_longer (codes "job" ∷ []) place (name ∷ []) inside))
        ∙ none (is_none (node_at st (place ++ name ∷ [])))
      where
        none : (b : Bool) → ((b && false) || false) ≡ false
        none true = refl
        none false = refl

    room_from_top : (rest : Path) → enters_full_from st [] (codes "job" ∷ rest) ≡ false
    room_from_top rest = ap (λ o. (is_none o && nat_le most_names (length (names_in st []))) || enters_full_from st (codes "job" ∷ []) rest) only.directory ∙ room_below rest (codes "job" ∷ []) refl

    room : (id : ℕ) (key : Name) → enters_full_from st [] (job_path id ++ key ∷ []) ≡ false
    unfolding job_path
    room id key = room_from_top (drop 1 (job_path id ++ key ∷ []))

    module _ (plain : HasNoLink st (codes "job" ∷ [])) (id : ℕ) (key : Name) where
      works : (operation : Op) → key_of operation ≡ job_path id ++ key ∷ [] → first_cause (refusals st author.Manager scope.Primary operation (job_path id ++ key ∷ [])) ≡ None
          → op_effect st author.Manager scope.Primary operation ≡ Ok (changed st operation (job_path id ++ key ∷ []))
      unfolding op_effect job_path
      works operation at granted =
          ap (effect_from_key st author.Manager scope.Primary operation) at
          ∙ ap (effect_at st author.Manager scope.Primary operation) (unlinked_resolved st _ (unlinked st is plain _))
          ∙ ap (λ c. unless_refused c (changed st operation (job_path id ++ key ∷ []))) granted

      pub put_works : (bytes : List ℕ) → op_effect st author.Manager scope.Primary (op.Put (job_path id ++ key ∷ []) bytes) ≡ Ok (placed st (job_path id ++ key ∷ []) (Value bytes))
      put_works bytes = works (op.Put (job_path id ++ key ∷ []) bytes) refl
          (ap (λ f. first_cause ((cause.Reserved, false) ∷ (cause.IsDir, false) ∷ (cause.IsLink, false) ∷ (cause.ValueFull, false) ∷ (cause.DirFull, f) ∷ [])) (room id key))

      pub append_works : (old bytes : List ℕ) → node_at st (job_path id ++ key ∷ []) ≡ Some (Value old)
          → op_effect st author.Manager scope.Primary (op.Append (job_path id ++ key ∷ []) bytes) ≡ Ok (changed st (op.Append (job_path id ++ key ∷ []) bytes) (job_path id ++ key ∷ []))
      append_works old bytes was = works (op.Append (job_path id ++ key ∷ []) bytes) refl
          (ap₂ (λ n f. first_cause ((cause.Reserved, false) ∷ (cause.IsDir, is_directory n) ∷ (cause.IsLink, is_link n) ∷ (cause.ValueFull, false) ∷ (cause.DirFull, f) ∷ [])) was (room id key))

-- ---- what stands there after a put

above_within : (q p : Path) → paths.is_above q p ≡ true → is_within q p ≡ true
above_within [] p h = refl
above_within (x ∷ q) [] h = absurd (true≢false (sym h))
above_within (x ∷ q) (n ∷ p) h = elim (bytes_eq x n) as (λ b. (b && paths.is_above q p) ≡ true → (b && is_within q p) ≡ true) [ true ↦ λ h. above_within q p h | false ↦ λ h. h ] h

module _ (st : Store) (ids more : List ℕ) (old : HasOnlyJobs st ids) (known : (i : ℕ) → Among i ids → Among i more) (id : ℕ) (mine : Among id more) (key : Name) (named : IsJobKey key) where
  leads : (q : Path) → is_within q (job_path id ++ key ∷ []) ≡ true → LeadsToJob more q
  leads q w = record { id = id; known = contains_from more id mine; key = key; named = named; above = w }

  widened : (q : Path) → LeadsToJob ids q → LeadsToJob more q
  widened q l = record { id = l.id; known = contains_from more l.id (known l.id (among_from ids l.id l.known)); key = l.key; named = l.named; above = l.above }

  top_stays : (bytes : List ℕ) → node_at (placed st (job_path id ++ key ∷ []) (Value bytes)) (codes "job" ∷ []) ≡ Some Directory
  unfolding job_path
  top_stays bytes = node_at-placed st (job_path id ++ key ∷ []) (Value bytes) (codes "job" ∷ [])

  pub put_keeps : (bytes : List ℕ) → HasOnlyJobs (placed st (job_path id ++ key ∷ []) (Value bytes)) more
  put_keeps bytes = record {
    directory = top_stays bytes;
    only = λ q inside some. at q inside (eq_by_cmp path_cmp q place) refl (is_within place q) (paths.is_above q place) refl (subst IsSome (node_at-placed st place (Value bytes) q) some);
  }
    where
      place : Path
      place = job_path id ++ key ∷ []

      at : (q : Path) → is_within (codes "job" ∷ []) q ≡ true → (a : Bool) → eq_by_cmp path_cmp q (job_path id ++ key ∷ []) ≡ a → (b c : Bool) → paths.is_above q (job_path id ++ key ∷ []) ≡ c
          → IsSome (cond a (Some (Value bytes)) (cond (not b) (cond c (Some Directory) (node_at st q)) None)) → (q ≡ codes "job" ∷ []) ⊎ LeadsToJob more q
      at q inside true e b c g some = inr (leads q (subst (λ r. is_within q r ≡ true) (path_from_test q (job_path id ++ key ∷ []) e) (within_self q)))
      at q inside false e true c g some = absurd (true≢false (sym some))
      at q inside false e false true g some = inr (leads q (above_within q (job_path id ++ key ∷ []) g))
      at q inside false e false false g some = elim (old.only q inside some) [ inl s ↦ inl s | inr l ↦ inr (widened q l) ]
