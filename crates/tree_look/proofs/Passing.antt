-- A walk along a path passes the directories above the place where it stops.
use Rattle.std.proofs.Common.{◌≡◌, ℕ, zero, suc, ◌+◌, ◌<◌, ◌≤◌, true, false, List, [], ◌∷◌, ◌++◌, length, map, take, drop, get_or, Option, Some, None, option_map, refl, sym, ap, ◌∙◌, subst, inl, inr, arith, append_assoc, append-nil}
use Rattle.std.specs.Prelude.{IsSome, ◌⊎◌}
use Rattle.std.specs.FinMap.Entries as finite
use Rattle.std.proofs.lemmas.List.{map-append}
use Rattle.std.proofs.lemmas.List.Elements.{Contains-append_cases, Contains-push_cases}
use Rattle.fl_digest.specs.declared.BlobRef.{BlobRef}
use Rattle.fl_digest.specs.declared.Hash.{Hash}
use Rattle.kvs_model.specs.Operation.{is_directory, places_above}
use Rattle.kvs_model.specs.Store.{Name, Path, Node, Value, Directory, Link, Store, IsStore, node_at}
use Rattle.kvs_model.specs.Walk.{Stop, go_on, stop, stop_from}
use Rattle.tree_rules.specs.Held.{Table}
use Rattle.plain_store.proofs.Walking.{stop_more, stop_here, stop_end, place_at}
use Rattle.tree_rules.specs.Names.{name_cmp}
use Rattle.tree_rules.specs.Objects.{Tree, dirref}
use Rattle.tree_rules.specs.Texts.{objects, objects_in, stored_at, directory_reference}
use Rattle.tree_rules.proofs.Objects.{stored_under}
use Rattle.tree_objects.specs.Level.{tree_of}
use Rattle.tree_objects.specs.declared.object.Object.{Object}
use Rattle.tree_objects.specs.declared.object.Object.TheVariants.{Dirref}
use Rattle.tree_look.specs.Looks.{AreKnown, PassesAll, Misses}
use Rattle.tree_look.specs.Legs.{directory_in, leg_needs, StopsAt, LegTells}
use Rattle.tree_look.specs.declared.legs.Leg.TheVariants as leg
use Rattle.tree_look.specs.Looks.{Reads}
use Rattle.tree_look.proofs.Stored.{IsDirectoryAt, directory_stored, root_stored, reference_in, no_directory}

-- ---- known references

pub none_known : (texts : Table) → AreKnown texts []
none_known texts r has = absurd (omega (arith, has.1))

pub more_known : (texts : Table) (rs : List BlobRef) (r : BlobRef) → AreKnown texts rs → IsSome (texts r) → AreKnown texts (rs ++ r ∷ [])
more_known texts rs r all one q has =
    elim (Contains-push_cases rs r q has) [
      | inl old ↦ all q old
      | inr same ↦ subst (λ (x : BlobRef). IsSome (texts x)) same one
    ]

pub both_known : (texts : Table) (rs more : List BlobRef) → AreKnown texts rs → AreKnown texts more → AreKnown texts (rs ++ more)
both_known texts rs more all also q has =
    elim (Contains-append_cases rs more q has) [ inl a ↦ all q a | inr b ↦ also q b ]

-- ---- the places above a path

places_above-child : (p : Path) (n : Name) → places_above (p ++ n ∷ []) ≡ places_above p ++ p ∷ []
places_above-child [] n = refl
places_above-child (x ∷ p) n = ap (λ (places : List Path). [] ∷ map (λ place. x ∷ place) places) (places_above-child p n) ∙ ap (λ (places : List Path). [] ∷ places) (map-append (λ (place : Path). x ∷ place) (places_above p) (p ∷ []))

-- those above a path that leads on
further_above : (p r : Path) (n : Name) → (more : List Path) × (places_above (p ++ n ∷ r) ≡ places_above p ++ p ∷ more)
further_above [] r n = (map (λ (place : Path). n ∷ place) (places_above r), refl)
further_above (x ∷ p) r n =
    let rest = further_above p r n in (
      map (λ (place : Path). x ∷ place) rest.0,
      ap (λ (places : List Path). [] ∷ map (λ place. x ∷ place) places) rest.1
          ∙ ap (λ (places : List Path). [] ∷ places) (map-append (λ (place : Path). x ∷ place) (places_above p) (p ∷ rest.0)),
    )

-- the place where a walk stops lies at or below the one where it is
abbrev Further : Path → Stop → Type 0
Further place at = (more : Path) × (at.place ≡ place ++ more)

go_further : (o : Option Node) (place rest : Path) (further : Stop) → Further place further → Further place (go_on o (record { place = place; rest = rest }) further)
go_further None place rest further f = ([], sym (append-nil place))
go_further (Some (Value bytes)) place rest further f = ([], sym (append-nil place))
go_further (Some (Link target)) place rest further f = ([], sym (append-nil place))
go_further (Some Directory) place rest further f = f

stop_further : (st : Store) (place rest : Path) → Further place (stop_from st place rest)
stop_further st place [] = ([], sym (append-nil place))
stop_further st place (name ∷ rest) =
    let further = stop_further st (place ++ name ∷ []) rest in
    go_further (node_at st place) place (name ∷ rest) (stop_from st (place ++ name ∷ []) rest) (name ∷ further.0, further.1 ∙ append_assoc place (name ∷ []) further.0)

-- ---- on the way along a path

-- the references of the texts of the directories above a place
abbrev pub above_needs : Hash → Store → Path → List BlobRef
above_needs hash st place = map (directory_reference hash st) (places_above place)

-- a walk along a path has come to the directory behind so many components, whose reference is this
pub record OnWay (hash : Hash) (st : Store) (path : Path) (texts : Table) (old new : List BlobRef) (count : ℕ) (reference : BlobRef) : Type 0 where
  pub ends : stop st path ≡ stop_from st (take count path) (drop count path)
  pub stands : Some (dirref reference) ≡ stored_at hash st (take count path)
  pub passed : new ≡ old ++ above_needs hash st (take count path)
  pub known : AreKnown texts (above_needs hash st (take count path))

pub way_begins : (h : Hash) (st : Store) (path : Path) (texts : Table) (old : List BlobRef) (top : BlobRef) → Reads h st top texts → OnWay h st path texts old old 0 top
way_begins h st path texts old top reads = record {
  ends = refl;
  stands = root_stored h st top reads.holds.store reads.holds.reference;
  passed = sym (append-nil old);
  known = none_known texts;
}

pub way_directory : (h : Hash) (st : Store) (path : Path) (texts : Table) (old new : List BlobRef) (n : ℕ) (r : BlobRef) → OnWay h st path texts old new n r → IsDirectoryAt h st (take n path) r
way_directory h st path texts old new n r way = directory_stored h st (take n path) r way.stands

there_directory : (st : Store) (p : Path) → node_at st p ≡ Some Directory → is_directory (node_at st p) ≡ true
there_directory st p e = ap is_directory e

-- the text of this directory is needed
pub way_misses : (h : Hash) (st : Store) (path : Path) (texts : Table) (old new : List BlobRef) (n : ℕ) (r : BlobRef) → OnWay h st path texts old new n r → n < length path → texts r ≡ None
    → Misses texts (leg_needs h st path) old new r
way_misses h st path texts old new n r way within missing =
    let p = take n path in
    let is = way_directory h st path texts old new n r way in
    let name = get_or path n [] in
    let goes : stop st path ≡ stop_from st (take (n + 1) path) (drop (n + 1) path) = way.ends ∙ stop_more st path n within (there_directory st p is.there) in
    let further = stop_further st (take (n + 1) path) (drop (n + 1) path) in
    let place : (stop st path).place ≡ p ++ name ∷ further.0 =
    ap (λ (s : Stop). s.place) goes ∙ further.1 ∙ ap (λ (q : Path). q ++ further.0) (place_at path n within) ∙ append_assoc p (name ∷ []) further.0 in
    let parts = further_above p further.0 name in
    let references = map (directory_reference h st) parts.0 in
    record {
      before = above_needs h st p;
      behind = references;
      parts = ap (above_needs h st) place ∙ ap (map (directory_reference h st)) parts.1 ∙ map-append (directory_reference h st) (places_above p) (p ∷ parts.0)
          ∙ ap (λ (x : BlobRef). above_needs h st p ++ x ∷ references) (sym is.named);
      passed = way.passed;
      known = way.known;
      missing = missing;
    }

-- ---- one component more

-- the text of the directory is known, and this is found under the next name
pub record IsFound (hash : Hash) (st : Store) (path : Path) (texts : Table) (count : ℕ) (reference : BlobRef) (found : Option Tree) : Type 0 where
  pub within : count < length path
  pub known : IsSome (texts reference)
  pub stored : found ≡ stored_at hash st (take (count + 1) path)

pub found_under : (h : Hash) (st : Store) (path : Path) (texts : Table) (n : ℕ) (r : BlobRef) (name : Name) (rows : List (Name × Tree)) (o : Option Tree)
    → IsStore st → n < length path → name ≡ get_or path n name → IsSome (texts r) → rows ≡ objects_in (take n path) (objects h st) → o ≡ finite.find name_cmp name rows
    → IsFound h st path texts n r o
found_under h st path texts n r name rows o is within named known listed found =
    let p = take n path in
    let next : take (n + 1) path ≡ p ++ name ∷ [] = place_at path n within ∙ ap (λ (m : Name). p ++ m ∷ []) (same_get path n [] name within ∙ sym named) in
    record {
      within = within;
      known = known;
      stored = found ∙ ap (finite.find name_cmp name) listed ∙ stored_under h st p name is.sorted ∙ ap (stored_at h st) (sym next);
    }
  where
    same_get : (xs : Path) (i : ℕ) (d e : Name) → i < length xs → get_or xs i d ≡ get_or xs i e
    same_get [] i d e w = absurd (omega arith)
    same_get (x ∷ xs) zero d e w = refl
    same_get (x ∷ xs) (suc i) d e w = same_get xs i d e (omega arith)

more_above : (h : Hash) (st : Store) (path : Path) (n : ℕ) (r : BlobRef) → n < length path → r ≡ directory_reference h st (take n path) → above_needs h st (take (n + 1) path) ≡ above_needs h st (take n path) ++ r ∷ []
more_above h st path n r within named =
    ap (above_needs h st) (place_at path n within)
    ∙ ap (map (directory_reference h st)) (places_above-child (take n path) (get_or path n []))
    ∙ map-append (directory_reference h st) (places_above (take n path)) (take n path ∷ [])
    ∙ ap (λ (x : BlobRef). above_needs h st (take n path) ++ x ∷ []) (sym named)

-- what has been passed then
record HasPassed (hash : Hash) (st : Store) (path : Path) (texts : Table) (old new : List BlobRef) (count : ℕ) : Type 0 where
  ends : stop st path ≡ stop_from st (take count path) (drop count path)
  passed : new ≡ old ++ above_needs hash st (take count path)
  known : AreKnown texts (above_needs hash st (take count path))

one_more : (h : Hash) (st : Store) (path : Path) (texts : Table) (old new : List BlobRef) (n : ℕ) (r : BlobRef) → OnWay h st path texts old new n r → n < length path → IsSome (texts r)
    → HasPassed h st path texts old (new ++ r ∷ []) (n + 1)
one_more h st path texts old new n r way within known =
    let is = way_directory h st path texts old new n r way in
    let above = more_above h st path n r within is.named in
    record {
      ends = way.ends ∙ stop_more st path n within (there_directory st (take n path) is.there);
      passed = ap (λ (rs : List BlobRef). rs ++ r ∷ []) way.passed ∙ append_assoc old (above_needs h st (take n path)) (r ∷ []) ∙ ap (λ (rs : List BlobRef). old ++ rs) (sym above);
      known = subst (λ (rs : List BlobRef). AreKnown texts rs) (sym above) (more_known texts (above_needs h st (take n path)) r way.known known);
    }

pub way_on : (h : Hash) (st : Store) (path : Path) (texts : Table) (old new : List BlobRef) (n : ℕ) (r next : BlobRef) (o : Option Tree) → OnWay h st path texts old new n r → IsFound h st path texts n r o → Some next ≡ directory_in o
    → OnWay h st path texts old (new ++ r ∷ []) (n + 1) next
way_on h st path texts old new n r next o way is goes =
    let more = one_more h st path texts old new n r way is.within is.known in
    record { ends = more.ends; stands = reference_in o next goes ∙ is.stored; passed = more.passed; known = more.known }

-- a walk stops where no directory stands, or at the path's end
stop_there : (st : Store) (path : Path) (n : ℕ) → is_directory (node_at st (take n path)) ≡ false → stop_from st (take n path) (drop n path) ≡ record { place = take n path; rest = drop n path }
stop_there st path n none =
    elim (less_or n (length path)) [
      | inl less ↦ stop_here st path n less none
      | inr more ↦ stop_end st path n more
    ]
  where
    less_or : (a b : ℕ) → (a < b) ⊎ (b ≤ a)
    less_or a zero = inr (omega arith)
    less_or zero (suc b) = inl (omega arith)
    less_or (suc a) (suc b) = elim (less_or a b) [ inl l ↦ inl (omega arith) | inr m ↦ inr (omega arith) ]

-- all that a walk along a path needs, and where it stops
pub record Stopped (hash : Hash) (st : Store) (path : Path) (texts : Table) (old new : List BlobRef) (count : ℕ) (found : Option Object) : Type 0 where
  pub passes : PassesAll texts (leg_needs hash st path) old new
  pub stops : StopsAt hash st path count found

stopped_at : (h : Hash) (st : Store) (path : Path) (texts : Table) (old new : List BlobRef) (n : ℕ) (found : Option Object) → HasPassed h st path texts old new n → stop_from st (take n path) (drop n path) ≡ record { place = take n path; rest = drop n path }
    → option_map tree_of found ≡ stored_at h st (take n path) → Stopped h st path texts old new n found
stopped_at h st path texts old new n found has there stands =
    let ends : stop st path ≡ record { place = take n path; rest = drop n path } = has.ends ∙ there in
    let needs : above_needs h st (take n path) ≡ leg_needs h st path = ap (λ (s : Stop). above_needs h st s.place) (sym ends) in
    record {
      passes = record {
        passed = has.passed ∙ ap (λ (rs : List BlobRef). old ++ rs) needs;
        known = subst (λ (rs : List BlobRef). AreKnown texts rs) needs has.known;
      };
      stops = record { ends = ends; stands = stands };
    }

pub way_stops : (h : Hash) (st : Store) (path : Path) (texts : Table) (old new : List BlobRef) (n : ℕ) (r : BlobRef) (found : Option Object) → OnWay h st path texts old new n r → IsFound h st path texts n r (option_map tree_of found)
    → None ≡ directory_in (option_map tree_of found) → Stopped h st path texts old (new ++ r ∷ []) (n + 1) found
way_stops h st path texts old new n r found way is none =
    stopped_at h st path texts old (new ++ r ∷ []) (n + 1) found (one_more h st path texts old new n r way is.within is.known)
    (stop_there st path (n + 1) (no_directory h st (take (n + 1) path) (option_map tree_of found) is.stored none)) is.stored

pub way_ends : (h : Hash) (st : Store) (path : Path) (texts : Table) (old new : List BlobRef) (n : ℕ) (r : BlobRef) → OnWay h st path texts old new n r → n ≡ length path → Stopped h st path texts old new (length path) (Some (Dirref r))
way_ends h st path texts old new n r way is =
    let end = subst (λ k. OnWay h st path texts old new k r) is way in
    stopped_at h st path texts old new (length path) (Some (Dirref r)) (record { ends = end.ends; passed = end.passed; known = end.known }) (stop_end st path (length path) (omega arith)) end.stands

-- what the walk along a path tells then
pub leg_tells : (h : Hash) (st : Store) (path : Path) (texts : Table) (old new more : List BlobRef) (n : ℕ) (found : Option Object) → more ≡ new → Stopped h st path texts old new n found → LegTells h st path texts old more (leg.Stops n found)
leg_tells h st path texts old new more n found same stopped = (record { passed = same ∙ stopped.passes.passed; known = stopped.passes.known }, stopped.stops)
