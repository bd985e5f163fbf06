-- What a query finds at the end of a path, and what it needs there.
use Rattle.std.proofs.Common.{◌≡◌, ℕ, ◌<◌, Bool, true, false, cond, List, [], ◌∷◌, ◌++◌, length, Option, Some, None, refl, sym, ap, ◌∙◌, subst, arith, append_assoc, append-nil, true≢false}
use Rattle.std.specs.Prelude.{IsSome, is_some as is_there, slice_get}
use Rattle.fl_digest.specs.declared.BlobRef.{BlobRef}
use Rattle.fl_digest.specs.declared.Hash.{Hash}
use Rattle.fl_digest.specs.Reference.{reference_of}
use Rattle.kvs_txn.specs.declared.answers.Query.{Query}
use Rattle.kvs_txn.specs.declared.answers.Query.TheVariants as query
use Rattle.kvs_txn.specs.declared.answers.Found.{Found}
use Rattle.kvs_txn.specs.declared.answers.Found.TheVariants as found
use Rattle.kvs_txn.specs.declared.words.Target.{Target}
use Rattle.kvs_model.specs.Store.{Path, Node, Value, Directory, Link, Store, root, node_at, names_in}
use Rattle.kvs_model.specs.Walk.{Stop, go_on, stop, stop_from, found_at, found_from, found_in}
use Rattle.tree_rules.specs.Held.{Table}
use Rattle.tree_rules.specs.OneStore.{own_found_needs}
use Rattle.tree_rules.specs.Objects.{Tree, val, valref, dir, dirref, symlink}
use Rattle.tree_rules.specs.Texts.{is_long, objects, objects_in, stored_at}
use Rattle.tree_objects.specs.Level.{tree_of}
use Rattle.tree_objects.specs.declared.object.Object.{Object}
use Rattle.tree_look.specs.declared.Advance.{Advance}
use Rattle.tree_look.specs.declared.Advance.TheVariants as advance
use Rattle.tree_look.specs.Looks.{PassesAll, EndTells}
use Rattle.tree_look.specs.Legs.{EndsAt}
use Rattle.tree_look.proofs.Passing.{none_known, more_known}
use Rattle.tree_look.proofs.Stored.{object_at, node_there, none_there, val_node, valref_node, dirref_node, dir_node, symlink_node, directory_stored}

-- ---- answers that need nothing more

pub needs_none : (what : Found) (wanted : List BlobRef) (texts : Table) (old : List BlobRef) (found : Found) → found ≡ what → wanted ≡ [] → EndTells what wanted texts old old (advance.Done found)
needs_none what wanted texts old found is none =
    (is, subst (λ (rs : List BlobRef). PassesAll texts rs old old) (sym none) (record { passed = sym (append-nil old); known = none_known texts }))

-- ---- answers that need one content more

pub needs_one : (what : Found) (texts : Table) (old new : List BlobRef) (r : BlobRef) (found : Found) → found ≡ what → IsSome (texts r) → new ≡ old ++ r ∷ [] → EndTells what (r ∷ []) texts old new (advance.Done found)
needs_one what texts old new r found is known passed = (is, record { passed = passed; known = more_known texts [] r (none_known texts) known })

pub misses_one : (what : Found) (texts : Table) (old : List BlobRef) (r : BlobRef) → texts r ≡ None → EndTells what (r ∷ []) texts old old (advance.Needs r)
misses_one what texts old r missing = record {
  before = [];
  behind = [];
  parts = refl;
  passed = sym (append-nil old);
  known = none_known texts;
  missing = missing;
}

pub none_is : {X : Type 0} (o : Option X) → is_there o ≡ false → o ≡ None
none_is None e = refl
none_is (Some x) e = absurd (true≢false e)

pub some_is : {X : Type 0} (o : Option X) → is_there o ≡ true → IsSome o
some_is None e = absurd (true≢false (sym e))
some_is (Some x) e = refl

pub found_some : {X : Type 0} (o : Option X) (x : X) → Some x ≡ o → IsSome o
found_some o x e = some_is o (ap is_there (sym e))

-- a value that stands under the first reference
pub no_first : (rs : List BlobRef) (r : BlobRef) → None ≡ slice_get rs 0 → rs ≡ r ∷ [] → ⊥
no_first rs r none is = let bad : ◌≡◌ {A = Option BlobRef} None (Some r) = none ∙ ap (λ (l : List BlobRef). slice_get l 0) is in cc

pub first_is : (rs : List BlobRef) (x r : BlobRef) → Some x ≡ slice_get rs 0 → rs ≡ r ∷ [] → x ≡ r
first_is rs x r some is = let both : Some x ≡ Some r = some ∙ ap (λ (l : List BlobRef). slice_get l 0) is in cc

-- the first reference is the only one
first_only : (rs : List BlobRef) (x r : BlobRef) → Some x ≡ slice_get rs 0 → rs ≡ r ∷ [] → x ∷ [] ≡ rs
first_only rs x r some is = ap (λ (y : BlobRef). y ∷ []) (first_is rs x r some is) ∙ sym is

pub value_misses : (what : Found) (texts : Table) (old rs : List BlobRef) (x r : BlobRef) → Some x ≡ slice_get rs 0 → rs ≡ r ∷ [] → texts x ≡ None → EndTells what rs texts old old (advance.Needs x)
value_misses what texts old rs x r some is missing = subst (λ (l : List BlobRef). EndTells what l texts old old (advance.Needs x)) (first_only rs x r some is) (misses_one what texts old x missing)

pub value_needs : (what : Found) (texts : Table) (old new rs : List BlobRef) (x r : BlobRef) (found : Found) → Some x ≡ slice_get rs 0 → rs ≡ r ∷ [] → found ≡ what → IsSome (texts x) → new ≡ old ++ x ∷ [] → EndTells what rs texts old new (advance.Done found)
value_needs what texts old new rs x r found some is same known passed = subst (λ (l : List BlobRef). EndTells what l texts old new (advance.Done found)) (first_only rs x r some is) (needs_one what texts old new x found same known passed)

-- ---- what a query finds in the last place

abbrev pub LastTells : Hash → Store → Query → Path → Node → Table → List BlobRef → List BlobRef → Advance → Type 0
LastTells hash st asked place node texts old new told = EndTells (found_at st asked place node) (own_found_needs hash st (Some place) (found_at st asked place node)) texts old new told

-- an object of a node at a place
pub record IsOf (hash : Hash) (st : Store) (place : Path) (node : Node) (tree : Tree) : Type 0 where
  pub there : node_at st place ≡ Some node
  pub stored : Some tree ≡ stored_at hash st place

pub value_last : (h : Hash) (st : Store) (p : Path) (node : Node) (texts : Table) (old : List BlobRef) (bytes : List ℕ) → IsOf h st p node (val bytes) → LastTells h st query.Get p node texts old old (advance.Done (found.Value bytes))
value_last h st p node texts old bytes is =
    let v = val_node h node (objects_in p (objects h st)) bytes (object_at h st p node (val bytes) is.stored is.there) in
    subst (λ (n : Node). LastTells h st query.Get p n texts old old (advance.Done (found.Value bytes))) (sym v.0)
    (needs_none (found.Value bytes) (cond (is_long bytes) (reference_of h bytes ∷ []) []) texts old (found.Value bytes) refl (ap (λ b. cond b (reference_of h bytes ∷ []) []) v.1))

-- a value that stands by its reference
pub record IsLong (hash : Hash) (st : Store) (place : Path) (node : Node) (references : List BlobRef) (bytes : List ℕ) : Type 0 where
  pub node_is : node ≡ Value bytes
  pub there : node_at st place ≡ Some (Value bytes)
  pub long : is_long bytes ≡ true
  pub named : references ≡ reference_of hash bytes ∷ []

pub long_there : (h : Hash) (st : Store) (p : Path) (node : Node) (rs : List BlobRef) → IsOf h st p node (valref rs) → (bytes : List ℕ) × IsLong h st p node rs bytes
long_there h st p node rs is =
    let v = valref_node h node (objects_in p (objects h st)) rs (object_at h st p node (valref rs) is.stored is.there) in
    (v.0, record { node_is = v.1.0; there = is.there ∙ ap Some v.1.0; long = v.1.1; named = v.2 })

pub long_last : (h : Hash) (st : Store) (p : Path) (node : Node) (texts : Table) (old new : List BlobRef) (rs : List BlobRef) (bytes : List ℕ) (told : Advance) → IsLong h st p node rs bytes
    → EndTells (found.Value bytes) rs texts old new told → LastTells h st query.Get p node texts old new told
long_last h st p node texts old new rs bytes told is tells =
    let wanted : rs ≡ cond (is_long bytes) (reference_of h bytes ∷ []) [] = is.named ∙ sym (ap (λ b. cond b (reference_of h bytes ∷ []) []) is.long) in
    subst (λ (n : Node). LastTells h st query.Get p n texts old new told) (sym is.node_is)
    (subst (λ (l : List BlobRef). EndTells (found.Value bytes) l texts old new told) wanted tells)

pub directory_last : (h : Hash) (st : Store) (p : Path) (node : Node) (texts : Table) (old new : List BlobRef) (r : BlobRef) (told : Advance) → IsOf h st p node (dirref r)
    → EndTells (found.Names (names_in st p)) (r ∷ []) texts old new told → LastTells h st query.List p node texts old new told
directory_last h st p node texts old new r told is tells =
    let v = dirref_node h node (objects_in p (objects h st)) r (object_at h st p node (dirref r) is.stored is.there) in
    let named = (directory_stored h st p r is.stored).named in
    subst (λ (n : Node). LastTells h st query.List p n texts old new told) (sym v.0)
    (subst (λ (x : BlobRef). EndTells (found.Names (names_in st p)) (x ∷ []) texts old new told) named tells)

-- the other answers
pub is_dir_last : (h : Hash) (st : Store) (p : Path) (node : Node) (texts : Table) (old : List BlobRef) (r : BlobRef) → IsOf h st p node (dirref r) → LastTells h st query.Get p node texts old old (advance.Done found.IsDir)
is_dir_last h st p node texts old r is =
    let v = dirref_node h node (objects_in p (objects h st)) r (object_at h st p node (dirref r) is.stored is.there) in
    subst (λ (n : Node). LastTells h st query.Get p n texts old old (advance.Done found.IsDir)) (sym v.0) (needs_none found.IsDir [] texts old found.IsDir refl refl)

pub loop_last : (h : Hash) (st : Store) (p : Path) (node : Node) (texts : Table) (old : List BlobRef) (target : Target) → IsOf h st p node (symlink target) → LastTells h st query.Get p node texts old old (advance.Done found.Loop)
loop_last h st p node texts old target is =
    let v = symlink_node h node (objects_in p (objects h st)) target (object_at h st p node (symlink target) is.stored is.there) in
    subst (λ (n : Node). LastTells h st query.Get p n texts old old (advance.Done found.Loop)) (sym v) (needs_none found.Loop [] texts old found.Loop refl refl)

pub list_loop_last : (h : Hash) (st : Store) (p : Path) (node : Node) (texts : Table) (old : List BlobRef) (target : Target) → IsOf h st p node (symlink target) → LastTells h st query.List p node texts old old (advance.Done found.Loop)
list_loop_last h st p node texts old target is =
    let v = symlink_node h node (objects_in p (objects h st)) target (object_at h st p node (symlink target) is.stored is.there) in
    subst (λ (n : Node). LastTells h st query.List p n texts old old (advance.Done found.Loop)) (sym v) (needs_none found.Loop [] texts old found.Loop refl refl)

not_dir_value : (h : Hash) (st : Store) (p : Path) (node : Node) (bytes : List ℕ) (texts : Table) (old : List BlobRef) → node ≡ Value bytes → LastTells h st query.List p node texts old old (advance.Done found.NotDir)
not_dir_value h st p node bytes texts old is =
    subst (λ (n : Node). LastTells h st query.List p n texts old old (advance.Done found.NotDir)) (sym is) (needs_none found.NotDir [] texts old found.NotDir refl refl)

pub not_dir_val : (h : Hash) (st : Store) (p : Path) (node : Node) (texts : Table) (old : List BlobRef) (bytes : List ℕ) → IsOf h st p node (val bytes) → LastTells h st query.List p node texts old old (advance.Done found.NotDir)
not_dir_val h st p node texts old bytes is =
    not_dir_value h st p node bytes texts old (val_node h node (objects_in p (objects h st)) bytes (object_at h st p node (val bytes) is.stored is.there)).0

pub not_dir_valref : (h : Hash) (st : Store) (p : Path) (node : Node) (texts : Table) (old rs : List BlobRef) → IsOf h st p node (valref rs) → LastTells h st query.List p node texts old old (advance.Done found.NotDir)
not_dir_valref h st p node texts old rs is =
    let v = valref_node h node (objects_in p (objects h st)) rs (object_at h st p node (valref rs) is.stored is.there) in
    not_dir_value h st p node v.0 texts old v.1.0

-- no directory stands whole in a text
pub no_dir : (h : Hash) (st : Store) (p : Path) (node : Node) (es : _) → IsOf h st p node (dir es) → ⊥
no_dir h st p node es is = dir_node h node (objects_in p (objects h st)) es (object_at h st p node (dir es) is.stored is.there)

-- what a query for a link finds at an object
abbrev pub link_found : Tree → Found
link_found (val bytes) = found.NotLink
link_found (valref references) = found.NotLink
link_found (dir es) = found.NotLink
link_found (dirref reference) = found.NotLink
link_found (symlink target) = found.Target target

pub target_told : (h : Hash) (st : Store) (p : Path) (node : Node) (t : Tree) → IsOf h st p node t → found_at st query.Link p node ≡ link_found t
target_told h st p node (val bytes) is = ap (found_at st query.Link p) (val_node h node (objects_in p (objects h st)) bytes (object_at h st p node (val bytes) is.stored is.there)).0
target_told h st p node (valref rs) is = ap (found_at st query.Link p) (valref_node h node (objects_in p (objects h st)) rs (object_at h st p node (valref rs) is.stored is.there)).1.0
target_told h st p node (dir es) is = absurd (no_dir h st p node es is)
target_told h st p node (dirref r) is = ap (found_at st query.Link p) (dirref_node h node (objects_in p (objects h st)) r (object_at h st p node (dirref r) is.stored is.there)).0
target_told h st p node (symlink target) is = ap (found_at st query.Link p) (symlink_node h node (objects_in p (objects h st)) target (object_at h st p node (symlink target) is.stored is.there))

-- a link needs nothing more
link_needs : (h : Hash) (st : Store) (p : Path) (node : Node) → own_found_needs h st (Some p) (found_at st query.Link p node) ≡ []
link_needs h st p (Value bytes) = refl
link_needs h st p Directory = refl
link_needs h st p (Link target) = refl

pub link_last : (h : Hash) (st : Store) (p : Path) (node : Node) (texts : Table) (old : List BlobRef) (found : Found) → found ≡ found_at st query.Link p node → LastTells h st query.Link p node texts old old (advance.Done found)
link_last h st p node texts old found is = needs_none (found_at st query.Link p node) (own_found_needs h st (Some p) (found_at st query.Link p node)) texts old found is (link_needs h st p node)

-- ---- where a walk ends

abbrev pub AlongTells : Hash → Store → Query → Path → Table → List BlobRef → List BlobRef → Advance → Type 0
AlongTells hash st asked path texts old new told = EndTells (found_in st asked path) (own_found_needs hash st (Some path) (found_in st asked path)) texts old new told

-- nothing stands there
pub ends_none : (h : Hash) (st : Store) (asked : Query) (path : Path) (whole : Bool) (texts : Table) (old : List BlobRef) → EndsAt h st path None whole → AlongTells h st asked path texts old old (advance.Done found.Nothing)
ends_none h st asked path whole texts old ends =
    let at = stop st path in
    let what : found_in st asked path ≡ found.Nothing = ap (λ o. found_from st asked at.place o at.rest) (none_there h st at.place ends.stands) in
    subst (λ (w : Found). EndTells w (own_found_needs h st (Some path) w) texts old old (advance.Done found.Nothing)) (sym what) (needs_none found.Nothing [] texts old found.Nothing refl refl)

found_short : (st : Store) (asked : Query) (place : Path) (node : Node) (rest : Path) → 0 < length rest → found_from st asked place (Some node) rest ≡ found.NotDir
found_short st asked place node [] w = absurd (omega arith)
found_short st asked place node (x ∷ rest) w = refl

-- components are left
pub ends_part : (h : Hash) (st : Store) (asked : Query) (path : Path) (object : Object) (texts : Table) (old : List BlobRef) → EndsAt h st path (Some object) false → AlongTells h st asked path texts old old (advance.Done found.NotDir)
ends_part h st asked path object texts old ends =
    let at = stop st path in
    let node = node_there h st at.place (tree_of object) ends.stands in
    let what : found_in st asked path ≡ found.NotDir = ap (λ o. found_from st asked at.place o at.rest) node.1 ∙ found_short st asked at.place node.0 at.rest (ends.part refl) in
    subst (λ (w : Found). EndTells w (own_found_needs h st (Some path) w) texts old old (advance.Done found.NotDir)) (sym what) (needs_none found.NotDir [] texts old found.NotDir refl refl)

-- none is left: the place is the path
pub record EndsWhole (hash : Hash) (st : Store) (path : Path) (object : Object) : Type 0 where
  pub node : Node
  pub is : IsOf hash st path node (tree_of object)
  pub found : (asked : Query) → found_in st asked path ≡ found_at st asked path node

go_on_whole : (o : Option Node) (before further : Stop) (path : Path) → before.place ++ before.rest ≡ path → further.place ++ further.rest ≡ path → (go_on o before further).place ++ (go_on o before further).rest ≡ path
go_on_whole (Some Directory) before further path a b = b
go_on_whole (Some (Value bytes)) before further path a b = a
go_on_whole (Some (Link target)) before further path a b = a
go_on_whole None before further path a b = a

stop_whole : (st : Store) (place rest : Path) → (stop_from st place rest).place ++ (stop_from st place rest).rest ≡ place ++ rest
stop_whole st place [] = refl
stop_whole st place (name ∷ rest) = go_on_whole (node_at st place) (record { place = place; rest = name ∷ rest }) (stop_from st (place ++ name ∷ []) rest) (place ++ name ∷ rest) refl
    (stop_whole st (place ++ name ∷ []) rest ∙ append_assoc place (name ∷ []) rest)

pub ends_whole : (h : Hash) (st : Store) (path : Path) (object : Object) → EndsAt h st path (Some object) true → EndsWhole h st path object
ends_whole h st path object ends =
    let at = stop st path in
    let rest : at.rest ≡ [] = ends.all refl in
    let place : at.place ≡ path = sym (append-nil at.place) ∙ ap (λ (r : Path). at.place ++ r) (sym rest) ∙ stop_whole st root path in
    let node = node_there h st at.place (tree_of object) ends.stands in
    record {
      node = node.0;
      is = record {
        there = ap (node_at st) (sym place) ∙ node.1;
        stored = ends.stands ∙ ap (stored_at h st) place;
      };
      found = λ asked. ap (λ o. found_from st asked at.place o at.rest) node.1 ∙ ap (found_from st asked at.place (Some node.0)) rest ∙ ap (λ (q : Path). found_at st asked q node.0) place;
    }

pub whole_told : (h : Hash) (st : Store) (asked : Query) (path : Path) (object : Object) (texts : Table) (old new : List BlobRef) (told : Advance) (whole : EndsWhole h st path object) → LastTells h st asked path whole.node texts old new told → AlongTells h st asked path texts old new told
whole_told h st asked path object texts old new told whole tells =
    subst (λ (w : Found). EndTells w (own_found_needs h st (Some path) w) texts old new told) (sym (whole.found asked)) tells
