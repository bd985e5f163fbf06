-- Hosts put together by their cores and GPUs.
use Rattle.std.proofs.Common.{◌≡◌, ℕ, zero, suc, ◌+◌, Bool, true, false, cond, ◌&&◌, List, [], ◌∷◌, ◌++◌, length, get_or, set, map, Option, Some, None, is_some, Ordering, Less, Equal, Greater, is_eq, refl, sym, ap, ap₂, ◌∙◌, add-one}
use Rattle.std.specs.Prelude.{option_map}
use Rattle.std.specs.Ordering.{nat_cmp, ordering_then}
use Rattle.std.specs.Cmp.Lexicographic.{slice_cmp}
use Rattle.std.specs.List.{AllByRecursion}
use Rattle.std.specs.Str.{bytes_eq}
use Rattle.std.proofs.lemmas.Slice.Eq.{bytes_eq-Decides}
use Rattle.std.proofs.lemmas.Map.Text.{is_eq-slice_cmp}
use Rattle.idset.specs.Runs.{printed}
use Rattle.idset.specs.Text.{spelled}
use Rattle.resource_set.specs.declared.entries.Entry.{Entry}
use Rattle.resource_set.specs.declared.entries.Group.{Group}
use Rattle.resource_set.specs.declared.node.Node.{Node}
use Rattle.resource_set.specs.Places.{place_of}
use Rattle.resource_set.specs.Writing.{fits_in, single, added, with_node, written, with_rank, has_texts, IsSpelled, IsWritten}
use Rattle.resource_set.proofs.Places.{or_place, place_of-push}
use Rattle.resource_set.proofs.Ranks.{bytes_eq_back}
use Rattle.resource_set.proofs.Booleans.{both, agree, same_name, placed_anew}

abbrev next : Option ℕ → Option ℕ
next o = option_map (λ n. n + 1) o

at_step : (b : Bool) (o : Option ℕ) (node : Node) (e : Entry) (more rest : List Entry) (p : ℕ) (d : Entry) → cond b (Some 0) (next o) ≡ Some p → ((j : ℕ) → o ≡ Some j → rest ≡ set more j (added node (get_or more j d)))
    → cond b (added node e ∷ more) (e ∷ rest) ≡ set (e ∷ more) p (added node (get_or (e ∷ more) p d))
at_step true o node e more rest p d h g = let first : 0 ≡ p = cc in ap (λ n. set (e ∷ more) n (added node (get_or (e ∷ more) n d))) first
at_step false None node e more rest p d h g = cc
at_step false (Some j) node e more rest p d h g = let further : j + 1 ≡ p = cc in ap (λ l. e ∷ l) (g j refl) ∙ ap (λ n. set (e ∷ more) n (added node (get_or (e ∷ more) n d))) (sym (add-one j) ∙ further)

-- a host whose cores and GPUs an entry has
pub grouped_at : (entries : List Entry) (node : Node) (p : ℕ) (d : Entry) → place_of (fits_in node) entries ≡ Some p → with_node entries node ≡ set entries p (added node (get_or entries p d))
grouped_at [] node p d h = cc
grouped_at (e ∷ more) node p d h = at_step (fits_in node e) (place_of (fits_in node) more) node e more (with_node more node) p d h (λ j i. grouped_at more node j d i)

new_step : (b : Bool) (o : Option ℕ) (node : Node) (e : Entry) (more rest : List Entry) → cond b (Some 0) (next o) ≡ None → (o ≡ None → rest ≡ more ++ single node ∷ []) → cond b (added node e ∷ more) (e ∷ rest) ≡ (e ∷ more) ++ single node ∷ []
new_step true o node e more rest h g = cc
new_step false None node e more rest h g = ap (λ l. e ∷ l) (g refl)
new_step false (Some j) node e more rest h g = cc

-- a host of another kind
pub grouped_new : (entries : List Entry) (node : Node) → place_of (fits_in node) entries ≡ None → with_node entries node ≡ entries ++ single node ∷ []
grouped_new [] node h = refl
grouped_new (e ∷ more) node h = new_step (fits_in node e) (place_of (fits_in node) more) node e more (with_node more node) h (λ i. grouped_new more node i)

-- ---- by texts

texts_alike : (a b : List ℕ) → IsSpelled a → IsSpelled b → bytes_eq (printed a) (printed b) ≡ bytes_eq a b
texts_alike a b sa sb = agree (bytes_eq (printed a) (printed b)) (bytes_eq a b)
    (λ t. (bytes_eq-Decides a b).1 (sym sa.same ∙ ap spelled (same_name (printed a) (printed b) t) ∙ sb.same))
    (λ t. (bytes_eq-Decides (printed a) (printed b)).1 (ap printed (same_name a b t)))

-- a host fits where its texts are those of the entry
pub place_alike : (node : Node) (entries : List Entry) → IsSpelled node.cores → IsSpelled node.gpus → AllByRecursion IsWritten entries → place_of (has_texts (printed node.cores) (printed node.gpus)) (map written entries) ≡ place_of (fits_in node) entries
place_alike node [] c g a = refl
place_alike node (e ∷ more) c g a = ap₂ (λ b o. cond b (Some 0) (next o)) (ap₂ (λ x y. x && y) (texts_alike node.cores e.cores c a.0.cores) (texts_alike node.gpus e.gpus g a.0.gpus)) (place_alike node more c g a.1)

pub all_weaker : {A : Type 0} (P Q : A → Type 0) → ((x : A) → P x → Q x) → (xs : List A) → AllByRecursion P xs → AllByRecursion Q xs
all_weaker P Q f [] a = tt
all_weaker P Q f (x ∷ xs) a = (f x a.0, all_weaker P Q f xs a.1)

-- what holds of each entry, of an entry with one more rank and of an entry alone
pub all-with_node : (P Q : Entry → Type 0) (node : Node) → ((e : Entry) → P e → Q e) → ((e : Entry) → P e → Q (added node e)) → Q (single node) → (entries : List Entry) → AllByRecursion P entries → AllByRecursion Q (with_node entries node)
all-with_node P Q node kept grown alone [] a = (alone, tt)
all-with_node P Q node kept grown alone (e ∷ more) a = go (fits_in node e) (all-with_node P Q node kept grown alone more a.1)
  where
    go : (b : Bool) → AllByRecursion Q (with_node more node) → AllByRecursion Q (cond b (added node e ∷ more) (e ∷ with_node more node))
    go true rest = (grown e a.0, all_weaker P Q kept more a.1)
    go false rest = (kept e a.0, rest)

pub written-with_node : (entries : List Entry) (node : Node) → IsSpelled node.cores → IsSpelled node.gpus → AllByRecursion IsWritten entries → AllByRecursion IsWritten (with_node entries node)
written-with_node entries node c g a = all-with_node IsWritten IsWritten node (λ e w. w) (λ e w. record { cores = w.cores; gpus = w.gpus }) (record { cores = c; gpus = g }) entries a

-- ---- groups

get_or-written : (entries : List Entry) (p : ℕ) (d : Entry) → get_or (map written entries) p (written d) ≡ written (get_or entries p d)
get_or-written [] p d = refl
get_or-written (e ∷ more) zero d = refl
get_or-written (e ∷ more) (suc p) d = get_or-written more p d

set-written : (entries : List Entry) (p : ℕ) (x : Entry) → map written (set entries p x) ≡ set (map written entries) p (written x)
set-written [] p x = refl
set-written (e ∷ more) zero x = refl
set-written (e ∷ more) (suc p) x = ap (λ l. written e ∷ l) (set-written more p x)

-- a rank more in a group
pub rank_added : (entries : List Entry) (groups new : List Group) (node : Node) (p : ℕ) → groups ≡ map written entries → place_of (fits_in node) entries ≡ Some p
    → ((d : Group) → new ≡ set groups p (with_rank node.rank (get_or groups p d))) → new ≡ map written (with_node entries node)
rank_added entries groups new node p same at is =
    let d : Entry = record { ranks = []; cores = []; gpus = [] } in
    let got : get_or groups p (written d) ≡ written (get_or entries p d) = ap (λ l. get_or l p (written d)) same ∙ get_or-written entries p d in
    is (written d) ∙ ap₂ (λ l g. set l p (with_rank node.rank g)) same got
    ∙ sym (set-written entries p (added node (get_or entries p d))) ∙ ap (map written) (sym (grouped_at entries node p d at))

pub map_written-push : (entries : List Entry) (x : Entry) → map written (entries ++ x ∷ []) ≡ map written entries ++ written x ∷ []
map_written-push [] x = refl
map_written-push (e ∷ more) x = ap (λ l. written e ∷ l) (map_written-push more x)

-- a group more
pub group_added : (entries : List Entry) (groups new : List Group) (group : Group) (node : Node) → groups ≡ map written entries → place_of (fits_in node) entries ≡ None
    → group ≡ written (single node) → new ≡ groups ++ group ∷ [] → new ≡ map written (with_node entries node)
group_added entries groups new group node same at one is = is ∙ ap₂ (λ l g. l ++ g ∷ []) same one ∙ sym (map_written-push entries (single node)) ∙ ap (map written) (sym (grouped_new entries node at))

-- ---- places of groups

kept_step : (b c : Bool) (o q r : Option ℕ) (p : ℕ) → cond b (Some 0) (next o) ≡ Some p → ((j : ℕ) → o ≡ Some j → q ≡ r) → cond b (cond c (Some 0) (next r)) (cond c (Some 0) (next q)) ≡ cond c (Some 0) (next r)
kept_step true c o q r p h g = refl
kept_step false c None q r p h g = cc
kept_step false c (Some j) q r p h g = ap (λ x. cond c (Some 0) (next x)) (g j refl)

spread : (cores gpus : List ℕ) (b : Bool) (node : Node) (e : Entry) (more rest : List Entry)
    → place_of (has_texts cores gpus) (map written (cond b (added node e ∷ more) (e ∷ rest))) ≡ cond b (cond (has_texts cores gpus (written e)) (Some 0) (next (place_of (has_texts cores gpus) (map written more)))) (cond (has_texts cores gpus (written e)) (Some 0) (next (place_of (has_texts cores gpus) (map written rest))))
spread cores gpus true node e more rest = refl
spread cores gpus false node e more rest = refl

-- a rank more leaves the places of texts
pub places_kept : (cores gpus : List ℕ) (entries : List Entry) (node : Node) (p : ℕ) → place_of (fits_in node) entries ≡ Some p → place_of (has_texts cores gpus) (map written (with_node entries node)) ≡ place_of (has_texts cores gpus) (map written entries)
places_kept cores gpus [] node p h = cc
places_kept cores gpus (e ∷ more) node p h = spread cores gpus (fits_in node e) node e more (with_node more node)
    ∙ kept_step (fits_in node e) (has_texts cores gpus (written e)) (place_of (fits_in node) more) (place_of (has_texts cores gpus) (map written (with_node more node))) (place_of (has_texts cores gpus) (map written more)) p h (λ j i. places_kept cores gpus more node j i)

key_step : (a b : Ordering) → is_eq (ordering_then a (ordering_then b Equal)) ≡ (is_eq a && is_eq b)
key_step Less b = refl
key_step Greater b = refl
key_step Equal Less = refl
key_step Equal Equal = refl
key_step Equal Greater = refl

-- keys of two texts
pub is_key : (a b c g : List ℕ) → is_eq (slice_cmp (slice_cmp nat_cmp) (a ∷ b ∷ []) (c ∷ g ∷ [])) ≡ (bytes_eq c a && bytes_eq g b)
is_key a b c g = key_step (slice_cmp nat_cmp a c) (slice_cmp nat_cmp b g) ∙ ap₂ (λ x y. x && y) (is_eq-slice_cmp a c ∙ bytes_eq_back a c) (is_eq-slice_cmp b g ∙ bytes_eq_back b g)

-- a group more is written down
pub group_placed : (cores gpus a b : List ℕ) (groups : List Group) (group : Group) → group.cores ≡ a → group.gpus ≡ b → place_of (has_texts a b) groups ≡ None
    → cond (bytes_eq cores a && bytes_eq gpus b) (Some (length groups)) (place_of (has_texts cores gpus) groups) ≡ place_of (has_texts cores gpus) (groups ++ group ∷ [])
group_placed cores gpus a b groups group ca gb none =
    placed_anew (bytes_eq cores a && bytes_eq gpus b) (place_of (has_texts cores gpus) groups) (length groups)
    (λ t. let m = both (bytes_eq cores a) (bytes_eq gpus b) t in ap is_some (ap₂ (λ x y. place_of (has_texts x y) groups) (same_name cores a m.0) (same_name gpus b m.1) ∙ none))
    ∙ ap₂ (λ x y. or_place (place_of (has_texts cores gpus) groups) (cond (bytes_eq cores x && bytes_eq gpus y) (Some (length groups)) None)) (sym ca) (sym gb)
    ∙ sym (place_of-push (has_texts cores gpus) groups group)
