-- What is written of resources is read again as these resources.
use Rattle.std.proofs.Common.{◌≡◌, ◌≢◌, ℕ, suc, ◌<◌, ◌≤◌, ◌^◌, Bool, true, false, cond, ◌&&◌, not, eqb, List, [], ◌∷◌, ◌++◌, length, get_or, map, Some, None, is_none, refl, sym, ap, ap₂, ◌∙◌, arith, append-nil, lit<}
use Rattle.std.specs.Prelude.{Result, Ok, Err, option_map, option_and_then, codes, IfOk}
use Rattle.std.specs.Option.{ok_or}
use Rattle.std.specs.List.{All, AllByRecursion}
use Rattle.std.specs.Str.{bytes_eq}
use Rattle.std.proofs.lemmas.Bool.Decides.{nat_tests}
use Rattle.std.proofs.lemmas.Slice.Eq.{bytes_eq-Decides}
use Rattle.std.proofs.lemmas.List.{length-map}
use Rattle.std.proofs.lemmas.List.Folds.{list_any_none}
use Rattle.serde_json.specs.Data.{Data, string, number, unsigned, array, object, Items, no_members, member, depth, items_depth}
use Rattle.serde_json.specs.Read.{max_depth}
use Rattle.serde_json.specs.View.{items_of}
use Rattle.fl_json.specs.Reading.{reading}
use Rattle.fl_json.specs.Valid.{IsValid, AreValid}
use Rattle.idset.specs.Runs.{printed}
use Rattle.idset.specs.Text.{spelled}
use Rattle.idset.proofs.Sets.{no_ids}
use Rattle.resource_set.specs.declared.entries.Entry.{Entry}
use Rattle.resource_set.specs.declared.node.Node.{Node}
use Rattle.resource_set.specs.declared.node.Resources.{Resources}
use Rattle.resource_set.specs.declared.faults.RFault.{RFault}
use Rattle.resource_set.specs.declared.faults.RFault.TheVariants.{BadField, HostsDiffer, HostTwice}
use Rattle.resource_set.specs.declared.faults.RKey.TheVariants.{Rank, Core, Gpu, Nodelist}
use Rattle.resource_set.specs.Units.{AreHosts, AreDistinct, host_names}
use Rattle.resource_set.specs.Reading.{◌>>=◌, as_r, told, ids_of, ids_at, ids_if_there, all_hosts, entry_of, entries_in, ranks_of, nodes_with, are_distinct, only_if, unless_twice, told_count, nodes_of, executed, resources_of}
use Rattle.resource_set.specs.Writing.{entry_data, entries_data, hosts_data, names_data, unless_empty, framed, data_of, entries_of, AreNamesSpelled, IsSpelled, IsEntrySpelled}
use Rattle.resource_set.proofs.Regroup.{ranks_again, nodes_again, once_again}

-- ---- entries

ids_again : (ids : List ℕ) → IsSpelled ids → ids_of (printed ids) ≡ Some ids
ids_again ids s = ap (λ f. cond (is_none f) (Some (spelled (printed ids))) None) s.sound ∙ ap Some s.same

nothing_spelled : spelled [] ≡ []
unfolding spelled
nothing_spelled = no_ids [] refl

is_nothing : (text : List ℕ) → eqb (length text) 0 ≡ true → text ≡ []
is_nothing [] e = refl
is_nothing (b ∷ bs) e = let no : suc (length bs) ≡ 0 = grind (arith, nat_tests) in absurd (omega arith)

gpus_step : (b : Bool) (gpus : List ℕ) (core : Data) → eqb (length (printed gpus)) 0 ≡ b → IsSpelled gpus
    → ids_if_there (codes "gpu") (object (member (codes "core") core (cond b no_members (member (codes "gpu") (string (printed gpus)) no_members)))) ≡ Some gpus
gpus_step true gpus core e s = ap Some (sym (sym s.same ∙ ap spelled (is_nothing (printed gpus) e) ∙ nothing_spelled))
gpus_step false gpus core e s = ids_again gpus s

gpus_again : (gpus : List ℕ) (core : Data) → IsSpelled gpus → ids_if_there (codes "gpu") (object (member (codes "core") core (unless_empty (codes "gpu") (printed gpus) no_members))) ≡ Some gpus
gpus_again gpus core s = gpus_step (eqb (length (printed gpus)) 0) gpus core refl s

entry_again : (e : Entry) → IsEntrySpelled e → entry_of (entry_data e) ≡ Ok e
unfolding entry_of
entry_again e s =
    let children : Data = object (member (codes "core") (string (printed e.cores)) (unless_empty (codes "gpu") (printed e.gpus) no_members)) in
    ap (λ o. ok_or o (BadField Rank) >>= λ ranks. ok_or (ids_at (codes "core") children) (BadField Core) >>= λ cores. ok_or (ids_if_there (codes "gpu") children) (BadField Gpu) >>= λ gpus. Ok (let x : Entry = record { ranks = ranks; cores = cores; gpus = gpus } in x)) (ids_again e.ranks s.ranks)
    ∙ ap (λ o. ok_or o (BadField Core) >>= λ cores. ok_or (ids_if_there (codes "gpu") children) (BadField Gpu) >>= λ gpus. Ok (let x : Entry = record { ranks = e.ranks; cores = cores; gpus = gpus } in x)) (ids_again e.cores s.cores)
    ∙ ap (λ o. ok_or o (BadField Gpu) >>= λ gpus. Ok (let x : Entry = record { ranks = e.ranks; cores = e.cores; gpus = gpus } in x)) (gpus_again e.gpus (string (printed e.cores)) s.gpus)

entries_again : (es : List Entry) → AllByRecursion IsEntrySpelled es → entries_in (items_of (map entry_data es)) ≡ Ok es
entries_again [] a = refl
entries_again (e ∷ more) a = ap (λ r. r >>= λ x. entries_in (items_of (map entry_data more)) >>= λ l. Ok (x ∷ l)) (entry_again e a.0) ∙ ap (λ r. r >>= λ l. Ok (e ∷ l)) (entries_again more a.1)

-- ---- hosts

hosts_again : (nodes : List Node) → AreNamesSpelled nodes → all_hosts (hosts_data (host_names nodes)) ≡ Some (host_names nodes)
hosts_again [] f = refl
hosts_again (n ∷ ns) f = ap (λ o. option_and_then (λ (l : List (List ℕ)). option_map (λ more. l ++ more) (Some [])) o) (f (λ e. cc)) ∙ ap Some (append-nil (host_names (n ∷ ns)))

test_step : (x : List ℕ) (xs : List (List ℕ)) (k : ℕ) (d : List ℕ) → All (λ y. x ≢ y) xs → k < length xs → bytes_eq x (get_or xs k d) ≡ false
test_step x xs k d a h = go (bytes_eq x (get_or xs k d)) (λ t. a k d h ((bytes_eq-Decides x (get_or xs k d)).0 t))
  where
    go : (b : Bool) → (b ≡ true → ⊥) → b ≡ false
    go true f = absurd (f refl)
    go false f = refl

distinct_test : (xs : List (List ℕ)) → AreDistinct xs → are_distinct xs ≡ true
distinct_test [] a = refl
distinct_test (x ∷ xs) a = ap₂ (λ p q. not p && q) (list_any_none (bytes_eq x) xs (λ k d h. test_step x xs k d a.0 h)) (distinct_test xs a.1)

as_many : (nodes : List Node) → AreHosts nodes → eqb (length (ranks_of (entries_of nodes))) (length (host_names nodes)) ≡ true
as_many nodes a =
    let r : length (ranks_of (entries_of nodes)) ≡ length nodes = ap length (ranks_again nodes a) ∙ length-map nodes (λ (n : Node). n.rank) in
    let h : length (host_names nodes) ≡ length nodes = length-map nodes (λ (n : Node). n.host) in
    let same : length (ranks_of (entries_of nodes)) ≡ length (host_names nodes) = omega arith in
    grind (arith, nat_tests)

placed_again : (nodes : List Node) → AreHosts nodes → nodes_of (entries_of nodes) (host_names nodes) ≡ Ok nodes
unfolding nodes_of
placed_again nodes a =
    let entries = entries_of nodes in
    let hosts = host_names nodes in
    let fault : RFault = HostsDiffer (told_count (length (ranks_of entries))) (told_count (length hosts)) in
    ap (λ o. unless_twice o >>= λ once. only_if (eqb (length (ranks_of entries)) (length hosts)) fault (ranks_of entries) >>= λ ranks. only_if (are_distinct hosts) HostTwice (nodes_with entries ranks hosts)) (once_again nodes a)
    ∙ ap (λ b. only_if b fault (ranks_of entries) >>= λ ranks. only_if (are_distinct hosts) HostTwice (nodes_with entries ranks hosts)) (as_many nodes a)
    ∙ ap (λ b. only_if b HostTwice (nodes_with entries (ranks_of entries) hosts)) (distinct_test hosts a.hosts)
    ∙ ap (λ rs. Ok (nodes_with entries rs hosts)) (ranks_again nodes a) ∙ ap Ok (nodes_again nodes a)

-- ---- all of it

executed_again : (entries_told names_told : Items) (start end : ℕ) (entries : List Entry) (hosts : List (List ℕ)) (nodes : List Node) → entries_in entries_told ≡ Ok entries → all_hosts names_told ≡ Some hosts → nodes_of entries hosts ≡ Ok nodes
    → executed (object (member (codes "R_lite") (array entries_told) (member (codes "expiration") (number (unsigned end)) (member (codes "nodelist") (array names_told) (member (codes "starttime") (number (unsigned start)) no_members)))))
    ≡ Ok (let r : Resources = record { nodes = nodes; starttime = start; expiration = end } in r)
unfolding executed
executed_again entries_told names_told start end entries hosts nodes e h n =
    ap (λ r. r >>= λ es. ok_or (all_hosts names_told) (BadField Nodelist) >>= λ ns. nodes_of es ns >>= λ ms. Ok (let x : Resources = record { nodes = ms; starttime = start; expiration = end } in x)) e
    ∙ ap (λ o. ok_or o (BadField Nodelist) >>= λ ns. nodes_of entries ns >>= λ ms. Ok (let x : Resources = record { nodes = ms; starttime = start; expiration = end } in x)) h
    ∙ ap (λ r. r >>= λ ms. Ok (let x : Resources = record { nodes = ms; starttime = start; expiration = end } in x)) n

resources_again : (r : Resources) → AreHosts r.nodes → AllByRecursion IsEntrySpelled (entries_of r.nodes) → AreNamesSpelled r.nodes → resources_of (data_of r) ≡ Ok r
unfolding resources_of data_of
resources_again r a s f = executed_again (items_of (map entry_data (entries_of r.nodes))) (hosts_data (host_names r.nodes)) r.starttime r.expiration (entries_of r.nodes) (host_names r.nodes) r.nodes
    (entries_again (entries_of r.nodes) s) (hosts_again r.nodes f) (placed_again r.nodes a)

-- what is read again as the value of resources tells them
pub told_again : (text : List ℕ) (d : Data) (r : Resources) → reading text ≡ Ok d → d ≡ data_of r → AreHosts r.nodes → AllByRecursion IsEntrySpelled (entries_of r.nodes) → AreNamesSpelled r.nodes → told text ≡ Ok r
told_again text d r e is a s f = ap (λ x. as_r x >>= resources_of) e ∙ ap resources_of is ∙ resources_again r a s f

-- ---- the value

valid_children : (b : Bool) (core gpu : List ℕ) → IsValid (object (member (codes "core") (string core) (cond b no_members (member (codes "gpu") (string gpu) no_members))))
valid_children true core gpu = (tt, tt, tt)
valid_children false core gpu = (refl, tt, (tt, tt, tt))

valid_entries : (es : List Entry) → AreValid (items_of (map entry_data es))
valid_entries [] = tt
valid_entries (e ∷ more) = ((refl, valid_children (eqb (length (printed e.gpus)) 0) (printed e.cores) (printed e.gpus), (tt, tt, tt)), valid_entries more)

valid_hosts : (hosts : List (List ℕ)) → AreValid (hosts_data hosts)
valid_hosts [] = tt
valid_hosts (n ∷ ns) = (tt, tt)

pub data_valid : (r : Resources) → r.starttime < 2 ^ 64 → r.expiration < 2 ^ 64 → IsValid (data_of r)
unfolding data_of
data_valid r s x = (refl, (refl, valid_entries (entries_of r.nodes), (refl, x, (refl, valid_hosts (host_names r.nodes), (tt, s, tt)))), (tt, lit< tt, tt))

flat_children : (b : Bool) (core gpu : List ℕ) → depth (object (member (codes "core") (string core) (cond b no_members (member (codes "gpu") (string gpu) no_members)))) ≤ 1
flat_children true core gpu = omega arith
flat_children false core gpu = omega arith

flat_entries : (es : List Entry) → items_depth (items_of (map entry_data es)) ≤ 2
flat_entries [] = omega arith
flat_entries (e ∷ more) = omega (arith, flat_entries more, flat_children (eqb (length (printed e.gpus)) 0) (printed e.cores) (printed e.gpus))

flat_hosts : (hosts : List (List ℕ)) → items_depth (hosts_data hosts) ≤ 0
flat_hosts [] = omega arith
flat_hosts (n ∷ ns) = omega arith

pub data_flat : (r : Resources) → depth (data_of r) ≤ max_depth
unfolding data_of
data_flat r = omega (arith, flat_entries (entries_of r.nodes), flat_hosts (host_names r.nodes))

pub data_is : (d entries hosts : Data) (r : Resources) → d ≡ framed entries hosts r.starttime r.expiration → entries ≡ entries_data r.nodes → hosts ≡ names_data r.nodes → d ≡ data_of r
unfolding data_of
data_is d entries hosts r is e h = is ∙ ap₂ (λ x y. framed x y r.starttime r.expiration) e h

-- ---- on results

pub if_ok : {X E : Type 0} (r : Result X E) (P Q : X → Type 0) → ((x : X) → P x → Q x) → IfOk r P → IfOk r Q
if_ok (Ok x) P Q f h = f x h
if_ok (Err e) P Q f h = tt
