-- The text of the resources that first fit finds tells them, where hosts have names of hosts.
use Rattle.std.proofs.Common.{◌≡◌, ◌≢◌, ℕ, suc, ◌+◌, ◌-◌, ◌*◌, ◌<◌, ◌≤◌, ◌^◌, Bool, true, false, cond, inl, inr, List, [], ◌∷◌, ◌++◌, length, map, filter, Option, Some, None, Ok, is_none, refl, sym, ap, ap₂, ◌∙◌, subst, arith, append-nil, codes}
use Rattle.std.specs.Prelude.{◌==◌, if◌then◌else◌}
use Rattle.std.specs.List.{fold, range_with_len, AllByRecursion as Each}
use Rattle.std.specs.List.Sorted.{IsStrictlyIncreasing}
use Rattle.std.specs.Str.{IsUtf8}
use Rattle.std.proofs.lemmas.Bool.{le-ltb}
use Rattle.std.proofs.lemmas.Bool.Decides.{eqb_tells}
use Rattle.std.proofs.lemmas.List.{length-map}
use Rattle.std.proofs.lemmas.List.Elements.{All-map}
use Rattle.json.proofs.Printed.Utf8.{are_ascii, IsUtf8-are_ascii}
use Rattle.serde_json.specs.Data.{string, no_members, member}
use Rattle.serde_json.specs.View.{items_of}
use Rattle.fl_json.specs.Reading.{reading}
use Rattle.fl_json.proofs.Canonical.{canonical_reading}
use Rattle.event_log.proofs.JsonTexts.{text_back}
use Rattle.idset.specs.Ranges.{AreApart}
use Rattle.idset.specs.Runs.{onto_runs, printed, runs}
use Rattle.idset.specs.declared.ranges.IdRange.{IdRange}
use Rattle.idset.proofs.Rereads.{read_again, sound_again}
use Rattle.idset.proofs.Spans.{ids_in-spans, spans}
use Rattle.hostlist.specs.Names.{AreHostNames}
use Rattle.hostlist.specs.declared.faults.HostFault.TheVariants.{TooMany}
use Rattle.hostlist.proofs.RoundTrip.{canonical_spells}
use Rattle.job_rules.specs.Fits.{AreWithin, HasIdSets, IsGrant, free_of, lowest, nodes_of, without_nodes}
use Rattle.job_rules.specs.Worths.{give_as, wanted, worth}
use Rattle.job_rules.proofs.Among.{all_at, among_map, each_at, each_from}
use Rattle.job_rules.proofs.Counts.{enough, picks}
use Rattle.job_rules.proofs.Sets.{among_picked}
use Rattle.job_spec.specs.declared.spec.JobSpec.{JobSpec}
use Rattle.graph_match.proofs.Fitting.{picks_within}
use Rattle.graph_match.proofs.Named.{names_within}
use Rattle.graph_match.proofs.Spots.{Rising, rising_earlier, rising_length, rising_of, rising_set, rising_take}
use Rattle.resource_set.specs.Reading.{told}
use Rattle.resource_set.specs.Units.{AreHosts, host_names}
use Rattle.resource_set.specs.Writing.{AreNamesSpelled, IsEntrySpelled, IsSpelled, added, data_of, entries_of, entry_data, fits_in, hosts_data, r_text, unless_empty, with_node}
use Rattle.resource_set.specs.declared.entries.Entry.{Entry}
use Rattle.resource_set.specs.declared.node.Node.{Node}
use Rattle.resource_set.specs.declared.node.Resources.{Resources}
use Rattle.resource_set.proofs.Again.{data_flat, data_valid, told_again}
use Rattle.resource_set.proofs.Ascii.{canonical_utf8, printed_utf8}
use Rattle.resource_set.proofs.Canonical.{rising_ranks}
use Rattle.resource_set.proofs.Regroup.{IsRisen, entries_rise}
use Rattle.manager_rules.proofs.Texts.{AreTexts, HaveTexts, IsText, text_utf8}
use Rattle.run_laws.specs.Reserved.{IsNamed}
use Rattle.run_laws.proofs.Over.{ends_small}
use Rattle.run_laws.proofs.Ticks.{TellsWhatFits}

-- ---- rising ids are spelled

one_id : (x : ℕ) → range_with_len x (x + 1 - x) ≡ x ∷ []
one_id x = let one : x + 1 - x ≡ 1 = omega arith in ap (range_with_len x) one

-- the runs of rising ids are apart, and have these ids
abbrev AreRuns : ℕ → List IdRange → List ℕ → Type 0
AreRuns n rs ids = AreApart n rs × (spans rs ≡ ids)

onto : (n x : ℕ) (xs : List ℕ) (rs : List IdRange) → n ≤ x → x < 65536 → AreRuns (x + 1) rs xs → AreRuns n (onto_runs x rs) (x ∷ xs)
onto n x xs [] low small r = ((low, record { some = omega arith; small = small }, tt), append-nil (range_with_len x (x + 1 - x)) ∙ one_id x ∙ ap (λ ys. x ∷ ys) r.1)
onto n x xs (r ∷ rs) low small (apart, e) = elim (eqb_tells r.first (x + 1)) [
  | inl t ↦ subst (λ b. AreRuns n (if b then record { first = x; last = r.last } ∷ rs else record { first = x; last = x } ∷ r ∷ rs) (x ∷ xs)) (sym t.0) (longer t.1)
  | inr f ↦ subst (λ b. AreRuns n (if b then record { first = x; last = r.last } ∷ rs else record { first = x; last = x } ∷ r ∷ rs) (x ∷ xs)) (sym f.0) (new f.1)
]
  where
    longer : r.first ≡ x + 1 → AreRuns n (record { first = x; last = r.last } ∷ rs) (x ∷ xs)
    longer next =
        let some = apart.1.some in
        let low_last = apart.1.small in
        let count : r.last + 1 - x ≡ suc (r.last + 1 - r.first) = omega (arith, next, some) in (
          (low, record { some = omega (arith, next, some); small = low_last }, apart.2),
          ap (λ n. range_with_len x n ++ spans rs) count ∙ ap (λ f. x ∷ (range_with_len f (r.last + 1 - r.first) ++ spans rs)) (sym next) ∙ ap (λ ys. x ∷ ys) e,
        )

    new : r.first ≢ x + 1 → AreRuns n (record { first = x; last = x } ∷ r ∷ rs) (x ∷ xs)
    new other =
        let first = apart.0 in
        let far : x + 2 ≤ r.first = omega (arith, first, other) in
        ((low, record { some = omega arith; small = small }, (far, apart.1, apart.2)), ap (λ ys. ys ++ spans (r ∷ rs)) (one_id x) ∙ ap (λ ys. x ∷ ys) e)

are_runs : (n : ℕ) (ids : List ℕ) → Rising n ids → AreRuns n (runs ids) ids
are_runs n [] r = (tt, refl)
are_runs n (x ∷ xs) r = onto n x xs (runs xs) r.0 r.1 (are_runs (x + 1) xs r.2)

spelled : (ids : List ℕ) → Rising 0 ids → IsSpelled ids
unfolding printed
spelled ids r =
    let a = are_runs 0 ids r in
    record { sound = sound_again (runs ids) a.0; same = read_again (runs ids) a.0 ∙ ids_in-spans (runs ids) a.0 ∙ a.1 }

-- ---- what first fit finds has rising ids

rising_filter : (p : ℕ → Bool) (n : ℕ) (xs : List ℕ) → Rising n xs → Rising n (filter p xs)
rising_filter p n [] r = tt
rising_filter p n (x ∷ xs) r = at (p x) (rising_filter p (x + 1) xs r.2)
  where
    at : (b : Bool) → Rising (x + 1) (filter p xs) → Rising n (cond b (x ∷ filter p xs) (filter p xs))
    at true more = (r.0, r.1, more)
    at false more = rising_earlier n (x + 1) (filter p xs) (omega (arith, r.0)) more

abbrev HasRising : Node → Type 0
HasRising node = Rising 0 node.cores × Rising 0 node.gpus

left_rising : (taken : List Node) (g : Node) → HasIdSets g → HasRising (without_nodes taken g)
left_rising taken g sets = (rising_filter _ 0 g.cores (rising_set g.cores sets.0), rising_filter _ 0 g.gpus (rising_set g.gpus sets.1))

lowest_rising : (spec : JobSpec) (k : ℕ) (f : Node) → HasRising f → HasRising (lowest spec k f)
lowest_rising spec k f h = (rising_take (k * spec.cores) 0 f.cores h.0, rising_take (k * spec.gpus) 0 f.gpus h.1)

give_rising : (o : Option ℕ) (spec : JobSpec) (k : ℕ) (f : Node) → HasRising f → HasRising (give_as o spec k f)
give_rising None spec k f h = lowest_rising spec k f h
give_rising (Some count) spec k f h = at spec.exclusive
  where
    at : (b : Bool) → HasRising (if b then f else lowest spec spec.slots f)
    at true = h
    at false = lowest_rising spec spec.slots f h

picks_rising : (spec : JobSpec) (grant taken : List Node) (left : ℕ) → IsGrant grant → Each HasRising (picks spec grant left (map (without_nodes taken) grant))
picks_rising spec grant taken left is = each_from HasRising (picks spec grant left (map (without_nodes taken) grant)) (λ node i.
    let hit = among_picked (worth spec grant) (give_as spec.nodes spec) left (map (without_nodes taken) grant) node i in
    let from = among_map (without_nodes taken) grant hit.0 hit.2 in
    subst HasRising hit.3 (give_rising spec.nodes spec hit.1 hit.0 (subst HasRising from.2 (left_rising taken from.0 (each_at HasIdSets grant from.0 is.sets from.1)))))

-- ---- so their entries are spelled

abbrev KeepsRising : Entry → Type 0
KeepsRising e = Rising 0 e.cores × Rising 0 e.gpus

with_rising : (es : List Entry) (node : Node) → HasRising node → Each KeepsRising es → Each KeepsRising (with_node es node)
with_rising [] node h all = (h, tt)
with_rising (e ∷ more) node h all = at (fits_in node e) (with_rising more node h all.1)
  where
    at : (b : Bool) → Each KeepsRising (with_node more node) → Each KeepsRising (if b then added node e ∷ more else e ∷ with_node more node)
    at true rest = all
    at false rest = (all.0, rest)

entries_rising : (nodes : List Node) (es : List Entry) → Each HasRising nodes → Each KeepsRising es → Each KeepsRising (fold with_node es nodes)
entries_rising [] es h all = all
entries_rising (node ∷ nodes) es h all = entries_rising nodes (with_node es node) h.1 (with_rising es node h.0 all)

entries_spelled : (nodes : List Node) → AreHosts nodes → Each HasRising nodes → Each IsEntrySpelled (entries_of nodes)
entries_spelled nodes hosts rising = each_from IsEntrySpelled (entries_of nodes) (λ e i.
    let kept = each_at KeepsRising (entries_of nodes) e (entries_rising nodes [] rising tt) i in
    let risen = each_at IsRisen (entries_of nodes) e (entries_rise nodes hosts) i in
    record {
      ranks = spelled e.ranks (rising_of 0 e.ranks (λ w. omega arith) (all_at (λ x. IsStrictlyIncreasing x.ranks) (entries_of nodes) e (rising_ranks nodes hosts) i) risen.small);
      cores = spelled e.cores kept.0;
      gpus = spelled e.gpus kept.1;
    })

names_spelled : (nodes : List Node) → AreHosts nodes → AreHostNames (host_names nodes) → AreNamesSpelled nodes
names_spelled nodes hosts named some =
    let again = canonical_spells (host_names nodes) named in
    let rising = rising_of 0 (map (λ node. node.rank) nodes) (λ w. omega arith) hosts.rising (All-map (λ id. id < 65536) (λ (node : Node). node.rank) nodes hosts.small) in
    let count : length (map (λ (node : Node). node.rank) nodes) + 0 ≤ 65536 = rising_length 0 (map (λ node. node.rank) nodes) (omega arith) rising in
    let ranks : length (map (λ (node : Node). node.rank) nodes) ≡ length nodes = length-map nodes (λ (node : Node). node.rank) in
    let names : length (host_names nodes) ≡ length nodes = length-map nodes (λ (node : Node). node.host) in
    let few : length (host_names nodes) ≤ 65536 = omega (arith, count, ranks, names) in
    ap₂ (λ fault hosts. if is_none fault then Some hosts else None) (again.fault ∙ ap (λ b. cond b (Some TooMany) None) (le-ltb 65536 (length (host_names nodes)) few)) again.hosts

-- ---- the text is UTF-8

ascii : (t : List ℕ) → are_ascii t ≡ true → IsUtf8 t
ascii = IsUtf8-are_ascii

gpus_text : (text : List ℕ) → IsUtf8 text → HaveTexts (unless_empty (codes "gpu") text no_members)
gpus_text text h = at (length text == 0)
  where
    at : (b : Bool) → HaveTexts (if b then no_members else member (codes "gpu") (string text) no_members)
    at true = tt
    at false = (ascii _ refl, h, tt)

entry_text : (e : Entry) → IsEntrySpelled e → IsText (entry_data e)
entry_text e s = (
  ascii _ refl,
  (ascii _ refl, printed_utf8 e.cores s.cores, gpus_text (printed e.gpus) (printed_utf8 e.gpus s.gpus)),
  (ascii _ refl, printed_utf8 e.ranks s.ranks, tt),
)

entries_text : (es : List Entry) → Each IsEntrySpelled es → AreTexts (items_of (map entry_data es))
entries_text [] h = tt
entries_text (e ∷ es) h = (entry_text e h.0, entries_text es h.1)

hosts_text : (names : List (List ℕ)) → AreHostNames names → AreTexts (hosts_data names)
hosts_text [] h = tt
hosts_text (name ∷ names) h = (canonical_utf8 (name ∷ names) h, tt)

data_text : (r : Resources) → Each IsEntrySpelled (entries_of r.nodes) → AreHostNames (host_names r.nodes) → r.starttime < 2 ^ 64 → r.expiration < 2 ^ 64 → IsText (data_of r)
unfolding data_of
data_text r entries names start end = (
  ascii _ refl,
  (ascii _ refl, entries_text (entries_of r.nodes) entries, (ascii _ refl, end, (ascii _ refl, hosts_text (host_names r.nodes) names, (ascii _ refl, start, tt)))),
  (ascii _ refl, omega arith, tt),
)

-- ---- it tells them

written : (r : Resources) → AreHosts r.nodes → Each HasRising r.nodes → AreHostNames (host_names r.nodes) → r.starttime < 2 ^ 64 → r.expiration < 2 ^ 64 → told (r_text r) ≡ Ok r
written r hosts rising named start end =
    let entries = entries_spelled r.nodes hosts rising in
    let valid = data_valid r start end in
    let read : reading (r_text r) ≡ Ok (data_of r) = canonical_reading (data_of r) valid (text_utf8 (data_of r) (data_text r entries named start end)) (text_back (data_of r) valid (data_flat r)) in
    told_again (r_text r) (data_of r) r read refl hosts entries (names_spelled r.nodes hosts named)

pub tells_what_fits : (grant : Resources) → IsGrant grant.nodes → IsNamed grant → TellsWhatFits grant
tells_what_fits grant is named spec holds now r low fit start end =
    let free = free_of grant.nodes holds in
    let found = (enough spec grant.nodes free r.nodes fit).1 in
    let within : AreWithin r.nodes free = subst (λ ns. AreWithin ns free) (sym found) (picks_within spec grant.nodes (nodes_of holds) (wanted spec) is) in
    written r within.hosts (subst (Each HasRising) (sym found) (picks_rising spec grant.nodes (nodes_of holds) (wanted spec) is)) (names_within grant.nodes holds r.nodes named.hosts within.inside)
    (subst (λ n. n < 2 ^ 64) (sym start) low) (subst (λ n. n < 2 ^ 64) (sym end) (ends_small spec now grant.expiration named.end))
