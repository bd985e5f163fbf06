-- Texts of ids and of hosts are ASCII, and so UTF-8.
use Rattle.std.proofs.Common.{◌≡◌, ℕ, zero, suc, ◌-◌, ◌<◌, Bool, true, false, cond, not, eqb, List, [], ◌∷◌, ◌++◌, length, get_or, map, arith}
use Rattle.std.specs.Fmt.{decimal}
use Rattle.std.specs.List.{All, AllByRecursion, list_all, join_with_byte}
use Rattle.std.specs.Str.{IsAscii, IsUtf8}
use Rattle.std.proofs.lemmas.Bool.Decides.{nat_tests}
use Rattle.std.proofs.lemmas.Fmt.{IsAscii-decimal}
use Rattle.std.proofs.lemmas.List.Elements.{recursion_from_All}
use Rattle.std.proofs.lemmas.Str.{IsUtf8-from_ascii, IsAscii-append, IsAscii-take, IsAscii-drop}
use Rattle.std.proofs.lemmas.Str.Ascii.{IsAscii-nil, IsAscii-cons}
use Rattle.idset.specs.Ids.{IsIdSet}
use Rattle.idset.specs.Runs.{runs, range_text, printed}
use Rattle.idset.specs.Text.{spelled, body, items, range_of}
use Rattle.idset.specs.declared.ranges.IdRange.{IdRange}
use Rattle.idset.proofs.Sets.{is_set}
use Rattle.hostlist.specs.Names.{is_name_byte, is_host_name, AreHostNames, number_digits, number_prefix, digits_len, shares_prefix, follows}
use Rattle.hostlist.specs.Printing.{onto_chunks, chunks_by, first_name, last_name, run_text, group_text, canonical}
use Rattle.resource_set.specs.Writing.{IsSpelled}
use Rattle.resource_set.proofs.Spans.{IsSmallRange, small_runs}
use Rattle.resource_set.proofs.Booleans.{both}

joined_ascii : (parts : List (List ℕ)) → AllByRecursion IsAscii parts → IsAscii (join_with_byte 44 parts)
joined_ascii [] a = IsAscii-nil
joined_ascii (x ∷ []) a = a.0
joined_ascii (x ∷ y ∷ xs) a = IsAscii-append x (44 ∷ join_with_byte 44 (y ∷ xs)) a.0 (IsAscii-cons 44 (join_with_byte 44 (y ∷ xs)) (omega arith) (joined_ascii (y ∷ xs) a.1))

-- ---- ids

range_ascii : (r : IdRange) → IsSmallRange r → IsAscii (range_text r)
range_ascii r s = go (eqb r.first r.last)
  where
    first : IsAscii (decimal r.first)
    first = IsAscii-decimal r.first (omega (arith, s.0, s.1))

    last : IsAscii (decimal r.last)
    last = IsAscii-decimal r.last (omega (arith, s.1))

    go : (b : Bool) → IsAscii (cond b (decimal r.first) (decimal r.first ++ 45 ∷ decimal r.last))
    go true = first
    go false = IsAscii-append (decimal r.first) (45 ∷ decimal r.last) first (IsAscii-cons 45 (decimal r.last) (omega arith) last)

ranges_ascii : (rs : List IdRange) → AllByRecursion IsSmallRange rs → AllByRecursion IsAscii (map range_text rs)
ranges_ascii [] a = tt
ranges_ascii (r ∷ rs) a = (range_ascii r a.0, ranges_ascii rs a.1)

printed_ascii : (ids : List ℕ) → All (λ id. id < 65536) ids → IsAscii (printed ids)
unfolding printed
printed_ascii ids a = joined_ascii (map range_text (runs ids)) (ranges_ascii (runs ids) (recursion_from_All IsSmallRange (runs ids) (small_runs ids a)))

a_set : (ids : List ℕ) → IsSpelled ids → IsIdSet ids
unfolding spelled
a_set ids s = is_set (map range_of (items (body (printed ids)))) ids s.same

-- the text of ids that are spelled by it
pub printed_utf8 : (ids : List ℕ) → IsSpelled ids → IsUtf8 (printed ids)
printed_utf8 ids s = IsUtf8-from_ascii (printed ids) (printed_ascii ids (a_set ids s).below)

-- ---- hosts

small_byte : (b : ℕ) → is_name_byte b ≡ true → b < 128
small_byte b h = grind (arith, nat_tests)

bytes_ascii : (name : List ℕ) → list_all is_name_byte name ≡ true → IsAscii name
bytes_ascii [] h = IsAscii-nil
bytes_ascii (b ∷ bs) h = let m = both (is_name_byte b) (list_all is_name_byte bs) h in IsAscii-cons b bs (small_byte b m.0) (bytes_ascii bs m.1)

names_ascii : (names : List (List ℕ)) → AreHostNames names → AllByRecursion IsAscii names
names_ascii [] h = tt
names_ascii (n ∷ ns) h = let m = both (is_host_name n) (list_all is_host_name ns) h in (bytes_ascii n (both (not_empty n) (list_all is_name_byte n) m.0).1, names_ascii ns m.1)
  where
    not_empty : List ℕ → Bool
    not_empty n = not (eqb (length n) 0)

onto_ascii : (goes : List ℕ → List ℕ → Bool) (x : List ℕ) (parts : List (List (List ℕ))) → IsAscii x → AllByRecursion (AllByRecursion IsAscii) parts → AllByRecursion (AllByRecursion IsAscii) (onto_chunks goes x parts)
onto_ascii goes x [] h a = ((h, tt), tt)
onto_ascii goes x ([] ∷ more) h a = ((h, tt), a.1)
onto_ascii goes x ((y ∷ ys) ∷ more) h a = go (goes x y)
  where
    go : (b : Bool) → AllByRecursion (AllByRecursion IsAscii) (cond b ((x ∷ y ∷ ys) ∷ more) ((x ∷ []) ∷ (y ∷ ys) ∷ more))
    go true = ((h, a.0), a.1)
    go false = ((h, tt), a)

chunks_ascii : (goes : List ℕ → List ℕ → Bool) (names : List (List ℕ)) → AllByRecursion IsAscii names → AllByRecursion (AllByRecursion IsAscii) (chunks_by goes names)
chunks_ascii goes [] a = tt
chunks_ascii goes (n ∷ ns) a = onto_ascii goes n (chunks_by goes ns) a.0 (chunks_ascii goes ns a.1)

at_ascii : (names : List (List ℕ)) (i : ℕ) → AllByRecursion IsAscii names → IsAscii (get_or names i [])
at_ascii [] i a = IsAscii-nil
at_ascii (n ∷ ns) zero a = a.0
at_ascii (n ∷ ns) (suc i) a = at_ascii ns i a.1

digits_ascii : (name : List ℕ) → IsAscii name → IsAscii (number_digits name)
digits_ascii name a = IsAscii-drop name (length name - digits_len name) a

run_ascii : (run : List (List ℕ)) → AllByRecursion IsAscii run → IsAscii (run_text run)
unfolding run_text
run_ascii run a = go (eqb (length run) 1) (digits_ascii (first_name run) (at_ascii run 0 a)) (digits_ascii (last_name run) (at_ascii run (length run - 1) a))
  where
    go : (b : Bool) → IsAscii (number_digits (first_name run)) → IsAscii (number_digits (last_name run)) → IsAscii (cond b (number_digits (first_name run)) (number_digits (first_name run) ++ 45 ∷ number_digits (last_name run)))
    go true f l = f
    go false f l = IsAscii-append (number_digits (first_name run)) (45 ∷ number_digits (last_name run)) f (IsAscii-cons 45 (number_digits (last_name run)) (omega arith) l)

runs_ascii : (parts : List (List (List ℕ))) → AllByRecursion (AllByRecursion IsAscii) parts → AllByRecursion IsAscii (map run_text parts)
runs_ascii [] a = tt
runs_ascii (p ∷ ps) a = (run_ascii p a.0, runs_ascii ps a.1)

group_ascii : (group : List (List ℕ)) → AllByRecursion IsAscii group → IsAscii (group_text group)
unfolding group_text
group_ascii group a = go (eqb (length group) 1) (at_ascii group 0 a) (joined_ascii (map run_text (chunks_by follows group)) (runs_ascii (chunks_by follows group) (chunks_ascii follows group a)))
  where
    go : (b : Bool) → IsAscii (first_name group) → IsAscii (join_with_byte 44 (map run_text (chunks_by follows group))) → IsAscii (cond b (first_name group) (number_prefix (first_name group) ++ 91 ∷ join_with_byte 44 (map run_text (chunks_by follows group)) ++ 93 ∷ []))
    go true f j = f
    go false f j = IsAscii-append (number_prefix (first_name group) ++ 91 ∷ join_with_byte 44 (map run_text (chunks_by follows group))) (93 ∷ [])
        (IsAscii-append (number_prefix (first_name group)) (91 ∷ join_with_byte 44 (map run_text (chunks_by follows group))) (IsAscii-take (first_name group) (length (first_name group) - digits_len (first_name group)) f)
        (IsAscii-cons 91 (join_with_byte 44 (map run_text (chunks_by follows group))) (omega arith) j)) (IsAscii-cons 93 [] (omega arith) IsAscii-nil)

groups_ascii : (parts : List (List (List ℕ))) → AllByRecursion (AllByRecursion IsAscii) parts → AllByRecursion IsAscii (map group_text parts)
groups_ascii [] a = tt
groups_ascii (p ∷ ps) a = (group_ascii p a.0, groups_ascii ps a.1)

-- the text of hosts
pub canonical_utf8 : (names : List (List ℕ)) → AreHostNames names → IsUtf8 (canonical names)
unfolding canonical
canonical_utf8 names h = IsUtf8-from_ascii (canonical names) (joined_ascii (map group_text (chunks_by shares_prefix names)) (groups_ascii (chunks_by shares_prefix names) (chunks_ascii shares_prefix names (names_ascii names h))))
