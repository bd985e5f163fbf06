-- The text of an object is read again as the same value.
use Rattle.std.proofs.Common.{◌≡◌, ℕ, suc, ◌<◌, ◌≤◌, ◌^◌, Bool, true, false, lit<, List, [], ◌∷◌, ◌++◌, map, Some, decimal, refl, sym, ap, ap₂, ◌∙◌, subst, arith, codes, append-nil, Less, Greater, nat_cmp}
use Rattle.std.specs.Prelude.{⊤, max, IfSome, IsTrue, Option, None, Ok, option_map, option_and_then}
use Rattle.std.specs.Fmt.{digits}
use Rattle.std.specs.List.{AllByRecursion}
use Rattle.std.specs.Ordering.{is_lt, ordering_reverse}
use Rattle.std.specs.Cmp.Lexicographic.{slice_cmp}
use Rattle.std.specs.FinMap.Entries as finite
use Rattle.std.specs.Str.{IsUtf8}
use Rattle.std.proofs.lemmas.Cmp.{nat_list_cmp_total}
use Rattle.std.proofs.lemmas.Str.{IsUtf8-append, IsUtf8-nil, IsUtf8-from_ascii}
use Rattle.base64.specs.Engines.{standard}
use Rattle.base64.specs.GeneralPurpose.{encode_of}
use Rattle.base64.proofs.EngineFacts.{IsAscii-encode_of}
use Rattle.fl_digest.specs.declared.BlobRef.{BlobRef}
use Rattle.fl_digest.specs.declared.Digest.{Digest}
use Rattle.fl_digest.specs.declared.Digest.TheVariants as digest
use Rattle.fl_digest.specs.Reference.{reference_text, digest_text, IsWhole, IsWholeDigest}
use Rattle.fl_digest.proofs.References.{digest_is_text}
use Rattle.fl_json.specs.Reading.{reading}
use Rattle.fl_json.specs.Valid.{IsValid}
use Rattle.fl_json.proofs.Canonical.{canonical_reading}
use Rattle.json.specs.Json as json
use Rattle.json.specs.Lex.{tokens}
use Rattle.json.specs.Print.{quoted, IsNumber}
use Rattle.json.specs.Tree as tree
use Rattle.json.proofs.Printed.Decimals.{IsNumber-decimal}
use Rattle.json.proofs.Printed.Tokens.{tokens-print}
use Rattle.json.proofs.Printed.Trees.{ArePrintable-json_tokens, value-json_tokens}
use Rattle.json.proofs.Printed.Utf8.{IsUtf8-are_ascii, IsUtf8-quoted, IsUtf8-boolean}
use Rattle.kvs_txn.proofs.Components.{key_text}
use Rattle.kvs_txn.proofs.Names.{name_utf8}
use Rattle.kvs_txn.specs.Keys.{IsKey}
use Rattle.kvs_txn.specs.Names.{is_name}
use Rattle.kvs_model.specs.Store.{Name, Path}
use Rattle.serde_json.specs.Data.{Num, unsigned, negative, float, Data, null, boolean, number, string, array, object, Items, no_items, item, Members, no_members, member, put, depth, items_depth, members_depth}
use Rattle.serde_json.specs.Read.{number_of, of_json, of_items, of_members, max_depth, read}
use Rattle.serde_json.specs.View.{items_of}
use Rattle.serde_json.specs.Written.{number_text, outline, items_outline, members_outline, comma_if, compact_text, items_text, members_text}
use Rattle.serde_json.proofs.Numbers.{number_of-decimal}
use Rattle.serde_json.proofs.Texts.{print-outline}
use Rattle.tree_rules.specs.Objects.{Tree, val, valref, dir, dirref, symlink, Entries, no_entries, entry, listed, framed, references_data, target_data, tree_data, entries_data, tree_text}
use Rattle.tree_rules.specs.Names.{name_cmp}
use Rattle.tree_objects.specs.Reading.{IsReadable, AreReadable, HasTextNames, HaveTextNames}
use Rattle.tree_objects.proofs.Pairs.{and_parts, less_is}
use Rattle.tree_objects.proofs.Again.{written_valid}

-- ---- values whose only number is 1, whose strings are texts, and whose keys rise

abbrev IsOne : Num → Type 0
IsOne (unsigned n) = n ≡ 1
IsOne (negative z) = ⊥
IsOne (float x) = ⊥

abbrev Above : List ℕ → Members → Type 0
Above k no_members = ⊤
Above k (member l d ms) = (slice_cmp nat_cmp k l ≡ Less) × Above k ms

abbrev mutual
  IsPlain : Data → Type 0
  IsPlain null = ⊤
  IsPlain (boolean b) = ⊤
  IsPlain (number n) = IsOne n
  IsPlain (string s) = IsUtf8 s
  IsPlain (array ds) = ArePlain ds
  IsPlain (object ms) = HavePlain ms

  ArePlain : Items → Type 0
  ArePlain no_items = ⊤
  ArePlain (item d ds) = IsPlain d × ArePlain ds

  HavePlain : Members → Type 0
  HavePlain no_members = ⊤
  HavePlain (member k d ms) = IsUtf8 k × Above k ms × IsPlain d × HavePlain ms

-- ---- the value is that of its outline

abbrev joined : Members → Members → Members
joined no_members ms = ms
joined (member k d fs) ms = member k d (joined fs ms)

joined_none : (fs : Members) → joined fs no_members ≡ fs
joined_none no_members = refl
joined_none (member l e fs) = ap (λ (ms : Members). member l e ms) (joined_none fs)

joined_last : (fs : Members) (k : List ℕ) (d : Data) (ms : Members) → joined (joined fs (member k d no_members)) ms ≡ joined fs (member k d ms)
joined_last no_members k d ms = refl
joined_last (member l e fs) k d ms = ap (λ (xs : Members). member l e xs) (joined_last fs k d ms)

abbrev AllBelow : Members → Members → Type 0
AllBelow no_members ms = ⊤
AllBelow (member l e fs) ms = Above l ms × AllBelow fs ms

below_rest : (fs : Members) (k : List ℕ) (d : Data) (ms : Members) → AllBelow fs (member k d ms) → Above k ms → AllBelow (joined fs (member k d no_members)) ms
below_rest no_members k d ms h a = (a, tt)
below_rest (member l e fs) k d ms h a = (h.0.1, below_rest fs k d ms h.1 a)

put_last : (fs : Members) (k : List ℕ) (d : Data) (ms : Members) → AllBelow fs (member k d ms) → put k d fs ≡ joined fs (member k d no_members)
put_last no_members k d ms h = refl
put_last (member l e fs) k d ms h =
    let above : slice_cmp nat_cmp k l ≡ Greater = nat_list_cmp_total.antisymm k l ∙ ap ordering_reverse h.0.0 in
    rw above (ap (λ (xs : Members). member l e xs) (put_last fs k d ms h.1))

small : (n : ℕ) → n ≡ 1 → n < 2 ^ 64
small n h = subst (λ m. m < 2 ^ 64) (sym h) (lit< tt)

number_again : (n : Num) → IsOne n → option_map number (number_of (number_text n)) ≡ Some (number n)
number_again (unsigned n) h = ap (option_map number) (number_of-decimal n (small n h))
number_again (negative z) h = absurd h
number_again (float x) h = absurd h

mutual
  outline_again : (d : Data) → IsPlain d → of_json (outline d) ≡ Some d
  outline_again null h = refl
  outline_again (boolean b) h = refl
  outline_again (number n) h = number_again n h
  outline_again (string s) h = refl
  outline_again (array ds) h = ap (option_map array) (items_again ds h)
  outline_again (object ms) h = ap (option_map object) (members_again no_members ms h tt)

  items_again : (ds : Items) → ArePlain ds → of_items (items_outline ds) ≡ Some ds
  items_again no_items h = refl
  items_again (item d ds) h =
      ap (option_and_then (λ x. option_map (item x) (of_items (items_outline ds)))) (outline_again d h.0)
      ∙ ap (option_map (item d)) (items_again ds h.1)

  members_again : (fs ms : Members) → HavePlain ms → AllBelow fs ms → of_members (members_outline ms) fs ≡ Some (joined fs ms)
  members_again fs no_members h b = ap Some (sym (joined_none fs))
  members_again fs (member k d ms) h b =
      ap (option_and_then (λ x. of_members (members_outline ms) (put k x fs))) (outline_again d h.2)
      ∙ ap (of_members (members_outline ms)) (put_last fs k d ms b)
      ∙ members_again (joined fs (member k d no_members)) ms h.3 (below_rest fs k d ms b h.1)
      ∙ ap Some (joined_last fs k d ms)

-- ---- the outline's numbers and depth

one_number : (n : Num) → IsOne n → IsNumber (number_text n)
one_number (unsigned n) h = IsNumber-decimal n (small n h)
one_number (negative z) h = absurd h
one_number (float x) h = absurd h

mutual
  outline_numbers : (d : Data) → IsPlain d → tree.HasNumbers (outline d)
  outline_numbers null h = tt
  outline_numbers (boolean b) h = tt
  outline_numbers (number n) h = one_number n h
  outline_numbers (string s) h = tt
  outline_numbers (array ds) h = items_numbers ds h
  outline_numbers (object ms) h = members_numbers ms h

  items_numbers : (ds : Items) → ArePlain ds → tree.ItemsHaveNumbers (items_outline ds)
  items_numbers no_items h = tt
  items_numbers (item d ds) h = (outline_numbers d h.0, items_numbers ds h.1)

  members_numbers : (ms : Members) → HavePlain ms → tree.MembersHaveNumbers (members_outline ms)
  members_numbers no_members h = tt
  members_numbers (member k d ms) h = (outline_numbers d h.2, members_numbers ms h.3)

mutual
  outline_depth : (d : Data) → tree.depth (outline d) ≡ depth d
  outline_depth null = refl
  outline_depth (boolean b) = refl
  outline_depth (number n) = refl
  outline_depth (string s) = refl
  outline_depth (array ds) = ap suc (items_outline_depth ds)
  outline_depth (object ms) = ap suc (members_outline_depth ms)

  items_outline_depth : (ds : Items) → tree.items_depth (items_outline ds) ≡ items_depth ds
  items_outline_depth no_items = refl
  items_outline_depth (item d ds) = ap₂ max (outline_depth d) (items_outline_depth ds)

  members_outline_depth : (ms : Members) → tree.members_depth (members_outline ms) ≡ members_depth ms
  members_outline_depth no_members = refl
  members_outline_depth (member k d ms) = ap₂ max (outline_depth d) (members_outline_depth ms)

-- ---- the text is UTF-8

one_text : (n : Num) → IsOne n → IsUtf8 (number_text n)
unfolding digits
one_text (unsigned n) h = subst (λ m. IsUtf8 (decimal m)) (sym h) (IsUtf8-are_ascii (decimal 1) refl)
one_text (negative z) h = absurd h
one_text (float x) h = absurd h

comma_text : (later : Bool) → IsUtf8 (comma_if later)
comma_text true = IsUtf8-are_ascii (44 ∷ []) refl
comma_text false = IsUtf8-nil

mutual
  plain_text : (d : Data) → IsPlain d → IsUtf8 (compact_text d)
  plain_text null h = IsUtf8-are_ascii (compact_text null) refl
  plain_text (boolean b) h = IsUtf8-boolean b
  plain_text (number n) h = one_text n h
  plain_text (string s) h = IsUtf8-quoted s h
  plain_text (array ds) h = IsUtf8-append (91 ∷ []) (items_text false ds) (IsUtf8-are_ascii (91 ∷ []) refl) (plain_items false ds h)
  plain_text (object ms) h = IsUtf8-append (123 ∷ []) (members_text false ms) (IsUtf8-are_ascii (123 ∷ []) refl) (plain_members false ms h)

  plain_items : (later : Bool) (ds : Items) → ArePlain ds → IsUtf8 (items_text later ds)
  plain_items later no_items h = IsUtf8-are_ascii (93 ∷ []) refl
  plain_items later (item d ds) h =
      IsUtf8-append (comma_if later) (compact_text d ++ items_text true ds) (comma_text later)
      (IsUtf8-append (compact_text d) (items_text true ds) (plain_text d h.0) (plain_items true ds h.1))

  plain_members : (later : Bool) (ms : Members) → HavePlain ms → IsUtf8 (members_text later ms)
  plain_members later no_members h = IsUtf8-are_ascii (125 ∷ []) refl
  plain_members later (member k d ms) h =
      let rest = compact_text d ++ members_text true ms in
      IsUtf8-append (comma_if later) (quoted k ++ 58 ∷ rest) (comma_text later)
      (IsUtf8-append (quoted k) (58 ∷ rest) (IsUtf8-quoted k h.0)
      (IsUtf8-append (58 ∷ []) rest (IsUtf8-are_ascii (58 ∷ []) refl)
      (IsUtf8-append (compact_text d) (members_text true ms) (plain_text d h.2) (plain_members true ms h.3))))

plain_reading : (d : Data) → IsPlain d → IsValid d → depth d ≤ max_depth → reading (compact_text d) ≡ Ok d
plain_reading d p v shallow =
    let same : tokens (compact_text d) ≡ tree.json_tokens (outline d) = ap tokens (sym (print-outline d)) ∙ tokens-print (tree.json_tokens (outline d)) (ArePrintable-json_tokens (outline d) (outline_numbers d p)) in
    let flat : tree.depth (outline d) ≤ max_depth = omega (arith, outline_depth d, shallow) in
    let value : json.value max_depth (tokens (compact_text d)) ≡ Some (outline d, []) =
    ap (json.value max_depth) (same ∙ sym (append-nil (tree.json_tokens (outline d)))) ∙ value-json_tokens (outline d) max_depth [] flat in
    let again : read (compact_text d) ≡ Some d = ap (λ o. option_and_then of_json (option_and_then (λ p. json.if_last p.0 p.1) o)) value ∙ outline_again d p in
    canonical_reading d v (plain_text d p) again

-- ---- objects

digest_utf8 : (d : Digest) → IsWholeDigest d → IsUtf8 (digest_text d)
digest_utf8 (digest.Sha1 bytes) h = digest_is_text (codes "sha1-") bytes (IsUtf8-are_ascii (codes "sha1-") refl) h.1
digest_utf8 (digest.Sha256 bytes) h = digest_is_text (codes "sha256-") bytes (IsUtf8-are_ascii (codes "sha256-") refl) h.1

references_plain : (rs : List BlobRef) → AllByRecursion IsWhole rs → ArePlain (items_of (map (λ r. string (reference_text r)) rs))
references_plain [] h = tt
references_plain (r ∷ rs) h = (digest_utf8 r.digest h.0, references_plain rs h.1)

framed_plain : (kind : List ℕ) (content : Data) → IsUtf8 kind → IsPlain content → IsPlain (framed kind content)
framed_plain kind content k p = (
  IsUtf8-are_ascii (codes "data") refl,
  (refl, (refl, tt)),
  p,
  (IsUtf8-are_ascii (codes "type") refl, (refl, tt), k, (IsUtf8-are_ascii (codes "ver") refl, tt, refl, tt)),
)

above_all : (name : Name) (es : Entries) → IsTrue (finite.below_all name_cmp name (listed es)) → Above name (entries_data es)
above_all name no_entries h = tt
above_all name (entry next tree es) h =
    let parts = and_parts (is_lt (name_cmp name next)) (finite.below_all name_cmp name (listed es)) h in
    (less_is (name_cmp name next) parts.0, above_all name es parts.1)

link_plain : (path : Path) (namespace : Option Name) → IsKey path → IfSome namespace (λ name. IsTrue (is_name name)) → IsPlain (target_data (record { path = path; namespace = namespace }))
link_plain path None key named = (IsUtf8-are_ascii (codes "target") refl, tt, key_text path key.named, tt)
link_plain path (Some name) key named = (IsUtf8-are_ascii (codes "namespace") refl, (refl, tt), name_utf8 name named, (IsUtf8-are_ascii (codes "target") refl, tt, key_text path key.named, tt))

mutual
  tree_plain : (t : Tree) → IsReadable t → HasTextNames t → IsPlain (tree_data t)
  tree_plain (val bytes) h n = framed_plain (codes "val") (string (encode_of standard bytes)) (IsUtf8-are_ascii (codes "val") refl) (IsUtf8-from_ascii (encode_of standard bytes) (IsAscii-encode_of standard bytes))
  tree_plain (valref rs) h n = framed_plain (codes "valref") (references_data rs) (IsUtf8-are_ascii (codes "valref") refl) (references_plain rs h.0)
  tree_plain (dir es) h n = framed_plain (codes "dir") (object (entries_data es)) (IsUtf8-are_ascii (codes "dir") refl) (entries_plain es h.0 h.1 n)
  tree_plain (dirref r) h n = framed_plain (codes "dirref") (references_data (r ∷ [])) (IsUtf8-are_ascii (codes "dirref") refl) (references_plain (r ∷ []) (h, tt))
  tree_plain (symlink t) h n = framed_plain (codes "symlink") (target_data t) (IsUtf8-are_ascii (codes "symlink") refl) (link_plain t.path t.namespace h.0 h.1)

  entries_plain : (es : Entries) → IsTrue (finite.is_sorted name_cmp (listed es)) → AreReadable es → HaveTextNames es → HavePlain (entries_data es)
  entries_plain no_entries s h n = tt
  entries_plain (entry name t es) s h n =
      let parts = and_parts (finite.below_all name_cmp name (listed es)) (finite.is_sorted name_cmp (listed es)) s in
      (n.0, above_all name es parts.0, tree_plain t h.0 n.1, entries_plain es parts.1 h.1 n.2)

pub stored_again : (t : Tree) → IsReadable t → HasTextNames t → depth (tree_data t) ≤ max_depth → reading (tree_text t) ≡ Ok (tree_data t)
stored_again t h n shallow = plain_reading (tree_data t) (tree_plain t h n) (written_valid t h) shallow
