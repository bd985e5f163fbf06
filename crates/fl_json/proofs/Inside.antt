-- What stands under a key of a value.
use Rattle.std.proofs.Common.{◌≡◌, ℕ, max, ◌<◌, ◌≤◌, List, Some, None, Ordering, Less, Equal, Greater, nat_cmp, ap, subst, arith}
use Rattle.std.specs.Ordering.{match_ordering}
use Rattle.std.specs.Cmp.Lexicographic.{slice_cmp}
use Rattle.serde_json.specs.Data.{Data, null, boolean, number, string, array, object, Items, Members, no_members, member, depth, items_depth, members_depth}
use Rattle.serde_json.specs.Find.{get, get_member, as_array}
use Rattle.fl_json.specs.Valid.{IsValid, AreValid, HaveValid}

none_some : {A P : Type 0} (a : A) → None ≡ Some a → P
none_some a e = absurd (cc)

some_is : {A : Type 0} (a b : A) → Some a ≡ Some b → a ≡ b
some_is a b e = cc

member_at : (o : Ordering) (key : List ℕ) (d e : Data) (ms : Members) → (get_member key ms ≡ Some d → HaveValid ms → IsValid d) → IsValid e × HaveValid ms
    → match_ordering o (get_member key ms) (Some e) (get_member key ms) ≡ Some d → IsValid d
member_at Less key d e ms f v h = f h v.1
member_at Equal key d e ms f v h = subst IsValid (some_is e d h) v.0
member_at Greater key d e ms f v h = f h v.1

valid_member : (key : List ℕ) (d : Data) (ms : Members) → get_member key ms ≡ Some d → HaveValid ms → IsValid d
valid_member key d no_members h v = none_some d h
valid_member key d (member next e ms) h v = member_at (slice_cmp nat_cmp key next) key d e ms (λ k w. valid_member key d ms k w) (v.1, v.2) h

-- what a valid value has under a key is valid
pub valid_under : (key : List ℕ) (d found : Data) → get key d ≡ Some found → IsValid d → IsValid found
valid_under key null found h v = none_some found h
valid_under key (boolean b) found h v = none_some found h
valid_under key (number n) found h v = none_some found h
valid_under key (string s) found h v = none_some found h
valid_under key (array ds) found h v = none_some found h
valid_under key (object ms) found h v = valid_member key found ms h v

deep_at : (o : Ordering) (key : List ℕ) (d e : Data) (ms : Members) → (get_member key ms ≡ Some d → depth d ≤ members_depth ms)
    → match_ordering o (get_member key ms) (Some e) (get_member key ms) ≡ Some d → depth d ≤ max (depth e) (members_depth ms)
deep_at Less key d e ms f h = omega (arith, f h)
deep_at Equal key d e ms f h = let same : depth e ≡ depth d = ap depth (some_is e d h) in omega arith
deep_at Greater key d e ms f h = omega (arith, f h)

deep_member : (key : List ℕ) (d : Data) (ms : Members) → get_member key ms ≡ Some d → depth d ≤ members_depth ms
deep_member key d no_members h = none_some d h
deep_member key d (member next e ms) h = deep_at (slice_cmp nat_cmp key next) key d e ms (λ k. deep_member key d ms k) h

-- what stands under a key nests less deep
pub deep_under : (key : List ℕ) (d found : Data) → get key d ≡ Some found → depth found < depth d
deep_under key null found h = none_some found h
deep_under key (boolean b) found h = none_some found h
deep_under key (number n) found h = none_some found h
deep_under key (string s) found h = none_some found h
deep_under key (array ds) found h = none_some found h
deep_under key (object ms) found h = omega (arith, deep_member key found ms h)

array_is : (d : Data) (ds : Items) → as_array d ≡ Some ds → d ≡ array ds
array_is null ds h = none_some ds h
array_is (boolean b) ds h = none_some ds h
array_is (number n) ds h = none_some ds h
array_is (string s) ds h = none_some ds h
array_is (array es) ds h = ap array (some_is es ds h)
array_is (object ms) ds h = none_some ds h

pub items_valid : (d : Data) (ds : Items) → as_array d ≡ Some ds → IsValid d → AreValid ds
items_valid d ds h v = subst IsValid (array_is d ds h) v

pub items_inside : (d : Data) (ds : Items) (n : ℕ) → as_array d ≡ Some ds → depth d < n → items_depth ds < n
items_inside d ds n h l = let deep : depth (array ds) < n = subst (λ y. depth y < n) (array_is d ds h) l in omega arith
