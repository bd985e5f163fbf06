-- On how far an actor has seen.
use Rattle.std.proofs.Common.{◌≡◌, ◌⊎◌, inl, inr, ℕ, zero, suc, ◌+◌, ◌<◌, max, List, [], ◌∷◌, length, take, get_or, add-one, Option, None, Bool, true, false, ◌||◌, cond, refl, sym, ap, ap₂, ◌∙◌, arith, Some, true≢false}
use Rattle.std.specs.Prelude.{unwrap_or}
use Rattle.std.specs.BTreeMap.{is_at}
use Rattle.std.specs.Cmp.Lexicographic.{slice_cmp}
use Rattle.std.specs.List.{list_any}
use Rattle.std.specs.Map.{keys_of, lookup}
use Rattle.std.specs.Ordering.{nat_cmp}
use Rattle.std.specs.Str.{bytes_eq}
use Rattle.std.proofs.lemmas.Map.Text.{is_eq-slice_cmp}
use Rattle.std.proofs.lemmas.Slice.Eq.{bytes_eq-Decides}
use Rattle.services.specs.kvs_model.Store.{Name}
use Rattle.services.specs.answers.Floors.{number_in}
use Rattle.services.specs.kvs_txn.declared.answers.Numbered.{Numbered}
use Rattle.instance.specs.Floors.{Floors, floor_in, risen_in, seen_in}

pub name_is : (a b : Name) → bytes_eq a b ≡ true → a ≡ b
name_is a b h = (bytes_eq-Decides a b).0 h

pub same_name : (a : Name) → bytes_eq a a ≡ true
same_name a = (bytes_eq-Decides a a).1 refl

turned : (a b : Name) → bytes_eq a b ≡ bytes_eq b a
turned a b = on (bytes_eq a b) refl (bytes_eq b a) refl
  where
    on : (x : Bool) → bytes_eq a b ≡ x → (y : Bool) → bytes_eq b a ≡ y → x ≡ y
    on true e true f = refl
    on false e false f = refl
    on true e false f = sym ((bytes_eq-Decides b a).1 (sym (name_is a b e))) ∙ f
    on false e true f = sym (sym ((bytes_eq-Decides a b).1 (sym (name_is b a f))) ∙ e)

-- a look-up by the order of names is one by their bytes
pub looked : (q : Name) (es : Floors) → lookup (is_at (slice_cmp nat_cmp q)) es ≡ lookup (bytes_eq q) es
looked q [] = refl
looked q (e ∷ es) = ap₂ (λ b rest. cond b (Some e.1) rest) (is_eq-slice_cmp q e.0) (looked q es)

-- what one number more of a namespace leaves
pub raised_floor : (old new : Floors) (key : Name) (number kept : ℕ) → kept ≡ max (floor_in old key) number →
    ((q : Name) → lookup (is_at (slice_cmp nat_cmp q)) new ≡ cond (is_at (slice_cmp nat_cmp key) q) (Some kept) (lookup (is_at (slice_cmp nat_cmp q)) old)) →
    (q : Name) → floor_in new q ≡ cond (bytes_eq q key) (max (floor_in old q) number) (floor_in old q)
raised_floor old new key number kept is updates q =
    ap (λ o. unwrap_or o 0) (sym (looked q new) ∙ updates q ∙ ap₂ (λ b o. cond b (Some kept) o) (is_eq-slice_cmp key q ∙ turned key q) (looked q old))
    ∙ by (bytes_eq q key) refl
  where
    by : (b : Bool) → bytes_eq q key ≡ b → unwrap_or (cond b (Some kept) (lookup (bytes_eq q) old)) 0 ≡ cond b (max (floor_in old q) number) (floor_in old q)
    by true e = is ∙ ap (λ n. max (floor_in old n) number) (sym (name_is q key e))
    by false e = refl

-- a namespace whose key is not there has no number
none_in : (q : Name) (es : Floors) → list_any (bytes_eq q) (keys_of es) ≡ false → floor_in es q ≡ 0
none_in q [] none = refl
none_in q (e ∷ es) none = by (none_in q es) (bytes_eq q e.0) none
  where
    by : (list_any (bytes_eq q) (keys_of es) ≡ false → floor_in es q ≡ 0) → (b : Bool) → (b || list_any (bytes_eq q) (keys_of es)) ≡ false →
        unwrap_or (cond b (Some e.1) (lookup (bytes_eq q) es)) 0 ≡ 0
    by again true h = absurd (true≢false h)
    by again false h = again h

-- the floors are joined in the namespaces that were passed, and in those that follow they are as before
abbrev pub IsJoining : Floors → Floors → Floors → List Name → Name → Type 0
IsJoining old other now rest q = (floor_in now q ≡ max (floor_in old q) (floor_in other q)) ⊎ (list_any (bytes_eq q) rest ≡ true) × (floor_in now q ≡ floor_in old q)

pub joining_first : (old other : Floors) (rest : List Name) → rest ≡ keys_of other → (q : Name) → IsJoining old other old rest q
joining_first old other rest all q = by (list_any (bytes_eq q) rest) refl
  where
    by : (b : Bool) → list_any (bytes_eq q) rest ≡ b → IsJoining old other old rest q
    by true e = inr (e, refl)
    by false e =
        let none : floor_in other q ≡ 0 = none_in q other (ap (list_any (bytes_eq q)) (sym all) ∙ e) in
        inl (omega (arith, none))

pub joining_on : (old other now new : Floors) (key : Name) (rest : List Name) (number : ℕ) → number ≡ floor_in other key →
    ((q : Name) → floor_in new q ≡ cond (bytes_eq q key) (max (floor_in now q) number) (floor_in now q)) →
    (q : Name) → IsJoining old other now (key ∷ rest) q → IsJoining old other new rest q
joining_on old other now new key rest number is risen q h = by (bytes_eq q key) refl (risen q) h
  where
    by : (b : Bool) → bytes_eq q key ≡ b → floor_in new q ≡ cond b (max (floor_in now q) number) (floor_in now q) →
        (floor_in now q ≡ max (floor_in old q) (floor_in other q)) ⊎ ((bytes_eq q key || list_any (bytes_eq q) rest) ≡ true) × (floor_in now q ≡ floor_in old q) →
        IsJoining old other new rest q
    by true e r (inl k) =
        let own : number ≡ floor_in other q = is ∙ ap (floor_in other) (sym (name_is q key e)) in
        inl (omega (arith, r, k, own))
    by true e r (inr k) =
        let own : number ≡ floor_in other q = is ∙ ap (floor_in other) (sym (name_is q key e)) in
        let same = k.1 in
        inl (omega (arith, r, same, own))
    by false e r (inl k) = inl (r ∙ k)
    by false e r (inr k) = inr (ap (λ b. b || list_any (bytes_eq q) rest) (sym e) ∙ k.0, r ∙ k.1)

pub joined_all : (old other now : Floors) (rest : List Name) → rest ≡ [] → (q : Name) → IsJoining old other now rest q → floor_in now q ≡ max (floor_in old q) (floor_in other q)
joined_all old other now rest none q (inl h) = h
joined_all old other now rest none q (inr h) = absurd (true≢false (sym h.0 ∙ ap (list_any (bytes_eq q)) none))

-- ---- what a reply names

pub none_seen : (floors : Floors) (space : Name) → floor_in floors space ≡ max (floor_in floors space) 0
none_seen floors space = omega arith

more_seen : (f u n : ℕ) (b : Bool) → cond b (max (max f u) n) (max f u) ≡ max f (cond b (max n u) u)
more_seen f u n true = omega arith
more_seen f u n false = refl

-- the roots up to one more
number_next : (roots : List Numbered) (i : ℕ) (root : Numbered) (space : Name) → i < length roots → root ≡ get_or roots i root
    → number_in space (take (suc i) roots) ≡ cond (bytes_eq space root.namespace) (max (number_in space (take i roots)) root.number) (number_in space (take i roots))
number_next [] i root space l is = absurd (omega arith)
number_next (r ∷ roots) zero root space l is =
    ap (λ (x : Numbered). cond (bytes_eq space x.namespace) (max x.number 0) 0) (sym is) ∙ by (bytes_eq space root.namespace)
  where
    by : (b : Bool) → cond b (max root.number 0) 0 ≡ cond b (max 0 root.number) 0
    by true = omega arith
    by false = refl
number_next (r ∷ roots) (suc i) root space l is =
    ap (λ n. cond (bytes_eq space r.namespace) (max r.number n) n) (number_next roots i root space (omega arith) is)
    ∙ by (bytes_eq space r.namespace) (bytes_eq space root.namespace) (number_in space (take i roots))
  where
    by : (a b : Bool) (n : ℕ) → cond a (max r.number (cond b (max n root.number) n)) (cond b (max n root.number) n) ≡ cond b (max (cond a (max r.number n) n) root.number) (cond a (max r.number n) n)
    by true true n = omega arith
    by true false n = refl
    by false true n = refl
    by false false n = refl

pub root_seen : (old mid new : Floors) (roots : List Numbered) (i : ℕ) (root : Numbered) → i < length roots → root ≡ get_or roots i root → (space : Name)
    → floor_in mid space ≡ max (floor_in old space) (number_in space (take i roots)) → floor_in new space ≡ risen_in mid root.namespace (Some root.number) space
    → floor_in new space ≡ max (floor_in old space) (number_in space (take (i + 1) roots))
root_seen old mid new roots i root l is space before raised =
    raised
    ∙ ap (λ f. cond (bytes_eq space root.namespace) (max f root.number) f) before
    ∙ by (bytes_eq space root.namespace) (floor_in old space) (number_in space (take i roots))
    ∙ ap (max (floor_in old space)) (sym (rw add-one (number_next roots i root space l is)))
  where
    by : (b : Bool) (f u : ℕ) → cond b (max (max f u) root.number) (max f u) ≡ max f (cond b (max u root.number) u)
    by true f u = omega arith
    by false f u = refl

pub seen_besides : (old mid : Floors) (subject : Name) (number : Option ℕ) (uses : List Numbered) (space : Name) → floor_in mid space ≡ max (floor_in old space) (number_in space uses) → risen_in mid subject number space ≡ seen_in old subject number uses space
seen_besides old mid subject None uses space h = h
seen_besides old mid subject (Some n) uses space h =
    ap (λ f. cond (bytes_eq space subject) (max f n) f) h ∙ more_seen (floor_in old space) (number_in space uses) n (bytes_eq space subject)

pub seen_alone : (old : Floors) (subject : Name) (number : Option ℕ) (space : Name) → risen_in old subject number space ≡ seen_in old subject number [] space
seen_alone old subject number space = seen_besides old old subject number [] space (none_seen old space)
