-- Dependencies from their descriptions, and each of them once.
use Rattle.std.proofs.Common.{◌≡◌, ℕ, suc, zero, ◌+◌, ◌<◌, ◌≤◌, ◌^◌, ◌==◌, Bool, true, false, cond, not, ◌||◌, List, [], ◌∷◌, ◌++◌, length, get_or, take, map, Option, Some, None, refl, sym, ap, ap₂, ◌∙◌, subst, arith}
use Rattle.std.specs.Prelude.{filter, option_and_then, option_map, if◌then◌else◌}
use Rattle.std.specs.List.{list_any}
use Rattle.std.specs.Str.{bytes_eq}
use Rattle.std.proofs.Math.Seq.{take-suc}
use Rattle.std.specs.Bool.{Decides}
use Rattle.std.proofs.lemmas.Bool.Decides.{same_from_decides}
use Rattle.std.proofs.lemmas.List.{append_assoc, get_or-map, length-map, take_all}
use Rattle.std.proofs.lemmas.Bool.{eqb-true}
use Rattle.serde_json.specs.Data.{Data}
use Rattle.serde_json.specs.Find.{as_str}
use Rattle.serde_json.specs.View.{items_of, items_view, view}
use Rattle.serde_json.specs.declared.value.Value.{Value}
use Rattle.fluid_ids.specs.Texts.{printed}
use Rattle.fluid_ids.specs.declared.forms.Form.TheVariants.{F58}
use Rattle.job_rules.proofs.Few.{bytes_same, same_bytes}
use Rattle.job_spec.specs.declared.spec.Depend.{Depend}
use Rattle.job_spec.specs.declared.spec.Scheme.{Scheme}
use Rattle.job_spec.specs.declared.spec.Scheme.TheVariants.{After}
use Rattle.manager_rules.specs.Jobs.{description_of, distinct, same_need, texts_of}
use Rattle.job_texts.specs.Listed.{AreSmall, mark_of, with_need}
use Rattle.job_texts.proofs.Descriptions.{described, same_ids, same_rest, same_scheme}

-- ---- the texts of a list

-- one text, and the dependency of its place
pub record IsNth (ds : List Data) (listed : List Depend) (i : ℕ) (d : Data) (e : Depend) : Type 0 where
  pub within : i < length listed
  pub text : as_str (get_or ds i d) ≡ Some (description_of (get_or listed i e))

cut : (x t : List ℕ) (xs ts : List (List ℕ)) → x ∷ xs ≡ t ∷ ts → (x ≡ t) × (xs ≡ ts)
cut x t xs ts e = (cc, cc)

nth_case : (o : Option (List ℕ)) (p : Option (List (List ℕ))) (listed : List Depend) → option_and_then (λ text. option_map (λ texts. text ∷ texts) p) o ≡ Some (map description_of listed)
    → (need : Depend) × (needs : List Depend) × (listed ≡ need ∷ needs) × (o ≡ Some (description_of need)) × (p ≡ Some (map description_of needs))
nth_case None p listed e = cc
nth_case (Some t) None listed e = cc
nth_case (Some t) (Some ts) [] e = cc
nth_case (Some t) (Some ts) (need ∷ needs) e =
    let both : t ∷ ts ≡ description_of need ∷ map description_of needs = cc in
    let parts = cut t (description_of need) ts (map description_of needs) both in
    (need, needs, refl, ap Some parts.0, ap Some parts.1)

pub nth_text : (ds : List Data) (listed : List Depend) (i : ℕ) (d : Data) (e : Depend) → texts_of (items_of ds) ≡ Some (map description_of listed) → i < length ds → IsNth ds listed i d e
nth_text [] listed i d e h w = let none : ⊥ = omega (arith, w) in absurd none
nth_text (x ∷ xs) listed zero d e h w =
    let parts = nth_case (as_str x) (texts_of (items_of xs)) listed h in
    subst (λ ns. IsNth (x ∷ xs) ns 0 d e) (sym parts.2) (record { within = omega arith; text = parts.3 })
nth_text (x ∷ xs) listed (suc i) d e h w =
    let parts = nth_case (as_str x) (texts_of (items_of xs)) listed h in
    let more = nth_text xs parts.1 i d e parts.4 (omega (arith, w)) in
    subst (λ ns. IsNth (x ∷ xs) ns (suc i) d e) (sym parts.2) (record { within = omega (arith, more.within); text = more.text })

pub as_many : (ds : List Data) (listed : List Depend) → texts_of (items_of ds) ≡ Some (map description_of listed) → length listed ≡ length ds
as_many [] [] h = refl
as_many [] (need ∷ needs) h = cc
as_many (x ∷ xs) listed h =
    let parts = nth_case (as_str x) (texts_of (items_of xs)) listed h in
    ap length parts.2 ∙ ap suc (as_many xs parts.1 parts.4)

pub small_at : (listed : List Depend) (i : ℕ) (e : Depend) → AreSmall listed → i < length listed → (get_or listed i e).on < 2 ^ 64
small_at [] i e h w = let no : ⊥ = omega (arith, w) in absurd no
small_at (x ∷ xs) zero e h w = h.0
small_at (x ∷ xs) (suc i) e h w = small_at xs i e h.1 (omega (arith, w))

-- the dependencies up to a place, with the next
pub one_more : (listed : List Depend) (i : ℕ) (need : Depend) → i < length listed → get_or listed i need ≡ need → take i listed ++ need ∷ [] ≡ take (suc i) listed
one_more listed i need w e = sym (take-suc listed i need w ∙ ap (λ n. take i listed ++ n ∷ []) e)

-- ---- one text

-- what a mark and a number behind it tell
pub tells : (need : Depend) (scheme : Scheme) (rest text : List ℕ) → text ≡ mark_of scheme ++ rest → text ≡ description_of need → (scheme ≡ need.scheme) × (rest ≡ printed F58 need.on)
tells need scheme rest text e f =
    let both : mark_of scheme ++ rest ≡ mark_of need.scheme ++ printed F58 need.on = sym e ∙ f ∙ described need in
    let same = same_scheme scheme need.scheme rest (printed F58 need.on) both in
    (same, same_rest scheme rest (printed F58 need.on) (both ∙ ap (λ s. mark_of s ++ printed F58 need.on) (sym same)))

-- ---- each once

pub same_is : (a b : Depend) → a.on < 2 ^ 64 → b.on < 2 ^ 64 → same_need a b ≡ true → (a.on ≡ b.on) × (a.scheme ≡ b.scheme)
same_is a b ha hb e =
    let texts = bytes_same (description_of a) (description_of b) e in
    let parts = tells b a.scheme (printed F58 a.on) (description_of a) (described a) texts in
    (same_ids a.on b.on ha hb parts.1, parts.0)

pub same_from : (a b : Depend) → a.on ≡ b.on → a.scheme ≡ b.scheme → same_need a b ≡ true
same_from a b e f = same_bytes (description_of a) (description_of b) (let same : a ≡ b = ap₂ (λ s n. record { scheme = s; on = n }) f e in ap description_of same)

same_through : (a b c : Depend) → same_need a b ≡ true → same_need b c ≡ same_need a c
same_through a b c e = ap (λ t. bytes_eq t (description_of c)) (sym (bytes_same (description_of a) (description_of b) e))

same_back : (a b : Depend) → same_need a b ≡ true → same_need b a ≡ true
same_back a b e = same_bytes (description_of b) (description_of a) (sym (bytes_same (description_of a) (description_of b) e))

filter_both : (p : Depend → Bool) (xs : List Depend) (y : Depend) → filter p (xs ++ y ∷ []) ≡ filter p xs ++ (if p y then y ∷ [] else [])
filter_both p [] y = at (p y)
  where
    at : (b : Bool) → cond b (y ∷ []) [] ≡ (if b then y ∷ [] else [])
    at true = refl
    at false = refl
filter_both p (x ∷ xs) y = at (p x) (filter_both p xs y)
  where
    at : (b : Bool) → filter p (xs ++ y ∷ []) ≡ filter p xs ++ (if p y then y ∷ [] else []) → cond b (x ∷ filter p (xs ++ y ∷ [])) (filter p (xs ++ y ∷ [])) ≡ cond b (x ∷ filter p xs) (filter p xs) ++ (if p y then y ∷ [] else [])
    at true e = ap (λ zs. x ∷ zs) e
    at false e = e

-- whether one is there among those that differ from the first
there_still : (x y : Depend) (xs : List Depend) → (same_need x y || list_any (λ o. same_need o y) (filter (λ o. not (same_need x o)) xs)) ≡ (same_need x y || list_any (λ o. same_need o y) xs)
there_still x y xs = at (same_need x y) refl
  where
    kept : (zs : List Depend) → same_need x y ≡ false → list_any (λ o. same_need o y) (filter (λ o. not (same_need x o)) zs) ≡ list_any (λ o. same_need o y) zs
    kept [] e = refl
    kept (z ∷ zs) e = by (same_need x z) refl (kept zs e)
      where
        by : (b : Bool) → same_need x z ≡ b → list_any (λ o. same_need o y) (filter (λ o. not (same_need x o)) zs) ≡ list_any (λ o. same_need o y) zs → list_any (λ o. same_need o y) (cond (not b) (z ∷ filter (λ o. not (same_need x o)) zs) (filter (λ o. not (same_need x o)) zs)) ≡ (same_need z y || list_any (λ o. same_need o y) zs)
        by true f h = h ∙ ap (λ b. b || list_any (λ o. same_need o y) zs) (sym (same_through x z y f ∙ e))
        by false f h = ap (λ b. same_need z y || b) h

    at : (b : Bool) → same_need x y ≡ b → (b || list_any (λ o. same_need o y) (filter (λ o. not (same_need x o)) xs)) ≡ (b || list_any (λ o. same_need o y) xs)
    at true e = refl
    at false e = kept xs e

pub distinct_more : (xs : List Depend) (y : Depend) → with_need (distinct xs) y ≡ distinct (xs ++ y ∷ [])
distinct_more [] y = refl
distinct_more (x ∷ xs) y =
    ap (λ b. if b then x ∷ rest else x ∷ rest ++ y ∷ []) (there_still x y (distinct xs))
    ∙ by (same_need x y) refl (list_any (λ o. same_need o y) (distinct xs)) refl
    ∙ ap (λ zs. x ∷ filter (λ o. not (same_need x o)) zs) (distinct_more xs y)
  where
    rest : List Depend
    rest = filter (λ o. not (same_need x o)) (distinct xs)

    by : (a : Bool) → same_need x y ≡ a → (b : Bool) → list_any (λ o. same_need o y) (distinct xs) ≡ b → (if a || b then x ∷ rest else x ∷ rest ++ y ∷ []) ≡ x ∷ filter (λ o. not (same_need x o)) (if b then distinct xs else distinct xs ++ y ∷ [])
    by true e true f = refl
    by true e false f = ap (λ zs. x ∷ zs) (sym (filter_both (λ o. not (same_need x o)) (distinct xs) y ∙ ap (λ b. rest ++ (if not b then y ∷ [] else [])) e ∙ nil rest))
      where
        nil : (zs : List Depend) → zs ++ [] ≡ zs
        nil [] = refl
        nil (z ∷ zs) = ap (λ ws. z ∷ ws) (nil zs)
    by false e true f = refl
    by false e false f = ap (λ zs. x ∷ zs) (sym (filter_both (λ o. not (same_need x o)) (distinct xs) y ∙ ap (λ b. rest ++ (if not b then y ∷ [] else [])) e))

pub same_decided : (a b : Depend) (r : Bool) → a.on < 2 ^ 64 → b.on < 2 ^ 64 → Decides r (a ≡ b) → r ≡ same_need a b
same_decided a b r ha hb d = same_from_decides r (same_need a b) d (
  λ e. let parts = same_is a b ha hb e in ap₂ (λ s n. record { scheme = s; on = n }) parts.1 parts.0,
  λ same. same_bytes (description_of a) (description_of b) (ap description_of same),
)

pub add_next : (all more : List Depend) (i : ℕ) (d : Depend) (before after : List Depend) → i < length more → before ≡ distinct (all ++ take i more) → after ≡ with_need before (get_or more i d) → after ≡ distinct (all ++ take (i + 1) more)
add_next all more i d before after w e f =
    let n : suc i ≡ i + 1 = omega arith in
    f ∙ ap (λ ns. with_need ns (get_or more i d)) e
    ∙ distinct_more (all ++ take i more) (get_or more i d)
    ∙ ap distinct (append_assoc all (take i more) (get_or more i d ∷ []) ∙ ap (λ ns. all ++ ns) (sym (take-suc more i d w) ∙ ap (λ k. take k more) n))

pub listed_next : (vs : List Value) (listed : List Depend) (i : ℕ) (v : Value) (before after : List Depend) → AreSmall listed → texts_of (items_view vs) ≡ Some (map description_of listed) → i < length vs → v ≡ get_or vs i v → before ≡ take i listed
    → ((need : Depend) → need.on < 2 ^ 64 → as_str (view v) ≡ Some (description_of need) → after ≡ before ++ need ∷ []) → after ≡ take (i + 1) listed
listed_next vs listed i v before after small h w e b f =
    let n : suc i ≡ i + 1 = omega arith in
    let e0 : Depend = record { scheme = After; on = 0 } in
    let nth = nth_text (map view vs) listed i (view v) e0 h (subst (λ k. i < k) (sym (length-map vs view)) w) in
    let text : as_str (view v) ≡ Some (description_of (get_or listed i e0)) = ap as_str (ap view e ∙ sym (get_or-map view vs i v (view v) w)) ∙ nth.text in
    f (get_or listed i e0) (small_at listed i e0 small nth.within) text
    ∙ ap (λ ns. ns ++ get_or listed i e0 ∷ []) b
    ∙ sym (take-suc listed i e0 nth.within)
    ∙ ap (λ k. take k listed) n

pub listed_all : (vs : List Value) (listed : List Depend) (i : ℕ) (needs : List Depend) → texts_of (items_view vs) ≡ Some (map description_of listed) → length vs ≤ i → needs ≡ take i listed → needs ≡ listed
listed_all vs listed i needs h w e = e ∙ take_all i listed (omega (arith, as_many (map view vs) listed h, length-map vs view, w))

-- lists without a text
pub none_listed : (listed : List Depend) → Some [] ≡ Some (map description_of listed) → [] ≡ listed
none_listed [] e = refl
none_listed (need ∷ needs) e = cc

pub differ_in_jobs : (a b : Scheme) (m n : ℕ) → m < 2 ^ 64 → n < 2 ^ 64 → (m ≡ n → ⊥) → (m == n) ≡ same_need (record { scheme = a; on = m }) (record { scheme = b; on = n })
differ_in_jobs a b m n hm hn other = same_from_decides (m == n) (same_need (record { scheme = a; on = m }) (record { scheme = b; on = n })) (
  λ e. absurd (other (eqb-true m n e)),
  λ e. absurd e,
) (
  λ e. other (same_is (record { scheme = a; on = m }) (record { scheme = b; on = n }) hm hn e).0,
  λ e. absurd e,
)
