-- What one more entry leaves of the instances that are born, of those that live, and of the chronicles of
-- their own.
use Rattle.std.proofs.Common.{◌≡◌, ℕ, ◌==◌, ◌⊎◌, inl, inr, List, [], ◌∷◌, ◌++◌, Bool, true, false, cond, not, ◌&&◌, ◌||◌, Option, Some, None, is_some, option_map, filter_map, refl, sym, ap, ap₂, ◌∙◌, true≢false}
use Rattle.std.specs.Prelude.{find}
use Rattle.std.specs.Option.{option_map_or, option_or}
use Rattle.std.specs.List.{cons_option, list_any}
use Rattle.std.proofs.lemmas.Bool.{and_parts, or_parts, not-true}
use Rattle.std.proofs.lemmas.List.Elements.{filter_map-append}
use Rattle.std.proofs.lemmas.List.Folds.{find-append, list_any-append}
use Rattle.kvs_rules.specs.Sequence.{until}
use Rattle.kvs_rules.proofs.Sequences.{until-append}
use Rattle.answers.specs.Chronicle.{Setup, top}
use Rattle.answers.specs.declared.chronicle.Entry.{Entry}
use Rattle.hierarchy.specs.Births.{Birth, birth_in, birth_of, births, ends, is_birth_of, is_born, is_gone, label_of, lives}
use Rattle.hierarchy.specs.Own.{begins, child_setup, own_entry, own_of, setup_in, since_birth, work_for}

-- ---- on lists

none_found : {A : Type 0} (p : A → Bool) (xs : List A) → list_any p xs ≡ false → until p xs ≡ xs
none_found p [] h = refl
none_found p (x ∷ xs) h = by (p x) (or_parts (p x) (list_any p xs) h) (none_found p xs)
  where
    by : (b : Bool) → (p x ≡ false) × (list_any p xs ≡ false) → (list_any p xs ≡ false → until p xs ≡ xs) → until p (x ∷ xs) ≡ x ∷ xs
    by b h again = ap (λ t. cond t [] (x ∷ until p xs)) h.0 ∙ ap (λ l. x ∷ l) (again h.1)

any_push : {A : Type 0} (p : A → Bool) (xs : List A) (y : A) → list_any p (xs ++ y ∷ []) ≡ (list_any p xs || p y)
any_push p xs y = list_any-append p xs (y ∷ []) ∙ ap (λ b. list_any p xs || b) (last (p y))
  where
    last : (b : Bool) → (b || false) ≡ b
    last true = refl
    last false = refl

pub until_push : {A : Type 0} (p : A → Bool) (xs : List A) (y : A) → list_any p xs ≡ false → p y ≡ false → until p (xs ++ y ∷ []) ≡ until p xs ++ y ∷ []
until_push p xs y h g =
    none_found p (xs ++ y ∷ []) (any_push p xs y ∙ ap₂ (λ a b. a || b) h g) ∙ ap (λ l. l ++ y ∷ []) (sym (none_found p xs h))

option_kept : {A : Type 0} (o p : Option A) → is_some o ≡ true → option_or o p ≡ o
option_kept None p h = absurd (true≢false (sym h))
option_kept (Some x) p h = refl

pub find_kept : {A : Type 0} (p : A → Bool) (xs ys : List A) → is_some (find p xs) ≡ true → find p (xs ++ ys) ≡ find p xs
find_kept p xs ys h = find-append p xs ys ∙ option_kept (find p xs) (find p ys) h

-- ---- who is born

pub births_joined : (c more : List Entry) → births (c ++ more) ≡ births c ++ births more
births_joined c more = filter_map-append birth_in c more

pub births_push : (c : List Entry) (e : Entry) → births (c ++ e ∷ []) ≡ births c ++ cons_option (birth_in e) []
births_push c e = births_joined c (e ∷ [])

-- a birth stays
pub birth_kept : (c more : List Entry) (i : ℕ) → is_born c i ≡ true → birth_of (c ++ more) i ≡ birth_of c i
birth_kept c more i h = by (i == top) h
  where
    by : (b : Bool) → (b || is_some (cond b None (find (is_birth_of i) (births c)))) ≡ true
        → cond b None (find (is_birth_of i) (births (c ++ more))) ≡ cond b None (find (is_birth_of i) (births c))
    by true h = refl
    by false h = ap (find (is_birth_of i)) (births_joined c more) ∙ find_kept (is_birth_of i) (births c) (births more) h

pub born_kept : (c more : List Entry) (i : ℕ) → is_born c i ≡ true → is_born (c ++ more) i ≡ true
born_kept c more i h = ap (λ o. (i == top) || is_some o) (birth_kept c more i h) ∙ h

-- what it is given stays
pub setup_kept : (set : Setup) (c more : List Entry) (i : ℕ) → is_born c i ≡ true → setup_in set (c ++ more) i ≡ setup_in set c i
setup_kept set c more i h =
    ap (λ o. option_map_or (child_setup set) o (record set { work = work_for set.work None set.size })) (birth_kept c more i h)

pub label_kept : (c more : List Entry) (i : ℕ) → is_born c i ≡ true → label_of (c ++ more) i ≡ label_of c i
label_kept c more i h = ap (option_map (λ b. b.label)) (birth_kept c more i h)

-- ---- who lives

pub gone_push : (c : List Entry) (e : Entry) (i : ℕ) → is_gone (c ++ e ∷ []) i ≡ (is_gone c i || ends i e)
gone_push c e i = any_push (ends i) c e

pub alive : (c : List Entry) (i : ℕ) → lives c i ≡ true → (is_born c i ≡ true) × (is_gone c i ≡ false)
alive c i h = let p = and_parts (is_born c i) (not (is_gone c i)) h in (p.0, not-true (is_gone c i) p.1)

pub is_alive : (c : List Entry) (i : ℕ) → is_born c i ≡ true → is_gone c i ≡ false → lives c i ≡ true
is_alive c i h g = ap₂ (λ a b. a && not b) h g

-- whoever lives behind an entry doesn't end in it, and lived before or is born in it
pub record Lived (c : List Entry) (e : Entry) (i : ℕ) : Type 0 where
  pub stays : ends i e ≡ false
  pub goes_on : is_gone c i ≡ false
  pub how : (lives c i ≡ true) ⊎ ((is_born c i ≡ false) × (begins i e ≡ true))

begins_of : (i : ℕ) (o : Option Birth) → is_some (find (is_birth_of i) (cons_option o [])) ≡ option_map_or (is_birth_of i) o false
begins_of i None = refl
begins_of i (Some b) = by (is_birth_of i b)
  where
    by : (t : Bool) → is_some (cond t (Some b) None) ≡ t
    by true = refl
    by false = refl

pub born_push : (c : List Entry) (e : Entry) (i : ℕ) → is_born (c ++ e ∷ []) i ≡ true → is_born c i ≡ false → begins i e ≡ true
born_push c e i now was = by (i == top) now was
  where
    or_some : {A : Type 0} (o p : Option A) → is_some o ≡ false → option_or o p ≡ p
    or_some None p h = refl
    or_some (Some x) p h = absurd (true≢false h)

    by : (b : Bool) → (b || is_some (cond b None (find (is_birth_of i) (births (c ++ e ∷ []))))) ≡ true
        → (b || is_some (cond b None (find (is_birth_of i) (births c)))) ≡ false → begins i e ≡ true
    by true now was = absurd (true≢false was)
    by false now was =
        sym (begins_of i (birth_in e))
        ∙ ap is_some (sym (or_some (find (is_birth_of i) (births c)) _ was) ∙ sym (find-append (is_birth_of i) (births c) (cons_option (birth_in e) [])) ∙ ap (find (is_birth_of i)) (sym (births_push c e)))
        ∙ now

pub lived : (c : List Entry) (e : Entry) (i : ℕ) → lives (c ++ e ∷ []) i ≡ true → Lived c e i
lived c e i h = by (is_born c i) refl
  where
    now : (is_born (c ++ e ∷ []) i ≡ true) × (is_gone (c ++ e ∷ []) i ≡ false)
    now = alive (c ++ e ∷ []) i h

    stayed : (is_gone c i ≡ false) × (ends i e ≡ false)
    stayed = or_parts (is_gone c i) (ends i e) (sym (gone_push c e i) ∙ now.1)

    by : (b : Bool) → is_born c i ≡ b → Lived c e i
    by true was = record { stays = stayed.1; goes_on = stayed.0; how = inl (is_alive c i was stayed.0) }
    by false was = record { stays = stayed.1; goes_on = stayed.0; how = inr (was, born_push c e i now.0 was) }

-- who lives and doesn't end lives on
pub lives_on : (c : List Entry) (e : Entry) (i : ℕ) → lives c i ≡ true → ends i e ≡ false → lives (c ++ e ∷ []) i ≡ true
lives_on c e i h stays =
    let p = alive c i h in
    is_alive (c ++ e ∷ []) i (born_kept c (e ∷ []) i p.0) (gone_push c e i ∙ ap₂ (λ a b. a || b) p.1 stays)

-- ---- chronicles of their own

some_begins : (i : ℕ) (c : List Entry) → is_some (find (is_birth_of i) (births c)) ≡ list_any (begins i) c
some_begins i [] = refl
some_begins i (e ∷ c) = by (birth_in e) ∙ ap (λ b. begins i e || b) (some_begins i c)
  where
    by : (o : Option Birth) → is_some (find (is_birth_of i) (cons_option o (births c))) ≡ (option_map_or (is_birth_of i) o false || is_some (find (is_birth_of i) (births c)))
    by None = refl
    by (Some b) = on (is_birth_of i b)
      where
        on : (t : Bool) → is_some (cond t (Some b) (find (is_birth_of i) (births c))) ≡ (t || is_some (find (is_birth_of i) (births c)))
        on true = refl
        on false = refl

since_joined : (i : ℕ) (c more : List Entry) → list_any (begins i) c ≡ true → since_birth i (c ++ more) ≡ since_birth i c ++ more
since_joined i [] more h = absurd (true≢false (sym h))
since_joined i (e ∷ c) more h = by (begins i e) h (since_joined i c more)
  where
    by : (t : Bool) → (t || list_any (begins i) c) ≡ true → (list_any (begins i) c ≡ true → since_birth i (c ++ more) ≡ since_birth i c ++ more)
        → cond t (c ++ more) (since_birth i (c ++ more)) ≡ cond t c (since_birth i c) ++ more
    by true h again = refl
    by false h again = again h

any_since : (p : Entry → Bool) (i : ℕ) (c : List Entry) → list_any p c ≡ false → list_any p (since_birth i c) ≡ false
any_since p i [] h = refl
any_since p i (e ∷ c) h = by (begins i e) (or_parts (p e) (list_any p c) h).1 (any_since p i c)
  where
    by : (t : Bool) → list_any p c ≡ false → (list_any p c ≡ false → list_any p (since_birth i c) ≡ false) → list_any p (cond t c (since_birth i c)) ≡ false
    by true h again = h
    by false h again = again h

-- what happens since its birth
abbrev pub since : List Entry → ℕ → List Entry
since c i = cond (i == top) c (since_birth i c)

pub since_kept : (c more : List Entry) (i : ℕ) → is_born c i ≡ true → since (c ++ more) i ≡ since c i ++ more
since_kept c more i h = by (i == top) h
  where
    by : (b : Bool) → (b || is_some (cond b None (find (is_birth_of i) (births c)))) ≡ true
        → cond b (c ++ more) (since_birth i (c ++ more)) ≡ cond b c (since_birth i c) ++ more
    by true h = refl
    by false h = since_joined i c more (sym (some_begins i c) ∙ h)

since_ends : (c : List Entry) (i : ℕ) → is_gone c i ≡ false → list_any (ends i) (since c i) ≡ false
since_ends c i h = by (i == top)
  where
    by : (b : Bool) → list_any (ends i) (cond b c (since_birth i c)) ≡ false
    by true = h
    by false = any_since (ends i) i c h

-- an entry of the life of an instance is one of its own chronicle, if it is about it
pub own_push : (set : Setup) (c : List Entry) (e : Entry) (i : ℕ) → lives c i ≡ true → ends i e ≡ false
    → own_of set (c ++ e ∷ []) i ≡ own_of set c i ++ cons_option (own_entry set.work.actors (label_of c i) i e) []
own_push set c e i h stays =
    let p = alive c i h in
    let f = own_entry set.work.actors (label_of c i) i in
    ap₂ (λ label life. filter_map (own_entry set.work.actors label i) (until (ends i) life)) (label_kept c (e ∷ []) i p.0) (since_kept c (e ∷ []) i p.0)
    ∙ ap (filter_map f) (until_push (ends i) (since c i) e (since_ends c i p.1) stays)
    ∙ filter_map-append f (until (ends i) (since c i)) (e ∷ [])

none_begins : (i : ℕ) (c : List Entry) (e : Entry) → list_any (begins i) c ≡ false → begins i e ≡ true → since_birth i (c ++ e ∷ []) ≡ []
none_begins i [] e h g = ap (λ t. cond t [] []) g
none_begins i (x ∷ c) e h g = let p = or_parts (begins i x) (list_any (begins i) c) h in ap (λ t. cond t (c ++ e ∷ []) (since_birth i (c ++ e ∷ []))) p.0 ∙ none_begins i c e p.1 g

-- at its birth nothing has happened to it
pub own_born : (set : Setup) (c : List Entry) (e : Entry) (i : ℕ) → is_born c i ≡ false → begins i e ≡ true → own_of set (c ++ e ∷ []) i ≡ []
own_born set c e i was now = ap (λ life. filter_map (own_entry set.work.actors (label_of (c ++ e ∷ []) i) i) (until (ends i) life)) (by (i == top) was)
  where
    by : (b : Bool) → (b || is_some (cond b None (find (is_birth_of i) (births c)))) ≡ false → cond b (c ++ e ∷ []) (since_birth i (c ++ e ∷ [])) ≡ []
    by true was = absurd (true≢false was)
    by false was = none_begins i c e (sym (some_begins i c) ∙ was) now

-- once it has gone nothing more happens to it
pub own_ended : (set : Setup) (c more : List Entry) (i : ℕ) → is_born c i ≡ true → list_any (ends i) (since c i) ≡ true → own_of set (c ++ more) i ≡ own_of set c i
own_ended set c more i h gone =
    ap₂ (λ label life. filter_map (own_entry set.work.actors label i) (until (ends i) life)) (label_kept c more i h) (since_kept c more i h)
    ∙ ap (filter_map (own_entry set.work.actors (label_of c i) i)) (until-append (ends i) (since c i) more gone)
