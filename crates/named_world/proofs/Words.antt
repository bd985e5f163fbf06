-- On the words of brokers.
use Rattle.std.proofs.Common.{◌≡◌, ◌∙◌, ℕ, zero, suc, ◌+◌, ◌==◌, ◌<◌, ◌≤◌, ◌&&◌, inl, inr, List, [], ◌∷◌, ◌++◌, length, take, get_or, Bool, true, false, Option, Some, None, IfSome, unwrap_or, refl, sym, ap, ap₂, subst, true≢false}
use Rattle.std.specs.Prelude.{◌⊎◌, Err, IsSomeAnd, Ok, OnOk, Result, nat_le, not, slice_get}
use Rattle.std.specs.Result.{is_err}
use Rattle.std.specs.Option.{option_map_or}
use Rattle.std.proofs.lemmas.Bool.{eqb-true, leb-true}
use Rattle.std.proofs.lemmas.List.{take_at, take_more}
use Rattle.std.proofs.lemmas.Option.{get_or_from_slice_get, slice_get-get_or, slice_get_within}
use Rattle.kvs_rules.proofs.Sequences.{latest_push}
use Rattle.root_feed.specs.Values.{HeraldValue, new_herald, new_heralds}
use Rattle.world.specs.hierarchy.Heard.{HearUpwards, heard_at, heard_by}
use Rattle.world.specs.declared.run.looking.Looker.{Looker}
use Rattle.world.specs.answers.declared.chronicle.Entry.{Entry}
use Rattle.named_world.specs.Value.{NamedValue, is_open}
use Rattle.named_world.specs.Words.{AreRaisedBy, AreSameWords, AreWords}

-- ---- lists

get_pushed : {X : Type 0} (xs : List X) (x y : X) (k : ℕ) → slice_get (xs ++ x ∷ []) k ≡ Some y → (slice_get xs k ≡ Some y) ⊎ ((k ≡ length xs) × (x ≡ y))
get_pushed [] x y zero e = inr (refl, let same : x ≡ y = cc in same)
get_pushed [] x y (suc k) e = cc
get_pushed (z ∷ xs) x y zero e = inl e
get_pushed (z ∷ xs) x y (suc k) e = elim (get_pushed xs x y k e) [ inl there ↦ inl there | inr last ↦ inr (ap suc last.0, last.1) ]

-- ---- what is heard

pub heard_next : (c : List Entry) (i broker : ℕ) (e : Entry) → slice_get c i ≡ Some e → heard_at (take (i + 1) c) broker ≡ unwrap_or (heard_by broker e) (heard_at (take i c) broker)
heard_next c i broker e is =
    let longer : take (i + 1) c ≡ take i c ++ e ∷ [] = take_more c i e (slice_get_within c i e is) ∙ ap (λ x. take i c ++ x ∷ []) (get_or_from_slice_get c i e e is) in
    ap (λ xs. heard_at xs broker) longer ∙ latest_push (heard_by broker) 0 (take i c) e

-- ---- words

pub words_next : (c : List Entry) (i : ℕ) (e : Entry) (old new : List HeraldValue) → slice_get c i ≡ Some e → AreWords (take i c) old → AreRaisedBy e old new → AreWords (take (i + 1) c) new
words_next c i e old new is words raised broker k at =
    let r = raised.each broker k at in
    let w = words broker r.0 r.1 in
    (r.2 ∙ w.0, r.3 ∙ ap (unwrap_or (heard_by broker e)) w.1 ∙ sym (heard_next c i broker e is))

pub words_same : (c : List Entry) (old new : List HeraldValue) → AreWords c old → AreSameWords old new → AreWords c new
words_same c old new words same broker k at =
    let r = same.each broker k at in
    let w = words broker r.0 r.1 in
    (r.2 ∙ w.0, r.3 ∙ w.1)

-- ---- new heralds

pub new_length : (size : ℕ) → length (new_heralds size) ≡ size
new_length zero = refl
new_length (suc size) = length_pushed (new_heralds size) (new_herald size) ∙ ap suc (new_length size)
  where
    length_pushed : {X : Type 0} (xs : List X) (x : X) → length (xs ++ x ∷ []) ≡ suc (length xs)
    length_pushed [] x = refl
    length_pushed (y ∷ xs) x = ap suc (length_pushed xs x)

new_at : (size broker : ℕ) (h : HeraldValue) → slice_get (new_heralds size) broker ≡ Some h → new_herald broker ≡ h
new_at zero broker h is = cc
new_at (suc size) broker h is = elim (get_pushed (new_heralds size) (new_herald size) h broker is) [
  | inl there ↦ new_at size broker h there
  | inr last ↦ ap new_herald (last.0 ∙ new_length size) ∙ last.1
]

pub new_words : (size : ℕ) → AreWords [] (new_heralds size)
new_words size broker h is =
    let same = new_at size broker h is in
    (sym (ap (λ (x : HeraldValue). x.broker) same), sym (ap (λ (x : HeraldValue). x.number) same))

-- ---- a step, and a look

-- what holds of a call that went well
pub went_on : {X E : Type 0} (r : Result X E) (P : Type 0) → is_err r ≡ false → OnOk r P → P
went_on (Ok x) P well h = h
went_on (Err e) P well h = absurd (true≢false well)

-- what was told before the step
pub told_before : (before told chron made : List Entry) → before ≡ chron → told ≡ chron ++ made → take (length before) told ≡ chron
told_before before told chron made was is = ap₂ (λ p xs. take (length p) xs) was is ∙ take_at chron made (length chron) refl

pub hears_so : (size : ℕ) (c told : List Entry) (count : ℕ) → told ≡ c → size ≡ count → HearUpwards size c → HearUpwards count told
hears_so size c told count same long h = subst (λ xs. HearUpwards count xs) (sym same) (subst (λ n. HearUpwards n c) long h)

and_right : (a b : Bool) → (a && b) ≡ true → b ≡ true
and_right true b h = h
and_right false b h = absurd (true≢false (sym h))

and_left : (a b : Bool) → (a && b) ≡ true → a ≡ true
and_left true b h = refl
and_left false b h = h

-- a look is open in a world that isn't spent alone
pub open_lives : (v : NamedValue) (actor : ℕ) (seen : ℕ × ℕ) → is_open v actor seen ≡ true → v.world.spent ≡ false
open_lives v actor seen e = by v.world.spent (and_left (not v.world.spent) _ e)
  where
    by : (b : Bool) → not b ≡ true → b ≡ false
    by true h = absurd (true≢false (sym h))
    by false h = refl

-- what was seen is no more than what the broker has heard, since its herald has met the note
pub asked_so : (chron : List Entry) (heralds : List HeraldValue) (size : ℕ) (o : Option Looker) (seen : ℕ × ℕ) (number : ℕ) (live : Bool)
    → (live && option_map_or (λ (looker : Looker). (looker.broker == seen.0) && nat_le looker.need seen.1) o false) ≡ true
    → IfSome o (λ looker. looker.broker < size) → length heralds ≡ size → AreWords chron heralds
    → ((h : HeraldValue) → slice_get heralds seen.0 ≡ Some h → seen.1 ≤ h.number) → number ≡ seen.1
    → IsSomeAnd o (λ looker. (looker.need ≤ number) × (number ≤ heard_at chron looker.broker))
asked_so chron heralds size None seen number live asked low all words reached is = absurd (true≢false (sym (and_right live false asked)))
asked_so chron heralds size (Some looker) seen number live asked low all words reached is =
    let both = and_right live _ asked in
    let here : looker.broker ≡ seen.0 = eqb-true looker.broker seen.0 (and_left _ _ both) in
    let enough : looker.need ≤ seen.1 = leb-true looker.need seen.1 (and_right _ _ both) in
    let inside : seen.0 < length heralds = subst (λ n. seen.0 < n) (sym all) (subst (λ b. b < size) here low) in
    let h : HeraldValue = get_or heralds seen.0 (new_herald 0) in
    let at : slice_get heralds seen.0 ≡ Some h = slice_get-get_or heralds seen.0 (new_herald 0) inside in
    let heard : seen.1 ≤ heard_at chron seen.0 = subst (λ n. seen.1 ≤ n) (words seen.0 h at).1 (reached h at) in
    (subst (λ n. looker.need ≤ n) (sym is) enough, subst (λ n. n ≤ heard_at chron looker.broker) (sym is) (subst (λ b. seen.1 ≤ heard_at chron b) (sym here) heard))
