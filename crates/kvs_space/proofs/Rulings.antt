-- Rank 0 rules in a namespace.
use Rattle.std.proofs.Common.{◌≡◌, ◌≢◌, ℕ, suc, ◌+◌, ◌<◌, ◌≤◌, ◌⊎◌, inl, inr, List, [], ◌∷◌, ◌++◌, length, Bool, true, false, cond, Option, Some, None, Ok, Err, option_and_then, refl, sym, ap, ◌∙◌, subst, arith, get_or, set, append_assoc, length-append, true≢false}
use Rattle.std.specs.Prelude.{slice_index, nat_lt, ◌==◌}
use Rattle.std.proofs.lemmas.Bool.{cases_eq}
use Rattle.std.proofs.lemmas.List.{length-set, get_or-set_same, get_or-set_other}
use Rattle.kvs_txn.specs.declared.txn.Group.{Group}
use Rattle.kvs_txn.specs.declared.txn.Scope.{Scope}
use Rattle.kvs_txn.specs.declared.answers.Refusal.{Refusal}
use Rattle.kvs_model.specs.Store.{Name, Store}
use Rattle.kvs_model.specs.History.{after, after_groups, landed_on}
use Rattle.kvs_model.specs.Operation.{effect}
use Rattle.kvs_model.proofs.Histories.{after-kept}
use Rattle.kvs_rules.specs.Namespaces.{is_primary, scope_of}
use Rattle.kvs_rules.proofs.Stores.{after_push}
use Rattle.std.specs.List.{AllByRecursion as Each}
use Rattle.fence_merge.specs.Fences.{AreFences}
use Rattle.fence_merge.specs.Merging.{MergerValue}
use Rattle.kvs_rules.specs.Landings.{IsUser}
use Rattle.kvs_space.specs.Links.{IsAnnounced, IsAnnouncedBut}
use Rattle.kvs_space.specs.Rulings.{IsOfFirst, IsFirstRefused}
use Rattle.kvs_space.specs.Sound.{ArePosted, IsSoundSpace, idle}
use Rattle.kvs_space.specs.Space.{SpaceValue, seen, begun, members_in}
use Rattle.kvs_space.proofs.Announced.{below-newest}

-- one more group behind those that took effect
pub groups-push : (scope : Scope) (gs : List Group) (g : Group) (st mid new : Store) → after_groups scope gs st ≡ Some mid → effect mid g.txn scope ≡ Ok new → after_groups scope (gs ++ g ∷ []) st ≡ Some new
groups-push scope [] g st mid new e f =
    let same : st ≡ mid = cc in
    ap (λ s. option_and_then (λ x. Some x) (landed_on (effect s g.txn scope))) same ∙ ap (λ r. option_and_then (λ x. Some x) (landed_on r)) f
groups-push scope (x ∷ gs) g st mid new e f = onward (landed_on (effect st x.txn scope)) (λ y h. groups-push scope gs g y mid new h f) e
  where
    onward : (o : Option Store) → ((y : Store) → after_groups scope gs y ≡ Some mid → after_groups scope (gs ++ g ∷ []) y ≡ Some new) → option_and_then (λ y. after_groups scope gs y) o ≡ Some mid → option_and_then (λ y. after_groups scope (gs ++ g ∷ []) y) o ≡ Some new
    onward None again h = cc
    onward (Some y) again h = again y h

-- a group that is ready first is the one that was judged
pub first-made : (scope : Scope) (ready rest : List Group) (g : Group) (st new : Store) → ready ≡ g ∷ rest → IsOfFirst scope ready st new None → effect st g.txn scope ≡ Ok new
first-made scope ready rest g st new e h = subst (λ r. IsOfFirst scope r st new None) e h

pub first-refused : (scope : Scope) (ready rest : List Group) (g : Group) (st : Store) (refusal : Refusal) → ready ≡ g ∷ rest → IsFirstRefused scope ready st refusal → effect st g.txn scope ≡ Err refusal
first-refused scope ready rest g st refusal e h = subst (λ r. IsFirstRefused scope r st refusal) e h

pub judged-refused : (scope : Scope) (ready : List Group) (st new : Store) (refusal : Refusal) → IsOfFirst scope ready st new (Some refusal) → IsFirstRefused scope ready new refusal
judged-refused scope [] st new refusal h = absurd h
judged-refused scope (g ∷ rest) st new refusal h = subst (λ s. effect s g.txn scope ≡ Err refusal) (sym h.1) h.0

pub some-left : (ready gs rest : List Group) (at count : ℕ) → ready ≡ gs ++ rest → length gs ≡ at → count ≡ length ready → at < count → rest ≢ []
some-left ready gs rest at count e f n l none = let q = length-append gs rest in let z : length rest ≡ 0 = ap length none in let m : length ready ≡ length (gs ++ rest) = ap length e in omega arith

pub none-left : (ready gs rest : List Group) (at count : ℕ) → ready ≡ gs ++ rest → length gs ≡ at → count ≡ length ready → count ≤ at → rest ≡ []
none-left ready gs [] at count e f n l = refl
none-left ready gs (g ∷ rest) at count e f n l = absurd (let q = length-append gs (g ∷ rest) in let m : length ready ≡ length (gs ++ g ∷ rest) = ap length e in omega arith)

pub one-taken : (ready gs rest now : List Group) (g : Group) → ready ≡ gs ++ now → now ≡ g ∷ rest → ready ≡ (gs ++ g ∷ []) ++ rest
one-taken ready gs rest now g e f = e ∙ ap (λ x. gs ++ x) f ∙ sym (append_assoc gs (g ∷ []) rest)

-- a namespace after a landing that rank 0 has heard
module _ {fanout : ℕ} {grant : List ℕ} {s : SpaceValue} (sound : IsSoundSpace fanout grant s) (living : s.removed ≡ false) (groups : List Group) (new : Store) (number : ℕ) (counts : number ≡ slice_index s.known 0)
    (made : after_groups (scope_of s.name) groups (get_or s.stores 0 []) ≡ Some new) where
  first : Store
  first = begun grant s.name

  roots : slice_index s.known 0 ≡ 1 + length s.history
  roots =
      let e : ◌≡◌ {A = ℕ} (cond s.removed 1 0) 0 = ap (λ b. cond b 1 0) living in
      let n = sound.newest in
      omega arith

  mid : after (scope_of s.name) s.history (length s.history) (begun grant s.name) ≡ Some (get_or s.stores 0 [])
  mid =
      let n : seen (slice_index s.known 0) (length s.history) ≡ length s.history = let r = roots in omega arith in
      ap (λ k. after (scope_of s.name) s.history k (begun grant s.name)) (sym n) ∙ sound.replicas.each 0 sound.some

  at-zero : after (scope_of s.name) (s.history ++ groups ∷ []) (suc (length s.history)) (begun grant s.name) ≡ Some new
  at-zero = after_push (scope_of s.name) s.history groups (begun grant s.name) (get_or s.stores 0 []) mid ∙ made

  each : (b : ℕ) → b < length s.known → after (scope_of s.name) (s.history ++ groups ∷ []) (seen (slice_index (set s.known 0 (number + 1)) b) (length (s.history ++ groups ∷ []))) (begun grant s.name) ≡ Some (get_or (set s.stores 0 new) b [])
  each b l = elim (cases_eq b 0) [
    | inl z ↦
        let long = length-append s.history (groups ∷ []) in
        let is : slice_index (set s.known 0 (number + 1)) b ≡ number + 1 = ap (slice_index (set s.known 0 (number + 1))) z ∙ get_or-set_same s.known 0 (number + 1) 0 sound.some in
        let n : seen (slice_index (set s.known 0 (number + 1)) b) (length (s.history ++ groups ∷ [])) ≡ suc (length s.history) = let r = roots in omega arith in
        ap (λ k. after (scope_of s.name) (s.history ++ groups ∷ []) k (begun grant s.name)) n ∙ at-zero
        ∙ ap Some (sym (ap (λ x. get_or (set s.stores 0 new) x []) z ∙ get_or-set_same s.stores 0 new [] (let q = sound.replicas.same_len in let o = sound.some in omega arith)))
    | inr ne ↦
        let long = length-append s.history (groups ∷ []) in
        let is : slice_index (set s.known 0 (number + 1)) b ≡ slice_index s.known b = get_or-set_other s.known 0 b (number + 1) 0 ne in
        let low = below-newest sound.announced b l in
        let n : seen (slice_index (set s.known 0 (number + 1)) b) (length (s.history ++ groups ∷ [])) ≡ seen (slice_index s.known b) (length s.history) = let r = roots in omega arith in
        ap (λ k. after (scope_of s.name) (s.history ++ groups ∷ []) k (begun grant s.name)) n
        ∙ after-kept (scope_of s.name) s.history (groups ∷ []) (seen (slice_index s.known b) (length s.history)) (begun grant s.name) (get_or s.stores b []) (sound.replicas.each b l)
        ∙ ap Some (sym (get_or-set_other s.stores 0 b new [] ne))
  ]

  pub landed-space : (links : List (List ℕ)) (m : MergerValue) → m.fences ≡ s.merger.fences → ArePosted s.name m.ready new → IsAnnounced fanout (set s.known 0 (number + 1)) links
      → IsSoundSpace fanout grant (record { name = s.name; removed = s.removed; history = s.history ++ groups ∷ []; known = set s.known 0 (number + 1); stores = set s.stores 0 new; links = links; merger = m })
  landed-space links m fences posts announced = record {
    some = subst (λ n. 0 < n) (sym (length-set s.known 0 (number + 1))) sound.some;
    announced = announced;
    newest =
        let e : ◌≡◌ {A = ℕ} (cond s.removed 1 0) 0 = ap (λ b. cond b 1 0) living in
        let long = length-append s.history (groups ∷ []) in
        let same = get_or-set_same s.known 0 (number + 1) 0 sound.some in
        let r = roots in
        omega arith;
    replicas = record { same_len = length-set s.stores 0 new ∙ sound.replicas.same_len ∙ sym (length-set s.known 0 (number + 1)); each = λ b l. each b (simp length-set at l) };
    living = inl living;
    fences = subst AreFences (sym fences) sound.fences;
    members = subst (λ fs. Each (λ x. IsUser x.txn.author) (members_in fs)) (sym fences) sound.members;
    posts = subst (ArePosted s.name m.ready) (sym (get_or-set_same s.stores 0 new [] (let q = sound.replicas.same_len in let o = sound.some in omega arith))) posts;
  }

  -- the same, as the code comes to it
  pub ruled-space : (history : List (List Group)) (known : List ℕ) (links : List (List ℕ)) (m : MergerValue) → history ≡ s.history ++ groups ∷ [] → known ≡ set s.known 0 (number + 1) → m.fences ≡ s.merger.fences → ArePosted s.name m.ready new → IsAnnounced fanout known links
      → IsSoundSpace fanout grant (record { name = s.name; removed = s.removed; history = history; known = known; stores = set s.stores 0 new; links = links; merger = m })
  ruled-space history known links m h k fences posts announced = subst (IsSoundSpace fanout grant) (sym is) (landed-space links m fences posts (subst (λ x. IsAnnounced fanout x links) k announced))
    where
      is : ◌≡◌ {A = SpaceValue} (record { name = s.name; removed = s.removed; history = history; known = known; stores = set s.stores 0 new; links = links; merger = m })
          (record { name = s.name; removed = s.removed; history = s.history ++ groups ∷ []; known = set s.known 0 (number + 1); stores = set s.stores 0 new; links = links; merger = m })
      is = λ j. record { name = s.name; removed = s.removed; history = h j; known = k j; stores = set s.stores 0 new; links = links; merger = m }

pub nonempty : (xs ys : List Group) (b : Bool) → b ≡ (length ys == 0) → b ≡ false → ys ≡ xs → xs ≢ []
nonempty [] [] b e f g none = true≢false (sym e ∙ f)
nonempty [] (y ∷ ys) b e f g none = cc
nonempty (x ∷ xs) ys b e f g none = cc

-- a namespace in which something is ready is live
pub ready-live : (name : Name) (removed : Bool) (merger : MergerValue) → (removed ≡ false) ⊎ (is_primary name ≡ false) × (merger ≡ idle) → merger.ready ≢ [] → removed ≡ false
ready-live name removed merger (inl living) some = living
ready-live name removed merger (inr gone) some = absurd (some (ap (λ m. m.ready) gone.1))

pub ready-some : (xs : List Group) → nat_lt 0 (length xs) ≡ true → xs ≢ []
ready-some [] e none = true≢false (sym e)
ready-some (x ∷ xs) e none = cc

-- rank 0 is about to hear of the next root
pub next-but : {fanout : ℕ} {grant : List ℕ} {s : SpaceValue} → IsSoundSpace fanout grant s → (next : ℕ) → slice_index s.known 0 < next → IsAnnouncedBut 0 next fanout s.known s.links
next-but s next l = record {
  same_len = s.announced.same_len;
  within = s.some;
  higher = l;
  others = λ b pos below ne. s.announced.under b pos below;
  here = λ h. absurd (omega arith);
}
