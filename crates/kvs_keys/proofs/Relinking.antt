-- A service of keys in which other announcements are on the way, and nothing else has changed.
use Rattle.std.proofs.Common.{◌≡◌, ℕ, suc, ◌^◌, ◌+◌, ◌<◌, ◌≤◌, inl, inr, List, [], ◌∷◌, length, map, Bool, cond, not, Some, option_map, refl, sym, ap, ap₂, ◌∙◌, subst, arith, get_or, set}
use Rattle.std.specs.Prelude.{slice_get, slice_index}
use Rattle.std.specs.List.{count_by}
use Rattle.std.specs.Option.{option_map_or}
use Rattle.std.proofs.lemmas.Bool.{cases_eq, cases_lt}
use Rattle.std.proofs.lemmas.List.{length-set, length-map, get_or-map, get_or-set_same, get_or-set_other, get_or_default}
use Rattle.std.proofs.lemmas.List.Sums.{sum_by-cons}
use Rattle.std.proofs.lemmas.Option.{slice_get-get_or, slice_get_past}
use Rattle.fence_merge.specs.Fences.{fence_of}
use Rattle.kvs_model.specs.Store.{Name}
use Rattle.kvs_rules.specs.Log.{Log}
use Rattle.kvs_rules.specs.Namespaces.{Setting, most_live}
use Rattle.kvs_requests.specs.declared.rows.Stage.{Stage}
use Rattle.kvs_requests.specs.declared.rows.Stage.TheVariants as stage
use Rattle.kvs_requests.specs.Rows.{AtPlace}
use Rattle.kvs_requests.proofs.Tables.{rows-respaced}
use Rattle.kvs_space.specs.Losses.{resynced}
use Rattle.kvs_space.specs.Sound.{IsSoundSpace}
use Rattle.kvs_space.specs.Space.{SpaceValue, carries, known_at, live_in, name_at}
use Rattle.kvs_space.proofs.Losses.{resynced-links, with_links}
use Rattle.kvs_keys.specs.Agrees.{Agrees}
use Rattle.kvs_keys.specs.Sound.{IsSound}
use Rattle.kvs_keys.specs.Turns.{HasFence}
use Rattle.kvs_keys.specs.Value.{KeysValue}
use Rattle.kvs_keys.proofs.Heads.{agrees-of, head-of, rows-of}
use Rattle.kvs_keys.proofs.Heard.{no-space}
use Rattle.kvs_keys.proofs.Respacing.{alike}
use Rattle.kvs_keys.proofs.Turns.{turns-moved}

-- the table of another one's namespaces, with other announcements on the way
pub record IsRelinked (old new : List SpaceValue) : Type 0 where
  pub long : length new ≡ length old
  pub each : (k : ℕ) (d : SpaceValue) → k < length old → (links : List (List ℕ)) × (get_or new k d ≡ with_links (get_or old k d) links)

pub relinked-set : (spaces : List SpaceValue) (i : ℕ) (old : SpaceValue) (links : List (List ℕ)) → i < length spaces → old ≡ get_or spaces i old → IsRelinked spaces (set spaces i (with_links old links))
relinked-set spaces i old links within read = record {
  long = length-set spaces i (with_links old links);
  each = λ k d l. elim (cases_eq k i) [
    | inl e ↦ (links, ap (λ j. get_or (set spaces i (with_links old links)) j d) e ∙ get_or-set_same spaces i (with_links old links) d within ∙ ap (λ x. with_links x links) (read ∙ get_or_default spaces i old d within ∙ ap (λ j. get_or spaces j d) (sym e)))
    | inr ne ↦ ((get_or spaces k d).links, get_or-set_other spaces i k (with_links old links) d ne)
  ];
}

pub relinked-map : (fanout broker : ℕ) (spaces : List SpaceValue) → IsRelinked spaces (map (resynced fanout broker) spaces)
relinked-map fanout broker spaces = record {
  long = length-map spaces (resynced fanout broker);
  each = λ k d l. let e = resynced-links fanout broker (get_or spaces k d) in (e.0, get_or-map (resynced fanout broker) spaces k d d l ∙ e.1);
}

same-map : {X : Type 0} (f : SpaceValue → X) (xs ys : List SpaceValue) → length xs ≡ length ys → ((k : ℕ) (d : SpaceValue) → k < length ys → f (get_or xs k d) ≡ f (get_or ys k d)) → map f xs ≡ map f ys
same-map f [] [] e h = refl
same-map f [] (y ∷ ys) e h = absurd (omega (arith, e))
same-map f (x ∷ xs) [] e h = absurd (omega (arith, e))
same-map f (x ∷ xs) (y ∷ ys) e h = ap₂ (λ one rest. one ∷ rest) (h 0 x (omega arith)) (same-map f xs ys (omega (arith, e)) (λ k d l. h (suc k) d (omega arith)))

same-count : (p : SpaceValue → Bool) (xs ys : List SpaceValue) → length xs ≡ length ys → ((k : ℕ) (d : SpaceValue) → k < length ys → p (get_or xs k d) ≡ p (get_or ys k d)) → count_by p xs ≡ count_by p ys
same-count p [] [] e h = refl
same-count p [] (y ∷ ys) e h = absurd (omega (arith, e))
same-count p (x ∷ xs) [] e h = absurd (omega (arith, e))
same-count p (x ∷ xs) (y ∷ ys) e h =
    let first : ◌≡◌ {A = ℕ} (cond (p x) 1 0) (cond (p y) 1 0) = ap (λ b. cond b 1 0) (h 0 x (omega arith)) in
    let rest : count_by p xs ≡ count_by p ys = same-count p xs ys (omega (arith, e)) (λ k d l. h (suc k) d (omega arith)) in
    let a = sum_by-cons (λ s. cond (p s) 1 0) x xs in
    let b = sum_by-cons (λ s. cond (p s) 1 0) y ys in
    a ∙ ap₂ (λ m n. m + n) first rest ∙ sym b

module _ {old new : List SpaceValue} (r : IsRelinked old new) where
  -- what reads no links reads the same
  pub kept : {X : Type 0} (f : SpaceValue → X) → ((s : SpaceValue) (links : List (List ℕ)) → f (with_links s links) ≡ f s) → (k : ℕ) (d : SpaceValue) → k < length old → f (get_or new k d) ≡ f (get_or old k d)
  kept f same k d l = let e = r.each k d l in ap f e.1 ∙ same (get_or old k d) e.0

  pub kept-or : {X : Type 0} (f : SpaceValue → X) → ((s : SpaceValue) (links : List (List ℕ)) → f (with_links s links) ≡ f s) → (k : ℕ) (z : X) → option_map_or f (slice_get new k) z ≡ option_map_or f (slice_get old k) z
  kept-or f same k z = elim (cases_lt k (length old)) [
    | inl l ↦ ap (λ o. option_map_or f o z) (slice_get-get_or new k no-space (subst (λ n. k < n) (sym r.long) l)) ∙ kept f same k no-space l ∙ sym (ap (λ o. option_map_or f o z) (slice_get-get_or old k no-space l))
    | inr past ↦ ap (λ o. option_map_or f o z) (slice_get_past new k (subst (λ n. n ≤ k) (sym r.long) past) ∙ sym (slice_get_past old k past))
  ]

  pub names-kept : (k : ℕ) → name_at new k ≡ name_at old k
  names-kept k = elim (cases_lt k (length old)) [
    | inl l ↦ ap (option_map (λ s. s.name)) (slice_get-get_or new k no-space (subst (λ n. k < n) (sym r.long) l)) ∙ ap Some (kept (λ s. s.name) (λ s ls. refl) k no-space l) ∙ sym (ap (option_map (λ s. s.name)) (slice_get-get_or old k no-space l))
    | inr past ↦ ap (option_map (λ s. s.name)) (slice_get_past new k (subst (λ n. n ≤ k) (sym r.long) past) ∙ sym (slice_get_past old k past))
  ]

  pub known-kept : (k broker : ℕ) → known_at new k broker ≡ known_at old k broker
  known-kept k broker = kept-or (λ s. slice_index s.known broker) (λ s ls. refl) k 0

  inside : {k : ℕ} → k < length new → k < length old
  inside {k} l = subst (λ n. k < n) r.long l

  there : {k : ℕ} → k < length old → k < length new
  there {k} l = subst (λ n. k < n) (sym r.long) l

  placed-kept : (fanout size : ℕ) (st : Stage) → AtPlace fanout size old st → AtPlace fanout size new st
  placed-kept fanout size (stage.Rising from to asks) h = h
  placed-kept fanout size (stage.Arrived asks) h = h
  placed-kept fanout size (stage.Joined space work) h = there h
  placed-kept fanout size (stage.Landed space number work) h = (there h.0, subst (λ n. number < n) (sym (known-kept space 0)) h.1)
  placed-kept fanout size (stage.Falling from to given) h = h
  placed-kept fanout size (stage.Ended given) h = tt
  placed-kept fanout size (stage.Returning from to space asked) h = (h.0, h.1, h.2, there h.3)
  placed-kept fanout size (stage.Parked space asked) h = there h
  placed-kept fanout size (stage.Held number given) h = tt

  live-kept : live_in new ≡ live_in old
  live-kept = same-count (λ s. not s.removed) new old r.long (λ k d l. kept (λ s. not s.removed) (λ s ls. refl) k d l)

  fence-kept : (space : Name) (fence : List ℕ) (count : ℕ) → HasFence old space fence count → HasFence new space fence count
  fence-kept space fence count h = record {
    place = h.place;
    within = there h.within;
    named = λ d. kept (λ s. s.name) (λ s ls. refl) h.place d h.within ∙ h.named d;
    kept = λ d. kept (λ s. option_map (λ f. f.count) (fence_of fence s.merger.fences)) (λ s ls. refl) h.place d h.within ∙ h.kept d;
  }

module _ {v : KeysValue} (spaces : List SpaceValue) (r : IsRelinked v.spaces spaces) (spent : Bool) where
  pub relinked-sound : IsSound v → ((k : ℕ) (d : SpaceValue) → k < length spaces → IsSoundSpace v.fanout v.grant (get_or spaces k d))
      → IsSound (record { spent = spent; size = v.size; fanout = v.fanout; grant = v.grant; spaces = spaces; rows = v.rows })
  relinked-sound s sound = record {
    fanout = s.fanout;
    size = s.size;
    brokers = λ k d l. kept r (λ x. length x.known) (λ x ls. refl) k d (inside r l) ∙ s.brokers k d (inside r l);
    spaces = sound;
    few = subst (λ n. n < 2 ^ 32) (sym r.long) s.few;
    room = subst (λ n. n ≤ most_live) (sym (live-kept r)) s.room;
    first = names-kept r 0 ∙ s.first;
    apart = λ i j d lt l e.
        let lj = inside r l in
        s.apart i j d lt lj (sym (kept r (λ x. x.name) (λ x ls. refl) i d (omega arith)) ∙ e ∙ kept r (λ x. x.name) (λ x ls. refl) j d lj);
    placed = λ j d l. let p = s.placed j d l in record { home = p.home; place = placed-kept r v.fanout v.size (get_or v.rows j d).stage p.place };
  }

  pub relinked-agrees : {set₀ : Setting} {log : Log} → Agrees v set₀ log → Agrees (record { spent = spent; size = v.size; fanout = v.fanout; grant = v.grant; spaces = spaces; rows = v.rows }) set₀ log
  relinked-agrees a =
      let head = head-of a in
      agrees-of
      (record {
        size_is = head.size_is;
        fanout_is = head.fanout_is;
        base_is = head.base_is;
        links_are = head.links_are;
        owned = head.owned;
        names = same-map (λ x. x.name) spaces v.spaces r.long (λ k d l. kept r (λ x. x.name) (λ x ls. refl) k d l) ∙ head.names;
        each = λ k d l.
            let e = (r.each k d (inside r l)).1 in
            alike (head.each k d (inside r l)) (get_or spaces k d) (ap (λ x. x.name) e) (ap (λ x. x.removed) e) (ap (λ x. x.history) e) (ap (λ x. x.known) e) (ap (λ x. x.merger) e);
        untold = head.untold;
      }) (rows-respaced (rows-of a) spaces r.long (names-kept r) (λ k d by l. kept r (λ x. carries x by) (λ x ls. refl) k d l))
      (λ settled. turns-moved (a.turns settled) spaces v.rows (fence-kept r) (λ by c. c))
