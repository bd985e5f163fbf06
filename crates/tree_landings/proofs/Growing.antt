-- Applied transactions land, and what they make are contents.
use Rattle.std.proofs.Common.{◌≡◌, ℕ, List, [], ◌∷◌, ◌++◌, length, Bool, true, false, cond, Some, None, Ok, Err, inl, inr, refl, sym, ap, ◌∙◌, subst, append_assoc, flat_map}
use Rattle.std.specs.Prelude.{Option, Result, Contains, filter, option_and_then}
use Rattle.std.specs.Cmp.Lexicographic.{bytes_decides}
use Rattle.std.specs.List.{cons_option}
use Rattle.std.proofs.lemmas.List.Concat.{flat_map-append}
use Rattle.std.proofs.lemmas.List.Elements.{filter_map-append, Contains-append_left, Contains-append_right, Contains-append_cases}
use Rattle.fl_digest.specs.declared.BlobRef.{BlobRef}
use Rattle.fl_digest.specs.declared.Hash.{Hash}
use Rattle.kvs_txn.specs.declared.answers.Refusal.{Refusal}
use Rattle.kvs_txn.specs.declared.txn.By.{By}
use Rattle.kvs_txn.specs.declared.txn.Group.{Group}
use Rattle.kvs_txn.specs.declared.txn.Scope.{Scope}
use Rattle.kvs_model.specs.Store.{Name, Store}
use Rattle.kvs_model.specs.History.{after, after_groups, landed_on}
use Rattle.kvs_model.specs.Operation.{effect}
use Rattle.kvs_rules.specs.declared.events.KvsEvent.TheVariants as event
use Rattle.kvs_rules.specs.Log.{Happened, Log}
use Rattle.kvs_rules.specs.Namespaces.{Setting, IsStoreIn, begun_at, landings, groups_landed, scope_of}
use Rattle.kvs_rules.proofs.Contents.{content_stays}
use Rattle.kvs_rules.proofs.Logs.{opened_stays}
use Rattle.tree_rules.specs.Held.{IsRootOf}
use Rattle.tree_rules.specs.Texts.{blobs, contents, directory_texts, is_long, values}
use Rattle.tree_store.specs.Landing.{table}
use Rattle.tree_landings.specs.Applied.{AreApplied, AreContents, Blobs, HasGrown, StandsLast}

pub grown : (hash : Hash) (space : Scope) (before : Blobs) (root : BlobRef) (groups : List Group) (after : Blobs) (new : BlobRef) (st : Store)
    → AreApplied hash space before root groups after new → IsRootOf hash (table before) root st → HasGrown hash space before groups after new st
grown hash space before root [] after new st h r = record {
  store = st;
  made = refl;
  rooted = subst (λ b. IsRootOf hash (table b) new st) h.0 (subst (λ x. IsRootOf hash (table before) x st) h.1 r);
  kept = λ reference bytes e. subst (λ b. table b reference ≡ Some bytes) h.0 e;
  only = λ reference bytes e. inl (subst (λ b. table b reference ≡ Some bytes) (sym h.0) e);
}
grown hash space before root (group ∷ groups) after new st h r =
    let l = h.2 st r in
    let mid = l.0 in
    let next = grown hash space h.0 h.1 groups after new mid h.3 l.2 in
    let on = λ (gs : List Group). ap (λ o. option_and_then (λ x. after_groups space gs x) (landed_on o)) l.1 in
    record {
      store = next.store;
      made = on groups ∙ next.made;
      rooted = next.rooted;
      kept = λ reference bytes e. next.kept reference bytes (l.3.0.kept reference bytes e);
      only = λ reference bytes e. elim (next.only reference bytes e) [
        | inl there ↦ elim (l.3.0.only reference bytes there) [
          | inl was ↦ inl was
          | inr blob ↦ inr (record { first = group ∷ []; rest = groups; split = refl; store = mid; made = on []; among = blob.0; named = blob.1 })
        ]
        | inr step ↦ inr (record { first = group ∷ step.first; rest = step.rest; split = ap (λ l. group ∷ l) step.split; store = step.store; made = on step.first ∙ step.made; among = step.among; named = step.named })
      ];
    }

-- ---- transactions one behind another

groups-joined : (space : Scope) (front back : List Group) (st mid : Store) → after_groups space front st ≡ Some mid → after_groups space (front ++ back) st ≡ after_groups space back mid
groups-joined space [] back st mid e = ap (after_groups space back) (same st mid e)
  where
    same : (x y : Store) → Some x ≡ Some y → x ≡ y
    same x y e = cc
groups-joined space (g ∷ front) back st mid e = by (effect st g.txn space) (λ new. groups-joined space front back new mid) e
  where
    by : (r : Result Store Refusal) → ((new : Store) → after_groups space front new ≡ Some mid → after_groups space (front ++ back) new ≡ after_groups space back mid)
        → option_and_then (λ new. after_groups space front new) (landed_on r) ≡ Some mid
        → option_and_then (λ new. after_groups space (front ++ back) new) (landed_on r) ≡ after_groups space back mid
    by (Ok new) again e = again new e
    by (Err refusal) again e = cc

abbrev all-of : List (List Group) → List Group
all-of = flat_map (λ groups. groups)

-- the store after all landings is that after all their transactions
all-landed : (space : Scope) (ls : List (List Group)) (st new : Store) → after space ls (length ls) st ≡ Some new → after_groups space (all-of ls) st ≡ Some new
all-landed space [] st new e = e
all-landed space (groups ∷ ls) st new e = by (after_groups space groups st) refl (λ mid. all-landed space ls mid new) e
  where
    by : (o : Option Store) → after_groups space groups st ≡ o → ((mid : Store) → after space ls (length ls) mid ≡ Some new → after_groups space (all-of ls) mid ≡ Some new)
        → option_and_then (λ mid. after space ls (length ls) mid) o ≡ Some new → after_groups space (groups ++ all-of ls) st ≡ Some new
    by None is again e = cc
    by (Some mid) is again e = groups-joined space groups (all-of ls) st mid is ∙ again mid e

-- ---- contents

some-filtered : {X : Type 0} (p : X → Bool) (xs : List X) (x : X) → Contains (filter p xs) x → Contains xs x
some-filtered p [] x h = h
some-filtered p (y ∷ ys) x h = by (some-filtered p ys x) (p y) refl
  where
    front : (Contains (filter p ys) x → Contains ys x) → Contains (y ∷ filter p ys) x → Contains (y ∷ ys) x
    front rest c = elim (Contains-append_cases (y ∷ []) (filter p ys) x c) [
      | inl a ↦ Contains-append_left (y ∷ []) ys x a
      | inr b ↦ Contains-append_right (y ∷ []) ys x (rest b)
    ]

    by : (Contains (filter p ys) x → Contains ys x) → (b : Bool) → p y ≡ b → Contains (y ∷ ys) x
    by rest true e = front rest (subst (λ t. Contains (cond t (y ∷ filter p ys) (filter p ys)) x) e h)
    by rest false e = Contains-append_right (y ∷ []) ys x (rest (subst (λ t. Contains (cond t (y ∷ filter p ys) (filter p ys)) x) e h))

blob-is-content : (hash : Hash) (st : Store) (bytes : List ℕ) → Contains (blobs hash st) bytes → Contains (contents hash st) bytes
blob-is-content hash st bytes h = elim (Contains-append_cases (directory_texts hash st) (filter is_long (values st)) bytes h) [
  | inl a ↦ Contains-append_left (directory_texts hash st) (values st) bytes a
  | inr b ↦ Contains-append_right (directory_texts hash st) (values st) bytes (some-filtered is_long (values st) bytes b)
]

module _ (set : Setting) (log more : Log) (space : Name) (number : ℕ) (authors : List (Option By)) (group : Group) (groups : List Group) where
  abbrev later : Log
  later = log ++ Happened (event.Landed space number authors (group ∷ groups)) ∷ more

  landed-there : landings later space ≡ landings log space ++ (group ∷ groups) ∷ landings more space
  landed-there =
      filter_map-append (groups_landed space) log (Happened (event.Landed space number authors (group ∷ groups)) ∷ more)
      ∙ ap (λ b. landings log space ++ cons_option (cond b (Some (group ∷ groups)) None) (landings more space)) ((bytes_decides space space).1 refl)

  -- a store behind the first ones of the landing's transactions is one of the instance
  step-stands : (st new : Store) (first rest : List Group) → StandsLast set log space st → group ∷ groups ≡ first ++ rest → after_groups (scope_of space) first st ≡ Some new → IsStoreIn set later space new
  step-stands st new first rest last split made =
      let old = all-of (landings log space) in
      let behind = all-of (landings more space) in
      record {
        opened = opened_stays log (Happened (event.Landed space number authors (group ∷ groups)) ∷ more) space last.opened;
        before = old ++ first;
        behind = rest ++ behind;
        split = ap all-of landed-there
            ∙ flat_map-append (λ gs. gs) (landings log space) ((group ∷ groups) ∷ landings more space)
            ∙ ap (λ gs. old ++ (gs ++ behind)) split
            ∙ ap (λ gs. old ++ gs) (append_assoc first rest behind)
            ∙ sym (append_assoc old first (rest ++ behind));
        made = groups-joined (scope_of space) old first (begun_at set space) st (all-landed (scope_of space) (landings log space) (begun_at set space) st last.made) ∙ made;
      }

  pub contents-land : (before after : Blobs) (root new : BlobRef) (st : Store)
      → AreApplied set.hash (scope_of space) before root (group ∷ groups) after new → IsRootOf set.hash (table before) root st
      → StandsLast set log space st → AreContents set log before → AreContents set later after
  contents-land before after root new st applied rooted last contents reference bytes there =
      let grows = grown set.hash (scope_of space) before root (group ∷ groups) after new st applied rooted in
      elim (grows.only reference bytes there) [
        | inl was ↦
            let is = contents reference bytes was in
            (is.0, content_stays set log (Happened (event.Landed space number authors (group ∷ groups)) ∷ more) bytes is.1)
        | inr step ↦ (
          step.named,
          inr (record {
            space = space;
            st = step.store;
            stands = step-stands st step.store step.first step.rest last step.split step.made;
            among = blob-is-content set.hash step.store bytes step.among;
          }),
        )
      ]
