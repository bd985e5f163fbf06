-- How often a command is among those that wait.
use Rattle.std.proofs.Common.{◌≡◌, ◌≢◌, ℕ, zero, suc, ◌+◌, ◌<◌, ◌≤◌, List, [], ◌∷◌, ◌++◌, Bool, true, false, cond, if◌then◌else◌, ◌||◌, nat_lt, Some, map, count_by, refl, sym, ap, ◌∙◌, subst, arith, bytes_eq, true≢false}
use Rattle.std.specs.List.{list_any, AllByRecursion as Each}
use Rattle.std.specs.Option.{option_map_or}
use Rattle.std.specs.Map.{remove_entry}
use Rattle.indexmap.specs.IndexMap.{insert_entry}
use Rattle.std.proofs.lemmas.List.Folds.{list_any-append}
use Rattle.std.proofs.lemmas.List.Sums.{sum_by-cons, sum_by-append}
use Rattle.kvs_txn.specs.declared.txn.By.{By}
use Rattle.kvs_txn.specs.declared.txn.Group.{Group}
use Rattle.fence_merge.specs.declared.member.Member.{Member}
use Rattle.fence_merge.specs.Groups.{authors_of, group_of}
use Rattle.fence_merge.specs.Fences.{Fence, Fences, fence_of, members_of}
use Rattle.fence_merge.specs.Merging.{MergerValue, completes, joined, pushed}
use Rattle.kvs_rules.specs.Sequence.{AreDistinct}
use Rattle.kvs_rules.specs.Log.{Log, same_command}
use Rattle.kvs_rules.specs.Namespaces.{Setting}
use Rattle.kvs_rules.specs.Landings.{AreFresh, IsFreshCommand}
use Rattle.kvs_rules.proofs.Asking.{command_is}
use Rattle.kvs_space.specs.Space.{is_authored, members_in, queued}
use Rattle.kvs_space.proofs.Finding.{lt-true, lt-is}
use Rattle.kvs_keys.proofs.Carried.{waiting, waiting-append, waiting-cons, among-is, each-among, each-map, bringer, solo-waiting, map-append}
use Rattle.kvs_requests.proofs.Tables.{same-self}

abbrev pub times : By → List By → ℕ
times by bys = count_by (same_command by) bys

-- whether it is this command, as a number
abbrev pub one_if : By → By → ℕ
one_if a b = cond (same_command a b) 1 0

pub times-cons : (x b : By) (bys : List By) → times x (b ∷ bys) ≡ one_if x b + times x bys
times-cons x b bys = sum_by-cons (λ y. cond (same_command x y) 1 0) b bys

pub times-append : (x : By) (us bs : List By) → times x (us ++ bs) ≡ times x us + times x bs
times-append x us bs = sum_by-append (λ y. cond (same_command x y) 1 0) us bs

one-yes : (x b : By) → same_command x b ≡ true → one_if x b ≡ 1
one-yes x b e = ap (λ t. cond t 1 0) e

one-no : (x b : By) → same_command x b ≡ false → one_if x b ≡ 0
one-no x b e = ap (λ t. cond t 1 0) e

none-times : (x : By) (bys : List By) → Each (λ y. x ≢ y) bys → times x bys ≡ 0
none-times x [] h = refl
none-times x (b ∷ bys) h = by (same_command x b) refl (none-times x bys h.1)
  where
    by : (t : Bool) → same_command x b ≡ t → times x bys ≡ 0 → times x (b ∷ bys) ≡ 0
    by true e rest = absurd (h.0 (command_is x b e))
    by false e rest = let c = times-cons x b bys in let o = one-no x b e in omega arith

pub zero-apart : (x : By) (bys : List By) → times x bys ≡ 0 → Each (λ y. x ≢ y) bys
zero-apart x [] e = tt
zero-apart x (b ∷ bys) e = (
  λ q. let s : same_command x b ≡ true = ap (same_command x) (sym q) ∙ same-self x in let o = one-yes x b s in let c = times-cons x b bys in absurd (omega arith),
  zero-apart x bys (let c = times-cons x b bys in omega arith),
)

distinct-once : (bys : List By) → AreDistinct bys → (x : By) → times x bys ≤ 1
distinct-once [] h x = let e : times x [] ≡ 0 = refl in omega arith
distinct-once (b ∷ bys) h x = by (same_command x b) refl (distinct-once bys h.1 x)
  where
    by : (t : Bool) → same_command x b ≡ t → times x bys ≤ 1 → times x (b ∷ bys) ≤ 1
    by true e rest =
        let z : times x bys ≡ 0 = none-times x bys (subst (λ y. Each (λ z. y ≢ z) bys) (sym (command_is x b e)) h.0) in
        let c = times-cons x b bys in let o = one-yes x b e in omega arith
    by false e rest = let c = times-cons x b bys in let o = one-no x b e in omega arith

once-distinct : (bys : List By) → ((x : By) → times x bys ≤ 1) → AreDistinct bys
once-distinct [] h = tt
once-distinct (b ∷ bys) h = (
  zero-apart b bys (let q = h b in let c = times-cons b b bys in let o = one-yes b b (same-self b) in omega arith),
  once-distinct bys (λ x. let q = h x in let c = times-cons x b bys in omega arith),
)

pub among-times : (x : By) (bys : List By) → list_any (same_command x) bys ≡ nat_lt 0 (times x bys)
among-times x [] = refl
among-times x (b ∷ bys) = by (same_command x b) refl (among-times x bys)
  where
    by : (t : Bool) → same_command x b ≡ t → list_any (same_command x) bys ≡ nat_lt 0 (times x bys) → (same_command x b || list_any (same_command x) bys) ≡ nat_lt 0 (times x (b ∷ bys))
    by true e rest = ap (λ t. t || list_any (same_command x) bys) e ∙ sym (lt-true 0 (times x (b ∷ bys)) (let c = times-cons x b bys in let o = one-yes x b e in omega arith))
    by false e rest = ap (λ t. t || list_any (same_command x) bys) e ∙ rest ∙ ap (nat_lt 0) (let c = times-cons x b bys in let o = one-no x b e in let r : times x bys ≡ times x (b ∷ bys) = omega arith in r)

authored-among : (x : By) (gs : List Group) → list_any (is_authored x) gs ≡ list_any (same_command x) (waiting gs)
authored-among x [] = refl
authored-among x (g ∷ gs) =
    ap (λ b. is_authored x g || b) (authored-among x gs) ∙ sym (ap (list_any (same_command x)) (waiting-cons g gs) ∙ list_any-append (same_command x) g.authors (waiting gs))

pub authored-times : (x : By) (gs : List Group) → list_any (is_authored x) gs ≡ nat_lt 0 (times x (waiting gs))
authored-times x gs = authored-among x gs ∙ among-times x (waiting gs)

-- one more command waits
pub fresh-more : {set₀ : Setting} {log : Log} (old new : List By) (by : By) → AreFresh set₀ log old → IsFreshCommand set₀ log by → times by old ≡ 0 → ((x : By) → times x new ≡ times x old + one_if x by) → AreFresh set₀ log new
fresh-more {set₀} {log} old new by h command none more = record {
  differ = once-distinct new (λ x. once x (same_command x by) refl);
  fresh = each-map (λ x. list_any (same_command x) new ≡ true) (IsFreshCommand set₀ log) new (each-among new) (λ x t. one x (same_command x by) refl t);
} where
  once : (x : By) (t : Bool) → same_command x by ≡ t → times x new ≤ 1
  once x true e =
      let z : times x old ≡ 0 = ap (λ b. times b old) (command_is x by e) ∙ none in
      let m = more x in let o = one-yes x by e in omega arith
  once x false e = let m = more x in let o = one-no x by e in let d = distinct-once old h.differ x in omega arith

  one : (x : By) (t : Bool) → same_command x by ≡ t → list_any (same_command x) new ≡ true → IsFreshCommand set₀ log x
  one x true e t = subst (IsFreshCommand set₀ log) (sym (command_is x by e)) command
  one x false e t =
      let some : 0 < times x new = lt-is 0 (times x new) (sym (among-times x new) ∙ t) in
      let m = more x in let o = one-no x by e in
      let was : 0 < times x old = omega arith in
      among-is (IsFreshCommand set₀ log) x old (among-times x old ∙ lt-true 0 (times x old) was) h.fresh

pub carried-more : (old new : List Group) (by x : By) → times x (waiting new) ≡ times x (waiting old) + one_if x by → list_any (is_authored x) new ≡ (list_any (is_authored x) old || same_command x by)
carried-more old new by x more = authored-times x new ∙ at (same_command x by) refl ∙ ap (λ b. b || same_command x by) (sym (authored-times x old))
  where
    or-yes : (b : Bool) → (b || true) ≡ true
    or-yes true = refl
    or-yes false = refl

    or-no : (b : Bool) → (b || false) ≡ b
    or-no true = refl
    or-no false = refl

    at : (t : Bool) → same_command x by ≡ t → nat_lt 0 (times x (waiting new)) ≡ (nat_lt 0 (times x (waiting old)) || same_command x by)
    at true e = lt-true 0 (times x (waiting new)) (let m = more in let o = one-yes x by e in omega arith) ∙ sym (ap (λ b. nat_lt 0 (times x (waiting old)) || b) e ∙ or-yes _)
    at false e = ap (nat_lt 0) (let m = more in let o = one-no x by e in let r : times x (waiting new) ≡ times x (waiting old) = omega arith in r) ∙ sym (ap (λ b. nat_lt 0 (times x (waiting old)) || b) e ∙ or-no _)

-- the same commands wait
pub fresh-same : {set₀ : Setting} {log : Log} (old new : List By) → AreFresh set₀ log old → ((x : By) → times x new ≡ times x old) → AreFresh set₀ log new
fresh-same {set₀} {log} old new h same = record {
  differ = once-distinct new (λ x. let m = same x in let d = distinct-once old h.differ x in omega arith);
  fresh = each-map (λ x. list_any (same_command x) new ≡ true) (IsFreshCommand set₀ log) new (each-among new) (λ x t. among-is (IsFreshCommand set₀ log) x old (among-times x old ∙ ap (nat_lt 0) (sym (same x)) ∙ sym (among-times x new) ∙ t) h.fresh);
}

pub carried-same : (old new : List Group) (x : By) → times x (waiting new) ≡ times x (waiting old) → list_any (is_authored x) new ≡ list_any (is_authored x) old
carried-same old new x same = authored-times x new ∙ ap (nat_lt 0) same ∙ sym (authored-times x old)

pub carried-grows : (old new : List Group) (x : By) → times x (waiting old) ≤ times x (waiting new) → list_any (is_authored x) old ≡ true → list_any (is_authored x) new ≡ true
carried-grows old new x le t =
    let some : 0 < times x (waiting old) = lt-is 0 (times x (waiting old)) (sym (authored-times x old) ∙ t) in
    authored-times x new ∙ lt-true 0 (times x (waiting new)) (omega arith)

pub unauthored-times : (x : By) (bys : List By) → list_any (same_command x) bys ≡ false → times x bys ≡ 0
unauthored-times x bys e = none (times x bys) (sym (among-times x bys) ∙ e)
  where
    none : (n : ℕ) → nat_lt 0 n ≡ false → n ≡ 0
    none zero f = refl
    none (suc n) f = absurd (true≢false (sym (lt-true 0 (suc n) (omega arith)) ∙ f))

-- a command that waits nowhere
pub uncarried-times : (by : By) (gs : List Group) → Each (λ b. b ≢ by) (waiting gs) → times by (waiting gs) ≡ 0
uncarried-times by gs h = none-times by (waiting gs) (each-map (λ b. b ≢ by) (λ y. by ≢ y) (waiting gs) h (λ y ne e. ne (sym e)))

-- how often a command brings a member
abbrev brings : By → List Member → ℕ
brings x ms = times x (authors_of ms)

brings-append : (x : By) (us bs : List Member) → brings x (us ++ bs) ≡ brings x us + brings x bs
brings-append x us bs = ap (times x) (map-append bringer us bs) ∙ times-append x (authors_of us) (authors_of bs)

brings-push : (x : By) (us : List Member) (m : Member) → brings x (us ++ m ∷ []) ≡ brings x us + one_if x (bringer m)
brings-push x us m =
    let a = brings-append x us (m ∷ []) in
    let c = times-cons x (bringer m) [] in
    let z : times x [] ≡ 0 = refl in
    omega arith

queued-times : (x : By) (m : MergerValue) → times x (waiting (queued m)) ≡ times x (waiting m.ready) + brings x (members_in m.fences)
queued-times x m =
    ap (times x) (waiting-append m.ready (map (group_of []) (members_in m.fences))) ∙ times-append x (waiting m.ready) (waiting (map (group_of []) (members_in m.fences)))
    ∙ ap (λ bs. times x (waiting m.ready) + times x bs) (solo-waiting (members_in m.fences))

waiting-push : (x : By) (gs : List Group) (g : Group) → times x (waiting (gs ++ g ∷ [])) ≡ times x (waiting gs) + times x g.authors
waiting-push x gs g =
    let a : times x (waiting (gs ++ g ∷ [])) ≡ times x (waiting gs) + times x (waiting (g ∷ [])) = ap (times x) (waiting-append gs (g ∷ [])) ∙ times-append x (waiting gs) (waiting (g ∷ [])) in
    let b : times x (waiting (g ∷ [])) ≡ times x g.authors + times x (waiting []) = ap (times x) (waiting-cons g []) ∙ times-append x g.authors (waiting []) in
    let z : times x (waiting []) ≡ 0 = refl in
    omega arith

-- a whole group comes
pub posted-times : (x : By) (old : MergerValue) (g : Group) → times x (waiting (queued (record { fences = old.fences; ready = old.ready ++ g ∷ [] }))) ≡ times x (waiting (queued old)) + times x g.authors
posted-times x old g =
    let a = queued-times x (record { fences = old.fences; ready = old.ready ++ g ∷ [] }) in
    let b = queued-times x old in
    let c = waiting-push x old.ready g in
    omega arith

-- a commit comes
pub pushed-times : (x : By) (old : MergerValue) (m : Member) → times x (waiting (queued (pushed old m))) ≡ times x (waiting (queued old)) + one_if x (bringer m)
pushed-times x old m =
    let a = posted-times x old (group_of [] m) in
    let c = times-cons x (bringer m) [] in
    let z : times x [] ≡ 0 = refl in
    omega arith

-- what a member of a fence makes of a merger, being the last one or not
abbrev pub come : List ℕ → MergerValue → ℕ → Member → Bool → MergerValue
come name old count m b = if b then record { fences = remove_entry (bytes_eq name) old.fences; ready = old.ready ++ group_of (members_of name old.fences) m ∷ [] } else record { fences = insert_entry bytes_eq old.fences name (record { count = count; members = members_of name old.fences ++ m ∷ [] }); ready = old.ready }

module _ (x : By) (name : List ℕ) where
  inserted-times : (f : Fence) (fs : Fences) → brings x (members_in (insert_entry bytes_eq fs name f)) + brings x (members_of name fs) ≡ brings x (members_in fs) + brings x f.members
  inserted-times f [] =
      let a = brings-append x f.members [] in
      let z : brings x [] ≡ 0 = refl in
      omega arith
  inserted-times f (e ∷ fs) = by (bytes_eq name e.0) (inserted-times f fs)
    where
      by : (b : Bool) → brings x (members_in (insert_entry bytes_eq fs name f)) + brings x (members_of name fs) ≡ brings x (members_in fs) + brings x f.members
          → brings x (members_in (cond b ((e.0, f) ∷ fs) (e ∷ insert_entry bytes_eq fs name f))) + brings x (option_map_or (λ g. g.members) (cond b (Some e.1) (fence_of name fs)) []) ≡ brings x (members_in (e ∷ fs)) + brings x f.members
      by true rest = let a = brings-append x f.members (members_in fs) in let c = brings-append x e.1.members (members_in fs) in omega arith
      by false rest = let a = brings-append x e.1.members (members_in (insert_entry bytes_eq fs name f)) in let c = brings-append x e.1.members (members_in fs) in omega arith

  removed-times : (fs : Fences) → brings x (members_in (remove_entry (bytes_eq name) fs)) + brings x (members_of name fs) ≡ brings x (members_in fs)
  removed-times [] = let z : brings x [] ≡ 0 = refl in omega arith
  removed-times (e ∷ fs) = by (bytes_eq name e.0) (removed-times fs)
    where
      by : (b : Bool) → brings x (members_in (remove_entry (bytes_eq name) fs)) + brings x (members_of name fs) ≡ brings x (members_in fs)
          → brings x (members_in (cond b fs (e ∷ remove_entry (bytes_eq name) fs))) + brings x (option_map_or (λ g. g.members) (cond b (Some e.1) (fence_of name fs)) []) ≡ brings x (members_in (e ∷ fs))
      by true rest = let c = brings-append x e.1.members (members_in fs) in omega arith
      by false rest = let a = brings-append x e.1.members (members_in (remove_entry (bytes_eq name) fs)) in let c = brings-append x e.1.members (members_in fs) in omega arith

  -- a member of a fence comes
  pub joined-times : (old : MergerValue) (count : ℕ) (m : Member) → times x (waiting (queued (joined old name count m))) ≡ times x (waiting (queued old)) + one_if x (bringer m)
  joined-times old count m = by (completes old.fences name count)
    where
      by : (b : Bool) → times x (waiting (queued (come name old count m b))) ≡ times x (waiting (queued old)) + one_if x (bringer m)
      by true =
          let a = queued-times x (come name old count m true) in
          let b = queued-times x old in
          let c = waiting-push x old.ready (group_of (members_of name old.fences) m) in
          let d = removed-times old.fences in
          let e = brings-push x (members_of name old.fences) m in
          omega arith
      by false =
          let a = queued-times x (come name old count m false) in
          let b = queued-times x old in
          let d = inserted-times (record { count = count; members = members_of name old.fences ++ m ∷ [] }) old.fences in
          let e = brings-push x (members_of name old.fences) m in
          omega arith
