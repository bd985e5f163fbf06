-- The members of open fences, found by their commands.
use Rattle.std.proofs.Common.{◌≡◌, ℕ, suc, ◌<◌, List, [], ◌∷◌, ◌++◌, length, Bool, true, false, cond, ◌||◌, Some, None, Contains, map, refl, sym, ap, ◌∙◌, subst, arith, bytes_eq, true≢false}
use Rattle.std.specs.List.{list_any, IsDistinct, AllByRecursion as Each}
use Rattle.std.specs.Map.{keys_of}
use Rattle.std.specs.Cmp.Lexicographic.{bytes_decides}
use Rattle.std.proofs.lemmas.List.Folds.{list_any-append, list_any_at}
use Rattle.kvs_txn.specs.declared.txn.By.{By}
use Rattle.kvs_txn.specs.declared.txn.Txn.{Txn}
use Rattle.kvs_model.specs.Store.{Name}
use Rattle.fence_merge.specs.declared.member.Member.{Member}
use Rattle.fence_merge.specs.Groups.{authors_of, group_of}
use Rattle.fence_merge.specs.Fences.{AreOpen, Fence, Fences, fence_of}
use Rattle.fence_merge.specs.Merging.{MergerValue}
use Rattle.kvs_rules.specs.declared.events.KvsAsk.TheVariants as ask
use Rattle.kvs_rules.specs.Log.{same_command}
use Rattle.kvs_rules.specs.Namespaces.{Setting, Asks}
use Rattle.kvs_rules.specs.Sequence.{AreDistinct}
use Rattle.kvs_rules.proofs.Asking.{command_is}
use Rattle.kvs_space.specs.Space.{is_authored, members_in, queued}
use Rattle.kvs_keys.specs.Agrees.{AreJoining}
use Rattle.kvs_keys.proofs.Carried.{bringer, map-append, or-one, or-other, distinct-left, distinct-right}
use Rattle.kvs_keys.proofs.Joining.{found-asks}
use Rattle.kvs_requests.proofs.Tables.{same-self}

pick : {X : Type 0} (a b : Bool) → (a || b) ≡ true → (a ≡ true → X) → (b ≡ true → X) → X
pick true b e f g = f refl
pick false b e f g = g e

-- a command among these is in the list
pub any-among : (x : By) (bys : List By) → list_any (same_command x) bys ≡ true → Contains bys x
any-among x [] e = absurd (true≢false (sym e))
any-among x (b ∷ bys) e = pick (same_command x b) (list_any (same_command x) bys) e
    (λ t. (0, omega arith, sym (command_is x b t)))
    (λ t. let r = any-among x bys t in (suc r.0, (let l = r.1 in omega arith), r.2))

pub among-any : (x : By) (bys : List By) → Contains bys x → list_any (same_command x) bys ≡ true
among-any x bys h = list_any_at (same_command x) bys h.0 x h.1 (ap (same_command x) h.2 ∙ same-self x)

-- whether a command brings one of these members
brought : (x : By) (ms : List Member) → list_any (is_authored x) (map (group_of []) ms) ≡ list_any (same_command x) (authors_of ms)
brought x [] = refl
brought x (m ∷ ms) = at (same_command x (bringer m)) (brought x ms)
  where
    at : (b : Bool) → list_any (is_authored x) (map (group_of []) ms) ≡ list_any (same_command x) (authors_of ms) → ((b || false) || list_any (is_authored x) (map (group_of []) ms)) ≡ (b || list_any (same_command x) (authors_of ms))
    at true rest = refl
    at false rest = rest

brought-append : (x : By) (ms ns : List Member) → list_any (same_command x) (authors_of (ms ++ ns)) ≡ (list_any (same_command x) (authors_of ms) || list_any (same_command x) (authors_of ns))
brought-append x ms ns = ap (list_any (same_command x)) (map-append bringer ms ns) ∙ list_any-append (same_command x) (authors_of ms) (authors_of ns)

-- the open fence that a command has joined
pub record HasJoinedFence (by : By) (fs : Fences) : Type 0 where
  pub name : List ℕ
  pub fence : Fence
  pub there : fence_of name fs ≡ Some fence
  pub inside : list_any (same_command by) (authors_of fence.members) ≡ true

absent : (name : List ℕ) (fs : Fences) → Each (λ y. bytes_eq name y ≡ false) (keys_of fs) → fence_of name fs ≡ None
absent name [] h = refl
absent name (e ∷ fs) h = ap (λ b. cond b (Some e.1) (fence_of name fs)) h.0 ∙ absent name fs h.1

behind-first : (e : List ℕ × Fence) (fs : Fences) (by : By) → Each (λ y. bytes_eq e.0 y ≡ false) (keys_of fs) → HasJoinedFence by fs → HasJoinedFence by (e ∷ fs)
behind-first e fs by apart f = record { name = f.name; fence = f.fence; there = at (bytes_eq f.name e.0) refl; inside = f.inside }
  where
    at : (b : Bool) → bytes_eq f.name e.0 ≡ b → cond (bytes_eq f.name e.0) (Some e.1) (fence_of f.name fs) ≡ Some f.fence
    at true t =
        let none : fence_of f.name fs ≡ None = ap (λ n. fence_of n fs) ((bytes_decides f.name e.0).0 t) ∙ absent e.0 fs apart in
        let bad : None ≡ Some f.fence = sym none ∙ f.there in
        cc
    at false t = ap (λ b. cond b (Some e.1) (fence_of f.name fs)) t ∙ f.there

found-in : (by : By) (fs : Fences) → IsDistinct bytes_eq (keys_of fs) → list_any (same_command by) (authors_of (members_in fs)) ≡ true → HasJoinedFence by fs
unfolding IsDistinct
found-in by [] apart h = absurd (true≢false (sym h))
found-in by (e ∷ fs) apart h = pick (list_any (same_command by) (authors_of e.1.members)) (list_any (same_command by) (authors_of (members_in fs))) (sym (brought-append by e.1.members (members_in fs)) ∙ h)
    (λ t. record { name = e.0; fence = e.1; there = ap (λ b. cond b (Some e.1) (fence_of e.0 fs)) ((bytes_decides e.0 e.0).1 refl); inside = t })
    (λ t. behind-first e fs by apart.0 (found-in by fs apart.1 t))

pub found-member : (fs : Fences) → IsDistinct bytes_eq (keys_of fs) → (by : By) → list_any (is_authored by) (map (group_of []) (members_in fs)) ≡ true → HasJoinedFence by fs
found-member fs apart by h = found-in by fs apart (sym (brought by (members_in fs)) ∙ h)

-- an open fence of the name
module _ (name : List ℕ) where
  pub fence-distinct : (fs : Fences) (f : Fence) → fence_of name fs ≡ Some f → AreDistinct (authors_of (members_in fs)) → AreDistinct (authors_of f.members)
  fence-distinct [] f h d = cc
  fence-distinct (e ∷ fs) f h d = at (bytes_eq name e.0) (fence-distinct fs f) h
    where
      both : AreDistinct (authors_of e.1.members ++ authors_of (members_in fs))
      both = subst AreDistinct (map-append bringer e.1.members (members_in fs)) d

      at : (b : Bool) → (fence_of name fs ≡ Some f → AreDistinct (authors_of (members_in fs)) → AreDistinct (authors_of f.members)) → cond b (Some e.1) (fence_of name fs) ≡ Some f → AreDistinct (authors_of f.members)
      at true rest g = let same : e.1 ≡ f = cc in subst (λ y. AreDistinct (authors_of y.members)) same (distinct-left (authors_of e.1.members) (authors_of (members_in fs)) both)
      at false rest g = rest g (distinct-right (authors_of e.1.members) (authors_of (members_in fs)) both)

  fence-brought : (fs : Fences) (f : Fence) → fence_of name fs ≡ Some f → (x : By) → list_any (same_command x) (authors_of f.members) ≡ true → list_any (same_command x) (authors_of (members_in fs)) ≡ true
  fence-brought [] f h x t = cc
  fence-brought (e ∷ fs) f h x t = brought-append x e.1.members (members_in fs) ∙ at (bytes_eq name e.0) (λ g. fence-brought fs f g x t) h
    where
      at : (b : Bool) → (fence_of name fs ≡ Some f → list_any (same_command x) (authors_of (members_in fs)) ≡ true) → cond b (Some e.1) (fence_of name fs) ≡ Some f → (list_any (same_command x) (authors_of e.1.members) || list_any (same_command x) (authors_of (members_in fs))) ≡ true
      at true rest g = let same : e.1 ≡ f = cc in or-one (list_any (same_command x) (authors_of e.1.members)) _ (ap (λ y. list_any (same_command x) (authors_of y.members)) same ∙ t)
      at false rest g = or-other (list_any (same_command x) (authors_of e.1.members)) _ (rest g)

  pub open-short : (fs : Fences) → AreOpen fs → (f : Fence) → fence_of name fs ≡ Some f → length f.members < f.count
  open-short [] h f e = cc
  open-short (x ∷ fs) h f e = at (bytes_eq name x.0) (open-short fs h.1 f) e
    where
      at : (b : Bool) → (fence_of name fs ≡ Some f → length f.members < f.count) → cond b (Some x.1) (fence_of name fs) ≡ Some f → length f.members < f.count
      at true rest g = let same : x.1 ≡ f = cc in subst (λ y. length y.members < y.count) same h.0.1
      at false rest g = rest g

pub fence-carried : (m : MergerValue) (name : List ℕ) (f : Fence) → fence_of name m.fences ≡ Some f → (x : By) → list_any (same_command x) (authors_of f.members) ≡ true → list_any (is_authored x) (queued m) ≡ true
fence-carried m name f h x t =
    list_any-append (is_authored x) m.ready (map (group_of []) (members_in m.fences))
    ∙ or-other (list_any (is_authored x) m.ready) _ (brought x (members_in m.fences) ∙ fence-brought name m.fences f h x t)

-- it asks to join the fence
pub member-asks : (set₀ : Setting) (space : Name) (name : List ℕ) (fs : Fences) → Each (AreJoining set₀ space) fs → (f : Fence) → fence_of name fs ≡ Some f → (x : By) → list_any (same_command x) (authors_of f.members) ≡ true → (txn : Txn) × Asks set₀ space x (ask.Fence name f.count txn)
member-asks set₀ space name fs h f e x t = one f.members (found-asks name set₀ space fs h f e) t
  where
    one : (ms : List Member) → Each (λ y. Asks set₀ space (bringer y) (ask.Fence name f.count y.txn)) ms → list_any (same_command x) (authors_of ms) ≡ true → (txn : Txn) × Asks set₀ space x (ask.Fence name f.count txn)
    one [] q u = absurd (true≢false (sym u))
    one (m ∷ ms) q u = pick (same_command x (bringer m)) (list_any (same_command x) (authors_of ms)) u
        (λ c. (m.txn, subst (λ y. Asks set₀ space y (ask.Fence name f.count m.txn)) (sym (command_is x (bringer m) c)) q.0))
        (λ v. one ms q.1 v)
