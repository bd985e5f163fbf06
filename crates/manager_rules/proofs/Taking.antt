-- What is due takes effect, and leaves nothing but jobs below `job`.
use Rattle.std.proofs.Common.{◌≡◌, ℕ, ◌+◌, ◌<◌, List, [], ◌∷◌, ◌++◌, Bool, true, false, cond, length, Option, Some, None, Result, Ok, codes, refl, sym, ap, ◌∙◌, subst, true≢false, arith, inl, inr}
use Rattle.std.specs.Prelude.{IsSome, option_and_then}
use Rattle.std.specs.Ordering.{eq_by_cmp}
use Rattle.std.specs.List.{AllByRecursion as Each}
use Rattle.std.proofs.lemmas.List.{length-map}
use Rattle.event_log.specs.Events.{line_text}
use Rattle.event_log.specs.Logs.{log_text}
use Rattle.job_rules.proofs.Among.{Among, among_from, each_at}
use Rattle.kvs_txn.specs.declared.answers.Refusal.{Refusal}
use Rattle.kvs_txn.specs.declared.txn.Author.TheVariants as author
use Rattle.kvs_txn.specs.declared.txn.Op.{Op}
use Rattle.kvs_txn.specs.declared.txn.Op.TheVariants as op
use Rattle.kvs_txn.specs.declared.txn.Scope.TheVariants as scope
use Rattle.kvs_txn.specs.declared.txn.Txn.{Txn}
use Rattle.kvs_model.specs.History.{after_groups, first_store, landed_on}
use Rattle.kvs_model.specs.Operation.{appended, changed, effect, op_effect, ops_effect, placed, then_rest}
use Rattle.kvs_model.specs.Store.{IsStore, Name, Node, Path, Store, Value, is_within, node_at, path_cmp}
use Rattle.kvs_model.proofs.Paths.{path_from_test}
use Rattle.store_laws.specs.Posts.{AreTaken, IsPutBelow, jobs}
use Rattle.store_laws.specs.Reserved.{HasNoLink, IsUsers}
use Rattle.store_laws.proofs.Users.{users_leave}
use Rattle.manager_rules.specs.declared.due.Due.{Due}
use Rattle.manager_rules.specs.Due.{IsDue}
use Rattle.manager_rules.specs.Jobs.{AreJobsOf, HasOnlyJobs, IsJobKey, IsStored, StoredJob, ids_of}
use Rattle.manager_rules.specs.Keys.{job_path, log_path, r_path, spec_path, value_at}
use Rattle.manager_rules.specs.Posts.{Desk, Does, IsDesk, IsDuePost, IsOpenSubmit, Post, Submits, begun_with, group_of, job_of, jobs_after, ops_of, r_ops, txn_of, with_job}
use Rattle.manager_rules.proofs.Below.{append_works, put_keeps, put_works}
use Rattle.manager_rules.proofs.Landing.{among_ids, with_event_ids}
use Rattle.manager_rules.proofs.Stores.{appends, changes_at, first_made, puts, value_node}
use Rattle.manager_rules.proofs.Submitting.{id_with}
use Rattle.manager_rules.proofs.Telling.{asks}

-- ---- first stores and users

found_entry : (es : Store) (q : Path) → IsSome (node_at es q) → (e : Path × Node) × Among e es × (q ≡ e.0)
found_entry [] q some = absurd (true≢false (sym some))
found_entry (e ∷ es) q some = at (found_entry es q) (eq_by_cmp path_cmp q e.0) refl some
  where
    at : (IsSome (node_at es q) → (f : Path × Node) × Among f es × (q ≡ f.0)) → (b : Bool) → eq_by_cmp path_cmp q e.0 ≡ b → IsSome (cond b (Some e.1) (node_at es q)) → (f : Path × Node) × Among f (e ∷ es) × (q ≡ f.0)
    at later true t some = (e, inl refl, path_from_test q e.0 t)
    at later false t some = let f = later some in (f.0, inr f.1, f.2)

first_alone : (grant : List ℕ) (path : Path) → is_within (codes "job" ∷ []) path ≡ true → IsSome (node_at (first_store grant) path) → path ≡ codes "job" ∷ []
first_alone grant path inside some =
    let found = found_entry (first_store grant) path some in
    let none : (p : Path) → is_within (codes "job" ∷ []) p ≡ false → p ≡ found.0.0 → path ≡ codes "job" ∷ [] =
    λ p out e. absurd (true≢false (sym inside ∙ ap (is_within (codes "job" ∷ [])) (found.2 ∙ sym e) ∙ out)) in
    elim found.1 [
      | inl a ↦ none [] refl (ap (λ x. x.0) a)
      | inr more ↦ elim more [
        | inl b ↦ found.2 ∙ sym (ap (λ x. x.0) b)
        | inr last ↦ elim last [
          | inl c ↦ none (codes "resource" ∷ []) refl (ap (λ x. x.0) c)
          | inr end ↦ elim end [ inl d ↦ none (codes "resource" ∷ codes "R" ∷ []) refl (ap (λ x. x.0) d) | inr nothing ↦ absurd nothing ]
        ]
      ]
    ]

pub first_only : (grant : List ℕ) → HasOnlyJobs (first_store grant) []
first_only grant = record { directory = refl; only = λ path inside some. inl (first_alone grant path inside some) }

pub users_keep_only : (st new : Store) (txn : Txn) (ids : List ℕ) → IsUsers txn → effect st txn scope.Primary ≡ Ok new → HasOnlyJobs st ids → HasOnlyJobs new ids
users_keep_only st new txn ids user e h = record {
  directory = same (codes "job" ∷ []) refl ∙ h.directory;
  only = λ path inside some. h.only path inside (subst IsSome (same path inside) some);
}
  where
    same : (path : Path) → is_within (codes "job" ∷ []) path ≡ true → node_at new path ≡ node_at st path
    same path inside = users_leave st new txn (codes "job") path user (inl refl) inside e

-- ---- one operation

-- a store with jobs alone below `job`
record Kept (st : Store) (ids : List ℕ) : Type 0 where
  store : IsStore st
  plain : HasNoLink st (codes "job" ∷ [])
  only : HasOnlyJobs st ids

same_store : (a b : Store) → (let r : Result Store Refusal = Ok a in r ≡ Ok b) → a ≡ b
same_store a b e = cc

put_kept : (st new : Store) (ids more : List ℕ) → Kept st ids → ((i : ℕ) → Among i ids → Among i more) → (id : ℕ) → Among id more → (key : Name) → IsJobKey key → (bytes : List ℕ)
    → op_effect st author.Manager scope.Primary (op.Put (job_path id ++ key ∷ []) bytes) ≡ Ok new → Kept new more
put_kept st new ids more k known id mine key named bytes made =
    let p = puts st new id key bytes k.store k.plain made in
    let at = changes_at st new (op.Put (job_path id ++ key ∷ []) bytes) id key k.store k.plain refl made in
    record { store = p.store; plain = p.plain; only = subst (λ s. HasOnlyJobs s more) (sym at) (put_keeps st ids more k.only known id mine key named bytes) }

append_kept : (st new : Store) (ids : List ℕ) → Kept st ids → (id : ℕ) → Among id ids → (key : Name) → IsJobKey key → (old bytes : List ℕ) → node_at st (job_path id ++ key ∷ []) ≡ Some (Value old)
    → op_effect st author.Manager scope.Primary (op.Append (job_path id ++ key ∷ []) bytes) ≡ Ok new → Kept new ids
append_kept st new ids k id mine key named old bytes was made =
    let p = appends st new id key old bytes k.store k.plain was made in
    let at = changes_at st new (op.Append (job_path id ++ key ∷ []) bytes) id key k.store k.plain refl made in
    record { store = p.store; plain = p.plain; only = subst (λ s. HasOnlyJobs s ids) (sym at) (put_keeps st ids ids k.only (λ i a. a) id mine key named (appended (node_at st (job_path id ++ key ∷ [])) bytes)) }

-- ---- the operations of a post

module _ (ids : List ℕ) (id : ℕ) (mine : Among id ids) where
  r_kept : (r : Option (List ℕ)) (mid new : Store) → Kept mid ids → ops_effect author.Manager scope.Primary 2 (r_ops id r) mid ≡ Ok new → HasOnlyJobs new ids
  r_kept None mid new k e = subst (λ s. HasOnlyJobs s ids) (same_store mid new e) k.only
  r_kept (Some text) mid new k e =
      let m = first_made 2 (op_effect mid author.Manager scope.Primary (op.Put (r_path id) text)) (λ s. ops_effect author.Manager scope.Primary 3 [] s) new e in
      subst (λ s. HasOnlyJobs s ids) (same_store m.0 new m.2) (put_kept mid m.0 ids ids k (λ i a. a) id mine (codes "R") (inr (inl refl)) text m.1).only

  r_takes : length ids + 3 < 2048 → (r : Option (List ℕ)) (mid : Store) → Kept mid ids → (new : Store) × (ops_effect author.Manager scope.Primary 2 (r_ops id r) mid ≡ Ok new)
  r_takes small None mid k = (mid, refl)
  r_takes small (Some text) mid k = (
    placed mid (r_path id) (Value text),
    ap (λ r. then_rest 2 r (λ s. ops_effect author.Manager scope.Primary 3 [] s)) (put_works mid k.store ids k.only small k.plain id (codes "R") text),
  )

  module _ (st : Store) (k : Kept st ids) (old line : List ℕ) (r : Option (List ℕ)) (was : value_at st (log_path id) ≡ Some old) where
    event_keeps : (new : Store) → ops_effect author.Manager scope.Primary 1 (op.Append (log_path id) line ∷ r_ops id r) st ≡ Ok new → HasOnlyJobs new ids
    event_keeps new e =
        let m = first_made 1 (op_effect st author.Manager scope.Primary (op.Append (log_path id) line)) (λ s. ops_effect author.Manager scope.Primary 2 (r_ops id r) s) new e in
        r_kept r m.0 new (append_kept st m.0 ids k id mine (codes "eventlog") (inr (inr refl)) old line (value_node (node_at st (log_path id)) old was) m.1) m.2

    event_takes : length ids + 3 < 2048 → (new : Store) × (ops_effect author.Manager scope.Primary 1 (op.Append (log_path id) line ∷ r_ops id r) st ≡ Ok new)
    event_takes small =
        let there = value_node (node_at st (log_path id)) old was in
        let mid : Store = changed st (op.Append (log_path id) line) (log_path id) in
        let made : op_effect st author.Manager scope.Primary (op.Append (log_path id) line) ≡ Ok mid = append_works st k.store ids k.only small k.plain id (codes "eventlog") old line there in
        let next = r_takes small r mid (append_kept st mid ids k id mine (codes "eventlog") (inr (inr refl)) old line there made) in
        (next.0, ap (λ o. then_rest 1 o (λ s. ops_effect author.Manager scope.Primary 2 (r_ops id r) s)) made ∙ next.1)

abbrev submit_ops : ℕ → List ℕ → List ℕ → List Op
submit_ops id text line = op.Put (spec_path id) text ∷ op.Put (log_path id) line ∷ []

submit_keeps : (st new : Store) (ids more : List ℕ) → Kept st ids → ((i : ℕ) → Among i ids → Among i more) → (id : ℕ) → Among id more → (text line : List ℕ)
    → ops_effect author.Manager scope.Primary 1 (submit_ops id text line) st ≡ Ok new → HasOnlyJobs new more
submit_keeps st new ids more k known id mine text line e =
    let m = first_made 1 (op_effect st author.Manager scope.Primary (op.Put (spec_path id) text)) (λ s. ops_effect author.Manager scope.Primary 2 (op.Put (log_path id) line ∷ []) s) new e in
    let mid = put_kept st m.0 ids more k known id mine (codes "jobspec") (inl refl) text m.1 in
    let n = first_made 2 (op_effect m.0 author.Manager scope.Primary (op.Put (log_path id) line)) (λ s. ops_effect author.Manager scope.Primary 3 [] s) new m.2 in
    subst (λ s. HasOnlyJobs s more) (same_store n.0 new n.2) (put_kept m.0 n.0 more more mid (λ i a. a) id mine (codes "eventlog") (inr (inr refl)) line n.1).only

submit_takes : (st : Store) (ids : List ℕ) → Kept st ids → length ids + 4 < 2048 → (id : ℕ) (text line : List ℕ)
    → (new : Store) × (ops_effect author.Manager scope.Primary 1 (submit_ops id text line) st ≡ Ok new)
submit_takes st ids k small id text line =
    let mid : Store = placed st (spec_path id) (Value text) in
    let made : op_effect st author.Manager scope.Primary (op.Put (spec_path id) text) ≡ Ok mid = put_works st k.store ids k.only (omega (arith, small)) k.plain id (codes "jobspec") text in
    let after = put_kept st mid ids (id ∷ ids) k (λ i a. inr a) id (inl refl) (codes "jobspec") (inl refl) text made in
    let new : Store = placed mid (log_path id) (Value line) in
    let last : op_effect mid author.Manager scope.Primary (op.Put (log_path id) line) ≡ Ok new = put_works mid after.store (id ∷ ids) after.only (omega (arith, small)) after.plain id (codes "eventlog") line in (
      new,
      ap (λ o. then_rest 1 o (λ s. ops_effect author.Manager scope.Primary 2 (op.Put (log_path id) line ∷ []) s)) made
          ∙ ap (λ o. then_rest 2 o (λ s. ops_effect author.Manager scope.Primary 3 [] s)) last,
    )

-- ---- where they write

below : (id : ℕ) (key : Name) (bytes : List ℕ) → IsPutBelow jobs (op.Put (job_path id ++ key ∷ []) bytes)
unfolding job_path
below id key bytes = record { puts = tt; name = _; rest = _; key = refl }

line_below : (id : ℕ) (bytes : List ℕ) → IsPutBelow jobs (op.Append (log_path id) bytes)
unfolding job_path
line_below id bytes = record { puts = tt; name = _; rest = _; key = refl }

r_below : (id : ℕ) (r : Option (List ℕ)) → Each (IsPutBelow jobs) (r_ops id r)
r_below id None = tt
r_below id (Some text) = (below id (codes "R") text, tt)

all_below : (post : Post) → Each (IsPutBelow jobs) (ops_of post)
all_below (Submits x) = (below x.id (codes "jobspec") x.text, (below x.id (codes "eventlog") (line_text x.event), tt))
all_below (Does due) = (line_below due.job (line_text due.event), r_below due.job due.r)

-- ---- posts

module _ (d : Desk) (desk : IsDesk d) (st : Store) (is : IsStore st) (are : AreJobsOf st d.scene.jobs) (only : HasOnlyJobs st (ids_of d.scene.jobs)) where
  kept : Kept st (ids_of d.scene.jobs)
  kept = record { store = is; plain = are.plain; only = only }

  module _ (due : Due) (h : IsDue d.scene due) where
    mine : Among due.job (ids_of d.scene.jobs)
    mine = subst (λ n. Among n (ids_of d.scene.jobs)) (sym (ap (λ x. x.job) h.is)) (among_ids d.scene.jobs h.j (among_from d.scene.jobs h.j h.known))

    stored : IsStored st h.j
    stored = each_at (IsStored st) d.scene.jobs h.j are.stored (among_from d.scene.jobs h.j h.known)

    was : value_at st (log_path due.job) ≡ Some (log_text (stored.first ∷ stored.more))
    was = subst (λ n. value_at st (log_path n) ≡ Some (log_text (stored.first ∷ stored.more))) (sym (ap (λ x. x.job) h.is)) stored.logged.text

  pub post_keeps : (post : Post) (new : Store) → IsDuePost d post → effect st (txn_of post) scope.Primary ≡ Ok new → HasOnlyJobs new (ids_of (jobs_after post d.scene.jobs))
  unfolding txn_of
  post_keeps (Does due) new h e = subst (HasOnlyJobs new) (sym (with_event_ids due d.scene.jobs)) (event_keeps (ids_of d.scene.jobs) due.job (mine due h) st kept _ (line_text due.event) due.r (was due h) new e)
  post_keeps (Submits x) new h e =
      let from = each_at IsOpenSubmit d.submits h.from desk.submits (among_from d.submits h.from h.waits) in
      let job = job_of x h.from.by.actor h.from.urgency in
      subst (λ o. HasOnlyJobs new (ids_of (begun_with o x d.scene.jobs))) (sym (asks d.scene desk.scene d.birth d.submits x h from))
      (submit_keeps st new (ids_of d.scene.jobs) (ids_of (with_job job d.scene.jobs)) kept (λ i a. id_with job d.scene.jobs i (inl a)) x.id (id_with job d.scene.jobs x.id (inr refl)) x.text (line_text x.event) e)

  module _ (few : length d.scene.jobs < 2000) where
    ids_few : length (ids_of d.scene.jobs) + 4 < 2048
    ids_few = let same = length-map d.scene.jobs (λ (j : StoredJob). j.id) in omega (arith, few, same)

    pub post_takes : (post : Post) → IsDuePost d post → (new : Store) × (effect st (txn_of post) scope.Primary ≡ Ok new)
    unfolding txn_of
    post_takes (Does due) h = event_takes (ids_of d.scene.jobs) due.job (mine due h) st kept _ (line_text due.event) due.r (was due h) (let few = ids_few in omega (arith, few))
    post_takes (Submits x) h = submit_takes st (ids_of d.scene.jobs) kept ids_few x.id x.text (line_text x.event)

    pub post_taken : (post : Post) → IsDuePost d post → AreTaken (group_of post ∷ []) st
    unfolding txn_of
    post_taken post h =
        let made = post_takes post h in
        record {
          plain = record { store = is; directory = only.directory; unlinked = are.plain };
          each = (record { manager = refl; below = all_below post }, tt);
          made = subst (λ r. IsSome (option_and_then (λ new. after_groups scope.Primary [] new) (landed_on r))) (sym made.1) refl;
        }
