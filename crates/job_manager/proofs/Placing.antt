-- Where the logs of jobs stand, once a job is submitted, and what a broker's store has of them.
use Rattle.std.proofs.Common.{◌≡◌, ℕ, ◌<◌, ◌^◌, ◌==◌, ◌⊎◌, inl, inr, List, [], ◌∷◌, Bool, true, false, cond, Option, Some, None, refl, sym, ap, ◌∙◌, subst, true≢false, nat_eq}
use Rattle.std.specs.Prelude.{Contains, IsSome, nat_lt, option_and_then, if◌then◌else◌}
use Rattle.std.specs.List.{AllByRecursion as Each}
use Rattle.std.proofs.lemmas.Bool.{eqb-true, eq-eqb}
use Rattle.indexmap.specs.IndexMap.{insert_entry}
use Rattle.job_rules.proofs.Among.{Among, among_from, contains_from}
use Rattle.job_states.specs.Changes.{change_of}
use Rattle.job_states.specs.declared.job.Change.{Change}
use Rattle.job_states.specs.declared.job.Change.TheVariants as change
use Rattle.kvs_model.specs.Store.{Node, Path, Store, Value, Directory, Link, node_at}
use Rattle.plain_store.specs.Values.{value_in}
use Rattle.kvs_core.specs.Posted.{newest_of}
use Rattle.kvs_core.specs.Seen.{primary_heard, store_at}
use Rattle.event_log.specs.declared.event.Event.{Event}
use Rattle.manager_rules.specs.Jobs.{IsLogged, IsStored, StoredJob, ids_of}
use Rattle.manager_rules.specs.Keys.{bytes_of, log_path, value_at}
use Rattle.manager_rules.specs.Posts.{Does, Post, Submission, Submits, begun_with, job_of, jobs_after, with_job}
use Rattle.manager_rules.proofs.Landing.{with_event_ids}
use Rattle.job_manager.specs.Managed.{IsManaged}
use Rattle.job_manager.specs.Places.{ArePlaces, LogPlaces, log_seen, place_in}
use Rattle.job_manager.specs.Value.{ManagerValue}

-- ---- a place more

eq-same : (a b : ℕ) → (a == b) ≡ true → a ≡ b
eq-same a b e = eqb-true a b e

pub place-put : (other : ℕ) (es : LogPlaces) (id : ℕ) (path : Path) → place_in other (insert_entry nat_eq es id path) ≡ cond (other == id) (Some path) (place_in other es)
place-put other [] id path = refl
place-put other (e ∷ es) id path = at (id == e.0) refl (place-put other es id path)
  where
    at : (b : Bool) → (id == e.0) ≡ b → place_in other (insert_entry nat_eq es id path) ≡ cond (other == id) (Some path) (place_in other es)
        → place_in other (cond b ((e.0, path) ∷ es) (e ∷ insert_entry nat_eq es id path)) ≡ cond (other == id) (Some path) (place_in other (e ∷ es))
    at true t more =
        let same : id ≡ e.0 = eq-same id e.0 t in
        subst (λ n. cond (other == e.0) (Some path) (place_in other es) ≡ cond (other == n) (Some path) (cond (other == e.0) (Some e.1) (place_in other es))) (sym same) (again (other == e.0))
      where
        again : (b : Bool) → cond b (Some path) (place_in other es) ≡ cond b (Some path) (cond b (Some e.1) (place_in other es))
        again true = refl
        again false = refl
    at false t more =
        ap (cond (other == e.0) (Some e.1)) more ∙ both (other == e.0) (other == id) refl refl
      where
        both : (a b : Bool) → (other == e.0) ≡ a → (other == id) ≡ b
            → cond a (Some e.1) (cond b (Some path) (place_in other es)) ≡ cond b (Some path) (cond a (Some e.1) (place_in other es))
        both true true h k =
            let one = eq-same other e.0 h in
            let two = eq-same other id k in
            absurd (true≢false (sym (eq-eqb id e.0 (sym two ∙ one)) ∙ t))
        both true false h k = refl
        both false true h k = refl
        both false false h k = refl

-- ---- the places of the jobs after a post

ids_more : (j : StoredJob) (jobs : List StoredJob) (id : ℕ) → Among id (ids_of (with_job j jobs)) → (j.id ≡ id) ⊎ Among id (ids_of jobs)
ids_more j [] id (inl e) = inl e
ids_more j [] id (inr i) = absurd i
ids_more j (x ∷ jobs) id i = at (nat_lt j.id x.id) i (ids_more j jobs id)
  where
    at : (b : Bool) → Among id (ids_of (if b then j ∷ x ∷ jobs else x ∷ with_job j jobs)) → (Among id (ids_of (with_job j jobs)) → (j.id ≡ id) ⊎ Among id (ids_of jobs)) → (j.id ≡ id) ⊎ Among id (ids_of (x ∷ jobs))
    at true (inl e) more = inl e
    at true (inr i) more = inr i
    at false (inl e) more = inr (inl e)
    at false (inr i) more = elim (more i) [ inl e ↦ inl e | inr k ↦ inr (inr k) ]

ids_begun : (o : Option Change) (x : Submission) (jobs : List StoredJob) (id : ℕ) → Among id (ids_of (begun_with o x jobs)) → (x.id ≡ id) ⊎ Among id (ids_of jobs)
ids_begun (Some (change.Submit userid urgency)) x jobs id i = ids_more (job_of x userid urgency) jobs id i
ids_begun _ x jobs id i = inr i

pub places-begun : (x : Submission) (jobs : List StoredJob) (old new : LogPlaces) → ((other : ℕ) → place_in other new ≡ (if other == x.id then Some (log_path x.id) else place_in other old))
    → ArePlaces jobs old → ArePlaces (jobs_after (Submits x) jobs) new
places-begun x jobs old new put h = record {
  all = λ id c. at id (id == x.id) refl (ids_begun (change_of x.event) x jobs id (among_from _ id c));
  right = λ id path e. back id path (id == x.id) refl (sym (put id) ∙ e);
}
  where
    at : (id : ℕ) (b : Bool) → (id == x.id) ≡ b → (x.id ≡ id) ⊎ Among id (ids_of jobs) → place_in id new ≡ Some (log_path id)
    at id true t i = put id ∙ ap (λ b. if b then Some (log_path x.id) else place_in id old) t ∙ ap (λ n. Some (log_path n)) (sym (eq-same id x.id t))
    at id false t (inl e) = absurd (true≢false (sym (eq-eqb id x.id (sym e)) ∙ t))
    at id false t (inr i) = put id ∙ ap (λ b. if b then Some (log_path x.id) else place_in id old) t ∙ h.all id (contains_from (ids_of jobs) id i)

    same-path : {a b : Path} → Some a ≡ Some b → a ≡ b
    same-path e = cc

    back : (id : ℕ) (path : Path) (b : Bool) → (id == x.id) ≡ b → (if id == x.id then Some (log_path x.id) else place_in id old) ≡ Some path → path ≡ log_path id
    back id path true t e = sym (same-path (sym (ap (λ b. if b then Some (log_path x.id) else place_in id old) t) ∙ e)) ∙ ap log_path (sym (eq-same id x.id t))
    back id path false t e = h.right id path (sym (ap (λ b. if b then Some (log_path x.id) else place_in id old) t) ∙ e)

pub places-done : (post : Post) (due : _) → post ≡ Does due → (jobs : List StoredJob) (places : LogPlaces) → ArePlaces jobs places → ArePlaces (jobs_after post jobs) places
places-done post due is jobs places h = record {
  all = λ id c. h.all id (subst (λ ids. Contains ids id) (ap (λ p. ids_of (jobs_after p jobs)) is ∙ with_event_ids due jobs) c);
  right = h.right;
}

-- ---- what a broker's store has of a log

value-is : (o : Option Node) → value_in o ≡ option_and_then bytes_of o
value-is None = refl
value-is (Some (Value bytes)) = refl
value-is (Some Directory) = refl
value-is (Some (Link target)) = refl

pub seen-there : (m : ManagerValue) (broker id : ℕ) (path : Path) (st : Store) (found : Option (List ℕ)) → path ≡ log_path id → store_at m.core broker ≡ Some st → found ≡ value_in (node_at st path) → found ≡ log_seen m.core broker id
seen-there m broker id path st found is stands e =
    e ∙ ap (λ p. value_in (node_at st p)) is ∙ value-is (node_at st (log_path id)) ∙ sym (ap (option_and_then (λ s. value_at s (log_path id))) stands)

some-node : (o : Option Node) (text : List ℕ) → option_and_then bytes_of o ≡ Some text → IsSome o
some-node None text e = cc
some-node (Some node) text e = refl

-- a log that begins
pub record HasLogAt (st : Store) (id : ℕ) : Type 0 where
  pub first : Event
  pub more : List Event
  pub logged : IsLogged st id (first ∷ more)

-- a job whose log stands at a root is one of the book's
pub known-since : (m : ManagerValue) (h : IsManaged m) (broker id : ℕ) (st : Store) (text : List ℕ) → id < 2 ^ 64 → store_at m.core broker ≡ Some st → value_at st (log_path id) ≡ Some text → Contains (ids_of m.book.jobs) id
known-since m h broker id st text small stands e =
    let root = h.roots (primary_heard m.core broker) st stands in
    let there : Among id (ids_of root.sound.jobs) = among_from _ id (root.sound.are.all id small (some-node (node_at st (log_path id)) text e)) in
    let one = stored-at root.sound.jobs root.sound.are.stored there in
    let grown = root.grown id (one.first ∷ one.more) small one.logged in
    h.jobs.all id small (some-node (node_at (newest_of m.core) (log_path id)) _ grown.1.text)
  where
    stored-at : (jobs : List StoredJob) → Each (IsStored st) jobs → Among id (ids_of jobs) → HasLogAt st id
    stored-at [] each i = absurd i
    stored-at (j ∷ jobs) each (inl same) = record { first = each.0.first; more = each.0.more; logged = subst (λ n. IsLogged st n (each.0.first ∷ each.0.more)) same each.0.logged }
    stored-at (j ∷ jobs) each (inr i) = stored-at jobs each.1 i

pub nothing-seen : (m : ManagerValue) (h : IsManaged m) (broker id : ℕ) → id < 2 ^ 64 → place_in id m.places ≡ None → None ≡ log_seen m.core broker id
nothing-seen m h broker id small none = by (store_at m.core broker) refl
  where
    by : (o : Option Store) → store_at m.core broker ≡ o → None ≡ option_and_then (λ st. value_at st (log_path id)) o
    by None e = refl
    by (Some st) e = at (value_at st (log_path id)) refl
      where
        at : (t : Option (List ℕ)) → value_at st (log_path id) ≡ t → None ≡ t
        at None f = refl
        at (Some text) f = let place = h.places.all id (known-since m h broker id st text small e f) in cc

pub some-path : {a b : Path} → Some a ≡ Some b → a ≡ b
some-path e = cc
