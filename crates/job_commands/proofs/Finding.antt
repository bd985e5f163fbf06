-- The jobs that labels name, as the table of labels is seen.
use Rattle.std.proofs.Common.{◌≡◌, ◌≢◌, ℕ, ◌||◌, Bool, true, false, cond, List, [], ◌∷◌, Option, Some, refl, sym, ap, ◌∙◌, subst, true≢false, bytes_eq}
use Rattle.std.specs.List.{list_any}
use Rattle.std.specs.Map.{keys_of, lookup}
use Rattle.std.specs.Global.{Vec}
use Rattle.std.specs.Cmp.Lexicographic.{bytes_decides}
use Rattle.indexmap.specs.IndexMap.{insert_entry}
use Rattle.job_commands.specs.Rows.{Labels, job_at}
use Rattle.job_commands.specs.Shown.{shown}

abbrev pub Table : Type 0
Table = List (Vec ℕ × ℕ)

-- a look-up in what is seen is one in the table
pub lookup_shown : (label : List ℕ) (es : Table) → job_at label (shown es) ≡ lookup (λ k. bytes_eq label k.items) es
lookup_shown label [] = refl
lookup_shown label (e ∷ es) =
    elim (bytes_eq label e.0.items) as (λ b. cond b (Some e.1) (job_at label (shown es)) ≡ cond b (Some e.1) (lookup (λ k. bytes_eq label k.items) es)) [
      | true ↦ refl
      | false ↦ lookup_shown label es
    ]

pub bytes_same : (a b : List ℕ) → bytes_eq a b ≡ true → a ≡ b
bytes_same a b e = (bytes_decides a b).0 e

twice : (b : Bool) (x y : Option ℕ) → cond b x y ≡ cond b x (cond b x y)
twice true x y = refl
twice false x y = refl

-- a label of the table is given another job
replaced : (label : List ℕ) (key head : List ℕ) (id old : ℕ) (rest : Option ℕ) → bytes_eq key head ≡ true
    → cond (bytes_eq label head) (Some id) rest ≡ cond (bytes_eq label key) (Some id) (cond (bytes_eq label head) (Some old) rest)
replaced label key head id old rest e =
    let same : key ≡ head = bytes_same key head e in
    subst (λ k. cond (bytes_eq label head) (Some id) rest ≡ cond (bytes_eq label k) (Some id) (cond (bytes_eq label head) (Some old) rest)) (sym same) (again (bytes_eq label head))
  where
    again : (b : Bool) → cond b (Some id) rest ≡ cond b (Some id) (cond b (Some old) rest)
    again true = refl
    again false = refl

-- two labels stand in the table, of which one is given a job
passed : (label : List ℕ) (key head : List ℕ) (id old : ℕ) (rest : Option ℕ) → bytes_eq key head ≡ false
    → cond (bytes_eq label head) (Some old) (cond (bytes_eq label key) (Some id) rest) ≡ cond (bytes_eq label key) (Some id) (cond (bytes_eq label head) (Some old) rest)
passed label key head id old rest e = at (bytes_eq label head) (bytes_eq label key) refl refl
  where
    at : (a b : Bool) → bytes_eq label head ≡ a → bytes_eq label key ≡ b → cond a (Some old) (cond b (Some id) rest) ≡ cond b (Some id) (cond a (Some old) rest)
    at true true h k =
        let one : label ≡ head = bytes_same label head h in
        let two : label ≡ key = bytes_same label key k in
        let same : bytes_eq key head ≡ true = subst (λ x. bytes_eq x head ≡ true) two h in
        absurd (true≢false (sym same ∙ e))
    at true false h k = refl
    at false true h k = refl
    at false false h k = refl

pub lookup_put : (label : List ℕ) (es : Table) (key : Vec ℕ) (id : ℕ)
    → job_at label (shown (insert_entry (λ a b. bytes_eq a.items b.items) es key id)) ≡ cond (bytes_eq label key.items) (Some id) (job_at label (shown es))
lookup_put label [] key id = refl
lookup_put label (e ∷ es) key id = at (bytes_eq key.items e.0.items) refl (lookup_put label es key id)
  where
    at : (b : Bool) → bytes_eq key.items e.0.items ≡ b
        → job_at label (shown (insert_entry (λ a b. bytes_eq a.items b.items) es key id)) ≡ cond (bytes_eq label key.items) (Some id) (job_at label (shown es))
        → job_at label (shown (cond b ((e.0, id) ∷ es) (e ∷ insert_entry (λ a b. bytes_eq a.items b.items) es key id))) ≡ cond (bytes_eq label key.items) (Some id) (job_at label (shown (e ∷ es)))
    at true t more = replaced label key.items e.0.items id e.1 (job_at label (shown es)) t
    at false t more =
        ap (cond (bytes_eq label e.0.items) (Some e.1)) more
        ∙ passed label key.items e.0.items id e.1 (job_at label (shown es)) t

-- ---- a label of a job

-- each label that names the job is among these
abbrev pub AreLeft : Labels → ℕ → List (Vec ℕ) → Type 0
AreLeft labels id left = (label : List ℕ) → job_at label labels ≡ Some id → list_any (λ k. bytes_eq label k.items) left ≡ true

pub all_left : (es : Table) (id : ℕ) → AreLeft (shown es) id (keys_of es)
all_left [] id label e = cc
all_left (x ∷ es) id label e = at (bytes_eq label x.0.items) e (all_left es id label)
  where
    at : (b : Bool) → cond b (Some x.1) (job_at label (shown es)) ≡ Some id → (job_at label (shown es) ≡ Some id → list_any (λ k. bytes_eq label k.items) (keys_of es) ≡ true)
        → (b || list_any (λ k. bytes_eq label k.items) (keys_of es)) ≡ true
    at true e more = refl
    at false e more = more e

pub left_on : (labels : Labels) (id : ℕ) (x : Vec ℕ) (rest : List (Vec ℕ)) → job_at x.items labels ≢ Some id → AreLeft labels id (x ∷ rest) → AreLeft labels id rest
left_on labels id x rest apart left label e = at (bytes_eq label x.items) refl (left label e)
  where
    at : (b : Bool) → bytes_eq label x.items ≡ b → (b || list_any (λ k. bytes_eq label k.items) rest) ≡ true → list_any (λ k. bytes_eq label k.items) rest ≡ true
    at true same more = absurd (apart (subst (λ l. job_at l labels ≡ Some id) (bytes_same label x.items same) e))
    at false other more = more

pub none_left : (labels : Labels) (id : ℕ) (rest : List (Vec ℕ)) → rest ≡ [] → AreLeft labels id rest → (label : List ℕ) → job_at label labels ≢ Some id
none_left labels id rest none left label e =
    let some : false ≡ true = subst (λ r. list_any (λ k. bytes_eq label k.items) r ≡ true) none (left label e) in
    true≢false (sym some)
