-- A transaction that begins a job begins no other: its path tells the id.
use Rattle.std.proofs.Common.{◌≡◌, ℕ, zero, suc, ◌<◌, ◌/◌, ◌^◌, true, List, [], ◌∷◌, ◌++◌, Ok, length, refl, sym, ap, ◌∙◌, subst, arith}
use Rattle.std.specs.Prelude.{nat_lt, slice_index}
use Rattle.std.specs.List.{list_all}
use Rattle.std.proofs.lemmas.Bool.{and_parts, ltb-true}
use Rattle.fluid_ids.specs.Texts.{base_16, meaning, printed}
use Rattle.fluid_ids.specs.declared.forms.Form.TheVariants.{Dothex}
use Rattle.fluid_ids.proofs.Rereads.{printed_again}
use Rattle.kvs_model.specs.Store.{Path}
use Rattle.kvs_txn.specs.declared.txn.Group.{Group}
use Rattle.kvs_txn.specs.declared.txn.Op.TheVariants as op
use Rattle.instance_rules.specs.Desks.{Begins}
use Rattle.manager_rules.specs.Keys.{job_path, log_path, spec_path}

within : (xs : List ℕ) (i : ℕ) → 0 < slice_index xs i → i < length xs
within [] i h = absurd (let none : 0 < 0 = h in omega arith)
within (x ∷ xs) zero h = omega arith
within (x ∷ xs) (suc i) h = let more = within xs i h in omega arith

above : (xs : List ℕ) (i : ℕ) → list_all (nat_lt 0) xs ≡ true → i < length xs → 0 < slice_index xs i
above [] i e w = absurd (omega arith)
above (x ∷ xs) zero e w = ltb-true 0 x (and_parts (nat_lt 0 x) _ e).0
above (x ∷ xs) (suc i) e w = let less : i < length xs = omega arith in above xs i (and_parts (nat_lt 0 x) _ e).1 less

digit : (i : ℕ) → i < 16 → 0 < slice_index base_16 i
unfolding base_16
digit i w = above base_16 i refl w

no_digit : (i : ℕ) → 0 < slice_index base_16 i → i < 16
unfolding base_16
no_digit i h = within base_16 i h

-- the first digit of an id in a path, and all its digits
first_digit : Path → ℕ
first_digit [] = 0
first_digit (a ∷ []) = 0
first_digit (a ∷ [] ∷ p) = 0
first_digit (a ∷ (d ∷ ds) ∷ p) = d

digits : Path → List ℕ
digits [] = []
digits (a ∷ []) = []
digits (a ∷ b ∷ []) = []
digits (a ∷ b ∷ c ∷ []) = []
digits (a ∷ b ∷ c ∷ d ∷ []) = []
digits (a ∷ b ∷ c ∷ d ∷ e ∷ p) = b ++ (46 ∷ (c ++ (46 ∷ (d ++ (46 ∷ e)))))

top : ℕ → ℕ
top id = id / 65536 / 65536 / 65536 / 16 / 16 / 16

first_is : (id : ℕ) → first_digit (spec_path id) ≡ slice_index base_16 (top id)
unfolding job_path first_digit top
first_is id = refl

digits_are : (id : ℕ) → digits (spec_path id) ≡ printed Dothex id
unfolding job_path digits printed
digits_are id = refl

low : (id : ℕ) → id < 2 ^ 64 → top id < 16
unfolding top
low id w = omega arith

small : (id : ℕ) → top id < 16 → id < 2 ^ 64
unfolding top
small id w = omega arith

same_path : (a b : ℕ) → a < 2 ^ 64 → spec_path a ≡ spec_path b → b ≡ a
same_path a b w e =
    let heads : slice_index base_16 (top a) ≡ slice_index base_16 (top b) = sym (first_is a) ∙ ap first_digit e ∙ first_is b in
    let less : b < 2 ^ 64 = small b (no_digit (top b) (subst (λ d. 0 < d) heads (digit (top a) (low a w)))) in
    let one : meaning (printed Dothex a) ≡ Ok a = printed_again Dothex a w in
    let other : meaning (printed Dothex b) ≡ Ok b = printed_again Dothex b less in
    let texts : printed Dothex a ≡ printed Dothex b = sym (digits_are a) ∙ ap digits e ∙ digits_are b in
    let both = sym other ∙ ap meaning (sym texts) ∙ one in
    cc

pub sole : (group : Group) (id other : ℕ) → id < 2 ^ 64 → Begins group id → Begins group other → other ≡ id
sole group id other w a b =
    let both : op.Put (spec_path id) a.text ∷ op.Put (log_path id) a.line ∷ [] ≡ op.Put (spec_path other) b.text ∷ op.Put (log_path other) b.line ∷ [] = sym a.ops ∙ b.ops in
    let paths : spec_path id ≡ spec_path other = cc in
    same_path id other w paths
