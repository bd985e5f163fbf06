-- The numbers that replies name never fall.
use Rattle.std.proofs.Common.{◌≡◌, ℕ, ◌≤◌, List, [], ◌∷◌, ◌++◌, true, Option, zero, suc, length, subst, arith}
use Rattle.std.specs.Prelude.{Contains, slice_index_or, ◌<◌}
use Rattle.std.specs.List.{AllByRecursion as Each}
use Rattle.kvs_txn.specs.declared.answers.Numbered.{Numbered}
use Rattle.kvs_txn.specs.declared.txn.By.{By}
use Rattle.answers.specs.declared.chronicle.Entry.{Entry}
use Rattle.answers.specs.declared.chronicle.Entry.TheVariants as entry
use Rattle.answers.specs.declared.chronicle.Reply.{Reply}
use Rattle.answers.specs.Chronicle.{Setup, before_issue}
use Rattle.answers.specs.Floors.{floor, knows_after, number_in, roots_named}
use Rattle.answers.specs.Legal.{IsLegal, IsLegalEntry}
use Rattle.answers.proofs.Floors.{named_seen, known_seen}
use Rattle.answers.proofs.Reaching.{all_reached}

-- what holds of each holds of a member
each_of : {A : Type 0} (P : A → Type 0) (xs : List A) (x : A) (k : ℕ) → k < length xs → slice_index_or xs k x ≡ x → Each P xs → P x
each_of P [] x k l e h = absurd (omega arith)
each_of P (y ∷ xs) x zero l e h = subst P e h.0
each_of P (y ∷ xs) x (suc k) l e h = each_of P xs x k (omega arith) e h.1

pub never_fall : (set : Setup) (c past between : List Entry) (by later : By) (given next : Reply) (number second : Option ℕ) (root : Numbered) → IsLegal set c
    → before_issue later c ≡ (past ++ entry.Replied by.actor by.command given number ∷ []) ++ between
    → knows_after by.actor between later.actor ≡ true
    → IsLegalEntry set c (entry.Replied later.actor later.command next second)
    → Contains (roots_named set.work later next second) root
    → number_in root.namespace (roots_named set.work by given number) ≤ root.number
never_fall set c past between by later given next number second root legal parts knows e there =
    let told : List Entry = past ++ entry.Replied by.actor by.command given number ∷ [] in
    let seen = named_seen set.work past by given number root.namespace in
    let on = known_seen set.work told between by.actor later.actor root.namespace knows in
    let reached = each_of (λ (r : Numbered). floor set.work (before_issue later c) later.actor r.namespace ≤ r.number) (roots_named set.work later next second) root there.0 there.1 there.2 (all_reached set c legal later second next e.grounds) in
    let at_issue : floor set.work (told ++ between) later.actor root.namespace ≤ root.number = subst (λ d. floor set.work d later.actor root.namespace ≤ root.number) parts reached in
    omega (arith, seen, on, at_issue)
