-- Texts of entries.
use Rattle.std.proofs.Common.{◌≡◌, ℕ, ◌+◌, ◌<◌, List, [], ◌∷◌, ◌++◌, length, get_or, take, map, sym, ap, subst, ◌∙◌, arith}
use Rattle.std.specs.List.{AllByRecursion}
use Rattle.std.proofs.lemmas.List.{take_more, get_or-map, length-map}
use Rattle.idset.specs.Ids.{list_of}
use Rattle.resource_set.specs.declared.entries.Entry.{Entry}
use Rattle.resource_set.specs.declared.entries.Group.{Group}
use Rattle.resource_set.specs.Writing.{entry_data, group_data, written, IsSpelled, IsWritten, IsEntrySpelled}
use Rattle.resource_set.specs.Reading.{no_entry}

-- the group at a place is that of the entry there
pub record IsGroupAt (entries : List Entry) (i : ℕ) (g : Group) : Type 0 where
  pub inside : i < length entries
  pub is : g ≡ written (get_or entries i no_entry)

pub group_at : (entries : List Entry) (groups : List Group) (i : ℕ) (g : Group) → groups ≡ map written entries → i < length groups → g ≡ get_or groups i g → IsGroupAt entries i g
group_at entries groups i g same within is =
    let inside : i < length entries = omega (arith, ap length same, length-map entries written) in
    record { inside = inside; is = is ∙ ap (λ l. get_or l i g) same ∙ get_or-map written entries i no_entry g inside }

pub value_at : (e : Entry) (g : Group) → g ≡ written e → list_of e.ranks ≡ e.ranks → group_data g (list_of g.ranks) ≡ entry_data e
value_at e g is told = ap (λ (x : Group). group_data x (list_of x.ranks)) is ∙ ap (group_data (written e)) told

all_push : (P : Entry → Type 0) (xs : List Entry) (x : Entry) → AllByRecursion P xs → P x → AllByRecursion P (xs ++ x ∷ [])
all_push P [] x a h = (h, tt)
all_push P (y ∷ ys) x a h = (a.0, all_push P ys x a.1 h)

pub spelled_push : (entries : List Entry) (i : ℕ) (d : Entry) → i < length entries → AllByRecursion (λ entry. IsSpelled entry.ranks) (take i entries) → IsSpelled (get_or entries i d).ranks → AllByRecursion (λ entry. IsSpelled entry.ranks) (take (i + 1) entries)
spelled_push entries i d h a s = subst (AllByRecursion (λ entry. IsSpelled entry.ranks)) (sym (take_more entries i d h)) (all_push (λ entry. IsSpelled entry.ranks) (take i entries) (get_or entries i d) a s)

pub all_spelled : (entries : List Entry) → AllByRecursion (λ entry. IsSpelled entry.ranks) entries → AllByRecursion IsWritten entries → AllByRecursion IsEntrySpelled entries
all_spelled [] r w = tt
all_spelled (e ∷ more) r w = (record { ranks = r.0; cores = w.0.cores; gpus = w.0.gpus }, all_spelled more r.1 w.1)
