use Rattle.std.proofs.Common.{◌≡◌, length, nat_le, Some, ℕ, List, sym, ap, ◌∙◌}
use Rattle.kvs_model.specs.Operation.{most_names}
use Rattle.tree_store.specs.Shown.{opened_at, Directories}
use Rattle.std.specs.Prelude.{None}
use Rattle.tree_store.proofs.Keyed.{find_keyed}
use Rattle.tree_store.proofs.Counted.{names_count, names_none}
use Rattle.tree_store.proofs.Opening.{not_both}
use Rattle.tree_store.proofs.opened.Opened.is_full.Goals as goal

pub returns-in-Some : goal.returns-in-Some
returns-in-Some c = λ h held st shows opens.
    let path = c.args.path.now in
    let found : Some c.in-Some.directory.now ≡ opened_at c.args.self.now path = c.in-Some.ensures.value ∙ find_keyed path c.self.inside.directories.entries ∙ ap (λ (ds : Directories). opened_at ds path) c.self.view_is in
    ap (λ (ns : List (List ℕ)). nat_le most_names (length ns)) c.names.ensures
    ∙ ap (nat_le most_names) (names_count h held c.args.self.now st path c.in-Some.directory.now shows found c.is_directory.ensures.sorted)

pub returns-in-None : goal.returns-in-None
returns-in-None c = λ h held st shows opens.
    let path = c.args.path.now in
    let none : None ≡ opened_at c.args.self.now path = c.in-None.ensures.value ∙ find_keyed path c.self.inside.directories.entries ∙ ap (λ (ds : Directories). opened_at ds path) c.self.view_is in
    names_none h st path shows.store (λ d. not_both (opened_at c.args.self.now path) (opens d) (sym none))
