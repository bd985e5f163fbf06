use Rattle.std.proofs.Common.{◌≡◌, IsSome, false, sym, ap, ◌∙◌}
use Rattle.kvs_model.specs.Operation.{is_directory}
use Rattle.kvs_model.specs.Store.{Directory}
use Rattle.tree_store.specs.Landing.{table}
use Rattle.tree_store.specs.Shown.{opened_at, entries_at, Directories}
use Rattle.std.specs.Prelude.{is_some as is_there}
use Rattle.tree_store.proofs.Keyed.{find_keyed}
use Rattle.tree_store.proofs.Entered.{closed_parts, closed_stands, closed_directory, enter_shows, enter_opens, enter_keeps, found_named, text_above, not_closed, none_there}
use Rattle.tree_store.proofs.opened.Opened.enter.Goals as goal

pub returns-then-contains_key-clause-is : goal.returns-then-contains_key-clause-is
returns-then-contains_key-clause-is c = λ h st shows opens.
    let path = c.args.path.now in
    let some : IsSome (opened_at c.args.self.now path) = sym (ap is_there (find_keyed path c.self.inside.directories.entries ∙ ap (λ (ds : Directories). opened_at ds path) c.self.view_is)) ∙ sym c.contains_key.ensures ∙ c.if-contains_key.true in
    sym (ap is_directory (shows.places path some))

pub returns-then-contains_key-clause-opens : goal.returns-then-contains_key-clause-opens
returns-then-contains_key-clause-opens c = λ t.
    let path = c.args.path.now in
    sym (ap is_there (find_keyed path c.self.inside.directories.entries ∙ ap (λ (ds : Directories). opened_at ds path) c.self.view_is)) ∙ sym c.contains_key.ensures ∙ c.if-contains_key.true

pub returns-in_default-clause-is : goal.returns-in_default-clause-is
returns-in_default-clause-is c = λ h st shows opens.
    let path = c.args.path.now in
    let none : is_there (opened_at c.args.self.now path) ≡ false = sym (ap is_there (find_keyed path c.self.inside.directories.entries ∙ ap (λ (ds : Directories). opened_at ds path) c.self.view_is)) ∙ sym c.contains_key.ensures ∙ c.if-contains_key.false in
    not_closed h (table c.args.store.now) c.args.self.now st path shows opens (none_there (opened_at c.args.self.now path) none) c.in_default.ensures

pub directory_of-requires : goal.directory_of-requires
directory_of-requires c =
    let path = c.args.path.now in
    let r = c.in-Some.reference.now in
    (c.requires.0, c.requires.1, path, closed_directory c.requires.0 (table c.args.store.now) c.args.self.now c.requires.1 path r c.requires.2 (closed_parts c.args.self.now path r c.in-Some.ensures))

pub keep_open-requires : goal.keep_open-requires
keep_open-requires c =
    let path = c.args.path.now in
    let r = c.in-Some.reference.now in
    let there = (closed_stands c.requires.0 (table c.args.store.now) c.args.self.now c.requires.1 path r c.requires.2 (closed_parts c.args.self.now path r c.in-Some.ensures)).directory in
    text_above path (found_named c.requires.1 path Directory c.requires.2.storable there)

pub returns-clause-is : goal.returns-clause-is
returns-clause-is c = λ h st shows opens.
    let path = c.args.path.now in
    let r = c.in-Some.reference.now in
    sym (ap is_directory (closed_stands h (table c.args.store.now) c.args.self.now st path r shows (closed_parts c.args.self.now path r c.in-Some.ensures)).directory)

pub returns-clause-shown : goal.returns-clause-shown
returns-clause-shown c = λ h st shows.
    let path = c.args.path.now in
    let r = c.in-Some.reference.now in
    let at = closed_parts c.args.self.now path r c.in-Some.ensures in
    let told : c.in_ok-directory.directory ≡ entries_at h st path = c.in_ok-directory.ensures h st path (closed_directory h (table c.args.store.now) c.args.self.now st path r shows at) in
    enter_shows h (table c.args.store.now) c.args.self.now c.keep_open.new.self st path r c.in_ok-directory.directory shows at told c.in_ok-keep_open.ensures

pub returns-clause-opens : goal.returns-clause-opens
returns-clause-opens c = λ t.
    let path = c.args.path.now in
    let r = c.in-Some.reference.now in
    enter_opens c.args.self.now c.keep_open.new.self path r c.in_ok-directory.directory (closed_parts c.args.self.now path r c.in-Some.ensures) c.in_ok-keep_open.ensures

pub returns-clause-kept : goal.returns-clause-kept
returns-clause-kept c =
    let path = c.args.path.now in
    let r = c.in-Some.reference.now in
    enter_keeps c.args.self.now c.keep_open.new.self path r c.in_ok-directory.directory (closed_parts c.args.self.now path r c.in-Some.ensures) c.in_ok-keep_open.ensures
