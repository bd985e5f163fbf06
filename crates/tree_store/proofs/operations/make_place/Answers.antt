use Rattle.std.proofs.Common.{sym, ◌∙◌, subst}
use Rattle.kvs_model.specs.Store.{Store, Directory, with_node}
use Rattle.tree_store.specs.Shown.{Directories, Shows, OpensAbove}
use Rattle.std.proofs.lemmas.Result.{on_ok_weaker}
use Rattle.plain_store.proofs.Placing.{same_directory}
use Rattle.tree_store.proofs.Entered.{text_above}
use Rattle.tree_store.proofs.Placed.{make_shows, make_opens}
use Rattle.tree_store.proofs.operations.make_place.Goals as goal

pub returns-then-is_directory-clause-made : goal.returns-then-is_directory-clause-made
returns-then-is_directory-clause-made c = λ h held st shows opens in_one.
    subst (Shows h held c.args.opened.now) (sym (same_directory st c.args.at.now shows.store.sorted (sym (c.is_directory.ensures h held st shows opens) ∙ c.if-is_directory.true))) shows

pub returns-then-is_directory-clause-opens : goal.returns-then-is_directory-clause-opens
returns-then-is_directory-clause-opens c = λ h held st whole shows opens in_one open_whole.
    subst (λ (s : Store). OpensAbove c.args.opened.now s whole) (sym (same_directory st c.args.at.now shows.store.sorted (sym (c.is_directory.ensures h held st shows opens) ∙ c.if-is_directory.true))) open_whole

pub make-requires : goal.make-requires
make-requires c = text_above c.args.at.now c.requires.named

pub returns-clause-made : goal.returns-clause-made
returns-clause-made c = λ h held st shows opens in_one.
    on_ok_weaker c.make.result (λ is. subst (λ (d : Directories). Shows h held d (with_node st c.args.at.now Directory)) (sym is)
    (make_shows h held c.args.opened.now st c.args.at.now shows opens in_one c.requires.named c.requires.below (sym (c.is_directory.ensures h held st shows opens) ∙ c.if-is_directory.false))) c.make.ensures

pub returns-clause-opens : goal.returns-clause-opens
returns-clause-opens c = λ h held st whole shows opens in_one open_whole.
    on_ok_weaker c.make.result (λ is. subst (λ (d : Directories). OpensAbove d (with_node st c.args.at.now Directory) whole) (sym is)
    (make_opens c.args.opened.now st c.args.at.now whole opens in_one c.requires.below open_whole)) c.make.ensures
