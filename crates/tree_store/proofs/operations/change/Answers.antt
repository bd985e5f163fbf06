use Rattle.std.proofs.Common.{◌≡◌, ◌<◌, ◌++◌, [], ℕ, List, OnOk, true, false, sym, ap, ap₂, ◌∙◌, subst, cond}
use Rattle.std.specs.List.{All}
use Rattle.kvs_model.specs.Operation.{placed, appended, changed, is_directory}
use Rattle.kvs_model.specs.Store.{Store, Directory, node_at, Value, Link}
use Rattle.tree_store.specs.Landing.{table}
use Rattle.tree_store.specs.Shown.{Directories, Stands, Shows}
use Rattle.std.proofs.lemmas.Result.{on_ok_weaker}
use Rattle.std.proofs.lemmas.List.Elements.{All-same}
use Rattle.kvs_txn.specs.declared.txn.Op.{Op}
use Rattle.tree_store.proofs.Entered.{text_above}
use Rattle.tree_store.proofs.Found.{stands_at}
use Rattle.tree_store.proofs.Placed.{directory_placed, cut_shows}
use Rattle.tree_store.proofs.Operated.{appended_more}
use Rattle.kvs_txn.specs.declared.txn.Op.TheVariants as op
use Rattle.tree_store.proofs.operations.change.Goals as goal

pub returns-then-is_directory : goal.returns-then-is_directory
returns-then-is_directory c = λ h st shows opens.
    let at = c.args.at.now in
    let there : is_directory (node_at st at) ≡ true = sym (c.is_directory.ensures h (table c.args.store.now) st shows opens) ∙ c.if-is_directory.true in
    subst (Shows h (table c.args.store.now) c.args.opened.now) (sym (ap (λ (o : Op). changed st o at) c.in-Mkdir.is ∙ ap (λ b. cond b st (placed st at Directory)) there)) shows

pub make-requires : goal.make-requires
make-requires c = text_above c.args.at.now c.requires.named

pub returns-in_ok-value-in-Put : goal.returns-in_ok-value-in-Put
returns-in_ok-value-in-Put c = λ h st shows opens.
    let at = c.args.at.now in
    let bytes = c.in-Put.bytes in
    let small : All (λ b. b < 256) bytes = All-same (λ b. b < 256) bytes c.as_slice.result.now (sym c.as_slice.ensures) c.are_bytes.ensures in
    subst (λ (s : Store). OnOk c.place.result (Shows h (table c.args.store.now) c.place.new.opened s)) (sym (ap (λ (o : Op). changed st o at) c.in-Put.is))
    (c.place.ensures h (table c.args.store.now) st (Value bytes) shows opens c.requires.below (ap Value (sym c.in_ok-value-in-Put.ensures)) small)

pub returns-in_ok-add-in-Append : goal.returns-in_ok-add-in-Append
returns-in_ok-add-in-Append c = λ h st shows opens.
    let at = c.args.at.now in
    let bytes = c.in-Append.bytes in
    let stands = subst (Stands h (table c.args.store.now) c.args.opened.now st at) (sym c.at.ensures) (stands_at h (table c.args.store.now) c.args.opened.now st at shows opens c.requires.below) in
    let old : c.in_ok-value-in-Append.value ≡ appended (node_at st at) [] = c.in_ok-value-in-Append.ensures ∙ c.bytes_at.ensures h c.args.opened.now st at stands in
    let whole : c.add.new.self ≡ appended (node_at st at) bytes =
    c.in_ok-add-in-Append.ensures.added ∙ ap₂ (λ (a b : List ℕ). a ++ b) old c.as_slice-in-Append.ensures ∙ appended_more (node_at st at) bytes in
    let small : All (λ b. b < 256) (appended (node_at st at) bytes) = All-same (λ b. b < 256) (appended (node_at st at) bytes) c.as_slice-in-Append-2.result.now (sym (c.as_slice-in-Append-2.ensures ∙ whole)) c.are_bytes-in-Append.ensures in
    subst (λ (s : Store). OnOk c.place-in-Append.result (Shows h (table c.args.store.now) c.place-in-Append.new.opened s)) (sym (ap (λ (o : Op). changed st o at) c.in-Append.is))
    (c.place-in-Append.ensures h (table c.args.store.now) st (Value (appended (node_at st at) bytes)) shows opens c.requires.below (ap Value (sym whole)) small)

pub returns-in-Unlink : goal.returns-in-Unlink
returns-in-Unlink c = λ h st shows opens.
    let at = c.args.at.now in
    subst (Shows h (table c.args.store.now) c.cut.new.self) (sym (ap (λ (o : Op). changed st o at) c.in-Unlink.is))
    (subst (λ (d : Directories). Shows h (table c.args.store.now) d (changed st (op.Unlink c.in-Unlink.path) at)) (sym c.cut.ensures) (cut_shows h (table c.args.store.now) c.args.opened.now st at shows opens c.requires.below))

pub returns-in_ok-make_places-in-Mkdir : goal.returns-in_ok-make_places-in-Mkdir
returns-in_ok-make_places-in-Mkdir c = λ h st shows opens.
    let at = c.args.at.now in
    let none : is_directory (node_at st at) ≡ false = sym (c.is_directory.ensures h (table c.args.store.now) st shows opens) ∙ c.if-is_directory.false in
    let made = c.in_ok-make_places-in-Mkdir.ensures in
    subst (λ (s : Store). OnOk c.make.result (Shows h (table c.args.store.now) c.make.new.self s)) (sym (ap (λ (o : Op). changed st o at) c.in-Mkdir.is ∙ ap (λ b. cond b st (placed st at Directory)) none))
    (on_ok_weaker c.make.result (λ is. subst (λ (d : Directories). Shows h (table c.args.store.now) d (placed st at Directory)) (sym is)
    (directory_placed h (table c.args.store.now) c.args.opened.now st at shows c.make_places.new.opened (made.made h (table c.args.store.now) st shows opens) (made.opens h (table c.args.store.now) st shows opens) c.requires.named c.requires.below none)) c.make.ensures)

pub returns-in_ok-target-in-Link : goal.returns-in_ok-target-in-Link
returns-in_ok-target-in-Link c = λ h st shows opens.
    let at = c.args.at.now in
    subst (λ (s : Store). OnOk c.place-in-Link.result (Shows h (table c.args.store.now) c.place-in-Link.new.opened s)) (sym (ap (λ (o : Op). changed st o at) c.in-Link.is))
    (c.place-in-Link.ensures h (table c.args.store.now) st (Link c.in-Link.target) shows opens c.requires.below (ap Link (sym c.in_ok-target-in-Link.ensures)) (c.is_target.ensures.key, c.is_target.ensures.named))
