use Rattle.std.proofs.Common.{sym, ap, ◌∙◌, subst}
use Rattle.kvs_model.specs.Operation.{first_cause, refusals}
use Rattle.tree_store.specs.Landing.{table}
use Rattle.tree_store.specs.Shown.{Stands}
use Rattle.std.specs.Prelude.{Option}
use Rattle.kvs_txn.specs.declared.answers.Cause.{Cause}
use Rattle.kvs_txn.specs.declared.txn.Op.{Op}
use Rattle.tree_store.proofs.Found.{stands_at}
use Rattle.tree_store.proofs.Refusing.{first_of, full, of_append, of_put, of_mkdir, of_link}
use Rattle.tree_store.proofs.operations.refusal.Goals as goal

pub returns-in-Some : goal.returns-in-Some
returns-in-Some c = λ h st shows opens.
    let at = c.args.at.now in
    let stands = subst (Stands h (table c.args.store.now) c.args.opened.now st at) (sym c.at.ensures) (stands_at h (table c.args.store.now) c.args.opened.now st at shows opens c.requires) in
    ap (λ (o : Option Cause). first_of o (full st at)) (c.in-Some.ensures h c.args.opened.now st at stands)
    ∙ sym (of_append c.args.who c.args.space st c.in-Append.path at c.in-Append.bytes (sym c.reserves.ensures ∙ c.if-reserves.false))
    ∙ ap (λ (o : Op). first_cause (refusals st c.args.who c.args.space o at)) (sym c.in-Append.is)

pub returns-in-None : goal.returns-in-None
returns-in-None c = λ h st shows opens.
    let at = c.args.at.now in
    let stands = subst (Stands h (table c.args.store.now) c.args.opened.now st at) (sym c.at.ensures) (stands_at h (table c.args.store.now) c.args.opened.now st at shows opens c.requires) in
    c.name_refusal.ensures h (table c.args.store.now) st shows opens
    ∙ ap (λ (o : Option Cause). first_of o (full st at)) (c.in-None.ensures h c.args.opened.now st at stands)
    ∙ sym (of_append c.args.who c.args.space st c.in-Append.path at c.in-Append.bytes (sym c.reserves.ensures ∙ c.if-reserves.false))
    ∙ ap (λ (o : Op). first_cause (refusals st c.args.who c.args.space o at)) (sym c.in-Append.is)

pub returns-in-Put : goal.returns-in-Put
returns-in-Put c = λ h st shows opens.
    c.name_refusal-in-Put.ensures h (table c.args.store.now) st shows opens
    ∙ sym (of_put c.args.who c.args.space st c.in-Put.path c.args.at.now c.in-Put.bytes (sym c.reserves.ensures ∙ c.if-reserves.false))
    ∙ ap (λ (o : Op). first_cause (refusals st c.args.who c.args.space o c.args.at.now)) (sym c.in-Put.is)

pub returns-in-Mkdir : goal.returns-in-Mkdir
returns-in-Mkdir c = λ h st shows opens.
    c.name_refusal-in-Mkdir.ensures h (table c.args.store.now) st shows opens
    ∙ sym (of_mkdir c.args.who c.args.space st c.in-Mkdir.path c.args.at.now (sym c.reserves.ensures ∙ c.if-reserves.false))
    ∙ ap (λ (o : Op). first_cause (refusals st c.args.who c.args.space o c.args.at.now)) (sym c.in-Mkdir.is)

pub returns-in-Link : goal.returns-in-Link
returns-in-Link c = λ h st shows opens.
    c.name_refusal-in-Link.ensures h (table c.args.store.now) st shows opens
    ∙ sym (of_link c.args.who c.args.space st c.in-Link.path c.args.at.now c.in-Link.target (sym c.reserves.ensures ∙ c.if-reserves.false))
    ∙ ap (λ (o : Op). first_cause (refusals st c.args.who c.args.space o c.args.at.now)) (sym c.in-Link.is)
