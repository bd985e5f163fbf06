use Rattle.std.proofs.Common.{◌≡◌, ◌∙◌, List, Bool, true, false, refl, sym, append-nil}
use Rattle.std.specs.Prelude.{not}
use Rattle.world.specs.answers.Chronicle.{Setup, top}
use Rattle.world.specs.answers.declared.chronicle.Entry.{Entry}
use Rattle.world.specs.hierarchy.Births.{is_gone, lives}
use Rattle.world.specs.hierarchy.Legal.{AreOwnLegal}
use Rattle.summaries.specs.Summary.{IsTopLegal}
use Rattle.flux_commands.specs.Drawn.{generated_options}
use Rattle.flux.specs.Runs.{setup_of}
use Rattle.flux.proofs.generating.play_drawn.Goals as goal

not_gone : (gone : Bool) → not gone ≡ true → gone ≡ false
not_gone true alive = sym alive
not_gone false alive = refl

-- the top lives, and what each living instance has in its own chronicle is legal
top_legal : (set : Setup) (c : List Entry) → lives c top ≡ true → AreOwnLegal set c → IsTopLegal set c
top_legal set c alive own = record { lives = not_gone (is_gone c top) alive; legal = own top alive }

pub summary-requires : goal.summary-requires
summary-requires g c =
    let set = setup_of c.args.terms generated_options c.args.work in
    let run = c.in_ok-text.ensures.run in
    let chronicle = c.in_ok-text.field-0.ended.chronicle in (
      set,
      refl,
      sym c.in_ok-grant.ensures,
      top_legal set chronicle (c.births_are_numbered.ensures.top set chronicle run.legal) (c.a_whole_run_is_legal_in_all.ensures set chronicle run.legal run.whole),
    )

pub returns-clause-summary : goal.returns-clause-summary
returns-clause-summary g c =
    let set = setup_of c.args.terms generated_options c.args.work in
    let run = c.in_ok-text.ensures.run in
    let chronicle = c.in_ok-text.field-0.ended.chronicle in
    c.in_ok-text-2.ensures set refl (sym c.in_ok-grant.ensures) refl
    (top_legal set chronicle (c.births_are_numbered.ensures.top set chronicle run.legal) (c.a_whole_run_is_legal_in_all.ensures set chronicle run.legal run.whole))
    (c.deref.ensures.value ∙ run.printed ∙ append-nil _)
