use Rattle.std.proofs.Common.{◌≡◌, ◌∙◌, ◌++◌, ap, map, sym, subst}
use Rattle.std.specs.Prelude.{IfSome, Some}
use Rattle.std.proofs.lemmas.Result.{on_ok_weaker}
use Rattle.services.specs.kvs_model.Store.{Name}
use Rattle.services.specs.instance_rules.Log.{Served}
use Rattle.services.specs.Agrees.{AgreesServices}
use Rattle.services.specs.Asks.{MayAsk}
use Rattle.instance.specs.Floors.{floor_in}
use Rattle.instance.specs.Seats.{IsTheAsk, moment_asked, seat_floor}
use Rattle.instance.proofs.seats.ask.Goals as goal

pub returns-clause-agrees : goal.returns-clause-agrees
returns-clause-agrees c =
    let seat = c.args.seat.now in
    let by = c.args.by in
    on_ok_weaker c.ask.result
    (λ agrees inst log before made unasked rested.
    subst (λ asked. AgreesServices c.ask.new.self inst (log ++ map Served (moment_asked by (seat_floor seat) asked))) (sym c.in-Some.is)
    (agrees inst log before (record {
      asks = subst (λ (space : Name). inst.service.asks by ≡ Some (record { broker = seat.broker; namespace = space; ask = c.in-Some.ask })) (sym c.in_ok-namespace.ensures)
          (subst (IsTheAsk inst.service by seat) c.in-Some.is made);
      new = unasked;
      rested = rested;
    }) (seat_floor seat) (ap (floor_in seat.floors) c.in_ok-namespace.ensures ∙ sym c.of-floor.ensures)))
    c.ask.ensures.agrees

pub ask-requires-clause-may : goal.ask-requires-clause-may
ask-requires-clause-may c =
    let seat = c.args.seat.now in
    let so = subst (λ o. IfSome o (MayAsk c.args.services.now c.args.by seat.broker seat.subject)) c.in-Some.is c.requires.may in
    subst (λ (space : Name). MayAsk c.args.services.now c.args.by seat.broker space c.in-Some.ask) (sym c.in_ok-namespace.ensures) so
