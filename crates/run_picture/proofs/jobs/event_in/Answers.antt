use Rattle.std.proofs.Common.{◌≡◌, [], ◌∷◌, Ok, sym, ap, ◌∙◌, append-nil}
use Rattle.std.proofs.lemmas.List.Elements.{All-cons, All-nil}
use Rattle.event_log.specs.Events.{IsEvent, line_text}
use Rattle.event_log.specs.Logs.{log_reading, log_text}
use Rattle.run_picture.proofs.Keeping.{last_one}
use Rattle.run_picture.proofs.jobs.event_in.Goals as goal

pub returns-in-Some : goal.returns-in-Some
returns-in-Some c = λ told is same.
    let again : log_reading (log_text (told ∷ [])) ≡ Ok (told ∷ []) = c.a_log_is_read_again.ensures (told ∷ []) (All-cons IsEvent told [] is (All-nil IsEvent)) in
    let text : c.args.line.now ≡ log_text (told ∷ []) = same ∙ sym (append-nil (line_text told)) in
    let read : log_reading c.as_slice.result.now ≡ Ok c.in-Ok.events.items = c.in-Ok.ensures.log in
    let here : c.as_slice.result.now ≡ c.args.line.now = c.as_slice.ensures in
    let both : Ok c.in-Ok.events.items ≡ Ok (told ∷ []) = sym read ∙ ap log_reading (here ∙ text) ∙ again in
    let items : c.in-Ok.events.items ≡ told ∷ [] = cc in
    last_one c.in-Ok.events.items c.pop.new.self.items c.in-Some.event told c.in-Some.ensures.items items
