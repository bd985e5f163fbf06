use Rattle.std.proofs.Common.{◌≡◌, [], ◌∙◌, ap, max, subst}
use Rattle.std.proofs.lemmas.Result.{on_ok_weaker}
use Rattle.services.specs.answers.Chronicle.{uses_of}
use Rattle.services.specs.answers.Floors.{number_in}
use Rattle.instance.specs.Floors.{floor_in, seen_in}
use Rattle.instance.proofs.Seeing.{seen_alone, seen_besides}
use Rattle.instance.proofs.actors.see.Goals as goal

pub returns-in-None : goal.returns-in-None
returns-in-None c =
    let none : [] ≡ uses_of c.args.given.now = c.in-None.ensures in
    on_ok_weaker c.see_number.result
    (λ h space. subst (λ uses. floor_in c.see_number.new.floors space ≡ seen_in c.args.floors.now c.args.subject.now c.args.number uses space) none
    (h space ∙ seen_alone c.args.floors.now c.args.subject.now c.args.number space))
    c.see_number.ensures

pub returns-in_ok-see_roots-in-Some : goal.returns-in_ok-see_roots-in-Some
returns-in_ok-see_roots-in-Some c =
    let uses = uses_of c.args.given.now in
    let named : c.as_slice.result.now ≡ uses = c.as_slice.ensures ∙ c.in-Some.ensures in
    on_ok_weaker c.see_number-in-Some.result
    (λ h space. h space ∙ seen_besides c.args.floors.now c.see_roots.new.floors c.args.subject.now c.args.number uses space
    (c.in_ok-see_roots-in-Some.ensures space ∙ ap (λ roots. max (floor_in c.args.floors.now space) (number_in space roots)) named))
    c.see_number-in-Some.ensures
