use Rattle.std.proofs.Common.{◌≡◌, length, arith, ap, ◌∙◌}
use Rattle.std.specs.Result.{result_ok}
use Rattle.fluid_ids.specs.Texts.{meaning}
use Rattle.fluid_ids.specs.declared.forms.Form.TheVariants.{Dothex}
use Rattle.run_picture.proofs.Keeping.{id_named, ok_more, six_names}
use Rattle.run_picture.proofs.posts.job_at.Goals as goal

pub returns-in-len6 : goal.returns-in-len6
returns-in-len6 c = ok_more _ _ c.id_of.result (λ found is id key small at.
    is ∙ ap (λ text. result_ok (meaning text)) (id_named c.args.path.now c.first-item.result c.second-item.result c.third-item.result c.last-item.result id key at c.first-item.is c.second-item.is c.third-item.is c.last-item.is)
    ∙ ap result_ok (c.printed_ids_are_read_again.ensures Dothex id small)) c.id_of.ensures

pub returns-in_default : goal.returns-in_default
returns-in_default c = λ id key small at. let six : length c.args.path.now ≡ 6 = six_names c.args.path.now id key at in let none : ⊥ = omega (arith, six, c.in_default.len_below) in absurd none

pub returns-in_default-2 : goal.returns-in_default-2
returns-in_default-2 c = λ id key small at. let six : length c.args.path.now ≡ 6 = six_names c.args.path.now id key at in let none : ⊥ = omega (arith, six, c.in_default.len_at_least) in absurd none
