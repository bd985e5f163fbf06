use Rattle.std.proofs.Common.{◌++◌, ◌∷◌, [], ◌∙◌, ap, codes, sym}
use Rattle.manager_rules.specs.Keys.{job_path}
use Rattle.job_manager.proofs.Dotted.{if-ok, key-is, text-is}
use Rattle.job_manager.proofs.keys.key.Goals as goal

pub read_key-requires : goal.read_key-requires
read_key-requires c =
    let one = c.in_ok-add.ensures.added ∙ ap (λ t. t ++ c.as_slice.result.now) c.in_ok-text.ensures ∙ ap (λ t. codes "job." ++ t) (c.as_slice.ensures.value ∙ c.in_ok-id.ensures.text) in
    let two = c.in_ok-add-2.ensures.added ∙ ap (λ t. t ++ codes ".") one in
    let three = c.in_ok-add-3.ensures.added ∙ ap (λ t. t ++ c.args.name.now) two in
    (job_path c.args.id ++ c.args.name.now ∷ [], key-is c.args.id c.args.name.now c.requires.name c.requires.short, three ∙ sym (text-is c.args.id c.args.name.now))

pub returns : goal.returns
returns c =
    let one = c.in_ok-add.ensures.added ∙ ap (λ t. t ++ c.as_slice.result.now) c.in_ok-text.ensures ∙ ap (λ t. codes "job." ++ t) (c.as_slice.ensures.value ∙ c.in_ok-id.ensures.text) in
    let two = c.in_ok-add-2.ensures.added ∙ ap (λ t. t ++ codes ".") one in
    let three = c.in_ok-add-3.ensures.added ∙ ap (λ t. t ++ c.args.name.now) two in
    if-ok c.read_key.result (λ path h. h (job_path c.args.id ++ c.args.name.now ∷ []) (key-is c.args.id c.args.name.now c.requires.name c.requires.short) (three ∙ sym (text-is c.args.id c.args.name.now))) c.read_key.ensures
