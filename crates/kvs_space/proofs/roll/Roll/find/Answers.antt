use Rattle.std.proofs.Common.{◌≡◌, ◌∙◌, ap, sym}
use Rattle.std.specs.List.{position}
use Rattle.std.specs.Str.{bytes_eq}
use Rattle.kvs_space.proofs.Rolls.{named-at, position-map}
use Rattle.kvs_space.proofs.roll.Roll.find.Goals as goal

pub returns-clause-place : goal.returns-clause-place
returns-clause-place c =
    c.get_index_of.ensures.index ∙ ap (λ n. position (λ key. bytes_eq n key.items) c.self.inside.names.keys) c.as_slice.ensures
    ∙ sym (position-map (λ key. key.items) (bytes_eq c.args.name.now) c.self.inside.names.keys) ∙ ap (λ v. position (bytes_eq c.args.name.now) v.names) c.self.view_is

pub returns-clause-found : goal.returns-clause-found
returns-clause-found c = λ spaces is. returns-clause-place c ∙ named-at is c.args.name.now
