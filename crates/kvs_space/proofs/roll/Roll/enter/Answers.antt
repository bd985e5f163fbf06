use Rattle.std.proofs.Common.{◌≡◌, ◌∙◌, ◌++◌, ◌∷◌, [], None, ap, ap₂, sym, subst, length, map}
use Rattle.std.specs.List.{position}
use Rattle.std.specs.Str.{bytes_eq}
use Rattle.std.proofs.lemmas.List.{length-map}
use Rattle.kvs_space.proofs.Rolls.{entered-keys}
use Rattle.kvs_space.proofs.roll.Roll.enter.Goals as goal

pub returns : goal.returns
returns c =
    let key = c.in_ok-from_slice.field-0 in
    let keys = c.self.inside.names.keys in
    let name : key.items ≡ c.args.name.now = c.in_ok-from_slice.ensures.items ∙ c.as_slice.ensures in
    let none : position (bytes_eq key.items) (map (λ k. k.items) keys) ≡ None = ap (λ n. position (bytes_eq n) (map (λ k. k.items) keys)) name ∙ ap (λ v. position (bytes_eq c.args.name.now) v.names) c.self.view_is ∙ c.requires.new in
    let names = ap (map (λ k. k.items)) c.in_ok-insert.ensures.keys ∙ entered-keys keys key none ∙ ap₂ (λ ns n. ns ++ n ∷ []) (ap (λ v. v.names) c.self.view_is) name in
    let place = c.len-place.ensures.len ∙ sym (length-map keys (λ k. k.items)) ∙ ap (λ v. length v.names) c.self.view_is in
    let awake = c.in_ok-push.ensures.items ∙ ap₂ (λ ws n. ws ++ n ∷ []) (ap (λ v. v.awake) c.self.view_is) place in
    record { entered = ap₂ (λ ns ws. record { names = ns; awake = ws }) names awake }
