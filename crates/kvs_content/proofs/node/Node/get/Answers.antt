use Rattle.std.proofs.Common.{◌≡◌, ◌∙◌, ◌++◌, not, ap, refl, sym, subst}
use Rattle.std.specs.Prelude.{is_some}
use Rattle.std.specs.Map.{lookup}
use Rattle.fl_digest.specs.Reference.{same_reference}
use Rattle.cache_node.specs.Cache.{clean_at}
use Rattle.kvs_content.specs.Node.{IsGetting, dropping, getting}
use Rattle.kvs_content.proofs.Lists.{flip, some-copied}
use Rattle.kvs_content.proofs.Sounding.{refused-out}
use Rattle.kvs_content.proofs.node.Node.get.Goals as goal

pub returns : goal.returns
returns c =
    let gets : c.is_none-gets.result ≡ not (is_some (clean_at c.args.reference c.self.inside.cache)) =
    flip c.is_none-gets.result _ c.is_none-gets.ensures ∙ ap not (sym (some-copied c.clean.result) ∙ ap is_some c.clean.ensures.found) in
    let told = c.in_ok-add_drops.ensures ∙ ap (λ es. es ++ dropping c.args.broker c.in_ok-gone.gone) (c.in_ok-events.ensures ∙ ap (getting c.args.broker c.args.reference) gets) in
    subst (λ n. IsGetting c.args.broker c.args.reference c.args.bytes n (record { cache = c.fill.new.self; refused = c.self.inside.refused.items }) c.add_drops.new.events) c.self.view_is (record {
      gone = c.in_ok-gone.gone;
      told = told;
      rest = c.in_ok-gone.ensures.left;
      dirty = ap (λ k. k.dirty) c.in_ok-gone.ensures.rest;
      out = ap (λ k. lookup (same_reference c.args.reference) k.dirty) c.in_ok-gone.ensures.rest ∙ refused-out c.self.inside.cache c.args.reference c.is_sound.ensures.once;
      refused = refl;
    })
