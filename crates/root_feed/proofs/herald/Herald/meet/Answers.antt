use Rattle.std.proofs.Common.{◌≤◌, ℕ, List, sym, subst, slice_index, le_trans}
use Rattle.root_feed.specs.Numbers.{IsWithin}
use Rattle.root_feed.specs.declared.rule.View.{View}
use Rattle.root_feed.proofs.Steps.{within_greater_left, within_greater_right}
use Rattle.root_feed.proofs.herald.Herald.meet.Goals as goal

pub returns-clause-reached : goal.returns-clause-reached
returns-clause-reached g c =
    let note : IsWithin c.into_token.result.seen c.join.new.self.seen = subst (λ (v : View). IsWithin c.into_token.result.seen v.seen) (sym c.join.ensures) (within_greater_right _ _) in
    let told : IsWithin c.args.note c.join.new.self.seen = subst (λ (s : List ℕ). IsWithin s c.join.new.self.seen) c.into_token.ensures note in
    let b = c.self.inside.broker in
    let both : slice_index c.args.note b ≤ c.load.result = subst (λ (n : ℕ). slice_index c.args.note b ≤ n) c.load.ensures.0 (le_trans (told b) (c.load.ensures.1 b)) in
    rw (← c.self.view_is) both

pub returns-clause-later : goal.returns-clause-later
returns-clause-later g c =
    let note : IsWithin c.into_token.result.seen c.join.new.self.seen = subst (λ (v : View). IsWithin c.into_token.result.seen v.seen) (sym c.join.ensures) (within_greater_right _ _) in
    let told : IsWithin c.args.note c.join.new.self.seen = subst (λ (s : List ℕ). IsWithin s c.join.new.self.seen) c.into_token.ensures note in
    let mine : IsWithin c.self.inside.token.seen c.join.new.self.seen = subst (λ (v : View). IsWithin c.self.inside.token.seen v.seen) (sym c.join.ensures) (within_greater_left _ _) in
    (λ b. rw (← c.self.view_is) (le_trans (mine b) (c.load.ensures.1 b)), λ b. le_trans (told b) (c.load.ensures.1 b))
