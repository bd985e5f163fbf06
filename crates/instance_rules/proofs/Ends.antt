-- Who may go, and to which second time goes on.
use Rattle.std.proofs.Common.{◌≡◌, ℕ, ◌<◌, ◌≤◌, inl, inr, List, refl, sym, subst}
use Rattle.std.specs.Prelude.{IsSome}
use Rattle.std.proofs.lemmas.Bool.{cases_lt}
use Rattle.instance_rules.specs.Family.{AreNumbered, EndsIn, IsTarget, LiesIn, Living, MayGo, MayTick, itself, below}

module _ (family : List Living) (numbered : AreNumbered family) (child : Living) (m : MayGo family child) where
  has_parent : (n : ℕ) → LiesIn family m.outer.number n → n ≡ child.number → IsSome child.from
  has_parent n itself e = subst (λ l. IsSome l.from) (numbered m.outer child m.over.here m.lives e) (subst IsSome (sym m.over.from) refl)
  has_parent n (below other parent job there from more) e = subst (λ l. IsSome l.from) (numbered other child there m.lives e) (subst IsSome (sym from) refl)

  pub not_the_top : IsSome child.from
  not_the_top = has_parent child.number m.inside refl

module _ (family : List Living) (now : ℕ) (left : List ℕ) (second : ℕ) (m : MayTick family now left second) where
  upto : (other : ℕ) → ((other < second) → ⊥) → second ≤ other
  upto other never = elim (cases_lt other second) [ inl lower ↦ absurd (never lower) | inr above ↦ above ]

  pub goes_on : now < second
  goes_on = m.ahead.above

  pub target_kept : (target : ℕ) → IsTarget family left target → now < target → second ≤ target
  target_kept target is above = upto target (m.least target (record { above = above; by = inl is }))

  pub end_kept : (end : ℕ) → EndsIn family end → now < end → second ≤ end
  end_kept end is above = upto end (m.least end (record { above = above; by = inr is }))
