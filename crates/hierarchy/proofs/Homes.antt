-- Who is in the family, and whose an actor is.
use Rattle.std.proofs.Common.{◌≡◌, ℕ, List, Bool, true, false, ◌&&◌, refl, sym, ap, ap₂, ◌∙◌, subst, true≢false}
use Rattle.std.specs.Prelude.{Contains}
use Rattle.std.proofs.lemmas.Bool.{and_parts}
use Rattle.job_rules.proofs.Among.{any_at, any_from}
use Rattle.manager_rules.specs.Times.{IsIdle}
use Rattle.instance_rules.specs.Family.{AreNumbered, IsEndOf, IsFamilyIdle, Living, OfLiving}
use Rattle.instance_rules.specs.Legal.{OfDesk}
use Rattle.answers.specs.Chronicle.{Setup}
use Rattle.answers.specs.Jobs.{instance_of, log_in}
use Rattle.answers.specs.declared.chronicle.Entry.{Entry}
use Rattle.hierarchy.specs.Births.{has_home, has_lost_home, is_at, is_born, is_gone, label_of, lives, numbers}
use Rattle.hierarchy.specs.Families.{family_of, living_in}
use Rattle.hierarchy.specs.Growing.{GoesOn}
use Rattle.hierarchy.specs.Own.{own_of, setup_in}
use Rattle.hierarchy.proofs.Members.{gone_was_born, member}
use Rattle.hierarchy.proofs.Nested.{numbered_born}

module _ (set : Setup) (c : List Entry) where
  pub in_family_only : (l : Living) → Contains (family_of set c) l → (lives c l.number ≡ true) × (l ≡ living_in set c l.number)
  in_family_only l here = let m = member set c l here in (m.lives_so, m.is)

  pub are_numbered : AreNumbered (family_of set c)
  are_numbered a b here there same = (member set c a here).is ∙ ap (living_in set c) same ∙ sym (member set c b there).is

  pub all_idle : ((i : ℕ) → lives c i ≡ true → OfDesk (instance_of (setup_in set c i)) (log_in (setup_in set c i).work (own_of set c i)) IsIdle)
      → ((l : Living) → Contains (family_of set c) l → IsEndOf (family_of set c) l → ⊥) → IsFamilyIdle (family_of set c)
  all_idle idle stays = record {
    idle = λ l here. let m = member set c l here in subst (λ x. OfLiving x IsIdle) (sym m.is) (idle l.number m.lives_so);
    stays = stays;
  }

  pub lost_so : GoesOn set c → (i actor : ℕ) → is_gone c i ≡ true → is_at set.work.actors (label_of c i) actor ≡ true → has_lost_home set.work.actors c actor ≡ true
  lost_so on i actor gone here =
      any_at (λ n. is_gone c n && is_at set.work.actors (label_of c n) actor) (numbers c) i (numbered_born c i (gone_was_born set c on.run i gone)) (ap₂ (λ a b. a && b) gone here)

  pub left_so : (actor : ℕ) → has_lost_home set.work.actors c actor ≡ true → (i : ℕ) × (is_gone c i ≡ true) × (is_at set.work.actors (label_of c i) actor ≡ true)
  left_so actor lost =
      let f = any_from (λ n. is_gone c n && is_at set.work.actors (label_of c n) actor) (numbers c) lost in
      let p = and_parts (is_gone c f.0) (is_at set.work.actors (label_of c f.0) actor) f.2 in
      (f.0, p.0, p.1)

  pub unborn_so : (actor : ℕ) → ((i : ℕ) → is_born c i ≡ true → is_at set.work.actors (label_of c i) actor ≡ false) → has_home set.work.actors c actor ≡ false
  unborn_so actor away = by (has_home set.work.actors c actor) refl
    where
      by : (b : Bool) → has_home set.work.actors c actor ≡ b → b ≡ false
      by false is = refl
      by true is =
          let f = any_from (λ n. is_born c n && is_at set.work.actors (label_of c n) actor) (numbers c) is in
          let p = and_parts (is_born c f.0) (is_at set.work.actors (label_of c f.0) actor) f.2 in
          absurd (true≢false (sym p.1 ∙ away f.0 p.0))
