use Rattle.std.proofs.Common.{[], ◌∷◌, ◌++◌, ◌≡◌, ◌≢◌, ◌⊎◌, inl, inr, true, false, sym, ◌∙◌, refl, subst}
use Rattle.kvs_rules.specs.Namespaces.{is_primary}
use Rattle.answers.specs.declared.chronicle.Entry.TheVariants as entry
use Rattle.run_picture.specs.Follows.{Enters, IsFollowed, KeepGroups, with_column}
use Rattle.run_picture.proofs.Run.{enter_born, enter_elsewhere, enter_gone, enter_heard, enter_landed, enter_other, enter_passed, enter_ticked, enter_unborn, enter_ungone}
use Rattle.run_picture.proofs.following.Following.enter.Goals.{else-instance-number-via-then-instance-number+else-is_primary, else-instance-number-via-else-instance-number}
use Rattle.run_picture.proofs.following.Following.enter.Goals.{else-instance-number-2-via-then-instance-number-2+else-is_primary-2, else-instance-number-2-via-else-instance-number-2}
use Rattle.run_picture.proofs.following.Following.enter.Goals as goal

pub returns-in_ok-land-in-Landed : goal.returns-in_ok-land-in-Landed
returns-in_ok-land-in-Landed c =
    let e = c.in-Landed in
    let there : is_primary e.namespace ≡ true = sym c.is_primary.ensures ∙ c.if-is_primary.true in
    let made : KeepGroups c.args.self.now.rows.items c.as_slice.result.now c.land.new.self.rows.items = c.in_ok-land-in-Landed.ensures.rows in
    subst (λ x. Enters c.args.number c.args.places.now x c.args.self.now c.land.new.self) (sym e.is)
    (enter_landed c.args.number c.args.places.now e.instance e.namespace e.number e.authors e.groups c.args.self.now c.land.new.self c.if-instance-number.true there
    (subst (λ gs. KeepGroups c.args.self.now.rows.items gs c.land.new.self.rows.items) c.as_slice.ensures made) c.in_ok-land-in-Landed.ensures.rest)

pub returns-else-instance-number : goal.returns-else-instance-number
returns-else-instance-number c =
    let e = c.in-Landed in
    let elsewhere : (e.instance ≢ c.args.number) ⊎ (is_primary e.namespace ≡ false) = elim c.else-instance-number.branch [
      | else-instance-number-via-then-instance-number+else-is_primary w ↦ inr (sym w.is_primary.ensures ∙ w.if-is_primary.false)
      | else-instance-number-via-else-instance-number w ↦ inl w.if-instance-number.false
    ] in
    subst (λ x. Enters c.args.number c.args.places.now x c.args.self.now c.args.self.now) (sym e.is)
    (enter_passed c.args.number c.args.places.now (entry.Landed e.instance e.namespace e.number e.authors e.groups) c.args.self.now refl refl refl (enter_elsewhere c.args.number e.instance e.namespace elsewhere))

pub returns-then-is_primary-2 : goal.returns-then-is_primary-2
returns-then-is_primary-2 c =
    let e = c.in-Heard in
    let there : is_primary e.namespace ≡ true = sym c.is_primary-then-instance-number-2.ensures ∙ c.if-is_primary-2.true in
    subst (λ x. Enters c.args.number c.args.places.now x c.args.self.now c.hear.new.self) (sym e.is)
    (enter_heard c.args.number c.args.places.now e.instance e.broker e.namespace e.root c.args.self.now c.hear.new.self c.if-instance-number-2.true there c.hear.ensures.heard c.hear.ensures.rest)

pub returns-else-instance-number-2 : goal.returns-else-instance-number-2
returns-else-instance-number-2 c =
    let e = c.in-Heard in
    let elsewhere : (e.instance ≢ c.args.number) ⊎ (is_primary e.namespace ≡ false) = elim c.else-instance-number-2.branch [
      | else-instance-number-2-via-then-instance-number-2+else-is_primary-2 w ↦ inr (sym w.is_primary-then-instance-number-2.ensures ∙ w.if-is_primary-2.false)
      | else-instance-number-2-via-else-instance-number-2 w ↦ inl w.if-instance-number-2.false
    ] in
    subst (λ x. Enters c.args.number c.args.places.now x c.args.self.now c.args.self.now) (sym e.is)
    (enter_passed c.args.number c.args.places.now (entry.Heard e.instance e.broker e.namespace e.root) c.args.self.now refl refl refl (enter_elsewhere c.args.number e.instance e.namespace elsewhere))

pub returns-in_ok-end_second-in-Ticked : goal.returns-in_ok-end_second-in-Ticked
returns-in_ok-end_second-in-Ticked c =
    let e = c.in-Ticked in
    subst (λ x. Enters c.args.number c.args.places.now x c.args.self.now (record c.end_second.new.self { second = e.second })) (sym e.is)
    (λ set past brokers run given h.
    let made : c.end_second.new.self ≡ with_column c.args.self.now c.args.places.now = c.in_ok-end_second-in-Ticked.ensures h.drawn in
    subst (λ f. IsFollowed set (past ++ entry.Ticked e.second ∷ []) c.args.number brokers c.args.places.now (record f { second = e.second })) (sym made) (enter_ticked c.args.number c.args.places.now e.second c.args.self.now set past brokers run given h))

pub returns-then-child-number : goal.returns-then-child-number
returns-then-child-number c =
    let e = c.in-Born in
    subst (λ x. Enters c.args.number c.args.places.now x c.args.self.now (record c.args.self.now { lives = true })) (sym e.is)
    (enter_born c.args.number c.args.places.now e.child e.parent e.job e.label e.second e.grant c.args.self.now c.if-child-number.true)

pub returns-else-child-number : goal.returns-else-child-number
returns-else-child-number c =
    let e = c.in-Born in
    subst (λ x. Enters c.args.number c.args.places.now x c.args.self.now c.args.self.now) (sym e.is)
    (enter_unborn c.args.number c.args.places.now e.child e.parent e.job e.label e.second e.grant c.args.self.now c.if-child-number.false)

pub returns-then-child-number-2 : goal.returns-then-child-number-2
returns-then-child-number-2 c =
    let e = c.in-Gone in
    subst (λ x. Enters c.args.number c.args.places.now x c.args.self.now (record c.args.self.now { lives = false })) (sym e.is)
    (enter_gone c.args.number c.args.places.now e.child e.parent e.job e.shut c.args.self.now c.if-child-number-2.true)

pub returns-else-child-number-2 : goal.returns-else-child-number-2
returns-else-child-number-2 c =
    let e = c.in-Gone in
    subst (λ x. Enters c.args.number c.args.places.now x c.args.self.now c.args.self.now) (sym e.is)
    (enter_ungone c.args.number c.args.places.now e.child e.parent e.job e.shut c.args.self.now c.if-child-number-2.false)

pub returns-in_default : goal.returns-in_default
returns-in_default c =
    let d = c.in_default in
    enter_other c.args.number c.args.places.now c.args.entry.now c.args.self.now d.not-Landed d.not-Heard d.not-Ticked d.not-Born d.not-Gone
