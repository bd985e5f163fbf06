use Rattle.std.proofs.Common.{◌≡◌, ◌≢◌, None, Some, refl, sym, ap, ◌∙◌, subst, rules, true≢false}
use Rattle.std.specs.Prelude.{Contains}
use Rattle.std.specs.List.Sorted.{IsStrictlyIncreasing}
use Rattle.job_rules.specs.Fits.{CanFit, free_of}
use Rattle.job_rules.proofs.Among.{among_from, each_at}
use Rattle.job_spec.specs.Sound.{IsSpec}
use Rattle.manager_rules.specs.declared.policy.Policy.TheVariants.{FirstFit}
use Rattle.manager_rules.specs.Dependencies.{IsHead}
use Rattle.manager_rules.specs.Jobs.{StoredJob, ids_of}
use Rattle.manager_rules.specs.Scene.{Scene}
use Rattle.job_deeds.specs.Choices.{IsSeen}
use Rattle.job_deeds.specs.Passing.{IsFirstLeaving}
use Rattle.job_deeds.specs.Waiting.{IsFirstOf, waits_with}
use Rattle.job_deeds.proofs.Finding.{none_of}
use Rattle.job_deeds.proofs.Fitting.{is_head}
use Rattle.job_deeds.proofs.Passes.{head_known, is_easy, none_first, none_full, none_seen, passer_is, some_seen}
use Rattle.job_deeds.proofs.passing.passer.Goals.{After-index-desk-place_in}
use Rattle.job_deeds.proofs.passing.passer.Goals as goal

pub returns-in_default : goal.returns-in_default
returns-in_default c = λ s seen.
    let none = subst (IsFirstOf c.args.desk.now.rows.now) (none_of c.args.desk.now.head c.in_default.not-Some) c.requires.head in
    none_first s (subst (λ js. (k : StoredJob) → Contains js k → waits_with k ≡ 0) (sym seen.jobs) none)

pub place_in-requires-clause-known : goal.place_in-requires-clause-known
place_in-requires-clause-known c = head_known c.args.desk.now.rows.now c.in-Some.first (is_head c.args.desk.now.rows.now c.args.desk.now.head c.in-Some.first c.requires.head c.in-Some.is)

-- the first in the queue
known : (c : After-index-desk-place_in) → Contains c.args.desk.now.rows.now c.index-desk-place_in.result
known c = (c.place_in.result, c.place_in.ensures.within, sym c.index-desk-place_in.is)

first : (c : After-index-desk-place_in) → IsHead c.args.desk.now.rows.now c.index-desk-place_in.result.id
first c =
    let rows = c.args.desk.now.rows.now in
    let head = c.index-desk-place_in.result in
    subst (IsHead rows) (sym (ap (λ j. j.id) c.index-desk-place_in.is ∙ c.place_in.ensures.named head)) (is_head rows c.args.desk.now.head c.in-Some.first c.requires.head c.in-Some.is)

spec : (c : After-index-desk-place_in) → IsSpec c.index-desk-place_in.result.spec
spec c = each_at (λ j. IsSpec j.spec) c.args.desk.now.rows.now c.index-desk-place_in.result c.requires.specs (among_from c.args.desk.now.rows.now c.index-desk-place_in.result (known c))

pub returns-then-has_room : goal.returns-then-has_room
returns-then-has_room c = λ s seen.
    let at = (goal.at.returns-then-has_room c).After-index-desk-place_in in
    let desk = c.args.desk.now in
    let head = c.index-desk-place_in.result in
    none_full s (subst (λ js. IsStrictlyIncreasing (ids_of js)) (sym seen.jobs) c.requires.in_time.rising) head (subst (λ js. Contains js head) (sym seen.jobs) (known at)) (subst (λ js. IsHead js head.id) (sym seen.jobs) (first at))
    (some_seen desk s seen c.keeps.ensures.grant head (spec at) (subst (λ j. CanFit j.spec desk.graph.now.grant (free_of desk.graph.now.grant desk.graph.now.live)) (c.head.view_is ∙ sym c.index-desk-place_in.is) (c.has_room.ensures.0 c.if-has_room.true)))

pub returns : goal.returns
returns c = λ s seen.
    let at = (goal.at.returns c).After-index-desk-place_in in
    let desk = c.args.desk.now in
    let head = c.index-desk-place_in.result in
    let found = c.in_ok-found.ensures s seen in
    let full : CanFit head.spec desk.graph.now.grant (free_of desk.graph.now.grant desk.graph.now.live) → ⊥ = λ can. true≢false (sym (c.has_room.ensures.1 (subst (λ j. CanFit j.spec desk.graph.now.grant (free_of desk.graph.now.grant desk.graph.now.live)) (c.index-desk-place_in.is ∙ sym c.head.view_is) can)) ∙ c.if-has_room.false) in
    let other : desk.policy ≢ FirstFit = search rules in
    passer_is s (subst (λ js. IsStrictlyIncreasing (ids_of js)) (sym seen.jobs) c.requires.in_time.rising) head (subst (λ js. Contains js head) (sym seen.jobs) (known at)) (subst (λ js. IsHead js head.id) (sym seen.jobs) (first at))
    (seen.policy ∙ is_easy desk.policy other) (none_seen desk s seen c.keeps.ensures.grant head (spec at) full) found.0 c.in_ok-found.found (subst (λ js. IsFirstLeaving s head js found.0 c.in_ok-found.found) (sym seen.jobs) (subst (λ k. IsFirstLeaving s k desk.rows.now found.0 c.in_ok-found.found) (sym c.index-desk-place_in.is) found.1))
