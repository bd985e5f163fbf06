-- What is due where nobody passes the first in the queue, and what else where one does.
use Rattle.std.proofs.Common.{◌≡◌, ℕ, ◌⊎◌, inl, inr, List, Option, Some, None}
use Rattle.job_deeds.specs.tap.declared.Ask.{Ask}
use Rattle.job_deeds.specs.manager_rules.declared.asked.Asked.{Asked}
use Rattle.job_deeds.specs.manager_rules.declared.due.Due.{Due}
use Rattle.job_deeds.specs.manager_rules.declared.policy.Policy.TheVariants.{FirstFit, Easy}
use Rattle.job_deeds.specs.manager_rules.Deeds.{Deed, Validates, Adds, Removes, Loses, Depends, Restarts, Prioritizes, NeverFits, Takes, Starts, Finishes, Expires, Stops, Releases, Frees, Cleans, Carries}
use Rattle.job_deeds.specs.manager_rules.Due.{IsDue, IsFirstFit, MayDo, MayTake, Passes}
use Rattle.job_deeds.specs.manager_rules.Jobs.{StoredJob}
use Rattle.job_deeds.specs.manager_rules.Scene.{Scene}
use Rattle.job_deeds.specs.resource_set.declared.node.Resources.{Resources}
use Rattle.job_book.specs.Contract.{Finds, FindsPassing, NoneDueIn, plain}
use Rattle.job_book.specs.Value.{BookValue, scene_of}

abbrev plain_scene : Scene → Scene
plain_scene s = record s { policy = FirstFit }

module _ (s : Scene) (j : StoredJob) where
  fit_to : (r : Resources) → IsFirstFit (plain_scene s) j r → IsFirstFit s j r
  fit_to r fit = record { nodes = fit.nodes; start = fit.start; end = fit.end; free = fit.free; written = fit.written }

  fit_back : (r : Resources) → IsFirstFit s j r → IsFirstFit (plain_scene s) j r
  fit_back r fit = record { nodes = fit.nodes; start = fit.start; end = fit.end; free = fit.free; written = fit.written }

  take_to : (r : Resources) → MayTake (plain_scene s) j r → MayTake s j r
  take_to r (inl first) = inl first
  take_to r (inr p) = let both : FirstFit ≡ Easy = p.easy in cc

  -- what is due without one that passes is due
  pub plain_to : (deed : Deed) → MayDo (plain_scene s) j deed → MayDo s j deed
  plain_to Validates m = m
  plain_to (Adds need) m = m
  plain_to (Removes need) m = m
  plain_to (Loses need) m = m
  plain_to Depends m = m
  plain_to Restarts m = m
  plain_to (Prioritizes priority) m = m
  plain_to NeverFits m = m
  plain_to (Takes r) m = (m.0, take_to r m.1, fit_to r m.2, m.3)
  plain_to Starts m = m
  plain_to (Finishes status) m = m
  plain_to Expires m = m
  plain_to Stops m = m
  plain_to Releases m = m
  plain_to Frees m = m
  plain_to Cleans m = m
  plain_to (Carries asked) m = m

  -- and what is due else is the taking of one that passes
  pub plain_or : (deed : Deed) → MayDo s j deed → MayDo (plain_scene s) j deed ⊎ ((r : Resources) × Passes s j r)
  plain_or Validates m = inl m
  plain_or (Adds need) m = inl m
  plain_or (Removes need) m = inl m
  plain_or (Loses need) m = inl m
  plain_or Depends m = inl m
  plain_or Restarts m = inl m
  plain_or (Prioritizes priority) m = inl m
  plain_or NeverFits m = inl m
  plain_or (Takes r) m = elim m.1 [
    | inl first ↦ inl (m.0, inl first, fit_back r m.2, m.3)
    | inr p ↦ inr (r, p)
  ]
  plain_or Starts m = inl m
  plain_or (Finishes status) m = inl m
  plain_or Expires m = inl m
  plain_or Stops m = inl m
  plain_or Releases m = inl m
  plain_or Frees m = inl m
  plain_or Cleans m = inl m
  plain_or (Carries asked) m = inl m

-- an event that is due without one that passes is due
pub due_to : (s : Scene) (due : Due) → IsDue (plain_scene s) due → IsDue s due
due_to s due is = record { j = is.j; known = is.known; deed = is.deed; may = plain_to s is.j is.deed is.may; is = is.is }

-- where nothing is due but for one that passes, what is found for that one is what is due
pub finds_after : (book : BookValue) (now : ℕ) (asked : List Asked) (says : Ask → ℕ → Type 0) (found : Option Due) → NoneDueIn (plain book) now asked says → FindsPassing book now asked says found → Finds book now asked says found
finds_after book now asked says (Some due) none finds = finds
finds_after book now asked says None none finds = λ answer limits said due is.
    let s = scene_of book now asked answer limits in
    elim (plain_or s is.j is.deed is.may) [
      | inl may ↦ none answer limits said due (record { j = is.j; known = is.known; deed = is.deed; may = may; is = is.is })
      | inr p ↦ finds answer limits said is.j p.0 is.known p.1
    ]
