-- What one instance makes leaves the world sound.
use Rattle.std.proofs.Common.{◌≡◌, ◌∙◌, ℕ, List, [], ◌∷◌, ◌++◌, true, false, ◌||◌, None, length, refl, sym, ap, subst, true≢false}
use Rattle.std.specs.Prelude.{◌==◌, is_some}
use Rattle.std.specs.Option.{option_map_or}
use Rattle.instance.specs.kvs_rules.Sequence.{EachAfter}
use Rattle.instance.proofs.kvs_rules_proofs.Sequences.{each_joined}
use Rattle.instance.specs.answers.Chronicle.{Checkpoint, Setup, top}
use Rattle.instance.specs.answers.Jobs.{instance_of, start_of}
use Rattle.instance.specs.answers.declared.chronicle.Entry.{Entry}
use Rattle.instance.specs.answers.declared.steps.Step.{Step}
use Rattle.hierarchy.specs.Births.{birth_of, is_born}
use Rattle.hierarchy.specs.Grows.{LivesSo}
use Rattle.hierarchy.specs.Legal.{HasRunRest, IsLegalRunEntry, IsSettledRun, RunRestsFirst}
use Rattle.hierarchy.specs.Own.{child_setup, work_for}
use Rattle.hierarchy.specs.Stretches.{AreRunStretches, IsRunStretch}
use Rattle.instance.specs.Steps.{IsStart}
use Rattle.instance.specs.instance_rules.Log.{IsInstance}
use Rattle.world.specs.Advances.{Advances}
use Rattle.homes.specs.Homes.{AreValid}
use Rattle.world.specs.Sound.{IsRun, IsRunning, IsSound}
use Rattle.world.specs.Value.{WorldValue}
use Rattle.homes.specs.declared.homes.Home.{Home}
use Rattle.homes.specs.declared.homes.Place.{Place}
use Rattle.world.proofs.Stretching.{stretches_on}

-- ---- what was given stays valid

pub valid_still : (set : Setup) (c more : List Entry) → ((k : ℕ) → birth_of (c ++ more) k ≡ birth_of c k) → AreValid set c → AreValid set (c ++ more)
valid_still set c more births valid = λ i born.
    let was : is_born c i ≡ true = sym (ap (λ b. (i == top) || is_some b) (births i)) ∙ born in
    subst (λ s. IsInstance (instance_of s))
    (sym (ap (λ b. option_map_or (child_setup set) b (record set { work = work_for set.work None set.size })) (births i)))
    (valid i was)

pub valid_so : (set : Setup) (c more : List Entry) → LivesSo c more → AreValid set c → AreValid set (c ++ more)
valid_so set c more so valid = valid_still set c more so.births valid

-- a run begins at the second 0
pub starts_at_0 : (set : Setup) → IsRun set → start_of set ≡ 0
starts_at_0 set run = ap (λ o. option_map_or (λ (kept : Checkpoint). kept.second) o set.birth) run.anew ∙ run.first

-- ---- the world behind a step

-- what has happened, with the instances and the places behind it
abbrev pub stepped : WorldValue → List Entry → List Step → List ℕ → List Home → List Place → WorldValue
stepped v c steps ends homes places = record v { spent = false; chronicle = c; steps = steps; ends = ends; homes = homes; places = places }

module _ (v : WorldValue) (s : Step) (made : List Entry) (stretch : IsRunStretch v.set v.chronicle s made)
    (c : List Entry) (steps : List Step) (ends : List ℕ) (homes : List Home) (places : List Place)
    (ec : c ≡ v.chronicle ++ made) (es : steps ≡ v.steps ++ s ∷ []) (ee : ends ≡ v.ends ++ length c ∷ []) where
  -- it is sound where the run goes on so
  pub step_sound : IsSound v → v.closed ≡ false → EachAfter (IsLegalRunEntry v.set) v.chronicle made → AreValid v.set (v.chronicle ++ made)
      → IsRunning (stepped v (v.chronicle ++ made) steps ends homes places) → IsSound (stepped v c steps ends homes places)
  step_sound h runs legal valid running =
      subst (λ x. IsSound (stepped v x steps ends homes places)) (sym ec)
      (record {
        run = h.run;
        legal = each_joined (IsLegalRunEntry v.set) [] v.chronicle made h.legal legal;
        valid = valid;
        stretches = subst (λ x. AreRunStretches v.set x ends (v.chronicle ++ made)) (sym es)
            (subst (λ x. AreRunStretches v.set (v.steps ++ s ∷ []) x (v.chronicle ++ made)) (sym (ee ∙ ap (λ x. v.ends ++ length x ∷ []) ec))
            (stretches_on v.set v.steps v.ends v.chronicle made s h.stretches stretch));
        runs = λ _. running;
        ended = λ closed. absurd (true≢false (sym closed ∙ runs));
      })

  pub step_advances : ((IsStart s → HasRunRest v.set v.chronicle) → EachAfter (RunRestsFirst v.set) v.chronicle made) → Advances v s (stepped v c steps ends homes places)
  step_advances settled = record {
    ready = refl;
    set = refl;
    steps = es;
    made = made;
    told = ec;
    stretch = stretch;
    ends = ee;
    settled = λ was told. subst (IsSettledRun v.set) (sym ec) (each_joined (RunRestsFirst v.set) [] v.chronicle made was (settled told));
  }
