-- The step of a number can be made.
use Rattle.std.proofs.Common.{◌≡◌, ◌∙◌, ℕ, List, [], ◌∷◌, ◌++◌, false, None, true, get_or, refl, sym, ap, append_assoc, arith, subst}
use Rattle.std.specs.Prelude.{Contains, IfOk, Result, Ok, Err, slice_get}
use Rattle.std.proofs.lemmas.List.{nil_from_length}
use Rattle.std.proofs.lemmas.Option.{slice_get-get_or}
use Rattle.instance.specs.kvs_keys.Walk.{nth}
use Rattle.instance.specs.answers.declared.steps.Step.{Step}
use Rattle.instance.specs.answers.declared.steps.Step.TheVariants as step
use Rattle.instance.specs.answers.Chronicle.{Setup}
use Rattle.homes.specs.Homes.{ListTurns}
use Rattle.world.specs.Choice.{behind, is_settled}
use Rattle.world.specs.Looks.{has_look}
use Rattle.world.specs.Order.{before_end, by_instances, steps_of}
use Rattle.world.specs.Sound.{IsRunning, IsSound}
use Rattle.world.specs.Steps.{CanMake, can_make}
use Rattle.world.specs.Value.{WorldValue}
use Rattle.world.specs.Walks.{by_the_run}
use Rattle.world.specs.declared.order.Order.{Order}
use Rattle.world.specs.declared.order.Order.TheVariants as order
use Rattle.world.specs.declared.run.drawing.Kind.TheVariants as kind
use Rattle.world.proofs.Housing.{own_lines, seated}
use Rattle.world.proofs.Numbering.{below, got, lengthy}
use Rattle.world.proofs.Ordering.{over, possible}
use Rattle.homes.proofs.Standing.{same_item}

-- the steps of instances, and those behind them, are all before the end
pub both_parts : (v : WorldValue) → by_instances v ++ by_the_run v ≡ before_end v
both_parts v =
    let end = by_the_run v in
    append_assoc (steps_of v kind.Turn) _ end
    ∙ ap (λ xs. steps_of v kind.Turn ++ xs) (append_assoc (steps_of v kind.Feed) _ end
    ∙ ap (λ xs. steps_of v kind.Feed ++ xs) (append_assoc (steps_of v kind.Reply) _ end
    ∙ ap (λ xs. steps_of v kind.Reply ++ xs) (append_assoc (steps_of v kind.Post) _ end
    ∙ ap (λ xs. steps_of v kind.Post ++ xs) (append_assoc (steps_of v kind.Birth) _ end
    ∙ ap (λ xs. steps_of v kind.Birth ++ xs) (append_assoc (steps_of v kind.End) [] end)))))

pub listed_at : (xs : List Step) (number : ℕ) (s : Step) → nth xs number ≡ Ok s → Contains xs s
listed_at xs number s e =
    let low = below xs number s e in
    (number, low, same_item (get_or xs number s) s (sym (slice_get-get_or xs number s low) ∙ got xs number s e))

pub now_made : (v : WorldValue) → v.closed ≡ false → (s : Step) → can_make v s ≡ true → CanMake v s
now_made v runs (step.Issue actor) can = (runs, can)
now_made v runs (step.Kvs i s) can = (runs, can)
now_made v runs (step.Feed actor) can = (runs, can)
now_made v runs (step.Answer actor) can = (runs, can)
now_made v runs (step.Record actor) can = cc
now_made v runs (step.Post i) can = (runs, can)
now_made v runs step.Tick can = (runs, can)
now_made v runs (step.Birth i job) can = (runs, can)
now_made v runs (step.End i) can = (runs, can)
now_made v runs step.Close can = cc

module _ (v : WorldValue) (runs : v.closed ≡ false) (running : IsRunning v) where
  pub made_at : (number : ℕ) (s : Step) → nth (before_end v) number ≡ Ok s → CanMake v s
  made_at number s e = now_made v runs s (possible v (seated v running) s (listed_at (before_end v) number s e))

  pub all_made : (number : ℕ) (r : Result Step ℕ) → r ≡ nth (before_end v) number → IfOk r (λ s. CanMake v s)
  all_made number (Ok s) e = made_at number s (sym e)
  all_made number (Err left) e = tt

  -- the end comes where the list is empty
  pub closes : ListTurns v.homes → before_end v ≡ [] → has_look v ≡ false → CanMake v step.Close
  closes listed none quiet = (runs, over v (own_lines v running) listed none quiet)

-- where nothing has the number 0 nothing is first
pub none_there : (xs : List Step) (left : ℕ) → nth xs 0 ≡ Err left → slice_get xs 0 ≡ None
none_there [] left e = refl
none_there (s ∷ more) left e = cc

pub none_listed : (v : WorldValue) (left : ℕ) → nth (before_end v) 0 ≡ Err left → before_end v ≡ []
none_listed v left e = nil_from_length (before_end v) (let all = lengthy (before_end v) 0 left e in omega (arith, all))

-- a step leaves a run as settled as it was
pub behind_settled : (s : Step) (o : Order) → is_settled (behind s o) ≡ is_settled o
behind_settled s order.Settled = refl
behind_settled s (order.Shuffled draws word losses) = refl
behind_settled s (order.Lanes count) = refl

-- nothing that holds between the steps reads the order
pub reordered : (v : WorldValue) (s : Setup) (o : Order) → s ≡ v.set → IsSound v → IsSound (record v { set = s; order = o })
reordered v s o same sound = subst (λ x. IsSound (record v { set = x; order = o })) (sym same) (record {
  run = sound.run;
  legal = sound.legal;
  valid = sound.valid;
  stretches = sound.stretches;
  runs = λ closed. (let r = sound.runs closed in record { on = r.on; homes = r.homes; places = r.places });
  ended = sound.ended;
})
