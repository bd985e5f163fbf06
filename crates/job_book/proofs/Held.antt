-- The resources of a job that is found.
use Rattle.std.proofs.Common.{Bor, ◌≡◌, ℕ, ◌==◌, Bool, true, false, cond, List, [], ◌∷◌, Option, Some, None, subst}
use Rattle.std.specs.Prelude.{IfSome}
use Rattle.std.specs.Option.{option_copied}
use Rattle.std.specs.List.{AllByRecursion as Each}
use Rattle.job_deeds.specs.resource_set.Valid.{IsR}
use Rattle.job_deeds.specs.resource_set.declared.node.Resources.{Resources}
use Rattle.job_deeds.specs.manager_rules.Dependencies.{job_at}
use Rattle.job_deeds.specs.manager_rules.Jobs.{StoredJob}

found_case : (P : StoredJob → Type 0) (x j : StoredJob) (rest : Option StoredJob) (b : Bool) → P x → (rest ≡ Some j → P j) → cond b (Some x) rest ≡ Some j → P j
found_case P x j rest true p f e = let same : x ≡ j = cc in subst P same p
found_case P x j rest false p f e = f e

pub each_found : (P : StoredJob → Type 0) (jobs : List StoredJob) → Each P jobs → (id : ℕ) (j : StoredJob) → job_at jobs id ≡ Some j → P j
each_found P [] all id j e = cc
each_found P (x ∷ xs) all id j e = found_case P x j (job_at xs id) (x.id == id) all.0 (λ f. each_found P xs all.1 id j f) e

pub copied_valid : (o : Option (Bor Resources)) → IfSome (option_copied o) IsR → IfSome o (λ r. IsR r.now)
copied_valid None h = h
copied_valid (Some r) h = h
