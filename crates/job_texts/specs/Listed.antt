-- The dependencies that a submission lists, each once.
use Rattle.std.specs.Prelude.{◌≡◌, ◌<◌, ◌^◌, ◌++◌, ◌∷◌, [], ℕ, List, Option, Some, map, if◌then◌else◌}
use Rattle.std.specs.List.{list_any, AllByRecursion as Each}
use Rattle.lists.specs.Ascii.{colon}
use Rattle.job_spec.specs.declared.spec.Depend.{Depend}
use Rattle.job_spec.specs.declared.spec.Scheme.{Scheme}
use Rattle.manager_rules.specs.Jobs.{description_of, same_need, scheme_name}

-- a description begins with its scheme and a colon
abbrev pub mark_of : Scheme → List ℕ
mark_of scheme = scheme_name scheme ++ colon ∷ []

-- numbers of jobs
abbrev pub AreSmall : List Depend → Type 0
AreSmall needs = Each (λ need. need.on < 2 ^ 64) needs

-- where these texts are descriptions, these are the dependencies
abbrev pub AreDescribed : Option (List (List ℕ)) → List Depend → Type 0
AreDescribed texts needs =
    (listed : List Depend) → AreSmall listed → texts ≡ Some (map description_of listed)
    → needs ≡ listed

-- the dependencies with one more, unless it is there
abbrev pub with_need : List Depend → Depend → List Depend
with_need needs need =
    if list_any (λ other. same_need other need) needs then needs else needs ++ need ∷ []
