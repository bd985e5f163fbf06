-- What calls answer that read or look for something and may want memory. Each fault type tells
-- which of its faults are lasting: all but want of memory, which tells nothing of what is read.
use Rattle.std.specs.Prelude.{◌≡◌, Bool, List, [], ◌∷◌, Option, Some, None, IfSome, Result, Ok, Err, MatchResult, if◌then◌else◌}

-- the first of two, if there is one
abbrev pub or_else : {A : Type 0} → Option A → Option A → Option A
or_else None later = later
or_else (Some x) later = Some x

-- the first of these, if there is one
abbrev pub first_some : {A : Type 0} → List (Option A) → Option A
first_some [] = None
first_some (o ∷ more) = or_else o (first_some more)

-- the first of these that applies
abbrev pub first_of : {A : Type 0} → List (Bool × A) → Option A
first_of [] = None
first_of (t ∷ ts) = if t.0 then Some t.1 else first_of ts

-- a call that fails with this fault finds it, want of memory apart
abbrev pub Fails : {T E : Type 0} → (E → Option E) → E → Result T E → Type 0
Fails lasting fault found = IfSome (lasting fault) (λ e. found ≡ Err e)

-- a call that may want memory and that otherwise finds this
abbrev pub Gives : {X Y E : Type 0} → (E → Option E) → (X → Y) → Result X E → Result Y E → Type 0
Gives lasting seen (Ok x) found = found ≡ Ok (seen x)
Gives lasting seen (Err fault) found = Fails lasting fault found

-- a call that always finds this
abbrev pub Finds : {X Y E : Type 0} → (X → Y) → Result X E → Result Y E → Type 0
Finds seen result found = MatchResult result (λ x. found ≡ Ok (seen x)) (λ e. found ≡ Err e)

-- a reader that fails with this fault meets it first, want of memory apart
abbrev pub Faults : {E : Type 0} → (E → Option E) → E → Option E → Type 0
Faults lasting fault met = IfSome (lasting fault) (λ e. met ≡ Some e)

-- what a reader gives where the first fault is this: there is none and the value is so, or it is
-- the fault
abbrev pub Reads : {X E : Type 0} → (E → Option E) → Option E → (X → Type 0) → Result X E → Type 0
Reads lasting met P (Ok x) = (met ≡ None) × P x
Reads lasting met P (Err fault) = Faults lasting fault met
