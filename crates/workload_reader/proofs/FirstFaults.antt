-- The first fault of lines, by the lines before it.
use Rattle.std.proofs.Common.{◌≡◌, ℕ, ◌+◌, suc, List, [], ◌∷◌, ◌++◌, length, refl, ap, sym, ◌∙◌, arith, zero-add}
use Rattle.std.specs.Prelude.{Option, Some, None}
use Rattle.outcomes.specs.Outcomes.{first_of, or_else}
use Rattle.workload.specs.Laws.{empty}
use Rattle.workload_reader.specs.Reading.{fault_in, with_line, with_lines, line_faults}
use Rattle.workload_reader.specs.Lines.{TextLine}
use Rattle.workload_reader.specs.Laws.{IsFirstFault}
use Rattle.workload_reader.proofs.Along.{neither}
use Rattle.workload.specs.declared.work.Workload.{Workload}
use Rattle.workload_reader.specs.declared.faults.LineFault.{LineFault}

-- the same behind lines that are read
record Behind (size : ℕ) (work : Workload) (number : ℕ) (all : List TextLine) (fault : LineFault) : Type 0 where
  before : List TextLine
  line : TextLine
  after : List TextLine
  cut : all ≡ before ++ line ∷ after
  sound : fault_in size work number before ≡ None
  fault_is : first_of (line_faults size (with_lines work before) (length before + number) line) ≡ Some fault

one_later : (a b : ℕ) → suc a + b ≡ a + (b + 1)
one_later a b = omega arith

here_or_later : (size : ℕ) (work : Workload) (number : ℕ) (line : TextLine) (more : List TextLine) (fault : LineFault) (here : Option LineFault) → first_of (line_faults size work number line) ≡ here
    → or_else here (fault_in size (with_line work line) (number + 1) more) ≡ Some fault
    → ((fault_in size (with_line work line) (number + 1) more ≡ Some fault) → Behind size (with_line work line) (number + 1) more fault)
    → Behind size work number (line ∷ more) fault
here_or_later size work number line more fault (Some e) is h later = record { before = []; line = line; after = more; cut = refl; sound = refl; fault_is = ap (λ n. first_of (line_faults size work n line)) (zero-add number) ∙ is ∙ h }
here_or_later size work number line more fault None is h later =
    let b = later h in
    record { before = line ∷ b.before; line = b.line; after = b.after; cut = ap (λ ls. line ∷ ls) b.cut; sound = ap (λ f. or_else f (fault_in size (with_line work line) (number + 1) b.before)) is ∙ b.sound; fault_is = ap (λ n. first_of (line_faults size (with_lines (with_line work line) b.before) n b.line)) (one_later (length b.before) number) ∙ b.fault_is }

behind : (size : ℕ) (work : Workload) (number : ℕ) (all : List TextLine) (fault : LineFault) → fault_in size work number all ≡ Some fault → Behind size work number all fault
behind size work number [] fault h = let wrong : None ≡ Some fault = h in cc
behind size work number (line ∷ more) fault h = here_or_later size work number line more fault _ refl h (behind size (with_line work line) (number + 1) more fault)

pub there : (size : ℕ) (all : List TextLine) (fault : LineFault) → fault_in size empty 1 all ≡ Some fault → IsFirstFault size all fault
there size all fault h =
    let b = behind size empty 1 all fault h in
    record { before = b.before; line = b.line; after = b.after; cut = b.cut; sound = b.sound; fault_is = b.fault_is }

-- a fault behind lines without one
after_sound : (size : ℕ) (work : Workload) (number : ℕ) (before : List TextLine) (line : TextLine) (after : List TextLine) (fault : LineFault) → fault_in size work number before ≡ None
    → first_of (line_faults size (with_lines work before) (length before + number) line) ≡ Some fault → fault_in size work number (before ++ line ∷ after) ≡ Some fault
after_sound size work number [] line after fault none is = ap (λ f. or_else f (fault_in size (with_line work line) (number + 1) after)) (ap (λ n. first_of (line_faults size work n line)) (sym (zero-add number)) ∙ is)
after_sound size work number (l ∷ before) line after fault none is =
    let both = neither (first_of (line_faults size work number l)) (fault_in size (with_line work l) (number + 1) before) none in
    ap (λ f. or_else f (fault_in size (with_line work l) (number + 1) (before ++ line ∷ after))) both.0
    ∙ after_sound size (with_line work l) (number + 1) before line after fault both.1
    (ap (λ n. first_of (line_faults size (with_lines (with_line work l) before) n line)) (sym (one_later (length before) number)) ∙ is)

pub only : (size : ℕ) (all : List TextLine) (fault : LineFault) → IsFirstFault size all fault → fault_in size empty 1 all ≡ Some fault
only size all fault h = ap (fault_in size empty 1) h.cut ∙ after_sound size empty 1 h.before h.line h.after fault h.sound h.fault_is
