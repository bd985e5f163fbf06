-- The jobspecs that are drawn begin no instance.
use Rattle.std.proofs.Common.{◌≡◌, ℕ, ◌+◌, ◌<◌, Bool, true, false, not, refl}
use Rattle.std.specs.Fmt.{digits}
use Rattle.std.specs.List.{list_all, range_with_len}
use Rattle.std.specs.Str.{is_utf8, chars}
use Rattle.serde_json.proofs.OnLiterals.{serde_json_on_literals}
use Rattle.fl_json.specs.Numbers.{all_kept, first_lost, is_whole, kept, kept_number, natural, pieces_behind}
use Rattle.fl_json.specs.Reading.{reading}
use Rattle.job_spec.specs.Limits.{attributes_of, duration_of, limits_of, needs_of, system_of}
use Rattle.job_spec.specs.Resources.{exclusive_of, is_core, nodes_of, slots_of, spread_of, units_alone, units_at, units_of, units_of_one, units_of_two, wanted_of}
use Rattle.job_spec.specs.Specs.{spec_of, spec_reading}
use Rattle.job_spec.specs.Works.{command_of, number_of_tasks, task_of, tasks_of, work_of}
use Rattle.shells.specs.Endings.{ending_of}
use Rattle.workload.specs.Tallies.{begins_instance}
use Rattle.workload_reader.proofs.Along.{fails}
use Rattle.workload_generator.specs.Texts.{jobspec}
use Rattle.workload_generator.proofs.Cases.{passes_below}

begins_none : ℕ → ℕ → Bool
begins_none slots seconds = not (begins_instance (jobspec (slots + 1) seconds))

all_begin_none : list_all (λ slots. list_all (begins_none slots) (range_with_len 0 5)) (range_with_len 0 4) ≡ true
unfolding begins_none digits is_utf8 chars serde_json_on_literals all_kept first_lost is_whole kept kept_number natural pieces_behind reading attributes_of duration_of limits_of needs_of system_of exclusive_of is_core nodes_of slots_of spread_of units_alone units_at units_of units_of_one units_of_two wanted_of spec_of spec_reading command_of number_of_tasks task_of tasks_of work_of ending_of begins_instance jobspec
all_begin_none = refl

pub begins_no_instance : (slots seconds : ℕ) → slots < 4 → seconds < 5 → begins_instance (jobspec (slots + 1) seconds) ≡ false
unfolding begins_none
begins_no_instance slots seconds few soon =
    let of_slots = passes_below (λ k. list_all (begins_none k) (range_with_len 0 5)) 4 slots few all_begin_none in
    fails (begins_instance (jobspec (slots + 1) seconds)) (passes_below (begins_none slots) 5 seconds soon of_slots)
