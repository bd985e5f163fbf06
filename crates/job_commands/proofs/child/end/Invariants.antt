use Rattle.std.proofs.Common.{◌≡◌, ℕ, ◌<◌, ◌≤◌, length}
use Rattle.std.specs.Prelude.{slice_index_or}
use Rattle.job_commands.specs.Children.{ended}
use Rattle.job_commands.specs.declared.child.Child.{Child}
use Rattle.job_commands.proofs.child.end.Given as goal

abbrev pub invariant-loop-i : goal.invariant-loop-i
invariant-loop-i l = record {
  same_len : length l.children.items ≡ length l.fn.children.items;
  done : (k : ℕ) (d : Child) → k < l.i → slice_index_or l.children.items k d ≡ ended l.job l.shut (slice_index_or l.fn.children.items k d);
  rest : (k : ℕ) (d : Child) → l.i ≤ k → slice_index_or l.children.items k d ≡ slice_index_or l.fn.children.items k d;
}
