-- A job service's value, from its fields.
use Rattle.std.specs.Prelude.{◌≡◌, ℕ, ◌+◌, ◌≤◌, ◌<◌, ◌^◌, false, length, count_by, option_map, slice_index}
use Rattle.job_clock.specs.Targets.{AreInTime}
use Rattle.job_commands.specs.Rows.{AreMarkedBy, is_submit}
use Rattle.job_manager.specs.Posts.{post_of}
use Rattle.run_limits.specs.Limits.{most_seconds, most_submits}
use Rattle.job_service.specs.declared.service.JobService.TheInside.{Inside}
use Rattle.job_service.specs.Agrees.{IsAgreed}
use Rattle.job_service.specs.Children.{IsBearing}
use Rattle.job_service.specs.Due.{IsFoundBeside}
use Rattle.job_service.specs.Judged.{AreJudged}
use Rattle.job_service.specs.Posted.{IsNamed, id_posted}
use Rattle.job_service.specs.Value.{JobServiceValue}

abbrev pub value_of : Inside → JobServiceValue
value_of s = record {
  spent = s.spent;
  terms = s.terms;
  birth = s.birth;
  second = s.second;
  manager = s.manager;
  commands = s.commands;
  refused = s.refused.items;
  feeds = s.feeds.items;
  found = option_map post_of s.found;
  bearing = s.bearing;
  submitted = s.submitted;
  span = s.span;
}

-- what the code rests on
pub record IsFit (v : JobServiceValue) : Type 0 where
  pub ready : v.manager.spent ≡ false
  pub size : length v.commands.issued ≡ v.manager.core.size
  pub few : v.manager.core.size ≤ 32
  pub order : v.birth ≤ v.second
  pub soon : v.second ≤ v.birth + most_seconds
  pub early : v.birth + 2000000000 < 2 ^ 64
  pub timed : AreInTime v.commands v.birth v.second (most_seconds + v.span)
  pub near : v.span ≤ most_seconds
  pub sought : IsFoundBeside v.terms v.manager.posted v.commands v.manager.book v.second v.birth
      v.found
  pub posted : IsNamed v.commands v.birth v.manager.posted
  pub named : IsNamed v.commands v.birth v.found
  pub counted : length v.manager.book.jobs + count_by is_submit v.commands.rows ≤ v.submitted
  pub bounded : v.submitted ≤ most_submits
  pub drawn : (rank : ℕ) → rank < length v.commands.issued
      → slice_index v.commands.issued rank ≤ v.submitted
  pub marked : AreMarkedBy v.commands v.second
  pub judged : AreJudged v.terms.limits v.commands v.manager.book.jobs v.refused
  pub bearing : IsBearing v.commands v.manager.book v.bearing
  pub agreed : IsAgreed v

-- and it knows the id of the job that is posted
pub record IsHeld (s : Inside) : Type 0 where
  pub fit : IsFit (value_of s)
  pub submits : s.submitting ≡ id_posted s.manager.posted

abbrev pub IsFitInside : Inside → Type 0
IsFitInside s = s.spent ≡ false → IsHeld s
