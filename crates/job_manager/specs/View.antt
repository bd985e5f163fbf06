-- A job manager's value, from its fields.
use Rattle.std.specs.Prelude.{◌≡◌, false, option_map}
use Rattle.job_manager.specs.declared.manager.Manager.TheInside.{Inside}
use Rattle.job_manager.specs.Managed.{IsManaged}
use Rattle.job_manager.specs.Posts.{post_of}
use Rattle.job_manager.specs.Value.{ManagerValue}

abbrev pub value_of : Inside → ManagerValue
value_of w = record {
  spent = w.spent;
  core = w.core;
  book = w.book;
  posted = option_map post_of w.posted;
  places = w.places;
}

abbrev pub IsFitInside : Inside → Type 0
IsFitInside w = w.spent ≡ false → IsManaged (value_of w)
