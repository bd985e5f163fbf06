use Rattle.std.proofs.Common.{◌&&◌, [], ◌∷◌, codes}
use Rattle.std.specs.Str.{bytes_eq}
use Rattle.job_service.proofs.Reading.{or_nested}
use Rattle.job_service.proofs.feeds.shows.Goals as goal

pub returns : goal.returns
returns c =
    let s = c.args.shown.now in
    let is = bytes_eq c.args.name.now in
    cc (
      or_nested (s.submit && is (codes "submit"))
          ((s.validate && is (codes "validate"))
          ∷ (s.dependency_add && is (codes "dependency-add"))
          ∷ (s.dependency_remove && is (codes "dependency-remove"))
          ∷ (s.depend && is (codes "depend"))
          ∷ (s.priority && is (codes "priority"))
          ∷ (s.urgency && is (codes "urgency"))
          ∷ (s.alloc && is (codes "alloc"))
          ∷ (s.flux_restart && is (codes "flux-restart"))
          ∷ (s.start && is (codes "start"))
          ∷ (s.finish && is (codes "finish"))
          ∷ (s.exception && is (codes "exception"))
          ∷ (s.release && is (codes "release"))
          ∷ (s.free && is (codes "free"))
          ∷ (s.clean && is (codes "clean")) ∷ []),
      c.is_shown.ensures,
      c.is_shown-2.ensures,
      c.is_shown-3.ensures,
      c.is_shown-4.ensures,
      c.is_shown-5.ensures,
      c.is_shown-6.ensures,
      c.is_shown-7.ensures,
      c.is_shown-8.ensures,
      c.is_shown-9.ensures,
      c.is_shown-10.ensures,
      c.is_shown-11.ensures,
      c.is_shown-12.ensures,
      c.is_shown-13.ensures,
      c.is_shown-14.ensures,
      c.is_shown-15.ensures,
    )
