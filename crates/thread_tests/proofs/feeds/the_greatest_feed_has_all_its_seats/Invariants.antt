use Rattle.std.proofs.Common.{◌≡◌, ◌<◌, All, length}
use Rattle.thread_tests.proofs.feeds.the_greatest_feed_has_all_its_seats.Given as goal

abbrev pub invariant-loop-place : goal.invariant-loop-place
invariant-loop-place g l = All (λ rank. rank < 32) l.at.items × (length l.at.items ≡ l.place)

abbrev pub ghosts-count_of_seats : goal.ghosts-count_of_seats
ghosts-count_of_seats g a = record { table = a.blank.table }
