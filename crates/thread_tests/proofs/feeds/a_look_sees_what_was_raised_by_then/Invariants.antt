use Rattle.thread_tests.proofs.feeds.a_look_sees_what_was_raised_by_then.Given as goal

abbrev pub ghosts-looks_at_one_broker : goal.ghosts-looks_at_one_broker
ghosts-looks_at_one_broker g a = record { table = a.blank.table }
