use Rattle.thread_tests.proofs.feeds.a_herald_meets_what_its_pass_saw.Given as goal

abbrev pub ghosts-looks_at_the_second : goal.ghosts-looks_at_the_second
ghosts-looks_at_the_second g a = record { table = a.blank.table }
