use Rattle.thread_tests.proofs.feeds.a_running_pass_sees_what_a_running_herald_raises.Given as goal

abbrev pub ghosts-raise_and_look : goal.ghosts-raise_and_look
ghosts-raise_and_look g a = record { table = a.blank.table }
