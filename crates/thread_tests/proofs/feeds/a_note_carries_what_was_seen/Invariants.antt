use Rattle.thread_tests.proofs.feeds.a_note_carries_what_was_seen.Given as goal

abbrev pub ghosts-carries_notes : goal.ghosts-carries_notes
ghosts-carries_notes g a = record { table = a.blank.table }
