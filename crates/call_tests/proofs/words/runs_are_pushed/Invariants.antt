use Rattle.call_tests.proofs.words.runs_are_pushed.Given as goal

abbrev pub ghosts-push_runs : goal.ghosts-push_runs
ghosts-push_runs g a = record { name = a.blank.name; parts = a.blank.parts }
