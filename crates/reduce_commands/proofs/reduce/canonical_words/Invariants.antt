use Rattle.reduce_commands.proofs.reduce.canonical_words.Given as goal

abbrev pub ghosts-canonise_lines : goal.ghosts-canonise_lines
ghosts-canonise_lines a = record { name = a.blank.name; parts = a.blank.parts }
