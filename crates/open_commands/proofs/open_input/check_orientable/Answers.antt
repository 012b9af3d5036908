use Rattle.open_commands.proofs.open_input.check_orientable.Goals as goal

pub orient-requires-clause-two : goal.orient-requires-clause-two
orient-requires-clause-two c = λ u v is. c.requires.surface.few_sides u v
