use Rattle.cover_commands.proofs.Common.{few_of_two}
use Rattle.cover_commands.proofs.reading.find_ways.Goals as goal

pub ways_round-requires-clause-few : goal.ways_round-requires-clause-few
ways_round-requires-clause-few c = few_of_two c.args.faces.now c.requires.closed.two_sides
