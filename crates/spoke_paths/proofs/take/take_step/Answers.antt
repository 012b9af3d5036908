use Rattle.spoke_paths.proofs.Common.{arith}
use Rattle.spoke_paths.proofs.Placing.{spur-taken, turn-written, some-turn}
use Rattle.spoke_paths.proofs.take.take_step.Goals as goal

pub remove-requires : goal.remove-requires
remove-requires c = grind (arith, spur-taken)

pub way_round-first-requires-clause-side : goal.way_round-first-requires-clause-side
way_round-first-requires-clause-side c = grind (arith, some-turn)

pub way_round-first-requires-clause-partner : goal.way_round-first-requires-clause-partner
way_round-first-requires-clause-partner c = grind (arith, some-turn)

pub index_mut-requires : goal.index_mut-requires
index_mut-requires c = grind (arith, some-turn)

pub index_mut-requires-in-Turn : goal.index_mut-requires-in-Turn
index_mut-requires-in-Turn c = grind (arith, some-turn)

pub returns-in-Spur : goal.returns-in-Spur
returns-in-Spur c = grind (arith, spur-taken)

pub returns-in-Turn : goal.returns-in-Turn
returns-in-Turn c = grind (arith, turn-written)
