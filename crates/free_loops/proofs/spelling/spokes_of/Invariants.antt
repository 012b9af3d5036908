use Rattle.free_loops.proofs.SpellingLemmas.{Spelled}
use Rattle.free_loops.proofs.spelling.spokes_of.Given as goal

abbrev pub invariant-loop-k : goal.invariant-loop-k
invariant-loop-k l = Spelled l.wheel l.word l.k l.from l.at_vertex l.spokes.items
