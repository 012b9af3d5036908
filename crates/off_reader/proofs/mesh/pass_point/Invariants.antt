use Rattle.off_reader.proofs.Common.{is_number_text}
use Rattle.off_reader.proofs.RingLemmas.{IsReadTo}
use Rattle.off_reader.proofs.mesh.pass_point.Given as goal

abbrev pub invariant-loop : goal.invariant-loop
invariant-loop l = IsReadTo is_number_text l.initial.cursor l.counter l.cursor
