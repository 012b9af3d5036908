use Rattle.off_reader.proofs.Common.{is_natural}
use Rattle.off_reader.proofs.RingLemmas.{IsReadTo}
use Rattle.off_reader.proofs.ring.fault_of_many.Given as goal

abbrev pub invariant-loop : goal.invariant-loop
invariant-loop l = IsReadTo is_natural l.initial.cursor l.counter l.cursor
