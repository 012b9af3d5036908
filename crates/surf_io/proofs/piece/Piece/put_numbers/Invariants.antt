use Rattle.surf_io.proofs.Common.{spaced_number}
use Rattle.surf_io.proofs.Gathering.{EachPut}
use Rattle.surf_io.proofs.piece.Piece.put_numbers.Given as goal

-- the numbers so far were put
abbrev pub invariant-loop-number : goal.invariant-loop-number
invariant-loop-number g l =
    EachPut g.K.Sink.written g.K.Sink.settled g.K.Sink.faults l.initial.sink l.sink l.initial.self l.self spaced_number l.numbers
    l.number-index
