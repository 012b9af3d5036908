use Rattle.walk_files.proofs.Common.{take, All, EachPut, MoveFits}
use Rattle.walk_files.proofs.MoveLines.{move_line}
use Rattle.walk_files.proofs.write.put_list.Given as goal

-- the lines of the moves so far were put behind the head, and the numbers of these moves fit
abbrev pub invariant-loop-k : goal.invariant-loop-k
invariant-loop-k g l =
    EachPut g.K.Sink.written g.K.Sink.settled g.K.Sink.faults l.initial.sink l.sink l.initial.piece l.piece move_line l.list.moves l.k
    × All MoveFits (take l.k l.list.moves)
