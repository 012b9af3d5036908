use Rattle.homotopy_arrays.proofs.Common.{verdict_of, ◌≡◌, ◌++◌, List, None, Move, before_ok, moves_left, moves_to_come}
use Rattle.verify_commands.specs.Progress.{outlook}
use Rattle.homotopy_arrays.proofs.verify.judge_moves.Given as goal

-- the moves so far are judged, and are the first of those that the reader had to give
abbrev pub invariant-moves : goal.invariant-moves
invariant-moves l =
    record {
      so_far : (moves : List Move)
          × ((rest : List Move) → outlook l.on.faces.now l.on.second.now l.done l.progress rest
          ≡ verdict_of l.on.faces.now l.on.first.now l.on.second.now (record { moves = moves ++ rest; peak = l.peak }))
          × (moves_left l.initial.reader ≡ before_ok moves (moves_left l.reader));
      head : l.reader.head ≡ l.initial.reader.head;
      refusal : l.reader.refusal ≡ None;
      count : l.done ≡ l.reader.given;
    }

abbrev pub decreases-moves : goal.decreases-moves
decreases-moves l = moves_to_come l.reader
