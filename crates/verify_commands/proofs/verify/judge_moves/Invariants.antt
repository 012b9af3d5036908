use Rattle.verify_commands.proofs.Common.{◌≡◌, ◌-◌, ◌≤◌, ◌++◌, List, IfSome, None, file_of, Move, outlook, count_in}
use Rattle.verify_commands.proofs.Streaming.{AreFirst}
use Rattle.verify_commands.proofs.verify.judge_moves.Given as goal

-- the moves so far are judged, and are the first of those that the file spells
abbrev pub invariant-moves : goal.invariant-moves
invariant-moves g l =
    record {
      so_far : (moves : List Move)
          × ((rest : List Move) → outlook l.pair.faces.now l.pair.second.now 0 l.initial.progress (moves ++ rest)
          ≡ outlook l.pair.faces.now l.pair.second.now l.done l.progress rest)
          × IfSome (file_of (g.S.Shelf.held l.initial.shelf) l.name) (AreFirst l.initial.stream l.stream moves);
      head : l.stream.head ≡ l.initial.stream.head;
      refusal : l.stream.refusal ≡ None;
      count : l.done ≡ l.stream.given;
      limit : l.stream.lines.reading.limit ≡ l.initial.stream.lines.reading.limit;
      held : g.S.Shelf.held l.shelf ≡ g.S.Shelf.held l.initial.shelf;
      faults : g.S.Shelf.faults l.initial.shelf ≤ g.S.Shelf.faults l.shelf;
    }

abbrev pub decreases-moves : goal.decreases-moves
decreases-moves g l = count_in l.stream.head - l.stream.given
