use Rattle.walk_files.proofs.Common.{◌≡◌, ◌+◌, length}
use Rattle.walk_files.proofs.numbers.fault_of_line.Given as goal

-- as many words were read as the room has shrunk
abbrev pub invariant-loop-room : goal.invariant-loop-room
invariant-loop-room l = length l.fn.cursor.words + l.left ≡ length l.cursor.words + l.room

abbrev pub decreases-loop-room : goal.decreases-loop-room
decreases-loop-room l = length l.cursor.words
