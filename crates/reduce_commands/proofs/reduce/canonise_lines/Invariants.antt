use Rattle.reduce_commands.proofs.Common.{IsSoFar, ◌≡◌, List, before_ok, NumberLine, words_of}
use Rattle.reduce_commands.proofs.reduce.canonise_lines.Given as goal

-- lines were read, and this is what they came to
abbrev pub invariant-loop-so_far : goal.invariant-loop-so_far
invariant-loop-so_far g l =
    (lines : List NumberLine) × (words_of l.bytes ≡ before_ok lines l.reader.left)
    × IsSoFar l.degree lines l.so_far.words.items l.so_far.out_of_range

abbrev pub decreases-loop-so_far : goal.decreases-loop-so_far
decreases-loop-so_far g l = l.reader.lines
