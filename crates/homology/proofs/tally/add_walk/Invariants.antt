use Rattle.homology.proofs.Common.{along, share, GrewBy, suc, take}
use Rattle.homology.proofs.tally.add_walk.Given as goal

-- the darts so far
abbrev pub invariant-loop-dart : goal.invariant-loop-dart
invariant-loop-dart l =
    GrewBy l.sides (λ low high. along (share l.fn.amount low high) (take (suc l.dart) l.walk)) l.initial.tally l.tally
