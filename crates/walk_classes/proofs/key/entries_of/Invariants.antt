use Rattle.walk_classes.proofs.Common.{◌≡◌, take}
use Rattle.walk_classes.proofs.key.entries_of.Given as goal

abbrev pub invariant-loop-k : goal.invariant-loop-k
invariant-loop-k l = l.entries.items ≡ take l.k l.word
