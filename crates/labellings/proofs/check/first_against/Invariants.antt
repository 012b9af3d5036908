use Rattle.labellings.proofs.Common.{EntryMeetsRule, ℕ, ◌<◌}
use Rattle.labellings.proofs.check.first_against.Given as goal

abbrev pub invariant-loop-edge : goal.invariant-loop-edge
invariant-loop-edge l = (k : ℕ) → k < l.edge → EntryMeetsRule l.faces l.sides l.labelling k
