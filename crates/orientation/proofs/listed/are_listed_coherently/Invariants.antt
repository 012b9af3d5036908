use Rattle.orientation.proofs.Common.{◌+◌, first_side}
use Rattle.orientation.proofs.ListedLemmas.{FitUpTo}
use Rattle.orientation.proofs.listed.are_listed_coherently.Given as goal

abbrev pub invariant-loop-face : goal.invariant-loop-face
invariant-loop-face l = FitUpTo l.faces (first_side l.faces l.face)

abbrev pub invariant-loop-at : goal.invariant-loop-at
invariant-loop-at l = FitUpTo l.faces (first_side l.faces l.face.0 + l.at)
