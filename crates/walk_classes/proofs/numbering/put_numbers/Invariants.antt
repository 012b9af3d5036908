use Rattle.walk_classes.proofs.Common.{mesh_of_finder, ◌≡◌}
use Rattle.walk_classes.proofs.WalkKeyLemmas.{AreNumbered}
use Rattle.walk_classes.proofs.numbering.put_numbers.Given as goal

-- the walks so far
abbrev pub invariant-loop-place : goal.invariant-loop-place
invariant-loop-place l = record {
  mesh : mesh_of_finder l.finder ≡ mesh_of_finder l.fn.finder;
  numbered : AreNumbered l.finder l.walks l.place l.seen l.numbers;
}
