use Rattle.manifold_check.proofs.Common.{few_of_two, inr, arith}
use Rattle.manifold_check.proofs.EdgeLemmas.{two_sides_from_table, uneven_as_read}
use Rattle.manifold_check.proofs.check.meet_conditions.Goals as goal

-- An edge has not two sides.
pub returns-in-Some-clause-fault : goal.returns-in-Some-clause-fault
returns-in-Some-clause-fault c = grind (arith, uneven_as_read)

pub pinched_vertex-requires-clause-few : goal.pinched_vertex-requires-clause-few
pinched_vertex-requires-clause-few c =
    few_of_two c.args.faces.now (two_sides_from_table c.args.faces.now c.args.sides.now c.requires c.in_default.ensures.none)

-- A vertex is pinched.
pub returns-in-Some-2-clause-fault : goal.returns-in-Some-2-clause-fault
returns-in-Some-2-clause-fault c =
    inr (record {
      some_face = omega arith;
      two_sides = two_sides_from_table c.args.faces.now c.args.sides.now c.requires c.in_default.ensures.none;
      vertex = rw c.in-Some-2.is at c.in_ok-vertex.ensures;
    })

-- All three conditions hold.
pub returns-clause-closed : goal.returns-clause-closed
returns-clause-closed c = record {
  some_face = omega arith;
  two_sides = two_sides_from_table c.args.faces.now c.args.sides.now c.requires c.in_default.ensures.none;
  one_ring = rw c.in_default-2.is at c.in_ok-vertex.ensures;
}
