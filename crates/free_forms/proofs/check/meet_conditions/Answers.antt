use Rattle.free_forms.proofs.Common.{few_from_table, inr, arith}
use Rattle.free_forms.proofs.EdgeCountLemmas.{boundary_from_table, no_boundary_from_table, crowded_as_read}
use Rattle.free_forms.proofs.check.meet_conditions.Goals as goal

-- An edge has three or more sides.
pub returns-in-Some-clause-fault : goal.returns-in-Some-clause-fault
returns-in-Some-clause-fault c = grind (arith, crowded_as_read)

-- No edge has one side.
pub returns-in_default-boundary_edge-clause-fault : goal.returns-in_default-boundary_edge-clause-fault
returns-in_default-boundary_edge-clause-fault c =
    inr (record {
      some_face = omega arith;
      few_sides = few_from_table c.args.faces.now c.args.sides.now c.requires c.in_default.ensures.none;
      none = no_boundary_from_table c.requires c.in_default-boundary_edge.ensures.none;
    })

pub pinched_vertex-requires-clause-few : goal.pinched_vertex-requires-clause-few
pinched_vertex-requires-clause-few c = few_from_table c.args.faces.now c.args.sides.now c.requires c.in_default.ensures.none

-- A vertex is pinched.
pub returns-in-Some-2-clause-fault : goal.returns-in-Some-2-clause-fault
returns-in-Some-2-clause-fault c =
    inr (record {
      some_face = omega arith;
      few_sides = few_from_table c.args.faces.now c.args.sides.now c.requires c.in_default.ensures.none;
      boundary = boundary_from_table c.requires c.in-Some-boundary_edge.ensures.some;
      vertex = rw c.in-Some-2.is at c.in_ok-vertex.ensures;
    })

-- Two vertices are apart.
pub returns-in-Some-3-clause-fault : goal.returns-in-Some-3-clause-fault
returns-in-Some-3-clause-fault c =
    inr (record {
      some_face = omega arith;
      few_sides = few_from_table c.args.faces.now c.args.sides.now c.requires c.in_default.ensures.none;
      boundary = boundary_from_table c.requires c.in-Some-boundary_edge.ensures.some;
      one_fan = rw c.in_default-2.is at c.in_ok-vertex.ensures;
      vertices = rw c.in-Some-3.is at c.in_ok-vertex-2.ensures;
    })

-- All five conditions hold.
pub returns-clause-surface : goal.returns-clause-surface
returns-clause-surface c = record {
  some_face = omega arith;
  few_sides = few_from_table c.args.faces.now c.args.sides.now c.requires c.in_default.ensures.none;
  boundary = boundary_from_table c.requires c.in-Some-boundary_edge.ensures.some;
  one_fan = rw c.in_default-2.is at c.in_ok-vertex.ensures;
  connected = rw c.in_default-3.is at c.in_ok-vertex-2.ensures;
}
