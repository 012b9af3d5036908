use Rattle.folded_lists.proofs.Common.{◌∙◌, sym, arith}
use Rattle.folded_lists.proofs.MovesOnMesh.{nothing_below, quad_vertex, size_of_quad, spur_in_below, spur_out_below}
use Rattle.folded_lists.proofs.below.quad_below.Goals as goal

pub overflow_add-corner : goal.overflow_add-corner
overflow_add-corner c =
    omega (
      arith,
      c.requires.corner,
      size_of_quad c.args.faces.now c.args.double.now c.args.face.0 c.requires.double c.count.ensures.valid c.requires.quad
          c.requires.face,
    )

pub corner-requires-clause-corner : goal.corner-requires-clause-corner
corner-requires-clause-corner c =
    omega (
      arith,
      size_of_quad c.args.faces.now c.args.double.now c.args.face.0 c.requires.double c.count.ensures.valid c.requires.quad
          c.requires.face,
    )

pub along_edge-requires : goal.along_edge-requires
along_edge-requires c =
    omega (
      arith,
      c.requires.taken,
      size_of_quad c.args.faces.now c.args.double.now c.args.face.0 c.requires.double c.count.ensures.valid c.requires.quad
          c.requires.face,
    )

pub returns-in-0 : goal.returns-in-0
returns-in-0 c =
    spur_in_below c.args.faces.now c.args.double.now c.requires.double c.count.ensures.valid c.args.place c.args.face.0 c.args.corner
    c.args.forward c.args.taken c.requires.quad c.fold-via.result
    (quad_vertex c.args.faces.now c.args.double.now c.args.face.0 c.args.corner c.count.result c.corner.result.0 c.fold-via.result.0
    c.count.ensures.count c.corner.ensures c.fold-via.ensures)
    (sym c.along_edge.ensures ∙ c.in-0.is)

pub returns-in-1 : goal.returns-in-1
returns-in-1 c =
    nothing_below c.args.faces.now c.args.double.now c.requires.double c.count.ensures.valid c.args.place c.args.face.0 c.args.corner
    c.args.forward c.args.taken c.requires.quad (sym c.along_edge.ensures ∙ c.in-1.is)

pub returns-in_default : goal.returns-in_default
returns-in_default c =
    spur_out_below c.args.faces.now c.args.double.now c.requires.double c.count.ensures.valid c.args.place c.args.face.0 c.args.corner
    c.args.forward c.args.taken c.requires.quad c.fold-via.result
    (quad_vertex c.args.faces.now c.args.double.now c.args.face.0 c.args.corner c.count.result c.corner.result.0 c.fold-via.result.0
    c.count.ensures.count c.corner.ensures c.fold-via.ensures)
    (λ none. omega (arith, none, c.along_edge.ensures)) (λ one. omega (arith, one, c.along_edge.ensures))
