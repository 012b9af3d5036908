use Rattle.closed_surfaces.proofs.Common.{one_component, arith}
use Rattle.surf_model.proofs.EdgeLemmas.{used_below}
use Rattle.closed_surfaces.proofs.component.Component.of.Goals as goal

pub connected-requires-clause-joined : goal.connected-requires-clause-joined
connected-requires-clause-joined c = one_component c.args.mesh.faces c.in_ok-parts.parts c.in_ok-parts.ensures (omega arith)

pub part_of-place-requires : goal.part_of-place-requires
part_of-place-requires c =
    omega (
      arith,
      c.in_ok-parts.ensures.places.each_vertex,
      used_below c.args.mesh.faces c.args.vertex.0 c.requires.signed.valid
          c.requires.used,
    )
