use Rattle.halfedge_map.proofs.Common.{used_vertices, OrientedMesh, arith, total_sides}
use Rattle.halfedge_map.proofs.StoringLemmas.{nexts_signed, origins_signed}
use Rattle.halfedge_map.proofs.surface.Surface.build.Goals as goal

pub invariant_of-result : goal.invariant_of-result
unfolding used_vertices
invariant_of-result c =
    let s : OrientedMesh = record { mesh = c.args.faces; table = c.args.sides; signs = c.args.signs } in
    record {
      oriented = grind arith;
      small = c.in_ok-next.ensures.small;
      nexts = nexts_signed s (total_sides c.args.faces) c.in_ok-next.next.items c.in_ok-next.ensures.stored;
      origins_kept = origins_signed s (total_sides c.args.faces) c.in_ok-origins.origins c.in_ok-origins.ensures;
      used = c.used_vertices-vertices.ensures;
    }
