use Rattle.compact_surfaces.proofs.ClosedLemmas.{closed_by_own, first_are, kept}
use Rattle.compact_surfaces.proofs.surface.CompactSurface.of.Goals as goal
use Rattle.compact_surfaces.proofs.surface.CompactSurface.of.Goals.{In_ok-closed}
use Rattle.compact_surfaces.proofs.Common.{has_signs, mesh_of_manifold, sym, subst, FaceList, IsClosedFor}
use Rattle.compact_surfaces.specs.Answered.{IsOwnFor}

own : (c : In_ok-closed) → IsOwnFor c.args.faces (mesh_of_manifold c.in_ok-closed.closed) c.in_ok-answered.answered.own
own c =
    subst (λ (m : FaceList). IsOwnFor c.args.faces m c.in_ok-answered.answered.own) (sym c.in_ok-closed.ensures.mesh)
    c.in_ok-answered.ensures.answered.own

answers : (c : In_ok-closed) → IsClosedFor c.args.faces (mesh_of_manifold c.in_ok-closed.closed)
answers c = closed_by_own c.args.faces (mesh_of_manifold c.in_ok-closed.closed) c.in_ok-answered.answered.own (own c)

pub invariant_of-result : goal.invariant_of-result
invariant_of-result c =
    kept c.args.faces (mesh_of_manifold c.in_ok-closed.closed) c.table_of-own.result (has_signs c.in_ok-closed.closed)
    c.count-vertices.result c.len-count.result c.len-count.ensures.valid c.in_ok-answered.ensures.compact (answers c)
    (c.table_of-own.ensures c.args.faces (mesh_of_manifold c.in_ok-closed.closed) (own c)) c.in_ok-closed.ensures.signs
    c.count-vertices.ensures.count c.len-count.ensures.count

pub returns-clause-mesh : goal.returns-clause-mesh
returns-clause-mesh c =
    first_are c.args.faces (mesh_of_manifold c.in_ok-closed.closed) c.count-vertices.result c.len-count.result (answers c)
    c.count-vertices.ensures.count c.len-count.ensures.count
