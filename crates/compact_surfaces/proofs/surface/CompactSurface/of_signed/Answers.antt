use Rattle.compact_surfaces.proofs.Common.{mesh_of_finder, refl, true, subst, sym, None, IsOrientable}
use Rattle.compact_surfaces.proofs.ClosedLemmas.{closed_answers, compact_surface, first_are, kept}
use Rattle.compact_surfaces.proofs.surface.CompactSurface.of_signed.Goals as goal

pub invariant_of-result : goal.invariant_of-result
invariant_of-result c =
    kept c.args.mesh.faces (mesh_of_finder c.in_ok-finder.finder) None true c.count-vertices.result c.len-faces.result
    c.requires.valid (compact_surface c.args.mesh.faces c.requires.manifold)
    (closed_answers c.args.mesh.faces (mesh_of_finder c.in_ok-finder.finder) c.requires.manifold c.in_ok-finder.ensures)
    c.in_ok-finder.ensures
    ((λ e. subst IsOrientable (sym c.in_ok-finder.ensures) (c.args.mesh.signs, c.requires.coherent)), (λ is. refl))
    c.count-vertices.ensures.count c.len-faces.ensures.count

pub returns : goal.returns
returns c =
    first_are c.args.mesh.faces (mesh_of_finder c.in_ok-finder.finder) c.count-vertices.result c.len-faces.result
    (closed_answers c.args.mesh.faces (mesh_of_finder c.in_ok-finder.finder) c.requires.manifold c.in_ok-finder.ensures)
    c.count-vertices.ensures.count c.len-faces.ensures.count
