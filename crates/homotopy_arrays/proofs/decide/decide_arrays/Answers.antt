use Rattle.homotopy_arrays.proofs.Common.{AreDecided, IsDecideFault, mesh_in_arrays, IsSurfaceFault, ℕ, List, inl, inr, refl, err_from_is_err_and, IsOrientableSurface}
use Rattle.compact_surfaces.proofs.ClosedLemmas.{compact_surface}
use Rattle.homotopy_arrays.proofs.EndLemmas.{of_kept, on_kind, refused}
use Rattle.homotopy_arrays.proofs.decide.decide_arrays.Goals as goal

pub returns-in_err-kept : goal.returns-in_err-kept
returns-in_err-kept c =
    let p = err_from_is_err_and c.from_residual.result c.from_residual.ensures.1 in
    rw (p.1, p.2)
    (refused (mesh_in_arrays c.args.mesh) IsSurfaceFault (IsDecideFault c.args.walk_sizes.now c.args.walk_vertices.now)
    c.in_err-kept.field-0.0
    (λ mesh fault. inl fault) c.in_err-kept.ensures)

pub returns : goal.returns
returns c =
    let sizes : List ℕ = c.args.walk_sizes.now in
    let vertices : List ℕ = c.args.walk_vertices.now in
    of_kept (mesh_in_arrays c.args.mesh) c.in_ok-kept.kept (λ mesh given. AreDecided sizes vertices mesh given.items)
    (IsDecideFault sizes vertices) c.decide-given.result c.in_ok-kept.ensures
    (λ is.
    on_kind IsOrientableSurface (IsDecideFault sizes vertices) sizes vertices c.in_ok-kept.kept c.decide-given.result is
    (compact_surface c.in_ok-kept.kept is.manifold) (λ m on none. inr (on, none, refl)) c.decide-given.ensures.ends)
