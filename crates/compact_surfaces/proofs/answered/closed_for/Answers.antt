use Rattle.compact_surfaces.proofs.ClosedLemmas.{closed_manifold, double_manifold, none_told}
use Rattle.compact_surfaces.proofs.Common.{subst, sym, IsClosedManifold}
use Rattle.compact_surfaces.proofs.answered.closed_for.Goals as goal

pub signed_if_coherent-requires-clause-manifold : goal.signed_if_coherent-requires-clause-manifold
signed_if_coherent-requires-clause-manifold c =
    closed_manifold c.args.faces c.in_ok-has_boundary.ensures.compact
    (none_told c.args.faces c.in_ok-has_boundary.field-0 c.in_ok-has_boundary.ensures.boundary c.if-not-branch.true)

pub signed_if_coherent-requires-2-clause-manifold : goal.signed_if_coherent-requires-2-clause-manifold
signed_if_coherent-requires-2-clause-manifold c =
    subst IsClosedManifold (sym c.in_ok-double.ensures.double)
    (double_manifold c.args.faces c.len.ensures.valid c.in_ok-has_boundary.ensures.compact)
