use Rattle.compact_surfaces.proofs.Common.{few_of_two, not_too_large, one_ways, cover_by, Bool, List, subst, sym, inl, inr, err_from_is_err_and, HasFileSize, IsOrientableSurface}
use Rattle.closed_covers.proofs.ClosedCovers.{cover_surface}
use Rattle.compact_surfaces.proofs.ClosedLemmas.{refused_for}
use Rattle.compact_surfaces.proofs.covered_mesh.CoveredMesh.of.Goals as goal

pub ways_round-requires-clause-few : goal.ways_round-requires-clause-few
ways_round-requires-clause-few c = few_of_two c.args.mesh.faces c.requires.manifold.two_sides

pub returns-in_err-cover-clause-fault : goal.returns-in_err-cover-clause-fault
returns-in_err-cover-clause-fault c =
    let p = err_from_is_err_and c.from_residual-in_err-cover.result c.from_residual-in_err-cover.ensures.1 in
    rw (p.1, p.2)
    (elim c.in_err-cover.ensures.fault [
      | inl none ↦ inl none
      | inr large ↦
          inr (
            large.0,
            large.1,
            record { twisted = c.requires.twisted; bits = c.in_ok-ways.ways; ways = c.in_ok-ways.ensures; beyond = large.2 },
          )
    ])

pub wanting-requires : goal.wanting-requires
wanting-requires c =
    refused_for c.in_ok-cover.cover c.in-Err.refusal
    (subst IsOrientableSurface (sym c.in_ok-cover.ensures.cover)
    (cover_surface c.args.mesh.faces c.in_ok-ways.ways c.requires.valid c.in_ok-ways.ensures c.requires.manifold)) c.in-Err.ensures.none

pub returns-in-Ok-clause-fits : goal.returns-in-Ok-clause-fits
returns-in-Ok-clause-fits c = λ limit beyond.
    not_too_large _ limit
    (subst (λ (bits : List Bool). HasFileSize (cover_by c.args.mesh.faces bits))
    (one_ways c.args.mesh.faces c.in_ok-ways.ways beyond.bits c.in_ok-ways.ensures beyond.ways)
    (subst HasFileSize c.in_ok-cover.ensures.cover c.len.ensures.small))
    beyond.beyond
