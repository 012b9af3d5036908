use Rattle.compact_surfaces.proofs.Common.{err_from_is_err_and}
use Rattle.compact_surfaces.proofs.ClosedLemmas.{closed_by_own, cover_fault}
use Rattle.compact_surfaces.proofs.FaultLemmas.{no_first}
use Rattle.compact_surfaces.specs.Answered.{mesh_of_closed}
use Rattle.compact_surfaces.proofs.answered.AnsweredSurface.of.Goals as goal

pub returns-in_err-closed-clause-fault : goal.returns-in_err-closed-clause-fault
returns-in_err-closed-clause-fault c =
    let p = err_from_is_err_and c.from_residual-in_err-closed.result c.from_residual-in_err-closed.ensures.1 in
    rw (p.1, p.2)
    (cover_fault c.args.faces (mesh_of_closed c.in_ok-own.closed) c.in_err-closed.field-0.0 c.in_ok-own.ensures.compact
    (closed_by_own c.args.faces (mesh_of_closed c.in_ok-own.closed) c.in_ok-own.own c.in_ok-own.ensures.own) c.in_ok-own.ensures.fits
    c.in_err-closed.ensures.fault)

pub returns-clause-none : goal.returns-clause-none
returns-clause-none c = λ fault.
    no_first c.args.faces (mesh_of_closed c.in_ok-own.closed) fault c.in_ok-own.ensures.compact
    (closed_by_own c.args.faces (mesh_of_closed c.in_ok-own.closed) c.in_ok-own.own c.in_ok-own.ensures.own) c.in_ok-own.ensures.fits
    c.in_ok-closed.ensures.fits
