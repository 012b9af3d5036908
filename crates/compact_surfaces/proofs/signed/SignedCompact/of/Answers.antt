use Rattle.compact_surfaces.proofs.Common.{inr}
use Rattle.compact_surfaces.proofs.SignedLemmas.{one_sided, signed_double}
use Rattle.compact_surfaces.proofs.signed.SignedCompact.of.Goals as goal

pub returns-in-Twisted-default-clause-fault : goal.returns-in-Twisted-default-clause-fault
returns-in-Twisted-default-clause-fault c =
    let own = rw c.in-Twisted-default.is-0 at c.in_ok-own.ensures.own in
    let fits = rw c.in-Twisted-default.is-0 at c.in_ok-own.ensures.fits in
    let closed = rw c.in-Twisted-default.is-0 at c.in_ok-own.ensures.closed in
    inr (one_sided c.args.faces c.in-Twisted-default.field-0-0.faces c.in_ok-own.own c.in_ok-own.ensures.compact own fits closed.twisted)

pub returns-in-Signed-Some-clause-surface : goal.returns-in-Signed-Some-clause-surface
returns-in-Signed-Some-clause-surface c =
    let own = rw (c.in-Signed-Some.is-0, c.in-Signed-Some.is-1) at c.in_ok-own.ensures.own in
    let closed = rw c.in-Signed-Some.is-0 at c.in_ok-own.ensures.closed in
    signed_double c.args.faces c.in-Signed-Some.double.faces c.in_ok-own.ensures.compact own.is_double
    (c.in-Signed-Some.double.signs, closed.coherent)
