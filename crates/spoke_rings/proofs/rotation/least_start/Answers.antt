use Rattle.spoke_rings.proofs.Common.{spoke_along, ◌+◌, ◌<◌, inl, inr, arith, sym, subst}
use Rattle.spoke_rings.proofs.LeastStarts.{Leads, leads-on, leads-over, leads-rotation}
use Rattle.spoke_rings.proofs.rotation.least_start.Goals as goal

pub loop-rival-preserved-then-one-other-2 : goal.loop-rival-preserved-then-one-other-2
loop-rival-preserved-then-one-other-2 c =
    let l = c.loop-rival in
    let less : spoke_along c.args.spokes.now (l.start + l.same) < spoke_along c.args.spokes.now (l.rival + l.same) =
    omega (arith, c.cyclic_at-one.ensures, c.cyclic_at-other.ensures) in
    leads-on c.args.spokes.now l.start l.rival l.same l.invariant less

pub loop-rival-preserved : goal.loop-rival-preserved
loop-rival-preserved c =
    let l = c.loop-rival in
    let less : spoke_along c.args.spokes.now (l.rival + l.same) < spoke_along c.args.spokes.now (l.start + l.same) =
    omega (arith, c.cyclic_at-one.ensures, c.cyclic_at-other.ensures) in
    subst (λ next. Leads c.args.spokes.now l.rival next 0) (sym c.max-next.ensures)
    (leads-over c.args.spokes.now l.start l.rival l.same l.invariant c.loop-rival-test.true less)

pub returns-else-same-len-clause-least : goal.returns-else-same-len-clause-least
returns-else-same-len-clause-least c =
    let l = c.loop-rival in
    leads-rotation c.args.spokes.now l.start l.rival l.same c.requires.even l.invariant (inr c.if-same-len.false)

pub returns-after-loop-rival-clause-least : goal.returns-after-loop-rival-clause-least
returns-after-loop-rival-clause-least c =
    let l = c.loop-rival in
    leads-rotation c.args.spokes.now l.start l.rival l.same c.requires.even l.invariant (inl c.loop-rival-test.false)
