use Rattle.off_reader.proofs.Common.{arith, refl, ◌∙◌, ◌-◌, le-ltb}
use Rattle.off_reader.proofs.RingLemmas.{equal_before, differ_before, by_last, at_end}
use Rattle.off_reader.proofs.ring.has_equal_neighbours.Goals as goal

pub loop-corner-init : goal.loop-corner-init
loop-corner-init c = refl

pub returns-then-ring-corner : goal.returns-then-ring-corner
returns-then-ring-corner c =
    equal_before c.args.ring.now c.loop-corner.corner (record { 0 = 0 }) c.loop-corner.auto.corner c.loop-corner-test.true
    c.if-ring-corner.true

pub loop-corner-preserved : goal.loop-corner-preserved
loop-corner-preserved c =
    differ_before c.args.ring.now c.loop-corner.corner (record { 0 = 0 }) c.loop-corner.auto.corner c.loop-corner-test.true
    c.if-ring-corner.false c.loop-corner.invariant

pub returns-then-sides-gt0 : goal.returns-then-sides-gt0
returns-then-sides-gt0 c =
    by_last c.args.ring.now c.loop-corner.corner (record { 0 = 0 }) c.if-sides-gt0.true
    (omega (arith, c.loop-corner-test.false, c.loop-corner.auto.corner-end (omega (arith, c.if-sides-gt0.true)))) c.loop-corner.invariant

pub returns-else-sides-gt0 : goal.returns-else-sides-gt0
returns-else-sides-gt0 c =
    le-ltb _ _ c.if-sides-gt0.false ∙ at_end c.args.ring.now (c.loop-corner.corner - 1) (omega (arith, c.if-sides-gt0.false))
    c.loop-corner.invariant
