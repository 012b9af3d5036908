use Rattle.spoke_rings.proofs.Common.{Shortens, arith}
use Rattle.spoke_rings.proofs.Acting.{WentOn, went-forward, took-out}
use Rattle.spoke_rings.proofs.Reducing.{spur-spokes, reducing-forward, reducing-again, reducing-end, left-shorter, left-lighter, left-passed}
use Rattle.spoke_rings.proofs.ring.Ring.reduce.Goals as goal

-- a spur at the seam is taken out
spur-out : (c : goal.After-take_out) → Shortens c.args.wheel.now c.loop-passed.self c.take_out.new.self
spur-out c =
    let ring = c.loop-passed.self in
    let loop = c.loop-passed.invariant.acts.loop in
    took-out c.args.wheel.now ring c.take_out.new.self _ _ loop c.take_out.ensures.spokes
    (spur-spokes c.args.wheel.now c.requires.full ring loop (omega arith) c.in-Spur.ensures) c.take_out.ensures.at_vertex

pub loop-passed-smaller-in-Spur : goal.loop-passed-smaller-in-Spur
loop-passed-smaller-in-Spur c =
    left-shorter c.args.wheel.now c.requires.full c.args.self.now c.loop-passed.self c.take_out.new.self c.loop-passed.passed
    c.loop-passed.invariant (spur-out c)

pub loop-passed-preserved-in-Spur : goal.loop-passed-preserved-in-Spur
loop-passed-preserved-in-Spur c =
    let out = spur-out c in
    reducing-again c.args.wheel.now c.requires.full c.args.self.now c.loop-passed.self c.take_out.new.self c.loop-passed.passed
    c.loop-passed.invariant out.acts (omega arith)

pub loop-passed-smaller-in-Fall : goal.loop-passed-smaller-in-Fall
loop-passed-smaller-in-Fall c =
    left-lighter c.args.wheel.now c.requires.full c.args.self.now c.loop-passed.self c.rise.new.self c.loop-passed.passed
    c.loop-passed.invariant c.rise.ensures

pub loop-passed-preserved-in-Fall : goal.loop-passed-preserved-in-Fall
loop-passed-preserved-in-Fall c =
    reducing-again c.args.wheel.now c.requires.full c.args.self.now c.loop-passed.self c.rise.new.self c.loop-passed.passed
    c.loop-passed.invariant c.rise.ensures.acts (omega arith)

pub loop-passed-smaller-in-Bracket : goal.loop-passed-smaller-in-Bracket
loop-passed-smaller-in-Bracket c =
    left-shorter c.args.wheel.now c.requires.full c.args.self.now c.loop-passed.self c.close.new.self c.loop-passed.passed
    c.loop-passed.invariant c.close.ensures

pub loop-passed-preserved-in-Bracket : goal.loop-passed-preserved-in-Bracket
loop-passed-preserved-in-Bracket c =
    reducing-again c.args.wheel.now c.requires.full c.args.self.now c.loop-passed.self c.close.new.self c.loop-passed.passed
    c.loop-passed.invariant c.close.ensures.acts (omega arith)

on : (c : goal.After-forward) → WentOn c.args.wheel.now 1 c.loop-passed.self c.forward.new.self
on c =
    went-forward c.args.wheel.now c.loop-passed.self c.forward.new.self c.loop-passed.invariant.acts.loop (omega arith)
    c.forward.ensures.spokes c.forward.ensures.at_vertex

pub loop-passed-smaller : goal.loop-passed-smaller
loop-passed-smaller c =
    left-passed c.args.wheel.now c.requires.full c.args.self.now c.loop-passed.self c.forward.new.self c.loop-passed.passed
    c.loop-passed.invariant (omega (arith, c.loop-passed-test.true)) (on c)

pub loop-passed-preserved : goal.loop-passed-preserved
loop-passed-preserved c =
    reducing-forward c.args.wheel.now c.requires.full c.args.self.now c.loop-passed.self c.forward.new.self c.loop-passed.passed
    c.loop-passed.invariant (omega (arith, c.loop-passed-test.true)) c.in-Fine.ensures (on c)

pub returns-clause-fine : goal.returns-clause-fine
returns-clause-fine c =
    reducing-end c.args.wheel.now c.requires.full c.args.self.now c.loop-passed.self c.loop-passed.passed c.loop-passed.invariant
    (omega (arith, c.loop-passed-test.false))
