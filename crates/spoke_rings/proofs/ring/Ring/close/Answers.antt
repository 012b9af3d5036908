use Rattle.spoke_rings.proofs.Common.{ring_turn, ◌≡◌, ◌-◌, suc, length, arith, refl, subst, inl, inr}
use Rattle.spoke_rings.proofs.Acting.{went-back, took-out}
use Rattle.spoke_rings.proofs.Closing.{closes-end}
use Rattle.spoke_rings.proofs.Reducing.{Closing, closing-start, closing-next, closing-end, spur-spokes}
use Rattle.spoke_rings.proofs.ring.Ring.close.Goals as goal
use Rattle.spoke_rings.proofs.ring.Ring.close.Goals.{then-twos-len, else-twos-len}

pub loop-pushes-init : goal.loop-pushes-init
loop-pushes-init c =
    closing-start c.args.wheel.now c.requires.full c.args.self.now c.args.twos c.if-twos-len.pushes c.requires.spokes c.requires.some
    c.requires.one c.requires.bracket
    (elim c.if-twos-len.branch [
      | then-twos-len w ↦ inl (omega (arith, w.if-twos-len.true), w.pushes-is)
      | else-twos-len w ↦ inr ((λ e. w.if-twos-len.false (omega arith)), w.pushes-is)
    ])

pub loop-pushes-preserved : goal.loop-pushes-preserved
loop-pushes-preserved c =
    let places = c.args.wheel.now in
    let ring = c.loop-pushes.self in
    let mid = c.push.new.self in
    let left = c.loop-pushes.pushes - 1 in
    let all : c.loop-pushes.pushes ≡ suc left = omega (arith, c.loop-pushes-test.true) in
    let invariant : Closing places c.args.self.now ring (suc left) = grind arith in
    let long = c.loop-pushes.invariant.as_long in
    let two = c.requires.some in
    let mid_long = c.push.ensures.as_long in
    closing-next places c.requires.full c.args.self.now ring mid c.back.new.self left invariant (omega arith) c.push.ensures
    (went-back places mid c.back.new.self c.push.ensures.loop (omega arith) c.back.ensures.spokes c.back.ensures.at_vertex)

pub returns : goal.returns
returns c =
    let places = c.args.wheel.now in
    let ring = c.loop-pushes.self in
    let none : c.loop-pushes.pushes ≡ 0 = omega (arith, c.loop-pushes-test.false) in
    let invariant : Closing places c.args.self.now ring 0 = subst (Closing places c.args.self.now ring) none c.loop-pushes.invariant in
    let two = c.requires.some in
    let spur = closes-end (length ring.spokes) (ring_turn places ring) 0 invariant.closes refl in
    closing-end places c.requires.full c.args.self.now ring c.take_out.new.self invariant
    (took-out places ring c.take_out.new.self _ _ invariant.acts.loop c.take_out.ensures.spokes
    (spur-spokes places c.requires.full ring invariant.acts.loop (omega arith) spur) c.take_out.ensures.at_vertex)
