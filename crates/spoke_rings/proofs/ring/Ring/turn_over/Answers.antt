use Rattle.spoke_rings.proofs.Common.{◌≡◌, ◌-◌, suc, true, length, arith, sym, subst, ◌∙◌, ap, add, place_round}
use Rattle.spoke_rings.proofs.Acting.{went-forward, took-out}
use Rattle.spoke_rings.proofs.Reducing.{spur-spokes}
use Rattle.spoke_rings.proofs.TurningOver.{Turning, turning-begins, turning-next, turning-spur, turning-end}
use Rattle.spoke_rings.proofs.ring.Ring.turn_over.Goals as goal

pub loop-left-init : goal.loop-left-init
loop-left-init c =
    let places = c.args.wheel.now in
    let start = c.args.self.now in
    subst (Turning places start c.put_twice.new.self) (sym c.len-len.ensures)
    (turning-begins places c.requires.full start c.put_twice.new.self c.moved-spoke.result c.requires.spokes c.requires.some
    c.requires.vertex c.requires.falls c.moved-spoke.ensures.below
    (c.moved-spoke.ensures.place ∙ ap (λ x. add (length places) (place_round places true x) 1) c.first.ensures)
    c.in_ok-put_twice.ensures.spokes c.in_ok-put_twice.ensures.at_vertex)

pub loop-left-preserved : goal.loop-left-preserved
loop-left-preserved c =
    let places = c.args.wheel.now in
    let start = c.args.self.now in
    let ring = c.loop-left.self in
    let left = c.loop-left.left - 1 in
    let all : c.loop-left.left ≡ suc left = omega (arith, c.loop-left-test.true) in
    let invariant : Turning places start ring (suc left) = subst (Turning places start ring) all c.loop-left.invariant in
    let mid_long = c.push.ensures.as_long in
    turning-next places c.requires.full start ring c.push.new.self c.forward.new.self left invariant c.requires.some c.push.ensures
    (went-forward places c.push.new.self c.forward.new.self c.push.ensures.loop (omega arith) c.forward.ensures.spokes
    c.forward.ensures.at_vertex)

pub returns : goal.returns
returns c =
    let places = c.args.wheel.now in
    let start = c.args.self.now in
    let ring = c.loop-left.self in
    let none : c.loop-left.left ≡ 0 = omega (arith, c.loop-left-test.false) in
    let invariant : Turning places start ring 0 = subst (Turning places start ring) none c.loop-left.invariant in
    let same = spur-spokes places c.requires.full ring invariant.acts.loop (omega arith)
    (turning-spur places c.requires.full start ring invariant c.requires.some) in
    turning-end places c.requires.full start ring c.take_out.new.self _ _ invariant c.requires.some c.take_out.ensures.spokes same
    c.take_out.ensures.at_vertex
    (took-out places ring c.take_out.new.self _ _ invariant.acts.loop c.take_out.ensures.spokes same c.take_out.ensures.at_vertex)
