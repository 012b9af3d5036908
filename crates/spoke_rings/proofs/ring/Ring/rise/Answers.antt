use Rattle.spoke_rings.proofs.Common.{◌<◌, length, arith}
use Rattle.spoke_rings.proofs.Acting.{went-forward, went-back}
use Rattle.spoke_rings.proofs.Reducing.{rises-push, rises-forward, rises-back}
use Rattle.spoke_rings.proofs.ring.Ring.rise.Goals as goal

pub returns-then-turn-fall : goal.returns-then-turn-fall
returns-then-turn-fall c =
    let places = c.args.wheel.now in
    let mid = c.push.new.self in
    let two = c.requires.some in
    let some : 0 < length mid.spokes = omega arith in
    let pushed = rises-push places c.requires.full c.args.self.now mid c.requires.spokes two c.push.ensures c.requires.fall in
    rises-back places c.requires.full c.args.self.now mid c.back.new.self pushed some
    (went-back places mid c.back.new.self c.push.ensures.loop some c.back.ensures.spokes c.back.ensures.at_vertex)

pub returns-then-turn-fall-2 : goal.returns-then-turn-fall-2
returns-then-turn-fall-2 c =
    let places = c.args.wheel.now in
    let mid = c.push.new.self in
    let two = c.requires.some in
    let some : 0 < length mid.spokes = omega arith in
    let pushed = rises-push places c.requires.full c.args.self.now mid c.requires.spokes two c.push.ensures c.requires.fall in
    rises-forward places c.requires.full c.args.self.now mid c.forward.new.self pushed
    (went-forward places mid c.forward.new.self c.push.ensures.loop some c.forward.ensures.spokes c.forward.ensures.at_vertex)

pub returns-else-turn-fall-2 : goal.returns-else-turn-fall-2
returns-else-turn-fall-2 c =
    rises-push c.args.wheel.now c.requires.full c.args.self.now c.push.new.self c.requires.spokes c.requires.some c.push.ensures
    c.requires.fall
