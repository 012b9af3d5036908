use Rattle.homology.proofs.Common.{arith, get_or, pos}
use Rattle.homology.proofs.SizeLemmas.{sent_back, size-opposite}
use Rattle.homology.proofs.TallyLemmas.{faces_room, faces_start, faces_step, faces_all}
use Rattle.homology.proofs.tally.take_faces.Goals as goal

pub add_face-requires-clause-small : goal.add_face-requires-clause-small
add_face-requires-clause-small c = grind (arith, sent_back, size-opposite)

pub add_face-requires-clause-room : goal.add_face-requires-clause-room
add_face-requires-clause-room c =
    faces_room c.args.faces.now c.args.sides.now c.args.of_face.now c.loop-face.face c.args.tally.now c.loop-face.tally
    c.len-face-end.ensures.small c.loop-face.invariant c.requires.long c.requires.room c.requires.small

pub loop-face-init : goal.loop-face-init
loop-face-init c = faces_start c.args.faces.now c.args.sides.now c.args.of_face.now c.args.tally.now

pub loop-face-preserved : goal.loop-face-preserved
loop-face-preserved c =
    faces_step c.args.faces.now c.args.sides.now c.args.of_face.now c.loop-face.face _ c.args.tally.now c.loop-face.tally
    c.add_face.new.tally (omega (arith, c.loop-face-test.true, c.len-face-end.ensures.count))
    (sent_back (get_or c.args.of_face.now c.loop-face.face (pos 0)) (c.requires.small.each c.loop-face.face)) c.loop-face.auto.tally
    c.loop-face.invariant c.add_face.ensures

pub returns : goal.returns
returns c =
    faces_all c.args.faces.now c.args.sides.now c.args.of_face.now c.loop-face.face c.args.tally.now c.loop-face.tally
    (omega (arith, c.loop-face-test.false, c.len-face-end.ensures.count)) c.loop-face.invariant
