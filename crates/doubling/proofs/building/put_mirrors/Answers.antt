use Rattle.doubling.proofs.Common.{with_mirrors, EndsEarly, mirror_face, ◌+◌, length, ◌∙◌, sym, arith, rules, numbers}
use Rattle.doubling.proofs.BuildingLemmas.{mirror_next_face, ends_early, mirrors_first, length-numbers}
use Rattle.doubling.proofs.DoubleFaces.{length-mirror_face}
use Rattle.doubling.proofs.building.put_mirrors.Goals as goal

pub loop-face-preserved : goal.loop-face-preserved
loop-face-preserved c = grind (arith, mirror_next_face)

pub returns-in_err-put_mirror-clause-fault : goal.returns-in_err-put_mirror-clause-fault
returns-in_err-put_mirror-clause-fault c =
    let next = mirror_next_face c.args.faces.now c.loop-face.face c.count.result c.loop-face.double (numbers c.ring.result.now)
    c.loop-face.invariant c.count.ensures.count c.ring.ensures.ring (omega (arith, c.len-face-end.ensures.count)) in
    let h : EndsEarly c.args.faces.now c.in_err-put_mirror.field-0.0 =
    ends_early c.args.faces.now c.loop-face.double (with_mirrors c.args.faces.now (c.loop-face.face + 1))
    (mirror_face c.count.result (numbers c.ring.result.now)) (length c.ring.result.now) c.in_err-put_mirror.field-0.0
    (sym (length-mirror_face c.count.result (numbers c.ring.result.now) ∙ length-numbers c.ring.result.now)) next
    (mirrors_first c.args.faces.now (c.loop-face.face + 1)) c.in_err-put_mirror.ensures.fault in
    search rules
