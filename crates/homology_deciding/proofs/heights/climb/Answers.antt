use Rattle.homology_deciding.proofs.Common.{OrientedMesh, IsWayUp, face_across, height_of, List, length, ap, sym, ◌∙◌, subst, arith, length_push, is_some, FaceList, DartName}
use Rattle.homology_deciding.proofs.LoopLemmas.{way_short, at_root, leads_up}
use Rattle.homology_deciding.proofs.WayLemmas.{way_push}
use Rattle.homology_deciding.proofs.heights.climb.Goals as goal

pub returns-in_default : goal.returns-in_default
returns-in_default c =
    let tree = c.args.tree.now in
    let i = c.loop-step.invariant in
    let root = at_root tree c.loop-step.at.0 c.up.result c.up.ensures c.in_default.is in
    (c.loop-step.at.0, i.1, ap (λ f. is_some (height_of c.args.heights.now f)) root ∙ c.requires.root)

pub loop-step-preserved : goal.loop-step-preserved
loop-step-preserved c =
    let tree = c.args.tree.now in
    let s : OrientedMesh = tree.surface.now in
    let i = c.loop-step.invariant in
    let up : DartName = c.in-Some.up in
    let pushed = c.in_ok-push.ensures.items in (
      c.above-at.ensures.within,
      subst (λ g. IsWayUp s tree.split.now c.args.face.0 c.push.new.self.items g) (sym c.above-at.ensures.face)
          (subst (λ (w : List DartName). IsWayUp s tree.split.now c.args.face.0 w (face_across s up.0)) (sym pushed)
          (way_push s tree.split.now c.requires.tree c.args.face.0 c.loop-step.way.items c.loop-step.at.0 up i.1
          (leads_up tree c.loop-step.at.0 c.up.result up c.up.ensures c.in-Some.is))),
      omega (arith, ap (λ (w : List DartName). length w) pushed, length_push c.loop-step.way.items up, i.2),
    )

pub returns : goal.returns
returns c =
    let tree = c.args.tree.now in
    let i = c.loop-step.invariant in
    let short = way_short tree c.requires.tree c.args.face.0 c.loop-step.way.items c.loop-step.at.0 c.requires.face i.1 in
    absurd (omega (
      arith,
      short,
      i.2,
      c.loop-step-test.false,
      c.len-step-end.ensures.count,
      ap (λ (m : FaceList). length m.faces) c.faces.ensures.mesh,
    ))
