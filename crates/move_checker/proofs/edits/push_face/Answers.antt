use Rattle.move_checker.proofs.Common.{list_under-is, list_of, ◌≡◌, ◌+◌, ◌++◌, ℕ, Bool, List, length, take, drop, get_or, Some, ap, sym, ◌∙◌, arith, length-append, length-take-le, length-drop, take_all, get_or-drop, length-corners_from, face_at, next_corner, corners_from}
use Rattle.move_checker.proofs.Replacements.{pushed_more}
use Rattle.move_checker.proofs.Ways.{corner_after, corner_after-more, get_or-corners_from}
use Rattle.move_checker.proofs.edits.push_face.Goals as goal
use Rattle.move_checker.proofs.edits.push_face.Goals.{After-push_after}

long : (ring : List ℕ) (forward : Bool) (corner steps : ℕ) → length (drop 1 (corners_from ring forward corner steps)) ≡ steps
long ring forward corner steps =
    omega (arith, length-drop 1 (corners_from ring forward corner steps), length-corners_from ring forward corner steps)

pub push_after-requires-clause-place : goal.push_after-requires-clause-place
push_after-requires-clause-place c =
    let list = list_of c.args.pool.now c.args.spot.chain.0 in
    let ring = face_at c.args.faces.now c.args.way.face.0 in
    let others = drop 1 (corners_from ring c.args.way.forward c.args.way.corner c.args.steps) in
    omega (
      arith,
      c.loop-step-test.true,
      ap (λ (l : List ℕ). length l) (list_under-is c.loop-step.pool.lists c.args.spot.chain.0 _ c.loop-step.invariant.0),
      length-append (take c.args.spot.at list ++ take c.loop-step.step others) (drop c.args.spot.at list),
      length-append (take c.args.spot.at list) (take c.loop-step.step others),
      length-take-le c.args.spot.at list c.requires.place,
      length-take-le c.loop-step.step others
          (omega (arith, c.loop-step-test.true, long ring c.args.way.forward c.args.way.corner c.args.steps)),
    )

-- the corner that the way goes on to
reached : (c : After-push_after) → c.corner_after-corner.result
    ≡ corner_after c.args.way.forward (length (face_at c.args.faces.now c.args.way.face.0)) c.args.way.corner (c.loop-step.step + 1)
reached c =
    let ring = face_at c.args.faces.now c.args.way.face.0 in
    c.corner_after-corner.ensures.corner ∙ ap (λ m. next_corner c.args.way.forward m c.loop-step.corner) c.sides-sides.ensures
    ∙ ap (λ t. next_corner c.args.way.forward (length ring) t) c.loop-step.invariant.2
    ∙ sym (corner_after-more c.args.way.forward (length ring) c.args.way.corner c.loop-step.step)

-- its vertex, which is pushed
value : (c : After-push_after) → c.corner.result.0
    ≡ get_or (drop 1 (corners_from (face_at c.args.faces.now c.args.way.face.0) c.args.way.forward c.args.way.corner c.args.steps))
    c.loop-step.step 0
value c =
    let ring = face_at c.args.faces.now c.args.way.face.0 in
    let more : c.loop-step.step + 1 ≡ 1 + c.loop-step.step = omega arith in
    let all = corners_from ring c.args.way.forward c.args.way.corner c.args.steps in
    c.corner.ensures ∙ ap (λ (t : ℕ). get_or ring t 0) (reached c)
    ∙ sym (get_or-corners_from ring c.args.way.forward c.args.way.corner c.args.steps (c.loop-step.step + 1)
    (omega (arith, c.loop-step-test.true)))
    ∙ ap (λ (k : ℕ). get_or all k 0) more ∙ sym (get_or-drop 1 all c.loop-step.step 0)

pub loop-step-preserved : goal.loop-step-preserved
loop-step-preserved c =
    let ring = face_at c.args.faces.now c.args.way.face.0 in
    let others = drop 1 (corners_from ring c.args.way.forward c.args.way.corner c.args.steps) in
    let at = (goal.at.loop-step-preserved c).After-push_after in (
      c.push_after.ensures.list.here
          ∙ ap (λ (l : List ℕ). Some l) (pushed_more (list_of c.args.pool.now c.args.spot.chain.0) others
          (list_of c.loop-step.pool c.args.spot.chain.0) c.args.spot.at c.loop-step.step c.corner.result.0 c.requires.place
          (omega (arith, c.loop-step-test.true, long ring c.args.way.forward c.args.way.corner c.args.steps))
          (list_under-is c.loop-step.pool.lists c.args.spot.chain.0 _ c.loop-step.invariant.0) (value at)),
      omega (arith, c.loop-step.invariant.1, c.push_after.ensures.spare),
      reached at,
      omega (arith, c.corner_after-corner.ensures.within, c.sides-sides.ensures),
    )

pub returns-clause-list : goal.returns-clause-list
returns-clause-list c =
    let list = list_of c.args.pool.now c.args.spot.chain.0 in
    let ring = face_at c.args.faces.now c.args.way.face.0 in
    let others = drop 1 (corners_from ring c.args.way.forward c.args.way.corner c.args.steps) in
    c.loop-step.invariant.0
    ∙ ap (λ (l : List ℕ). Some (take c.args.spot.at list ++ l ++ drop c.args.spot.at list))
    (take_all c.loop-step.step others
    (omega (arith, c.loop-step-test.false, long ring c.args.way.forward c.args.way.corner c.args.steps)))
