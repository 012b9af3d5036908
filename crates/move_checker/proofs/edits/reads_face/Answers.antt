use Rattle.move_checker.proofs.Common.{Chains, list_of, ◌≡◌, ◌+◌, ◌-◌, ◌<◌, ◌≢◌, ℕ, List, length, take, drop, get_or, refl, ap, sym, ◌∙◌, arith, length-take-le, length-drop, get_or-take, get_or-drop, face_at, next_corner, corners_from}
use Rattle.move_checker.proofs.Ways.{IsOnWay, on_way_more, on_way_all, off_way}
use Rattle.move_checker.proofs.SameWalks.{same_vertex, other_vertex, same_walk_true, same_walk_false}
use Rattle.move_checker.proofs.edits.reads_face.Goals as goal
use Rattle.move_checker.proofs.edits.reads_face.Goals.{After-read, After-corner_after-corner}

size : (list : List ℕ) (at steps : ℕ) → at + steps < length list → length (take (steps + 1) (drop at list)) ≡ steps + 1
size list at steps lt = length-take-le (steps + 1) (drop at list) (omega (arith, length-drop at list))

-- the entry that is read
entry : (c : After-read)
    → get_or (take (c.args.steps + 1) (drop c.args.spot.at (list_of c.args.pool.now c.args.spot.chain.0))) c.loop-step.step 0
    ≡ c.read.result.0
entry c =
    get_or-take (c.args.steps + 1) (drop c.args.spot.at (list_of c.args.pool.now c.args.spot.chain.0)) c.loop-step.step 0 (omega arith)
    ∙ get_or-drop c.args.spot.at (list_of c.args.pool.now c.args.spot.chain.0) c.loop-step.step 0
    ∙ ap (λ (p : Chains). get_or (list_of p c.args.spot.chain.0) (c.args.spot.at + c.loop-step.step) 0) (sym c.loop-step.invariant.0)
    ∙ sym c.read.ensures.value

pub returns-then-ne-clause-reads : goal.returns-then-ne-clause-reads
returns-then-ne-clause-reads c =
    let ring = face_at c.args.faces.now c.args.way.face.0 in
    let list = list_of c.args.pool.now c.args.spot.chain.0 in
    let entries = take (c.args.steps + 1) (drop c.args.spot.at list) in
    let whole = size list c.args.spot.at c.args.steps c.requires.place in
    let last : length entries - 1 ≡ c.args.steps = omega (arith, whole) in
    let ne : entries ≢ corners_from ring c.args.way.forward c.args.way.corner (length entries - 1) =
    off_way ring c.args.way.forward c.args.way.corner entries c.loop-step.step c.loop-step.corner c.loop-step.invariant.1
    (omega (arith, whole))
    (λ e. other_vertex _ _ (sym c.if-ne.ensures)
    (sym (entry (goal.at.returns-then-ne-clause-reads c).After-read) ∙ e ∙ sym c.corner.ensures)) in
    sym (same_walk_false _ _ (λ e. ne (e ∙ ap (corners_from ring c.args.way.forward c.args.way.corner) (sym last))))

one_more : (c : After-corner_after-corner)
    → get_or (take (c.args.steps + 1) (drop c.args.spot.at (list_of c.args.pool.now c.args.spot.chain.0))) c.loop-step.step 0
    ≡ c.corner.result.0
    → IsOnWay (face_at c.args.faces.now c.args.way.face.0) c.args.way.forward c.args.way.corner
    (take (c.args.steps + 1) (drop c.args.spot.at (list_of c.args.pool.now c.args.spot.chain.0))) (c.loop-step.step + 1)
    c.corner_after-corner.result
one_more c same =
    let ring = face_at c.args.faces.now c.args.way.face.0 in
    let entries = take (c.args.steps + 1) (drop c.args.spot.at (list_of c.args.pool.now c.args.spot.chain.0)) in
    on_way_more ring c.args.way.forward c.args.way.corner entries entries c.loop-step.step c.loop-step.corner c.corner_after-corner.result
    c.loop-step.invariant.1 (λ k h. refl) (same ∙ c.corner.ensures)
    (c.corner_after-corner.ensures.corner ∙ ap (λ m. next_corner c.args.way.forward m c.loop-step.corner) c.sides-sides.ensures)
    (omega (arith, c.corner_after-corner.ensures.within, c.sides-sides.ensures))

pub loop-step-preserved : goal.loop-step-preserved
loop-step-preserved c = (
  c.read.ensures.same ∙ c.loop-step.invariant.0,
  one_more (goal.at.loop-step-preserved c).After-corner_after-corner
      (entry (goal.at.loop-step-preserved c).After-read ∙ same_vertex _ _ (sym c.if-ne.ensures)),
)

pub returns-else-ne-clause-reads : goal.returns-else-ne-clause-reads
returns-else-ne-clause-reads c =
    let ring = face_at c.args.faces.now c.args.way.face.0 in
    let list = list_of c.args.pool.now c.args.spot.chain.0 in
    let entries = take (c.args.steps + 1) (drop c.args.spot.at list) in
    let whole = size list c.args.spot.at c.args.steps c.requires.place in
    let last : length entries - 1 ≡ c.args.steps = omega (arith, whole) in
    sym (same_walk_true _ _ (on_way_all ring c.args.way.forward c.args.way.corner entries (c.loop-step.step + 1)
    c.corner_after-corner.result
    (one_more (goal.at.returns-else-ne-clause-reads c).After-corner_after-corner
    (entry (goal.at.returns-else-ne-clause-reads c).After-read ∙ same_vertex _ _ (sym c.if-ne.ensures)))
    (omega (arith, whole)) (omega (arith, whole))
    ∙ ap (corners_from ring c.args.way.forward c.args.way.corner) last))
