use Rattle.polygon_cut.proofs.Common.{face_at_number, number_below, edge_of, ◌≡◌, ◌+◌, ◌∙◌, length, sym, ap, arith, first_side, face_at, colourings_have_trees, without_ways, is_left, is_left_kind, kind_of}
use Rattle.polygon_cut.proofs.RingWalkLemmas.{number_in_face, none_in_face}
use Rattle.polygon_cut.proofs.ring.leftover_in_root.Goals as goal
use Rattle.polygon_cut.proofs.ring.leftover_in_root.Goals.{After-sides-at-end}

-- the dart that is begun with is the first of the root face, and all its darts are looked at
first : (c : After-sides-at-end)
    → c.first_dart-first.result.0 ≡ first_side c.args.surface.now.mesh c.args.colouring.now.root_face
first c = grind (arith, first_side)

sides : (c : After-sides-at-end)
    → c.sides-at-end.result ≡ length (face_at c.args.surface.now.mesh c.args.colouring.now.root_face)
sides c = grind arith

pub returns-then-is_leftover-clause-dart : goal.returns-then-is_leftover-clause-dart
returns-then-is_leftover-clause-dart c =
    let s = c.args.surface.now in
    let colouring = c.args.colouring.now in
    let split = without_ways colouring in
    let at = (goal.at.returns-then-is_leftover-clause-dart c).After-sides-at-end in
    let below = (colourings_have_trees s colouring c.requires).root_below in
    let h = number_in_face s colouring.root_face c.first_dart-first.result.0 c.loop-at.at below (first at)
    (omega (arith, sides at, c.loop-at-test.true)) in
    let kind = c.kind.ensures ∙ ap (kind_of split) c.edge_of.ensures.edge in (
      number_below s.mesh colouring.root_face c.loop-at.at (c.first_dart-first.result.0 + c.loop-at.at) h,
      face_at_number s colouring.root_face c.loop-at.at (c.first_dart-first.result.0 + c.loop-at.at) h,
      sym (ap is_left_kind kind) ∙ sym c.is_leftover.ensures ∙ c.if-is_leftover.true,
    )

pub returns-clause-dart : goal.returns-clause-dart
returns-clause-dart c =
    let s = c.args.surface.now in
    let colouring = c.args.colouring.now in
    let split = without_ways colouring in
    let at = (goal.at.returns-clause-dart c).After-sides-at-end in
    none_in_face s colouring.root_face c.first_dart-first.result.0 (λ d. is_left split (edge_of s d)) (first at)
    (λ k l. c.loop-at.invariant k (omega (arith, l, sides at, c.loop-at-test.false)))
