use Rattle.polygon_cut.proofs.Common.{darts_of, outer_ring, ◌≡◌, ◌<◌, ◌∙◌, length, sym, ap, arith, set, common_steps, trees_of, without_ways, is_left_kind, kind_of}
use Rattle.polygon_cut.proofs.CountLemmas.{count_at_most}
use Rattle.polygon_cut.proofs.RingWalkLemmas.{walking_within, walking_left, walking_other}
use Rattle.polygon_cut.proofs.ring.label_ring.Goals as goal
use Rattle.polygon_cut.proofs.ring.label_ring.Goals.{then-is_leftover+in_ok-push, else-is_leftover}

pub edge_of-requires-in-loop-step : goal.edge_of-requires-in-loop-step
edge_of-requires-in-loop-step c =
    let trees = trees_of c.args.surface.now c.args.colouring.now c.requires.colouring in
    walking_within c.darts.ensures.valid trees c.requires.last c.loop-step.invariant

pub overflow_cast-len : goal.overflow_cast-len
overflow_cast-len c = grind (arith, common_steps, count_at_most)

pub index_mut-requires : goal.index_mut-requires
index_mut-requires c =
    let trees = trees_of c.args.surface.now c.args.colouring.now c.requires.colouring in
    let within : c.loop-step.dart.0 < darts_of c.args.surface.now = walking_within
    c.darts.ensures.valid trees c.requires.last c.loop-step.invariant in
    omega (arith, within, c.loop-step.invariant.walked.each_dart, c.loop-step.labels.ok.0)

pub dart_after-dart-requires-in-loop-step : goal.dart_after-dart-requires-in-loop-step
dart_after-dart-requires-in-loop-step c =
    let trees = trees_of c.args.surface.now c.args.colouring.now c.requires.colouring in
    walking_within c.darts.ensures.valid trees c.requires.last c.loop-step.invariant

pub loop-step-preserved : goal.loop-step-preserved
loop-step-preserved c =
    let split = without_ways c.args.colouring.now in
    let trees = trees_of c.args.surface.now c.args.colouring.now c.requires.colouring in
    let long : c.len.result ≡ length c.loop-step.sides.items = omega (arith, c.len.ensures, c.loop-step.sides.ok.0) in
    let few : c.loop-step._step < darts_of c.args.surface.now = omega (arith, c.loop-step-test.true, c.darts-step-end.ensures.count) in
    let next : c.dart_after-dart-in-loop-step.result.0 ≡ outer_ring c.args.surface.now split c.loop-step.dart.0 = grind arith in
    let written = ap (set c.loop-step.labels.items c.loop-step.dart.0) long in
    let kind_is = ap is_left_kind (c.kind-kind.ensures ∙ ap (kind_of split) c.edge_of-in-loop-step.ensures.edge) in
    elim c.if-is_leftover.branch [
      | then-is_leftover+in_ok-push w ↦
          walking_left c.if-is_leftover.sides.items (set c.loop-step.labels.items c.loop-step.dart.0 c.len.result) c.loop-step.dart
          c.dart_after-dart-in-loop-step.result.0 c.darts.ensures.valid trees c.requires.last few c.loop-step.invariant
          (sym kind_is ∙ sym c.is_leftover.ensures ∙ w.if-is_leftover.true) (ap (λ sides. sides.items) w.sides-is
          ∙ w.in_ok-push.ensures.items) written next
      | else-is_leftover w ↦
          walking_other c.if-is_leftover.sides.items (set c.loop-step.labels.items c.loop-step.dart.0 c.len.result) c.loop-step.dart
          c.dart_after-dart-in-loop-step.result.0 c.darts.ensures.valid trees c.requires.last few c.loop-step.invariant
          (sym kind_is ∙ sym c.is_leftover.ensures ∙ w.if-is_leftover.false) (ap (λ sides. sides.items) w.sides-is) written next
    ]
