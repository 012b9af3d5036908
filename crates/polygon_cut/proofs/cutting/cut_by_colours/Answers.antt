use Rattle.polygon_cut.proofs.Common.{◌≡◌, ◌<◌, ◌^◌, ◌∙◌, [], length, sym, arith, length-map, DartName, colourings_have_trees, without_ways, dart_numbers}
use Rattle.polygon_cut.proofs.CutLemmas.{IsRingWalk, ring_walk, turns_round, few_sides, placed_too, cut_by_colours_is, nothing_to_cut}
use Rattle.polygon_cut.proofs.cutting.cut_by_colours.Goals as goal
use Rattle.polygon_cut.proofs.cutting.cut_by_colours.Goals.{In_ok-sides}

pub returns-in_default : goal.returns-in_default
returns-in_default c =
    let s = c.args.surface.now in
    let colouring = c.args.colouring.now in
    nothing_to_cut (dart_numbers c.new.result.items) c.new-in_default.result.items c.new-in_default-2.result.items
    c.leftover_in_root.ensures.valid (colourings_have_trees s colouring c.requires) c.in_default.ensures.dart

-- the sides go round the root face, up to the last one
walk : (c : In_ok-sides)
    → IsRingWalk c.args.surface.now (without_ways c.args.colouring.now) c.in-Some.last.0 (dart_numbers c.in_ok-sides.field-0.sides.items)
    c.in_ok-sides.field-0.labels.items
walk c =
    let s = c.args.surface.now in
    let last = c.in-Some.ensures.dart in
    ring_walk c.in-Some.last.0 c.leftover_in_root.ensures.valid (colourings_have_trees s c.args.colouring.now c.requires).trees
    last.0 last.2 c.in_ok-sides.ensures

-- there are few of them
few : (c : In_ok-sides) → length c.in_ok-sides.field-0.sides.items < 2 ^ 32
few c =
    let sides = c.in_ok-sides.field-0.sides.items in
    omega (
      arith,
      few_sides c.args.surface.now (without_ways c.args.colouring.now) c.in-Some.last.0 (dart_numbers sides)
          c.in_ok-sides.field-0.labels.items c.leftover_in_root.ensures.small (walk c),
      length-map sides (λ (d : DartName). d.0),
    )

pub places_by_turns-requires-clause-round : goal.places_by_turns-requires-clause-round
places_by_turns-requires-clause-round c =
    let s = c.args.surface.now in
    let sides = c.in_ok-sides.field-0.sides.items in
    rw (c.deref.ensures.value, c.deref-2.ensures.value) (turns_round c.in-Some.last.0 (length sides) (dart_numbers sides)
    c.in_ok-sides.field-0.labels.items [] c.leftover_in_root.ensures.valid
    (colourings_have_trees s c.args.colouring.now c.requires).trees (walk (goal.at.places_by_turns-requires-clause-round c).In_ok-sides)
    (sym (length-map sides (λ (d : DartName). d.0))))

pub places_by_turns-requires-clause-few : goal.places_by_turns-requires-clause-few
places_by_turns-requires-clause-few c = grind (arith, few)

pub overflow_cast-result : goal.overflow_cast-result
overflow_cast-result c = grind (arith, few)

pub returns : goal.returns
returns c =
    let s = c.args.surface.now in
    let colouring = c.args.colouring.now in
    let sides = c.in_ok-sides.field-0.sides.items in
    let labels = c.in_ok-sides.field-0.labels.items in
    let long : c.len.result ≡ length sides = omega (arith, c.len.ensures, c.in_ok-sides.field-0.sides.ok.0) in
    let placed = placed_too s c.deref.result.now sides c.deref-2.result.now labels c.len.result c.deref.ensures.value
    c.deref-2.ensures.value long c.in_ok-places.ensures in
    cut_by_colours_is c.in-Some.last.0 (dart_numbers sides) labels
    c.leftover_in_root.ensures.valid (colourings_have_trees s colouring c.requires) (walk (goal.at.returns c).In_ok-sides)
    (long ∙ sym (length-map sides (λ (d : DartName). d.0))) c.in-Some.ensures.dart.1 placed
