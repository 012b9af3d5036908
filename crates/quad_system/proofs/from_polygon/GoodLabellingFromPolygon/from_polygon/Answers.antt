use Rattle.quad_system.proofs.Common.{IsGood, LabellingView, labelling_from, IsFull, arith, ◌≡◌, IfOk-weaker}
use Rattle.quad_system.proofs.PolygonLabelLemmas.{polygon_good}
use Rattle.quad_system.proofs.FullLemmas.{polygon_full}
use Rattle.quad_system.proofs.from_polygon.GoodLabellingFromPolygon.from_polygon.Goals as goal

pub with_wheel-requires-clause-each_spoke : goal.with_wheel-requires-clause-each_spoke
with_wheel-requires-clause-each_spoke c = grind (arith, polygon_good)

pub with_wheel-requires-clause-below : goal.with_wheel-requires-clause-below
with_wheel-requires-clause-below c =
    let cut = c.requires.cut in
    rw c.in_ok-labelling.ensures (polygon_good c.args.surface.now cut.0 c.args.polygon.now c.faces.ensures.valid cut.1 cut.2
    c.requires.some).shape.places_below

pub with_wheel-requires-clause-apart : goal.with_wheel-requires-clause-apart
with_wheel-requires-clause-apart c = grind (arith, polygon_good)

pub returns-clause-good : goal.returns-clause-good
returns-clause-good c =
    let surface = c.args.surface.now in
    let cut = c.requires.cut in
    IfOk-weaker c.with_wheel.result (λ (good : LabellingView). good ≡ c.in_ok-labelling.labelling)
    (λ (good : LabellingView). IsGood surface.mesh (labelling_from surface c.args.polygon.now))
    (λ _ _. polygon_good surface cut.0 c.args.polygon.now c.faces.ensures.valid cut.1 cut.2 c.requires.some) c.with_wheel.ensures

pub returns-clause-full : goal.returns-clause-full
returns-clause-full c =
    let surface = c.args.surface.now in
    let cut = c.requires.cut in
    IfOk-weaker c.with_wheel.result (λ (good : LabellingView). good ≡ c.in_ok-labelling.labelling)
    (λ (good : LabellingView). IsFull surface.mesh (labelling_from surface c.args.polygon.now))
    (λ _ _. polygon_full surface cut.0 c.args.polygon.now c.faces.ensures.valid cut.1 cut.2 c.requires.some) c.with_wheel.ensures
