use Rattle.turn_words.proofs.Common.{arith, ◌≡◌, ◌<◌, length, get_or, get_or_read}
use Rattle.turn_words.proofs.Filling.{Filling, filling-set, filling-twice, filling-same, filled-inverse}
use Rattle.turn_words.proofs.wheel.inverse_of.Goals as goal
use Rattle.turn_words.proofs.wheel.inverse_of.Goals.{then-index-degree, else-index-degree+then-place-twice, else-index-degree+else-place-twice}

pub loop-spoke-preserved : goal.loop-spoke-preserved
loop-spoke-preserved c =
    let places = c.args.places.now in
    let i = c.loop-spoke.spoke in
    let spokes = c.loop-spoke.spokes.items in
    let f : Filling places i spokes c.loop-spoke.twice = c.loop-spoke.invariant in
    let below : i < length places = omega arith in
    let place_below = c.requires.inside i below in
    let at : c.index.result.now ≡ get_or spokes (get_or places i 0) 0 =
    get_or_read spokes (get_or places i 0) c.index.result.now (omega (arith, f.as_long)) c.index.ensures 0 in
    let small = f.small (get_or places i 0) place_below in
    elim c.if-index-degree.branch [
      | then-index-degree w ↦ rw (w.spokes-is, w.twice-is)
          (filling-set places c.requires.inside i spokes c.loop-spoke.twice below f (omega arith))
      | else-index-degree+then-place-twice w ↦ let differs =
          w.if-index-degree.false in rw (w.spokes-is, w.twice-is)
          (filling-twice places c.requires.inside i spokes c.loop-spoke.twice below f (omega arith) w.if-place-twice.true)
      | else-index-degree+else-place-twice w ↦ rw (w.spokes-is, w.twice-is)
          (filling-same places c.requires.inside i spokes c.loop-spoke.twice below f (omega arith) w.if-place-twice.false)
    ]

pub returns-clause-inverse : goal.returns-clause-inverse
returns-clause-inverse c =
    let f : Filling c.args.places.now (length c.args.places.now) c.loop-spoke.spokes.items c.loop-spoke.twice = grind arith in
    filled-inverse c.args.places.now c.requires.inside c.loop-spoke.spokes.items c.loop-spoke.twice f c.if-twice-degree.false
