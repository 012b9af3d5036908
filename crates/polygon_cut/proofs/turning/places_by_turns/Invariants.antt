use Rattle.polygon_cut.proofs.Common.{rotations_of, turned, without_places, length}
use Rattle.polygon_cut.proofs.TurningLemmas.{IsTurning}
use Rattle.polygon_cut.proofs.turning.places_by_turns.Given as goal

abbrev pub invariant-loop-turn : goal.invariant-loop-turn
invariant-loop-turn l =
    IsTurning (length l.sides) (turned (rotations_of l.surface) (without_places l.sides l.labels)) l._turn l.places.items l.spoke l.place
