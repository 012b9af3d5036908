use Rattle.spoke_rings.proofs.Common.{◌≡◌, length, ◌∙◌, arith, add, place_round}
use Rattle.spoke_rings.proofs.Places.{moved-on, moved-round}
use Rattle.spoke_rings.proofs.ring.moved.Goals as goal
use Rattle.spoke_rings.proofs.ring.moved.Goals.{Joined-place-room}

-- the place behind is as far on, round the wheel
is : (c : Joined-place-room)
    → c.if-place-room.behind ≡ add (length c.args.wheel.now) (place_round c.args.wheel.now c.args.at_vertex c.args.spoke) c.args.by
is c = grind (arith, moved-on, moved-round)

pub returns-clause-place : goal.returns-clause-place
returns-clause-place c = c.spoke_round.ensures.place ∙ is (goal.at.returns-clause-place c).Joined-place-room
