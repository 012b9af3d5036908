use Rattle.walk_actions.proofs.Actions.{moves_act}
use Rattle.walk_actions.proofs.laws.moves_change_no_action.Goals as goal

pub returns : goal.returns
returns g c =
    λ mesh moves first second state acts faces walk may leads at.
    moves_act mesh g.A.Action.Same g.A.Action.act g.A.Action.IsAt acts g.A.Action.May faces moves first second state walk may leads at
