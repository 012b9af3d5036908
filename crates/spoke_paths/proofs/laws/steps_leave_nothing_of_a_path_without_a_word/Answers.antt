use Rattle.spoke_paths.proofs.LeavingNothing.{turns-leave, flat-leave}
use Rattle.spoke_paths.proofs.laws.steps_leave_nothing_of_a_path_without_a_word.Goals as goal

pub returns : goal.returns
returns c = record { turns = turns-leave; flat = flat-leave }
