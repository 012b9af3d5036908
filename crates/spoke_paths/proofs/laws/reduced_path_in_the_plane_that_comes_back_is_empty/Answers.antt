use Rattle.spoke_paths.proofs.ReducedPlane.{plane-empty}
use Rattle.spoke_paths.proofs.laws.reduced_path_in_the_plane_that_comes_back_is_empty.Goals as goal

pub returns : goal.returns
returns c = plane-empty
