-- A surface of which many pairs of walks are asked.
use Rattle.surf_model.specs.FaceLists.{FaceList}
use Rattle.component_deciding.specs.declared.pair_decider.PairDecider.{PairDecider}
use Rattle.component_deciding.specs.declared.pair_decider.PairDecider.TheVariants.{Whole, Several}

-- its mesh
abbrev pub mesh_of_decider : PairDecider → FaceList
mesh_of_decider (Whole mesh) = mesh
mesh_of_decider (Several mesh) = mesh
