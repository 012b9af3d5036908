-- Cyclic forms of closed walks.
use Rattle.std.specs.Prelude.{ℕ, List}
use Rattle.surf_model.specs.FaceLists.{FaceList}
use Rattle.labellings.specs.Labellings.{LabellingView}
use Rattle.labellings.specs.QuadPaths.{quad_path}
use Rattle.spoke_rings.specs.CyclicWords.{IsLoop, IsCyclicallyCanonical}
use Rattle.spoke_rings.specs.LoopSteps.{LoopLeads}

-- a cyclic form of a closed walk: a cyclically canonical list of spokes to which loop steps lead from its quad path
pub record IsCyclicFormOf (mesh : FaceList) (labelling : LabellingView) (walk form : List ℕ) : Type 0 where
  pub loop : IsLoop labelling.places form
  pub leads : LoopLeads labelling.places (quad_path mesh labelling walk) form
  pub canonical : IsCyclicallyCanonical labelling.places form
