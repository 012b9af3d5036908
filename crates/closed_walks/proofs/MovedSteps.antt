-- Lists of moves as lists of free steps.
use Rattle.std.proofs.Common.{◌≡◌, ℕ, List, [], ◌∷◌, map}
use Rattle.std.specs.Prelude.{Option, Some, None, option_and_then}
use Rattle.surf_model.specs.FaceLists.{FaceList}
use Rattle.surf_model.specs.Moves.{apply, apply_all, Leads, Homotopic}
use Rattle.surf_model.specs.declared.moves.Move.{Move}
use Rattle.closed_walks.specs.FreeHomotopy.{Moved, FreelyLeads, after_all_free, FreelyHomotopic}

-- moves lead where the same moves lead as free steps
pub moved_leads : (mesh : FaceList) (moves : List Move) (first second : List ℕ) → Leads mesh first moves second
    → FreelyLeads mesh first (map Moved moves) second
moved_leads mesh [] first second h = h
moved_leads mesh (move ∷ moves) first second h = onward mesh moves second (moved_leads mesh moves) (apply mesh first move) h
  where
    onward : (mesh : FaceList) (moves : List Move) (second : List ℕ)
        → ((next wanted : List ℕ) → Leads mesh next moves wanted → FreelyLeads mesh next (map Moved moves) wanted)
        → (next : Option (List ℕ)) → option_and_then (λ walk. apply_all mesh walk moves) next ≡ Some second
        → option_and_then (λ walk. after_all_free mesh walk (map Moved moves)) next ≡ Some second
    onward mesh moves second rest None h = cc
    onward mesh moves second rest (Some next) h = rest next second h

pub freely : (mesh : FaceList) (first second : List ℕ) → Homotopic mesh first second → FreelyHomotopic mesh first second
freely mesh first second h = (map Moved h.0, moved_leads mesh h.0 first second h.1)
