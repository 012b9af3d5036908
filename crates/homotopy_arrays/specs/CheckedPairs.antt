-- Two walks that were compared with a mesh.
use Rattle.std.specs.Prelude.{◌≡◌, ℕ, List, [], ◌∷◌, Some, None}
use Rattle.std.specs.Option.{option_or}
use Rattle.surf_model.specs.FaceLists.{FaceList}
use Rattle.homotopy_arrays.specs.Loops.{AreLoops, closed_fault}
use Rattle.homotopy_arrays.specs.Pairs.{AreWalks, length_fault, two_walks_fault}
use Rattle.homotopy_arrays.specs.declared.pair.Checked.{Checked}
use Rattle.homotopy_arrays.specs.declared.pair.Checked.TheVariants.{Pair, Faulty}

-- two walks of the mesh with common ends, or what is first wrong with them
abbrev pub IsChecked : FaceList → (first second : List ℕ) → Checked → Type 0
IsChecked mesh first second (Pair list) = AreWalks mesh first second × (list.walks ≡ first ∷ second ∷ [])
IsChecked mesh first second (Faulty fault) = (two_walks_fault mesh first second ≡ Some fault) × (AreWalks mesh first second → ⊥)

-- two closed walks of the mesh, or what is first wrong with them
abbrev pub AreCheckedLoops : FaceList → (first second : List ℕ) → Checked → Type 0
AreCheckedLoops mesh first second (Pair list) = AreLoops mesh first second × (list.walks ≡ first ∷ second ∷ [])
AreCheckedLoops mesh first second (Faulty fault) = (closed_fault mesh first second ≡ Some fault) × (AreLoops mesh first second → ⊥)

-- two lists of which neither has no vertex or too many, or the first that has
abbrev pub AreListed : (first second : List ℕ) → Checked → Type 0
AreListed first second (Pair list) =
    (list.walks ≡ first ∷ second ∷ []) × (length_fault 1 first ≡ None) × (length_fault 2 second ≡ None)
AreListed first second (Faulty fault) = option_or (length_fault 1 first) (length_fault 2 second) ≡ Some fault
