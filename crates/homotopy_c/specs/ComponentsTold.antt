-- What `homotopy_components` writes where its caller sees it, and what that means.
use Rattle.std.specs.Prelude.{◌≡◌, ◌⊎◌, ℕ, ◌<◌, ◌≤◌, List, length, slice_index, Result, Ok, Err}
use Rattle.surf_model.specs.FaceLists.{FaceList}
use Rattle.homotopy_arrays.specs.ArrayComponents.{AreComponentsOf}
use Rattle.homotopy_arrays.specs.Surfaces.{EndsOn, IsSurfaceFault}
use Rattle.homotopy_arrays.specs.declared.components.ComponentNumbers.{ComponentNumbers}
use Rattle.homotopy_arrays.specs.declared.components.SurfaceComponents.{SurfaceComponents}
use Rattle.homotopy_arrays.specs.declared.fault.Fault.{Fault}
use Rattle.homotopy_c.specs.Outcomes.{coded, told_fault}
use Rattle.homotopy_c.specs.Told.{in_front}
use Rattle.homotopy_c.specs.declared.codes.TheConstants as codes
use Rattle.homotopy_c.specs.declared.outcome.Outcome.{Outcome}

-- The numbers of the components, and the places of the vertices, are written in front of their arrays, and how many components there are is
-- told; where one array has too little room neither is written, and the lengths that are wanted of both are told.
pub record AreComponentsPut (found : SurfaceComponents) (old components : List ComponentNumbers) (before places : List ℕ)
    (outcome : Outcome) : Type 0 where
  pub room : length found.numbers.items ≤ length old → length found.places.items ≤ length before
      → (components ≡ in_front found.numbers.items old) × (places ≡ in_front found.places.items before)
      × (outcome ≡ coded codes.DONE (length found.numbers.items) 0 0)
  pub short : (length old < length found.numbers.items) ⊎ (length before < length found.places.items)
      → (components ≡ old) × (places ≡ before)
      × (outcome ≡ coded codes.SHORT_ROOM (length found.numbers.items) (length found.places.items) 0)

-- how the question ended is told: the components; or what is wrong, and nothing else is written
abbrev pub TellsComponents : Result SurfaceComponents Fault → (old components : List ComponentNumbers) → (before places : List ℕ)
    → Outcome → Type 0
TellsComponents (Ok found) old components before places outcome = AreComponentsPut found old components before places outcome
TellsComponents (Err fault) old components before places outcome =
    (components ≡ old) × (places ≡ before) × (outcome ≡ told_fault fault)

-- `read` is the mesh that the arrays are, or what is first wrong with them
pub record IsComponentsCall (read : Result FaceList Fault) (old components : List ComponentNumbers) (before places : List ℕ)
    (outcome : Outcome) : Type 0 where
  pub end : Result SurfaceComponents Fault
  pub right : EndsOn read AreComponentsOf IsSurfaceFault end
  pub tells : TellsComponents end old components before places outcome

-- the components of the mesh, an orientable closed surface, stand in front, and how many they are is told
pub record DoesTellComponents (mesh : FaceList) (old components : List ComponentNumbers) (before places : List ℕ)
    (outcome : Outcome) : Type 0 where
  pub found : SurfaceComponents
  pub are : AreComponentsOf mesh found
  pub components_stand : components ≡ in_front found.numbers.items old
  pub places_stand : places ≡ in_front found.places.items before
  pub counted : slice_index outcome.numbers 0 ≡ length found.numbers.items
