-- The spokes of a walk, and steps on them that make them short.
use Rattle.std.specs.Prelude.{◌≡◌, ℕ, zero, suc, ◌+◌, ◌==◌, if◌then◌else◌, List, [], ◌∷◌, ◌++◌, length}
use Rattle.halfedge_map.specs.OrientedMeshes.{OrientedMesh}
use Rattle.halfedge_map.specs.DartMaps.{next_of}
use Rattle.halfedge_map.specs.RotationSystems.{rotations_of, IsDartFrom}
use Rattle.turn_words.specs.SpokePaths.{turn_word_of}
use Rattle.polygon_cut.specs.Polygons.{PolygonView, label_of}
use Rattle.polygon_cut.specs.SpokeLoops.{HaveFreeSpokes, spokes_along, last_side, across_last}
use Rattle.spoke_paths.specs.PathSteps.{PathLeads}
use Rattle.spoke_paths.specs.ReducedWords.{IsReducedWord}
use Rattle.spoke_paths.specs.declared.step.PathStep.{PathStep}
use Rattle.spoke_paths.specs.declared.step.PathStep.TheVariants.{Spur, Turn}
use Rattle.move_lifting.specs.declared.reducing.Reduction.{Reduction}

-- the spokes of a dart: those of the side across, for the last side, and else none where the labels at its tail and at its head are one
abbrev pub spokes_of_dart : OrientedMesh → PolygonView → ℕ → List ℕ
spokes_of_dart surface polygon dart =
    if dart == last_side polygon
    then (across_last surface polygon + 1) ∷ across_last surface polygon ∷ []
    else (if label_of polygon dart == label_of polygon (next_of surface dart)
    then []
    else label_of polygon dart ∷ label_of polygon (next_of surface dart) ∷ [])

-- the spokes of the dart from u to v come to others
pub record HasSpokesMore (surface : OrientedMesh) (polygon : PolygonView) (u v : ℕ) (old new : List ℕ) : Type 0 where
  pub dart : ℕ
  pub from : IsDartFrom (rotations_of surface) u v dart
  pub come : new ≡ old ++ spokes_of_dart surface polygon dart

-- the path is that of spokes that the darts of the walk may have up to spurs
pub record AreFreeSpokesOf (surface : OrientedMesh) (polygon : PolygonView) (walk path : List ℕ) : Type 0 where
  pub spokes : ℕ → ℕ → List ℕ
  pub free : HaveFreeSpokes surface polygon spokes
  pub path_is : path ≡ spokes_along spokes walk

-- how many of the steps take out a spur
abbrev pub spurs_of : List PathStep → ℕ
spurs_of [] = zero
spurs_of (Spur at ∷ steps) = suc (spurs_of steps)
spurs_of (Turn at side partner up ∷ steps) = spurs_of steps

-- the spokes are those of the walk, and the steps lead from them to a reduced path
pub record IsReductionOf (surface : OrientedMesh) (polygon : PolygonView) (walk : List ℕ) (reduction : Reduction) : Type 0 where
  pub wheel : reduction.wheel ≡ polygon.places
  pub spokes : AreFreeSpokesOf surface polygon walk reduction.spokes.items
  pub end : List ℕ
  pub leads : PathLeads polygon.places reduction.spokes.items reduction.steps.items end
  pub reduced : IsReducedWord (length polygon.places) (turn_word_of polygon.places end)
