-- The command `surface`: what it answers of a mesh.
use Rattle.surf_model.specs.Genera.{AreNumbersOf}
use Rattle.std.specs.Prelude.{◌≡◌, ℕ, ◌<◌, ◌≤◌, ◌↔◌, List, [], ◌∷◌, map, codes, decimal, Option}
use Rattle.std.specs.Fmt.{signed_decimal}
use Rattle.surf_io.specs.Files.{Files}
use Rattle.surf_model.specs.FaceLists.{FaceList}
use Rattle.surf_model.specs.Surfaces.{IsClosedManifold, IsOrientable}
use Rattle.surf_model.specs.declared.chains.ChainLink.{ChainLink}
use Rattle.manifold_check.specs.Faults.{IsFirstFault}
use Rattle.manifold_check.specs.declared.fault.SurfaceFault.{SurfaceFault}
use Rattle.surf_model.specs.OddChains.{IsOddChain}
use Rattle.commands.specs.Answers.{Answer, IsText, yes_with}
use Rattle.commands.specs.Checks.{Check, End, Refuse, Pass, Holds, without_files, pass, ◌>>=◌}
use Rattle.surf_model.specs.OrientableSurfaces.{IsOrientableSurface, HasComponents}
use Rattle.commands.specs.Inputs.{SpellsMesh}
use Rattle.commands.specs.Lines.{line, in_lines, odd_chain_line}
use Rattle.surface_commands.specs.SurfaceRefusals.{surface_line, components_line}
use Rattle.surface_commands.specs.SurfaceInput.{surface_in, of_few_components}
use Rattle.surf_model.specs.declared.numbers.SurfaceNumbers.{SurfaceNumbers}
use Rattle.surface_commands.specs.declared.surface.TheConstants.{MOST_COMPONENTS}
use Rattle.commands.specs.declared.status.Status.{Status}
use Rattle.commands.specs.declared.status.Status.TheVariants.{Yes, Refused}
use Rattle.closed_surfaces.specs.ComponentGenera.{AreGeneraOf}

-- the numbers, a line each, and the line of each genus
abbrev pub genus_line : ℕ → List ℕ
genus_line genus = line (codes "genus") (decimal genus ∷ [])

abbrev pub numbers_text : SurfaceNumbers → (genera : List ℕ) → List ℕ
numbers_text numbers genera =
    in_lines (line (codes "V") (decimal numbers.vertices ∷ []) ∷ line (codes "E") (decimal numbers.edges ∷ [])
    ∷ line (codes "F") (decimal numbers.faces ∷ []) ∷ line (codes "chi") (signed_decimal numbers.euler ∷ []) ∷ map genus_line genera)

-- the words are those of `surface`, and the file that they name is told and stands for a mesh
pub record IsSurfaceInput (held : Option Files) (words : List (List ℕ)) (mesh : FaceList) : Type 0 where
  pub mesh_name : List ℕ
  pub words_are : words ≡ codes "surface" ∷ mesh_name ∷ []
  pub mesh_file : Holds held mesh_name (SpellsMesh mesh)

-- the mesh has no more components than `surface` takes
abbrev pub HasFewComponents : FaceList → Type 0
HasFewComponents mesh = (count : ℕ) × HasComponents mesh count × (count ≤ MOST_COMPONENTS)

-- What `surface` answers of such an input. With status 0 exactly where the mesh is an orientable closed surface of few components, and
-- then its numbers, and the genus of each component. Else with status 2: the first of the conditions of a closed surface that fails, with
-- its least element; or, where they all hold, an odd chain; or, where the faces are orientable too, the number of components.
pub record IsMeasured (held : Option Files) (words : List (List ℕ)) (status : Status) (text : List ℕ) : Type 0 where
  pub surface : (mesh : FaceList) → IsSurfaceInput held words mesh → (status ≡ Yes) ↔ (IsOrientableSurface mesh × HasFewComponents mesh)
  pub numbers : (mesh : FaceList) → IsSurfaceInput held words mesh → IsOrientableSurface mesh → HasFewComponents mesh
      → (numbers : SurfaceNumbers) × AreNumbersOf mesh numbers × (genera : List ℕ) × AreGeneraOf mesh genera
      × (text ≡ numbers_text numbers genera)
  pub not_closed : (mesh : FaceList) (fault : SurfaceFault) → IsSurfaceInput held words mesh → IsFirstFault mesh fault
      → (status ≡ Refused) × IsText (surface_line fault) text
  pub not_orientable : (mesh : FaceList) → IsSurfaceInput held words mesh → IsClosedManifold mesh → (IsOrientable mesh → ⊥)
      → (status ≡ Refused) × (chain : List ChainLink) × IsOddChain mesh chain × (text ≡ odd_chain_line chain)
  pub many_components : (mesh : FaceList) (count : ℕ) → IsSurfaceInput held words mesh → IsOrientableSurface mesh
      → HasComponents mesh count → MOST_COMPONENTS < count → (status ≡ Refused) × IsText (components_line count) text

-- the numbers of the mesh pass
abbrev pub numbers_of : FaceList → Check SurfaceNumbers
numbers_of mesh = without_files ends
  where
    ends : End SurfaceNumbers → Type 0
    ends (Refuse texts) = ⊥
    ends (Pass numbers) = AreNumbersOf mesh numbers

-- the genera of its components pass
abbrev pub genera_of : FaceList → Check (List ℕ)
genera_of mesh = without_files ends
  where
    ends : End (List ℕ) → Type 0
    ends (Refuse texts) = ⊥
    ends (Pass genera) = AreGeneraOf mesh genera

-- what is looked at, in order, and then the numbers
abbrev pub surface : Option Files → List ℕ → Check Answer
surface held name = do
  mesh ← surface_in held name
  few ← of_few_components MOST_COMPONENTS mesh
  numbers ← numbers_of few
  genera ← genera_of few
  pass (yes_with (numbers_text numbers genera))
