-- What the codes mean, in the words of meshes, walks and moves.
use Rattle.std.specs.Prelude.{◌≡◌, ◌↔◌, ℕ, ◌≤◌, ◌==◌, ◌&&◌, not, Bool, true, List, [], ◌∷◌, length, slice_index, ℤ}
use Rattle.std.specs.List.{list_any}
use Rattle.surf_model.specs.FaceLists.{FaceList}
use Rattle.surf_model.specs.Moves as moves
use Rattle.closed_walks.specs.FreeHomotopy.{FreelyHomotopic}
use Rattle.homology.specs.ArrayCertificates.{AreChainNumbers, AreCocycleNumbers}
use Rattle.homology.specs.Chains.{AreHomologous}
use Rattle.homology.specs.Tallies.{AreNumbersWithin}
use Rattle.homology.specs.declared.certificate.TheConstants.{MOST_NUMBER}
use Rattle.labellings.specs.Denials.{DenialHolds}
use Rattle.move_checker.specs.Verdicts.{LeadsWithin}
use Rattle.commands.specs.Certificates.{Convinces, certificate_text}
use Rattle.surf_model.specs.OrientableSurfaces.{IsOrientableSurface}
use Rattle.closed_surfaces.specs.ComponentGenera.{AreGeneraOf}
use Rattle.surf_model.specs.Genera.{AreNumbersOf}
use Rattle.surf_model.specs.declared.numbers.SurfaceNumbers as counted
use Rattle.commands.specs.declared.certificate.Certificate.{Certificate}
use Rattle.commands.specs.declared.certificate.Certificate.TheVariants as shown
use Rattle.homotopy_arrays.specs.Loops.{AreLoops}
use Rattle.homotopy_arrays.specs.Pairs.{AreWalks}
use Rattle.homotopy_c.specs.Told.{in_front}
use Rattle.homotopy_c.specs.declared.codes.TheConstants as codes
use Rattle.homotopy_c.specs.declared.outcome.Outcome.{Outcome}
use Rattle.homotopy_c.specs.declared.surface.SurfaceNumbers.{SurfaceNumbers}

-- ---- the codes

-- no number stands twice
abbrev pub are_distinct : List ℕ → Bool
are_distinct [] = true
are_distinct (code ∷ codes) = not (list_any (λ other. other == code) codes) && are_distinct codes

-- all of them, as homotopy.h lists them
abbrev pub all_codes : List ℕ
all_codes =
    codes.DONE ∷ codes.HOMOTOPIC ∷ codes.DIFFERENT ∷ codes.ACCEPTED ∷ codes.SHORT_ROOM ∷ codes.NO_MEMORY ∷ codes.NO_MESH
    ∷ codes.FREELY_HOMOTOPIC ∷ codes.NOT_FREELY_HOMOTOPIC ∷ codes.HOMOLOGOUS
    ∷ codes.MANY_VERTICES ∷ codes.CORNER_COUNT ∷ codes.MANY_SIDES ∷ codes.FEW_CORNERS ∷ codes.CORNER_RANGE ∷ codes.EQUAL_NEIGHBOURS
    ∷ codes.NOT_HOMOLOGOUS
    ∷ codes.NO_FACE ∷ codes.EDGE_SIDES ∷ codes.PINCHED ∷ codes.NOT_ORIENTABLE ∷ codes.DOUBLE_VERTICES ∷ codes.DOUBLE_SIDES
    ∷ codes.COVER_VERTICES ∷ codes.COVER_SIDES ∷ codes.WALK_COUNT ∷ codes.EMPTY_WALK ∷ codes.LONG_WALK
    ∷ codes.NO_VERTEX ∷ codes.NO_EDGE ∷ codes.STARTS_DIFFER ∷ codes.ENDS_DIFFER ∷ codes.OPEN_WALK ∷ codes.LONG_CERTIFICATE ∷ codes.NO_HEAD
    ∷ codes.BAD_LINE ∷ codes.ENDED_EARLY ∷ codes.EXTRA_LINE ∷ codes.LARGE_PEAK ∷ codes.UNKNOWN_ANSWER
    ∷ codes.REJECTED_PEAK ∷ codes.REJECTED_MOVE_PLACE
    ∷ codes.REJECTED_MOVE_EDGE ∷ codes.REJECTED_MOVE_SPUR ∷ codes.REJECTED_MOVE_FACE ∷ codes.REJECTED_MOVE_PEAK ∷ codes.REJECTED_END
    ∷ codes.REJECTED_SHAPE ∷ codes.REJECTED_DEGREE ∷ codes.REJECTED_PLACE ∷ codes.REJECTED_EDGE ∷ codes.REJECTED_WORD
    ∷ codes.REJECTED_EQUAL ∷ codes.REJECTED_COUNT ∷ codes.REJECTED_LARGE ∷ codes.REJECTED_UNEVEN ∷ codes.REJECTED_BOUNDARY
    ∷ codes.REJECTED_SUM ∷ codes.REJECTED_ZERO ∷ codes.CERTIFY_SIDES ∷ codes.CERTIFY_DARTS ∷ codes.HOMOLOGY_DARTS ∷ []

-- ---- what was answered

-- the mesh is an orientable closed surface with these numbers, and the genera of its components stand in front
pub record DoesMeasure (mesh : FaceList) (numbers : SurfaceNumbers) (old genera : List ℕ) : Type 0 where
  pub surface : IsOrientableSurface mesh
  pub measured : counted.SurfaceNumbers
  pub are_its_own : AreNumbersOf mesh measured
  pub vertices : numbers.vertices ≡ measured.vertices
  pub edges : numbers.edges ≡ measured.edges
  pub faces : numbers.faces ≡ measured.faces
  pub euler : numbers.euler ≡ measured.euler
  pub own_genera : List ℕ
  pub are_genera : AreGeneraOf mesh own_genera
  pub components : numbers.components ≡ length own_genera
  pub in_front_stand : genera ≡ in_front own_genera old

-- the byte of a pair says what holds of its walks
pub record DoesAnswer (mesh : FaceList) (first second : List ℕ) (byte : ℕ) : Type 0 where
  pub homotopic : (byte ≡ codes.HOMOTOPIC) ↔ (AreWalks mesh first second × moves.Homotopic mesh first second)
  pub different : (byte ≡ codes.DIFFERENT) ↔ (AreWalks mesh first second × (moves.Homotopic mesh first second → ⊥))

-- the same of closed walks
pub record DoesAnswerLoops (mesh : FaceList) (first second : List ℕ) (byte : ℕ) : Type 0 where
  pub freely : (byte ≡ codes.FREELY_HOMOTOPIC) ↔ (AreLoops mesh first second × FreelyHomotopic mesh first second)
  pub not_freely : (byte ≡ codes.NOT_FREELY_HOMOTOPIC) ↔ (AreLoops mesh first second × (FreelyHomotopic mesh first second → ⊥))

-- the text of a certificate that convinces stands in front, and its length is told
abbrev pub Shows : FaceList → (first second old text : List ℕ) → Outcome → Type 0
Shows mesh first second old text outcome =
    (shown : Certificate) × Convinces mesh first second shown × (text ≡ in_front (certificate_text shown) old)
    × (slice_index outcome.numbers 0 ≡ length (certificate_text shown)) × (length (certificate_text shown) ≤ length old)

-- the two walks are walks of the surface with common ends, some list of moves leads from the first to the second, and a text shows it
pub record ShowsHomotopic (mesh : FaceList) (first second old text : List ℕ) (outcome : Outcome) : Type 0 where
  pub surface : IsOrientableSurface mesh
  pub walks : AreWalks mesh first second
  pub homotopic : moves.Homotopic mesh first second
  pub shows : Shows mesh first second old text outcome

-- the same, and none leads
pub record ShowsDifferent (mesh : FaceList) (first second old text : List ℕ) (outcome : Outcome) : Type 0 where
  pub surface : IsOrientableSurface mesh
  pub walks : AreWalks mesh first second
  pub different : moves.Homotopic mesh first second → ⊥
  pub shows : Shows mesh first second old text outcome

-- numbers stand in front, and how many they are is told
pub record StandCounted (numbers old new : List ℤ) (outcome : Outcome) : Type 0 where
  pub stand : new ≡ in_front numbers old
  pub counted : slice_index outcome.numbers 0 ≡ length numbers
  pub fit : length numbers ≤ length old

-- the mesh is a surface of a kind, the two walks are homologous walks of it, and a number for each face is a chain for them
pub record ShowsHomologousOn (IsSurface : FaceList → Type 0) (mesh : FaceList) (first second : List ℕ) (old new : List ℤ)
    (outcome : Outcome) : Type 0 where
  pub surface : IsSurface mesh
  pub walks : AreWalks mesh first second
  pub homologous : AreHomologous mesh first second
  pub numbers : List ℤ
  pub chain : AreChainNumbers mesh first second numbers
  pub stand : StandCounted numbers old new outcome

abbrev pub ShowsHomologous : FaceList → (first second : List ℕ) → (old new : List ℤ) → Outcome → Type 0
ShowsHomologous mesh first second old new outcome = ShowsHomologousOn IsOrientableSurface mesh first second old new outcome

-- the two walks are walks of the surface with common ends that are not homologous, and a number for each side is what a cocycle gives it
-- that separates them
pub record ShowsNotHomologousOn (IsSurface : FaceList → Type 0) (mesh : FaceList) (first second : List ℕ) (old new : List ℤ)
    (outcome : Outcome) : Type 0 where
  pub surface : IsSurface mesh
  pub walks : AreWalks mesh first second
  pub apart : AreHomologous mesh first second → ⊥
  pub numbers : List ℤ
  pub cocycle : AreCocycleNumbers mesh first second numbers
  pub stand : StandCounted numbers old new outcome

abbrev pub ShowsNotHomologous : FaceList → (first second : List ℕ) → (old new : List ℤ) → Outcome → Type 0
ShowsNotHomologous mesh first second old new outcome = ShowsNotHomologousOn IsOrientableSurface mesh first second old new outcome

-- a list of moves leads within its peak, or a denial holds
abbrev pub CertificateHolds : FaceList → (first second : List ℕ) → Certificate → Type 0
CertificateHolds mesh first second (shown.Moves list) = LeadsWithin mesh list.peak first list.moves second
CertificateHolds mesh first second (shown.Denial denial) = DenialHolds mesh first second denial

-- two walks of the mesh with common ends, and numbers of its faces that are a chain for them, none too large
pub record IsAcceptedChain (mesh : FaceList) (first second : List ℕ) (numbers : List ℤ) : Type 0 where
  pub walks : AreWalks mesh first second
  pub chain : AreChainNumbers mesh first second numbers
  pub small : AreNumbersWithin MOST_NUMBER numbers

-- two walks of the mesh with common ends, and numbers of its sides that are those of a cocycle which separates them, none too large
pub record IsAcceptedCocycle (mesh : FaceList) (first second : List ℕ) (numbers : List ℤ) : Type 0 where
  pub walks : AreWalks mesh first second
  pub cocycle : AreCocycleNumbers mesh first second numbers
  pub small : AreNumbersWithin MOST_NUMBER numbers
