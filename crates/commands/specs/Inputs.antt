-- The checks of the files that a command reads, each with what it passes.
use Rattle.std.specs.Prelude.{◌≡◌, ◌⊎◌, ℕ, List, [], ◌∷◌, Option, Result, Ok, Err}
use Rattle.surf_io.specs.Files.{Files}
use Rattle.surf_model.specs.FaceLists.{FaceList}
use Rattle.surf_model.specs.Surfaces.{IsOrientable}
use Rattle.surf_model.specs.Walks.{AreWalkPair}
use Rattle.off_reader.specs.OffTexts.{meaning_of}
use Rattle.walk_files.specs.Certificates.{head_of_text, moves_of_text, with_peak}
use Rattle.walk_files.specs.Denials.{denial_of_lines}
use Rattle.walk_files.specs.WalkLists.{WalkText}
use Rattle.walk_files.specs.WalkTexts.{walk_text_of, walks_of}
use Rattle.walk_files.specs.Pairs.{pair_fault}
use Rattle.walk_files.specs.declared.certificate.CertHead.{CertHead}
use Rattle.walk_files.specs.declared.certificate.CertHead.TheVariants as heads
use Rattle.walk_files.specs.declared.fault.CertFault.{CertFault}
use Rattle.commands.specs.Answers.{OfOddChain, Texts}
use Rattle.commands.specs.Checks.{Check, End, Holds, Pass, Refuse, file, meant, pass_unless, where_told, without_files, ◌>>=◌}
use Rattle.surf_model.specs.OrientableSurfaces.{IsOrientableSurface}
use Rattle.commands.specs.Refusals.{off_line, numbers_line, pair_line, certificate_line, too_large}
use Rattle.commands.specs.declared.certificate.Certificate.{Certificate}
use Rattle.commands.specs.declared.certificate.Certificate.TheVariants.{Moves, Denial}
use Rattle.commands.specs.declared.refusal.Input.TheVariants as inputs

-- the mesh that the file spells
abbrev pub mesh_in : Option Files → List ℕ → Check FaceList
mesh_in held name = do
  bytes ← file held name inputs.Mesh
  meant off_line (meaning_of bytes)

-- an orientable mesh passes, and any other is refused by an odd chain
abbrev pub orientable : FaceList → Check FaceList
orientable mesh = without_files ends
  where
    ends : End FaceList → Type 0
    ends (Refuse texts) = (IsOrientable mesh → ⊥) × (texts ≡ OfOddChain mesh)
    ends (Pass surface) = IsOrientable mesh × (surface ≡ mesh)

-- the text of a walk file, of whose walks nothing else is asked
abbrev pub text_in : Option Files → List ℕ → Check WalkText
text_in held name = do
  bytes ← file held name inputs.Walks
  meant (numbers_line inputs.Walks) (walk_text_of bytes)

-- the walks that the file spells, unless this finds a fault in them
abbrev pub walks_unless : {F : Type 0} → (F → Texts) → (List (List ℕ) → Option F) → Option Files → List ℕ → Check (List (List ℕ))
walks_unless line_of fault_in held name = do
  bytes ← file held name inputs.Walks
  walks ← meant (numbers_line inputs.Walks) (walks_of bytes)
  pass_unless line_of (fault_in walks) walks

-- the walks that the file spells, which are two walks of the mesh with common ends
abbrev pub pair_in : Option Files → List ℕ → FaceList → Check (List (List ℕ))
pair_in held name mesh = walks_unless pair_line (pair_fault mesh) held name

-- what is read of a certificate, as one
abbrev pub as_certificate : {A : Type 0} → (A → Certificate) → Result A CertFault → Result Certificate CertFault
as_certificate make (Err fault) = Err fault
as_certificate make (Ok thing) = Ok (make thing)

-- the certificate behind a head, or the first fault of the lines there
abbrev pub certificate_behind : Result CertHead CertFault → List ℕ → Result Certificate CertFault
certificate_behind (Err fault) text = Err fault
certificate_behind (Ok (heads.Moves count peak)) text = as_certificate Moves (with_peak peak (moves_of_text count text))
certificate_behind (Ok (heads.Labels degree)) text = as_certificate Denial (denial_of_lines degree text)

-- the certificate that a text is, or its first fault
abbrev pub certificate_of : List ℕ → Result Certificate CertFault
certificate_of text = certificate_behind (head_of_text text) text

-- the certificate that the bytes of the file spell
abbrev pub certificate_in_bytes : Option Files → List ℕ → Check Certificate
certificate_in_bytes held name = do
  bytes ← file held name inputs.Certificate
  meant certificate_line (certificate_of bytes)

-- how the check of a certificate ends of which nothing is told: any passes, or is refused as one that is too large or has some fault
abbrev pub IsCertificateEnd : End Certificate → Type 0
IsCertificateEnd (Pass shown) = Unit {0}
IsCertificateEnd (Refuse texts) =
    (texts ≡ too_large inputs.Certificate) ⊎ ((fault : CertFault) × (texts ≡ certificate_line fault))

-- the certificate that the file spells, which is read in pieces
abbrev pub certificate_in : Option Files → List ℕ → Check Certificate
certificate_in held name = where_told held name (certificate_in_bytes held name) IsCertificateEnd

-- ---- what the bytes of a file spell

-- a mesh
abbrev pub SpellsMesh : FaceList → List ℕ → Type 0
SpellsMesh mesh bytes = meaning_of bytes ≡ Ok mesh

-- two walks of the mesh with common ends
pub record SpellsPair (mesh : FaceList) (first second bytes : List ℕ) : Type 0 where
  pub text : walks_of bytes ≡ Ok (first ∷ second ∷ [])
  pub are : AreWalkPair mesh first second

-- a certificate
abbrev pub SpellsCertificate : Certificate → List ℕ → Type 0
SpellsCertificate certificate bytes = certificate_of bytes ≡ Ok certificate

-- ---- what the words of a command name

-- The words are this keyword and the names of two files, which are told: the first stands for an orientable closed surface, and the bytes
-- of the second are such.
pub record IsInputOnSurface (keyword : List ℕ) (AreSuch : List ℕ → Type 0) (held : Option Files) (words : List (List ℕ)) (mesh : FaceList)
    : Type 0 where
  pub mesh_name : List ℕ
  pub walks_name : List ℕ
  pub words_are : words ≡ keyword ∷ mesh_name ∷ walks_name ∷ []
  pub mesh_file : Holds held mesh_name (SpellsMesh mesh)
  pub is_surface : IsOrientableSurface mesh
  pub walks_file : Holds held walks_name AreSuch

-- The words are this keyword and the names of three files, which are told: the first two stand for the mesh and for two walks of it with
-- common ends, and the bytes of the third are such.
pub record IsInputWith (keyword : List ℕ) (AreSuch : List ℕ → Type 0) (held : Option Files) (words : List (List ℕ)) (mesh : FaceList)
    (first second : List ℕ) : Type 0 where
  pub mesh_name : List ℕ
  pub walks_name : List ℕ
  pub certificate_name : List ℕ
  pub words_are : words ≡ keyword ∷ mesh_name ∷ walks_name ∷ certificate_name ∷ []
  pub mesh_file : Holds held mesh_name (SpellsMesh mesh)
  pub walks_file : Holds held walks_name (SpellsPair mesh first second)
  pub certificate_file : Holds held certificate_name AreSuch
