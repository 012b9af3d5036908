-- The check of an open surface and two walks of it, which both commands make before they answer.
use Rattle.std.specs.Prelude.{◌≡◌, ℕ, List, [], ◌∷◌, codes, Option}
use Rattle.surf_io.specs.Files.{Files}
use Rattle.surf_model.specs.FaceLists.{FaceList}
use Rattle.surf_model.specs.Surfaces.{IsOrientable}
use Rattle.surf_model.specs.Walks.{darts, walk_at}
use Rattle.walk_files.specs.Pairs.{IsPair}
use Rattle.free_forms.specs.OpenSurfaces.{IsOpenSurface}
use Rattle.free_forms.specs.declared.limits.TheConstants.{MOST_OPEN_SIDES, MOST_OPEN_DARTS}
use Rattle.commands.specs.Answers.{Exactly}
use Rattle.commands.specs.Checks.{Check, Holds, pass_unless, ◌>>=◌}
use Rattle.commands.specs.Inputs.{pair_in, SpellsMesh, SpellsPair}
use Rattle.commands.specs.Limits.{FitsLimits, IsRefusedBeyond, limit_line}
use Rattle.commands.specs.declared.status.Status.{Status}
use Rattle.commands.specs.declared.limits.Limits.{Limits}
use Rattle.open_commands.specs.OpenInput.{open_surface_in}
use Rattle.open_commands.specs.declared.open_pair.OpenPair.{OpenPair}

-- The words are those of the command with this keyword, and the two files that they name are told and stand for an orientable open surface
-- and two walks of it with common ends.
pub record IsOpenInput (keyword : List ℕ) (held : Option Files) (words : List (List ℕ)) (mesh : FaceList) (first second : List ℕ)
    : Type 0 where
  pub mesh_name : List ℕ
  pub walks_name : List ℕ
  pub words_are : words ≡ keyword ∷ mesh_name ∷ walks_name ∷ []
  pub mesh_file : Holds held mesh_name (SpellsMesh mesh)
  pub is_open : IsOpenSurface mesh
  pub is_orientable : IsOrientable mesh
  pub walks_file : Holds held walks_name (SpellsPair mesh first second)

-- the limits: those of the lists that are made, and the word of a refusal
abbrev pub open_limits : Limits
open_limits = record { sides = MOST_OPEN_SIDES; darts = MOST_OPEN_DARTS }

abbrev pub open_limit_word : List ℕ
open_limit_word = codes "open"

-- the surface and the walks are not too large
abbrev pub IsWithinOpenLimits : FaceList → (first second : List ℕ) → Type 0
IsWithinOpenLimits mesh first second = FitsLimits open_limits mesh first second

-- what is answered of such an input beyond the limits: it is refused for the sides, and then for the darts
abbrev pub IsRefusedLarge : (keyword : List ℕ) → Option Files → (words : List (List ℕ)) → Status → List ℕ → Type 0
IsRefusedLarge keyword held words status text = IsRefusedBeyond open_limits open_limit_word (IsOpenInput keyword held words) status text

-- ---- what is looked at, in order

-- the refusal of a surface or of walks that are too large
abbrev pub open_limit_fault : FaceList → (first second : List ℕ) → Option (List ℕ)
open_limit_fault mesh first second = limit_line open_limits open_limit_word mesh first second

-- an open surface and two walks of it
pub record Question : Type 0 where
  pub mesh : FaceList
  pub first : List ℕ
  pub second : List ℕ

-- what two walks of a list ask of a mesh
abbrev pub question : FaceList → List (List ℕ) → Question
question mesh walks = record { mesh = mesh; first = walk_at walks 0; second = walk_at walks 1 }

-- the surface first, then the walks, and then the limits
abbrev pub open_pair_in : Option Files → (mesh walks : List ℕ) → Check Question
open_pair_in held mesh walks = do
  surface ← open_surface_in held mesh
  pair ← pair_in held walks surface
  pass_unless (λ line. Exactly line) (open_limit_fault surface (walk_at pair 0) (walk_at pair 1)) (question surface pair)

-- what a pair that was read asks
abbrev pub asked : OpenPair → Question
asked pair = question pair.surface.mesh pair.walks.walks

-- the walks are two walks of the surface with common ends, and all is within the limits
pub record IsOpenPair (pair : OpenPair) : Type 0 where
  pub walks : IsPair pair.surface.mesh pair.walks.walks
  pub within : IsWithinOpenLimits pair.surface.mesh (walk_at pair.walks.walks 0) (walk_at pair.walks.walks 1)
