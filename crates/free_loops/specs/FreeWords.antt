-- Free words of closed walks.
use Rattle.std.specs.Prelude.{◌≡◌, ◌↔◌, ℕ, ◌≤◌, List, [], Option, MatchOption}
use Rattle.surf_model.specs.FaceLists.{FaceList}
use Rattle.closed_walks.specs.FreeHomotopy.{IsClosedWalk, FreelyHomotopic}
use Rattle.labellings.specs.Labellings.{LabellingView}
use Rattle.labellings.specs.WalkWords.{IsWordOf}
use Rattle.spoke_rings.specs.Rotations.{IsLeastRotation}
use Rattle.turn_words.specs.declared.word.Word.TheVariants.{Flat}
use Rattle.free_loops.specs.CyclicForms.{IsCyclicFormOf}
use Rattle.free_loops.specs.declared.word.FreeWord.{FreeWord}
use Rattle.free_loops.specs.declared.word.FreeWord.TheVariants.{Ring, Point}

-- the least rotation of some cyclic form of a closed walk
pub record IsLeastForm (mesh : FaceList) (labelling : LabellingView) (walk spokes : List ℕ) : Type 0 where
  pub form : List ℕ
  pub is_form : IsCyclicFormOf mesh labelling walk form
  pub least : IsLeastRotation form spokes

-- The free word of a closed walk. With five spokes at least it is the least rotation of a cyclic form, whichever form this is; with four
-- it is the sum of the walk in the plane.
abbrev pub IsFreeWordOf : FaceList → LabellingView → List ℕ → FreeWord → Type 0
IsFreeWordOf mesh labelling walk (Ring spokes) = (5 ≤ labelling.degree) × IsLeastForm mesh labelling walk spokes
IsFreeWordOf mesh labelling walk (Point x y) = IsWordOf mesh labelling walk (Flat x y)

-- the same where a sphere has no labels; there it has no spokes
abbrev pub IsFreeWordUnder : FaceList → Option LabellingView → List ℕ → FreeWord → Type 0
IsFreeWordUnder mesh labels walk word = MatchOption labels (word ≡ Ring []) (λ labelling. IsFreeWordOf mesh labelling walk word)

-- free words decide: two closed walks are freely homotopic exactly where their free words are one
abbrev pub DoDecideFree : {Word : Type 0} → FaceList → (List ℕ → Word → Type 0) → Type 0
DoDecideFree {Word} mesh IsWord =
    (first second : List ℕ) (one other : Word) → IsClosedWalk mesh first → IsClosedWalk mesh second → IsWord first one
    → IsWord second other → FreelyHomotopic mesh first second ↔ (one ≡ other)
