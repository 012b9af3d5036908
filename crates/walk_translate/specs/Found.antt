-- What is found of lists of vertices: the word of a walk, and the answer on two.
use Rattle.std.specs.Prelude.{◌≡◌, ◌↔◌, ℕ, List, Option, MatchOption}
use Rattle.surf_model.specs.FaceLists.{FaceList}
use Rattle.surf_model.specs.Moves as moves
use Rattle.surf_model.specs.Walks.{IsWalk, AreWalkPair}
use Rattle.surf_model.specs.declared.decisions.Answer.{Answer}
use Rattle.surf_model.specs.declared.decisions.Answer.TheVariants.{Homotopic}
use Rattle.turn_words.specs.declared.word.Word.{Word}

-- nothing, where this is no walk of the mesh; else its word
abbrev pub IsWordFound : FaceList → (List ℕ → Word → Type 0) → List ℕ → Option Word → Type 0
IsWordFound mesh IsWord walk found = MatchOption found (IsWalk mesh walk → ⊥) (λ word. IsWalk mesh walk × IsWord walk word)

-- words decide: two walks with common ends are homotopic exactly where their words are one
abbrev pub DoDecide : FaceList → (List ℕ → Word → Type 0) → Type 0
DoDecide mesh IsWord =
    (first second : List ℕ) (one other : Word) → AreWalkPair mesh first second → IsWord first one → IsWord second other
    → moves.Homotopic mesh first second ↔ (one ≡ other)

-- Nothing, where these are no two walks of the mesh with common ends. Else an answer, which is `Homotopic` exactly where some list of moves
-- leads from the first walk to the second.
abbrev pub IsFoundOn : FaceList → (first second : List ℕ) → Option Answer → Type 0
IsFoundOn mesh first second found =
    MatchOption found (AreWalkPair mesh first second → ⊥)
    (λ answer. AreWalkPair mesh first second × ((answer ≡ Homotopic) ↔ moves.Homotopic mesh first second))
