-- `loops` in the words of the mesh.
use Rattle.loop_commands.proofs.Common.{AnswersTo, Status, loops, loops_in, IsLoopsAnswered, IsLoopsInput, SpellsLoops, ◌≡◌, ℕ, List, [], ◌∷◌, codes, Option, Files, FaceList, outcome_behind}
use Rattle.loop_commands.proofs.LoopAnswers.{IsRightAnswer, right_answer, after_pair}
use Rattle.loop_commands.proofs.LoopChecks.{sound-loops_in, loops_in_told, spelled_loops}

-- what `loops` is for, where the words are answered by its check
pub loops_so : (files : Option Files) (words : List (List ℕ)) (status : Status) (text : List ℕ)
    → ((mesh walks : List ℕ) → words ≡ codes "loops" ∷ mesh ∷ walks ∷ [] → AnswersTo files (loops files mesh walks) status text)
    → IsLoopsAnswered files words status text
loops_so files words status text answered =
    record {
      answered = λ mesh first second input. (right mesh first second input).answered;
      exactly = λ mesh first second input. (right mesh first second input).exactly;
    }
  where
    right : (mesh : FaceList) (first second : List ℕ) → IsLoopsInput files words mesh first second
        → IsRightAnswer mesh first second status text
    right mesh first second input =
        let a = outcome_behind (codes "loops") (SpellsLoops mesh first second) files words mesh status text (loops_in files) after_pair
        (first ∷ second ∷ []) answered input (sound-loops_in files input.walks_name mesh) (loops_in_told files input.walks_name mesh)
        (spelled_loops files input.walks_name mesh first second input.walks_file) in
        right_answer mesh first second a.outcome status text a.is_outcome a.is_answer
