-- `homology` in the words of the mesh, and `verify-homology` of what it prints.
use Rattle.homology_commands.proofs.Common.{AnswersTo, Status, homology, IsHomologyAnswered, IsHomologyInput, ◌≡◌, ℕ, List, [], ◌∷◌, codes, Option, Files, FaceList, outcome_of_pair}
use Rattle.homology_commands.proofs.HomologyAnswers.{IsRightAnswer, right_answer, after_pair}

-- what `homology` is for, where the words are answered by its check
pub homology_so : (files : Option Files) (words : List (List ℕ)) (status : Status) (text : List ℕ)
    → ((mesh walks : List ℕ) → words ≡ codes "homology" ∷ mesh ∷ walks ∷ [] → AnswersTo files (homology files mesh walks) status text)
    → IsHomologyAnswered files words status text
homology_so files words status text answered =
    record {
      answered = λ mesh first second input. (right mesh first second input).printed;
      exactly = λ mesh first second input. (right mesh first second input).exactly;
    }
  where
    right : (mesh : FaceList) (first second : List ℕ) → IsHomologyInput files words mesh first second
        → IsRightAnswer mesh first second status text
    right mesh first second input =
        let a = outcome_of_pair (codes "homology") files words mesh first second status text after_pair answered input in
        right_answer mesh first second a.outcome status text a.is_outcome a.is_answer
