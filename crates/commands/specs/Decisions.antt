-- The decision on two walks, and the answer that it is.
use Rattle.std.specs.Prelude.{ℕ, List}
use Rattle.surf_model.specs.FaceLists.{FaceList}
use Rattle.surf_model.specs.Moves as moves
use Rattle.surf_model.specs.declared.decisions.Answer as deciding
use Rattle.surf_model.specs.declared.decisions.Answer.TheVariants.{Homotopic}
use Rattle.commands.specs.Answers.{Answer, Exactly}
use Rattle.commands.specs.Certificates.{decision_status, decision_line}
use Rattle.commands.specs.Checks.{Check, decided_by}

-- the answer that a decision is
abbrev pub decision_answer : deciding.Answer → Answer
decision_answer decision = record { status = decision_status decision; texts = Exactly (decision_line decision) }

-- the decision on two walks of a mesh
abbrev pub decided : FaceList → List ℕ → List ℕ → Check Answer
decided mesh first second = decided_by Homotopic decision_answer (moves.Homotopic mesh first second)
