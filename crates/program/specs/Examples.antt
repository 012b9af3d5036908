-- What the commands answer and refuse, as docs/FORMATS.md lists it. The lines of refusals that the commands share stand in
-- crates/commands/specs/Examples.antt, and the limits in proofs/LimitExamples.antt. Each is proved by computing.
use Rattle.std.specs.Prelude.{◌≡◌, ℕ, true, false, List, [], ◌∷◌, ◌++◌, codes, pos, negsuc, refl}
use Rattle.std.specs.Fmt.{digits}
use Rattle.surf_model.specs.Meshes.{tetrahedron}
use Rattle.surf_model.specs.declared.names.FaceName.{FaceName}
use Rattle.surf_model.specs.declared.names.VertexName.{VertexName}
use Rattle.walk_files.specs.declared.loops.LoopFault.TheVariants as loop_faults
use Rattle.walk_files.specs.declared.pairs.PairsFault.TheVariants as pair_faults
use Rattle.move_checker.specs.declared.fault.MoveFault.TheVariants as moves
use Rattle.move_checker.specs.declared.judge.Verdict.TheVariants as lists
use Rattle.labellings.specs.declared.fault.LabelFault.TheVariants as labels
use Rattle.labellings.specs.declared.verdict.DenialVerdict.TheVariants as denials
use Rattle.homology.specs.declared.verdict.HomologyVerdict.TheVariants as homologies
use Rattle.homology_files.specs.declared.fault.HomologyFault.TheVariants as homology_faults
use Rattle.free_forms.specs.declared.fault.OpenFault.TheVariants as open_faults
use Rattle.free_loops.specs.declared.deciding.FreeAnswer.TheVariants.{Freely, NotFreely}
use Rattle.surf_model.specs.declared.decisions.Answer.TheVariants.{Homotopic, Different}
use Rattle.commands.specs.Answers.{Answer, Exactly, NoText, Texts}
use Rattle.commands.specs.Certificates.{decision_lines, decisions_status}
use Rattle.commands.specs.Decisions.{decision_answer}
use Rattle.commands.specs.HomologyCertificates.{Homologous, NotHomologous, homology_line, homology_status}
use Rattle.commands.specs.Limits.{darts_line, sides_line}
use Rattle.surface_commands.specs.Surface.{numbers_text}
use Rattle.trial_commands.specs.Trial.{trial_text}
use Rattle.commands.specs.declared.status.Status.{Status}
use Rattle.commands.specs.declared.status.Status.TheVariants.{No, Yes}
use Rattle.surf_model.specs.declared.numbers.SurfaceNumbers.{SurfaceNumbers}
use Rattle.verify_homology_commands.specs.VerifyHomology as homology
use Rattle.loop_commands.specs.Loops.{free_answer, loops_line}
use Rattle.open_commands.specs.OpenInput.{open_line}
use Rattle.open_commands.specs.OpenPairs.{open_limit_word}
use Rattle.pair_commands.specs.PairInput.{pairs_line}
use Rattle.reduce_commands.specs.Reduce.{degree_line, range_line}
use Rattle.verify_commands.specs.Verify as verify

-- a text, and the end of its line
abbrev as_line : List ℕ → List ℕ
as_line text = text ++ 10 ∷ []

abbrev written : List ℕ → Texts
written text = Exactly (as_line text)

-- an answer of one line
abbrev answers : Status → List ℕ → Answer
answers status text = record { status = status; texts = written text }

abbrev named : ℕ → VertexName
named v = record { 0 = v }

abbrev face : ℕ → FaceName
face f = record { 0 = f }

-- ---- refusals of walks: pairs in version 2, the one pair of version 1, and closed walks

walk_refusals :
    (pairs_line 2 (pair_faults.EndsDiffer 3 true) ≡ written (codes "refused: pair 3 start"))
    × (pairs_line 2 (pair_faults.EndsDiffer 1 false) ≡ written (codes "refused: pair 1 end"))
    × (pairs_line 1 (pair_faults.EndsDiffer 1 true) ≡ written (codes "refused: walks start"))
    × (pairs_line 1 (pair_faults.EndsDiffer 1 false) ≡ written (codes "refused: walks end"))
    × (pairs_line 2 (pair_faults.NotPairs 5) ≡ written (codes "refused: walks count 5"))
    × (pairs_line 2 (pair_faults.NoVertex 4 1) ≡ written (codes "refused: walk 4 place 1 vertex"))
    × (pairs_line 1 (pair_faults.NoEdge 2 0) ≡ written (codes "refused: walk 2 place 0 edge"))
    × (loops_line (loop_faults.NotTwo 3) ≡ written (codes "refused: walks count 3"))
    × (loops_line (loop_faults.NoVertex 1 5) ≡ written (codes "refused: walk 1 place 5 vertex"))
    × (loops_line (loop_faults.NoEdge 2 0) ≡ written (codes "refused: walk 2 place 0 edge"))
    × (loops_line (loop_faults.NotClosed 1) ≡ written (codes "refused: walk 1 open"))
unfolding digits
walk_refusals = (refl, refl, refl, refl, refl, refl, refl, refl, refl, refl, refl)

-- ---- refusals of open surfaces, of turn words and of certificates of homology

open_refusals :
    (open_line open_faults.NoFace ≡ written (codes "refused: no face"))
    × (open_line (open_faults.EdgeSides (named 1) (named 2) 3) ≡ written (codes "refused: edge 1 2 sides 3"))
    × (open_line open_faults.NoBoundary ≡ written (codes "refused: no boundary"))
    × (open_line (open_faults.Pinched (named 4)) ≡ written (codes "refused: vertex 4 pinched"))
    × (open_line (open_faults.Apart (named 0) (named 5)) ≡ written (codes "refused: vertices 0 5 apart"))
    × (open_line open_faults.OutOfMemory ≡ NoText)
    × (sides_line open_limit_word tetrahedron ≡ as_line (codes "refused: open sides 12"))
    × (darts_line open_limit_word (0 ∷ 1 ∷ 2 ∷ []) (0 ∷ 2 ∷ []) ≡ as_line (codes "refused: open darts 3"))
unfolding digits
open_refusals = (refl, refl, refl, refl, refl, refl, refl, refl)

other_refusals :
    (degree_line 4 ≡ written (codes "refused: degree 4")) × (range_line 2 ≡ written (codes "refused: list line 2 range"))
    × (homology.fault_line homology_faults.NoHead ≡ written (codes "refused: certificate no head"))
    × (homology.fault_line (homology_faults.Bad 1) ≡ written (codes "refused: certificate line 1 bad"))
    × (homology.fault_line (homology_faults.Ended 3) ≡ written (codes "refused: certificate line 3 ended"))
    × (homology.fault_line (homology_faults.Extra 5) ≡ written (codes "refused: certificate line 5 extra"))
    × (homology.fault_line homology_faults.OutOfMemory ≡ NoText)
unfolding digits
other_refusals = (refl, refl, refl, refl, refl, refl, refl)

-- ---- decisions

decisions :
    (decision_answer Homotopic ≡ answers Yes (codes "homotopic")) × (decision_answer Different ≡ answers No (codes "different"))
    × (free_answer Freely ≡ answers Yes (codes "freely homotopic")) × (free_answer NotFreely ≡ answers No (codes "not freely homotopic"))
    × (homology_line Homologous ≡ as_line (codes "homologous")) × (homology_status Homologous ≡ Yes)
    × (homology_line NotHomologous ≡ as_line (codes "not homologous")) × (homology_status NotHomologous ≡ No)
    × (decision_lines (Homotopic ∷ Different ∷ []) ≡ as_line (codes "homotopic") ++ as_line (codes "different"))
    × (decisions_status (Homotopic ∷ Homotopic ∷ []) ≡ Yes) × (decisions_status (Homotopic ∷ Different ∷ []) ≡ No)
    × (decisions_status (Different ∷ Homotopic ∷ []) ≡ No)
decisions = (refl, refl, refl, refl, refl, refl, refl, refl, refl, refl, refl, refl)

-- ---- verdicts

verdicts_on_lists :
    (verify.verdict_answer lists.Accepted ≡ answers Yes (codes "accepted"))
    × (verify.verdict_answer lists.Peak ≡ answers No (codes "rejected: peak"))
    × (verify.verdict_answer (lists.AtMove 1 moves.Place) ≡ answers No (codes "rejected: move 1 place"))
    × (verify.verdict_answer (lists.AtMove 2 moves.NoEdge) ≡ answers No (codes "rejected: move 2 edge"))
    × (verify.verdict_answer (lists.AtMove 3 moves.NotSpur) ≡ answers No (codes "rejected: move 3 spur"))
    × (verify.verdict_answer (lists.AtMove 4 moves.NotOnFace) ≡ answers No (codes "rejected: move 4 face"))
    × (verify.verdict_answer (lists.AtMove 5 moves.OverPeak) ≡ answers No (codes "rejected: move 5 peak"))
    × (verify.verdict_answer lists.End ≡ answers No (codes "rejected: end"))
unfolding digits
verdicts_on_lists = (refl, refl, refl, refl, refl, refl, refl, refl)

verdicts_on_denials :
    (verify.denial_answer denials.Accepted ≡ answers Yes (codes "accepted"))
    × (verify.denial_answer (denials.Label labels.Shape) ≡ answers No (codes "rejected: shape"))
    × (verify.denial_answer (denials.Label (labels.Degree 3)) ≡ answers No (codes "rejected: degree 3"))
    × (verify.denial_answer (denials.Label (labels.PlaceTwice 0)) ≡ answers No (codes "rejected: place 0"))
    × (verify.denial_answer (denials.Label (labels.EdgeRule (named 0) (named 6))) ≡ answers No (codes "rejected: edge 0 6"))
    × (verify.denial_answer (denials.WordWrong 2) ≡ answers No (codes "rejected: word 2"))
    × (verify.denial_answer denials.Equal ≡ answers No (codes "rejected: equal"))
unfolding digits
verdicts_on_denials = (refl, refl, refl, refl, refl, refl, refl)

verdicts_on_homology :
    (homology.homology_verdict_answer homologies.Accepted ≡ answers Yes (codes "accepted"))
    × (homology.homology_verdict_answer (homologies.Face (face 4)) ≡ answers No (codes "rejected: face 4"))
    × (homology.homology_verdict_answer (homologies.Edge (named 0) (named 1)) ≡ answers No (codes "rejected: edge 0 1"))
    × (homology.homology_verdict_answer (homologies.Sum (face 7)) ≡ answers No (codes "rejected: face 7"))
    × (homology.homology_verdict_answer homologies.Zero ≡ answers No (codes "rejected: zero"))
unfolding digits
verdicts_on_homology = (refl, refl, refl, refl, refl)

-- ---- the numbers of a surface, and of a chain of tori

abbrev torus : SurfaceNumbers
torus = record { vertices = 25; edges = 50; faces = 25; euler = pos 0 }

numbers :
    (numbers_text torus (1 ∷ [])
    ≡ as_line (codes "V 25") ++ as_line (codes "E 50") ++ as_line (codes "F 25") ++ as_line (codes "chi 0") ++ as_line (codes "genus 1"))
    × (numbers_text (record { vertices = 10; edges = 30; faces = 18; euler = negsuc 1 }) (2 ∷ 0 ∷ [])
    ≡ as_line (codes "V 10") ++ as_line (codes "E 30") ++ as_line (codes "F 18") ++ as_line (codes "chi -2") ++ as_line (codes "genus 2")
    ++ as_line (codes "genus 0"))
    × (trial_text 1 5 torus (1 ∷ []) (record { commuting = Homotopic; cell = Homotopic; loops = Different })
    ≡ as_line (codes "trial 1 5") ++ as_line (codes "V 25") ++ as_line (codes "E 50") ++ as_line (codes "F 25") ++ as_line (codes "genus 1")
    ++ as_line (codes "commuting homotopic") ++ as_line (codes "cell homotopic") ++ as_line (codes "loops different"))
unfolding digits
numbers = (refl, refl, refl)
