-- What each end of a call is told as, by the numbers that homotopy.h lists. Each is proved by computing.
use Rattle.std.specs.Prelude.{◌≡◌, ℕ, true, false, refl, ℤ, Some, None}
use Rattle.std.specs.Global.{Vec}
use Rattle.surf_model.specs.declared.names.FaceName.{FaceName}
use Rattle.surf_model.specs.declared.names.VertexName.{VertexName}
use Rattle.homology.specs.declared.array.HomologyNumbers.TheVariants.{Chain, Cocycle}
use Rattle.homology.specs.declared.array_check.ArrayVerdict.TheVariants as numbers
use Rattle.homology.specs.declared.verdict.HomologyVerdict.TheVariants as shown
use Rattle.labellings.specs.declared.fault.LabelFault.TheVariants as labels
use Rattle.labellings.specs.declared.verdict.DenialVerdict.TheVariants as denials
use Rattle.move_checker.specs.declared.fault.MoveFault.TheVariants as moves
use Rattle.move_checker.specs.declared.judge.Verdict.TheVariants as lists
use Rattle.walk_files.specs.declared.fault.CertFault.TheVariants as texts
use Rattle.walk_files.specs.declared.loops.LoopFault.TheVariants as loops
use Rattle.walk_files.specs.declared.pair.PairFault.TheVariants.{NoVertex, NoEdge, EndsDiffer}
use Rattle.commands.specs.declared.limits.OverLimit.TheVariants.{Sides, Darts}
use Rattle.homotopy_arrays.specs.declared.certify.CertifyFault.TheVariants.{Over}
use Rattle.homotopy_arrays.specs.declared.classes.NoClasses.TheVariants as none
use Rattle.homotopy_arrays.specs.declared.decide.PairAnswer.TheVariants.{Homotopic, Different, Faulty}
use Rattle.homotopy_arrays.specs.declared.fault.Fault.TheVariants as faults
use Rattle.homotopy_arrays.specs.declared.homologies.HomologyFault.TheVariants as homologies
use Rattle.homotopy_arrays.specs.declared.loops.LoopAnswer.TheVariants as free
use Rattle.homotopy_arrays.specs.declared.pair.WalkFault.TheVariants.{Empty, Long, Pair, Loops}
use Rattle.homotopy_arrays.specs.declared.verify.VerifyFault.TheVariants as unjudged
use Rattle.homotopy_arrays.specs.declared.verify_homology.HomologyClaim.TheVariants as claims
use Rattle.homotopy_arrays.specs.declared.verify_homology.VerifyHomologyFault.TheVariants as unshown
use Rattle.homotopy_c.specs.Certified.{told_certify}
use Rattle.homotopy_c.specs.Homologous.{answer_code, told_homology}
use Rattle.homotopy_c.specs.Judged.{judged_moves, judged_labels, judged_denial, told_certificate, told_verify}
use Rattle.homotopy_c.specs.NumbersJudged.{claim_of, judged_numbers, told_verify_homology}
use Rattle.homotopy_c.specs.Outcomes.{byte_of, coded, done, loop_byte, no_mesh, short_room, told_fault, told_no_classes, told_walks}

abbrev named : ℕ → VertexName
named v = record { 0 = v }

abbrev face : ℕ → FaceName
face f = record { 0 = f }

-- ---- arrays, and the meshes that they are

arrays :
    (done ≡ coded 0 0 0 0) × (short_room 9 ≡ coded 4 9 0 0) × (told_fault faults.OutOfMemory ≡ coded 5 0 0 0)
    × (no_mesh ≡ coded 6 0 0 0) × (told_fault faults.ManyVertices ≡ coded 10 0 0 0) × (told_fault faults.CornerCount ≡ coded 11 0 0 0)
    × (told_fault faults.ManySides ≡ coded 12 0 0 0)
    × (told_fault (faults.FewCorners (face 3)) ≡ coded 13 3 0 0) × (told_fault (faults.NoVertex (face 3)) ≡ coded 14 3 0 0)
    × (told_fault (faults.EqualNeighbours (face 3)) ≡ coded 15 3 0 0)
arrays = (refl, refl, refl, refl, refl, refl, refl, refl, refl, refl)

meshes :
    (told_fault faults.NoFace ≡ coded 20 0 0 0) × (told_fault (faults.EdgeSides (named 1) (named 2) 3) ≡ coded 21 1 2 3)
    × (told_fault (faults.Pinched (named 4)) ≡ coded 22 4 0 0) × (told_fault faults.NotOrientable ≡ coded 23 0 0 0)
    × (told_fault faults.DoubleVertices ≡ coded 24 0 0 0) × (told_fault faults.DoubleSides ≡ coded 25 0 0 0)
    × (told_fault faults.CoverVertices ≡ coded 26 0 0 0) × (told_fault faults.CoverSides ≡ coded 27 0 0 0)
meshes = (refl, refl, refl, refl, refl, refl, refl, refl)

-- ---- walks

walks :
    (told_fault faults.WalkCount ≡ coded 30 0 0 0) × (told_walks (Empty 2) ≡ coded 31 2 0 0) × (told_walks (Long 1) ≡ coded 32 1 0 0)
    × (told_walks (Pair (NoVertex 1 5)) ≡ coded 33 1 5 0) × (told_walks (Pair (NoEdge 2 0)) ≡ coded 34 2 0 0)
    × (told_walks (Pair (EndsDiffer true)) ≡ coded 35 0 0 0) × (told_walks (Pair (EndsDiffer false)) ≡ coded 36 0 0 0)
walks = (refl, refl, refl, refl, refl, refl, refl)

classes :
    (told_no_classes none.Count ≡ coded 30 0 0 0) × (told_no_classes (none.Walk 6 (Empty 1)) ≡ coded 31 7 0 0)
    × (told_no_classes (none.Walk 6 (Long 1)) ≡ coded 32 7 0 0) × (told_no_classes (none.Walk 6 (Pair (NoVertex 1 5))) ≡ coded 33 7 5 0)
    × (told_no_classes (none.Walk 6 (Pair (NoEdge 1 0))) ≡ coded 34 7 0 0) × (told_no_classes none.OutOfMemory ≡ coded 5 0 0 0)
classes = (refl, refl, refl, refl, refl, refl)

bytes :
    (byte_of Homotopic ≡ 1) × (byte_of Different ≡ 2) × (byte_of (Faulty (Empty 2)) ≡ 31) × (byte_of (Faulty (Long 1)) ≡ 32)
    × (byte_of (Faulty (Pair (NoVertex 1 5))) ≡ 33) × (byte_of (Faulty (Pair (NoEdge 2 0))) ≡ 34)
    × (byte_of (Faulty (Pair (EndsDiffer true))) ≡ 35) × (byte_of (Faulty (Pair (EndsDiffer false))) ≡ 36)
bytes = (refl, refl, refl, refl, refl, refl, refl, refl)

loop_bytes :
    (loop_byte free.Freely ≡ 7) × (loop_byte free.NotFreely ≡ 8) × (loop_byte (free.Faulty (Empty 2)) ≡ 31)
    × (loop_byte (free.Faulty (Loops (loops.NoVertex 1 5))) ≡ 33) × (loop_byte (free.Faulty (Loops (loops.NoEdge 2 0))) ≡ 34)
    × (loop_byte (free.Faulty (Loops (loops.NotClosed 2))) ≡ 37)
loop_bytes = (refl, refl, refl, refl, refl, refl)

-- ---- certificates

certificates :
    (told_verify unjudged.Long ≡ coded 40 0 0 0) × (told_certificate texts.NoHead ≡ coded 41 0 0 0)
    × (told_certificate (texts.Bad 2) ≡ coded 42 2 0 0) × (told_certificate (texts.Ended 3) ≡ coded 43 3 0 0)
    × (told_certificate (texts.Extra 4) ≡ coded 44 4 0 0) × (told_certificate (texts.Peak 1) ≡ coded 45 1 0 0)
    × (told_certificate texts.OutOfMemory ≡ coded 5 0 0 0)
certificates = (refl, refl, refl, refl, refl, refl, refl)

verdicts_on_lists :
    (judged_moves lists.Accepted ≡ coded 3 0 0 0) × (judged_moves lists.Peak ≡ coded 50 0 0 0)
    × (judged_moves (lists.AtMove 1 moves.Place) ≡ coded 51 1 0 0) × (judged_moves (lists.AtMove 2 moves.NoEdge) ≡ coded 52 2 0 0)
    × (judged_moves (lists.AtMove 3 moves.NotSpur) ≡ coded 53 3 0 0) × (judged_moves (lists.AtMove 4 moves.NotOnFace) ≡ coded 54 4 0 0)
    × (judged_moves (lists.AtMove 5 moves.OverPeak) ≡ coded 55 5 0 0) × (judged_moves lists.End ≡ coded 56 0 0 0)
verdicts_on_lists = (refl, refl, refl, refl, refl, refl, refl, refl)

verdicts_on_denials :
    (judged_denial denials.Accepted ≡ coded 3 0 0 0) × (judged_denial (denials.Label labels.Shape) ≡ coded 57 0 0 0)
    × (judged_denial (denials.Label (labels.Degree 3)) ≡ coded 58 3 0 0)
    × (judged_denial (denials.Label (labels.PlaceTwice 1)) ≡ coded 59 1 0 0)
    × (judged_denial (denials.Label (labels.EdgeRule (named 0) (named 6))) ≡ coded 60 0 6 0)
    × (judged_labels labels.OutOfMemory ≡ coded 5 0 0 0) × (judged_denial (denials.WordWrong 2) ≡ coded 61 2 0 0)
    × (judged_denial denials.Equal ≡ coded 62 0 0 0)
verdicts_on_denials = (refl, refl, refl, refl, refl, refl, refl, refl)

limits : (told_certify (Over (Sides 16388)) ≡ coded 70 16388 0 0) × (told_certify (Over (Darts 513)) ≡ coded 71 513 0 0)
limits = (refl, refl)

-- ---- homology

homology :
    (numbers : Vec ℤ) → (answer_code (Chain numbers) ≡ 9) × (answer_code (Cocycle numbers) ≡ 16)
    × (told_homology (homologies.Darts 2147483648) ≡ coded 72 2147483648 0 0)
homology numbers = (refl, refl, refl)

claims_of : (claim_of 9 ≡ Some claims.Homologous) × (claim_of 16 ≡ Some claims.NotHomologous) × (claim_of 1 ≡ None)
claims_of = (refl, refl, refl)

verdicts_on_numbers :
    (judged_numbers (numbers.Judged shown.Accepted) ≡ coded 3 0 0 0) × (judged_numbers numbers.Count ≡ coded 63 0 0 0)
    × (judged_numbers (numbers.Large 5) ≡ coded 64 5 0 0) × (judged_numbers numbers.Uneven ≡ coded 65 0 0 0)
    × (judged_numbers (numbers.Judged (shown.Edge (named 1) (named 2))) ≡ coded 66 1 2 0)
    × (judged_numbers (numbers.Judged (shown.Sum (face 3))) ≡ coded 67 3 0 0)
    × (judged_numbers (numbers.Judged shown.Zero) ≡ coded 68 0 0 0)
    × (told_verify_homology (unshown.Mesh faults.CornerCount) ≡ coded 11 0 0 0)
    × (told_verify_homology (unshown.Walks (Empty 2)) ≡ coded 31 2 0 0)
verdicts_on_numbers = (refl, refl, refl, refl, refl, refl, refl, refl, refl)
