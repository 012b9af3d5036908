-- What is accepted of an array, and that nothing else is.
use Rattle.homology.proofs.Common.{AreChainNumbers, AreCocycleNumbers, IsChain, IsCocycle, Separates, AreNumbersWithin, IsChainVerdict, IsCocycleVerdict, MOST_NUMBER, HomologyVerdict, Face, Sum, Zero, Accepted, ◌≡◌, ℕ, List, refl, ap, arith, ℤ, ◌↔◌, FaceList}
use Rattle.homology.specs.ArrayVerdicts.{IsArrayChainVerdict, IsArrayCocycleVerdict}
use Rattle.homology.specs.declared.array_check.ArrayVerdict.{ArrayVerdict}
use Rattle.homology.specs.declared.array_check.ArrayVerdict.TheVariants.{Count, Large, Uneven, Judged}
use Rattle.homology.specs.declared.verdict.HomologyVerdict.TheVariants.{Edge}
use Rattle.homology.proofs.SideNumberLemmas.{length-side_numbers}

-- a chain has no other verdict
judged_chain : (mesh : FaceList) (of_face : ℕ → ℤ) (first second : List ℕ) (v : HomologyVerdict)
    → IsChainVerdict mesh of_face first second v → IsChain mesh of_face first second → v ≡ Accepted
judged_chain mesh of_face first second (Face f) h chain = absurd h
judged_chain mesh of_face first second (Edge low high) h chain = absurd (h.against (chain.balanced low.0 high.0 h.ordered h.edge))
judged_chain mesh of_face first second (Sum f) h chain = absurd h
judged_chain mesh of_face first second Zero h chain = absurd h
judged_chain mesh of_face first second Accepted h chain = refl

only_chain : (mesh : FaceList) (first second : List ℕ) (numbers : List ℤ) (v : ArrayVerdict)
    → IsArrayChainVerdict mesh first second numbers v → AreChainNumbers mesh first second numbers → AreNumbersWithin MOST_NUMBER numbers
    → v ≡ Judged Accepted
only_chain mesh first second numbers Count h are small = absurd (h are.each_face)
only_chain mesh first second numbers (Large place) h are small = absurd (omega (arith, h.1.large, small.each place))
only_chain mesh first second numbers Uneven h are small = absurd h
only_chain mesh first second numbers (Judged v) h are small = ap Judged (judged_chain mesh _ first second v h.2 are.chain)

pub chain_accepted : (mesh : FaceList) (first second : List ℕ) (numbers : List ℤ) (v : ArrayVerdict)
    → IsArrayChainVerdict mesh first second numbers v
    → (v ≡ Judged Accepted) ↔ (AreChainNumbers mesh first second numbers × AreNumbersWithin MOST_NUMBER numbers)
chain_accepted mesh first second numbers v h = grind (arith, only_chain)

-- and neither has a cocycle that separates
judged_cocycle : (mesh : FaceList) (of_edge : ℕ → ℕ → ℤ) (first second : List ℕ) (v : HomologyVerdict)
    → IsCocycleVerdict mesh of_edge first second v → IsCocycle mesh of_edge → Separates of_edge first second → v ≡ Accepted
judged_cocycle mesh of_edge first second (Face f) h is apart = absurd h
judged_cocycle mesh of_edge first second (Edge low high) h is apart = absurd h
judged_cocycle mesh of_edge first second (Sum f) h is apart = absurd (h.against (is.closed f.0 h.in_mesh))
judged_cocycle mesh of_edge first second Zero h is apart = absurd (apart h.1)
judged_cocycle mesh of_edge first second Accepted h is apart = refl

only_cocycle : (mesh : FaceList) (first second : List ℕ) (numbers : List ℤ) (v : ArrayVerdict)
    → IsArrayCocycleVerdict mesh first second numbers v → AreCocycleNumbers mesh first second numbers → AreNumbersWithin MOST_NUMBER numbers
    → v ≡ Judged Accepted
only_cocycle mesh first second numbers Count h are small = grind (arith, length-side_numbers)
only_cocycle mesh first second numbers (Large place) h are small = absurd (omega (arith, h.1.large, small.each place))
only_cocycle mesh first second numbers Uneven h are small = absurd (h.2 (are.of_edge, are.each_side))
only_cocycle mesh first second numbers (Judged v) h are small = grind (arith, judged_cocycle)

pub cocycle_accepted : (mesh : FaceList) (first second : List ℕ) (numbers : List ℤ) (v : ArrayVerdict)
    → IsArrayCocycleVerdict mesh first second numbers v
    → (v ≡ Judged Accepted) ↔ (AreCocycleNumbers mesh first second numbers × AreNumbersWithin MOST_NUMBER numbers)
cocycle_accepted mesh first second numbers v h = grind (arith, only_cocycle)
