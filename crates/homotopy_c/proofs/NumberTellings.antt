-- What is told of numbers that are judged, and what it means.
use Rattle.homotopy_c.proofs.Common.{AreSmall, HomologyNumbers, Chain, Cocycle, AreShown, AreWalks, IsSurfaceFault, Fault, IsHomologyCall, answer_code, homology_numbers_of, IsAcceptedChain, IsAcceptedCocycle, Outcome, ◌≡◌, ◌≢◌, ◌⊎◌, inl, inr, ℕ, ◌<◌, List, length, get_or, take, refl, sym, ap, ◌∙◌, subst, arith, false, take-append_seam, ne_eqb, Option, Some, None, Result, Ok, Err, MatchResult, ℤ, ◌==◌, FaceList, IsOrientableSurface}
use Rattle.homology.proofs.PairingLemmas.{refuted}
use Rattle.homology.specs.Chains.{AreHomologous}
use Rattle.homology.specs.Tallies.{number_at}
use Rattle.homology.specs.declared.array_check.ArrayVerdict.{ArrayVerdict}
use Rattle.homology.specs.declared.array_check.ArrayVerdict.TheVariants.{Count, Large, Uneven, Judged}
use Rattle.homology.specs.declared.verdict.HomologyVerdict.TheVariants.{Face, Edge, Sum, Zero, Accepted}
use Rattle.homotopy_arrays.specs.HomologyJudgements.{IsArrayVerdict, IsVerifyHomologyFault, IsVerifyHomologyFaultOn, JudgesNumbers, JudgesNumbersOn, no_memory}
use Rattle.homotopy_arrays.specs.declared.verify_homology.HomologyClaim.{HomologyClaim}
use Rattle.homotopy_arrays.specs.declared.verify_homology.HomologyClaim.TheVariants.{Homologous, NotHomologous}
use Rattle.homotopy_arrays.specs.declared.verify_homology.VerifyHomologyFault.{VerifyHomologyFault}
use Rattle.homotopy_arrays.specs.declared.verify_homology.VerifyHomologyFault.TheVariants.{Mesh, Walks}
use Rattle.homotopy_c.specs.NumbersJudged.{AreJudged, IsVerifyHomologyCall, claim_of, ended, judged_numbers, told_verify_homology}
use Rattle.std.proofs.Common.{drop}
use Rattle.homology.proofs.ArrayVerdictLemmas as arrays
use Rattle.homotopy_c.specs.declared.codes.TheConstants as codes
use Rattle.homotopy_c.proofs.CodeLemmas.{fault_code, walks_code}
use Rattle.homotopy_c.proofs.HomologyTellings.{AreWritten, call_written, clash, is_answer}
use Rattle.homotopy_c.proofs.TellingLemmas.{of_one}

-- ---- the code of acceptance

-- no fault has it
fault_else : (fault : VerifyHomologyFault) → codes.ACCEPTED < (told_verify_homology fault).code
fault_else (Mesh fault) = fault_code fault
fault_else (Walks fault) = walks_code fault

-- and no other verdict
verdict_accepted : (verdict : ArrayVerdict) → (judged_numbers verdict).code ≡ codes.ACCEPTED → verdict ≡ Judged Accepted
verdict_accepted Count e = absurd (omega (arith, e))
verdict_accepted (Large place) e = absurd (omega (arith, e))
verdict_accepted Uneven e = absurd (omega (arith, e))
verdict_accepted (Judged (Face f)) e = absurd (omega (arith, e))
verdict_accepted (Judged (Edge low high)) e = absurd (omega (arith, e))
verdict_accepted (Judged (Sum f)) e = absurd (omega (arith, e))
verdict_accepted (Judged Zero) e = absurd (omega (arith, e))
verdict_accepted (Judged Accepted) e = refl

-- ---- what is told

-- numbers that are told to be accepted have that verdict
accepted : (mesh : FaceList) (first second : List ℕ) (claim : HomologyClaim) (numbers : List ℤ) (outcome : Outcome)
    → AreJudged (Ok mesh) first second claim numbers outcome → outcome.code ≡ codes.ACCEPTED
    → AreWalks mesh first second × IsArrayVerdict mesh first second claim numbers (Judged Accepted)
accepted mesh first second claim numbers outcome h e = by_end h.end h.right (sym (ap (λ (o : Outcome). o.code) h.tells) ∙ e)
  where
    by_end : (end : Result ArrayVerdict VerifyHomologyFault)
        → MatchResult end (JudgesNumbers (Ok mesh) first second claim numbers) (IsVerifyHomologyFault (Ok mesh) first second)
        → (ended end).code ≡ codes.ACCEPTED
        → AreWalks mesh first second × IsArrayVerdict mesh first second claim numbers (Judged Accepted)
    by_end (Ok verdict) right code =
        let there = of_one mesh (λ m. JudgesNumbersOn m first second claim numbers verdict) right in
        (there.0, subst (IsArrayVerdict mesh first second claim numbers) (verdict_accepted verdict code) there.1)
    by_end (Err fault) right code = absurd (omega (arith, code, fault_else fault))

-- memory is the one thing that may be wanting where the walks are in order
only_memory : (mesh : FaceList) (first second : List ℕ) (fault : VerifyHomologyFault) → AreWalks mesh first second
    → IsVerifyHomologyFault (Ok mesh) first second fault → fault ≡ no_memory
only_memory mesh first second fault walks (inl none) = none
only_memory mesh first second fault walks (inr (inl no_mesh)) = (let wrong = no_mesh.1 in cc)
only_memory mesh first second fault walks (inr (inr on_mesh)) =
    of_walks (of_one mesh (λ m. IsVerifyHomologyFaultOn m first second fault) on_mesh)
  where
    of_walks : IsVerifyHomologyFaultOn mesh first second fault → fault ≡ no_memory
    of_walks (inl none) = none
    of_walks (inr wrong) = absurd (wrong.2 walks)

-- numbers that have no other verdict are told to be accepted
told_accepted : (mesh : FaceList) (first second : List ℕ) (claim : HomologyClaim) (numbers : List ℤ) (outcome : Outcome)
    → AreJudged (Ok mesh) first second claim numbers outcome → AreWalks mesh first second
    → ((verdict : ArrayVerdict) → IsArrayVerdict mesh first second claim numbers verdict → verdict ≡ Judged Accepted)
    → (outcome.code ≡ codes.ACCEPTED) ⊎ (outcome.code ≡ codes.NO_MEMORY)
told_accepted mesh first second claim numbers outcome h walks only = by_end h.end h.right (ap (λ (o : Outcome). o.code) h.tells)
  where
    by_end : (end : Result ArrayVerdict VerifyHomologyFault)
        → MatchResult end (JudgesNumbers (Ok mesh) first second claim numbers) (IsVerifyHomologyFault (Ok mesh) first second)
        → outcome.code ≡ (ended end).code → (outcome.code ≡ codes.ACCEPTED) ⊎ (outcome.code ≡ codes.NO_MEMORY)
    by_end (Ok verdict) right code =
        let there = of_one mesh (λ m. JudgesNumbersOn m first second claim numbers verdict) right in
        inl (code ∙ ap (λ (v : ArrayVerdict). (judged_numbers v).code) (only verdict there.1))
    by_end (Err fault) right code =
        inr (code ∙ ap (λ (f : VerifyHomologyFault). (told_verify_homology f).code) (only_memory mesh first second fault walks right))

-- ---- chains and cocycles

pub chain_holds : (mesh : FaceList) (first second : List ℕ) (numbers : List ℤ) (outcome : Outcome)
    → IsVerifyHomologyCall (Ok mesh) first second codes.HOMOLOGOUS numbers outcome → outcome.code ≡ codes.ACCEPTED
    → IsAcceptedChain mesh first second numbers × AreHomologous mesh first second
chain_holds mesh first second numbers outcome h e =
    let there = accepted mesh first second Homologous numbers outcome (h.known Homologous refl) e in
    let holds = (arrays.chain_accepted mesh first second numbers (Judged Accepted) there.1).0 refl in
    (record { walks = there.0; chain = holds.0; small = holds.1 }, (number_at numbers, holds.0.chain))

pub cocycle_holds : (mesh : FaceList) (first second : List ℕ) (numbers : List ℤ) (outcome : Outcome)
    → IsVerifyHomologyCall (Ok mesh) first second codes.NOT_HOMOLOGOUS numbers outcome → outcome.code ≡ codes.ACCEPTED
    → IsAcceptedCocycle mesh first second numbers × (AreHomologous mesh first second → ⊥)
cocycle_holds mesh first second numbers outcome h e =
    let there = accepted mesh first second NotHomologous numbers outcome (h.known NotHomologous refl) e in
    let holds = (arrays.cocycle_accepted mesh first second numbers (Judged Accepted) there.1).0 refl in
    let are = holds.0 in (
      record { walks = there.0; cocycle = are; small = holds.1 },
      λ h. refuted mesh are.of_edge first second there.0.first_walk there.0.second_walk are.cocycle are.separates h.0 h.1,
    )

pub chain_told : (mesh : FaceList) (first second : List ℕ) (numbers : List ℤ) (outcome : Outcome)
    → IsVerifyHomologyCall (Ok mesh) first second codes.HOMOLOGOUS numbers outcome → IsAcceptedChain mesh first second numbers
    → (outcome.code ≡ codes.ACCEPTED) ⊎ (outcome.code ≡ codes.NO_MEMORY)
chain_told mesh first second numbers outcome h are =
    told_accepted mesh first second Homologous numbers outcome (h.known Homologous refl) are.walks
    (λ verdict is. (arrays.chain_accepted mesh first second numbers verdict is).1 (are.chain, are.small))

pub cocycle_told : (mesh : FaceList) (first second : List ℕ) (numbers : List ℤ) (outcome : Outcome)
    → IsVerifyHomologyCall (Ok mesh) first second codes.NOT_HOMOLOGOUS numbers outcome → IsAcceptedCocycle mesh first second numbers
    → (outcome.code ≡ codes.ACCEPTED) ⊎ (outcome.code ≡ codes.NO_MEMORY)
cocycle_told mesh first second numbers outcome h are =
    told_accepted mesh first second NotHomologous numbers outcome (h.known NotHomologous refl) are.walks
    (λ verdict is. (arrays.cocycle_accepted mesh first second numbers verdict is).1 (are.cocycle, are.small))

-- another answer is told
pub unknown_told : (read : Result FaceList Fault) (first second : List ℕ) (answer : ℕ) (numbers : List ℤ) (outcome : Outcome)
    → IsVerifyHomologyCall read first second answer numbers outcome → answer ≢ codes.HOMOLOGOUS → answer ≢ codes.NOT_HOMOLOGOUS
    → outcome.code ≡ codes.UNKNOWN_ANSWER
unknown_told read first second answer numbers outcome h one other =
    let first_test : (answer == codes.HOMOLOGOUS) ≡ false = ne_eqb answer codes.HOMOLOGOUS one in
    let second_test : (answer == codes.NOT_HOMOLOGOUS) ≡ false = ne_eqb answer codes.NOT_HOMOLOGOUS other in
    let none : claim_of answer ≡ None = rw (first_test, second_test) refl in
    ap (λ (o : Outcome). o.code) (h.unknown none)

-- ---- what is written is accepted

pub written_told : (mesh : FaceList) (first second : List ℕ) (old numbers : List ℤ) (written judged : Outcome)
    → IsHomologyCall (Ok mesh) first second old numbers written
    → (written.code ≡ codes.HOMOLOGOUS) ⊎ (written.code ≡ codes.NOT_HOMOLOGOUS)
    → IsVerifyHomologyCall (Ok mesh) first second written.code (take (get_or written.numbers 0 0) numbers) judged
    → (judged.code ≡ codes.ACCEPTED) ⊎ (judged.code ≡ codes.NO_MEMORY)
written_told mesh first second old numbers written judged h answered call =
    elim (call_written IsOrientableSurface IsSurfaceFault AreSmall mesh first second old numbers written h) [
      | inl w ↦ by_shown w.shown w.are
          (subst (λ (c : ℕ). Call c (homology_numbers_of w.shown)) w.code (subst (Call written.code) (stood w) call))
      | inr none ↦ absurd (elim answered [
        | inl e ↦ clash (is_answer written.code) (ap is_answer e) none.code
        | inr e ↦ clash (is_answer written.code) (ap is_answer e) none.code
      ])
    ]
  where
    Call : ℕ → List ℤ → Type 0
    Call answer shown = IsVerifyHomologyCall (Ok mesh) first second answer shown judged

    stood : (w : AreWritten IsOrientableSurface IsSurfaceFault AreSmall mesh first second old numbers written)
        → take (get_or written.numbers 0 0) numbers ≡ homology_numbers_of w.shown
    stood w =
        let shown : List ℤ = homology_numbers_of w.shown in
        ap (λ (n : ℕ). take n numbers) w.stand.counted ∙ ap (take (length shown)) w.stand.stand
        ∙ take-append_seam shown (drop (length shown) old)

    by_shown : (shown : HomologyNumbers) → AreShown mesh first second shown → Call (answer_code shown) (homology_numbers_of shown)
        → (judged.code ≡ codes.ACCEPTED) ⊎ (judged.code ≡ codes.NO_MEMORY)
    by_shown (Chain lines) are h =
        chain_told mesh first second lines.items judged h (record { walks = are.walks; chain = are.show; small = are.small })
    by_shown (Cocycle lines) are h =
        cocycle_told mesh first second lines.items judged h (record { walks = are.walks; cocycle = are.show; small = are.small })
