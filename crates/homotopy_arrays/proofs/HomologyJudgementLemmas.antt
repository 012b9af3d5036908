-- What comes of numbers that are to show whether walks are homologous, from its parts.
use Rattle.homotopy_arrays.proofs.Common.{IsVerifyHomologyFault, IsVerifyHomologyFaultOn, JudgesNumbers, JudgesNumbersOn, Fault, OutOfMemory, ◌≡◌, ◌⊎◌, ℕ, List, sym, ap, ◌∙◌, inl, inr, MatchResult, Result, Ok, Err, ℤ, FaceList}
use Rattle.homology.specs.declared.array_check.ArrayVerdict.{ArrayVerdict}
use Rattle.homotopy_arrays.specs.declared.verify_homology.HomologyClaim.{HomologyClaim}
use Rattle.homotopy_arrays.specs.declared.verify_homology.VerifyHomologyFault.{VerifyHomologyFault}
use Rattle.homotopy_arrays.specs.declared.verify_homology.VerifyHomologyFault.TheVariants.{Mesh}

-- the arrays are the mesh
pub numbers_on_mesh : (read : Result FaceList Fault) (mesh : FaceList) (first second : List ℕ) (claim : HomologyClaim) (numbers : List ℤ)
    (end : Result ArrayVerdict VerifyHomologyFault) → read ≡ Ok mesh
    → MatchResult end (JudgesNumbersOn mesh first second claim numbers) (IsVerifyHomologyFaultOn mesh first second)
    → MatchResult end (JudgesNumbers read first second claim numbers) (IsVerifyHomologyFault read first second)
numbers_on_mesh read mesh first second claim numbers (Ok verdict) is h = record { mesh = mesh; is = is; holds = h }
numbers_on_mesh read mesh first second claim numbers (Err fault) is h = inr (inr (record { mesh = mesh; is = is; holds = h }))

-- they are none
pub numbers_on_none : (read : Result FaceList Fault) (first second : List ℕ) (fault : Fault) (told : VerifyHomologyFault)
    → (Err fault ≡ read) ⊎ (let wanting : Result FaceList Fault = Err OutOfMemory in Err fault ≡ wanting) → told ≡ Mesh fault
    → IsVerifyHomologyFault read first second told
numbers_on_none read first second fault told (inl bad) is = inr (inl (fault, sym bad, is))
numbers_on_none read first second fault told (inr memory) is = let same : fault ≡ OutOfMemory = cc in inl (is ∙ ap Mesh same)
