-- What is told of homology, and what it means.
use Rattle.homotopy_c.proofs.Common.{HomologyNumbers, Chain, Cocycle, AreShownAs, IsHomologyFaultOn, ShowsWalksOn, Fault, WalkFault, Empty, Long, Pair, Loops, IsHomologyCallAs, TellsHomology, answer_code, homology_numbers_of, told_homology, StandCounted, ShowsHomologousOn, ShowsNotHomologousOn, told_fault, told_walks, Outcome, ◌≡◌, ◌≢◌, ◌⊎◌, inl, inr, ℕ, true, false, List, length, get_or, refl, sym, ap, ◌∙◌, arith, cases_lt, Result, Ok, Err, MatchResult, Bool, ℤ, ◌==◌, ◌||◌, FaceList, NotTwo, NoVertex, NoEdge, EndsDiffer}
use Rattle.homotopy_arrays.specs.declared.homologies.HomologyFault.{HomologyFault}
use Rattle.homotopy_arrays.specs.declared.fault.Fault.TheVariants as faults
use Rattle.homotopy_arrays.specs.declared.homologies.HomologyFault.TheVariants as homologies
use Rattle.walk_files.specs.declared.loops.LoopFault.TheVariants as loops
use Rattle.homotopy_c.specs.declared.codes.TheConstants as codes
use Rattle.homotopy_c.proofs.TellingLemmas.{of_one}

-- ---- the codes of the two answers

abbrev pub is_answer : ℕ → Bool
is_answer code = code == codes.HOMOLOGOUS || code == codes.NOT_HOMOLOGOUS

fault_else : (fault : Fault) → is_answer (told_fault fault).code ≡ false
fault_else faults.ManyVertices = refl
fault_else faults.CornerCount = refl
fault_else faults.ManySides = refl
fault_else (faults.FewCorners face) = refl
fault_else (faults.NoVertex face) = refl
fault_else (faults.EqualNeighbours face) = refl
fault_else faults.NoFace = refl
fault_else (faults.EdgeSides low high sides) = refl
fault_else (faults.Pinched vertex) = refl
fault_else faults.NotOrientable = refl
fault_else faults.DoubleVertices = refl
fault_else faults.DoubleSides = refl
fault_else faults.CoverVertices = refl
fault_else faults.CoverSides = refl
fault_else faults.WalkCount = refl
fault_else faults.OutOfMemory = refl

walks_else : (fault : WalkFault) → is_answer (told_walks fault).code ≡ false
walks_else (Empty walk) = refl
walks_else (Long walk) = refl
walks_else (Pair (NotTwo count)) = refl
walks_else (Pair (NoVertex walk place)) = refl
walks_else (Pair (NoEdge walk place)) = refl
walks_else (Pair (EndsDiffer true)) = refl
walks_else (Pair (EndsDiffer false)) = refl
walks_else (Loops (loops.NotTwo count)) = refl
walks_else (Loops (loops.NoVertex walk place)) = refl
walks_else (Loops (loops.NoEdge walk place)) = refl
walks_else (Loops (loops.NotClosed walk)) = refl

homology_else : (fault : HomologyFault) → is_answer (told_homology fault).code ≡ false
homology_else (homologies.Mesh fault) = fault_else fault
homology_else (homologies.Walks fault) = walks_else fault
homology_else (homologies.Darts darts) = refl

-- ---- what is written

-- or none were, and neither answer is told
pub record AreNotWritten (old new : List ℤ) (outcome : Outcome) : Type 0 where
  pub same : new ≡ old
  pub code : is_answer outcome.code ≡ false

-- no test is passed and failed
pub clash : {P : Type 0} (b : Bool) → b ≡ true → b ≡ false → P
clash b e f =
    let both : true ≡ false = sym e ∙ f in
    cc

answer_either : (shown : HomologyNumbers) → (answer_code shown ≡ codes.HOMOLOGOUS) ⊎ (answer_code shown ≡ codes.NOT_HOMOLOGOUS)
answer_either (Chain numbers) = inl refl
answer_either (Cocycle numbers) = inr refl

module _ (IsSurface : FaceList → Type 0) (Refuses : FaceList → Fault → Type 0) (Small : HomologyNumbers → Type 0) where
  -- the call of surfaces of a kind, about the mesh that arrays are
  abbrev IsCall : FaceList → (first second : List ℕ) → (old new : List ℤ) → Outcome → Type 0
  IsCall mesh first second old new outcome =
      IsHomologyCallAs (λ end. MatchResult end (ShowsWalksOn IsSurface Small (Ok mesh) first second)
      (IsHomologyFaultOn IsSurface Refuses (Ok mesh) first second)) old new outcome

  -- numbers were written, and what they show
  pub record AreWritten (mesh : FaceList) (first second : List ℕ) (old new : List ℤ) (outcome : Outcome) : Type 0 where
    pub shown : HomologyNumbers
    pub surface : IsSurface mesh
    pub are : AreShownAs Small mesh first second shown
    pub code : outcome.code ≡ answer_code shown
    pub stand : StandCounted (homology_numbers_of shown) old new outcome

  written : (mesh : FaceList) (first second : List ℕ) (old new : List ℤ) (outcome : Outcome) (end : Result HomologyNumbers HomologyFault)
      → MatchResult end (ShowsWalksOn IsSurface Small (Ok mesh) first second) (IsHomologyFaultOn IsSurface Refuses (Ok mesh) first second)
      → TellsHomology end old new outcome → AreWritten mesh first second old new outcome ⊎ AreNotWritten old new outcome
  written mesh first second old new outcome (Ok shown) right put =
      elim (cases_lt (length old) (length (homology_numbers_of shown))) [
        | inl less ↦
            (let short = put.short less in
            inr (record { same = short.0; code = ap (λ (o : Outcome). is_answer o.code) short.1 }))
        | inr room ↦
            (let there = put.room room in
            let holds = of_one mesh (λ m. IsSurface m × AreShownAs Small m first second shown) right in
            inl (record {
              shown = shown;
              surface = holds.0;
              are = holds.1;
              code = ap (λ (o : Outcome). o.code) there.1;
              stand = record { stand = there.0; counted = ap (λ (o : Outcome). get_or o.numbers 0 0) there.1; fit = room };
            }))
      ]
  written mesh first second old new outcome (Err fault) right tells =
      inr (record { same = tells.0; code = ap (λ (o : Outcome). is_answer o.code) tells.1 ∙ homology_else fault })

  pub call_written : (mesh : FaceList) (first second : List ℕ) (old new : List ℤ) (outcome : Outcome)
      → IsCall mesh first second old new outcome → AreWritten mesh first second old new outcome ⊎ AreNotWritten old new outcome
  call_written mesh first second old new outcome h = written mesh first second old new outcome h.end h.right h.tells

  -- numbers with the first code are those of a chain, and with the other one those of a cocycle
  shows_yes : (mesh : FaceList) (first second : List ℕ) (old new : List ℤ) (outcome : Outcome) (shown : HomologyNumbers) → IsSurface mesh
      → AreShownAs Small mesh first second shown → answer_code shown ≡ codes.HOMOLOGOUS
      → StandCounted (homology_numbers_of shown) old new outcome
      → ShowsHomologousOn IsSurface mesh first second old new outcome
  shows_yes mesh first second old new outcome (Chain numbers) surface are e stand = record {
    surface = surface;
    walks = are.walks;
    homologous = are.exactly.0 refl;
    numbers = numbers.items;
    chain = are.show;
    stand = stand;
  }
  shows_yes mesh first second old new outcome (Cocycle numbers) surface are e stand = absurd (omega (arith, e))

  shows_no : (mesh : FaceList) (first second : List ℕ) (old new : List ℤ) (outcome : Outcome) (shown : HomologyNumbers) → IsSurface mesh
      → AreShownAs Small mesh first second shown → answer_code shown ≡ codes.NOT_HOMOLOGOUS
      → StandCounted (homology_numbers_of shown) old new outcome
      → ShowsNotHomologousOn IsSurface mesh first second old new outcome
  shows_no mesh first second old new outcome (Chain numbers) surface are e stand = absurd (omega (arith, e))
  shows_no mesh first second old new outcome (Cocycle numbers) surface are e stand = record {
    surface = surface;
    walks = are.walks;
    apart = λ h. (let same = are.exactly.1 h in cc);
    numbers = numbers.items;
    cocycle = are.show;
    stand = stand;
  }

  pub homology_yes : (mesh : FaceList) (first second : List ℕ) (old new : List ℤ) (outcome : Outcome)
      → IsCall mesh first second old new outcome → outcome.code ≡ codes.HOMOLOGOUS
      → ShowsHomologousOn IsSurface mesh first second old new outcome
  homology_yes mesh first second old new outcome h e =
      elim (call_written mesh first second old new outcome h) [
        | inl w ↦ shows_yes mesh first second old new outcome w.shown w.surface w.are (sym w.code ∙ e) w.stand
        | inr none ↦ clash (is_answer outcome.code) (ap is_answer e) none.code
      ]

  pub homology_no : (mesh : FaceList) (first second : List ℕ) (old new : List ℤ) (outcome : Outcome)
      → IsCall mesh first second old new outcome → outcome.code ≡ codes.NOT_HOMOLOGOUS
      → ShowsNotHomologousOn IsSurface mesh first second old new outcome
  homology_no mesh first second old new outcome h e =
      elim (call_written mesh first second old new outcome h) [
        | inl w ↦ shows_no mesh first second old new outcome w.shown w.surface w.are (sym w.code ∙ e) w.stand
        | inr none ↦ clash (is_answer outcome.code) (ap is_answer e) none.code
      ]

  pub homology_nothing : (mesh : FaceList) (first second : List ℕ) (old new : List ℤ) (outcome : Outcome)
      → IsCall mesh first second old new outcome → outcome.code ≢ codes.HOMOLOGOUS → outcome.code ≢ codes.NOT_HOMOLOGOUS → new ≡ old
  homology_nothing mesh first second old new outcome h not_yes not_no =
      elim (call_written mesh first second old new outcome h) [
        | inl w ↦ absurd (elim (answer_either w.shown) [ inl e ↦ not_yes (w.code ∙ e) | inr e ↦ not_no (w.code ∙ e) ])
        | inr none ↦ none.same
      ]
