-- What is told of surfaces and of pairs, and what it means.
use Rattle.homotopy_c.proofs.Common.{IsCompactSurface, IsCompactFault, IsCompactKept, IsDecideAnyFault, AreAnsweredOn, IsKept, IsAskedFault, IsDecideFault, IsLoopAnswer, IsAnswer, walk_in_arrays, are_pairs, EndsOn, IsMeasureOf, IsSurfaceFault, OfMesh, Homotopic, Different, Faulty, Fault, IsMeshAnswersCall, IsMeshDecideCall, IsMeshNewAnyCall, IsMeshNewCall, TellsHeld, TellsKept, DoesAnswer, DoesAnswerLoops, DoesMeasure, byte_of, done, loop_byte, told_fault, IsBytesCall, IsDecideAnyCall, IsDecideCall, IsSurfaceTold, TellsBytes, TellsSurface, Outcome, ◌≡◌, ◌≢◌, inl, inr, ℕ, ◌+◌, ◌*◌, ◌/◌, ◌<◌, List, length, get_or, refl, sym, ap, ◌∙◌, subst, arith, false, cases_lt, get_or_append_left, get_or-map, length-map, Vec, Box, Option, Some, None, Result, Ok, Err, FaceList, IsOrientableSurface}
use Rattle.compact_surfaces.proofs.ClosedLemmas.{compact_surface}
use Rattle.homotopy_arrays.proofs.EndLemmas.{on_kind}
use Rattle.homotopy_arrays.specs.declared.decide.PairAnswer.{PairAnswer}
use Rattle.homotopy_arrays.specs.declared.fault.Fault.TheVariants.{OutOfMemory, WalkCount}
use Rattle.homotopy_arrays.specs.declared.loops.LoopAnswer.{LoopAnswer}
use Rattle.homotopy_arrays.specs.declared.surface.Measured.{Measured}
use Rattle.homotopy_c.specs.declared.surface.SurfaceNumbers.{SurfaceNumbers}
use Rattle.std.proofs.Common.{drop, map}
use Rattle.homotopy_arrays.specs.declared.loops.LoopAnswer.TheVariants as free
use Rattle.homotopy_c.specs.declared.codes.TheConstants as codes
use Rattle.homotopy_c.proofs.CodeLemmas.{byte_code, fault_code}

-- the mesh that arrays are is one
pub of_one : (mesh : FaceList) (Holds : FaceList → Type 0) → OfMesh (Ok mesh) Holds → Holds mesh
of_one mesh Holds h = let same : h.mesh ≡ mesh = (let is = h.is in cc) in subst Holds same h.holds

pub code_is : (outcome target : Outcome) → outcome ≡ target → outcome.code ≡ target.code
code_is outcome target e = ap (λ (o : Outcome). o.code) e

-- ---- pairs

pub byte_means : (mesh : FaceList) (first second : List ℕ) (answer : PairAnswer) → IsAnswer mesh first second answer
    → DoesAnswer mesh first second (byte_of answer)
byte_means mesh first second Homotopic is = record {
  homotopic = ((λ _. is), (λ _. refl));
  different = ((λ e. absurd (omega (arith, e))), (λ h. absurd (h.1 is.1)));
}
byte_means mesh first second Different is = record {
  homotopic = ((λ e. absurd (omega (arith, e))), (λ h. absurd (is.1 h.1)));
  different = ((λ _. is), (λ _. refl));
}
byte_means mesh first second (Faulty fault) is = record {
  homotopic = ((λ e. absurd (omega (arith, e, byte_code fault))), (λ h. absurd (is.1 h.0)));
  different = ((λ e. absurd (omega (arith, e, byte_code fault))), (λ h. absurd (is.1 h.0)));
}

pub loop_means : (mesh : FaceList) (first second : List ℕ) (answer : LoopAnswer) → IsLoopAnswer mesh first second answer
    → DoesAnswerLoops mesh first second (loop_byte answer)
loop_means mesh first second free.Freely is = record {
  freely = ((λ _. is), (λ _. refl));
  not_freely = ((λ e. absurd (omega (arith, e))), (λ h. absurd (h.1 is.1)));
}
loop_means mesh first second free.NotFreely is = record {
  freely = ((λ e. absurd (omega (arith, e))), (λ h. absurd (is.1 h.1)));
  not_freely = ((λ _. is), (λ _. refl));
}
loop_means mesh first second (free.Faulty fault) is = record {
  freely = ((λ e. absurd (omega (arith, e, byte_code fault))), (λ h. absurd (is.1 h.0)));
  not_freely = ((λ e. absurd (omega (arith, e, byte_code fault))), (λ h. absurd (is.1 h.0)));
}

-- answers of one kind on surfaces of one, and what their bytes mean
module _ {A : Type 0} (IsSurface : FaceList → Type 0) (Refuses : (sizes vertices : List ℕ) → FaceList → Fault → Type 0)
    (Is : FaceList → (first second : List ℕ) → A → Type 0) (byte : A → ℕ) (Means : FaceList → (first second : List ℕ) → ℕ → Type 0)
    (means : (mesh : FaceList) (first second : List ℕ) (answer : A) → Is mesh first second answer → Means mesh first second (byte answer))
    (some : A) where
  abbrev DoTell : FaceList → (sizes vertices answers : List ℕ) → Type 0
  DoTell mesh sizes vertices answers =
      IsSurface mesh × ((k : ℕ) → k < length sizes / 2
      → Means mesh (walk_in_arrays sizes vertices (2 * k)) (walk_in_arrays sizes vertices (2 * k + 1)) (get_or answers k 0))

  abbrev IsRight : FaceList → (sizes vertices : List ℕ) → Result (Vec A) Fault → Type 0
  IsRight mesh sizes vertices end =
      EndsOn (Ok mesh) (λ m given. AreAnsweredOn IsSurface Is sizes vertices m given.items) (Refuses sizes vertices) end

  answered : (mesh : FaceList) (sizes vertices old answers : List ℕ) (outcome : Outcome) (end : Result (Vec A) Fault)
      → IsRight mesh sizes vertices end → TellsBytes byte end old answers outcome → outcome.code ≡ codes.DONE
      → DoTell mesh sizes vertices answers
  answered mesh sizes vertices old answers outcome (Ok given) right tells _ =
      let are : AreAnsweredOn IsSurface Is sizes vertices mesh given.items =
      of_one mesh (λ m. AreAnsweredOn IsSurface Is sizes vertices m given.items) right in (
        are.surface,
        λ k l.
            let few : k < length given.items = omega (arith, l, are.answers.each_pair) in
            let here : get_or answers k 0 ≡ byte (get_or given.items k some) =
            ap (λ (xs : List ℕ). get_or xs k 0) tells.0
            ∙ get_or_append_left (map byte given.items) (drop (length (map byte given.items)) old) 0 k
            (omega (arith, few, length-map given.items byte))
            ∙ get_or-map byte given.items k some 0 few in
            subst (Means mesh (walk_in_arrays sizes vertices (2 * k)) (walk_in_arrays sizes vertices (2 * k + 1))) (sym here)
            (means mesh (walk_in_arrays sizes vertices (2 * k)) (walk_in_arrays sizes vertices (2 * k + 1)) (get_or given.items k some)
            (are.answers.answer k some few)),
      )
  answered mesh sizes vertices old answers outcome (Err fault) right tells e =
      absurd (omega (arith, e, code_is outcome (told_fault fault) tells.1, fault_code fault))

  pub answers_mean : (mesh : FaceList) (sizes vertices old answers : List ℕ) (outcome : Outcome)
      → IsBytesCall byte (IsRight mesh sizes vertices) sizes old answers outcome → outcome.code ≡ codes.DONE
      → DoTell mesh sizes vertices answers
  answers_mean mesh sizes vertices old answers outcome h e =
      elim (cases_lt (length old) (length sizes / 2)) [
        | inl less ↦ absurd (omega (arith, e, code_is outcome _ (h.short less).1))
        | inr room ↦
            (let told_so = h.room room in
            answered mesh sizes vertices old answers outcome told_so.end told_so.right told_so.tells e)
      ]

-- where a call does not answer, nothing is written
pub else_same : {A : Type 0} (byte : A → ℕ) (IsRight : Result (Vec A) Fault → Type 0) (sizes old answers : List ℕ) (outcome : Outcome)
    → IsBytesCall byte IsRight sizes old answers outcome → outcome.code ≢ codes.DONE → answers ≡ old
else_same {A} byte IsRight sizes old answers outcome h differs =
    elim (cases_lt (length old) (length sizes / 2)) [
      | inl less ↦ (h.short less).0
      | inr room ↦ (let told_so = h.room room in by_end told_so.end told_so.tells)
    ]
  where
    by_end : (end : Result (Vec A) Fault) → TellsBytes byte end old answers outcome → answers ≡ old
    by_end (Ok given) tells = absurd (differs (code_is outcome done tells.1))
    by_end (Err fault) tells = tells.0

pub held_else_same : {A : Type 0} (IsSurface : FaceList → Type 0) (Is : FaceList → (first second : List ℕ) → A → Type 0) (byte : A → ℕ)
    (held : Option FaceList) (sizes vertices old answers : List ℕ) (outcome : Outcome)
    → IsMeshAnswersCall IsSurface Is byte held sizes vertices old answers outcome → outcome.code ≢ codes.DONE → answers ≡ old
held_else_same IsSurface Is byte (Some mesh) sizes vertices old answers outcome h differs =
    else_same byte _ sizes old answers outcome h differs
held_else_same IsSurface Is byte None sizes vertices old answers outcome h differs = h.0

-- the code of what is not orientable is told of nothing else
pub told_not_orientable : {A : Type 0} (IsSurface : FaceList → Type 0) (Is : FaceList → (first second : List ℕ) → A → Type 0)
    (byte : A → ℕ) (mesh : FaceList) (sizes vertices old answers : List ℕ) (outcome : Outcome)
    → IsMeshAnswersCall IsSurface Is byte (Some mesh) sizes vertices old answers outcome → outcome.code ≡ codes.NOT_ORIENTABLE
    → IsSurface mesh → ⊥
told_not_orientable {A} IsSurface Is byte mesh sizes vertices old answers outcome h e is =
    elim (cases_lt (length old) (length sizes / 2)) [
      | inl less ↦ omega (arith, e, code_is outcome _ (h.short less).1)
      | inr room ↦ (let told_so = h.room room in by_end told_so.end told_so.right told_so.tells)
    ]
  where
    by_end : (end : Result (Vec A) Fault)
        → EndsOn (Ok mesh) (λ m given. AreAnsweredOn IsSurface Is sizes vertices m given.items) (IsAskedFault IsSurface sizes vertices) end
        → TellsBytes byte end old answers outcome → ⊥
    by_end (Ok given) right tells = omega (arith, e, code_is outcome done tells.1)
    by_end (Err fault) (inl memory) tells = omega (arith, e, code_is outcome (told_fault OutOfMemory) (tells.1 ∙ ap told_fault memory))
    by_end (Err fault) (inr (inl bad)) tells = absurd cc
    by_end (Err fault) (inr (inr of)) tells =
        elim (of_one mesh (λ m. IsAskedFault IsSurface sizes vertices m fault) of) [
          | inl other ↦ other.0 is
          | inr count ↦ omega (arith, e, code_is outcome (told_fault WalkCount) (tells.1 ∙ ap told_fault count.2))
        ]

-- ---- meshes that are kept

-- how a mesh was made on the heap, as how one is
pub held_told : (read : Result FaceList Fault) (Keeps : FaceList → FaceList → Type 0) (Refuses : FaceList → Fault → Type 0)
    (made : Result (Box FaceList) Fault) (old new : Option FaceList) (outcome : Outcome)
    → EndsOn read (λ mesh kept. Keeps mesh kept.value) Refuses made → TellsHeld made old new outcome
    → (end : Result FaceList Fault) × EndsOn read Keeps Refuses end × TellsKept end old new outcome
held_told read Keeps Refuses (Ok kept) old new outcome right tells = (Ok kept.value, right, tells)
held_told read Keeps Refuses (Err fault) old new outcome right tells = (Err fault, right, tells)

-- where a call ends with `DONE`, the handle holds the mesh
held_now : (read : Result FaceList Fault) (Keeps : FaceList → FaceList → Type 0) (Refuses : FaceList → Fault → Type 0)
    (end : Result FaceList Fault) (old held : Option FaceList) (made : Outcome) → EndsOn read Keeps Refuses end
    → TellsKept end old held made → made.code ≡ codes.DONE
    → (kept : FaceList) × (held ≡ Some kept) × OfMesh read (λ mesh. Keeps mesh kept)
held_now read Keeps Refuses (Ok kept) old held made of tells e = (kept, tells.0, of)
held_now read Keeps Refuses (Err fault) old held made right tells e =
    absurd (omega (arith, e, code_is made (told_fault fault) tells.1, fault_code fault))

-- and else what it held
held_before : (end : Result FaceList Fault) (old held : Option FaceList) (made : Outcome) → TellsKept end old held made
    → made.code ≢ codes.DONE → held ≡ old
held_before (Ok kept) old held made tells differs = absurd (differs (code_is made done tells.1))
held_before (Err fault) old held made tells differs = tells.0

-- answers on a surface of a kind, where all of that kind are compact
of_kind : (IsSurface : FaceList → Type 0) (Refuses : FaceList → Fault → Type 0) (sizes vertices before answers : List ℕ) (mesh : FaceList)
    (outcome : Outcome) → IsSurface mesh → IsCompactSurface mesh
    → ((m : FaceList) → IsSurface m → are_pairs sizes vertices ≡ false → Refuses m WalkCount)
    → IsMeshDecideCall (Some mesh) sizes vertices before answers outcome
    → IsBytesCall byte_of (EndsOn (Ok mesh) (λ m given. AreAnsweredOn IsSurface IsAnswer sizes vertices m given.items) Refuses) sizes before
    answers outcome
of_kind IsSurface Refuses sizes vertices before answers mesh outcome is compact refuses h = record {
  room = λ room.
      (let told_so = h.room room in
      record {
        end = told_so.end;
        right = on_kind IsSurface Refuses sizes vertices mesh told_so.end is compact refuses told_so.right;
        tells = told_so.tells;
      });
  short = h.short;
}

pub kept_told : (read : Result FaceList Fault) (old held : Option FaceList) (made : Outcome) → IsMeshNewCall read old held made
    → made.code ≡ codes.DONE → (sizes vertices before answers : List ℕ) (outcome : Outcome)
    → IsMeshDecideCall held sizes vertices before answers outcome → IsDecideCall read sizes vertices before answers outcome
kept_told read old held made h e sizes vertices before answers outcome asked =
    let now = held_now read IsKept IsSurfaceFault h.end old held made h.right h.tells e in
    let kept : FaceList = now.0 in
    let same : read ≡ Ok kept = now.2.is ∙ ap (λ (m : FaceList). Ok m) (sym now.2.holds.same) in
    let surface : IsOrientableSurface kept = subst IsOrientableSurface (sym now.2.holds.same) now.2.holds.surface in
    subst (λ (r : Result FaceList Fault). IsDecideCall r sizes vertices before answers outcome) (sym same)
    (of_kind IsOrientableSurface (IsDecideFault sizes vertices) sizes vertices before answers kept outcome surface
    (compact_surface kept surface.manifold) (λ m on none. inr (on, none, refl))
    (subst (λ (o : Option FaceList). IsMeshDecideCall o sizes vertices before answers outcome) now.1 asked))

pub any_kept_told : (read : Result FaceList Fault) (old held : Option FaceList) (made : Outcome) → IsMeshNewAnyCall read old held made
    → made.code ≡ codes.DONE → (sizes vertices before answers : List ℕ) (outcome : Outcome)
    → IsMeshDecideCall held sizes vertices before answers outcome → IsDecideAnyCall read sizes vertices before answers outcome
any_kept_told read old held made h e sizes vertices before answers outcome asked =
    let now = held_now read IsCompactKept IsCompactFault h.end old held made h.right h.tells e in
    let kept : FaceList = now.0 in
    let same : read ≡ Ok kept = now.2.is ∙ ap (λ (m : FaceList). Ok m) (sym now.2.holds.same) in
    let surface : IsCompactSurface kept = subst IsCompactSurface (sym now.2.holds.same) now.2.holds.surface in
    subst (λ (r : Result FaceList Fault). IsDecideAnyCall r sizes vertices before answers outcome) (sym same)
    (of_kind IsCompactSurface (IsDecideAnyFault sizes vertices) sizes vertices before answers kept outcome surface surface
    (λ m on none. inr (on, none, refl))
    (subst (λ (o : Option FaceList). IsMeshDecideCall o sizes vertices before answers outcome) now.1 asked))

pub kept_surface : (mesh : FaceList) (old held : Option FaceList) (made : Outcome) → IsMeshNewCall (Ok mesh) old held made
    → made.code ≡ codes.DONE → (held ≡ Some mesh) × IsOrientableSurface mesh
kept_surface mesh old held made h e =
    let now = held_now (Ok mesh) IsKept IsSurfaceFault h.end old held made h.right h.tells e in
    let is : IsKept mesh now.0 = of_one mesh (λ m. IsKept m now.0) now.2 in
    (now.1 ∙ ap (λ (m : FaceList). Some m) is.same, is.surface)

pub any_kept_surface : (mesh : FaceList) (old held : Option FaceList) (made : Outcome) → IsMeshNewAnyCall (Ok mesh) old held made
    → made.code ≡ codes.DONE → (held ≡ Some mesh) × IsCompactSurface mesh
any_kept_surface mesh old held made h e =
    let now = held_now (Ok mesh) IsCompactKept IsCompactFault h.end old held made h.right h.tells e in
    let is : IsCompactKept mesh now.0 = of_one mesh (λ m. IsCompactKept m now.0) now.2 in
    (now.1 ∙ ap (λ (m : FaceList). Some m) is.same, is.surface)

pub kept_else_same : (read : Result FaceList Fault) (old held : Option FaceList) (made : Outcome) → IsMeshNewCall read old held made
    → made.code ≢ codes.DONE → held ≡ old
kept_else_same read old held made h differs = held_before h.end old held made h.tells differs

pub any_kept_else_same : (read : Result FaceList Fault) (old held : Option FaceList) (made : Outcome)
    → IsMeshNewAnyCall read old held made → made.code ≢ codes.DONE → held ≡ old
any_kept_else_same read old held made h differs = held_before h.end old held made h.tells differs

-- ---- surfaces

measured : (mesh : FaceList) (before numbers : SurfaceNumbers) (old genera : List ℕ) (outcome : Outcome) (end : Result Measured Fault)
    → EndsOn (Ok mesh) IsMeasureOf IsSurfaceFault end → TellsSurface end before numbers old genera outcome
    → (outcome.code ≡ codes.DONE → DoesMeasure mesh numbers old genera) × (outcome.code ≢ codes.DONE → genera ≡ old)
measured mesh before numbers old genera outcome (Ok own) right tells =
    elim (cases_lt (length old) (length own.genera.items)) [
      | inl less ↦
          (let short = tells.1.short less in
          ((λ e. absurd (omega (arith, e, code_is outcome _ short.1))), (λ _. short.0)))
      | inr room ↦
          (let put = tells.1.room room in
          let is : IsMeasureOf mesh own = of_one mesh (λ m. IsMeasureOf m own) right in (
            λ _. record {
              surface = is.surface;
              measured = own.numbers;
              are_its_own = is.numbers;
              vertices = ap (λ (n : SurfaceNumbers). n.vertices) tells.0;
              edges = ap (λ (n : SurfaceNumbers). n.edges) tells.0;
              faces = ap (λ (n : SurfaceNumbers). n.faces) tells.0;
              euler = ap (λ (n : SurfaceNumbers). n.euler) tells.0;
              own_genera = own.genera.items;
              are_genera = is.genera;
              components = ap (λ (n : SurfaceNumbers). n.components) tells.0;
              in_front_stand = put.0;
            },
            λ differs. absurd (differs (code_is outcome done put.1)),
          ))
    ]
measured mesh before numbers old genera outcome (Err fault) right tells =
    ((λ e. absurd (omega (arith, e, code_is outcome (told_fault fault) tells.2, fault_code fault))), (λ _. tells.1))

pub surface_means : (mesh : FaceList) (before numbers : SurfaceNumbers) (old genera : List ℕ) (outcome : Outcome)
    → IsSurfaceTold (Ok mesh) before numbers old genera outcome
    → (outcome.code ≡ codes.DONE → DoesMeasure mesh numbers old genera) × (outcome.code ≢ codes.DONE → genera ≡ old)
surface_means mesh before numbers old genera outcome h = measured mesh before numbers old genera outcome h.end h.right h.tells
