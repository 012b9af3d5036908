-- Each certificate of homology has a verdict, and one.
use Rattle.verify_homology_commands.proofs.Common.{first_failing, one_made, IsSound, Pass, face_number, edge_number, HasEdge, HasFace, IsFirstAgainst, IsVerdict, HomologyCert, HomologyVerdict, ◌≡◌, ℕ, List, [], ◌∷◌, length, get_or, map, refl, subst, arith, ℤ, pos, ◌-ℤ◌, All, Option, Files, FaceList, IsFaceList, homology_judgement, homology_verdict_answer}
use Rattle.homology.proofs.ChainVerdictLemmas.{chain_fails, chain_holds}
use Rattle.homology.proofs.VerdictLemmas.{one_verdict}
use Rattle.homology.specs.Chains.{boundary, count_difference}
use Rattle.homology.specs.Cocycles.{face_sum}
use Rattle.homology.specs.Tallies.{IsLeft, number_at}
use Rattle.homology.specs.declared.certificate.EdgeNumber.{EdgeNumber}
use Rattle.homology.specs.declared.certificate.FaceNumber.{FaceNumber}
use Rattle.homology.specs.declared.certificate.HomologyCert.TheVariants.{Chain, Cocycle}
use Rattle.std.proofs.lemmas.List.{get_or-map, get_or_default, length-map}
use Rattle.std.proofs.lemmas.List.Elements.{All-nil, All-from_get_or}
use Rattle.surf_model.proofs.EdgeTables.{some_table}
use Rattle.surf_model.specs.Edges.{Edge, edge_in}
use Rattle.homology.specs.declared.verdict.HomologyVerdict.TheVariants as verdicts

-- the same of the elements of a list
first_against : {X : Type 0} (P : X → Type 0) (xs : List X) → ((x : X) → IsFirstAgainst P xs x → ⊥) → (All P xs → ⊥) → ⊥
first_against P [] none some = some (All-nil P)
first_against {X} P (x ∷ xs) none some =
    let all : List X = x ∷ xs in
    first_failing (length all) (λ k. P (get_or all k x))
    (λ k l fails before.
    none (get_or all k x) (record {
      place = k;
      in_list = l;
      is = get_or_default all k (get_or all k x) x l;
      against = fails;
      before = λ j less. subst P (get_or_default all j x (get_or all k x) (omega (arith, l, less))) (before j less);
    }))
    (λ each. some (All-from_get_or P all x each))

-- what a chain leaves at each edge of a table
left_by : (mesh : FaceList) (table : List Edge) (of_face : ℕ → ℤ) (first second : List ℕ) → (rest : List ℤ)
    × IsLeft mesh table of_face first second rest
left_by mesh table of_face first second =
    let left : Edge → ℤ = λ edge. count_difference first second edge.low edge.high -ℤ boundary mesh of_face edge.low edge.high in (
      map left table,
      record {
        long = length-map table left;
        each = λ k l. get_or-map left table k (record { low = 0; high = 0; sides = [] }) (pos 0) l;
      },
    )

some_of_chain : (mesh : FaceList) (first second : List ℕ) (lines : List FaceNumber) → IsFaceList mesh
    → ((verdict : HomologyVerdict) → IsVerdict mesh first second (Chain lines) verdict → ⊥) → ⊥
some_of_chain mesh first second lines valid none =
    first_against (HasFace mesh) lines (λ line is. none (verdicts.Face line.face) (line, is, refl)) (λ there.
    let found = some_table mesh valid in
    let table : List Edge = found.0 in
    let of_face : ℕ → ℤ = face_number lines in
    let left = left_by mesh table of_face first second in
    first_failing (length table) (λ k. number_at left.0 k ≡ pos 0)
    (λ k l fails before.
    none (verdicts.Edge (record { 0 = (edge_in table k).low }) (record { 0 = (edge_in table k).high }))
    (there, chain_fails mesh table of_face of_face first second left.0 found.1 (λ f. refl) left.1 k l fails before))
    (λ all.
    none verdicts.Accepted
    (there, chain_holds mesh table of_face of_face first second left.0 found.1 (λ f. refl) left.1 all)))

some_of_cocycle : (mesh : FaceList) (first second : List ℕ) (lines : List EdgeNumber)
    → ((verdict : HomologyVerdict) → IsVerdict mesh first second (Cocycle lines) verdict → ⊥) → ⊥
some_of_cocycle mesh first second lines none =
    first_against (HasEdge mesh) lines (λ line is. none (verdicts.Edge line.low line.high) (line, is, refl, refl)) (λ there.
    first_failing (length mesh.faces) (λ f. face_sum mesh (edge_number lines) f ≡ pos 0)
    (λ f l fails before.
    none (verdicts.Sum (record { 0 = f })) (there, record { in_mesh = l; against = fails; least = before }))
    (λ all.
    none verdicts.Accepted
    (there, record { closed = all }, λ same. none verdicts.Zero (there, record { closed = all }, same))))

-- some verdict is the first that holds
some_verdict : (mesh : FaceList) (first second : List ℕ) (shown : HomologyCert) → IsFaceList mesh
    → ((verdict : HomologyVerdict) → IsVerdict mesh first second shown verdict → ⊥) → ⊥
some_verdict mesh first second (Chain lines) valid none = some_of_chain mesh first second lines valid none
some_verdict mesh first second (Cocycle lines) valid none = some_of_cocycle mesh first second lines none

pub sound-judgement : (held : Option Files) (mesh : FaceList) (first second : List ℕ) (shown : HomologyCert) → IsFaceList mesh
    → IsSound held (homology_judgement mesh first second shown)
sound-judgement held mesh first second shown valid = record {
  some = λ none. some_verdict mesh first second shown valid
      (λ verdict is. none (Pass (homology_verdict_answer verdict)) (verdict, refl, is));
  one = λ _ a b p q.
      one_made (homology_judgement mesh first second shown) homology_verdict_answer (IsVerdict mesh first second shown) (λ _ h. h)
      (λ _ h. h)
      (one_verdict mesh first second shown) a b p q;
}
