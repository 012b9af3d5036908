-- A walk whose vertices are looked at one after another.
use Rattle.std.proofs.Common.{◌≡◌, inl, inr, ℕ, ◌+◌, ◌-◌, ◌<◌, false, List, [], ◌∷◌, length, get_or, subst, arith, rules}
use Rattle.std.specs.Prelude.{IsTrue, not, ◌==◌, ◌↔◌}
use Rattle.std.proofs.lemmas.Bool.{cases_lt}
use Rattle.std.proofs.lemmas.List.Elements.{All-get_or, All-from_get_or}
use Rattle.surf_model.specs.FaceLists.{FaceList, is_edge, is_used}
use Rattle.surf_model.specs.Walks.{IsWalk}

-- the first so many vertices are used, and neighbours among them form an edge
pub record IsWalkSoFar (mesh : FaceList) (walk : List ℕ) (count : ℕ) : Type 0 where
  pub used : (k : ℕ) → k < count → IsTrue (is_used mesh (get_or walk k 0))
  pub edges : (k : ℕ) → k + 1 < count → IsTrue (is_edge mesh (get_or walk k 0) (get_or walk (k + 1) 0))

pub walk_goes_on : (mesh : FaceList) (walk : List ℕ) (count : ℕ) → IsWalkSoFar mesh walk count → IsTrue (is_used mesh (get_or walk count 0))
    → (0 < count → IsTrue (is_edge mesh (get_or walk (count - 1) 0) (get_or walk count 0))) → IsWalkSoFar mesh walk (count + 1)
walk_goes_on mesh walk count so used edge =
    record {
      used = λ k l. elim (cases_lt k count) [
        | inl before ↦ so.used k before
        | inr here ↦ subst (λ n. IsTrue (is_used mesh (get_or walk n 0))) (omega (arith, l, here)) used
      ];
      edges = λ k l. elim (cases_lt (k + 1) count) [
        | inl before ↦ so.edges k before
        | inr here ↦
            let last : count - 1 ≡ k = omega (arith, l, here) in
            let next : count ≡ k + 1 = omega (arith, l, here) in
            subst (λ n. IsTrue (is_edge mesh (get_or walk k 0) (get_or walk n 0))) next
            (subst (λ n. IsTrue (is_edge mesh (get_or walk n 0) (get_or walk count 0))) last (edge (omega (arith, l, here))))
      ];
    }

walk_ends : (mesh : FaceList) (walk : List ℕ) (count : ℕ) → IsWalkSoFar mesh walk count → count ≡ length walk → 0 < length walk
    → IsWalk mesh walk
walk_ends mesh walk count so all some =
    record {
      starts = some;
      used = All-from_get_or (λ v. IsTrue (is_used mesh v)) walk 0 (λ k l. so.used k (omega (arith, l, all)));
      edges = λ k l. so.edges k (omega (arith, l, all));
    }

pub walk_or_nothing : (mesh : FaceList) (walk : List ℕ) (count : ℕ) → IsWalkSoFar mesh walk count → count ≡ length walk
    → IsTrue (not (length walk == 0)) ↔ IsWalk mesh walk
walk_or_nothing mesh [] count so all = (λ some. absurd (search rules), λ is. absurd (omega (arith, is.starts)))
walk_or_nothing mesh (v ∷ walk) count so all = (λ some. walk_ends mesh (v ∷ walk) count so all (omega arith), λ is. search rules)

pub unused_is_no_walk : (mesh : FaceList) (walk : List ℕ) (k : ℕ) → k < length walk → is_used mesh (get_or walk k 0) ≡ false
    → IsWalk mesh walk → ⊥
unused_is_no_walk mesh walk k l unused is =
    cc (unused, All-get_or (λ v. IsTrue (is_used mesh v)) walk k 0 l is.used)
