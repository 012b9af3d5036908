-- The quad path of a closed walk, and what a change of its start makes of it.
use Rattle.joined_loops.proofs.Common.{IsClosedWalk, from_next, spokes_of, quad_path-append, quad_path_below, quad_path_in_pairs, IsGood, LabellingView, spokes, quad_path, in_pairs, IsLoop, ◌≡◌, ℕ, ◌+◌, ◌-◌, ◌%◌, arith, refl, sym, ◌∙◌, ap, ap₂, List, [], ◌∷◌, ◌++◌, length, get_or, append_assoc, get_or-append_seam, append-nil, length-append, Some, FaceList}
use Rattle.spoke_rings.proofs.Pushing.{last-apart}

pairs-even : (pairs : List (ℕ × ℕ)) → length (spokes_of pairs) % 2 ≡ 0
pairs-even [] = refl
pairs-even (pair ∷ pairs) =
    let before = pairs-even pairs in
    let long : length (spokes_of (pair ∷ pairs)) ≡ length (spokes_of pairs) + 2 = omega arith in
    omega arith

-- the quad path of a walk is a closed list
pub quad-loop : (mesh : FaceList) (labelling : LabellingView) → IsGood mesh labelling → (walk : List ℕ) →
    IsLoop labelling.places (quad_path mesh labelling walk)
quad-loop mesh labelling good walk = record {
  below = quad_path_below mesh labelling good walk;
  even = ap (λ q. length q % 2) (sym (quad_path_in_pairs mesh labelling walk)) ∙ pairs-even (in_pairs (quad_path mesh labelling walk));
}

-- a closed walk from its second vertex on
pub record Turned (walk next : List ℕ) : Type 0 where
  pub first : ℕ
  pub second : ℕ
  pub rest : List ℕ
  pub was : walk ≡ first ∷ second ∷ rest
  pub is : next ≡ second ∷ rest ++ second ∷ []

pub turned : (walk next : List ℕ) → from_next walk ≡ Some next → Turned walk next
turned [] next e = absurd cc
turned (first ∷ []) next e = absurd cc
turned (first ∷ second ∷ rest) next e = grind arith

-- the first dart of the walk goes to the end
pub record GoesLast (mesh : FaceList) (labelling : LabellingView) (walk next : List ℕ) : Type 0 where
  pub dart : List ℕ
  pub others : List ℕ
  pub was : quad_path mesh labelling walk ≡ quad_path mesh labelling dart ++ quad_path mesh labelling others
  pub is : quad_path mesh labelling next ≡ quad_path mesh labelling others ++ quad_path mesh labelling dart

last-of : (first second : ℕ) (rest init : List ℕ) (last : ℕ) → second ∷ rest ≡ init ++ last ∷ [] →
    get_or (first ∷ second ∷ rest) (length (first ∷ second ∷ rest) - 1) 0 ≡ last
last-of first second rest init last e =
    let long = ap length e in
    let more = length-append init (last ∷ []) in
    let place : length (first ∷ second ∷ rest) - 1 ≡ length (first ∷ init) = omega arith in
    ap₂ (λ l i. get_or (first ∷ l) i 0) e place ∙ get_or-append_seam (first ∷ init) last [] 0

pub goes-last : (mesh : FaceList) (labelling : LabellingView) (walk next : List ℕ) → IsClosedWalk mesh walk → from_next walk ≡ Some next →
    GoesLast mesh labelling walk next
goes-last mesh labelling walk next closed e =
    let t = turned walk next e in
    let apart = last-apart t.second t.rest in
    let init = apart.0 in
    let quad = quad_path mesh labelling in
    let last : apart.1 ≡ t.first = grind (arith, last-of) in
    let body : t.second ∷ t.rest ≡ init ++ t.first ∷ [] = apart.2 ∙ ap (λ x. init ++ x ∷ []) last in
    record {
      dart = t.first ∷ t.second ∷ [];
      others = t.second ∷ t.rest;
      was = ap quad t.was ∙ ap (λ l. l ++ quad (t.second ∷ t.rest)) (sym (append-nil (spokes mesh labelling t.first t.second)));
      is = ap quad (t.is ∙ ap (λ l. l ++ t.second ∷ []) body ∙ append_assoc init (t.first ∷ []) (t.second ∷ []))
          ∙ quad_path-append mesh labelling init t.first (t.second ∷ [])
          ∙ ap (λ l. quad l ++ quad (t.first ∷ t.second ∷ [])) (sym body);
    }
