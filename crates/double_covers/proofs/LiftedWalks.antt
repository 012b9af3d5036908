-- The lift of a walk that is put together of parts, and of walks of the mesh.
use Rattle.double_covers.proofs.Common.{sheet_behind, over, lifted_behind, lifted, under, ◌≡◌, ℕ, suc, ◌<◌, Bool, true, false, List, [], ◌∷◌, ◌++◌, map, get_or, refl, ap, ◌∙◌, arith, nat_tests, All, used_below, FaceList, IsFaceList, IsWalk, end_from, run, walked}

module _ (turns : ℕ → ℕ → Bool) (count : ℕ) where
  behind_front : (upper : Bool) (u : ℕ) (before : List ℕ) (v : ℕ) (rest : List ℕ)
      → lifted_behind turns count upper u (before ++ v ∷ rest)
      ≡ lifted_behind turns count upper u before ++ lifted turns count (run (sheet_behind turns) upper u (before ++ v ∷ [])) (v ∷ rest)
  behind_front upper u [] v rest = refl
  behind_front upper u (x ∷ before) v rest =
      ap (λ (l : List ℕ). over count (sheet_behind turns upper u x) x ∷ l) (behind_front (sheet_behind turns upper u x) x before v rest)

  -- what stands in front of a vertex is lifted by itself
  pub front_lifted : (upper : Bool) (before : List ℕ) (v : ℕ) (rest : List ℕ)
      → lifted turns count upper (before ++ v ∷ rest)
      ≡ lifted turns count upper before ++ lifted turns count (walked (sheet_behind turns) upper (before ++ v ∷ [])) (v ∷ rest)
  front_lifted upper [] v rest = refl
  front_lifted upper (u ∷ before) v rest = ap (λ (l : List ℕ). over count upper u ∷ l) (behind_front upper u before v rest)

  -- and what comes behind a part hangs on where and on which sheet that ends
  pub rest_lifted : (upper : Bool) (u : ℕ) (rest after : List ℕ)
      → lifted_behind turns count upper u (rest ++ after)
      ≡ lifted_behind turns count upper u rest ++ lifted_behind turns count (run (sheet_behind turns) upper u rest) (end_from u rest) after
  rest_lifted upper u [] after = refl
  rest_lifted upper u (x ∷ rest) after =
      ap (λ (l : List ℕ). over count (sheet_behind turns upper u x) x ∷ l) (rest_lifted (sheet_behind turns upper u x) x rest after)

-- ---- what lies under a lift

pub under_over : (count : ℕ) (upper : Bool) (v : ℕ) → v < count → under count (over count upper v) ≡ v
under_over count true v l = grind (arith, nat_tests)
under_over count false v l = grind (arith, nat_tests)

abbrev pub AllBelow : ℕ → List ℕ → Type 0
AllBelow count [] = Unit {0}
AllBelow count (v ∷ rest) = (v < count) × AllBelow count rest

pub all_below : (count : ℕ) (list : List ℕ) → All (λ (v : ℕ). v < count) list → AllBelow count list
all_below count [] h = tt
all_below count (v ∷ rest) h = (h 0 0 (omega arith), all_below count rest (λ k d l. h (suc k) d (omega (arith, l))))

module _ (turns : ℕ → ℕ → Bool) (count : ℕ) where
  under_behind : (upper : Bool) (u : ℕ) (rest : List ℕ) → AllBelow count rest
      → map (under count) (lifted_behind turns count upper u rest) ≡ rest
  under_behind upper u [] h = refl
  under_behind upper u (v ∷ rest) h =
      ap (λ (w : ℕ). w ∷ map (under count) (lifted_behind turns count (sheet_behind turns upper u v) v rest))
      (under_over count (sheet_behind turns upper u v) v h.0)
      ∙ ap (λ (l : List ℕ). v ∷ l) (under_behind (sheet_behind turns upper u v) v rest h.1)

  pub under_lifted : (upper : Bool) (list : List ℕ) → AllBelow count list → map (under count) (lifted turns count upper list) ≡ list
  under_lifted upper [] h = refl
  under_lifted upper (u ∷ rest) h =
      ap (λ (w : ℕ). w ∷ map (under count) (lifted_behind turns count upper u rest)) (under_over count upper u h.0)
      ∙ ap (λ (l : List ℕ). u ∷ l) (under_behind upper u rest h.1)

pub walk_below : (mesh : FaceList) (walk : List ℕ) → IsFaceList mesh → IsWalk mesh walk → AllBelow mesh.count walk
walk_below mesh walk valid w = all_below mesh.count walk (λ k d l. used_below mesh (get_or walk k d) valid (w.used k d l))

pub walk_under : (mesh : FaceList) (turns : ℕ → ℕ → Bool) (upper : Bool) (walk : List ℕ) → IsFaceList mesh → IsWalk mesh walk
    → map (under mesh.count) (lifted turns mesh.count upper walk) ≡ walk
walk_under mesh turns upper walk valid w = under_lifted turns mesh.count upper walk (walk_below mesh walk valid w)
