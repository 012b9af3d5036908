-- Reading the corners of a face: where k steps lead, and that as many more the other way lead to the same corner.
use Rattle.surf_model.proofs.Common.{◌≡◌, inl, inr, ℕ, zero, suc, ◌+◌, ◌-◌, ◌<◌, ◌≤◌, Bool, true, false, not, List, [], ◌∷◌, ◌++◌, length, get_or, refl, ap, ◌∙◌, arith, cases_lt, nat_tests, next_corner, corners_from}

-- the corner that k steps from corner t lead to, of m corners
abbrev pub corner_after : Bool → ℕ → ℕ → ℕ → ℕ
corner_after rising m t zero = t
corner_after rising m t (suc k) = corner_after rising m (next_corner rising m t) k

-- all corners that k steps meet but the last
abbrev pub corners_before : List ℕ → Bool → ℕ → ℕ → List ℕ
corners_before face rising t zero = []
corners_before face rising t (suc k) = get_or face t 0 ∷ corners_before face rising (next_corner rising (length face) t) k

pub last_corner : (face : List ℕ) (rising : Bool) (t k : ℕ)
    → corners_from face rising t k ≡ corners_before face rising t k ++ get_or face (corner_after rising (length face) t k) 0 ∷ []
last_corner face rising t zero = refl
last_corner face rising t (suc k) = ap (λ (l : List ℕ). get_or face t 0 ∷ l)
    (last_corner face rising (next_corner rising (length face) t) k)

-- the first of the corners
pub first_corner : (face : List ℕ) (rising : Bool) (t k : ℕ) → (rest : List ℕ) × (corners_from face rising t k ≡ get_or face t 0 ∷ rest)
first_corner face rising t zero = ([], refl)
first_corner face rising t (suc k) = (corners_from face rising (next_corner rising (length face) t) k, refl)

-- rising, the corners are counted up, and from the last on they begin anew
pub rises : (m t k : ℕ) → t < m → t + k < m → corner_after true m t k ≡ t + k
rises m t zero h l = omega arith
rises m t (suc k) h l =
    let next : next_corner true m t ≡ t + 1 = grind (arith, nat_tests) in
    rw next (rises m (t + 1) k (omega arith) (omega arith) ∙ omega arith)

pub rises_past : (m t k : ℕ) → t < m → k ≤ m → m ≤ t + k → corner_after true m t k ≡ t + k - m
rises_past m t zero h l p = absurd (omega arith)
rises_past m t (suc k) h l p = elim (cases_lt (t + 1) m) [
  | inl more ↦
      let next : next_corner true m t ≡ t + 1 = grind (arith, nat_tests) in
      rw next (rises_past m (t + 1) k more (omega arith) (omega arith) ∙ omega arith)
  | inr last ↦
      let next : next_corner true m t ≡ 0 = grind (arith, nat_tests) in
      rw next (rises m 0 k (omega arith) (omega arith) ∙ omega arith)
]

pub falls : (m t k : ℕ) → t < m → k ≤ t → corner_after false m t k ≡ t - k
falls m t zero h l = omega arith
falls m t (suc k) h l =
    let next : next_corner false m t ≡ t - 1 = grind (arith, nat_tests) in
    rw next (falls m (t - 1) k (omega arith) (omega arith) ∙ omega arith)

pub falls_past : (m t k : ℕ) → t < m → k ≤ m → t < k → corner_after false m t k ≡ t + m - k
falls_past m t zero h l p = absurd (omega arith)
falls_past m t (suc k) h l p = elim (cases_lt 0 t) [
  | inl more ↦
      let next : next_corner false m t ≡ t - 1 = grind (arith, nat_tests) in
      rw next (falls_past m (t - 1) k (omega arith) (omega arith) (omega arith) ∙ omega arith)
  | inr first ↦
      let next : next_corner false m t ≡ m - 1 = grind (arith, nat_tests) in
      rw next (falls m (m - 1) k (omega arith) (omega arith) ∙ omega arith)
]

-- k steps one way and the other steps the other way lead to the same corner
meet_rising : (m t k : ℕ) → t < m → k ≤ m → corner_after true m t k ≡ corner_after false m t (m - k)
meet_rising m t k h l = grind (arith, rises, falls_past, rises_past, falls)

pub meet : (rising : Bool) (m t k : ℕ) → t < m → k ≤ m → corner_after rising m t k ≡ corner_after (not rising) m t (m - k)
meet true m t k h l = meet_rising m t k h l
meet false m t k h l = grind (arith, meet_rising)
