-- The corners of a face: as many steps back, once round, the steps that lead from one to another, and which of them are apart.
use Rattle.std.proofs.Common.{◌≡◌, ◌≢◌, inl, inr, ℕ, zero, suc, ◌+◌, ◌-◌, ◌<◌, ◌≤◌, Bool, true, false, not, List, [], ◌∷◌, ◌++◌, length, get_or, refl, ap, sym, ◌∙◌, arith}
use Rattle.std.proofs.lemmas.Bool.{cases_lt}
use Rattle.std.proofs.lemmas.Bool.Decides.{nat_tests}
use Rattle.surf_model.specs.FaceLists.{next_corner, corners_from}
use Rattle.surf_model.proofs.EdgeLemmas.{step_within}
use Rattle.surf_model.proofs.RoundLemmas.{corner_after, rises, rises_past, falls, falls_past, meet}
use Rattle.walk_actions.specs.Actions.{vertices_beyond}

pub next_back : (rising : Bool) (m t : ℕ) → t < m → next_corner (not rising) m (next_corner rising m t) ≡ t
next_back true m t l = grind (arith, nat_tests)
next_back false m t l = grind (arith, nat_tests)

pub next_forth : (rising : Bool) (m t : ℕ) → t < m → next_corner rising m (next_corner (not rising) m t) ≡ t
next_forth true m t l = next_back false m t l
next_forth false m t l = next_back true m t l

pub after_within : (rising : Bool) (m t k : ℕ) → t < m → corner_after rising m t k < m
after_within rising m t zero l = l
after_within rising m t (suc k) l = after_within rising m (next_corner rising m t) k (step_within rising m t l)

-- the last of the steps
pub after_more : (rising : Bool) (m t k : ℕ) → corner_after rising m t (suc k) ≡ next_corner rising m (corner_after rising m t k)
after_more rising m t zero = refl
after_more rising m t (suc k) = after_more rising m (next_corner rising m t) k

pub after_add : (rising : Bool) (m t j k : ℕ) → corner_after rising m t (j + k) ≡ corner_after rising m (corner_after rising m t j) k
after_add rising m t zero k = let none : 0 + k ≡ k = omega arith in ap (corner_after rising m t) none
after_add rising m t (suc j) k =
    let up : suc j + k ≡ suc (j + k) = omega arith in
    ap (corner_after rising m t) up ∙ after_add rising m (next_corner rising m t) j k

-- as many steps back
pub after_back : (rising : Bool) (m t k : ℕ) → t < m → corner_after (not rising) m (corner_after rising m t k) k ≡ t
after_back rising m t zero l = refl
after_back rising m t (suc k) l =
    let next : ℕ = next_corner rising m t in
    after_more (not rising) m (corner_after rising m next k) k
    ∙ ap (next_corner (not rising) m) (after_back rising m next k (step_within rising m t l)) ∙ next_back rising m t l

pub once_round : (rising : Bool) (m t : ℕ) → t < m → corner_after rising m t m ≡ t
once_round rising m t l =
    let none : m - m ≡ 0 = omega arith in
    meet rising m t m l (omega arith) ∙ ap (corner_after (not rising) m t) none

-- so many steps lead from a corner to another
pub steps_to : (rising : Bool) (m t to : ℕ) → t < m → to < m → (k : ℕ) × (corner_after rising m t k ≡ to)
steps_to true m t to l b =
    elim (cases_lt to t) [
      | inl less ↦ (to + m - t, rises_past m t (to + m - t) l (omega arith) (omega arith) ∙ omega arith)
      | inr more ↦ (to - t, rises m t (to - t) l (omega arith) ∙ omega arith)
    ]
steps_to false m t to l b =
    elim (cases_lt t to) [
      | inl less ↦ (t + m - to, falls_past m t (t + m - to) l (omega arith) (omega arith) ∙ omega arith)
      | inr more ↦ (t - to, falls m t (t - to) l (omega arith) ∙ omega arith)
    ]

-- different numbers of steps, fewer apart than there are corners, lead to different corners
rising_apart : (m t p q : ℕ) → t < m → p < q → q < p + m → q ≤ m → corner_after true m t p ≢ corner_after true m t q
rising_apart m t p q l less few most same =
    elim (cases_lt (t + q) m) [
      | inl on ↦ omega (arith, rises m t p l (omega arith), rises m t q l on, same)
      | inr past ↦ elim (cases_lt (t + p) m) [
        | inl on ↦ omega (arith, rises m t p l on, rises_past m t q l most past, same)
        | inr over ↦ omega (arith, rises_past m t p l (omega arith) over, rises_past m t q l most past, same)
      ]
    ]

pub corners_apart : (rising : Bool) (m t p q : ℕ) → t < m → p < q → q < p + m → q ≤ m
    → corner_after rising m t p ≢ corner_after rising m t q
corners_apart true m t p q l less few most same = rising_apart m t p q l less few most same
corners_apart false m t p q l less few most same =
    rising_apart m t (m - q) (m - p) l (omega arith) (omega arith) (omega arith)
    (sym (sym (meet false m t p l (omega arith)) ∙ same ∙ meet false m t q l most))

pub corners_beyond : (ring : List ℕ) (rising : Bool) (t k : ℕ)
    → corners_from ring rising t k ≡ get_or ring t 0 ∷ vertices_beyond ring rising t k
corners_beyond ring rising t zero = refl
corners_beyond ring rising t (suc k) =
    ap (λ (l : List ℕ). get_or ring t 0 ∷ l) (corners_beyond ring rising (next_corner rising (length ring) t) k)

pub beyond_more : (ring : List ℕ) (rising : Bool) (t k : ℕ)
    → vertices_beyond ring rising t (suc k)
    ≡ vertices_beyond ring rising t k ++ get_or ring (corner_after rising (length ring) t (suc k)) 0 ∷ []
beyond_more ring rising t zero = refl
beyond_more ring rising t (suc k) =
    let next : ℕ = next_corner rising (length ring) t in
    ap (λ (l : List ℕ). get_or ring next 0 ∷ l) (beyond_more ring rising next k)
