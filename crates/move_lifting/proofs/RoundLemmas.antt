-- Round a face: the corners that steps one way or the other meet, and the rest of a face turned round.
use Rattle.move_lifting.proofs.Common.{◌≡◌, ℕ, zero, suc, ◌+◌, ◌-◌, ◌<◌, Bool, not, List, [], ◌∷◌, ◌++◌, length, get_or, refl, ap, sym, ◌∙◌, arith, reverse-append, reverse, step_within, corner_after, corners_before, last_corner, meet, next_corner, corners_from, after_back}

pub before-from : (ring : List ℕ) (rising : Bool) (t k : ℕ) → corners_before ring rising t (suc k) ≡ corners_from ring rising t k
before-from ring rising t zero = refl
before-from ring rising t (suc k) =
    ap (λ (l : List ℕ). get_or ring t 0 ∷ l) (before-from ring rising (next_corner rising (length ring) t) k)

-- one corner more at the end
pub corners_more : (ring : List ℕ) (rising : Bool) (t k : ℕ)
    → corners_from ring rising t (suc k) ≡ corners_from ring rising t k ++ get_or ring (corner_after rising (length ring) t (suc k)) 0 ∷ []
corners_more ring rising t k = grind (arith, last_corner, before-from)

-- corners that are read the other way
pub corners_turned : (ring : List ℕ) (rising : Bool) (t k : ℕ) → t < length ring
    → reverse (corners_from ring rising t k) ≡ corners_from ring (not rising) (corner_after rising (length ring) t k) k
corners_turned ring rising t zero l = refl
corners_turned ring rising t (suc k) l =
    let m : ℕ = length ring in
    let next : ℕ = next_corner rising m t in
    let end : ℕ = corner_after rising m next k in
    let home : corner_after (not rising) m end (suc k) ≡ t = after_back rising m t (suc k) l in
    reverse-append (get_or ring t 0 ∷ []) (corners_from ring rising next k)
    ∙ ap (λ (w : List ℕ). w ++ get_or ring t 0 ∷ []) (corners_turned ring rising next k (step_within rising m t l))
    ∙ sym (corners_more ring (not rising) end k ∙ ap (λ (c : ℕ). corners_from ring (not rising) end k ++ get_or ring c 0 ∷ []) home)

-- the rest of a face beyond the step from a corner: read from the step's end, and turned round, it is read the other way from the corner
pub rest_turned : (ring : List ℕ) (rising : Bool) (t k : ℕ) → t < length ring → k + 2 ≡ length ring
    → reverse (corners_from ring rising (next_corner rising (length ring) t) k) ≡ corners_from ring (not rising)
    (next_corner (not rising) (length ring) t) k
rest_turned ring rising t k l all = grind (arith, meet, corners_turned, step_within)

-- the last corner of the rest is where the step ends
pub rest_ends : (rising : Bool) (m t : ℕ) → t < m → corner_after (not rising) m t (m - 1) ≡ next_corner rising m t
rest_ends rising m t l = sym (meet rising m t 1 l (omega arith))
