-- Going round a face, by rising and by falling places.
use Rattle.halfedge_map.proofs.Common.{IsReached, ◌≡◌, ℕ, zero, suc, ◌+◌, ◌-◌, ◌<◌, Bool, true, false, not, ap, ◌∙◌, subst, arith, nat_tests, next_corner}
use Rattle.halfedge_map.proofs.OrbitLemmas.{IsPermutationBelow, reached_trans, reached_undone}

pub corner_within : (rising : Bool) (m t : ℕ) → t < m → next_corner rising m t < m
corner_within true m t l = grind (arith, nat_tests)
corner_within false m t l = grind (arith, nat_tests)

-- one place on and one place back
pub corner_back : (rising : Bool) (m t : ℕ) → t < m → next_corner (not rising) m (next_corner rising m t) ≡ t
corner_back true m t l = grind (arith, nat_tests)
corner_back false m t l = grind (arith, nat_tests)

pub corners_permuted : (rising : Bool) (m : ℕ) → IsPermutationBelow m (next_corner rising m)
corners_permuted rising m = grind (arith, corner_within, corner_back)

rising_one : (m t : ℕ) → t + 1 < m → next_corner true m t ≡ t + 1
rising_one m t l = grind (arith, nat_tests)

rising_last : (m t : ℕ) → t + 1 ≡ m → next_corner true m t ≡ 0
rising_last m t e = grind (arith, nat_tests)

rising_up : (m t k : ℕ) → t + k < m → IsReached (next_corner true m) t (t + k)
rising_up m t zero l = record { steps = 0; leads = omega arith }
rising_up m t (suc k) l =
    let before : IsReached (next_corner true m) t (t + k) = rising_up m t k (omega arith) in
    let one : next_corner true m (t + k) ≡ t + suc k = grind (arith, rising_one) in
    record { steps = suc before.steps; leads = ap (next_corner true m) before.leads ∙ one }

rising_reached : (m t u : ℕ) → t < m → u < m → IsReached (next_corner true m) t u
rising_reached m t u l k =
    let to_last : IsReached (next_corner true m) t (m - 1) =
    subst (IsReached (next_corner true m) t) (omega arith) (rising_up m t (m - 1 - t) (omega arith)) in
    let wrap : IsReached (next_corner true m) (m - 1) 0 = record { steps = 1; leads = rising_last m (m - 1) (omega arith) } in
    let up : IsReached (next_corner true m) 0 u = subst (IsReached (next_corner true m) 0) (omega arith) (rising_up m 0 u (omega arith)) in
    reached_trans (next_corner true m) t 0 u (reached_trans (next_corner true m) t (m - 1) 0 to_last wrap) up

-- each corner of a face is reached from each other
pub corner_reached : (rising : Bool) (m t u : ℕ) → t < m → u < m → IsReached (next_corner rising m) t u
corner_reached true m t u l k = rising_reached m t u l k
corner_reached false m t u l k =
    reached_undone m (next_corner true m) (next_corner false m) (corners_permuted true m) (corner_back true m) u t k
    (rising_reached m u t k l)
