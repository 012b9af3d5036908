-- Ways round a face, corner by corner.
use Rattle.move_checker.proofs.Common.{◌≡◌, ℕ, zero, suc, ◌+◌, ◌-◌, ◌<◌, ◌≤◌, ◌≢◌, Bool, List, length, get_or, refl, ap, sym, ◌∙◌, arith, below_more, add-one, ext_get_or, length-corners_from, next_corner, corners_from}

-- a step, so many times
abbrev pub repeated : (ℕ → ℕ) → ℕ → ℕ → ℕ
repeated step t zero = t
repeated step t (suc k) = repeated step (step t) k

repeated-suc : (step : ℕ → ℕ) (t k : ℕ) → repeated step t (suc k) ≡ step (repeated step t k)
repeated-suc step t zero = refl
repeated-suc step t (suc k) = repeated-suc step (step t) k

repeated-more : (step : ℕ → ℕ) (t k : ℕ) → repeated step t (k + 1) ≡ step (repeated step t k)
repeated-more step t k = rw add-one (repeated-suc step t k)

-- the corner that so many steps lead to
abbrev pub corner_after : Bool → ℕ → ℕ → ℕ → ℕ
corner_after rising m t k = repeated (next_corner rising m) t k

pub corner_after-more : (rising : Bool) (m t k : ℕ) → corner_after rising m t (k + 1) ≡ next_corner rising m (corner_after rising m t k)
corner_after-more rising m t k = repeated-more (next_corner rising m) t k

pub get_or-corners_from : (face : List ℕ) (rising : Bool) (t k i : ℕ) → i ≤ k
    → get_or (corners_from face rising t k) i 0 ≡ get_or face (corner_after rising (length face) t i) 0
get_or-corners_from face rising t zero zero h = refl
get_or-corners_from face rising t zero (suc i) h = absurd (omega arith)
get_or-corners_from face rising t (suc k) zero h = refl
get_or-corners_from face rising t (suc k) (suc i) h = get_or-corners_from face rising (next_corner rising (length face) t) k i (omega arith)

-- the first i entries read a way round a face, which goes on at the corner
pub record IsOnWay (face : List ℕ) (rising : Bool) (start : ℕ) (entries : List ℕ) (i corner : ℕ) : Type 0 where
  pub reached : corner ≡ corner_after rising (length face) start i
  pub within : corner < length face
  pub read : (k : ℕ) → k < i → get_or entries k 0 ≡ get_or face (corner_after rising (length face) start k) 0

-- one entry more
pub on_way_more : (face : List ℕ) (rising : Bool) (start : ℕ) (entries after : List ℕ) (i corner next : ℕ)
    → IsOnWay face rising start entries i corner
    → ((k : ℕ) → k < i → get_or after k 0 ≡ get_or entries k 0) → get_or after i 0 ≡ get_or face corner 0
    → next ≡ next_corner rising (length face) corner → next < length face → IsOnWay face rising start after (i + 1) next
on_way_more face rising start entries after i corner next w same here e l = record {
  reached = e ∙ ap (next_corner rising (length face)) w.reached ∙ sym (corner_after-more rising (length face) start i);
  within = l;
  read = below_more (λ k. get_or after k 0 ≡ get_or face (corner_after rising (length face) start k) 0) i
      (λ k h. same k h ∙ w.read k h)
      (here ∙ ap (λ t. get_or face t 0) w.reached);
}

-- all entries
pub on_way_all : (face : List ℕ) (rising : Bool) (start : ℕ) (entries : List ℕ) (i corner : ℕ) → IsOnWay face rising start entries i corner
    → i ≡ length entries → 0 < length entries → entries ≡ corners_from face rising start (length entries - 1)
on_way_all face rising start entries i corner w e some =
    ext_get_or 0 entries (corners_from face rising start (length entries - 1))
    (omega (arith, length-corners_from face rising start (length entries - 1)))
    (λ k h. w.read k (omega arith) ∙ sym (get_or-corners_from face rising start (length entries - 1) k (omega arith)))

-- an entry that is another vertex
pub off_way : (face : List ℕ) (rising : Bool) (start : ℕ) (entries : List ℕ) (i corner : ℕ) → IsOnWay face rising start entries i corner
    → i < length entries → get_or entries i 0 ≢ get_or face corner 0 → entries ≢ corners_from face rising start (length entries - 1)
off_way face rising start entries i corner w h ne e =
    ne (ap (λ l. get_or l i 0) e
    ∙ get_or-corners_from face rising start (length entries - 1) i (omega arith)
    ∙ ap (λ t. get_or face t 0) (sym w.reached))
