-- The numbers of the vertices of a chain: row for row, and torus for torus, they rise by one.
use Rattle.surf_gen.proofs.Common.{◌≡◌, ℕ, zero, suc, ◌+◌, ◌-◌, ◌*◌, ◌<◌, ◌≤◌, Bool, true, false, not, ◌++◌, length, map, arith, sym, subst, ap, ◌∙◌, refl, and-false, length-map, mul-le-mul_left, lt-ltb, le-ltb, ne_eqb, length-range_with_len, range_with_len, filter, nat_lt, ◌==◌, ◌&&◌, if◌then◌else◌, point, is_glued, partner, glued_before, vertices, vertex_number, number, points_of_row, points_of_torus, Point}
use Rattle.surf_gen.proofs.StretchLemmas.{same_range, stretch_kept, stretch_gone, stretch_numbers, row_split, Rises, rises_along}

-- whether a point is a vertex of its own
abbrev pub is_vertex : Point → Bool
is_vertex p = not (is_glued p)

-- how many points before a row of a torus are glued to others
abbrev pub glued_above : ℕ → ℕ → ℕ
glued_above zero row = 0
glued_above (suc t) zero = 4 * t
glued_above (suc t) (suc zero) = 4 * t + 2
glued_above (suc t) (suc (suc row)) = 4 * t + 4

-- how many vertices come before a row of a torus
abbrev pub first_number : ℕ → ℕ → ℕ → ℕ
first_number grid torus row = (torus * grid + row) * grid - glued_above torus row

-- a torus has more than four points
enough : (grid t row : ℕ) → 5 ≤ grid → 4 * t ≤ (t * grid + row) * grid
enough grid t row wide =
    let rows : t * 5 ≤ t * grid = mul-le-mul_left t wide in
    let points : (t * grid + row) * 1 ≤ (t * grid + row) * grid = mul-le-mul_left (t * grid + row) (omega arith) in
    omega arith

-- ---- which points are glued

glued : (t row c : ℕ) → 0 < t → row < 2 → c < 2 → is_glued (point t row c) ≡ true
glued t row c later near_row near_column =
    ap (λ b. (b && nat_lt row 2) && nat_lt c 2) (lt-ltb 0 t later)
    ∙ ap (λ b. (true && b) && nat_lt c 2) (lt-ltb row 2 near_row)
    ∙ ap (λ b. (true && true) && b) (lt-ltb c 2 near_column)

far_column : (t row c : ℕ) → 2 ≤ c → is_glued (point t row c) ≡ false
far_column t row c far = ap (λ b. (nat_lt 0 t && nat_lt row 2) && b) (le-ltb c 2 far) ∙ and-false (nat_lt 0 t && nat_lt row 2)

pub far_row : (t row c : ℕ) → 2 ≤ row → is_glued (point t row c) ≡ false
far_row t row c far =
    ap (λ b. (nat_lt 0 t && b) && nat_lt c 2) (le-ltb row 2 far) ∙ ap (λ b. b && nat_lt c 2) (and-false (nat_lt 0 t))

-- ---- the numbers of the others

pub number_own : (grid : ℕ) (p : Point) → is_glued p ≡ false → number grid p ≡ vertex_number grid p
number_own grid p own = ap (λ b. if b then vertex_number grid (partner p) else vertex_number grid p) own

in_first_row : (t c : ℕ) → 0 < t → glued_before (point t 0 c) ≡ 4 * (t - 1) + 2
in_first_row t c later = ap (λ b. if b then 0 else 4 * (t - 1) + 2) (ne_eqb t 0 (λ same. omega arith))

in_later_row : (t row c : ℕ) → 0 < t → 0 < row → glued_before (point t row c) ≡ 4 * (t - 1) + 4
in_later_row t row c later below =
    ap (λ b. if b then 0 else 4 * (t - 1) + (if row == 0 then 2 else 4)) (ne_eqb t 0 (λ same. omega arith))
    ∙ ap (λ b. 4 * (t - 1) + (if b then 2 else 4)) (ne_eqb row 0 (λ same. omega arith))

-- a row of which all points are vertices
full_row : (grid t row first : ℕ) → ((c : ℕ) → is_glued (point t row c) ≡ false)
    → ((c : ℕ) → number grid (point t row c) + 0 ≡ first + c)
    → map (number grid) (filter is_vertex (points_of_row grid t row)) ≡ range_with_len first grid
full_row grid t row first own rise =
    ap (map (number grid)) (stretch_kept is_vertex (point t row) 0 grid (λ c low high. ap not (own c)))
    ∙ stretch_numbers (number grid) (point t row) 0 first grid (λ c low high. rise c)

-- a row of which two points are glued to others
short_row : (grid t row first : ℕ) → 2 ≤ grid → ((c : ℕ) → c < 2 → is_glued (point t row c) ≡ true)
    → ((c : ℕ) → 2 ≤ c → is_glued (point t row c) ≡ false)
    → ((c : ℕ) → 2 ≤ c → number grid (point t row c) + 2 ≡ first + c)
    → map (number grid) (filter is_vertex (points_of_row grid t row)) ≡ range_with_len first (grid - 2)
short_row grid t row first wide glued own rise =
    let f = point t row in
    let all : grid ≡ 2 + (grid - 2) = omega arith in
    let split : filter is_vertex (map f (range_with_len 0 grid)) ≡ filter is_vertex (map f (range_with_len 2 (grid - 2))) =
    ap (λ n. filter is_vertex (map f (range_with_len 0 n))) all
    ∙ row_split is_vertex f 2 (grid - 2)
    ∙ ap (λ ps. ps ++ filter is_vertex (map f (range_with_len 2 (grid - 2))))
    (stretch_gone is_vertex f 0 2 (λ c low high. ap not (glued c high))) in
    ap (map (number grid)) (split ∙ stretch_kept is_vertex f 2 (grid - 2) (λ c low high. ap not (own c low)))
    ∙ stretch_numbers (number grid) f 2 first (grid - 2) (λ c low high. rise c low)

row_rises : (grid t row : ℕ) → 5 ≤ grid
    → Rises (number grid) is_vertex (points_of_row grid t row) (first_number grid t row) (first_number grid t (suc row))
row_rises grid zero row wide =
    record {
      numbers =
          full_row grid 0 row (first_number grid 0 row) (λ c. refl) (λ c. omega arith)
          ∙ same_range _ _ grid (first_number grid 0 (suc row) - first_number grid 0 row) refl (omega arith);
      rises = omega arith;
    }
row_rises grid (suc t) zero wide =
    let many = enough grid (suc t) 0 wide in
    record {
      numbers =
          short_row grid (suc t) 0 (first_number grid (suc t) 0) (omega arith)
          (λ c near. glued (suc t) 0 c (omega arith) (omega arith) near)
          (λ c far. far_column (suc t) 0 c far)
          (λ c far. omega (arith, number_own grid (point (suc t) 0 c) (far_column (suc t) 0 c far), in_first_row (suc t) c (omega arith)))
          ∙ same_range _ _ (grid - 2) (first_number grid (suc t) 1 - first_number grid (suc t) 0) refl (omega arith);
      rises = omega arith;
    }
row_rises grid (suc t) (suc zero) wide =
    let many = enough grid (suc t) 0 wide in
    record {
      numbers =
          short_row grid (suc t) 1 (first_number grid (suc t) 1) (omega arith)
          (λ c near. glued (suc t) 1 c (omega arith) (omega arith) near)
          (λ c far. far_column (suc t) 1 c far)
          (λ c far.
          let own = number_own grid (point (suc t) 1 c) (far_column (suc t) 1 c far) in
          omega (arith, in_later_row (suc t) 1 c (omega arith) (omega arith)))
          ∙ same_range _ _ (grid - 2) (first_number grid (suc t) 2 - first_number grid (suc t) 1) refl (omega arith);
      rises = omega arith;
    }
row_rises grid (suc t) (suc (suc k)) wide =
    let row = suc (suc k) in
    let many = enough grid (suc t) 0 wide in
    let own : (c : ℕ) → is_glued (point (suc t) row c) ≡ false = λ c. far_row (suc t) row c (omega arith) in
    record {
      numbers =
          full_row grid (suc t) row (first_number grid (suc t) row) own
          (λ c. omega (arith, number_own grid (point (suc t) row c) (own c), in_later_row (suc t) row c (omega arith) (omega arith)))
          ∙ same_range _ _ grid (first_number grid (suc t) (suc row) - first_number grid (suc t) row) refl (omega arith);
      rises = omega arith;
    }

-- behind the last row of a torus the next torus begins
last_row : (grid t : ℕ) → 2 ≤ grid → first_number grid t grid ≡ first_number grid (suc t) 0
last_row zero t wide = absurd (omega arith)
last_row (suc zero) t wide = absurd (omega arith)
last_row (suc (suc k)) zero wide = omega arith
last_row (suc (suc k)) (suc t) wide = omega arith

torus_rises : (grid t : ℕ) → 5 ≤ grid
    → Rises (number grid) is_vertex (points_of_torus grid t) (first_number grid t 0) (first_number grid (suc t) 0)
torus_rises grid t wide =
    let rows = rises_along (number grid) is_vertex (points_of_row grid t) (first_number grid t) grid
    (λ row lt. row_rises grid t row wide) in
    subst (λ end. Rises (number grid) is_vertex (points_of_torus grid t) (first_number grid t 0) end) (last_row grid t (omega arith)) rows

-- the vertices of a chain are numbered in order, from 0 on
pub numbers_rise : (genus grid : ℕ) → 5 ≤ grid → map (number grid) (vertices genus grid) ≡ range_with_len 0 (first_number grid genus 0)
numbers_rise genus grid wide =
    let tori = rises_along (number grid) is_vertex (points_of_torus grid) (λ t. first_number grid t 0) genus
    (λ t lt. torus_rises grid t wide) in
    tori.numbers ∙ same_range (first_number grid 0 0) 0 (first_number grid genus 0 - first_number grid 0 0) (first_number grid genus 0)
    (omega arith) (omega arith)

-- how many vertices there are
pub vertex_total : (genus grid : ℕ) → 5 ≤ grid → length (vertices genus grid) ≡ first_number grid genus 0
vertex_total genus grid wide =
    sym (length-map (vertices genus grid) (number grid))
    ∙ ap length (numbers_rise genus grid wide)
    ∙ length-range_with_len 0 (first_number grid genus 0)

pub vertex_count : (genus grid : ℕ) → 1 ≤ genus → 5 ≤ grid → length (vertices genus grid) ≡ genus * grid * grid - 4 * (genus - 1)
vertex_count zero grid some wide = absurd (omega arith)
vertex_count (suc g) grid some wide = omega (arith, vertex_total (suc g) grid wide)
