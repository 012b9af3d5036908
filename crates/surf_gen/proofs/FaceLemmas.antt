-- The faces of a chain are quads of its vertices: their corners are in range, and neighbours differ.
use Rattle.surf_gen.proofs.Common.{◌≡◌, ◌≢◌, ℕ, zero, suc, ◌+◌, ◌-◌, ◌*◌, ◌%◌, ◌<◌, ◌≤◌, Bool, true, false, not, cond, List, [], ◌∷◌, ◌++◌, length, map, arith, sym, subst, ap, ◌∙◌, refl, inl, inr, mul-le-mul_left, mod-eq_of_lt, mod_self, ltb-true, and_parts, cases_lt, All-nil, All-cons, All-append, All-filter, range_with_len, filter, flat_map, ◌⊎◌, nat_lt, ◌&&◌, if◌then◌else◌, All, point, points, is_glued, is_cut_out, partner, vertices, cells, vertex_number, number, next_in_ring, points_of_row, points_of_torus, Point}
use Rattle.surf_gen.specs.Places.{IsPoint}
use Rattle.surf_gen.proofs.NumberLemmas.{is_vertex, first_number, number_own, far_row, numbers_rise, vertex_total}

-- ---- elements of lists

abbrev In : {X : Type 0} → X → List X → Type 0
In x [] = ⊥
In x (y ∷ ys) = (y ≡ x) ⊎ In x ys

in_front : {X : Type 0} (x : X) (xs ys : List X) → In x xs → In x (xs ++ ys)
in_front x [] ys found = absurd found
in_front x (y ∷ xs) ys (inl same) = inl same
in_front x (y ∷ xs) ys (inr later) = inr (in_front x xs ys later)

in_back : {X : Type 0} (x : X) (xs ys : List X) → In x ys → In x (xs ++ ys)
in_back x [] ys found = found
in_back x (y ∷ xs) ys found = inr (in_back x xs ys found)

in_range : (k a n : ℕ) → a ≤ k → k < a + n → In k (range_with_len a n)
in_range k a zero low high = absurd (omega arith)
in_range k a (suc n) low high =
    elim (cases_lt a k) as (λ _. (a ≡ k) ⊎ In k (range_with_len (a + 1) n)) [
      | inl less ↦ inr (in_range k (a + 1) n (omega arith) (omega arith))
      | inr more ↦ inl (omega arith)
    ]

in_map : {X Y : Type 0} (f : X → Y) (x : X) (xs : List X) → In x xs → In (f x) (map f xs)
in_map f x [] found = absurd found
in_map f x (y ∷ xs) (inl same) = inl (ap f same)
in_map f x (y ∷ xs) (inr later) = inr (in_map f x xs later)

in_flat_map : {X Y : Type 0} (f : X → List Y) (x : X) (y : Y) (xs : List X) → In x xs → In y (f x) → In y (flat_map f xs)
in_flat_map f x y [] none found = absurd none
in_flat_map f x y (z ∷ xs) (inl same) found = in_front y (f z) (flat_map f xs) (subst (λ w. In y (f w)) (sym same) found)
in_flat_map f x y (z ∷ xs) (inr later) found = in_back y (f z) (flat_map f xs) (in_flat_map f x y xs later found)

in_cond : {X : Type 0} (b : Bool) (x y : X) (xs : List X) → In x xs → In x (cond b (y ∷ xs) xs)
in_cond true x y xs found = inr found
in_cond false x y xs found = found

in_filter : {X : Type 0} (keep : X → Bool) (x : X) (xs : List X) → keep x ≡ true → In x xs → In x (filter keep xs)
in_filter keep x [] kept found = absurd found
in_filter keep x (y ∷ xs) kept (inl same) =
    subst (λ b. In x (cond b (y ∷ filter keep xs) (filter keep xs))) (sym (ap keep same ∙ kept)) (inl same)
in_filter keep x (y ∷ xs) kept (inr later) = in_cond (keep y) x y (filter keep xs) (in_filter keep x xs kept later)

-- ---- numbers that rise by one along a list

within_rise : (f : Point → ℕ) (p : Point) (ps : List Point) (a n : ℕ) → map f ps ≡ range_with_len a n → In p ps
    → (a ≤ f p) × (f p < a + n)
within_rise f p [] a n rise found = absurd found
within_rise f p (q ∷ ps) a zero rise found = cc
within_rise f p (q ∷ ps) a (suc n) rise (inl same) =
    let first : f q ≡ a = cc in
    let here : f p ≡ a = ap f (sym same) ∙ first in (omega arith, omega arith)
within_rise f p (q ∷ ps) a (suc n) rise (inr later) =
    let rest : map f ps ≡ range_with_len (a + 1) n = cc in
    let there = within_rise f p ps (a + 1) n rest later in (omega (arith, there.0), omega (arith, there.1))

one_each : (f : Point → ℕ) (p q : Point) (ps : List Point) (a n : ℕ) → map f ps ≡ range_with_len a n → In p ps → In q ps → f p ≡ f q
    → p ≡ q
one_each f p q [] a n rise found other same = absurd found
one_each f p q (s ∷ ps) a zero rise found other same = cc
one_each f p q (s ∷ ps) a (suc n) rise (inl here) (inl there) same = sym here ∙ there
one_each f p q (s ∷ ps) a (suc n) rise (inl here) (inr there) same =
    let first : f s ≡ a = cc in
    let rest : map f ps ≡ range_with_len (a + 1) n = cc in
    let above = within_rise f q ps (a + 1) n rest there in
    let low : f p ≡ a = ap f (sym here) ∙ first in
    absurd (omega (arith, above.0))
one_each f p q (s ∷ ps) a (suc n) rise (inr here) (inl there) same =
    let first : f s ≡ a = cc in
    let rest : map f ps ≡ range_with_len (a + 1) n = cc in
    let above = within_rise f p ps (a + 1) n rest here in
    let low : f q ≡ a = ap f (sym there) ∙ first in
    absurd (omega (arith, above.0))
one_each f p q (s ∷ ps) a (suc n) rise (inr here) (inr there) same =
    let rest : map f ps ≡ range_with_len (a + 1) n = cc in
    one_each f p q ps (a + 1) n rest here there same

-- ---- the vertex that a point is

in_points : (genus grid : ℕ) (p : Point) → IsPoint genus grid p → In p (points genus grid)
in_points genus grid p at =
    in_flat_map (points_of_torus grid) p.torus p (range_with_len 0 genus)
    (in_range p.torus 0 genus (omega arith) (omega (arith, at.torus)))
    (in_flat_map (points_of_row grid p.torus) p.row p (range_with_len 0 grid) (in_range p.row 0 grid (omega arith) (omega (arith, at.row)))
    (in_map (point p.torus p.row) p.column (range_with_len 0 grid) (in_range p.column 0 grid (omega arith) (omega (arith, at.column)))))

in_vertices : (genus grid : ℕ) (p : Point) → IsPoint genus grid p → is_glued p ≡ false → In p (vertices genus grid)
in_vertices genus grid p at own = in_filter is_vertex p (points genus grid) (ap not own) (in_points genus grid p at)

glued_where : (p : Point) → is_glued p ≡ true → (0 < p.torus) × (p.row < 2) × (p.column < 2)
glued_where p glued =
    let outer = and_parts (nat_lt 0 p.torus && nat_lt p.row 2) (nat_lt p.column 2) glued in
    let inner = and_parts (nat_lt 0 p.torus) (nat_lt p.row 2) outer.0 in
    (ltb-true 0 p.torus inner.0, ltb-true p.row 2 inner.1, ltb-true p.column 2 outer.1)

partner_own : (p : Point) → is_glued (partner p) ≡ false
partner_own p = far_row (p.torus - 1) (2 + p.column) (2 + p.row) (omega arith)

partner_at : (genus grid : ℕ) (p : Point) → 5 ≤ grid → IsPoint genus grid p → is_glued p ≡ true → IsPoint genus grid (partner p)
partner_at genus grid p wide at glued =
    let near = glued_where p glued in
    record { torus = omega (arith, at.torus); row = omega (arith, near.2); column = omega (arith, near.1) }

partner_number : (grid : ℕ) (p : Point) → is_glued p ≡ true → number grid (partner p) ≡ number grid p
partner_number grid p glued =
    number_own grid (partner p) (partner_own p) ∙ sym (ap (λ b. if b then vertex_number grid (partner p) else vertex_number grid p) glued)

-- where a point is a vertex: itself, or its partner
abbrev home : Bool → Point → Point
home glued p = if glued then partner p else p

home_in : (genus grid : ℕ) (p : Point) (glued : Bool) → 5 ≤ grid → IsPoint genus grid p → is_glued p ≡ glued
    → In (home glued p) (vertices genus grid)
home_in genus grid p true wide at glued = in_vertices genus grid (partner p) (partner_at genus grid p wide at glued) (partner_own p)
home_in genus grid p false wide at own = in_vertices genus grid p at own

home_number : (grid : ℕ) (p : Point) (glued : Bool) → is_glued p ≡ glued → number grid (home glued p) ≡ number grid p
home_number grid p true glued = partner_number grid p glued
home_number grid p false own = refl

-- points of one torus have different homes
homes_apart : (p q : Point) (a b : Bool) → is_glued p ≡ a → is_glued q ≡ b → p.torus ≡ q.torus
    → (p.row ≡ q.row → p.column ≡ q.column → ⊥) → home a p ≡ home b q → ⊥
homes_apart p q true true ga gb torus apart same =
    let columns : 2 + p.column ≡ 2 + q.column = ap (λ s. s.row) same in
    let rows : 2 + p.row ≡ 2 + q.row = ap (λ s. s.column) same in
    apart (omega arith) (omega arith)
homes_apart p q true false ga gb torus apart same =
    let tori : p.torus - 1 ≡ q.torus = ap (λ s. s.torus) same in
    let later = (glued_where p ga).0 in
    omega (arith, later)
homes_apart p q false true ga gb torus apart same =
    let tori : p.torus ≡ q.torus - 1 = ap (λ s. s.torus) same in
    let later = (glued_where q gb).0 in
    omega (arith, later)
homes_apart p q false false ga gb torus apart same = apart (ap (λ s. s.row) same) (ap (λ s. s.column) same)

pub numbers_apart : (genus grid : ℕ) (p q : Point) → 5 ≤ grid → IsPoint genus grid p → IsPoint genus grid q → p.torus ≡ q.torus
    → (p.row ≡ q.row → p.column ≡ q.column → ⊥) → number grid p ≢ number grid q
numbers_apart genus grid p q wide at_p at_q torus apart same =
    homes_apart p q (is_glued p) (is_glued q) refl refl torus apart
    (one_each (number grid) (home (is_glued p) p) (home (is_glued q) q) (vertices genus grid) 0 (first_number grid genus 0)
    (numbers_rise genus grid wide) (home_in genus grid p (is_glued p) wide at_p refl) (home_in genus grid q (is_glued q) wide at_q refl)
    (home_number grid p (is_glued p) refl ∙ same ∙ sym (home_number grid q (is_glued q) refl)))

pub number_below : (genus grid : ℕ) (p : Point) → 5 ≤ grid → IsPoint genus grid p → number grid p < length (vertices genus grid)
number_below genus grid p wide at =
    let inside = within_rise (number grid) (home (is_glued p) p) (vertices genus grid) 0 (first_number grid genus 0)
    (numbers_rise genus grid wide) (home_in genus grid p (is_glued p) wide at refl) in
    omega (arith, inside.1, home_number grid p (is_glued p) refl, vertex_total genus grid wide)

-- ---- faces

-- four numbers below a count, of which neighbours in a ring differ
pub record IsQuad (count a b c d : ℕ) : Type 0 where
  pub a_below : a < count
  pub b_below : b < count
  pub c_below : c < count
  pub d_below : d < count
  pub ab : a ≢ b
  pub bc : b ≢ c
  pub cd : c ≢ d
  pub da : d ≢ a

behind_other : (grid k : ℕ) → 5 ≤ grid → k < grid → (next_in_ring grid k < grid) × (next_in_ring grid k ≢ k)
behind_other grid k wide lt =
    elim (cases_lt (k + 1) grid) as (λ _. (next_in_ring grid k < grid) × (next_in_ring grid k ≢ k)) [
      | inl less ↦ let next : (k + 1) % grid ≡ k + 1 = mod-eq_of_lt less in (omega arith, λ same. omega arith)
      | inr more ↦
          let last : k + 1 ≡ grid = omega arith in
          let first : (k + 1) % grid ≡ 0 = ap (λ n. n % grid) last ∙ mod_self grid in (omega arith, λ same. omega arith)
    ]

-- the corners of a cell
pub cell_quad : (genus grid : ℕ) (p : Point) → 5 ≤ grid → IsPoint genus grid p
    → IsQuad (length (vertices genus grid)) (number grid p)
    (number grid (point p.torus p.row (next_in_ring grid p.column)))
    (number grid (point p.torus (next_in_ring grid p.row) (next_in_ring grid p.column)))
    (number grid (point p.torus (next_in_ring grid p.row) p.column))
cell_quad genus grid p wide at =
    let row = behind_other grid p.row wide at.row in
    let column = behind_other grid p.column wide at.column in
    let right = point p.torus p.row (next_in_ring grid p.column) in
    let across = point p.torus (next_in_ring grid p.row) (next_in_ring grid p.column) in
    let below = point p.torus (next_in_ring grid p.row) p.column in
    let at_right : IsPoint genus grid right = record { torus = at.torus; row = at.row; column = column.0 } in
    let at_across : IsPoint genus grid across = record { torus = at.torus; row = row.0; column = column.0 } in
    let at_below : IsPoint genus grid below = record { torus = at.torus; row = row.0; column = at.column } in
    record {
      a_below = number_below genus grid p wide at;
      b_below = number_below genus grid right wide at_right;
      c_below = number_below genus grid across wide at_across;
      d_below = number_below genus grid below wide at_below;
      ab = numbers_apart genus grid p right wide at at_right refl (λ rows columns. column.1 (sym columns));
      bc = numbers_apart genus grid right across wide at_right at_across refl (λ rows columns. row.1 (sym rows));
      cd = numbers_apart genus grid across below wide at_across at_below refl (λ rows columns. column.1 columns);
      da = numbers_apart genus grid below p wide at_below at refl (λ rows columns. row.1 rows);
    }

-- ---- all points

all_in_row : (P : Point → Type 0) (f : ℕ → Point) (a n : ℕ) → ((k : ℕ) → a ≤ k → k < a + n → P (f k)) → All P (map f (range_with_len a n))
all_in_row P f a zero each = All-nil P
all_in_row P f a (suc n) each =
    All-cons P (f a) (map f (range_with_len (a + 1) n)) (each a (omega arith) (omega arith))
    (all_in_row P f (a + 1) n (λ k low high. each k (omega arith) (omega arith)))

all_in_rows : (P : Point → Type 0) (f : ℕ → List Point) (a n : ℕ) → ((k : ℕ) → a ≤ k → k < a + n → All P (f k))
    → All P (flat_map f (range_with_len a n))
all_in_rows P f a zero each = All-nil P
all_in_rows P f a (suc n) each =
    All-append P (f a) (flat_map f (range_with_len (a + 1) n)) (each a (omega arith) (omega arith))
    (all_in_rows P f (a + 1) n (λ k low high. each k (omega arith) (omega arith)))

all_points : (genus grid : ℕ) → All (IsPoint genus grid) (points genus grid)
all_points genus grid =
    all_in_rows (IsPoint genus grid) (points_of_torus grid) 0 genus (λ t from torus.
    all_in_rows (IsPoint genus grid) (points_of_row grid t) 0 grid (λ r from row.
    all_in_row (IsPoint genus grid) (point t r) 0 grid (λ c from column.
    record { torus = omega arith; row = omega arith; column = omega arith })))

pub all_vertices : (genus grid : ℕ) → All (IsPoint genus grid) (vertices genus grid)
all_vertices genus grid = All-filter is_vertex (IsPoint genus grid) (points genus grid) (all_points genus grid)

pub all_cells : (genus grid : ℕ) → All (IsPoint genus grid) (cells genus grid)
all_cells genus grid = All-filter (λ p. not (is_cut_out genus p)) (IsPoint genus grid) (points genus grid) (all_points genus grid)

-- how many points there are at most
pub few_points : (genus grid : ℕ) → genus ≤ 8 → grid ≤ 200 → genus * grid * grid ≤ 320000
few_points genus grid tori rows =
    let one : genus * grid ≤ genus * 200 = mul-le-mul_left genus rows in
    let two : genus * grid * grid ≤ genus * grid * 200 = mul-le-mul_left (genus * grid) rows in
    omega arith
