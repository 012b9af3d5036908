-- How many cells of a chain are left.
use Rattle.surf_gen.proofs.Common.{◌≡◌, ◌≢◌, ℕ, zero, suc, ◌+◌, ◌-◌, ◌*◌, ◌<◌, ◌≤◌, Bool, true, false, not, cond, List, [], ◌∷◌, length, map, arith, ap, ◌∙◌, refl, and-false, or-false, lt-ltb, le-ltb, ne_eqb, length-map-range_with_len, range_with_len, filter, nat_lt, ◌==◌, ◌&&◌, ◌||◌, if◌then◌else◌, point, is_cut_out, cells, points_of_row, points_of_torus, Point}
use Rattle.surf_gen.proofs.StretchLemmas.{stretch_kept, count_but_one, count_along}

abbrev one_if : Bool → ℕ
one_if b = if b then 1 else 0

-- whether the cell at a row and a column is cut out of a torus, where it has a next one or not, and one before or not
abbrev is_hole : Bool → Bool → ℕ → ℕ → Bool
is_hole next before row c = (next && row == 2 && c == 2) || (before && row == 0 && c == 0)

abbrev is_left : Bool → Bool → Point → Bool
is_left next before p = not (is_hole next before p.row p.column)

-- how many cells are cut out of a row, and of the rows above it
abbrev holes_in : Bool → Bool → ℕ → ℕ
holes_in next before zero = one_if before
holes_in next before (suc zero) = 0
holes_in next before (suc (suc zero)) = one_if next
holes_in next before (suc (suc (suc row))) = 0

abbrev holes_above : Bool → Bool → ℕ → ℕ
holes_above next before zero = 0
holes_above next before (suc row) = holes_above next before row + holes_in next before row

-- ---- where the holes are

hole_in_first : (next : Bool) (c : ℕ) → is_hole next true 0 c ≡ (c == 0)
hole_in_first next c = ap (λ b. (b && c == 2) || (c == 0)) (and-false next)

none_in_first : (next : Bool) (c : ℕ) → is_hole next false 0 c ≡ false
none_in_first next c = ap (λ b. (b && c == 2) || false) (and-false next)

hole_in_third : (before : Bool) (c : ℕ) → is_hole true before 2 c ≡ (c == 2)
hole_in_third before c = ap (λ b. (c == 2) || (b && c == 0)) (and-false before) ∙ or-false (c == 2)

none_in_third : (before : Bool) (c : ℕ) → is_hole false before 2 c ≡ false
none_in_third before c = ap (λ b. b && c == 0) (and-false before)

none_elsewhere : (next before : Bool) (row c : ℕ) → row ≢ 0 → row ≢ 2 → is_hole next before row c ≡ false
none_elsewhere next before row c first third =
    ap (λ b. (next && b && c == 2) || (before && row == 0 && c == 0)) (ne_eqb row 2 third)
    ∙ ap (λ b. (b && c == 2) || (before && row == 0 && c == 0)) (and-false next)
    ∙ ap (λ b. before && b && c == 0) (ne_eqb row 0 first)
    ∙ ap (λ b. b && c == 0) (and-false before)

-- ---- counting

whole_row : (keep : Point → Bool) (f : ℕ → Point) (n : ℕ) → ((c : ℕ) → keep (f c) ≡ true)
    → length (filter keep (map f (range_with_len 0 n))) + 0 ≡ n
whole_row keep f n kept =
    let all : length (filter keep (map f (range_with_len 0 n))) ≡ n =
    ap length (stretch_kept keep f 0 n (λ c low high. kept c)) ∙ length-map-range_with_len f 0 n in
    omega arith

row_count : (next before : Bool) (grid t row : ℕ) → 5 ≤ grid
    → length (filter (is_left next before) (points_of_row grid t row)) + holes_in next before row ≡ grid
row_count next true grid t zero wide =
    count_but_one (is_left next true) (point t 0) 0 grid (omega arith) (ap not (hole_in_first next 0))
    (λ c lt other. ap not (hole_in_first next c ∙ ne_eqb c 0 other))
row_count next false grid t zero wide = whole_row (is_left next false) (point t 0) grid (λ c. ap not (none_in_first next c))
row_count next before grid t (suc zero) wide =
    whole_row (is_left next before) (point t 1) grid
    (λ c. ap not (none_elsewhere next before 1 c (λ same. omega arith) (λ same. omega arith)))
row_count true before grid t (suc (suc zero)) wide =
    count_but_one (is_left true before) (point t 2) 2 grid (omega arith) (ap not (hole_in_third before 2))
    (λ c lt other. ap not (hole_in_third before c ∙ ne_eqb c 2 other))
row_count false before grid t (suc (suc zero)) wide =
    whole_row (is_left false before) (point t 2) grid (λ c. ap not (none_in_third before c))
row_count next before grid t (suc (suc (suc k))) wide =
    whole_row (is_left next before) (point t (suc (suc (suc k)))) grid
    (λ c. ap not (none_elsewhere next before (suc (suc (suc k))) c (λ same. omega arith) (λ same. omega arith)))

-- a torus has one hole where one hangs before it, and one where one hangs behind it
all_holes : (next before : Bool) (grid : ℕ) → 3 ≤ grid → holes_above next before grid ≡ one_if before + one_if next
all_holes next before zero wide = absurd (omega arith)
all_holes next before (suc zero) wide = absurd (omega arith)
all_holes next before (suc (suc zero)) wide = absurd (omega arith)
all_holes next before (suc (suc (suc zero))) wide = omega arith
all_holes next before (suc (suc (suc (suc k)))) wide = omega (arith, all_holes next before (suc (suc (suc k))) (omega arith))

same_kept : (keep other : Point → Bool) (f : ℕ → Point) (ks : List ℕ) → ((k : ℕ) → keep (f k) ≡ other (f k))
    → filter keep (map f ks) ≡ filter other (map f ks)
same_kept keep other f [] same = refl
same_kept keep other f (k ∷ ks) same =
    ap (λ b. cond b (f k ∷ filter keep (map f ks)) (filter keep (map f ks))) (same k)
    ∙ ap (λ ps. cond (other (f k)) (f k ∷ ps) ps) (same_kept keep other f ks same)

torus_count : (genus grid t : ℕ) → 5 ≤ grid
    → length (filter (λ p. not (is_cut_out genus p)) (points_of_torus grid t)) + (one_if (nat_lt 0 t) + one_if (nat_lt (t + 1) genus))
    ≡ grid * grid
torus_count genus grid t wide =
    let next = nat_lt (t + 1) genus in
    let before = nat_lt 0 t in
    let rows = count_along (λ p. not (is_cut_out genus p)) (points_of_row grid t) (holes_above next before) grid grid
    (λ row lt.
    let same : length (filter (λ p. not (is_cut_out genus p)) (points_of_row grid t row))
    ≡ length (filter (is_left next before) (points_of_row grid t row)) =
    ap length (same_kept (λ p. not (is_cut_out genus p)) (is_left next before) (point t row) (range_with_len 0 grid) (λ c. refl)) in
    omega (arith, row_count next before grid t row wide)) in
    omega (arith, all_holes next before grid (omega arith))

-- how many cells are cut out of the first tori
abbrev holes_before : ℕ → ℕ → ℕ
holes_before genus zero = 0
holes_before genus (suc t) = holes_before genus t + (one_if (nat_lt 0 t) + one_if (nat_lt (t + 1) genus))

two_each : (genus t : ℕ) → t < genus → holes_before genus t + one_if (nat_lt 0 t) ≡ 2 * t
two_each genus zero lt = refl
two_each genus (suc t) lt =
    let before = two_each genus t (omega arith) in
    let next : one_if (nat_lt (t + 1) genus) ≡ 1 = ap one_if (lt-ltb (t + 1) genus (omega arith)) in
    let some : one_if (nat_lt 0 (suc t)) ≡ 1 = ap one_if (lt-ltb 0 (suc t) (omega arith)) in
    omega arith

pub cell_count : (genus grid : ℕ) → 1 ≤ genus → 5 ≤ grid → length (cells genus grid) ≡ genus * grid * grid - 2 * (genus - 1)
cell_count zero grid some wide = absurd (omega arith)
cell_count (suc g) grid some wide =
    let genus = suc g in
    let tori = count_along (λ p. not (is_cut_out genus p)) (points_of_torus grid) (holes_before genus) (grid * grid) genus
    (λ t lt. omega (arith, torus_count genus grid t wide)) in
    let last : one_if (nat_lt (g + 1) genus) ≡ 0 = ap one_if (le-ltb (g + 1) genus (omega arith)) in
    omega (arith, two_each genus g (omega arith))
