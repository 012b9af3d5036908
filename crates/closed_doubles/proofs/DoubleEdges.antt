-- How many sides of the double join two vertices: for an edge of the mesh, or of its mirror, one more where it has one; and between a
-- vertex and its mirror as many as sides on the boundary have an end at the vertex.
use Rattle.closed_doubles.proofs.Common.{after_in_mesh, corner_below, no_side, rims, is_rim, double_of, ◌≡◌, ◌≢◌, ◌⊎◌, inl, inr, ℕ, suc, ◌+◌, ◌<◌, Bool, true, false, ◌&&◌, ◌||◌, List, [], ◌∷◌, length, get_or, refl, ap₂, ◌∙◌, arith, cases_Bool, nat_tests, filter, ◌==◌, if◌then◌else◌, ends_differ, whole_side, sides_between_swap, head_of, FaceList, FaceSide, IsFaceList, all_sides, joins, sides_between}
use Rattle.closed_doubles.proofs.SideSums.{side_sum, mirrored, quad_part, double_sum}

-- ---- sides that join two vertices, as a sum

abbrev pub on_edge : ℕ → ℕ → ℕ → ℕ → ℕ
on_edge a b x y = if (x == a && y == b) || (x == b && y == a) then 1 else 0

pub count_is : (a b : ℕ) (sides : List FaceSide) → length (filter (joins a b) sides) ≡ side_sum (on_edge a b) sides
count_is a b [] = refl
count_is a b (s ∷ sides) =
    elim (cases_Bool (joins a b s)) [
      | inl on ↦ rw on (omega (arith, count_is a b sides))
      | inr off ↦ rw off (omega (arith, count_is a b sides))
    ]

joins_cases : (a b : ℕ) (s : FaceSide) → joins a b s ≡ true → ((s.tail ≡ a) × (s.head ≡ b)) ⊎ ((s.tail ≡ b) × (s.head ≡ a))
joins_cases a b s on = grind (arith, nat_tests)

-- whether a side of an edge is on the boundary is told by the edge
rim_of_edge : (mesh : FaceList) (a b : ℕ) (s : FaceSide) → joins a b s ≡ true → is_rim mesh s ≡ (sides_between mesh a b == 1)
rim_of_edge mesh a b s on = grind (arith, joins_cases, sides_between_swap)

-- of an edge of one side that side is on the boundary, and of another edge none is
pub rims_all : (mesh : FaceList) (a b : ℕ) (sides : List FaceSide) → (sides_between mesh a b == 1) ≡ true
    → side_sum (on_edge a b) (filter (is_rim mesh) sides) ≡ side_sum (on_edge a b) sides
rims_all mesh a b [] one = refl
rims_all mesh a b (s ∷ sides) one =
    let more = rims_all mesh a b sides one in
    elim (cases_Bool (joins a b s)) [
      | inl on ↦
          (let rim : is_rim mesh s ≡ true = rim_of_edge mesh a b s on ∙ one in
          rw (rim, on) (omega (arith, more)))
      | inr off ↦ elim (cases_Bool (is_rim mesh s)) [
        | inl rim ↦ rw (rim, off) (omega (arith, more))
        | inr inner ↦ rw (inner, off) (omega (arith, more))
      ]
    ]

pub rims_none : (mesh : FaceList) (a b : ℕ) (sides : List FaceSide) → (sides_between mesh a b == 1) ≡ false
    → side_sum (on_edge a b) (filter (is_rim mesh) sides) ≡ 0
rims_none mesh a b [] other = refl
rims_none mesh a b (s ∷ sides) other =
    let more = rims_none mesh a b sides other in
    elim (cases_Bool (joins a b s)) [
      | inl on ↦
          (let inner : is_rim mesh s ≡ false = rim_of_edge mesh a b s on ∙ other in
          rw inner more)
      | inr off ↦ elim (cases_Bool (is_rim mesh s)) [
        | inl rim ↦ rw (rim, off) (omega (arith, more))
        | inr inner ↦ rw inner more
      ]
    ]

-- how many sides of an edge are on the boundary: one, or none
abbrev pub rim_part : ℕ → ℕ
rim_part n = if n == 1 then 1 else 0

pub rims_on : (mesh : FaceList) (a b : ℕ) → side_sum (on_edge a b) (rims mesh) ≡ rim_part (sides_between mesh a b)
rims_on mesh a b = grind (arith, rims_all, count_is, rims_none)

-- ---- sides between vertices below a bound

abbrev pub AllBelow : ℕ → List FaceSide → Type 0
AllBelow n [] = Unit {0}
AllBelow n (s ∷ sides) = (s.tail < n) × (s.head < n) × (s.tail ≢ s.head) × AllBelow n sides

record IsBelow (n : ℕ) (s : FaceSide) : Type 0 where
  pub tail : s.tail < n
  pub head : s.head < n
  pub apart : s.tail ≢ s.head

below_from : (n : ℕ) (sides : List FaceSide) → ((k : ℕ) → k < length sides → IsBelow n (get_or sides k no_side)) → AllBelow n sides
below_from n [] h = tt
below_from n (s ∷ sides) h =
    let first : IsBelow n s = h 0 (omega arith) in
    (first.tail, first.head, first.apart, below_from n sides (λ k l. h (suc k) (omega arith)))

pub sides_below : (mesh : FaceList) → IsFaceList mesh → AllBelow mesh.count (all_sides mesh)
sides_below mesh valid = grind (arith, below_from, no_side, whole_side, head_of, corner_below, after_in_mesh, ends_differ)

pub filter_below : (n : ℕ) (p : FaceSide → Bool) (sides : List FaceSide) → AllBelow n sides → AllBelow n (filter p sides)
filter_below n p [] h = tt
filter_below n p (s ∷ sides) h =
    let more = filter_below n p sides h.3 in
    elim (cases_Bool (p s)) [
      | inl kept ↦ rw kept (h.0, h.1, h.2, more)
      | inr gone ↦ rw gone more
    ]

pub sums_agree : (n : ℕ) (g h : ℕ → ℕ → ℕ) (sides : List FaceSide) → AllBelow n sides
    → ((x y : ℕ) → x < n → y < n → x ≢ y → g x y ≡ h x y) → side_sum g sides ≡ side_sum h sides
sums_agree n g h [] low same = refl
sums_agree n g h (s ∷ sides) low same =
    ap₂ (λ a b. a + b) (same s.tail s.head low.0 low.1 low.2) (sums_agree n g h sides low.3 same)

pub sum_none : (n : ℕ) (g : ℕ → ℕ → ℕ) (sides : List FaceSide) → AllBelow n sides → ((x y : ℕ) → x < n → y < n → g x y ≡ 0)
    → side_sum g sides ≡ 0
sum_none n g [] low none = refl
sum_none n g (s ∷ sides) low none = omega (arith, none s.tail s.head low.0 low.1, sum_none n g sides low.3 none)

-- ---- the double

on_edge-turned : (a b x y : ℕ) → on_edge a b y x ≡ on_edge a b x y
on_edge-turned a b x y = grind (arith, nat_tests)

on_edge-apart : (a b x y : ℕ) → x ≢ a → x ≢ b → on_edge a b x y ≡ 0
on_edge-apart a b x y one other = grind (arith, nat_tests)

on_edge-away : (a b x y : ℕ) → y ≢ a → y ≢ b → on_edge a b x y ≡ 0
on_edge-away a b x y one other = on_edge-turned a b y x ∙ on_edge-apart a b y x one other

on_edge-mirror : (n a b x y : ℕ) → on_edge (a + n) (b + n) (x + n) (y + n) ≡ on_edge a b x y
on_edge-mirror n a b x y = grind (arith, nat_tests)

pub double_low : (mesh : FaceList) (a b : ℕ) → IsFaceList mesh → a < mesh.count → b < mesh.count
    → sides_between (double_of mesh) a b ≡ sides_between mesh a b + rim_part (sides_between mesh a b)
double_low mesh a b valid la lb =
    let n : ℕ = mesh.count in
    let low : AllBelow n (all_sides mesh) = sides_below mesh valid in
    let mirrors : side_sum (mirrored n (on_edge a b)) (all_sides mesh) ≡ 0 = grind (arith, sum_none, on_edge, on_edge-apart) in
    let quads : side_sum (quad_part n (on_edge a b)) (rims mesh) ≡ side_sum (on_edge a b) (rims mesh) =
    sums_agree n (quad_part n (on_edge a b)) (on_edge a b) (rims mesh) (filter_below n (is_rim mesh) (all_sides mesh) low)
    (λ x y lx ly apart.
    omega (
      arith,
      on_edge-turned a b x y,
      on_edge-away a b x (x + n) (λ e. omega (arith, e, la)) (λ e. omega (arith, e, lb)),
      on_edge-apart a b (x + n) (y + n) (λ e. omega (arith, e, la)) (λ e. omega (arith, e, lb)),
      on_edge-apart a b (y + n) y (λ e. omega (arith, e, la)) (λ e. omega (arith, e, lb)),
    )) in
    count_is a b (all_sides (double_of mesh))
    ∙ omega (arith, double_sum mesh (on_edge a b), mirrors, quads, rims_on mesh a b, count_is a b (all_sides mesh))

pub double_high : (mesh : FaceList) (a b : ℕ) → IsFaceList mesh
    → sides_between (double_of mesh) (a + mesh.count) (b + mesh.count) ≡ sides_between mesh a b + rim_part (sides_between mesh a b)
double_high mesh a b valid =
    let n : ℕ = mesh.count in
    let g : ℕ → ℕ → ℕ = on_edge (a + n) (b + n) in
    let low : AllBelow n (all_sides mesh) = sides_below mesh valid in
    let kept : side_sum g (all_sides mesh) ≡ 0 = grind (arith, sum_none, on_edge-apart) in
    let mirrors : side_sum (mirrored n g) (all_sides mesh) ≡ side_sum (on_edge a b) (all_sides mesh) =
    sums_agree n (mirrored n g) (on_edge a b) (all_sides mesh) low
    (λ x y lx ly apart. on_edge-mirror n a b y x ∙ on_edge-turned a b x y) in
    let quads : side_sum (quad_part n g) (rims mesh) ≡ side_sum (on_edge a b) (rims mesh) =
    sums_agree n (quad_part n g) (on_edge a b) (rims mesh) (filter_below n (is_rim mesh) (all_sides mesh) low)
    (λ x y lx ly apart.
    omega (
      arith,
      on_edge-mirror n a b x y,
      on_edge-apart (a + n) (b + n) y x (λ e. omega (arith, e)) (λ e. omega (arith, e)),
      on_edge-apart (a + n) (b + n) x (x + n) (λ e. omega (arith, e)) (λ e. omega (arith, e)),
      on_edge-away (a + n) (b + n) (y + n) y (λ e. omega (arith, e)) (λ e. omega (arith, e)),
    )) in
    count_is (a + n) (b + n) (all_sides (double_of mesh))
    ∙ omega (arith, double_sum mesh g, kept, mirrors, quads, rims_on mesh a b, count_is a b (all_sides mesh))

-- how many ends at the vertex a side has
abbrev pub touches : ℕ → ℕ → ℕ → ℕ
touches a x y = (if x == a then 1 else 0) + (if y == a then 1 else 0)

-- how many sides on the boundary have an end at the vertex
abbrev pub rim_count : FaceList → ℕ → ℕ
rim_count mesh a = side_sum (touches a) (rims mesh)

up_part : (n a b x : ℕ) → a < n → x < n → on_edge a (b + n) x (x + n) ≡ (if a == b then (if x == a then 1 else 0) else 0)
up_part n a b x la lx = grind (arith, nat_tests)

pub double_across : (mesh : FaceList) (a b : ℕ) → IsFaceList mesh → a < mesh.count
    → sides_between (double_of mesh) a (b + mesh.count) ≡ (if a == b then rim_count mesh a else 0)
double_across mesh a b valid la =
    let n : ℕ = mesh.count in
    let g : ℕ → ℕ → ℕ = on_edge a (b + n) in
    let low : AllBelow n (all_sides mesh) = sides_below mesh valid in
    let kept : side_sum g (all_sides mesh) ≡ 0 =
    sum_none n g (all_sides mesh) low (λ x y lx ly. no_edge n a b x y lx ly) in
    let mirrors : side_sum (mirrored n g) (all_sides mesh) ≡ 0 =
    sum_none n (mirrored n g) (all_sides mesh) low (λ x y lx ly. no_mirror n a b x y la) in
    let quads : side_sum (quad_part n g) (rims mesh) ≡ side_sum (λ x y. if a == b then touches a x y else 0) (rims mesh) =
    sums_agree n (quad_part n g) (λ x y. if a == b then touches a x y else 0) (rims mesh)
    (filter_below n (is_rim mesh) (all_sides mesh) low)
    (λ x y lx ly apart.
    both n a b x y la lx ly) in
    count_is a (b + n) (all_sides (double_of mesh))
    ∙ omega (arith, double_sum mesh g, kept, mirrors, quads)
    ∙ if_sum (a == b) (touches a) (rims mesh)
  where
    no_edge : (n a b x y : ℕ) → x < n → y < n → on_edge a (b + n) x y ≡ 0
    no_edge n a b x y lx ly = grind (arith, nat_tests)

    no_mirror : (n a b x y : ℕ) → a < n → on_edge a (b + n) (y + n) (x + n) ≡ 0
    no_mirror n a b x y la = grind (arith, nat_tests)

    add_parts : (same x y : Bool) → (if same then (if x then 1 else 0) else 0) + (if same then (if y then 1 else 0) else 0)
        ≡ (if same then (if x then 1 else 0) + (if y then 1 else 0) else 0)
    add_parts true x y = refl
    add_parts false x y = refl

    both : (n a b x y : ℕ) → a < n → x < n → y < n → quad_part n (on_edge a (b + n)) x y ≡ (if a == b then touches a x y else 0)
    both n a b x y la lx ly =
        omega (
          arith,
          no_edge n a b y x ly lx,
          up_part n a b x la lx,
          no_mirror n a b y x la,
          on_edge-turned a (b + n) y (y + n),
          up_part n a b y la ly,
          add_parts (a == b) (x == a) (y == a),
        )

    if_sum : (same : Bool) (h : ℕ → ℕ → ℕ) (sides : List FaceSide)
        → side_sum (λ x y. if same then h x y else 0) sides ≡ (if same then side_sum h sides else 0)
    if_sum true h sides = refl
    if_sum false h [] = refl
    if_sum false h (s ∷ sides) = omega (arith, if_sum false h sides)
