-- An even number of sides on the boundary have an end at a vertex, where no edge has three sides. For there are twice as many sides with an
-- end there as corners; and by their edges these sides come in twos, but for those on the boundary.
use Rattle.closed_doubles.proofs.Common.{NoEdgeHasThreeSides, rims, is_rim, ◌≡◌, ◌≢◌, inl, inr, ℕ, zero, suc, ◌+◌, ◌<◌, ◌≤◌, true, false, List, [], ◌∷◌, length, get_or, refl, ap, ap₂, sym, ◌∙◌, arith, cases_eq, eq-eqb, ne_eqb, nat_tests, ◌==◌, if◌then◌else◌, FaceList, FaceSide, IsFaceList, all_sides, sides_between}
use Rattle.closed_doubles.proofs.SideSums.{below, below-alike, below-add, below-none, below-next, side_sum, side_sum-add, faces_sum, by_faces}
use Rattle.closed_doubles.proofs.DoubleEdges.{on_edge, count_is, AllBelow, sides_below, filter_below, touches, rim_count, rim_part, rims_on}

-- one number below n is this one
below-past : (n x : ℕ) → n ≤ x → below (λ w. if x == w then 1 else 0) n ≡ 0
below-past zero x l = refl
below-past (suc n) x l =
    let test : (x == n) ≡ false = ne_eqb x n (λ e. omega (arith, e)) in
    rw test (omega (arith, below-past n x (omega arith)))

below-one : (n x : ℕ) → x < n → below (λ w. if x == w then 1 else 0) n ≡ 1
below-one zero x l = absurd (omega arith)
below-one (suc n) x l =
    elim (cases_eq x n) [
      | inl same ↦
          (let test : (x == n) ≡ true = eq-eqb x n same in
          rw test (omega (arith, below-past n x (omega arith))))
      | inr other ↦
          (let test : (x == n) ≡ false = ne_eqb x n other in
          rw test (omega (arith, below-one n x (omega arith))))
    ]

-- a side with an end at the vertex is of one edge there
at_tail : (a y w : ℕ) → a ≢ y → on_edge a w a y ≡ (if y == w then 1 else 0)
at_tail a y w apart = grind (arith, nat_tests)

at_head : (a x w : ℕ) → x ≢ a → on_edge a w x a ≡ (if x == w then 1 else 0)
at_head a x w apart = grind (arith, nat_tests)

at_none : (a x y w : ℕ) → x ≢ a → y ≢ a → on_edge a w x y ≡ 0
at_none a x y w one other = grind (arith, nat_tests)

one_edge : (n a x y : ℕ) → x < n → y < n → x ≢ y → below (λ w. on_edge a w x y) n ≡ touches a x y
one_edge n a x y lx ly apart =
    elim (cases_eq x a) [
      | inl tail ↦
          (let away : y ≢ a = λ e. apart (tail ∙ sym e) in
          let here : (x == a) ≡ true = eq-eqb x a tail in
          let there : (y == a) ≡ false = ne_eqb y a away in
          let one : below (λ w. on_edge a w x y) n ≡ 1 =
          below-alike (λ w. on_edge a w x y) (λ w. if y == w then 1 else 0) n
          (λ w l. ap (λ z. on_edge a w z y) tail ∙ at_tail a y w (λ e. away (sym e)))
          ∙ below-one n y ly in
          let two : touches a x y ≡ 1 = rw (here, there) refl in
          one ∙ sym two)
      | inr off ↦
          (let here : (x == a) ≡ false = ne_eqb x a off in
          elim (cases_eq y a) [
            | inl head ↦
                (let there : (y == a) ≡ true = eq-eqb y a head in
                let one : below (λ w. on_edge a w x y) n ≡ 1 =
                below-alike (λ w. on_edge a w x y) (λ w. if x == w then 1 else 0) n
                (λ w l. ap (on_edge a w x) head ∙ at_head a x w off)
                ∙ below-one n x lx in
                let two : touches a x y ≡ 1 = rw (here, there) refl in
                one ∙ sym two)
            | inr away ↦
                (let there : (y == a) ≡ false = ne_eqb y a away in
                let none : below (λ w. on_edge a w x y) n ≡ 0 =
                below-alike (λ w. on_edge a w x y) (λ w. 0) n (λ w l. at_none a x y w off away) ∙ below-none n in
                let two : touches a x y ≡ 0 = rw (here, there) refl in
                none ∙ sym two)
          ])
    ]

by_edges : (n a : ℕ) (sides : List FaceSide) → AllBelow n sides → side_sum (touches a) sides ≡ below (λ w. side_sum (on_edge a w) sides) n
by_edges n a [] h = sym (below-none n)
by_edges n a (s ∷ sides) h =
    omega (
      arith,
      below-add (λ w. on_edge a w s.tail s.head) (λ w. side_sum (on_edge a w) sides) n,
      one_edge n a s.tail s.head h.0 h.1 h.2,
      by_edges n a sides h.3,
    )

-- as many sides start at the vertex as end there
abbrev starts : ℕ → ℕ → ℕ → ℕ
starts a x y = if x == a then 1 else 0

abbrev ends : ℕ → ℕ → ℕ → ℕ
ends a x y = if y == a then 1 else 0

as_many : (a : ℕ) (faces : List (List ℕ)) → faces_sum (ends a) faces ≡ faces_sum (starts a) faces
as_many a [] = refl
as_many a (face ∷ faces) =
    ap₂ (λ b c. b + c) (below-next (λ t. if get_or face t 0 == a then 1 else 0) (length face)) (as_many a faces)

-- an edge has one side on the boundary, or two sides inside, or none
two_part : (n : ℕ) → n ≤ 2 → n ≡ rim_part n + ((if n == 2 then 1 else 0) + (if n == 2 then 1 else 0))
two_part n few = grind (arith, nat_tests)

-- the sides on the boundary with an end at the vertex, by their edges
pub rims_by_edges : (mesh : FaceList) (a : ℕ) → IsFaceList mesh
    → rim_count mesh a ≡ below (λ w. rim_part (sides_between mesh a w)) mesh.count
rims_by_edges mesh a valid =
    by_edges mesh.count a (rims mesh) (filter_below mesh.count (is_rim mesh) (all_sides mesh) (sides_below mesh valid))
    ∙ below-alike (λ w. side_sum (on_edge a w) (rims mesh)) (λ w. rim_part (sides_between mesh a w)) mesh.count (λ w l. rims_on mesh a w)

pub record IsEven (n : ℕ) : Type 0 where
  pub pairs : ℕ
  pub corners : ℕ
  pub even : n + (pairs + pairs) ≡ corners + corners

pub rims_even : (mesh : FaceList) (a : ℕ) → IsFaceList mesh → NoEdgeHasThreeSides mesh → IsEven (rim_count mesh a)
rims_even mesh a valid few =
    let n : ℕ = mesh.count in
    let inner : ℕ → ℕ = λ w. if sides_between mesh a w == 2 then 1 else 0 in
    let rim : ℕ → ℕ = λ w. rim_part (sides_between mesh a w) in
    let all : side_sum (touches a) (all_sides mesh) ≡ below (λ w. rim w + (inner w + inner w)) n =
    by_edges n a (all_sides mesh) (sides_below mesh valid)
    ∙ below-alike (λ w. side_sum (on_edge a w) (all_sides mesh)) (λ w. rim w + (inner w + inner w)) n
    (λ w l. sym (count_is a w (all_sides mesh)) ∙ two_part (sides_between mesh a w) (few a w)) in
    record {
      pairs = below inner n;
      corners = side_sum (starts a) (all_sides mesh);
      even = omega (
        arith,
        all,
        rims_by_edges mesh a valid,
        below-add rim (λ w. inner w + inner w) n,
        below-add inner inner n,
        side_sum-add (starts a) (ends a) (all_sides mesh),
        by_faces (starts a) mesh,
        by_faces (ends a) mesh,
        as_many a mesh.faces,
      );
    }
