-- Darts with weights: where they balance at every edge, the numbers of a cocycle add up to nothing on them. So a cocycle excludes every
-- chain.
use Rattle.homology.proofs.Common.{IsChain, count_of, IsCocycle, Separates, dart_number, along, share, ◌≡◌, ◌⊎◌, inl, inr, ℕ, zero, suc, ◌<◌, ◌≤◌, Bool, true, false, not, ◌&&◌, ◌||◌, List, [], ◌∷◌, ◌++◌, length, refl, ap, sym, ◌∙◌, arith, ℤ, pos, negsuc, ◌+ℤ◌, ◌-ℤ◌, *ℤ-zero, cases_order, cases_Bool, nat_tests, ints, list_any, ◌*ℤ◌, neg_ℤ, map, filter, nat_eq, Linked, links, FaceList, FaceSide, all_sides, joins, is_edge, IsWalk}
use Rattle.surf_model.proofs.EdgeLemmas.{edge_swap}
use Rattle.homology.proofs.RingLemmas.{times-sum, times-one, one-times, times-minus, minus-times, times-opposite, opposite-times}
use Rattle.homology.proofs.AlongLemmas.{IsOpposite}
use Rattle.homology.proofs.BoundaryLemmas.{part_sum, closed_mesh, boundary_is, share-opposite}

-- a dart with a weight
pub record Weighted : Type 0 where
  pub weight : ℤ
  pub from : ℕ
  pub to : ℕ

-- the sum of the weights times the numbers of the darts
abbrev pub value : (ℕ → ℕ → ℤ) → List Weighted → ℤ
value number [] = pos 0
value number (d ∷ ds) = d.weight *ℤ number d.from d.to +ℤ value number ds

pub value-append : (number : ℕ → ℕ → ℤ) (xs ys : List Weighted) → value number (xs ++ ys) ≡ value number xs +ℤ value number ys
value-append number [] ys = omega (arith, ints)
value-append number (x ∷ xs) ys =
    let more = value-append number xs ys in
    omega (arith, ints, more)

-- whether a dart runs along the pair, in either direction
abbrev pub on_pair : ℕ → ℕ → Weighted → Bool
on_pair a b d = (nat_eq d.from a && nat_eq d.to b) || (nat_eq d.from b && nat_eq d.to a)

-- the darts that do not
abbrev pub others : ℕ → ℕ → List Weighted → List Weighted
others a b ds = filter (λ d. not (on_pair a b d)) ds

on_cases : (a b : ℕ) (d : Weighted) → on_pair a b d ≡ true → ((d.from ≡ a) × (d.to ≡ b)) ⊎ ((d.from ≡ b) × (d.to ≡ a))
on_cases a b d h = grind (arith, nat_tests)

share-forward : (a b u v : ℕ) → u ≡ a → v ≡ b → share (pos 1) a b u v ≡ pos 1
share-forward a b u v e f = grind (arith, nat_tests)

share-back : (a b u v : ℕ) → a < b → u ≡ b → v ≡ a → share (pos 1) a b u v ≡ negsuc 0
share-back a b u v up e f = grind (arith, nat_tests)

share-off : (a b : ℕ) (d : Weighted) → on_pair a b d ≡ false → share (pos 1) a b d.from d.to ≡ pos 0
share-off a b d h = grind (arith, nat_tests)

on_term : (number : ℕ → ℕ → ℤ) (a b : ℕ) (d : Weighted) → IsOpposite number → a < b → on_pair a b d ≡ true
    → d.weight *ℤ number d.from d.to ≡ number a b *ℤ (d.weight *ℤ share (pos 1) a b d.from d.to)
on_term number a b d opposite up on = grind (arith, on_cases, times-one, share-forward, times-opposite, times-minus, share-back)

-- the darts along one pair, and the others
pub split : (number : ℕ → ℕ → ℤ) (a b : ℕ) (ds : List Weighted) → IsOpposite number → a < b
    → value number ds ≡ number a b *ℤ value (share (pos 1) a b) ds +ℤ value number (others a b ds)
split number a b [] opposite up = omega (arith, ints, *ℤ-zero (number a b))
split number a b (d ∷ ds) opposite up = elim (cases_Bool (on_pair a b d)) [
  | inl on ↦
      let more = split number a b ds opposite up in
      let here = on_term number a b d opposite up on in
      let apart = times-sum (number a b) (d.weight *ℤ share (pos 1) a b d.from d.to) (value (share (pos 1) a b) ds) in
      rw on (omega (arith, ints, more, here, apart))
  | inr off ↦
      let more = split number a b ds opposite up in
      let none : number a b *ℤ (d.weight *ℤ share (pos 1) a b d.from d.to) ≡ pos 0 = grind (arith, share-off) in
      let apart = times-sum (number a b) (d.weight *ℤ share (pos 1) a b d.from d.to) (value (share (pos 1) a b) ds) in
      rw off (omega (arith, ints, more, none, apart))
]

fewer : (a b : ℕ) (ds : List Weighted) → length (others a b ds) ≤ length ds
fewer a b [] = omega arith
fewer a b (d ∷ ds) = elim (cases_Bool (on_pair a b d)) [
  | inl on ↦
      let more = fewer a b ds in
      rw on (omega arith)
  | inr off ↦
      let more = fewer a b ds in
      rw off (omega arith)
]

fewer_without : (a b : ℕ) (d : Weighted) (ds : List Weighted) → on_pair a b d ≡ true → length (others a b (d ∷ ds)) ≤ length ds
fewer_without a b d ds on = rw on (fewer a b ds)

-- the darts balance at every pair
abbrev pub IsBalanced : List Weighted → Type 0
IsBalanced ds = (low high : ℕ) → low < high → value (share (pos 1) low high) ds ≡ pos 0

balanced_others : (a b : ℕ) (ds : List Weighted) → a < b → IsBalanced ds → IsBalanced (others a b ds)
balanced_others a b ds up h low high rise =
    let apart = split (share (pos 1) low high) a b ds (share-opposite (pos 1) low high rise) up in
    let none : share (pos 1) low high a b *ℤ value (share (pos 1) a b) ds ≡ pos 0 = grind arith in grind arith

share-loop : (low high u v : ℕ) → low < high → u ≡ v → share (pos 1) low high u v ≡ pos 0
share-loop low high u v up e = grind (arith, nat_tests)

on_forward : (d : Weighted) → on_pair d.from d.to d ≡ true
on_forward d = grind (arith, nat_tests)

on_back : (d : Weighted) → on_pair d.to d.from d ≡ true
on_back d = grind (arith, nat_tests)

-- the darts along one pair go, where the others add up to nothing
taken_out : (number : ℕ → ℕ → ℤ) (d : Weighted) (ds : List Weighted) (a b n : ℕ) → IsOpposite number → a < b
    → on_pair a b d ≡ true → length (d ∷ ds) ≤ suc n → IsBalanced (d ∷ ds)
    → ((rest : List Weighted) → length rest ≤ n → IsBalanced rest → value number rest ≡ pos 0) → value number (d ∷ ds) ≡ pos 0
taken_out number d ds a b n opposite up on few h others_none =
    let rest : value number (others a b (d ∷ ds)) ≡ pos 0 =
    others_none (others a b (d ∷ ds)) (omega (arith, fewer_without a b d ds on)) (balanced_others a b (d ∷ ds) up h) in
    let none : number a b *ℤ value (share (pos 1) a b) (d ∷ ds) ≡ pos 0 = grind arith in
    omega (arith, ints, split number a b (d ∷ ds) opposite up, rest, none)

-- then the numbers add up to nothing
nothing_within : (n : ℕ) (number : ℕ → ℕ → ℤ) (ds : List Weighted) → IsOpposite number → length ds ≤ n → IsBalanced ds
    → value number ds ≡ pos 0
nothing_within n number [] opposite few h = refl
nothing_within zero number (d ∷ ds) opposite few h = absurd (omega arith)
nothing_within (suc n) number (d ∷ ds) opposite few h = elim (cases_order d.from d.to) [
  | inl same ↦
      let own : number d.from d.to ≡ neg_ℤ (number d.from d.to) =
      ap (λ v. number d.from v) (sym same) ∙ opposite.back d.from d.from ∙ ap (λ v. neg_ℤ (number d.from v)) same in
      let zero_number : number d.from d.to ≡ pos 0 = omega (arith, ints, own) in
      let here : d.weight *ℤ number d.from d.to ≡ pos 0 = ap (λ z. d.weight *ℤ z) zero_number ∙ *ℤ-zero d.weight in
      let rest : IsBalanced ds = λ low high up.
      let term : d.weight *ℤ share (pos 1) low high d.from d.to ≡ pos 0 =
      ap (λ z. d.weight *ℤ z) (share-loop low high d.from d.to up same) ∙ *ℤ-zero d.weight in
      omega (arith, ints, term, h low high up) in
      let more : value number ds ≡ pos 0 = nothing_within n number ds opposite (omega arith) rest in
      omega (arith, ints, here, more)
  | inr apart ↦ elim apart [
    | inl up ↦ taken_out number d ds d.from d.to n opposite up (on_forward d) few h (λ rest l k. nothing_within n number rest opposite l k)
    | inr down ↦ taken_out number d ds d.to d.from n opposite down (on_back d) few h (λ rest l k. nothing_within n number rest opposite l k)
  ]
]

pub nothing : (number : ℕ → ℕ → ℤ) (ds : List Weighted) → IsOpposite number → IsBalanced ds → value number ds ≡ pos 0
nothing number ds opposite h = nothing_within (length ds) number ds opposite (omega arith) h

-- the darts of a walk
abbrev pub walk_darts : ℤ → List ℕ → List Weighted
walk_darts weight [] = []
walk_darts weight (u ∷ []) = []
walk_darts weight (u ∷ v ∷ walk) = record { weight = weight; from = u; to = v } ∷ walk_darts weight (v ∷ walk)

pub value-walk : (number : ℕ → ℕ → ℤ) (weight : ℤ) (walk : List ℕ) → value number (walk_darts weight walk) ≡ weight *ℤ along number walk
value-walk number weight [] = sym (*ℤ-zero weight)
value-walk number weight (u ∷ []) = sym (*ℤ-zero weight)
value-walk number weight (u ∷ v ∷ walk) =
    let more = value-walk number weight (v ∷ walk) in
    let apart = times-sum weight (number u v) (along number (v ∷ walk)) in grind arith

-- the sides, with the opposites of the numbers of their faces
abbrev pub side_darts : (ℕ → ℤ) → List FaceSide → List Weighted
side_darts of_face sides = map (λ (s : FaceSide). record { weight = neg_ℤ (of_face s.face); from = s.tail; to = s.head }) sides

value-sides : (number : ℕ → ℕ → ℤ) (of_face : ℕ → ℤ) (sides : List FaceSide)
    → value number (side_darts of_face sides) ≡ neg_ℤ (part_sum of_face number sides)
value-sides number of_face [] = refl
value-sides number of_face (s ∷ sides) =
    let more = value-sides number of_face sides in
    let here = opposite-times (of_face s.face) (number s.tail s.head) in
    omega (arith, ints, more, here)

-- the first walk, the second one back, and the sides back
abbrev pub difference : FaceList → (ℕ → ℤ) → List ℕ → List ℕ → List Weighted
difference mesh of_face first second =
    walk_darts (pos 1) first ++ walk_darts (negsuc 0) second ++ side_darts of_face (all_sides mesh)

value-difference : (mesh : FaceList) (of_face : ℕ → ℤ) (first second : List ℕ) (number : ℕ → ℕ → ℤ)
    → value number (difference mesh of_face first second)
    ≡ along number first -ℤ along number second -ℤ part_sum of_face number (all_sides mesh)
value-difference mesh of_face first second number = grind (arith, value-append, value-walk, one-times, along, minus-times, value-sides)

-- where two vertices form no edge, no walk has a dart, and no face a side
no_share : (mesh : FaceList) (low high u v : ℕ) → is_edge mesh low high ≡ false → is_edge mesh u v ≡ true
    → share (pos 1) low high u v ≡ pos 0
no_share mesh low high u v off on = grind (arith, on_cases, edge_swap, share-off)

no_count : (mesh : FaceList) (low high : ℕ) (walk : List ℕ) → is_edge mesh low high ≡ false → Linked mesh walk
    → count_of walk low high ≡ pos 0
no_count mesh low high [] off h = refl
no_count mesh low high (u ∷ []) off h = refl
no_count mesh low high (u ∷ v ∷ walk) off h =
    let more = no_count mesh low high (v ∷ walk) off h.1 in grind (arith, no_share)

side_off : (low high : ℕ) (s : FaceSide) → joins low high s ≡ false → share (pos 1) low high s.tail s.head ≡ pos 0
side_off low high s h = grind (arith, nat_tests)

no_sides : (of_face : ℕ → ℤ) (low high : ℕ) (sides : List FaceSide) → list_any (joins low high) sides ≡ false
    → part_sum of_face (share (pos 1) low high) sides ≡ pos 0
no_sides of_face low high [] off = refl
no_sides of_face low high (s ∷ sides) off = elim (cases_Bool (joins low high s)) [
  | inl on ↦ grind arith
  | inr no_side ↦
      let rest : list_any (joins low high) sides ≡ false = rw no_side at off in
      let more = no_sides of_face low high sides rest in
      let here : of_face s.face *ℤ share (pos 1) low high s.tail s.head ≡ pos 0 =
      ap (λ z. of_face s.face *ℤ z) (side_off low high s no_side) ∙ *ℤ-zero (of_face s.face) in
      omega (arith, ints, here, more)
]

no_boundary : (mesh : FaceList) (of_face : ℕ → ℤ) (low high : ℕ) → is_edge mesh low high ≡ false
    → part_sum of_face (share (pos 1) low high) (all_sides mesh) ≡ pos 0
unfolding is_edge
no_boundary mesh of_face low high off = no_sides of_face low high (all_sides mesh) off

balanced : (mesh : FaceList) (of_face : ℕ → ℤ) (first second : List ℕ) → Linked mesh first → Linked mesh second
    → IsChain mesh of_face first second → IsBalanced (difference mesh of_face first second)
balanced mesh of_face first second one two chain low high up = grind (arith, value-difference, boundary_is, no_count, no_boundary)

-- with a chain, the sums of any numbers of darts differ by what the faces add up to
pub chain_tells : (mesh : FaceList) (of_face : ℕ → ℤ) (first second : List ℕ) (number : ℕ → ℕ → ℤ) → IsOpposite number
    → Linked mesh first → Linked mesh second → IsChain mesh of_face first second
    → along number first -ℤ along number second ≡ part_sum of_face number (all_sides mesh)
chain_tells mesh of_face first second number opposite one two chain =
    let none = nothing number (difference mesh of_face first second) opposite
    (balanced mesh of_face first second one two chain) in grind (arith, value-difference)

pub dart_number-opposite : (of_edge : ℕ → ℕ → ℤ) → IsOpposite (dart_number of_edge)
dart_number-opposite of_edge = grind arith

pub refuted : (mesh : FaceList) (of_edge : ℕ → ℕ → ℤ) (first second : List ℕ) → IsWalk mesh first → IsWalk mesh second
    → IsCocycle mesh of_edge → Separates of_edge first second → (of_face : ℕ → ℤ) → IsChain mesh of_face first second → ⊥
refuted mesh of_edge first second w x cocycle separates of_face chain = separates
    (chain_tells mesh of_face first second (dart_number of_edge) (dart_number-opposite of_edge) (links mesh first w) (links mesh second x)
    chain
    ∙ closed_mesh of_face (dart_number of_edge) mesh cocycle.closed)
