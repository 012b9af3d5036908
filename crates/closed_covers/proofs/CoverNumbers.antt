-- The numbers of the cover of a mesh each edge of which has two sides.
use Rattle.closed_covers.proofs.Common.{side_sum, all_faces, edge_lifted, cover_valid, apart_over, sheet_behind, over, AreTurns, cover_of, ◌≡◌, ℕ, ◌+◌, ◌*◌, ◌-◌, ◌<◌, Bool, true, false, List, [], ◌∷◌, length, refl, ap₂, sym, ◌∙◌, subst, arith, ℤ, pos, ◌+ℤ◌, ◌-ℤ◌, tail_used, used_below, FaceList, FaceSide, IsFaceList, all_sides, total_sides, is_used, EachEdgeHasTwoSides}
use Rattle.closed_covers.specs.TwiceNumbers.{AreTwice}
use Rattle.closed_doubles.proofs.DoubleNumbers.{agree, some_edge, count_twice, ones, some_numbers}
use Rattle.closed_doubles.proofs.EdgeSums.{edges_twice}
use Rattle.std.proofs.lemmas.Int.{ints}
use Rattle.surf_model.proofs.NumberLemmas.{length-all_sides}
use Rattle.surf_model.specs.Genera.{AreNumbersOf, HasGenus}
use Rattle.surf_model.specs.declared.numbers.SurfaceNumbers.{SurfaceNumbers}
use Rattle.closed_covers.proofs.CoverEdges.{cover_sum, cover_two_sides}
use Rattle.closed_covers.proofs.JoinedCovers.{IsOverUsed, over_used}

-- a vertex of the cover is used where the one below it is
used_over : (mesh : FaceList) (turns : ℕ → ℕ → Bool) (s : Bool) (v : ℕ) → IsFaceList mesh → AreTurns mesh turns → v < mesh.count
    → is_used (cover_of mesh turns) (over mesh.count s v) ≡ is_used mesh v
used_over mesh turns s v valid are l =
    agree (is_used (cover_of mesh turns) (over mesh.count s v)) (is_used mesh v)
    (λ there.
    let below : IsOverUsed mesh turns are (over mesh.count s v) = over_used mesh turns are (over mesh.count s v) there in
    subst (λ (w : ℕ). is_used mesh w ≡ true)
    (sym (apart_over mesh.count s below.upper v below.low l (used_below mesh below.low valid below.used) below.is).below)
    below.used)
    (λ here.
    let edge = some_edge mesh v here in
    tail_used (cover_of mesh turns) (over mesh.count s v) (over mesh.count (sheet_behind turns s v edge.0) edge.0)
    (edge_lifted mesh turns are s v edge.0 edge.1))

twos : (sides : List FaceSide) → side_sum (λ a b. 2) sides ≡ length sides + length sides
twos [] = refl
twos (s ∷ sides) = omega (arith, twos sides)

cover_sides : (mesh : FaceList) (turns : ℕ → ℕ → Bool) → AreTurns mesh turns
    → total_sides (cover_of mesh turns) ≡ total_sides mesh + total_sides mesh
cover_sides mesh turns are =
    omega (
      arith,
      length-all_sides (cover_of mesh turns),
      length-all_sides mesh,
      ones (all_sides (cover_of mesh turns)),
      twos (all_sides mesh),
      cover_sum mesh turns (λ a b. 1) are,
    )

euler_twice : (v e f w d g : ℕ) (euler other : ℤ) → w ≡ v + v → d ≡ e + e → g ≡ f + f
    → euler ≡ (pos v -ℤ pos e) +ℤ pos f → other ≡ (pos w -ℤ pos d) +ℤ pos g → other ≡ euler +ℤ euler
euler_twice v e f w d g euler other p q r s t = omega (arith, ints)

pub cover_numbers : (mesh : FaceList) (turns : ℕ → ℕ → Bool) (numbers others : SurfaceNumbers) → IsFaceList mesh → AreTurns mesh turns
    → EachEdgeHasTwoSides mesh → AreNumbersOf mesh numbers → AreNumbersOf (cover_of mesh turns) others → AreTwice numbers others
cover_numbers mesh turns numbers others valid are two is there =
    let v : others.vertices ≡ numbers.vertices + numbers.vertices =
    there.vertices
    ∙ count_twice (is_used mesh) (is_used (cover_of mesh turns)) mesh.count (λ v l. used_over mesh turns false v valid are l)
    (λ v l. used_over mesh turns true v valid are l)
    ∙ sym (ap₂ (λ a b. a + b) is.vertices is.vertices) in
    let above : EachEdgeHasTwoSides (cover_of mesh turns) = cover_two_sides mesh turns valid are two in
    let e : others.edges ≡ numbers.edges + numbers.edges =
    omega (
      arith,
      there.edges,
      is.edges,
      edges_twice (cover_of mesh turns) there.table there.is_table above,
      edges_twice mesh is.table is.is_table two,
      cover_sides mesh turns are,
    ) in
    let f : others.faces ≡ numbers.faces + numbers.faces = omega (arith, there.faces, is.faces, all_faces mesh turns) in
    record {
      vertices = v;
      edges = e;
      faces = f;
      euler = euler_twice numbers.vertices numbers.edges numbers.faces others.vertices others.edges others.faces numbers.euler
          others.euler v e f is.euler there.euler;
    }

genus_of_cover : (k : ℕ) (euler other : ℤ) → 0 < k → pos 2 -ℤ pos k ≡ euler → other ≡ euler +ℤ euler
    → pos 2 -ℤ pos (2 * (k - 1)) ≡ other
genus_of_cover k euler other some p q = omega (arith, ints)

pub cover_genus : (mesh : FaceList) (turns : ℕ → ℕ → Bool) (numbers : SurfaceNumbers) (k : ℕ) → IsFaceList mesh → AreTurns mesh turns
    → EachEdgeHasTwoSides mesh → AreNumbersOf mesh numbers → 0 < k → pos 2 -ℤ pos k ≡ numbers.euler
    → HasGenus (cover_of mesh turns) (k - 1)
cover_genus mesh turns numbers k valid are two is some euler =
    let others = some_numbers (cover_of mesh turns) (cover_valid mesh turns valid) in
    let twice : AreTwice numbers others.0 = cover_numbers mesh turns numbers others.0 valid are two is others.1 in
    (others.0, others.1, genus_of_cover k numbers.euler others.0.euler some euler twice.euler)
