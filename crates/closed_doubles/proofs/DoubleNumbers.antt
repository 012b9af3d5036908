-- The numbers of the double of a mesh no edge of which has three sides, and whose corners at each vertex make one ring or one fan.
use Rattle.closed_doubles.proofs.Common.{used_corner, NoEdgeHasThreeSides, EachVertexHasOneRing, rims, kept_edge, fold_kept, fold_mirror, double_valid, double_of, ◌≡◌, ℕ, zero, suc, ◌+◌, ◌*◌, ◌-◌, ◌<◌, Bool, true, false, List, [], ◌∷◌, length, get_or, refl, ap, ap₂, sym, ◌∙◌, subst, arith, common_steps, ℤ, pos, ◌+ℤ◌, ◌-ℤ◌, if◌then◌else◌, step_edge, tail_used, length-all_sides, FaceList, FaceSide, IsFaceList, all_sides, total_sides, face_at, next_corner, is_edge, is_used, EachEdgeHasTwoSides}
use Rattle.closed_doubles.specs.DoubledNumbers.{boundary_size, AreDoubled}
use Rattle.std.proofs.lemmas.Int.{ints}
use Rattle.surf_model.proofs.EdgeTables.{some_table}
use Rattle.surf_model.specs.Genera.{AreNumbersOf, HasGenus}
use Rattle.surf_model.specs.Numbers.{count_below}
use Rattle.surf_model.specs.declared.numbers.SurfaceNumbers.{SurfaceNumbers}
use Rattle.closed_doubles.proofs.SideSums.{side_sum, double_sum}
use Rattle.closed_doubles.proofs.EdgeSums.{edges_twice, edges_with_rims}
use Rattle.closed_doubles.proofs.TwoSides.{double_two_sides}
use Rattle.closed_doubles.proofs.JoinedDoubles.{mirror_edge, fold_used}

-- ---- counts below a bound

pub count_alike : (test other : ℕ → Bool) (n : ℕ) → ((v : ℕ) → v < n → test v ≡ other v) → count_below test n ≡ count_below other n
count_alike test other zero same = refl
count_alike test other (suc n) same =
    ap₂ (λ a b. a + b) (count_alike test other n (λ v l. same v (omega (arith, l))))
    (ap (λ (b : Bool). if b then 1 else 0) (same n (omega arith)))

pub count_parts : (test : ℕ → Bool) (n k : ℕ) → count_below test (k + n) ≡ count_below test n + count_below (λ v. test (v + n)) k
count_parts test n zero = grind arith
count_parts test n (suc k) =
    let up : suc k + n ≡ suc (k + n) = omega arith in
    ap (count_below test) up ∙ omega (arith, count_parts test n k)

-- two sheets, or a mesh and its mirror
pub count_twice : (test other : ℕ → Bool) (n : ℕ) → ((v : ℕ) → v < n → other v ≡ test v) → ((v : ℕ) → v < n → other (v + n) ≡ test v)
    → count_below other (n + n) ≡ count_below test n + count_below test n
count_twice test other n low high = grind (arith, count_parts, count_alike)

-- ---- the double

pub agree : (a b : Bool) → (a ≡ true → b ≡ true) → (b ≡ true → a ≡ true) → a ≡ b
agree true b there back = sym (there refl)
agree false true there back = back refl
agree false false there back = refl

pub some_edge : (mesh : FaceList) (v : ℕ) → is_used mesh v ≡ true → (w : ℕ) × (is_edge mesh v w ≡ true)
some_edge mesh v used =
    let found = used_corner mesh v used in
    let ring : List ℕ = face_at mesh found.0.face.0 in
    let w : ℕ = get_or ring (next_corner true (length ring) found.0.at) 0 in (
      w,
      subst (λ (u : ℕ). is_edge mesh u w ≡ true) found.1.vertex
          (step_edge mesh found.0.face.0 true found.0.at found.1.side.face found.1.side.place),
    )

kept_used : (mesh : FaceList) (v : ℕ) → IsFaceList mesh → v < mesh.count → is_used (double_of mesh) v ≡ is_used mesh v
kept_used mesh v valid l =
    agree (is_used (double_of mesh) v) (is_used mesh v)
    (λ there. subst (λ (w : ℕ). is_used mesh w ≡ true) (fold_kept mesh.count v l) (fold_used mesh v valid there))
    (λ here.
    let edge = some_edge mesh v here in
    tail_used (double_of mesh) v edge.0 (kept_edge mesh v edge.0 edge.1))

mirror_used : (mesh : FaceList) (v : ℕ) → IsFaceList mesh → v < mesh.count
    → is_used (double_of mesh) (v + mesh.count) ≡ is_used mesh v
mirror_used mesh v valid l =
    agree (is_used (double_of mesh) (v + mesh.count)) (is_used mesh v)
    (λ there. subst (λ (w : ℕ). is_used mesh w ≡ true) (fold_mirror mesh.count v) (fold_used mesh (v + mesh.count) valid there))
    (λ here.
    let edge = some_edge mesh v here in
    tail_used (double_of mesh) (v + mesh.count) (edge.0 + mesh.count) (mirror_edge mesh v edge.0 valid edge.1))

double_faces : (mesh : FaceList) → length (double_of mesh).faces ≡ length mesh.faces + length mesh.faces + boundary_size mesh
double_faces mesh = grind (arith, common_steps)

pub ones : (sides : List FaceSide) → side_sum (λ a b. 1) sides ≡ length sides
ones [] = refl
ones (s ∷ sides) = omega (arith, ones sides)

fours : (sides : List FaceSide) → side_sum (λ a b. 4) sides ≡ 4 * length sides
fours [] = refl
fours (s ∷ sides) = omega (arith, fours sides)

double_sides : (mesh : FaceList) → total_sides (double_of mesh) ≡ total_sides mesh + total_sides mesh + 4 * boundary_size mesh
double_sides mesh =
    omega (
      arith,
      length-all_sides (double_of mesh),
      length-all_sides mesh,
      ones (all_sides (double_of mesh)),
      ones (all_sides mesh),
      fours (rims mesh),
      double_sum mesh (λ a b. 1),
    )

euler_twice : (v e f b w d g : ℕ) (euler other : ℤ) → w ≡ v + v → d ≡ e + e + b → g ≡ f + f + b
    → euler ≡ (pos v -ℤ pos e) +ℤ pos f → other ≡ (pos w -ℤ pos d) +ℤ pos g → other ≡ euler +ℤ euler
euler_twice v e f b w d g euler other p q r s t = omega (arith, ints)

pub double_numbers : (mesh : FaceList) (numbers others : SurfaceNumbers) → IsFaceList mesh → NoEdgeHasThreeSides mesh
    → EachVertexHasOneRing mesh → AreNumbersOf mesh numbers → AreNumbersOf (double_of mesh) others → AreDoubled mesh numbers others
double_numbers mesh numbers others valid few ring is are =
    let v : others.vertices ≡ numbers.vertices + numbers.vertices = grind (arith, count_twice, kept_used, mirror_used) in
    let two : EachEdgeHasTwoSides (double_of mesh) = double_two_sides mesh valid few ring in
    let e : others.edges ≡ numbers.edges + numbers.edges + boundary_size mesh =
    omega (
      arith,
      are.edges,
      is.edges,
      edges_twice (double_of mesh) are.table are.is_table two,
      edges_with_rims mesh is.table is.is_table few,
      double_sides mesh,
    ) in
    let f : others.faces ≡ numbers.faces + numbers.faces + boundary_size mesh =
    omega (arith, are.faces, is.faces, double_faces mesh) in
    record {
      vertices = v;
      edges = e;
      faces = f;
      euler = euler_twice numbers.vertices numbers.edges numbers.faces (boundary_size mesh) others.vertices others.edges others.faces
          numbers.euler others.euler v e f is.euler are.euler;
    }

pub some_numbers : (mesh : FaceList) → IsFaceList mesh → (numbers : SurfaceNumbers) × AreNumbersOf mesh numbers
some_numbers mesh valid =
    let table = some_table mesh valid in
    let v : ℕ = count_below (is_used mesh) mesh.count in
    let e : ℕ = length table.0 in
    let f : ℕ = length mesh.faces in (
      record { vertices = v; edges = e; faces = f; euler = (pos v -ℤ pos e) +ℤ pos f },
      record { vertices = refl; table = table.0; is_table = table.1; edges = refl; faces = refl; euler = refl },
    )

genus_of_double : (g b : ℕ) (euler other : ℤ) → 0 < b → (pos 2 -ℤ pos (2 * g)) -ℤ pos b ≡ euler → other ≡ euler +ℤ euler
    → pos 2 -ℤ pos (2 * (2 * g + b - 1)) ≡ other
genus_of_double g b euler other some p q = omega (arith, ints)

pub double_genus : (mesh : FaceList) (numbers : SurfaceNumbers) (g b : ℕ) → IsFaceList mesh → NoEdgeHasThreeSides mesh
    → EachVertexHasOneRing mesh → AreNumbersOf mesh numbers → 0 < b → (pos 2 -ℤ pos (2 * g)) -ℤ pos b ≡ numbers.euler
    → HasGenus (double_of mesh) (2 * g + b - 1)
double_genus mesh numbers g b valid few ring is some euler =
    let others = some_numbers (double_of mesh) (double_valid mesh valid) in
    let doubled : AreDoubled mesh numbers others.0 = double_numbers mesh numbers others.0 valid few ring is others.1 in
    (others.0, others.1, genus_of_double g b numbers.euler others.0.euler some euler doubled.euler)
