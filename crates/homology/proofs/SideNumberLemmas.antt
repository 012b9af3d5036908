-- The numbers of sides, side by side.
use Rattle.homology.proofs.Common.{side_numbers, dart_number, AreTableNumbers, AreNumbersWithin, number_at, signed_from, ◌≡◌, ◌≢◌, inl, inr, ℕ, zero, suc, ◌+◌, ◌<◌, ◌≤◌, ◌-◌, ◌&&◌, List, [], ◌∷◌, ◌++◌, length, get_or, take, ap, sym, ◌∙◌, arith, ℤ, pos, nat_tests, common_steps, get_or-map, length-map, ◌==◌, if◌then◌else◌, neg_ℤ, unsigned_abs, Contains, AllPairs, face_side, length-all_sides, HasSideEnds, IsSideOfEdge, side_of_edge, table_edge, head_of, tail_of, IsSide, side_number, IsPairBefore, Edge, IsTableOf, HasEnds, edge_in, FaceList, FaceSide, all_sides, face_at, total_sides, Side}
use Rattle.surf_model.proofs.SideNumberLemmas.{side_of_number-is}
use Rattle.surf_model.specs.EdgeDarts.{edge_darts_of}
use Rattle.homology.proofs.CocycleVerdictLemmas.{dart_is}

-- ---- from numbers of the edges to those of the sides

-- the ends of a side are those of its edge
has_ends : (mesh : FaceList) (edge : Edge) (side : Side) → HasSideEnds mesh edge.low edge.high side
    → HasEnds (tail_of mesh side) (head_of mesh side) edge
has_ends mesh edge side (inl e) = inl (sym e.0, sym e.1)
has_ends mesh edge side (inr e) = inr (sym e.1, sym e.0)

-- a side of an edge of the table that has this number
record IsNumbered (mesh : FaceList) (edge : Edge) (d : ℕ) : Type 0 where
  side : Side
  is_side : IsSideOfEdge mesh edge side
  number : side_number mesh side ≡ d

numbered : (mesh : FaceList) (table : List Edge) (d e : ℕ) → IsTableOf mesh table → e < length table
    → Contains (edge_darts_of mesh (edge_in table e)) d → IsNumbered mesh (edge_in table e) d
numbered mesh table d e h l has =
    let edge : Edge = edge_in table e in
    let none : Side = record { face = record { 0 = 0 }; at = 0 } in
    let below : has.0 < length edge.sides = omega (arith, has.1, length-map edge.sides (side_number mesh)) in
    record {
      side = get_or edge.sides has.0 none;
      is_side = side_of_edge mesh edge has.0 none (table_edge mesh table e h l) below;
      number = sym (get_or-map (side_number mesh) edge.sides has.0 none d below) ∙ has.2;
    }

-- there is one for each side
pub length-side_numbers : (mesh : FaceList) (of_edge : ℕ → ℕ → ℤ) → length (side_numbers mesh of_edge) ≡ total_sides mesh
length-side_numbers mesh of_edge = grind (arith, common_steps, length-all_sides)

-- the number of a side is that of its dart
of_side_at : (mesh : FaceList) (of_edge : ℕ → ℕ → ℤ) (d : ℕ) (none : ℤ) (side : Side) → IsSide mesh side → side_number mesh side ≡ d
    → d < total_sides mesh → get_or (side_numbers mesh of_edge) d none ≡ dart_number of_edge (tail_of mesh side) (head_of mesh side)
of_side_at mesh of_edge d none side in_mesh is l =
    let no_side : FaceSide = record { face = 0; at = 0; tail = 0; head = 0 } in
    let number : FaceSide → ℤ = λ (s : FaceSide). dart_number of_edge s.tail s.head in
    let here : get_or (all_sides mesh) d no_side ≡ face_side side.face.0 (face_at mesh side.face.0) side.at =
    ap (λ n. get_or (all_sides mesh) n no_side) (sym is) ∙ side_of_number-is mesh side.face.0 side.at in_mesh.face in_mesh.place in
    get_or-map number (all_sides mesh) d no_side none (omega (arith, l, length-all_sides mesh)) ∙ ap number here

-- what the edges give to a side
pub side_is : (mesh : FaceList) (table : List Edge) (numbers : List ℤ) (of_edge : ℕ → ℕ → ℤ) (d e u : ℕ) (r : ℤ)
    → IsTableOf mesh table → AreTableNumbers table numbers of_edge → d < total_sides mesh → e < length table
    → Contains (edge_darts_of mesh (edge_in table e)) d
    → ((side : Side) → IsSide mesh side → side_number mesh side ≡ d → u ≡ tail_of mesh side)
    → r ≡ signed_from (number_at numbers e) (edge_in table e) u → get_or (side_numbers mesh of_edge) d r ≡ r
side_is mesh table numbers of_edge d e u r h are l el has tail is =
    let found : IsNumbered mesh (edge_in table e) d = numbered mesh table d e h el has in
    let side : Side = found.side in
    let in_mesh : IsSide mesh side = found.is_side.side_of in
    let from : u ≡ tail_of mesh side = tail side in_mesh found.number in
    let ends : HasEnds u (head_of mesh side) (edge_in table e) = grind (arith, head_of, has_ends) in
    of_side_at mesh of_edge d r side in_mesh found.number l
    ∙ ap (λ x. dart_number of_edge x (head_of mesh side)) (sym from)
    ∙ sym (dart_is mesh table numbers of_edge e u (head_of mesh side) r h are el ends is)

-- one side more
pub side_more : (mesh : FaceList) (of_edge : ℕ → ℕ → ℤ) (old new : List ℤ) (d : ℕ) (r : ℤ) → d < total_sides mesh
    → get_or (side_numbers mesh of_edge) d r ≡ r → new ≡ old ++ r ∷ [] → old ≡ take d (side_numbers mesh of_edge)
    → new ≡ take (d + 1) (side_numbers mesh of_edge)
side_more mesh of_edge old new d r l last grown was = grind (arith, common_steps, length-side_numbers)

-- a small number put last
pub within_pushed : (bound : ℕ) (old new : List ℤ) (r : ℤ) → AreNumbersWithin bound old → unsigned_abs r ≤ bound → new ≡ old ++ r ∷ []
    → AreNumbersWithin bound new
within_pushed bound old new r h l is = grind (arith, common_steps, number_at)

-- ---- from numbers of the sides to those of the edges

-- the number of an edge, by that of a side that runs along it
pub along_side : (mesh : FaceList) (of_side : List ℤ) (of_edge : ℕ → ℕ → ℤ) (edge : Edge) (side : Side) (d u : ℕ)
    → edge.low < edge.high → IsSideOfEdge mesh edge side → side_number mesh side ≡ d → d < total_sides mesh → u ≡ tail_of mesh side
    → of_side ≡ side_numbers mesh of_edge → u ≡ edge.low → number_at of_side d ≡ of_edge edge.low edge.high
along_side mesh of_side of_edge edge side d u up h is l from even low =
    let there : dart_number of_edge edge.low edge.high ≡ of_edge edge.low edge.high = grind (arith, nat_tests) in
    ap (λ (xs : List ℤ). number_at xs d) even ∙ of_side_at mesh of_edge d (pos 0) side h.side_of is l
    ∙ ap (λ x. dart_number of_edge x (head_of mesh side)) (sym from ∙ low)
    ∙ ap (dart_number of_edge edge.low) (head h.ends) ∙ there
  where
    head : HasSideEnds mesh edge.low edge.high side → head_of mesh side ≡ edge.high
    head (inl e) = e.1
    head (inr e) = absurd (omega (arith, e.0, from, low))

-- and by that of one that runs against it
pub against_side : (mesh : FaceList) (of_side : List ℤ) (of_edge : ℕ → ℕ → ℤ) (edge : Edge) (side : Side) (d u : ℕ)
    → edge.low < edge.high → IsSideOfEdge mesh edge side → side_number mesh side ≡ d → d < total_sides mesh → u ≡ tail_of mesh side
    → of_side ≡ side_numbers mesh of_edge → u ≢ edge.low → number_at of_side d ≡ neg_ℤ (of_edge edge.low edge.high)
against_side mesh of_side of_edge edge side d u up h is l from even off =
    let there : dart_number of_edge edge.high edge.low ≡ neg_ℤ (of_edge edge.low edge.high) = grind (arith, nat_tests) in
    let ends = turned_ends h.ends in
    ap (λ (xs : List ℤ). number_at xs d) even ∙ of_side_at mesh of_edge d (pos 0) side h.side_of is l
    ∙ ap (λ x. dart_number of_edge x (head_of mesh side)) ends.0 ∙ ap (dart_number of_edge edge.high) ends.1 ∙ there
  where
    turned_ends : HasSideEnds mesh edge.low edge.high side → (tail_of mesh side ≡ edge.high) × (head_of mesh side ≡ edge.low)
    turned_ends (inl e) = absurd (off (from ∙ e.0))
    turned_ends (inr e) = e

-- one number more
pub number_pushed : (table : List Edge) (of_edge : ℕ → ℕ → ℤ) (old new : List ℤ) (e : ℕ) (r : ℤ) → length old ≡ e → new ≡ old ++ r ∷ []
    → ((k : ℕ) → k < e → number_at old k ≡ of_edge (edge_in table k).low (edge_in table k).high)
    → r ≡ of_edge (edge_in table e).low (edge_in table e).high → (k : ℕ) → k < e + 1
    → number_at new k ≡ of_edge (edge_in table k).low (edge_in table k).high
number_pushed table of_edge old new e r long is before here k l = grind (arith, common_steps, number_at)

-- the number of the edge of a table with these ends, and 0 where there is none
abbrev pub number_in : List Edge → List ℤ → ℕ → ℕ → ℤ
number_in [] numbers low high = pos 0
number_in (edge ∷ edges) [] low high = pos 0
number_in (edge ∷ edges) (number ∷ numbers) low high =
    if edge.low == low && edge.high == high then number else number_in edges numbers low high

own_number : (a b : ℕ) (number other : ℤ) → (if a == a && b == b then number else other) ≡ number
own_number a b number other = grind (arith, nat_tests)

other_number : (a b c d : ℕ) (number other : ℤ) → IsPairBefore a b c d → (if a == c && b == d then number else other) ≡ other
other_number a b c d number other h = grind (arith, nat_tests)

number_in_at : (table : List Edge) (numbers : List ℤ) (k : ℕ) → AllPairs (λ (e f : Edge). IsPairBefore e.low e.high f.low f.high) table
    → length numbers ≡ length table → k < length table
    → number_at numbers k ≡ number_in table numbers (edge_in table k).low (edge_in table k).high
number_in_at [] numbers k rising long l = absurd (omega arith)
number_in_at (edge ∷ edges) [] k rising long l = absurd (omega arith)
number_in_at (edge ∷ edges) (number ∷ numbers) zero rising long l = grind (arith, own_number)
number_in_at (edge ∷ edges) (number ∷ numbers) (suc k) rising long l =
    let none : Edge = record { low = 0; high = 0; sides = [] } in
    let later : Edge = edge_in edges k in
    number_in_at edges numbers k (λ i j d less few. rising (suc i) (suc j) d (omega (arith, less)) (omega (arith, few)))
    (omega arith) (omega arith)
    ∙ sym (other_number edge.low edge.high later.low later.high number (number_in edges numbers later.low later.high)
    (rising 0 (suc k) none (omega arith) l))

pub are_numbers_in : (mesh : FaceList) (table : List Edge) (numbers : List ℤ) → IsTableOf mesh table → length numbers ≡ length table
    → AreTableNumbers table numbers (number_in table numbers)
are_numbers_in mesh table numbers h long = record { long = long; each = λ k l. number_in_at table numbers k h.rising long l }
