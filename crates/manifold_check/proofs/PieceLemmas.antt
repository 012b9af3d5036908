-- Some faces of a mesh that no edge joins to others: sides, edges and walks of these faces alone and of the whole mesh.
use Rattle.manifold_check.proofs.Common.{after_in_mesh, corner_used, used_corner, HasSideBetween, side_between, ◌≡◌, ◌⊎◌, inl, inr, ℕ, zero, suc, ◌+◌, ◌<◌, Bool, true, List, [], length, get_or, refl, ap, sym, ◌∙◌, subst, arith, add-one, common_steps, length-map, get_or-map, get_or_default, All-filter, filter_passes, length-range_with_len, get_or-range_with_len, AllPairs-filter, range_with_len, All, AllPairs, Contains, filter, step_edge, Contains-filter, IsSide, side_after, tail_of, head_of, FaceList, face_at, is_edge, is_used, submesh, IsWalk, Side}
use Rattle.surf_model.proofs.EdgeLemmas.{edge_swap}

-- a face by its place among some faces
pub record HasPlaceAmong (names : List ℕ) (f : ℕ) : Type 0 where
  pub place : ℕ
  pub within : place < length names
  pub named : get_or names place 0 ≡ f

-- the faces with these names are those that pass a test, which are those with a corner inside, and all their corners are inside
pub record IsPiece (mesh : FaceList) (Inside : ℕ → Type 0) (names : List ℕ) : Type 0 where
  pub test : ℕ → Bool
  pub names_are : names ≡ filter test (range_with_len 0 (length mesh.faces))
  pub passes : (f t : ℕ) → f < length mesh.faces → t < length (face_at mesh f) → Inside (get_or (face_at mesh f) t 0) → test f ≡ true
  pub each : (f : ℕ) → f < length names → get_or names f 0 < length mesh.faces
  pub rising : (f g : ℕ) → f < g → g < length names → get_or names f 0 < get_or names g 0
  pub corners : (f t : ℕ) → f < length names → t < length (face_at mesh (get_or names f 0)) → Inside
      (get_or (face_at mesh (get_or names f 0)) t 0)
  pub all : (f t : ℕ) → f < length mesh.faces → t < length (face_at mesh f) → Inside (get_or (face_at mesh f) t 0) → HasPlaceAmong names f

range_rises : (n : ℕ) → AllPairs (λ i j. i < j) (range_with_len 0 n)
range_rises n i j d less l = grind (arith, length-range_with_len, get_or-range_with_len)

range_below : (n : ℕ) → All (λ i. i < n) (range_with_len 0 n)
range_below n i d l = grind (arith, length-range_with_len, get_or-range_with_len)

pub piece_by_test : (mesh : FaceList) (Inside : ℕ → Type 0) (test : ℕ → Bool)
    → ((f t : ℕ) → f < length mesh.faces → test f ≡ true → t < length (face_at mesh f) → Inside (get_or (face_at mesh f) t 0))
    → ((f t : ℕ) → f < length mesh.faces → t < length (face_at mesh f) → Inside (get_or (face_at mesh f) t 0) → test f ≡ true)
    → IsPiece mesh Inside (filter test (range_with_len 0 (length mesh.faces)))
piece_by_test mesh Inside test inside tested =
    let all : List ℕ = range_with_len 0 (length mesh.faces) in
    let within : All (λ i. i < length mesh.faces) (filter test all) =
    All-filter test (λ i. i < length mesh.faces) all (range_below (length mesh.faces)) in
    record {
      test = test;
      names_are = refl;
      passes = tested;
      each = λ f l. within f 0 l;
      rising = λ f g less l. AllPairs-filter (λ i j. i < j) test all (range_rises (length mesh.faces)) f g 0 less l;
      corners = λ f t l b. inside (get_or (filter test all) f 0) t (within f 0 l) (filter_passes test all f 0 l) b;
      all = λ f t l b here.
          let there : Contains all f = (
            f,
            omega (arith, l, length-range_with_len 0 (length mesh.faces)),
            get_or-range_with_len 0 (length mesh.faces) f f l ∙ (let e : 0 + f ≡ f = omega arith in e),
          ) in
          let kept : Contains (filter test all) f = Contains-filter test all f (tested f t l b here) there in
          record { place = kept.0; within = kept.1; named = get_or_default (filter test all) kept.0 0 f kept.1 ∙ kept.2 };
    }

pub named_once : (mesh : FaceList) (Inside : ℕ → Type 0) (names : List ℕ) (f g : ℕ) → IsPiece mesh Inside names → f < length names
    → g < length names → get_or names f 0 ≡ get_or names g 0 → f ≡ g
named_once mesh Inside names f g h lf lg same = grind arith

-- a side of the submesh as a side of the whole mesh
abbrev pub renamed_side : List ℕ → Side → Side
renamed_side names side = record { face = record { 0 = get_or names side.face.0 0 }; at = side.at }

pub length-submesh : (mesh : FaceList) (names : List ℕ) → length (submesh mesh names).faces ≡ length names
length-submesh mesh names = length-map names (face_at mesh)

pub face-submesh : (mesh : FaceList) (names : List ℕ) (f : ℕ) → f < length names
    → face_at (submesh mesh names) f ≡ face_at mesh (get_or names f 0)
face-submesh mesh names f l = get_or-map (face_at mesh) names f 0 [] l

-- what is known of a side of the submesh
pub record IsRenamed (mesh : FaceList) (names : List ℕ) (side : Side) : Type 0 where
  pub named : side.face.0 < length names
  pub face : face_at (submesh mesh names) side.face.0 ≡ face_at mesh (get_or names side.face.0 0)
  pub in_mesh : IsSide mesh (renamed_side names side)
  pub tail : tail_of (submesh mesh names) side ≡ tail_of mesh (renamed_side names side)
  pub head : head_of (submesh mesh names) side ≡ head_of mesh (renamed_side names side)
  pub after : renamed_side names (side_after (submesh mesh names) side) ≡ side_after mesh (renamed_side names side)

pub renamed : (mesh : FaceList) (Inside : ℕ → Type 0) (names : List ℕ) (side : Side) → IsPiece mesh Inside names
    → IsSide (submesh mesh names) side → IsRenamed mesh names side
renamed mesh Inside names side h is = grind (arith, length-submesh, face-submesh)

-- a side of the mesh that is one of the submesh
pub record ComesFrom (mesh : FaceList) (names : List ℕ) (side : Side) : Type 0 where
  pub side_there : Side
  pub in_submesh : IsSide (submesh mesh names) side_there
  pub is : renamed_side names side_there ≡ side

pub comes_from : (mesh : FaceList) (Inside : ℕ → Type 0) (names : List ℕ) (side : Side) → IsPiece mesh Inside names → IsSide mesh side
    → Inside (tail_of mesh side) → ComesFrom mesh names side
comes_from mesh Inside names side h is inside =
    let found : HasPlaceAmong names side.face.0 = h.all side.face.0 side.at is.face is.place inside in
    let same : face_at (submesh mesh names) found.place ≡ face_at mesh side.face.0 =
    face-submesh mesh names found.place found.within ∙ ap (face_at mesh) found.named in
    let name : ℕ → Side = λ f. record { face = record { 0 = f }; at = side.at } in
    record {
      side_there = record { face = record { 0 = found.place }; at = side.at };
      in_submesh = grind (arith, length-submesh);
      is = ap name found.named;
    }

-- the other end of a side with one end inside is inside
pub inside_side : (mesh : FaceList) (Inside : ℕ → Type 0) (names : List ℕ) (side : Side) → IsPiece mesh Inside names → IsSide mesh side
    → (Inside (tail_of mesh side)) ⊎ (Inside (head_of mesh side)) → Inside (tail_of mesh side) × Inside (head_of mesh side)
inside_side mesh Inside names side h is one = grind (arith, after_in_mesh)

-- a side of the mesh with an end inside is one of the submesh
pub comes_from_end : (mesh : FaceList) (Inside : ℕ → Type 0) (names : List ℕ) (side : Side) → IsPiece mesh Inside names → IsSide mesh side
    → (Inside (tail_of mesh side)) ⊎ (Inside (head_of mesh side)) → ComesFrom mesh names side
comes_from_end mesh Inside names side h is one =
    comes_from mesh Inside names side h is (inside_side mesh Inside names side h is one).0

-- both ends of a side of the submesh are inside
pub side_inside : (mesh : FaceList) (Inside : ℕ → Type 0) (names : List ℕ) (side : Side) → IsPiece mesh Inside names
    → IsSide (submesh mesh names) side → Inside (tail_of mesh (renamed_side names side))
side_inside mesh Inside names side h is = grind (arith, common_steps, renamed)

pub edge_of_side : (mesh : FaceList) (side : Side) → IsSide mesh side → is_edge mesh (tail_of mesh side) (head_of mesh side) ≡ true
edge_of_side mesh side is = step_edge mesh side.face.0 true side.at is.face is.place

edge_by_side : (mesh : FaceList) (u v : ℕ) (side : Side) → IsSide mesh side
    → ((tail_of mesh side ≡ u) × (head_of mesh side ≡ v)) ⊎ ((tail_of mesh side ≡ v) × (head_of mesh side ≡ u)) → is_edge mesh u v ≡ true
edge_by_side mesh u v side is (inl e) = grind (arith, edge_of_side)
edge_by_side mesh u v side is (inr e) = grind (arith, edge_swap, edge_of_side)

-- an edge of the submesh is one of the mesh
pub edge_up : (mesh : FaceList) (Inside : ℕ → Type 0) (names : List ℕ) (u v : ℕ) → IsPiece mesh Inside names
    → is_edge (submesh mesh names) u v ≡ true → is_edge mesh u v ≡ true
edge_up mesh Inside names u v h is =
    let found : HasSideBetween (submesh mesh names) u v = side_between (submesh mesh names) u v is in
    let r : IsRenamed mesh names found.side = renamed mesh Inside names found.side h found.in_mesh in
    edge_by_side mesh u v (renamed_side names found.side) r.in_mesh (elim found.ends [
      | inl e ↦ inl (sym r.tail ∙ e.0, sym r.head ∙ e.1)
      | inr e ↦ inr (sym r.tail ∙ e.0, sym r.head ∙ e.1)
    ])

-- an end of a side of the edge that is inside
end_inside : (mesh : FaceList) (Inside : ℕ → Type 0) (u v : ℕ) (found : HasSideBetween mesh u v) → Inside u
    → (Inside (tail_of mesh found.side)) ⊎ (Inside (head_of mesh found.side))
end_inside mesh Inside u v found inside = grind arith

-- an edge of the mesh with an end inside is one of the submesh
pub edge_down : (mesh : FaceList) (Inside : ℕ → Type 0) (names : List ℕ) (u v : ℕ) → IsPiece mesh Inside names → Inside u
    → is_edge mesh u v ≡ true → is_edge (submesh mesh names) u v ≡ true
edge_down mesh Inside names u v h inside is =
    let found : HasSideBetween mesh u v = side_between mesh u v is in
    let from : ComesFrom mesh names found.side =
    comes_from_end mesh Inside names found.side h found.in_mesh (end_inside mesh Inside u v found inside) in
    let r : IsRenamed mesh names from.side_there = renamed mesh Inside names from.side_there h from.in_submesh in
    let tail : tail_of (submesh mesh names) from.side_there ≡ tail_of mesh found.side = r.tail ∙ ap (tail_of mesh) from.is in
    let head : head_of (submesh mesh names) from.side_there ≡ head_of mesh found.side = r.head ∙ ap (head_of mesh) from.is in
    edge_by_side (submesh mesh names) u v from.side_there from.in_submesh (elim found.ends [
      | inl e ↦ inl (tail ∙ e.0, head ∙ e.1)
      | inr e ↦ inr (tail ∙ e.0, head ∙ e.1)
    ])

-- an edge leads from inside to inside
pub edge_inside : (mesh : FaceList) (Inside : ℕ → Type 0) (names : List ℕ) (u v : ℕ) → IsPiece mesh Inside names → Inside u
    → is_edge mesh u v ≡ true → Inside v
edge_inside mesh Inside names u v h inside is =
    let found : HasSideBetween mesh u v = side_between mesh u v is in
    let both = inside_side mesh Inside names found.side h found.in_mesh (end_inside mesh Inside u v found inside) in
    elim found.ends [
      | inl e ↦ subst Inside e.1 both.1
      | inr e ↦ subst Inside e.0 both.0
    ]

-- the used vertices of the submesh are those inside
pub used_up : (mesh : FaceList) (Inside : ℕ → Type 0) (names : List ℕ) (v : ℕ) → IsPiece mesh Inside names
    → is_used (submesh mesh names) v ≡ true → (is_used mesh v ≡ true) × Inside v
used_up mesh Inside names v h is =
    let corner = used_corner (submesh mesh names) v is in
    let r : IsRenamed mesh names corner.0 = renamed mesh Inside names corner.0 h corner.1.side in (
      corner_used mesh v (renamed_side names corner.0) (record { side = r.in_mesh; vertex = sym r.tail ∙ corner.1.vertex }),
      subst Inside (sym r.tail ∙ corner.1.vertex) (side_inside mesh Inside names corner.0 h corner.1.side),
    )

pub used_down : (mesh : FaceList) (Inside : ℕ → Type 0) (names : List ℕ) (v : ℕ) → IsPiece mesh Inside names → Inside v
    → is_used mesh v ≡ true → is_used (submesh mesh names) v ≡ true
used_down mesh Inside names v h inside is =
    let corner = used_corner mesh v is in
    let from : ComesFrom mesh names corner.0 =
    comes_from mesh Inside names corner.0 h corner.1.side (subst Inside (sym corner.1.vertex) inside) in
    let r : IsRenamed mesh names from.side_there = renamed mesh Inside names from.side_there h from.in_submesh in
    corner_used (submesh mesh names) v from.side_there
    (record { side = from.in_submesh; vertex = r.tail ∙ ap (tail_of mesh) from.is ∙ corner.1.vertex })

-- a walk that starts inside stays there
pub walk_inside : (mesh : FaceList) (Inside : ℕ → Type 0) (names : List ℕ) (walk : List ℕ) (k : ℕ) → IsPiece mesh Inside names
    → IsWalk mesh walk → Inside (get_or walk 0 0) → k < length walk → Inside (get_or walk k 0)
walk_inside mesh Inside names walk zero h w start l = start
walk_inside mesh Inside names walk (suc k) h w start l =
    let step : is_edge mesh (get_or walk k 0) (get_or walk (suc k) 0) ≡ true = grind (arith, add-one) in
    edge_inside mesh Inside names (get_or walk k 0) (get_or walk (suc k) 0) h
    (walk_inside mesh Inside names walk k h w start (omega arith)) step

pub walk_down : (mesh : FaceList) (Inside : ℕ → Type 0) (names : List ℕ) (walk : List ℕ) → IsPiece mesh Inside names → IsWalk mesh walk
    → Inside (get_or walk 0 0) → IsWalk (submesh mesh names) walk
walk_down mesh Inside names walk h w start =
    let inside : (k : ℕ) → k < length walk → Inside (get_or walk k 0) = λ k l. walk_inside mesh Inside names walk k h w start l in
    record {
      starts = w.starts;
      used = λ k d l.
          let same : get_or walk k d ≡ get_or walk k 0 = get_or_default walk k d 0 l in
          used_down mesh Inside names (get_or walk k d) h (subst Inside (sym same) (inside k l)) (w.used k d l);
      edges = λ k l. edge_down mesh Inside names (get_or walk k 0) (get_or walk (k + 1) 0) h (inside k (omega arith)) (w.edges k l);
    }

pub walk_up : (mesh : FaceList) (Inside : ℕ → Type 0) (names : List ℕ) (walk : List ℕ) → IsPiece mesh Inside names
    → IsWalk (submesh mesh names) walk → IsWalk mesh walk
walk_up mesh Inside names walk h w = record {
  starts = w.starts;
  used = λ k d l. (used_up mesh Inside names (get_or walk k d) h (w.used k d l)).0;
  edges = λ k l. edge_up mesh Inside names (get_or walk k 0) (get_or walk (k + 1) 0) h (w.edges k l);
}
