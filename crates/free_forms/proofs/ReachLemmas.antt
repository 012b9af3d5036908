-- A search from the boundary of a connected surface reaches each face.
use Rattle.free_forms.proofs.Common.{after_in_mesh, corner_used, sides_by_table, no_edge_no_side, HasSideBetween, side_between, IsOpenSurface, HasFaceParents, SearchView, IsFaceReached, IsParentSearch, IsClosedUpTo, IsStartedUpTo, ◌≡◌, inl, inr, ℕ, zero, suc, ◌+◌, ◌<◌, ◌≤◌, true, List, [], ◌∷◌, length, get_or, sym, ◌∙◌, subst, arith, cases_Bool, IsEdgeBetween, edge_between, IsSide, side_after, Edge, IsTableOf, edge_in, FaceList, IsFaceList, face_at, is_edge, IsPath, AreJoined, ArePartners, IsCornerAt, IsCornerOfSide, IsStepAround, darts, Side}
use Rattle.free_forms.proofs.SearchLemmas.{reached_below, all_end_outside}

-- a set of faces that steps across edges do not lead out of
abbrev pub IsClosedUnderSteps : FaceList → (ℕ → Type 0) → Type 0
IsClosedUnderSteps mesh In = (side other : Side) → ArePartners mesh side other → In side.face.0 → In other.face.0

-- a corner of a side lies in its face
corner_face : (mesh : FaceList) (v : ℕ) (side corner : Side) → IsCornerOfSide mesh v side corner → corner.face.0 ≡ side.face.0
corner_face mesh v side corner h = grind arith

-- steps round a vertex stay in the set
round_stays : (mesh : FaceList) (In : ℕ → Type 0) (v : ℕ) → IsClosedUnderSteps mesh In → (corner : Side) (path : List Side) (other : Side)
    → IsPath (IsStepAround mesh v) corner path other → In corner.face.0 → In other.face.0
round_stays mesh In v closed corner [] other p is = subst (λ (s : Side). In s.face.0) p is
round_stays mesh In v closed corner (next ∷ path) other p is =
    let step : IsStepAround mesh v corner next = p.0 in
    let across : In step.partner.face.0 = grind (arith, corner_face) in
    round_stays mesh In v closed next path other p.1 (subst In (sym (corner_face mesh v step.partner next step.to)) across)

-- the vertex has a corner in a face of the set
record IsCovered (mesh : FaceList) (In : ℕ → Type 0) (v : ℕ) : Type 0 where
  corner : Side
  is_corner : IsCornerAt mesh v corner
  within : In corner.face.0

-- so each face with a corner there is in the set
all_corners : {mesh : FaceList} {In : ℕ → Type 0} {v : ℕ} → IsOpenSurface mesh → IsClosedUnderSteps mesh In → IsCovered mesh In v
    → {other : Side} → IsCornerAt mesh v other → In other.face.0
all_corners {mesh} {In} {v} surface closed covered {other} is_other =
    let joined : AreJoined (IsStepAround mesh v) covered.corner other = grind (arith, corner_used) in grind (arith, round_stays)

-- along an edge
edge_covers : {mesh : FaceList} {In : ℕ → Type 0} {u : ℕ} (v : ℕ) → IsOpenSurface mesh → IsClosedUnderSteps mesh In → is_edge mesh u v ≡
    true
    → IsCovered mesh In u → IsCovered mesh In v
edge_covers {mesh} {u} v surface closed is covered =
    let found : HasSideBetween mesh u v = side_between mesh u v is in
    let side : Side = found.side in
    let after : IsSide mesh (side_after mesh side) = after_in_mesh mesh side found.in_mesh in
    elim found.ends [
      | inl e ↦ grind (arith, all_corners)
      | inr e ↦ record {
        corner = side;
        is_corner = record { side = found.in_mesh; vertex = e.0 };
        within = all_corners surface closed covered (record { side = after; vertex = e.1 });
      }
    ]

-- along a walk
walk_covers : {mesh : FaceList} {In : ℕ → Type 0} (walk : List ℕ) → IsOpenSurface mesh → IsClosedUnderSteps mesh In
    → ((k : ℕ) → k < darts walk → is_edge mesh (get_or walk k 0) (get_or walk (k + 1) 0) ≡ true)
    → IsCovered mesh In (get_or walk 0 0) → (k : ℕ) → k ≤ darts walk → IsCovered mesh In (get_or walk k 0)
walk_covers walk surface closed edges first zero l = first
walk_covers {mesh} {In} walk surface closed edges first (suc k) l =
    let next : k + 1 ≡ suc k = omega arith in
    subst (λ (n : ℕ). IsCovered mesh In (get_or walk n 0)) next (edge_covers (get_or walk (k + 1) 0) surface closed (edges k (omega arith))
    (walk_covers walk surface closed edges first k (omega arith)))

-- the first corner of a face
first_corner_of : {mesh : FaceList} (f : ℕ) → IsFaceList mesh → f < length mesh.faces
    → IsCornerAt mesh (get_or (face_at mesh f) 0 0) (record { face = record { 0 = f }; at = 0 })
first_corner_of {mesh} f valid l = grind arith

-- a set with a face that steps do not lead out of has each face
pub all_in_set : {mesh : FaceList} (In : ℕ → Type 0) (f g : ℕ) → IsFaceList mesh → IsOpenSurface mesh → IsClosedUnderSteps mesh In
    → f < length mesh.faces → In f → g < length mesh.faces → In g
all_in_set {mesh} In f g valid surface closed l is few =
    let from : IsCornerAt mesh (get_or (face_at mesh f) 0 0) (record { face = record { 0 = f }; at = 0 }) = first_corner_of f valid l in
    let to : IsCornerAt mesh (get_or (face_at mesh g) 0 0) (record { face = record { 0 = g }; at = 0 }) = first_corner_of g valid few in
    let u : ℕ = get_or (face_at mesh f) 0 0 in
    let v : ℕ = get_or (face_at mesh g) 0 0 in
    let walk = surface.connected u v (corner_used mesh u _ from) (corner_used mesh v _ to) in
    let start : IsCovered mesh In (get_or walk.0 0 0) = grind arith in
    let end : IsCovered mesh In v = subst (IsCovered mesh In) walk.1.ends
    (walk_covers walk.0 surface closed walk.1.walk_of.edges start (darts walk.0) (omega arith)) in
    all_corners surface closed end to

-- what the search reaches, once it has spread from each face that it reached
closed_reached : {mesh : FaceList} {search : SearchView} → IsParentSearch mesh search → IsClosedUpTo mesh search (length search.order)
    → IsClosedUnderSteps mesh (IsFaceReached search)
closed_reached {mesh} {search} h closed side other partners is = grind arith

-- a search that has started on the boundary reaches some face
some_reached : {mesh : FaceList} {table : List Edge} (search : SearchView) → IsTableOf mesh table → IsOpenSurface mesh
    → IsStartedUpTo table search (length table) → (f : ℕ) × IsFaceReached search f
some_reached {mesh} {table} search h surface started =
    let u : ℕ = surface.boundary.0 in
    let v : ℕ = surface.boundary.1 in
    let no_side : Side = record { face = record { 0 = 0 }; at = 0 } in
    elim (cases_Bool (is_edge mesh u v)) [
      | inl is ↦
          (let found : IsEdgeBetween table u v = edge_between mesh table u v h is in
          let one : length (edge_in table found.edge).sides ≡ 1 = sym (sides_by_table mesh table u v h is) ∙ surface.boundary.2 in
          (_, started found.edge no_side found.in_table found.in_table one))
      | inr not ↦ absurd (omega (arith, no_edge_no_side mesh u v not, surface.boundary.2))
    ]

-- so at the end each face has a parent
pub parents_found : {mesh : FaceList} {table : List Edge} {search : SearchView} → IsFaceList mesh → IsTableOf mesh table
    → IsOpenSurface mesh → IsParentSearch mesh search → IsStartedUpTo table search (length table)
    → IsClosedUpTo mesh search (length search.order) → HasFaceParents (record { mesh = mesh; places = search.places })
parents_found {mesh} {search} valid h surface is started closed =
    let first = some_reached search h surface started in
    let each : (f : ℕ) → f < length mesh.faces → IsFaceReached search f =
    λ f l. all_in_set (IsFaceReached search) first.0 f valid surface (closed_reached is closed) (reached_below first.0 is first.1) first.1
    l in
    record {
      valid = valid;
      few_sides = surface.few_sides;
      each_face = is.each_place;
      within = λ f l. is.within f (each f l);
      outside = λ f l. all_end_outside f is (each f l);
    }
