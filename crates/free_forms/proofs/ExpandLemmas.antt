-- What the code reads of a face whose parent is expanded, and that this is its expansion.
use Rattle.free_forms.proofs.Common.{OpenView, HasFaceParents, Joins, parent_of, Expands, IsWayAlong, ◌≡◌, ℕ, ◌+◌, ◌-◌, ◌<◌, Bool, true, eqb, max, List, [], ◌∷◌, ◌++◌, length, refl, ap, sym, ◌∙◌, subst, arith, length-append, reverse-append, length-reverse, length-map, cond, reverse, tail_of, FaceList, face_at, next_corner, PeakedMoves, numbers, Side, Across, VertexName, vertices_beyond}
use Rattle.free_forms.proofs.Expansions.{length_beyond}
use Rattle.free_forms.proofs.ParentEdgeLemmas.{way_found, expansion_read}

pub length_numbers : (vertices : List VertexName) → length (numbers vertices) ≡ length vertices
length_numbers vertices = length-map vertices (λ (v : VertexName). v.0)

pub length_coming : (vertices : List VertexName) → length (reverse (numbers vertices)) ≡ length vertices
length_coming vertices = length-reverse (numbers vertices) ∙ length_numbers vertices

-- what is read of a face from the end u of a side, where the vertices of the face come behind those that are pending
pub record IsRead (side : Side) (u corner : ℕ) (forward : Bool) (pending more : List VertexName) (mesh : FaceList) : Type 0 where
  pub forward_is : forward ≡ eqb (tail_of mesh side) u
  pub corner_is : corner ≡ cond forward side.at (next_corner true (length (face_at mesh side.face.0)) side.at)
  pub pushed : numbers more
      ≡ numbers pending ++ vertices_beyond (face_at mesh side.face.0) forward corner (length (face_at mesh side.face.0) - 1)

pub pushed_length : {side : Side} {u corner : ℕ} {forward : Bool} {pending more : List VertexName} {mesh : FaceList}
    → IsRead side u corner forward pending more mesh → length more ≡ length pending + (length (face_at mesh side.face.0) - 1)
pushed_length {side} {corner} {forward} {pending} {more} {mesh} h =
    let ring : List ℕ = face_at mesh side.face.0 in
    sym (length_numbers more) ∙ ap (λ (l : List ℕ). length l) h.pushed
    ∙ length-append (numbers pending) (vertices_beyond ring forward corner (length ring - 1))
    ∙ omega (arith, length_numbers pending, length_beyond ring forward corner (length ring - 1))

pub expands_made : {surface : OpenView} {mesh : FaceList} {side : Side} (earlier : List VertexName) {pending more : List VertexName} {u : ℕ}
    (next : ℕ) {corner : ℕ} (at d : ℕ)
    {forward : Bool} (old new : PeakedMoves) → HasFaceParents surface → mesh ≡ surface.mesh → side.face.0 < length surface.mesh.faces
    → side ≡ parent_of surface side.face.0 → Joins surface.mesh side u next → IsRead side u corner forward pending more mesh
    → at ≡ length earlier → d ≡ length earlier + length more
    → new ≡ record { moves = old.moves ++ Across at side.face corner forward 1 ∷ []; peak = max old.peak d }
    → Expands surface (record { front = numbers earlier; last = u; coming = reverse (numbers pending); list = old }) next
    (record { front = numbers earlier; last = u; coming = reverse (numbers more); list = new })
expands_made {surface} {side} earlier {pending} {more} {u} next {corner} at d {forward} old new has same l parent joined read is_at is_d
    noted =
    let f : ℕ = side.face.0 in
    let here : IsRead side u corner forward pending more surface.mesh = subst (IsRead side u corner forward pending more) same read in
    let way : IsWayAlong surface side u corner forward = way_found surface side u corner forward here.forward_is here.corner_is in
    let way_of : IsWayAlong surface (parent_of surface f) u corner forward =
    subst (λ (s : Side). IsWayAlong surface s u corner forward) parent way in
    let ring : List ℕ = face_at surface.mesh f in
    let behind : List ℕ = vertices_beyond ring forward corner (length ring - 1) in
    record {
      face = f;
      corner = corner;
      forward = forward;
      within = l;
      joined = subst (λ (s : Side). Joins surface.mesh s u next) parent joined;
      way = way_of;
      front = refl;
      last = refl;
      coming =
          ap reverse here.pushed ∙ reverse-append (numbers pending) behind
          ∙ ap (λ (w : List ℕ). w ++ reverse (numbers pending)) (expansion_read f u corner forward has l way_of);
      list =
          noted
          ∙ ap (λ (n : ℕ). record { moves = old.moves ++ Across n side.face corner forward 1 ∷ []; peak = max old.peak d })
          (is_at ∙ sym (length_numbers earlier))
          ∙ ap (λ (n : ℕ). made n) (is_d ∙ omega (arith, length_numbers earlier, length_coming more));
    }
  where
    made : ℕ → PeakedMoves
    made n = record { moves = old.moves ++ Across (length (numbers earlier)) side.face corner forward 1 ∷ []; peak = max old.peak n }
