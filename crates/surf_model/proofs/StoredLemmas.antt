-- What the functions on stored face lists need, said of the plain lists.
use Rattle.surf_model.proofs.Common.{◌≡◌, ℕ, ◌+◌, ◌-◌, ◌<◌, ◌≤◌, List, [], ◌∷◌, ◌++◌, length, get_or, take, drop, ap, ap₂, sym, subst, ◌∙◌, arith, length-append, common_steps, take-append-drop, take_all, drop_all, get_or-take, get_or-drop, length-take-le, length-drop, length-map, map-append, length_push, take-map, drop-map, All-push, All-same, All, first_side, FaceList, PendingFace, face_at, total_sides, IsFace, parts, EndsRise, last_end, IsNumbering, numbers, MOST_SIDES, VertexName}
use Rattle.surf_model.specs.StoredFaces.{stored_mesh, IsStored, stored_pending, IsStoredPending}
use Rattle.surf_model.proofs.PartsLemmas.{length-parts, get_or-parts, part_within, parts-push, EndsRise-push, EndsRise-last, sum_by-parts, sum_by-take-parts, last_end-push}

-- where face f of a mesh lies among all corners
pub record LiesAt (mesh : FaceList) (ends : List ℕ) (corners : List VertexName) (f : ℕ) : Type 0 where
  pub few : f < length ends
  pub rises : get_or (0 ∷ ends) f 0 ≤ get_or ends f 0
  pub within : get_or ends f 0 ≤ length corners
  pub first : first_side mesh f ≡ get_or (0 ∷ ends) f 0
  pub size : length (face_at mesh f) ≡ get_or ends f 0 - get_or (0 ∷ ends) f 0
  pub ring : face_at mesh f ≡ take (get_or ends f 0 - get_or (0 ∷ ends) f 0) (drop (get_or (0 ∷ ends) f 0) (numbers corners))
  pub corner : (t : ℕ) → t < length (face_at mesh f) → get_or (face_at mesh f) t 0 ≡ get_or (numbers corners) (get_or (0 ∷ ends) f 0 + t) 0

lies_stored : (count : ℕ) (ends : List ℕ) (corners : List VertexName) (f : ℕ) → EndsRise 0 ends (length corners)
    → f < length (stored_mesh count ends corners).faces → LiesAt (stored_mesh count ends corners) ends corners f
lies_stored count ends corners f h l =
    let few : f < length ends = omega (arith, l, length-parts 0 ends (numbers corners)) in
    let w = part_within 0 ends (length corners) f h few in
    let start : ℕ = get_or (0 ∷ ends) f 0 in
    let face : face_at (stored_mesh count ends corners) f ≡ take (get_or ends f 0 - start) (drop start (numbers corners)) =
    get_or-parts 0 ends (numbers corners) f [] few in
    let long : length (numbers corners) ≡ length corners = length-map corners (λ v. v.0) in
    let size : length (face_at (stored_mesh count ends corners) f) ≡ get_or ends f 0 - start =
    rw face (length-take-le _ _ (omega (arith, w.rises, w.within, long, length-drop start (numbers corners)))) in
    let rises : EndsRise 0 ends (length (numbers corners)) = rw long h in
    record {
      few = few;
      rises = w.rises;
      within = w.within;
      first = omega (arith, sum_by-take-parts 0 ends (numbers corners) f rises (omega (arith, few)));
      size = size;
      ring = face;
      corner = λ t k. ap (λ (vs : List ℕ). get_or vs t 0) face ∙ get_or-take _ _ t 0 (omega (arith, k, size))
          ∙ get_or-drop start (numbers corners) t 0;
    }

pub lies_at : (count : ℕ) (ends : List ℕ) (corners : List VertexName) (mesh : FaceList) (f : ℕ) → IsStored count ends corners
    → stored_mesh count ends corners ≡ mesh → f < length mesh.faces → LiesAt mesh ends corners f
lies_at count ends corners mesh f h seen l =
    subst (λ (m : FaceList). LiesAt m ends corners f) seen
    (lies_stored count ends corners f h.rising (subst (λ (m : FaceList). f < length m.faces) (sym seen) l))

pub total_sides-stored_mesh : (count : ℕ) (ends : List ℕ) (corners : List VertexName) → EndsRise 0 ends (length corners)
    → total_sides (stored_mesh count ends corners) ≡ length corners
total_sides-stored_mesh count ends corners h = grind (arith, common_steps, sum_by-parts)

-- the numbers of a part of the corners
pub numbers-part : (n s : ℕ) (corners : List VertexName) → numbers (take n (drop s corners)) ≡ take n (drop s (numbers corners))
numbers-part n s corners = sym (take-map (λ (v : VertexName). v.0) n (drop s corners))
    ∙ ap (take n) (sym (drop-map (λ (v : VertexName). v.0) s corners))

-- how many faces there are, and how many sides together
pub length-faces : (count : ℕ) (ends : List ℕ) (corners : List VertexName) (mesh : FaceList) → stored_mesh count ends corners ≡ mesh
    → length mesh.faces ≡ length ends
length-faces count ends corners mesh seen = ap (λ (m : FaceList). length m.faces) (sym seen) ∙ length-parts 0 ends (numbers corners)

pub total_sides-seen : (count : ℕ) (ends : List ℕ) (corners : List VertexName) (mesh : FaceList) → IsStored count ends corners
    → stored_mesh count ends corners ≡ mesh
    → total_sides mesh ≡ length corners
total_sides-seen count ends corners mesh h seen = ap total_sides (sym seen) ∙ total_sides-stored_mesh count ends corners h.rising

-- one more face at the end
pub stored_mesh-push : (count : ℕ) (ends : List ℕ) (corners face : List VertexName) (m : ℕ) → EndsRise 0 ends (length corners)
    → m ≡ length corners + length face
    → stored_mesh count (ends ++ m ∷ []) (corners ++ face)
    ≡ record { count = count; faces = (stored_mesh count ends corners).faces ++ numbers face ∷ [] }
stored_mesh-push count ends corners face m h e =
    let long : length (numbers corners) ≡ length corners = length-map corners (λ v. v.0) in
    let size : length (numbers face) ≡ length face = length-map face (λ v. v.0) in
    let joined : numbers (corners ++ face) ≡ numbers corners ++ numbers face = map-append (λ v. v.0) corners face in
    let faces : parts 0 (ends ++ m ∷ []) (numbers corners ++ numbers face) ≡ parts 0 ends (numbers corners) ++ numbers face ∷ [] =
    parts-push 0 ends (numbers corners) (numbers face) (length corners) m h long (omega (arith, e, size)) in
    ap (λ (fs : List (List ℕ)). let mesh : FaceList = record { count = count; faces = fs } in mesh)
    (ap (parts 0 (ends ++ m ∷ [])) joined ∙ faces)

pub IsStored-push : (count : ℕ) (ends : List ℕ) (corners face : List VertexName) (m : ℕ) → IsStored count ends corners
    → IsFace count (numbers face)
    → total_sides (stored_mesh count ends corners) + length face ≤ MOST_SIDES → m ≡ length corners + length face
    → IsStored count (ends ++ m ∷ []) (corners ++ face)
IsStored-push count ends corners face m h ok room e =
    let whole : length (corners ++ face) ≡ m = omega (arith, e, length-append corners face) in
    let total : total_sides (stored_mesh count ends corners) ≡ length corners = total_sides-stored_mesh count ends corners h.rising in
    let rises : EndsRise 0 (ends ++ m ∷ []) m = EndsRise-push 0 ends (length corners) m h.rising (omega (arith, e)) in
    let rises_whole : EndsRise 0 (ends ++ m ∷ []) (length (corners ++ face)) = rw whole rises in
    let polygon : 3 ≤ length face = omega (arith, ok.polygon, length-map face (λ v. v.0)) in
    let all_total : total_sides (stored_mesh count (ends ++ m ∷ []) (corners ++ face)) ≡ length (corners ++ face) =
    total_sides-stored_mesh count (ends ++ m ∷ []) (corners ++ face) rises_whole in
    let faces : All (IsFace count) ((stored_mesh count ends corners).faces ++ numbers face ∷ []) =
    All-push (IsFace count) (stored_mesh count ends corners).faces (numbers face) h.mesh.faces ok in
    let all_faces : All (IsFace count) (stored_mesh count (ends ++ m ∷ []) (corners ++ face)).faces =
    All-same (IsFace count) _ _ (ap (λ (mesh : FaceList). mesh.faces) (stored_mesh-push count ends corners face m h.rising e)) faces in
    record {
      mesh = record { faces = all_faces };
      small = grind arith;
      rising = rises_whole;
      few_corners = omega (arith, whole, e, total, room);
      few_faces = omega (arith, h.few_faces, polygon, length-append corners face, length_push ends m);
    }

-- the places where the faces end number the sides of the mesh
pub numbering : (count : ℕ) (ends : List ℕ) (corners : List VertexName) (mesh : FaceList) → IsStored count ends corners
    → stored_mesh count ends corners ≡ mesh → IsNumbering mesh ends
numbering count ends corners mesh h seen =
    let many : length mesh.faces ≡ length ends = length-faces count ends corners mesh seen in
    let last : last_end ends ≡ length corners = EndsRise-last ends (length corners) h.rising in
    let lies : (f : ℕ) → f < length ends → LiesAt mesh ends corners f =
    λ f l. lies_at count ends corners mesh f h seen (omega (arith, l, many)) in grind arith

-- ---- a face list, and the corners of a face that is not yet in it

-- the corners of the list, and those behind them
joined : (ends : List ℕ) (corners : List VertexName) → take (last_end ends) corners ++ drop (last_end ends) corners ≡ corners
joined ends corners = take-append-drop (last_end ends) corners

pub total_sides-pending : (count : ℕ) (ends : List ℕ) (corners : List VertexName) (seen : PendingFace) → IsStoredPending count ends corners
    → stored_pending count ends corners ≡ seen → total_sides seen.mesh ≡ last_end ends
total_sides-pending count ends corners seen h is =
    ap (λ (p : PendingFace). total_sides p.mesh) (sym is)
    ∙ total_sides-stored_mesh count ends (take (last_end ends) corners) h.stored.rising
    ∙ length-take-le (last_end ends) corners h.within

pub length-pending : (count : ℕ) (ends : List ℕ) (corners : List VertexName) (seen : PendingFace) → stored_pending count ends corners ≡ seen
    → length seen.pending ≡ length corners - last_end ends
length-pending count ends corners seen is = grind (arith, common_steps)

-- the corners behind the list are those of its last face
pub record IsClosed (count : ℕ) (ends : List ℕ) (corners : List VertexName) (old : PendingFace) : Type 0 where
  pub stored : IsStoredPending count ends corners
  pub seen : stored_pending count ends corners ≡ record
      { mesh = record { count = old.mesh.count; faces = old.mesh.faces ++ old.pending ∷ [] }; pending = [] }

closed : (count : ℕ) (ends : List ℕ) (corners : List VertexName) (m : ℕ) → IsStoredPending count ends corners
    → IsFace count (numbers (drop (last_end ends) corners)) → m ≤ MOST_SIDES → m ≡ length corners
    → IsClosed count (ends ++ m ∷ []) corners (stored_pending count ends corners)
closed count ends corners m h face room whole =
    let front = take (last_end ends) corners in
    let back = drop (last_end ends) corners in
    let size : m ≡ length front + length back = omega (
      arith,
      whole,
      h.within,
      length-take-le (last_end ends) corners h.within,
      length-drop (last_end ends) corners,
    ) in
    let few : total_sides (stored_mesh count ends front) + length back ≤ MOST_SIDES =
    omega (arith, total_sides-stored_mesh count ends front h.stored.rising, size, room) in
    let all : front ++ back ≡ take (last_end (ends ++ m ∷ [])) corners =
    joined ends corners ∙ sym (ap (λ n. take n corners) (last_end-push ends m) ∙ take_all m corners (omega (arith, whole))) in
    let none : drop (last_end (ends ++ m ∷ [])) corners ≡ [] =
    ap (λ n. drop n corners) (last_end-push ends m) ∙ drop_all m corners (omega (arith, whole)) in
    let mesh : stored_mesh count (ends ++ m ∷ []) (take (last_end (ends ++ m ∷ [])) corners)
    ≡ record { count = count; faces = (stored_mesh count ends front).faces ++ numbers back ∷ [] } =
    ap (stored_mesh count (ends ++ m ∷ [])) (sym all) ∙ stored_mesh-push count ends front back m h.stored.rising size in
    record {
      stored = record {
        stored = subst (IsStored count (ends ++ m ∷ [])) all (IsStored-push count ends front back m h.stored face few size);
        within = omega (arith, last_end-push ends m, whole);
      };
      seen = ap₂ (λ (ms : FaceList) (vs : List VertexName). let p : PendingFace = record { mesh = ms; pending = numbers vs } in p) mesh
          none;
    }

pub close_face : (count : ℕ) (ends : List ℕ) (corners : List VertexName) (seen : PendingFace) (m : ℕ) → IsStoredPending count ends corners
    → stored_pending count ends corners ≡ seen → IsFace seen.mesh.count seen.pending
    → total_sides seen.mesh + length seen.pending ≤ MOST_SIDES → m ≡ length corners
    → IsClosed count (ends ++ m ∷ []) corners seen
close_face count ends corners seen m h is face room whole =
    let total = total_sides-pending count ends corners seen h is in
    let size = length-pending count ends corners seen is in
    subst (IsClosed count (ends ++ m ∷ []) corners) is
    (closed count ends corners m h (subst (λ (p : PendingFace). IsFace p.mesh.count p.pending) (sym is) face)
    (omega (arith, total, size, room, whole, h.within)) whole)
