-- What each move of the double becomes on the mesh.
use Rattle.folded_lists.proofs.Common.{IsRimQuad, kept_face, mirrored_face, length-mirror_face, quad_face, no_side, rim_kind, rims, double_size, mirror_round, mirror_face, rim_quad, rim_quads, double_of, fold, without_repeats, folded, IsMoveBelow, along_edge, ◌≡◌, ◌≢◌, inl, inr, ℕ, zero, suc, ◌+◌, ◌-◌, ◌<◌, ◌≤◌, Bool, true, false, not, List, [], ◌∷◌, length, map, get_or, refl, ap, sym, ◌∙◌, subst, arith, eq-eqb, ne_eqb, get_or-map, length-map, ◌==◌, FaceList, IsFaceList, face_at, corners_from, next_corner, is_edge, Replaces, Insert, Remove, Across, VertexName}
use Rattle.connectivity.proofs.EdgeLemmas.{edge_differs}
use Rattle.doubling.proofs.FoldedSides.{FoldsToEdge, edge_folds}
use Rattle.doubling.proofs.RepeatLemmas.{fold_kept, fold_mirror, linked_folds, linked_repeats}
use Rattle.surf_model.proofs.EdgeLemmas.{edge_swap, step_within, head_used, tail_used, used_below}
use Rattle.surf_model.proofs.LinkLemmas.{Linked, round_linked}
use Rattle.surf_model.proofs.RoundLemmas.{first_corner}
use Rattle.folded_lists.proofs.QuadLemmas.{along_both, folded_quad, opposite, quad_way, there_and_back}

-- ---- spurs

flat_spur : (count here via : ℕ) → fold count via ≡ fold count here
    → folded count (here ∷ via ∷ here ∷ []) ≡ folded count (here ∷ [])
flat_spur count here via same =
    let there : (fold count via == fold count here) ≡ true = eq-eqb (fold count via) (fold count here) same in
    let home : (fold count here == fold count here) ≡ true = eq-eqb (fold count here) (fold count here) refl in
    rw (there, home) refl

high_spur : (count here via : ℕ) → fold count via ≢ fold count here
    → folded count (here ∷ via ∷ here ∷ []) ≡ fold count here ∷ fold count via ∷ fold count here ∷ []
high_spur count here via other =
    let there : (fold count via == fold count here) ≡ false = ne_eqb (fold count via) (fold count here) other in
    let home : (fold count here == fold count via) ≡ false =
    ne_eqb (fold count here) (fold count via) (λ same. other (sym same)) in
    rw (there, home) refl

-- a list that begins with a vertex, and a list of that vertex
heads : {a b : ℕ} {xs ys : List ℕ} → a ∷ xs ≡ b ∷ ys → a ≡ b
heads e = cc

pub insert_flat : (mesh : FaceList) (at here : ℕ) (via : VertexName) (rest others : List ℕ) → fold mesh.count via.0 ≡ fold mesh.count here
    → Replaces (double_of mesh) (Insert at via) (here ∷ rest) (here ∷ others)
    → folded mesh.count (here ∷ rest) ≡ folded mesh.count (here ∷ others)
insert_flat mesh at here via rest others same h =
    let first : here ≡ h.0 = heads h.2 in
    ap (folded mesh.count) (h.2 ∙ ap (λ (v : ℕ). v ∷ []) (sym first))
    ∙ sym (flat_spur mesh.count here via.0 same)
    ∙ sym (ap (folded mesh.count) (h.3 ∙ ap (λ (v : ℕ). v ∷ via.0 ∷ v ∷ []) (sym first)))

pub remove_flat : (mesh : FaceList) (at here : ℕ) (via : VertexName) (rest others : List ℕ) → fold mesh.count via.0 ≡ fold mesh.count here
    → Replaces (double_of mesh) (Remove at via) (here ∷ rest) (here ∷ others)
    → folded mesh.count (here ∷ rest) ≡ folded mesh.count (here ∷ others)
remove_flat mesh at here via rest others same h =
    let first : here ≡ h.0 = heads h.1 in
    ap (folded mesh.count) (h.1 ∙ ap (λ (v : ℕ). v ∷ via.0 ∷ v ∷ []) (sym first))
    ∙ flat_spur mesh.count here via.0 same
    ∙ sym (ap (folded mesh.count) (h.2 ∙ ap (λ (v : ℕ). v ∷ []) (sym first)))

edge_over : (mesh : FaceList) (u v : ℕ) → IsFaceList mesh → is_edge (double_of mesh) u v ≡ true
    → fold mesh.count v ≢ fold mesh.count u
    → is_edge mesh (fold mesh.count u) (fold mesh.count v) ≡ true
edge_over mesh u v valid is other = told (edge_folds mesh u v valid is)
  where
    told : FoldsToEdge mesh u v → is_edge mesh (fold mesh.count u) (fold mesh.count v) ≡ true
    told (inl same) = absurd (other (sym same))
    told (inr edge) = edge

pub insert_high : (mesh : FaceList) (at place here : ℕ) (via low : VertexName) (rest others : List ℕ) → IsFaceList mesh
    → low.0 ≡ fold mesh.count via.0 → low.0 ≢ fold mesh.count here
    → Replaces (double_of mesh) (Insert at via) (here ∷ rest) (here ∷ others)
    → IsMoveBelow mesh place (here ∷ rest) (here ∷ others) (Insert place low)
insert_high mesh at place here via low rest others valid is other h =
    let F : ℕ → ℕ = fold mesh.count in
    let first : here ≡ h.0 = heads h.2 in
    let apart : F via.0 ≢ F here = λ same. other (is ∙ same) in
    record {
      place_is = refl;
      replaces = (
        F here,
        subst (λ (v : ℕ). is_edge mesh (F here) v ≡ true) (sym is)
            (edge_over mesh here via.0 valid (subst (λ (v : ℕ). is_edge (double_of mesh) v via.0 ≡ true) (sym first) h.1) apart),
        ap (folded mesh.count) (h.2 ∙ ap (λ (v : ℕ). v ∷ []) (sym first)),
        ap (folded mesh.count) (h.3 ∙ ap (λ (v : ℕ). v ∷ via.0 ∷ v ∷ []) (sym first)) ∙ high_spur mesh.count here via.0 apart
            ∙ ap (λ (v : ℕ). F here ∷ v ∷ F here ∷ []) (sym is),
      );
    }

pub remove_high : (mesh : FaceList) (at place here : ℕ) (via low : VertexName) (rest others : List ℕ)
    → low.0 ≡ fold mesh.count via.0 → low.0 ≢ fold mesh.count here
    → Replaces (double_of mesh) (Remove at via) (here ∷ rest) (here ∷ others)
    → IsMoveBelow mesh place (here ∷ rest) (here ∷ others) (Remove place low)
remove_high mesh at place here via low rest others is other h =
    let F : ℕ → ℕ = fold mesh.count in
    let first : here ≡ h.0 = heads h.1 in
    let apart : F via.0 ≢ F here = λ same. other (is ∙ same) in
    record {
      place_is = refl;
      replaces = (
        F here,
        ap (folded mesh.count) (h.1 ∙ ap (λ (v : ℕ). v ∷ via.0 ∷ v ∷ []) (sym first)) ∙ high_spur mesh.count here via.0 apart
            ∙ ap (λ (v : ℕ). F here ∷ v ∷ F here ∷ []) (sym is),
        ap (folded mesh.count) (h.2 ∙ ap (λ (v : ℕ). v ∷ []) (sym first)),
      );
    }

-- ---- ways round faces of the mesh, and of the mirror

-- a way round a face of the mesh is its own fold
kept_way : (mesh : FaceList) (f : ℕ) (rising : Bool) (t k : ℕ) → IsFaceList mesh → f < length mesh.faces → t < length (face_at mesh f)
    → folded mesh.count (corners_from (face_at mesh f) rising t k) ≡ corners_from (face_at mesh f) rising t k
kept_way mesh f rising t k valid l b =
    let ring : List ℕ = face_at mesh f in
    let begins = first_corner ring rising t k in
    let along : Linked mesh (get_or ring t 0 ∷ begins.0) = subst (Linked mesh) begins.1 (round_linked mesh f rising t k l b) in
    ap (folded mesh.count) begins.1
    ∙ ap without_repeats (linked_folds mesh (get_or ring t 0) begins.0 valid ((valid.faces f [] l).in_range t 0 b) along)
    ∙ linked_repeats mesh (get_or ring t 0 ∷ begins.0) valid along
    ∙ sym begins.1

mirror_way : (mesh : FaceList) (f : ℕ) (rising : Bool) (t k : ℕ) → IsFaceList mesh → f < length mesh.faces → t < length (face_at mesh f)
    → folded mesh.count (corners_from (mirror_face mesh.count (face_at mesh f)) rising t k)
    ≡ corners_from (face_at mesh f) (not rising) (length (face_at mesh f) - 1 - t) k
mirror_way mesh f rising t k valid l b =
    let m : ℕ = length (face_at mesh f) in
    ap without_repeats (mirror_round mesh.count (face_at mesh f) rising t k b)
    ∙ linked_repeats mesh (corners_from (face_at mesh f) (not rising) (m - 1 - t) k) valid
    (round_linked mesh f (not rising) (m - 1 - t) k l (omega arith))

pub across_kept : (mesh : FaceList) (at place f corner : ℕ) (forward : Bool) (taken : ℕ) (part other : List ℕ)
    → IsFaceList mesh → f < length mesh.faces
    → Replaces (double_of mesh) (Across at (record { 0 = f }) corner forward taken) part other
    → IsMoveBelow mesh place part other (Across place (record { 0 = f }) corner forward taken)
across_kept mesh at place f corner forward taken part other valid l h =
    let ring : List ℕ = face_at mesh f in
    let is : face_at (double_of mesh) f ≡ ring = kept_face mesh f l in
    let b : corner < length ring = subst (λ (r : List ℕ). corner < length r) is h.1 in
    let few : taken ≤ length ring = subst (λ (r : List ℕ). taken ≤ length r) is h.2 in
    record {
      place_is = refl;
      replaces = (
        l,
        b,
        few,
        ap (folded mesh.count) (h.3 ∙ ap (λ (r : List ℕ). corners_from r forward corner taken) is)
            ∙ kept_way mesh f forward corner taken valid l b,
        ap (folded mesh.count) (h.4 ∙ ap (λ (r : List ℕ). corners_from r (not forward) corner (length r - taken)) is)
            ∙ kept_way mesh f (not forward) corner (length ring - taken) valid l b,
      );
    }

pub across_mirror : (mesh : FaceList) (at place f corner : ℕ) (forward : Bool) (taken : ℕ) (part other : List ℕ)
    → IsFaceList mesh → f < length mesh.faces
    → Replaces (double_of mesh) (Across at (record { 0 = length mesh.faces + f }) corner forward taken) part other
    → IsMoveBelow mesh place part other
    (Across place (record { 0 = f }) (length (face_at mesh f) - 1 - corner) (not forward) taken)
across_mirror mesh at place f corner forward taken part other valid l h =
    let ring : List ℕ = face_at mesh f in
    let turned : List ℕ = mirror_face mesh.count ring in
    let is : face_at (double_of mesh) (length mesh.faces + f) ≡ turned = mirrored_face mesh f l in
    let size : length turned ≡ length ring = length-mirror_face mesh.count ring in
    let b : corner < length ring = subst (λ (n : ℕ). corner < n) size (subst (λ (r : List ℕ). corner < length r) is h.1) in
    let few : taken ≤ length ring = subst (λ (n : ℕ). taken ≤ n) size (subst (λ (r : List ℕ). taken ≤ length r) is h.2) in
    record {
      place_is = refl;
      replaces = (
        l,
        omega (arith, b),
        few,
        ap (folded mesh.count) (h.3 ∙ ap (λ (r : List ℕ). corners_from r forward corner taken) is)
            ∙ mirror_way mesh f forward corner taken valid l b,
        ap (folded mesh.count) (h.4 ∙ ap (λ (r : List ℕ). corners_from r (not forward) corner (length r - taken)) is
            ∙ ap (λ (n : ℕ). corners_from turned (not forward) corner (n - taken)) size)
            ∙ mirror_way mesh f (not forward) corner (length ring - taken) valid l b,
      );
    }

-- ---- ways round quads

corners_mapped : (g : ℕ → ℕ) (ring : List ℕ) (rising : Bool) (t k : ℕ) → t < length ring
    → map g (corners_from ring rising t k) ≡ corners_from (map g ring) rising t k
corners_mapped g ring rising t zero l = ap (λ (v : ℕ). v ∷ []) (sym (get_or-map g ring t 0 0 l))
corners_mapped g ring rising t (suc k) l =
    ap (λ (v : ℕ). v ∷ map g (corners_from ring rising (next_corner rising (length ring) t) k)) (sym (get_or-map g ring t 0 0 l))
    ∙ ap (λ (l : List ℕ). get_or (map g ring) t 0 ∷ l)
    (corners_mapped g ring rising (next_corner rising (length ring) t) k (step_within rising (length ring) t l))
    ∙ ap (λ (n : ℕ). get_or (map g ring) t 0 ∷ corners_from (map g ring) rising (next_corner rising n t) k) (sym (length-map ring g))

-- a quad, by the ends of its edge
record IsQuad (mesh : FaceList) (ring : List ℕ) : Type 0 where
  pub tail : ℕ
  pub head : ℕ
  pub edge : is_edge mesh tail head ≡ true
  pub apart : tail ≢ head
  pub size : length ring ≡ 4
  pub folds : map (fold mesh.count) ring ≡ folded_quad tail head

quad : (mesh : FaceList) (ring : List ℕ) → IsFaceList mesh → IsRimQuad mesh ring → IsQuad mesh ring
quad mesh ring valid is =
    let u : ℕ = is.tail in
    let v : ℕ = is.head in
    let low : fold mesh.count u ≡ u = fold_kept mesh.count u (used_below mesh u valid (tail_used mesh u v is.edge)) in
    let high : fold mesh.count v ≡ v = fold_kept mesh.count v (used_below mesh v valid (head_used mesh u v is.edge)) in
    record {
      tail = u;
      head = v;
      edge = is.edge;
      apart = edge_differs mesh u v valid is.edge;
      size = ap length is.ring_is;
      folds = ap (map (fold mesh.count)) is.ring_is ∙ (rw (low, high, fold_mirror mesh.count u, fold_mirror mesh.count v) refl);
    }

is_quad : (mesh : FaceList) (f : ℕ) → IsFaceList mesh → length mesh.faces + length mesh.faces ≤ f
    → f < length (double_of mesh).faces → IsQuad mesh (face_at (double_of mesh) f)
is_quad mesh f valid more l =
    let n : ℕ = length mesh.faces in
    let k : ℕ = f - (n + n) in
    let few : k < length (rims mesh) = omega (arith, l, more, double_size mesh) in
    let number : n + n + k ≡ f = omega (arith, more) in
    let ring : face_at (double_of mesh) f ≡ get_or (rim_quads mesh) k [] =
    ap (face_at (double_of mesh)) (sym number) ∙ quad_face mesh k few
    ∙ sym (get_or-map (rim_quad mesh.count) (rims mesh) k no_side [] few) in
    quad mesh (face_at (double_of mesh) f) valid
    (subst (IsRimQuad mesh) (sym ring) (rim_kind mesh k (omega (arith, few, length-map (rims mesh) (rim_quad mesh.count)))))

-- the corners of the quad, and how its ways are folded
module _ (mesh : FaceList) (ring : List ℕ) (is : IsQuad mesh ring) where
  corner_folds : (c : ℕ) → c < 4 → fold mesh.count (get_or ring c 0) ≡ get_or (folded_quad is.tail is.head) c 0
  corner_folds c l =
      sym (get_or-map (fold mesh.count) ring c 0 0 (omega (arith, l, is.size))) ∙ ap (λ (r : List ℕ). get_or r c 0) is.folds

  way_folds : (forward : Bool) (c t : ℕ) → c < 4 → t ≤ 4
      → folded mesh.count (corners_from ring forward c t)
      ≡ there_and_back (get_or (folded_quad is.tail is.head) c 0) (get_or (folded_quad is.tail is.head) (opposite c) 0)
      (along_edge c forward t)
  way_folds forward c t l few =
      ap without_repeats (corners_mapped (fold mesh.count) ring forward c t (omega (arith, l, is.size))
      ∙ ap (λ (r : List ℕ). corners_from r forward c t) is.folds)
      ∙ quad_way is.tail is.head is.apart forward c t l few

  edge_of_corner : (c : ℕ) → c < 4
      → is_edge mesh (get_or (folded_quad is.tail is.head) c 0) (get_or (folded_quad is.tail is.head) (opposite c) 0) ≡ true
  edge_of_corner zero l = edge_swap mesh is.head is.tail ∙ is.edge
  edge_of_corner (suc zero) l = is.edge
  edge_of_corner (suc (suc zero)) l = is.edge
  edge_of_corner (suc (suc (suc zero))) l = edge_swap mesh is.head is.tail ∙ is.edge
  edge_of_corner (suc (suc (suc (suc c)))) l = absurd (omega arith)

pub quad_size : (mesh : FaceList) (f : ℕ) → IsFaceList mesh → length mesh.faces + length mesh.faces ≤ f
    → f < length (double_of mesh).faces → length (face_at (double_of mesh) f) ≡ 4
quad_size mesh f valid more l = (is_quad mesh f valid more l).size

-- how the two ways of a move round a quad are folded
record AreQuadWays (mesh : FaceList) (f corner : ℕ) (forward : Bool) (taken : ℕ) (part other : List ℕ) : Type 0 where
  pub here : ℕ
  pub there : ℕ
  pub edge : is_edge mesh here there ≡ true
  pub there_is : fold mesh.count (get_or (face_at (double_of mesh) f) (opposite corner) 0) ≡ there
  pub part_folds : folded mesh.count part ≡ there_and_back here there (along_edge corner forward taken)
  pub other_folds : folded mesh.count other ≡ there_and_back here there (2 - along_edge corner forward taken)
  pub few : along_edge corner forward taken ≤ 2

quad_ways_of : (mesh : FaceList) (at f corner : ℕ) (forward : Bool) (taken : ℕ) (part other : List ℕ) → IsFaceList mesh
    → length mesh.faces + length mesh.faces ≤ f
    → Replaces (double_of mesh) (Across at (record { 0 = f }) corner forward taken) part other
    → AreQuadWays mesh f corner forward taken part other
quad_ways_of mesh at f corner forward taken part other valid more h =
    let ring : List ℕ = face_at (double_of mesh) f in
    let is : IsQuad mesh ring = is_quad mesh f valid more h.0 in
    let c : corner < 4 = subst (λ (n : ℕ). corner < n) is.size h.1 in
    let t : taken ≤ 4 = subst (λ (n : ℕ). taken ≤ n) is.size h.2 in
    let rest : along_edge corner (not forward) (4 - taken) ≡ 2 - along_edge corner forward taken =
    omega (arith, along_both forward corner taken c t) in
    record {
      here = get_or (folded_quad is.tail is.head) corner 0;
      there = get_or (folded_quad is.tail is.head) (opposite corner) 0;
      edge = edge_of_corner mesh ring is corner c;
      there_is = corner_folds mesh ring is (opposite corner) (omega arith);
      part_folds = ap (folded mesh.count) h.3 ∙ way_folds mesh ring is forward corner taken c t;
      other_folds =
          ap (folded mesh.count) (h.4 ∙ ap (λ (n : ℕ). corners_from ring (not forward) corner (n - taken)) is.size)
          ∙ way_folds mesh ring is (not forward) corner (4 - taken) c (omega arith)
          ∙ ap (λ (n : ℕ). there_and_back (get_or (folded_quad is.tail is.head) corner 0)
          (get_or (folded_quad is.tail is.head) (opposite corner) 0) n) rest;
      few = omega (arith, along_both forward corner taken c t);
    }

module _ (mesh : FaceList) (at place f corner : ℕ) (forward : Bool) (taken : ℕ) (part other : List ℕ) (valid : IsFaceList mesh)
    (more : length mesh.faces + length mesh.faces ≤ f)
    (h : Replaces (double_of mesh) (Across at (record { 0 = f }) corner forward taken) part other) where
  ways : AreQuadWays mesh f corner forward taken part other
  ways = quad_ways_of mesh at f corner forward taken part other valid more h

  -- the edge is left out, or passed once, or there and back
  pub quad_in : (low : VertexName) → low.0 ≡ fold mesh.count (get_or (face_at (double_of mesh) f) (opposite corner) 0)
      → along_edge corner forward taken ≡ 0 → IsMoveBelow mesh place part other (Insert place low)
  quad_in low is none =
      let w = ways in
      let low_is : w.there ≡ low.0 = sym (is ∙ w.there_is) in
      record {
        place_is = refl;
        replaces = (
          w.here,
          subst (λ (v : ℕ). is_edge mesh w.here v ≡ true) low_is w.edge,
          w.part_folds ∙ ap (there_and_back w.here w.there) none,
          w.other_folds ∙ ap (λ (n : ℕ). there_and_back w.here w.there (2 - n)) none
              ∙ ap (λ (v : ℕ). w.here ∷ v ∷ w.here ∷ []) low_is,
        );
      }

  pub quad_flat : along_edge corner forward taken ≡ 1 → folded mesh.count part ≡ folded mesh.count other
  quad_flat one =
      let w = ways in
      w.part_folds ∙ ap (there_and_back w.here w.there) one
      ∙ sym (w.other_folds ∙ ap (λ (n : ℕ). there_and_back w.here w.there (2 - n)) one)

  pub quad_out : (low : VertexName) → low.0 ≡ fold mesh.count (get_or (face_at (double_of mesh) f) (opposite corner) 0)
      → along_edge corner forward taken ≢ 0 → along_edge corner forward taken ≢ 1
      → IsMoveBelow mesh place part other (Remove place low)
  quad_out low is some other_than_one =
      let w = ways in
      let low_is : w.there ≡ low.0 = sym (is ∙ w.there_is) in
      let two : along_edge corner forward taken ≡ 2 = omega (arith, w.few, some, other_than_one) in
      record {
        place_is = refl;
        replaces = (
          w.here,
          w.part_folds ∙ ap (there_and_back w.here w.there) two ∙ ap (λ (v : ℕ). w.here ∷ v ∷ w.here ∷ []) low_is,
          w.other_folds ∙ ap (λ (n : ℕ). there_and_back w.here w.there (2 - n)) two,
        );
      }
