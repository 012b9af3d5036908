-- Moves of a cover lie over moves of the mesh, which lead from walk to walk below.
use Rattle.double_covers.proofs.Common.{HasSideBetween, side_between, lifted, cover_of, under, ◌≡◌, inl, inr, ℕ, zero, suc, ◌-◌, ◌<◌, Bool, true, false, not, List, [], ◌∷◌, ◌++◌, length, map, get_or, refl, ap, sym, ◌∙◌, subst, arith, nat_tests, common_steps, length-map, get_or-map, Some, first_answer, stays_walk, edge_swap, step_edge, step_within, by_replacing, tail_of, head_of, FaceList, IsFaceList, face_at, corners_from, next_corner, is_edge, apply, apply_all, IsReplacement, Replaces, place_of_move, Move, Insert, Remove, Across}
use Rattle.double_covers.proofs.Sheets.{length-lifted}
use Rattle.double_covers.proofs.CoverFaces.{face_over, IsOver, each_over, over_is}
use Rattle.double_covers.proofs.LiftedWalks.{all_below, under_lifted}

-- the move under one of the cover
abbrev pub lower_move : ℕ → ℕ → Move → Move
lower_move count faces (Insert at via) = Insert at (record { 0 = under count via.0 })
lower_move count faces (Remove at via) = Remove at (record { 0 = under count via.0 })
lower_move count faces (Across at face corner forward taken) = Across at (record { 0 = under faces face.0 }) corner forward taken

corners_mapped : (g : ℕ → ℕ) (ring : List ℕ) (rising : Bool) (t k : ℕ) → t < length ring
    → map g (corners_from ring rising t k) ≡ corners_from (map g ring) rising t k
corners_mapped g ring rising t zero l = ap (λ (v : ℕ). v ∷ []) (sym (get_or-map g ring t 0 0 l))
corners_mapped g ring rising t (suc k) l =
    ap (λ (v : ℕ). v ∷ map g (corners_from ring rising (next_corner rising (length ring) t) k)) (sym (get_or-map g ring t 0 0 l))
    ∙ ap (λ (l : List ℕ). get_or (map g ring) t 0 ∷ l)
    (corners_mapped g ring rising (next_corner rising (length ring) t) k (step_within rising (length ring) t l))
    ∙ ap (λ (n : ℕ). get_or (map g ring) t 0 ∷ corners_from (map g ring) rising (next_corner rising n t) k) (sym (length-map ring g))

under_face : (n : ℕ) (upper : Bool) (f : ℕ) → f < n → under n (face_over n upper f) ≡ f
under_face n true f l = grind (arith, nat_tests)
under_face n false f l = grind (arith, nat_tests)

module _ (mesh : FaceList) (turns : ℕ → ℕ → Bool) (valid : IsFaceList mesh) where
  -- the face under one of the cover
  pub record LiesOver (f : ℕ) : Type 0 where
    pub in_list : under (length mesh.faces) f < length mesh.faces
    pub long : length (face_at (cover_of mesh turns) f) ≡ length (face_at mesh (under (length mesh.faces) f))
    pub corners : map (under mesh.count) (face_at (cover_of mesh turns) f) ≡ face_at mesh (under (length mesh.faces) f)

  pub lies_over : (f : ℕ) → f < length (cover_of mesh turns).faces → LiesOver f
  lies_over f l =
      let is : IsOver mesh turns f = each_over mesh turns f l in
      let face : ℕ = is.face in
      let n : ℕ = length mesh.faces in
      let below : under n f ≡ face = ap (under n) is.is ∙ under_face n is.upper face is.in_list in
      let ring : face_at (cover_of mesh turns) f ≡ lifted turns mesh.count is.upper (face_at mesh face) =
      ap (face_at (cover_of mesh turns)) is.is ∙ over_is mesh turns is.upper face is.in_list in
      record {
        in_list = omega (arith, below, is.in_list);
        long =
            ap length ring ∙ length-lifted turns mesh.count is.upper (face_at mesh face)
            ∙ ap (λ (k : ℕ). length (face_at mesh k)) (sym below);
        corners =
            ap (map (under mesh.count)) ring
            ∙ under_lifted turns mesh.count is.upper (face_at mesh face)
            (all_below mesh.count (face_at mesh face) (valid.faces face [] is.in_list).in_range)
            ∙ ap (face_at mesh) (sym below);
      }

  pub edge_under : (u v : ℕ) → is_edge (cover_of mesh turns) u v ≡ true → is_edge mesh (under mesh.count u) (under mesh.count v) ≡ true
  edge_under u v is =
      let cover : FaceList = cover_of mesh turns in
      let found : HasSideBetween cover u v = side_between cover u v is in
      let f : ℕ = found.side.face.0 in
      let t : ℕ = found.side.at in
      let under_it : LiesOver f = lies_over f found.in_mesh.face in
      let ring : List ℕ = face_at cover f in
      let low : ℕ = under (length mesh.faces) f in
      let m : ℕ = length ring in
      let within : t < m = found.in_mesh.place in
      let corner : (k : ℕ) → k < m → get_or (face_at mesh low) k 0 ≡ under mesh.count (get_or ring k 0) =
      λ k l. ap (λ (r : List ℕ). get_or r k 0) (sym under_it.corners) ∙ get_or-map (under mesh.count) ring k 0 0 l in
      let there : is_edge mesh (get_or (face_at mesh low) t 0)
      (get_or (face_at mesh low) (next_corner true (length (face_at mesh low)) t) 0) ≡ true =
      step_edge mesh low true t under_it.in_list (omega (arith, within, under_it.long)) in
      let here : is_edge mesh (under mesh.count (tail_of cover found.side)) (under mesh.count (head_of cover found.side)) ≡ true =
      subst (λ (a : ℕ). is_edge mesh a (under mesh.count (head_of cover found.side)) ≡ true) (corner t within)
      (subst (λ (a : ℕ). is_edge mesh (get_or (face_at mesh low) t 0) a ≡ true)
      (corner (next_corner true m t) (step_within true m t within))
      (subst (λ (n : ℕ). is_edge mesh (get_or (face_at mesh low) t 0) (get_or (face_at mesh low) (next_corner true n t) 0) ≡ true)
      (sym under_it.long) there)) in
      elim found.ends [
        | inl e ↦
            subst (λ (a : ℕ). is_edge mesh (under mesh.count a) (under mesh.count v) ≡ true) e.0
            (subst (λ (b : ℕ). is_edge mesh (under mesh.count (tail_of cover found.side)) (under mesh.count b) ≡ true) e.1 here)
        | inr e ↦
            edge_swap mesh (under mesh.count u) (under mesh.count v)
            ∙ subst (λ (a : ℕ). is_edge mesh (under mesh.count a) (under mesh.count u) ≡ true) e.0
            (subst (λ (b : ℕ). is_edge mesh (under mesh.count (tail_of cover found.side)) (under mesh.count b) ≡ true) e.1 here)
      ]

  way_under : (f corner : ℕ) (forward : Bool) (k : ℕ) → f < length (cover_of mesh turns).faces
      → corner < length (face_at (cover_of mesh turns) f)
      → map (under mesh.count) (corners_from (face_at (cover_of mesh turns) f) forward corner k)
      ≡ corners_from (face_at mesh (under (length mesh.faces) f)) forward corner k
  way_under f corner forward k l b =
      corners_mapped (under mesh.count) (face_at (cover_of mesh turns) f) forward corner k b
      ∙ ap (λ (r : List ℕ). corners_from r forward corner k) (lies_over f l).corners

  replaces_under : (move : Move) (part other : List ℕ) → Replaces (cover_of mesh turns) move part other
      → Replaces mesh (lower_move mesh.count (length mesh.faces) move) (map (under mesh.count) part) (map (under mesh.count) other)
  replaces_under (Insert at via) part other h =
      (under mesh.count h.0, edge_under h.0 via.0 h.1, ap (map (under mesh.count)) h.2, ap (map (under mesh.count)) h.3)
  replaces_under (Remove at via) part other h = (under mesh.count h.0, ap (map (under mesh.count)) h.1, ap (map (under mesh.count)) h.2)
  replaces_under (Across at face corner forward taken) part other h =
      let is : LiesOver face.0 = lies_over face.0 h.0 in
      let low : ℕ = under (length mesh.faces) face.0 in (
        is.in_list,
        omega (arith, h.1, is.long),
        omega (arith, h.2, is.long),
        ap (map (under mesh.count)) h.3 ∙ way_under face.0 corner forward taken h.0 h.1,
        ap (map (under mesh.count)) h.4
            ∙ way_under face.0 corner (not forward) (length (face_at (cover_of mesh turns) face.0) - taken) h.0 h.1
            ∙ ap (λ (n : ℕ). corners_from (face_at mesh low) (not forward) corner (n - taken)) is.long,
      )

  place_under : (move : Move) → place_of_move (lower_move mesh.count (length mesh.faces) move) ≡ place_of_move move
  place_under (Insert at via) = refl
  place_under (Remove at via) = refl
  place_under (Across at face corner forward taken) = refl

  parts_under : (before part after : List ℕ)
      → map (under mesh.count) (before ++ part ++ after)
      ≡ map (under mesh.count) before ++ map (under mesh.count) part ++ map (under mesh.count) after
  parts_under before part after = grind (arith, common_steps, under)

  move_under : (walk next : List ℕ) (move : Move) → 0 < length walk → apply (cover_of mesh turns) walk move ≡ Some next
      → apply mesh (map (under mesh.count) walk) (lower_move mesh.count (length mesh.faces) move) ≡ Some (map (under mesh.count) next)
  move_under walk next move start e =
      let g : List ℕ → List ℕ = map (under mesh.count) in
      let r : IsReplacement (cover_of mesh turns) move walk next = (by_replacing (cover_of mesh turns) walk next move start).0 e in
      (by_replacing mesh (g walk) (g next) (lower_move mesh.count (length mesh.faces) move)
      (omega (arith, start, length-map walk (under mesh.count)))).1 (record {
        before = g r.before;
        part = g r.part;
        other = g r.other;
        after = g r.after;
        walk_is = ap g r.walk_is ∙ parts_under r.before r.part r.after;
        next_is = ap g r.next_is ∙ parts_under r.before r.other r.after;
        place = length-map r.before (under mesh.count) ∙ r.place ∙ sym (place_under move);
        replaces = replaces_under move r.part r.other r.replaces;
      })

  -- a list of moves of the cover leads below, too
  pub moves_under : (moves : List Move) (walk next : List ℕ) → 0 < length walk → apply_all (cover_of mesh turns) walk moves ≡ Some next
      → apply_all mesh (map (under mesh.count) walk) (map (lower_move mesh.count (length mesh.faces)) moves)
      ≡ Some (map (under mesh.count) next)
  moves_under [] walk next start e = grind (arith, under)
  moves_under (move ∷ moves) walk next start e =
      let told = first_answer (λ x. apply_all (cover_of mesh turns) x moves) (apply (cover_of mesh turns) walk move) next e in
      let one = move_under walk told.0 move start told.1 in
      rw one (moves_under moves told.0 next (stays_walk (cover_of mesh turns) walk told.0 move start told.1) told.2)
