-- Over each side of the mesh lie two of the cover, which start on the two sheets: so an edge of the cover has as many sides as the edge
-- below it.
use Rattle.closed_covers.proofs.Common.{below, below-alike, below-add, side_sum, face_sum, faces_sum, faces_sum-append, by_faces, after_in_mesh, corner_below, sheet_at, sheets_apart, back, step, entry, length-lifted, LeadsHome, apart_over, sheet_behind, over, lifted, AreTurns, cover_of, ◌≡◌, ◌≢◌, ◌⊎◌, inl, inr, ℕ, suc, ◌+◌, ◌<◌, Bool, true, false, not, List, [], ◌∷◌, length, map, get_or, refl, ap, ap₂, sym, ◌∙◌, arith, cases_eq, nat_tests, step_within, step_edge, tail_of, head_of, FaceList, IsFaceList, all_sides, next_corner, is_edge, sides_between, EachEdgeHasTwoSides, Side}
use Rattle.closed_doubles.proofs.DoubleEdges.{on_edge, count_is, sides_below, sums_agree}
use Rattle.connectivity.proofs.EdgeLemmas.{HasSideBetween, side_between}
use Rattle.surf_model.proofs.TableEdgeLemmas.{sides_between_swap}
use Rattle.closed_covers.proofs.CoverSides.{start_sheet, IsOverSide, each_side, over_tail, over_head}

-- what the two darts over a dart have together
abbrev pub both_over : (ℕ → ℕ → Bool) → ℕ → (ℕ → ℕ → ℕ) → ℕ → ℕ → ℕ
both_over turns count g u v =
    g (over count false u) (over count (sheet_behind turns false u v) v)
    + g (over count true u) (over count (sheet_behind turns true u v) v)

-- the sheets in either order
either_order : (h : Bool → ℕ) (s t : Bool) → t ≡ not s → h s + h t ≡ h false + h true
either_order h false t e = ap (λ (b : Bool). h false + h b) e
either_order h true t e = ap (λ (b : Bool). h true + h b) e ∙ omega arith

module _ (turns : ℕ → ℕ → Bool) (swap : (u v : ℕ) → turns u v ≡ turns v u) (count : ℕ) (g : ℕ → ℕ → ℕ) where
  -- the dart over a dart that starts on a sheet
  abbrev dart_on : Bool → ℕ → ℕ → ℕ
  dart_on s u v = g (over count s u) (over count (sheet_behind turns s u v) v)

  one_lifted : (upper : Bool) (face : List ℕ) → LeadsHome turns face
      → face_sum g (lifted turns count upper face)
      ≡ below (λ t. dart_on (sheet_at turns upper face t) (get_or face t 0) (get_or face (next_corner true (length face) t) 0))
      (length face)
  one_lifted upper face home =
      let m : ℕ = length face in
      let whole : List ℕ = lifted turns count upper face in
      ap (λ n. below (λ t. g (get_or whole t 0) (get_or whole (next_corner true n t) 0)) n) (length-lifted turns count upper face)
      ∙ below-alike (λ t. g (get_or whole t 0) (get_or whole (next_corner true m t) 0))
      (λ t. dart_on (sheet_at turns upper face t) (get_or face t 0) (get_or face (next_corner true m t) 0)) m (λ t l.
      let next : ℕ = next_corner true m t in
      ap₂ g (entry turns count upper face t l)
      (entry turns count upper face next (step_within true m t l)
      ∙ ap (λ (s : Bool). over count s (get_or face next 0)) (step turns swap face upper true t home l)))

  face_lifted : (face : List ℕ) → LeadsHome turns face
      → face_sum g (lifted turns count false face) + face_sum g (lifted turns count true face)
      ≡ face_sum (both_over turns count g) face
  face_lifted face home =
      let m : ℕ = length face in
      let dart : Bool → ℕ → ℕ =
      λ upper t. dart_on (sheet_at turns upper face t) (get_or face t 0) (get_or face (next_corner true m t) 0) in
      ap₂ (λ a b. a + b) (one_lifted false face home) (one_lifted true face home)
      ∙ sym (below-add (dart false) (dart true) m)
      ∙ below-alike (λ t. dart false t + dart true t)
      (λ t. both_over turns count g (get_or face t 0) (get_or face (next_corner true m t) 0)) m
      (λ t l. either_order (λ s. dart_on s (get_or face t 0) (get_or face (next_corner true m t) 0)) (sheet_at turns false face t)
      (sheet_at turns true face t) (sheets_apart turns false face t))

  faces_lifted : (faces : List (List ℕ)) → ((f : ℕ) → f < length faces → LeadsHome turns (get_or faces f []))
      → faces_sum g (map (lifted turns count false) faces) + faces_sum g (map (lifted turns count true) faces)
      ≡ faces_sum (both_over turns count g) faces
  faces_lifted [] home = refl
  faces_lifted (face ∷ faces) home =
      omega (
        arith,
        face_lifted face (home 0 (omega arith)),
        faces_lifted faces (λ f l. home (suc f) (omega (arith, l))),
      )

pub cover_sum : (mesh : FaceList) (turns : ℕ → ℕ → Bool) (g : ℕ → ℕ → ℕ) → AreTurns mesh turns
    → side_sum g (all_sides (cover_of mesh turns)) ≡ side_sum (both_over turns mesh.count g) (all_sides mesh)
cover_sum mesh turns g are =
    by_faces g (cover_of mesh turns)
    ∙ faces_sum-append g (map (lifted turns mesh.count false) mesh.faces) (map (lifted turns mesh.count true) mesh.faces)
    ∙ faces_lifted turns are.turned mesh.count g mesh.faces (λ f l upper. are.round f upper l)
    ∙ sym (by_faces (both_over turns mesh.count g) mesh)

-- ---- sides that join two vertices

on_itself : (a b : ℕ) → on_edge a b a b ≡ 1
on_itself a b = grind (arith, nat_tests)

on_turned : (a b : ℕ) → on_edge a b b a ≡ 1
on_turned a b = grind (arith, nat_tests)

off_edge : (a b x y : ℕ) → ((x ≡ a) × (y ≡ b) → ⊥) → ((x ≡ b) × (y ≡ a) → ⊥) → on_edge a b x y ≡ 0
off_edge a b x y one other = grind (arith, nat_tests)

not_itself : (b : Bool) → not b ≡ b → ⊥
not_itself true e = cc
not_itself false e = cc

module _ (turns : ℕ → ℕ → Bool) (swap : (u v : ℕ) → turns u v ≡ turns v u) (count : ℕ) where
  -- one of the two darts over a dart of the edge joins the ends of an edge over it
  along : (s : Bool) (u v : ℕ) → u < count → v < count → u ≢ v
      → both_over turns count (on_edge (over count s u) (over count (sheet_behind turns s u v) v)) u v ≡ 1
  along s u v lu lv apart = grind (arith, over, on_edge, off_edge, not_itself, apart_over, either_order, on_itself)

  against : (s : Bool) (u v : ℕ) → u < count → v < count → u ≢ v
      → both_over turns count (on_edge (over count s u) (over count (sheet_behind turns s u v) v)) v u ≡ 1
  against s u v lu lv apart = grind (arith, over, on_edge, back, on_turned, off_edge, apart_over, not_itself, either_order)

  -- and none over another dart
  away : (s t : Bool) (u v x y : ℕ) → u < count → v < count → x < count → y < count
      → ((x ≡ u) × (y ≡ v) → ⊥) → ((x ≡ v) × (y ≡ u) → ⊥)
      → both_over turns count (on_edge (over count s u) (over count t v)) x y ≡ 0
  away s t u v x y lu lv lx ly one other = grind (arith, on_edge, over, off_edge, apart_over)

  on_lifted : (s : Bool) (u v x y : ℕ) → u < count → v < count → x < count → y < count → x ≢ y
      → both_over turns count (on_edge (over count s u) (over count (sheet_behind turns s u v) v)) x y ≡ on_edge u v x y
  on_lifted s u v x y lu lv lx ly apart =
      let t : Bool = sheet_behind turns s u v in
      let g : ℕ → ℕ → ℕ = both_over turns count (on_edge (over count s u) (over count t v)) in
      elim (ends u v x y) [
        | inl e ↦
            (let differ : u ≢ v = λ same. apart (e.0 ∙ same ∙ sym e.1) in
            ap₂ g e.0 e.1 ∙ along s u v lu lv differ ∙ sym (on_itself u v) ∙ sym (ap₂ (on_edge u v) e.0 e.1))
        | inr others ↦ elim others [
          | inl e ↦
              (let differ : u ≢ v = λ same. apart (e.0 ∙ sym same ∙ sym e.1) in
              ap₂ g e.0 e.1 ∙ against s u v lu lv differ ∙ sym (on_turned u v) ∙ sym (ap₂ (on_edge u v) e.0 e.1))
          | inr off ↦ away s t u v x y lu lv lx ly off.0 off.1 ∙ sym (off_edge u v x y off.0 off.1)
        ]
      ]
    where
      ends : (u v x y : ℕ) → ((x ≡ u) × (y ≡ v)) ⊎ (((x ≡ v) × (y ≡ u))
          ⊎ (((x ≡ u) × (y ≡ v) → ⊥) × ((x ≡ v) × (y ≡ u) → ⊥)))
      ends u v x y = elim (cases_eq x u) [
        | inl a ↦ elim (cases_eq y v) [
          | inl b ↦ inl (a, b)
          | inr b ↦ elim (cases_eq x v) [
            | inl c ↦ elim (cases_eq y u) [
              | inl d ↦ inr (inl (c, d))
              | inr d ↦ inr (inr (λ e. b e.1, λ e. d e.1))
            ]
            | inr c ↦ inr (inr (λ e. b e.1, λ e. c e.0))
          ]
        ]
        | inr a ↦ elim (cases_eq x v) [
          | inl c ↦ elim (cases_eq y u) [
            | inl d ↦ inr (inl (c, d))
            | inr d ↦ inr (inr (λ e. a e.0, λ e. d e.1))
          ]
          | inr c ↦ inr (inr (λ e. a e.0, λ e. c e.0))
        ]
      ]

-- an edge over an edge has as many sides
pub cover_between : (mesh : FaceList) (turns : ℕ → ℕ → Bool) (s : Bool) (u v : ℕ) → IsFaceList mesh → AreTurns mesh turns
    → u < mesh.count → v < mesh.count
    → sides_between (cover_of mesh turns) (over mesh.count s u) (over mesh.count (sheet_behind turns s u v) v) ≡ sides_between mesh u v
cover_between mesh turns s u v valid are lu lv =
    let a : ℕ = over mesh.count s u in
    let b : ℕ = over mesh.count (sheet_behind turns s u v) v in
    count_is a b (all_sides (cover_of mesh turns))
    ∙ cover_sum mesh turns (on_edge a b) are
    ∙ sums_agree mesh.count (both_over turns mesh.count (on_edge a b)) (on_edge u v) (all_sides mesh) (sides_below mesh valid)
    (λ x y lx ly apart. on_lifted turns are.turned mesh.count s u v x y lu lv lx ly apart)
    ∙ sym (count_is u v (all_sides mesh))

pub cover_two_sides : (mesh : FaceList) (turns : ℕ → ℕ → Bool) → IsFaceList mesh → AreTurns mesh turns → EachEdgeHasTwoSides mesh
    → EachEdgeHasTwoSides (cover_of mesh turns)
cover_two_sides mesh turns valid are two a b is =
    let cover : FaceList = cover_of mesh turns in
    let found : HasSideBetween cover a b = side_between cover a b is in
    let above : IsOverSide mesh turns found.side = each_side mesh turns found.side found.in_mesh in
    let low : Side = above.low in
    let u : ℕ = tail_of mesh low in
    let v : ℕ = head_of mesh low in
    let s : Bool = start_sheet mesh turns above.upper low in
    let edge : is_edge mesh u v ≡ true = step_edge mesh low.face.0 true low.at above.in_mesh.face above.in_mesh.place in
    let tail : tail_of cover found.side ≡ over mesh.count s u = grind (arith, over_tail) in
    let head : head_of cover found.side ≡ over mesh.count (sheet_behind turns s u v) v = grind (arith, head_of, over_head) in
    let there : sides_between cover (over mesh.count s u) (over mesh.count (sheet_behind turns s u v) v) ≡ 2 =
    cover_between mesh turns s u v valid are (corner_below mesh low valid above.in_mesh)
    (corner_below mesh _ valid (after_in_mesh mesh low above.in_mesh))
    ∙ two u v edge in
    elim found.ends [
      | inl e ↦ ap₂ (sides_between cover) (sym e.0 ∙ tail) (sym e.1 ∙ head) ∙ there
      | inr e ↦ sides_between_swap cover a b ∙ ap₂ (sides_between cover) (sym e.0 ∙ tail) (sym e.1 ∙ head) ∙ there
    ]
