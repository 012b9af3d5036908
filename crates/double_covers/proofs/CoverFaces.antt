-- The faces of a cover, each over one of the mesh, and its edges.
use Rattle.double_covers.proofs.Common.{HasSideBetween, side_between, sheet_behind, over, lifted, AreTurns, cover_of, ◌≡◌, inl, inr, ℕ, ◌+◌, ◌-◌, ◌<◌, Bool, true, false, not, List, [], length, map, get_or, refl, ap, sym, ◌∙◌, subst, arith, cases_lt, common_steps, length-map, get_or-map, get_or-append_right, if◌then◌else◌, edge_swap, step_edge, step_within, tail_of, head_of, FaceList, face_at, next_corner, is_edge}
use Rattle.double_covers.proofs.Sheets.{sheet_at, sheets_apart, back, step, entry, length-lifted}

-- the number of the face over face f that begins on a sheet
abbrev pub face_over : ℕ → Bool → ℕ → ℕ
face_over faces upper f = if upper then faces + f else f

module _ (mesh : FaceList) (turns : ℕ → ℕ → Bool) where
  size : (upper : Bool) → length (map (lifted turns mesh.count upper) mesh.faces) ≡ length mesh.faces
  size upper = length-map mesh.faces (lifted turns mesh.count upper)

  pub all_faces : length (cover_of mesh turns).faces ≡ length mesh.faces + length mesh.faces
  all_faces = grind (arith, common_steps, lifted)

  pub over_below : (upper : Bool) (f : ℕ) → f < length mesh.faces
      → face_over (length mesh.faces) upper f < length (cover_of mesh turns).faces
  over_below true f l = omega (arith, l, all_faces)
  over_below false f l = omega (arith, l, all_faces)

  pub over_is : (upper : Bool) (f : ℕ) → f < length mesh.faces
      → face_at (cover_of mesh turns) (face_over (length mesh.faces) upper f) ≡ lifted turns mesh.count upper (face_at mesh f)
  over_is false f l = grind (arith, common_steps, lifted)
  over_is true f l =
      let n : ℕ = length mesh.faces in
      let less : n + f - n ≡ f = omega arith in
      get_or-append_right (map (lifted turns mesh.count false) mesh.faces) (map (lifted turns mesh.count true) mesh.faces) n (n + f) []
      (size false) (omega arith)
      ∙ ap (λ (k : ℕ). get_or (map (lifted turns mesh.count true) mesh.faces) k []) less
      ∙ get_or-map (lifted turns mesh.count true) mesh.faces f [] [] l

  -- each face of the cover is one of these
  pub record IsOver (f : ℕ) : Type 0 where
    pub face : ℕ
    pub upper : Bool
    pub in_list : face < length mesh.faces
    pub is : f ≡ face_over (length mesh.faces) upper face

  pub each_over : (f : ℕ) → f < length (cover_of mesh turns).faces → IsOver f
  each_over f l =
      let n : ℕ = length mesh.faces in
      let all : length (cover_of mesh turns).faces ≡ n + n = all_faces in
      elim (cases_lt f n) [
        | inl less ↦ record { face = f; upper = false; in_list = less; is = refl }
        | inr more ↦
            (let same : f ≡ n + (f - n) = omega arith in
            record { face = f - n; upper = true; in_list = omega arith; is = same })
      ]

module _ (mesh : FaceList) (turns : ℕ → ℕ → Bool) (are : AreTurns mesh turns) where
  -- over each side one begins on either sheet
  side_lifted : (f t : ℕ) (upper : Bool) → f < length mesh.faces → t < length (face_at mesh f)
      → is_edge (cover_of mesh turns)
      (over mesh.count (sheet_at turns upper (face_at mesh f) t) (get_or (face_at mesh f) t 0))
      (over mesh.count (sheet_behind turns (sheet_at turns upper (face_at mesh f) t) (get_or (face_at mesh f) t 0)
      (get_or (face_at mesh f) (next_corner true (length (face_at mesh f)) t) 0))
      (get_or (face_at mesh f) (next_corner true (length (face_at mesh f)) t) 0)) ≡ true
  side_lifted f t upper l b =
      let ring : List ℕ = face_at mesh f in
      let m : ℕ = length ring in
      let next : ℕ = next_corner true m t in
      let g : ℕ = face_over (length mesh.faces) upper f in
      let cover : FaceList = cover_of mesh turns in
      let is : face_at cover g ≡ lifted turns mesh.count upper ring = over_is mesh turns upper f l in
      let long : length (lifted turns mesh.count upper ring) ≡ m = length-lifted turns mesh.count upper ring in
      let there : is_edge cover (get_or (lifted turns mesh.count upper ring) t 0)
      (get_or (lifted turns mesh.count upper ring) (next_corner true (length (lifted turns mesh.count upper ring)) t) 0) ≡ true =
      subst
      (λ (r : List ℕ). is_edge cover (get_or r t 0) (get_or r (next_corner true (length r) t) 0) ≡ true) is
      (step_edge cover g true t (over_below mesh turns upper f l)
      (subst (λ (r : List ℕ). t < length r) (sym is) (omega (arith, b, long)))) in
      let first : get_or (lifted turns mesh.count upper ring) t 0 ≡ over mesh.count (sheet_at turns upper ring t) (get_or ring t 0) =
      entry turns mesh.count upper ring t b in
      let second : get_or (lifted turns mesh.count upper ring) (next_corner true (length (lifted turns mesh.count upper ring)) t) 0
      ≡ over mesh.count (sheet_behind turns (sheet_at turns upper ring t) (get_or ring t 0) (get_or ring next 0)) (get_or ring next 0) =
      ap (λ (n : ℕ). get_or (lifted turns mesh.count upper ring) (next_corner true n t) 0) long
      ∙ entry turns mesh.count upper ring next (step_within true m t b)
      ∙ ap (λ (s : Bool). over mesh.count s (get_or ring next 0)) (step turns are.turned ring upper true t (λ s. are.round f s l) b) in
      let head : ℕ =
      over mesh.count (sheet_behind turns (sheet_at turns upper ring t) (get_or ring t 0) (get_or ring next 0)) (get_or ring next 0) in
      subst (λ (a : ℕ). is_edge cover a head ≡ true) first
      (subst (λ (a : ℕ). is_edge cover (get_or (lifted turns mesh.count upper ring) t 0) a ≡ true) second there)

  -- the sheet of a first corner for which a corner is on this sheet
  pub begins_on : (ring : List ℕ) (t : ℕ) (wanted : Bool) → (upper : Bool) × (sheet_at turns upper ring t ≡ wanted)
  begins_on ring t wanted = pick (sheet_at turns false ring t) wanted refl
    where
      pick : (found wanted : Bool) → sheet_at turns false ring t ≡ found → (upper : Bool) × (sheet_at turns upper ring t ≡ wanted)
      pick true true e = (false, e)
      pick false false e = (false, e)
      pick true false e = (true, sheets_apart turns false ring t ∙ ap not e)
      pick false true e = (true, sheets_apart turns false ring t ∙ ap not e)

  pub edge_lifted : (upper : Bool) (u v : ℕ) → is_edge mesh u v ≡ true
      → is_edge (cover_of mesh turns) (over mesh.count upper u) (over mesh.count (sheet_behind turns upper u v) v) ≡ true
  edge_lifted upper u v is =
      let found : HasSideBetween mesh u v = side_between mesh u v is in
      let f : ℕ = found.side.face.0 in
      let t : ℕ = found.side.at in
      let cover : FaceList = cover_of mesh turns in
      elim found.ends [
        | inl e ↦
            (let b = begins_on (face_at mesh f) t upper in
            let there = side_lifted f t b.0 found.in_mesh.face found.in_mesh.place in
            along upper u v (sheet_at turns b.0 (face_at mesh f) t) (tail_of mesh found.side) (head_of mesh found.side) b.1 e.0 e.1 there)
        | inr e ↦
            (let b = begins_on (face_at mesh f) t (sheet_behind turns upper u v) in
            let there = side_lifted f t b.0 found.in_mesh.face found.in_mesh.place in
            let turned : is_edge cover (over mesh.count (sheet_behind turns upper u v) v)
            (over mesh.count (sheet_behind turns (sheet_behind turns upper u v) v u) u) ≡ true =
            along (sheet_behind turns upper u v) v u (sheet_at turns b.0 (face_at mesh f) t) (tail_of mesh found.side)
            (head_of mesh found.side) b.1 e.0 e.1 there in
            edge_swap cover (over mesh.count upper u) (over mesh.count (sheet_behind turns upper u v) v)
            ∙ subst (λ (s : Bool). is_edge cover (over mesh.count (sheet_behind turns upper u v) v) (over mesh.count s u) ≡ true)
            (back turns are.turned upper u v) turned)
      ]
    where
      along : (upper : Bool) (u v : ℕ) (s : Bool) (a b : ℕ) → s ≡ upper → a ≡ u → b ≡ v
          → is_edge (cover_of mesh turns) (over mesh.count s a) (over mesh.count (sheet_behind turns s a b) b) ≡ true
          → is_edge (cover_of mesh turns) (over mesh.count upper u) (over mesh.count (sheet_behind turns upper u v) v) ≡ true
      along upper u v s a b p q r h =
          subst (λ (x : Bool). is_edge (cover_of mesh turns) (over mesh.count x u) (over mesh.count (sheet_behind turns x u v) v) ≡ true) p
          (subst (λ (x : ℕ). is_edge (cover_of mesh turns) (over mesh.count s x) (over mesh.count (sheet_behind turns s x v) v) ≡ true) q
          (subst (λ (x : ℕ). is_edge (cover_of mesh turns) (over mesh.count s a) (over mesh.count (sheet_behind turns s a x) x) ≡ true)
          r h))
