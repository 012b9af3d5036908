-- On which sheet a lift is: behind a dart and home again, at each entry, and at each corner of a face.
use Rattle.double_covers.proofs.Common.{sheet_behind, over, lifted_behind, lifted, ◌≡◌, inl, inr, ℕ, zero, suc, ◌+◌, ◌<◌, Bool, true, false, not, List, [], ◌∷◌, ◌++◌, length, get_or, refl, ap, sym, ◌∙◌, subst, arith, cases_lt, nat_tests, if◌then◌else◌, step_within, corner_after, next_corner, corners_from, corners_beyond, next_forth, run, walked, vertices_beyond}
use Rattle.std.specs.Prelude.{take}

twice : (turn upper : Bool) → (if turn then not (if turn then not upper else upper) else (if turn then not upper else upper)) ≡ upper
twice true true = refl
twice true false = refl
twice false upper = refl

other : (turn upper : Bool) → (if turn then not (not upper) else not upper) ≡ not (if turn then not upper else upper)
other true upper = refl
other false upper = refl

-- the sheet at a corner of a face whose first one is on this sheet
abbrev pub sheet_at : (ℕ → ℕ → Bool) → Bool → List ℕ → ℕ → Bool
sheet_at turns upper [] t = upper
sheet_at turns upper (u ∷ rest) t = run (sheet_behind turns) upper u (take t rest)

module _ (turns : ℕ → ℕ → Bool) where
  -- there and back
  pub back : (swap : (u v : ℕ) → turns u v ≡ turns v u) (upper : Bool) (u v : ℕ)
      → sheet_behind turns (sheet_behind turns upper u v) v u ≡ upper
  back swap upper u v = rw (swap v u) (twice (turns u v) upper)

  -- from the other sheet to the other sheet
  pub runs_apart : (upper : Bool) (u : ℕ) (rest : List ℕ)
      → run (sheet_behind turns) (not upper) u rest ≡ not (run (sheet_behind turns) upper u rest)
  runs_apart upper u [] = refl
  runs_apart upper u (v ∷ rest) =
      ap (λ (s : Bool). run (sheet_behind turns) s v rest) (other (turns u v) upper) ∙ runs_apart (sheet_behind turns upper u v) v rest

  pub sheets_apart : (upper : Bool) (ring : List ℕ) (t : ℕ) → sheet_at turns (not upper) ring t ≡ not (sheet_at turns upper ring t)
  sheets_apart upper [] t = refl
  sheets_apart upper (u ∷ rest) t = runs_apart upper u (take t rest)

  -- one step on
  up : (upper : Bool) (u : ℕ) (rest : List ℕ) (t : ℕ) → t < length rest
      → run (sheet_behind turns) upper u (take (suc t) rest)
      ≡ sheet_behind turns (run (sheet_behind turns) upper u (take t rest)) (get_or (u ∷ rest) t 0) (get_or (u ∷ rest) (suc t) 0)
  up upper u [] t l = absurd (omega (arith, l))
  up upper u (v ∷ rest) zero l = refl
  up upper u (v ∷ rest) (suc t) l = up (sheet_behind turns upper u v) v rest t (omega (arith, l))

  pub next_sheet : (upper : Bool) (walk : List ℕ) (t : ℕ) → t + 1 < length walk
      → sheet_at turns upper walk (t + 1) ≡ sheet_behind turns (sheet_at turns upper walk t) (get_or walk t 0) (get_or walk (t + 1) 0)
  next_sheet upper [] t l = absurd (omega (arith, l))
  next_sheet upper (u ∷ rest) t l =
      let more : t + 1 ≡ suc t = omega arith in
      rw more (up upper u rest t (omega (arith, l)))

  -- from the last one to a vertex
  end : (upper : Bool) (u : ℕ) (rest : List ℕ) (v : ℕ)
      → run (sheet_behind turns) upper u (rest ++ v ∷ [])
      ≡ sheet_behind turns (run (sheet_behind turns) upper u (take (length rest) rest)) (get_or (u ∷ rest) (length rest) 0) v
  end upper u [] v = refl
  end upper u (x ∷ rest) v = end (sheet_behind turns upper u x) x rest v

  pub home_sheet : (upper : Bool) (ring : List ℕ) (last : ℕ) → last + 1 ≡ length ring
      → walked (sheet_behind turns) upper (ring ++ take 1 ring)
      ≡ sheet_behind turns (sheet_at turns upper ring last) (get_or ring last 0) (get_or ring 0 0)
  home_sheet upper [] last l = absurd (omega (arith, l))
  home_sheet upper (u ∷ rest) last l =
      let at_end : last ≡ length rest = omega (arith, l) in
      rw at_end (end upper u rest u)

  -- the entry of a lift
  entry_behind : (count : ℕ) (upper : Bool) (u : ℕ) (rest : List ℕ) (t : ℕ) → t < suc (length rest)
      → get_or (over count upper u ∷ lifted_behind turns count upper u rest) t 0
      ≡ over count (run (sheet_behind turns) upper u (take t rest)) (get_or (u ∷ rest) t 0)
  entry_behind count upper u rest zero l = refl
  entry_behind count upper u [] (suc t) l = absurd (omega (arith, l))
  entry_behind count upper u (v ∷ rest) (suc t) l = entry_behind count (sheet_behind turns upper u v) v rest t (omega (arith, l))

  pub entry : (count : ℕ) (upper : Bool) (ring : List ℕ) (t : ℕ) → t < length ring
      → get_or (lifted turns count upper ring) t 0 ≡ over count (sheet_at turns upper ring t) (get_or ring t 0)
  entry count upper [] t l = absurd (omega (arith, l))
  entry count upper (u ∷ rest) t l = entry_behind count upper u rest t l

  length_behind : (count : ℕ) (upper : Bool) (u : ℕ) (rest : List ℕ) → length (lifted_behind turns count upper u rest) ≡ length rest
  length_behind count upper u [] = refl
  length_behind count upper u (v ∷ rest) = ap suc (length_behind count (sheet_behind turns upper u v) v rest)

  pub length-lifted : (count : ℕ) (upper : Bool) (walk : List ℕ) → length (lifted turns count upper walk) ≡ length walk
  length-lifted count upper [] = refl
  length-lifted count upper (u ∷ rest) = ap suc (length_behind count upper u rest)

-- once round the ring leads home
abbrev pub LeadsHome : (ℕ → ℕ → Bool) → List ℕ → Type 0
LeadsHome turns ring = (upper : Bool) → walked (sheet_behind turns) upper (ring ++ take 1 ring) ≡ upper

module _ (turns : ℕ → ℕ → Bool) (swap : (u v : ℕ) → turns u v ≡ turns v u) where
  rising_step : (ring : List ℕ) (upper : Bool) (t : ℕ) → LeadsHome turns ring → t < length ring
      → sheet_at turns upper ring (next_corner true (length ring) t)
      ≡ sheet_behind turns (sheet_at turns upper ring t) (get_or ring t 0) (get_or ring (next_corner true (length ring) t) 0)
  rising_step [] upper t home l = absurd (omega (arith, l))
  rising_step (u ∷ rest) upper t home l =
      elim (cases_lt t (length rest)) [
        | inl less ↦
            (let next : next_corner true (suc (length rest)) t ≡ suc t = grind (arith, nat_tests) in
            rw next (up turns upper u rest t less))
        | inr last ↦
            (let next : next_corner true (suc (length rest)) t ≡ 0 = grind (arith, nat_tests) in
            let at_end : t ≡ length rest = omega arith in
            rw next (rw at_end (sym (home upper) ∙ end turns upper u rest u)))
      ]

  -- a step to a neighbouring corner, in either direction
  pub step : (ring : List ℕ) (upper rising : Bool) (t : ℕ) → LeadsHome turns ring → t < length ring
      → sheet_at turns upper ring (next_corner rising (length ring) t)
      ≡ sheet_behind turns (sheet_at turns upper ring t) (get_or ring t 0) (get_or ring (next_corner rising (length ring) t) 0)
  step ring upper true t home l = rising_step ring upper t home l
  step ring upper false t home l =
      let m : ℕ = length ring in
      let before : ℕ = next_corner false m t in
      let forth : next_corner true m before ≡ t = next_forth true m t l in
      let there : sheet_at turns upper ring t
      ≡ sheet_behind turns (sheet_at turns upper ring before) (get_or ring before 0) (get_or ring t 0) =
      subst
      (λ (k : ℕ). sheet_at turns upper ring k
      ≡ sheet_behind turns (sheet_at turns upper ring before) (get_or ring before 0) (get_or ring k 0))
      forth (rising_step ring upper before home (step_within false m t l)) in
      sym (ap (λ (s : Bool). sheet_behind turns s (get_or ring t 0) (get_or ring before 0)) there
      ∙ back turns swap (sheet_at turns upper ring before) (get_or ring before 0) (get_or ring t 0))

  -- the lift of a way round a ring is the way round the lifted ring
  pub way_lifted : (count : ℕ) (ring : List ℕ) (upper rising : Bool) (t k : ℕ) → LeadsHome turns ring → t < length ring
      → lifted turns count (sheet_at turns upper ring t) (corners_from ring rising t k)
      ≡ corners_from (lifted turns count upper ring) rising t k
  way_lifted count ring upper rising t zero home l = ap (λ (v : ℕ). v ∷ []) (sym (entry turns count upper ring t l))
  way_lifted count ring upper rising t (suc k) home l =
      let m : ℕ = length ring in
      let next : ℕ = next_corner rising m t in
      let here : ℕ = get_or ring t 0 in
      let s : Bool = sheet_at turns upper ring t in
      let lifts : List ℕ = lifted turns count upper ring in
      ap (λ (l : List ℕ). over count s here ∷ lifted_behind turns count s here l) (corners_beyond ring rising next k)
      ∙ ap (λ (b : Bool). over count s here ∷ lifted turns count b (get_or ring next 0 ∷ vertices_beyond ring rising next k))
      (sym (step ring upper rising t home l))
      ∙ ap (λ (l : List ℕ). over count s here ∷ lifted turns count (sheet_at turns upper ring next) l)
      (sym (corners_beyond ring rising next k))
      ∙ ap (λ (l : List ℕ). over count s here ∷ l) (way_lifted count ring upper rising next k home (step_within rising m t l))
      ∙ ap (λ (v : ℕ). v ∷ corners_from lifts rising next k) (sym (entry turns count upper ring t l))
      ∙ ap (λ (n : ℕ). get_or lifts t 0 ∷ corners_from lifts rising (next_corner rising n t) k) (sym (length-lifted turns count upper ring))

  -- the sheet at which such a way ends
  pub way_ends : (ring : List ℕ) (upper rising : Bool) (t k : ℕ) → LeadsHome turns ring → t < length ring
      → run (sheet_behind turns) (sheet_at turns upper ring t) (get_or ring t 0) (vertices_beyond ring rising t k)
      ≡ sheet_at turns upper ring (corner_after rising (length ring) t k)
  way_ends ring upper rising t zero home l = refl
  way_ends ring upper rising t (suc k) home l =
      let next : ℕ = next_corner rising (length ring) t in
      ap (λ (s : Bool). run (sheet_behind turns) s (get_or ring next 0) (vertices_beyond ring rising next k))
      (sym (step ring upper rising t home l))
      ∙ way_ends ring upper rising next k home (step_within rising (length ring) t l)
