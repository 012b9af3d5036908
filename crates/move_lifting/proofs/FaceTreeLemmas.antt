-- The tree of the faces: each face hangs below the face across its parent edge. What hangs below a cotree edge, counted in darts.
use Rattle.move_lifting.proofs.Common.{OrientedMesh, IsOrientedSurface, rotations_of, ◌≡◌, ◌⊎◌, inl, inr, ℕ, ◌<◌, Bool, true, false, ◌||◌, eqb, List, [], ◌∷◌, length, refl, ap, sym, ◌∙◌, subst, arith, eqb-true, eq-eqb, or_cases, or_left, or_right, IsPath, faces_upward, one_way_up, above, above_path, upper_within, rank_step, not_itself, SplitView, IsSplit, StepsUp}

-- a list names a number
abbrev pub names : ℕ → List ℕ → Bool
names f [] = false
names f (g ∷ rest) = eqb g f || names f rest

names_first : (f : ℕ) (rest : List ℕ) → names f (f ∷ rest) ≡ true
names_first f rest = or_left (eqb f f) (names f rest) (eq-eqb f f refl)

-- the face g is f, or hangs below it
abbrev pub below : (s : OrientedMesh) (split : SplitView) → IsSplit s split → ℕ → ℕ → Bool
below s split t f g = names f (g ∷ above s split t g)

pub below_itself : (s : OrientedMesh) (split : SplitView) (t : IsSplit s split) (f : ℕ) → below s split t f f ≡ true
below_itself s split t f = names_first f (above s split t f)

module _ {s : OrientedMesh} {split : SplitView} (o : IsOrientedSurface s) (t : IsSplit s split) where
  -- what a way up names is where it starts, or stands higher
  named_higher : (g : ℕ) (path : List ℕ) (f : ℕ)
      → IsPath (StepsUp (rotations_of s) split) g path split.root_face → names f (g ∷ path) ≡ true
      → (f ≡ g) ⊎ (length (above s split t f) < length path)
  named_higher g [] f p h = grind arith
  named_higher g (x ∷ path) f p h = elim (or_cases (eqb g f) (names f (x ∷ path)) h) [
    | inl here ↦ inl (sym (eqb-true g f here))
    | inr later ↦ elim (named_higher x path f p.1 later) [
      | inl at ↦
          let way : above s split t x ≡ path =
          one_way_up s split o t x (above s split t x) path (above_path s split t x (upper_within s split o g x p.0)) p.1 in
          let long : length (above s split t f) ≡ length path =
          ap (λ (y : ℕ). length (above s split t y)) at ∙ ap (λ (l : List ℕ). length l) way in
          inr (omega arith)
      | inr higher ↦ inr (omega arith)
    ]
  ]

  -- a way up that names a face names the one above it
  names_next : (c f g : ℕ) (path : List ℕ) → StepsUp (rotations_of s) split c f
      → IsPath (StepsUp (rotations_of s) split) g path split.root_face → names c (g ∷ path) ≡ true → names f (g ∷ path) ≡ true
  names_next c f g [] step p h = grind (arith, faces_upward)
  names_next c f g (x ∷ path) step p h = elim (or_cases (eqb g c) (names c (x ∷ path)) h) [
    | inl here ↦
        let same : x ≡ f =
        (faces_upward s split o t).one c x f (subst (λ (y : ℕ). StepsUp (rotations_of s) split y x) (eqb-true g c here) p.0) step in
        or_right (eqb g f) (names f (x ∷ path)) (or_left (eqb x f) (names f path) (eq-eqb x f same))
    | inr later ↦ or_right (eqb g f) (names f (x ∷ path)) (names_next c f x path step p.1 later)
  ]

  pub below_higher : (c f g : ℕ) → StepsUp (rotations_of s) split c f
      → g < length s.mesh.faces → below s split t c g ≡ true → below s split t f g ≡ true
  below_higher c f g step l h = names_next c f g (above s split t g) step (above_path s split t g l) h

  -- the face above one does not hang below it
  pub not_above : (c f : ℕ) → StepsUp (rotations_of s) split c f → below s split t c f ≡ true → ⊥
  not_above c f step h =
      let rank = rank_step s split o t c f step in
      elim (named_higher f (above s split t f) c (above_path s split t f (upper_within s split o c f step)) h) [
        | inl same ↦ not_itself s split o t f (subst (λ (x : ℕ). StepsUp (rotations_of s) split x f) same step)
        | inr higher ↦ absurd (omega arith)
      ]

  -- of the faces that hang straight below a face, a way up names one at most
  named_once : (c d f g : ℕ) (path : List ℕ) → StepsUp (rotations_of s) split c f → StepsUp (rotations_of s) split d f
      → IsPath (StepsUp (rotations_of s) split) g path split.root_face → names c (g ∷ path) ≡ true → names d (g ∷ path) ≡ true → c ≡ d
  named_once c d f g [] a b p h k = grind arith
  named_once c d f g (x ∷ path) a b p h k = elim (or_cases (eqb g c) (names c (x ∷ path)) h) [
    | inl here ↦ elim (or_cases (eqb g d) (names d (x ∷ path)) k) [
      | inl there ↦ sym (eqb-true g c here) ∙ eqb-true g d there
      | inr later ↦ absurd (too_high c d a b (eqb-true g c here) later)
    ]
    | inr before ↦ elim (or_cases (eqb g d) (names d (x ∷ path)) k) [
      | inl there ↦ absurd (too_high d c b a (eqb-true g d there) before)
      | inr later ↦ named_once c d f x path a b p.1 before later
    ]
  ]
    where
      too_high : (i j : ℕ) → StepsUp (rotations_of s) split i f → StepsUp (rotations_of s) split j f → g ≡ i → names j (x ∷ path) ≡ true → ⊥
      too_high i j one other at later =
          let same : x ≡ f = (faces_upward s split o t).one i x f (subst (λ (y : ℕ). StepsUp (rotations_of s) split y x) at p.0) one in
          let way : above s split t x ≡ path =
          one_way_up s split o t x (above s split t x) path (above_path s split t x (upper_within s split o g x p.0)) p.1 in
          not_above j f other (subst (λ (y : ℕ). names j (y ∷ above s split t y) ≡ true) same
          (subst (λ (l : List ℕ). names j (x ∷ l) ≡ true) (sym way) later))

  pub below_once : (c d f g : ℕ) → StepsUp (rotations_of s) split c f
      → StepsUp (rotations_of s) split d f → g < length s.mesh.faces → below s split t c g ≡ true → below s split t d g ≡ true → c ≡ d
  below_once c d f g a b l h k = named_once c d f g (above s split t g) a b (above_path s split t g l) h k
