-- What a move of the double becomes, in the words of a function that has the double beside the mesh.
use Rattle.folded_lists.proofs.Common.{double_of, fold, folded, IsMoveBelow, along_edge, ◌≡◌, ◌≢◌, ℕ, ◌+◌, ◌-◌, ◌<◌, ◌≤◌, Bool, true, false, not, List, ◌∷◌, length, get_or, ap, sym, ◌∙◌, subst, arith, eq-eqb, ◌==◌, FaceList, IsFaceList, face_at, Replaces, Insert, Remove, Across, VertexName}
use Rattle.folded_lists.proofs.MovesBelow.{across_kept, across_mirror, insert_high, quad_flat, quad_in, quad_out, quad_size, remove_high}
use Rattle.folded_lists.proofs.QuadLemmas.{opposite}

pub size_of_quad : (mesh double : FaceList) (f : ℕ) → double ≡ double_of mesh → IsFaceList mesh → length mesh.faces + length mesh.faces ≤ f
    → f < length double.faces → length (face_at double f) ≡ 4
size_of_quad mesh double f is valid more l =
    subst (λ (m : FaceList). length (face_at m f) ≡ 4) (sym is)
    (quad_size mesh f valid more (subst (λ (m : FaceList). f < length m.faces) is l))

-- spurs
module _ (mesh double : FaceList) (is : double ≡ double_of mesh) (valid : IsFaceList mesh) (count place here b : ℕ)
    (via low : VertexName) (count_is : count ≡ mesh.count) (a_is : low.0 ≡ fold count via.0) (b_is : b ≡ fold count here)
    (test : Bool) (told : test ≡ (low.0 == b)) (other : test ≡ false) where
  apart : low.0 ≢ fold mesh.count here
  apart same =
      let met : (low.0 == b) ≡ true = eq-eqb low.0 b (same ∙ ap (λ (n : ℕ). fold n here) (sym count_is) ∙ sym b_is) in
      cc

  low_is : low.0 ≡ fold mesh.count via.0
  low_is = a_is ∙ ap (λ (n : ℕ). fold n via.0) count_is

  pub spur_comes_below : (at : ℕ) (rest others : List ℕ) → Replaces double (Insert at via) (here ∷ rest) (here ∷ others)
      → IsMoveBelow mesh place (here ∷ rest) (here ∷ others) (Insert place low)
  spur_comes_below at rest others h =
      insert_high mesh at place here via low rest others valid low_is apart
      (subst (λ (m : FaceList). Replaces m (Insert at via) (here ∷ rest) (here ∷ others)) is h)

  pub spur_goes_below : (at : ℕ) (rest others : List ℕ) → Replaces double (Remove at via) (here ∷ rest) (here ∷ others)
      → IsMoveBelow mesh place (here ∷ rest) (here ∷ others) (Remove place low)
  spur_goes_below at rest others h =
      remove_high mesh at place here via low rest others low_is apart
      (subst (λ (m : FaceList). Replaces m (Remove at via) (here ∷ rest) (here ∷ others)) is h)

-- ways round faces
module _ (mesh double : FaceList) (is : double ≡ double_of mesh) (valid : IsFaceList mesh) (place f corner : ℕ) (forward : Bool)
    (taken : ℕ) where
  on_double : (at : ℕ) (part other : List ℕ) → Replaces double (Across at (record { 0 = f }) corner forward taken) part other
      → Replaces (double_of mesh) (Across at (record { 0 = f }) corner forward taken) part other
  on_double at part other h =
      subst (λ (m : FaceList). Replaces m (Across at (record { 0 = f }) corner forward taken) part other) is h

  pub kept_below : f < length mesh.faces → (at : ℕ) (part other : List ℕ)
      → Replaces double (Across at (record { 0 = f }) corner forward taken) part other
      → IsMoveBelow mesh place part other (Across place (record { 0 = f }) corner forward taken)
  kept_below l at part other h =
      across_kept mesh at place f corner forward taken part other valid l (on_double at part other h)

  pub mirror_below : length mesh.faces ≤ f → f - length mesh.faces < length mesh.faces → (at : ℕ) (part other : List ℕ)
      → Replaces double (Across at (record { 0 = f }) corner forward taken) part other
      → IsMoveBelow mesh place part other
      (Across place (record { 0 = f - length mesh.faces }) (length (face_at mesh (f - length mesh.faces)) - 1 - corner) (not forward) taken)
  mirror_below more l at part other h =
      let number : f ≡ length mesh.faces + (f - length mesh.faces) = omega (arith, more) in
      across_mirror mesh at place (f - length mesh.faces) corner forward taken part other valid l
      (subst (λ (n : ℕ). Replaces (double_of mesh) (Across at (record { 0 = n }) corner forward taken) part other) number
      (on_double at part other h))

  module _ (more : length mesh.faces + length mesh.faces ≤ f) (low : VertexName)
      (low_is : low.0 ≡ fold mesh.count (get_or (face_at double f) (opposite corner) 0)) where
    there : low.0 ≡ fold mesh.count (get_or (face_at (double_of mesh) f) (opposite corner) 0)
    there = subst (λ (m : FaceList). low.0 ≡ fold mesh.count (get_or (face_at m f) (opposite corner) 0)) is low_is

    pub spur_in_below : along_edge corner forward taken ≡ 0 → (at : ℕ) (part other : List ℕ)
        → Replaces double (Across at (record { 0 = f }) corner forward taken) part other
        → IsMoveBelow mesh place part other (Insert place low)
    spur_in_below none at part other h =
        quad_in mesh at place f corner forward taken part other valid more (on_double at part other h) low there none

    pub spur_out_below : along_edge corner forward taken ≢ 0 → along_edge corner forward taken ≢ 1 → (at : ℕ) (part other : List ℕ)
        → Replaces double (Across at (record { 0 = f }) corner forward taken) part other
        → IsMoveBelow mesh place part other (Remove place low)
    spur_out_below some many at part other h =
        quad_out mesh at place f corner forward taken part other valid more (on_double at part other h) low there some many

  pub nothing_below : length mesh.faces + length mesh.faces ≤ f → along_edge corner forward taken ≡ 1 → (at : ℕ) (part other : List ℕ)
      → Replaces double (Across at (record { 0 = f }) corner forward taken) part other
      → folded mesh.count part ≡ folded mesh.count other
  nothing_below more one at part other h =
      quad_flat mesh at place f corner forward taken part other valid more (on_double at part other h) one

-- the vertex across the edge, as it is read of the double
pub quad_vertex : (mesh double : FaceList) (f corner count read low : ℕ) → count ≡ mesh.count
    → read ≡ get_or (face_at double f) (opposite corner) 0 → low ≡ fold count read
    → low ≡ fold mesh.count (get_or (face_at double f) (opposite corner) 0)
quad_vertex mesh double f corner count read low count_is read_is low_is =
    low_is ∙ ap (λ (n : ℕ). fold n read) count_is ∙ ap (fold mesh.count) read_is

-- a mirror face, as a function names it
pub mirror_named : (mesh double : FaceList) (is : double ≡ double_of mesh) (valid : IsFaceList mesh) (place f corner : ℕ) (forward : Bool)
    (taken count sides : ℕ) → count ≡ length mesh.faces → sides ≡ length (face_at mesh (f - count)) → count ≤ f → f - count < count
    → (at : ℕ) (part other : List ℕ) → Replaces double (Across at (record { 0 = f }) corner forward taken) part other
    → IsMoveBelow mesh place part other (Across place (record { 0 = f - count }) (sides - 1 - corner) (not forward) taken)
mirror_named mesh double is valid place f corner forward taken count sides count_is sides_is more l at part other h =
    let n : ℕ = length mesh.faces in
    let long : sides ≡ length (face_at mesh (f - n)) = sides_is ∙ ap (λ (m : ℕ). length (face_at mesh (f - m))) count_is in
    subst (λ (m : ℕ). IsMoveBelow mesh place part other (Across place (record { 0 = f - m }) (sides - 1 - corner) (not forward) taken))
    (sym count_is)
    (subst (λ (m : ℕ). IsMoveBelow mesh place part other (Across place (record { 0 = f - n }) (m - 1 - corner) (not forward) taken))
    (sym long)
    (mirror_below mesh double is valid place f corner forward taken (omega (arith, more, count_is))
    (omega (arith, l, count_is)) at part other h))
