-- The walk along the ring of tree and leftover edges of a split.
use Rattle.polygon_cut.proofs.Common.{face_at_number, IsNumberOf, HasPlace, placed, IsPermutationBelow, steps_within, rotation_system, darts_of, edge_of, face_of, after_steps, OrientedMesh, IsOrientedSurface, Rotations, rotations_of, outer_ring, IsWalked, ◌≡◌, ℕ, suc, ◌+◌, ◌<◌, Bool, true, false, not, List, [], ◌∷◌, ◌++◌, length, ap, sym, ◌∙◌, arith, set, common_steps, map-append, first_side, face_at, DartName, after_permutes, rest_has_ring, dart_numbers, SplitView, HasTrees, in_cotree, is_left}
use Rattle.polygon_cut.proofs.RoundLemmas.{GoesRound}
use Rattle.polygon_cut.proofs.WalkedLemmas.{walked_left, walked_other}

pub ring_goes_round : {s : OrientedMesh} {split : SplitView} (last : ℕ) → IsOrientedSurface s → HasTrees s split → last < darts_of s
    → GoesRound (darts_of s) (outer_ring s split) (outer_ring s split last)
ring_goes_round {s} {split} last o t l =
    let p : IsPermutationBelow (darts_of s) (outer_ring s split) =
    after_permutes (rotations_of s) (rotation_system s o) (λ e. not (in_cotree split e)) in
    record {
      permutes = p;
      start = p.within last l;
      all = λ j b. rest_has_ring s split o t (outer_ring s split last) j (p.within last l) b;
    }

-- as far as the walk has come: at which dart it is
pub record IsWalking (s : OrientedMesh) (split : SplitView) (last steps : ℕ) (sides : List DartName) (labels : List ℕ) (dart : ℕ) : Type 0
  where
    pub at : dart ≡ after_steps (outer_ring s split) steps (outer_ring s split last)
    pub walked : IsWalked (rotations_of s) (outer_ring s split) (is_left split) (outer_ring s split last) steps (dart_numbers sides) labels

pub walking_within : {s : OrientedMesh} {split : SplitView} {last steps : ℕ} {sides : List DartName} {labels : List ℕ} {dart : ℕ}
    → IsOrientedSurface s → HasTrees s split → last < darts_of s → IsWalking s split last steps sides labels dart → dart < darts_of s
walking_within {s} {split} {last} {steps} o t l h = grind (arith, ring_goes_round, steps_within)

moved : {maps : Rotations} {ring : ℕ → ℕ} {left : ℕ → Bool} {start j : ℕ} (k : ℕ) {sides : List ℕ} (new : List ℕ) {labels : List ℕ}
    (new_labels : List ℕ) → j ≡ k → sides ≡ new
    → labels ≡ new_labels → IsWalked maps ring left start j sides labels → IsWalked maps ring left start k new new_labels
moved {maps} {ring} {left} {start} k {sides} new {labels} new_labels one listed written h = grind (arith, written)

written : (sides : List DartName) (labels new_labels : List ℕ) (dart here : ℕ) → dart ≡ here → new_labels ≡ set labels dart (length sides)
    → set labels here (length (dart_numbers sides)) ≡ new_labels
written sides labels new_labels dart here at is = grind (arith, common_steps)

-- one dart more, which is leftover, or is not
pub walking_left : {s : OrientedMesh} {split : SplitView} {last steps : ℕ} {sides : List DartName} (new : List DartName) {labels : List ℕ}
    (new_labels : List ℕ)
    (dart : DartName) (next : ℕ) → IsOrientedSurface s → HasTrees s split → last < darts_of s → steps < darts_of s
    → IsWalking s split last steps sides labels dart.0 → is_left split (edge_of s dart.0) ≡ true → new ≡ sides ++ dart ∷ []
    → new_labels ≡ set labels dart.0 (length sides) → next ≡ outer_ring s split dart.0
    → IsWalking s split last (steps + 1) new new_labels next
walking_left {s} {split} {last} {steps} {sides} new {labels} new_labels dart next o t l b h is new_is labels_is next_is =
    let maps : Rotations = rotations_of s in
    let ring : ℕ → ℕ = outer_ring s split in
    let start : ℕ = ring last in
    let here : is_left split (maps.edge (after_steps ring steps start)) ≡ true = ap (λ (d : ℕ). is_left split (edge_of s d)) (sym h.at)
    ∙ is in
    let more = walked_left (ring_goes_round last o t l) b here h.walked in
    let one : suc steps ≡ steps + 1 = omega arith in
    let listed : dart_numbers sides ++ after_steps ring steps start ∷ [] ≡ dart_numbers new =
    ap (λ (d : ℕ). dart_numbers sides ++ d ∷ []) (sym h.at) ∙ sym (map-append (λ (d : DartName). d.0) sides (dart ∷ []))
    ∙ ap dart_numbers (sym new_is) in
    record {
      at = next_is ∙ ap ring h.at ∙ ap (λ (m : ℕ). after_steps ring m start) one;
      walked = moved (steps + 1) (dart_numbers new) new_labels one listed
          (written sides labels new_labels dart.0 (after_steps ring steps start) h.at labels_is) more;
    }

pub walking_other : {s : OrientedMesh} {split : SplitView} {last steps : ℕ} {sides : List DartName} (new : List DartName) {labels : List ℕ}
    (new_labels : List ℕ)
    (dart : DartName) (next : ℕ) → IsOrientedSurface s → HasTrees s split → last < darts_of s → steps < darts_of s
    → IsWalking s split last steps sides labels dart.0 → is_left split (edge_of s dart.0) ≡ false → new ≡ sides
    → new_labels ≡ set labels dart.0 (length sides) → next ≡ outer_ring s split dart.0
    → IsWalking s split last (steps + 1) new new_labels next
walking_other {s} {split} {last} {steps} {sides} new {labels} new_labels dart next o t l b h none new_is labels_is next_is =
    let maps : Rotations = rotations_of s in
    let ring : ℕ → ℕ = outer_ring s split in
    let start : ℕ = ring last in
    let here : is_left split (maps.edge (after_steps ring steps start)) ≡ false = grind arith in
    let more = walked_other (ring_goes_round last o t l) b here h.walked in
    let one : suc steps ≡ steps + 1 = omega arith in
    record {
      at = next_is ∙ ap ring h.at ∙ ap (λ (m : ℕ). after_steps ring m start) one;
      walked = moved (steps + 1) (dart_numbers new) new_labels one (ap dart_numbers (sym new_is))
          (written sides labels new_labels dart.0 (after_steps ring steps start) h.at labels_is) more;
    }

-- the darts of a face are those that follow its first one in number
pub number_in_face : (s : OrientedMesh) (f first at : ℕ) → f < length s.mesh.faces → first ≡ first_side s.mesh f
    → at < length (face_at s.mesh f)
    → IsNumberOf s.mesh f at (first + at)
number_in_face s f first at l is b = record { face = l; place = b; is = ap (λ (k : ℕ). k + at) (sym is) }

pub none_in_face : (s : OrientedMesh) (f first : ℕ) (test : ℕ → Bool) → first ≡ first_side s.mesh f
    → ((k : ℕ) → k < length (face_at s.mesh f) → test (first + k) ≡ false) → (d : ℕ) → d < darts_of s → face_of s d ≡ f → test d ≡ false
none_in_face s f first test is none d l here =
    let h : HasPlace s.mesh d = placed s.mesh d l in
    let same : h.face ≡ f = sym (face_at_number s h.face h.place d h.numbered) ∙ here in
    let within : h.place < length (face_at s.mesh f) = grind arith in
    let number : first + h.place ≡ d = ap (λ (k : ℕ). k + h.place) is ∙ ap (λ (g : ℕ). first_side s.mesh g + h.place) (sym same)
    ∙ h.numbered.is in
    ap test (sym number) ∙ none h.place within
