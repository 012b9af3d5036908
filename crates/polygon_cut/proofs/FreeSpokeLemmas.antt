-- Values of a surface's darts, up to spurs alone: a tree or leftover dart has its loop, down the tree, along it, and up again, and a
-- cotree dart has two spokes, those of the labels at its tail and at its head. Then every dart but the last side has its two spokes.
use Rattle.polygon_cut.proofs.Common.{rotation_system, darts_of, next_of, twin_of, edge_of, OrientedMesh, IsOrientedSurface, rotations_of, IsRotationSystem, PolygonView, IsCutFrom, side_at, label_of, ◌≡◌, ◌≢◌, inl, inr, ℕ, ◌-◌, ◌<◌, Bool, true, false, refl, ap, sym, ◌∙◌, subst, cases_Bool, one_of_three, OneOfThree, tree_one, cotree_one, left_one, SplitView, IsSplit, in_tree, in_cotree, is_left}
use Rattle.polygon_cut.proofs.GroupLemmas.{IsGroup, quotient, inverse_of_quotient}
use Rattle.polygon_cut.proofs.WayLemmas.{loop_mul, loop_inv}
use Rattle.polygon_cut.proofs.FreeLoopLemmas.{SameFreely, loops_make_a_free_group, free_equality}
use Rattle.polygon_cut.proofs.LawLemmas.{labels_ride}
use Rattle.polygon_cut.proofs.DartLoopLemmas.{Loops, value, spoke, value_of_twin, value_of_tree, left_dart, one_of}
use Rattle.polygon_cut.proofs.ValueLemmas.{by_labels}

abbrev pub free_group : (s : OrientedMesh) (split : SplitView) (t : IsSplit s split)
    → IsGroup {X = Loops s split t} SameFreely loop_mul loop_inv (one_of s split t)
free_group s split t = loops_make_a_free_group s.mesh t.parents.root t.parents.root_used

-- The free value of a dart: two spokes where its edge is in the cotree, and else its loop.
pub pick_free : {s : OrientedMesh} {split : SplitView} → IsOrientedSurface s → (t : IsSplit s split) → PolygonView → Bool → ℕ
    → Loops s split t
pick_free {s} {split} o t polygon true d = by_labels loop_mul loop_inv (spoke s split o t polygon) (label_of polygon) (next_of s) d
pick_free {s} {split} o t polygon false d = value s split o t d

abbrev pub free_value : (s : OrientedMesh) (split : SplitView) → IsOrientedSurface s → (t : IsSplit s split) → PolygonView → ℕ
    → Loops s split t
free_value s split o t polygon d = pick_free o t polygon (in_cotree split (edge_of s d)) d

pub of_cotree_dart : {s : OrientedMesh} {split : SplitView} (o : IsOrientedSurface s) (t : IsSplit s split) (polygon : PolygonView) (d : ℕ)
    → in_cotree split (edge_of s d) ≡ true
    → free_value s split o t polygon d ≡ by_labels loop_mul loop_inv (spoke s split o t polygon) (label_of polygon) (next_of s) d
unfolding pick_free
of_cotree_dart o t polygon d is = ap (λ b. pick_free o t polygon b d) is

pub of_other_dart : {s : OrientedMesh} {split : SplitView} (o : IsOrientedSurface s) (t : IsSplit s split) (polygon : PolygonView) (d : ℕ)
    → in_cotree split (edge_of s d) ≡ false
    → free_value s split o t polygon d ≡ value s split o t d
unfolding pick_free
of_other_dart o t polygon d is = ap (λ b. pick_free o t polygon b d) is

-- twins have inverse free values
pub free_twin : {s : OrientedMesh} {split : SplitView} (o : IsOrientedSurface s) (t : IsSplit s split) {polygon : PolygonView}
    → IsCutFrom s split polygon → 0 < polygon.degree
    → (d : ℕ) → d < darts_of s → SameFreely (free_value s split o t polygon (twin_of s d)) (loop_inv (free_value s split o t polygon d))
free_twin {s} {split} o t {polygon} c some d l = elim (cases_Bool (in_cotree split (edge_of s d))) [
  | inl is ↦
      let one_end : label_of polygon (next_of s twin) ≡ label_of polygon d = (labels_ride s split polygon d o t c some l).of_cotree is in
      let other_end : label_of polygon (next_of s d) ≡ label_of polygon twin =
      ap (λ x. label_of polygon (next_of s x)) (sym (r.twin_back d l)) ∙ (labels_ride s split polygon twin o t c some twin_in).of_cotree
      (same_edge ∙ is) in
      let turned : SameFreely (loop_inv (two d)) (quotient loop_mul loop_inv (S (label_of polygon (next_of s d))) (S (label_of polygon d)))
      =
      inverse_of_quotient SameFreely loop_mul loop_inv (one_of s split t) g (S (label_of polygon d)) (S (label_of polygon (next_of s d))) in
      let shape : quotient loop_mul loop_inv (S (label_of polygon (next_of s d))) (S (label_of polygon d)) ≡ two twin =
      ap (λ x. quotient loop_mul loop_inv (S x) (S (label_of polygon d))) other_end
      ∙ ap (λ x. quotient loop_mul loop_inv (S (label_of polygon twin)) (S x)) (sym one_end) in
      let there : SameFreely (loop_inv (two d)) (two twin) = subst (λ x. SameFreely (loop_inv (two d)) x) shape turned in
      subst (λ x. SameFreely x (loop_inv (free_value s split o t polygon d))) (sym (of_cotree_dart o t polygon twin (same_edge ∙ is)))
      (subst (λ x. SameFreely (two twin) (loop_inv x)) (sym (of_cotree_dart o t polygon d is))
      (g.turn (loop_inv (two d)) (two twin) there))
  | inr is ↦
      subst (λ x. SameFreely x (loop_inv (free_value s split o t polygon d))) (sym (of_other_dart o t polygon twin (same_edge ∙ is)))
      (subst (λ x. SameFreely (value s split o t twin) (loop_inv x)) (sym (of_other_dart o t polygon d is))
      (value_of_twin (free_equality s.mesh) split o t d l))
]
  where
    g : IsGroup {X = Loops s split t} SameFreely loop_mul loop_inv (one_of s split t)
    g = free_group s split t

    r : IsRotationSystem (rotations_of s)
    r = rotation_system s o

    S : ℕ → Loops s split t
    S = spoke s split o t polygon

    two : ℕ → Loops s split t
    two x = by_labels loop_mul loop_inv S (label_of polygon) (next_of s) x

    twin : ℕ
    twin = twin_of s d

    twin_in : twin < darts_of s
    twin_in = r.twin_within d l

    same_edge : in_cotree split (edge_of s twin) ≡ in_cotree split (edge_of s d)
    same_edge = ap (in_cotree split) (sym ((r.edges d twin l twin_in).1 (inr refl)))

-- Each dart but the last side has the free value of two spokes, those of the labels at its tail and at its head.
pub free_is_two_spokes : {s : OrientedMesh} {split : SplitView} (o : IsOrientedSurface s) (t : IsSplit s split) {polygon : PolygonView}
    → IsCutFrom s split polygon → 0 < polygon.degree
    → (d : ℕ) → d < darts_of s → d ≢ side_at polygon (polygon.degree - 1)
    → SameFreely (free_value s split o t polygon d) (by_labels loop_mul loop_inv (spoke s split o t polygon) (label_of polygon) (next_of s)
    d)
free_is_two_spokes {s} {split} o t {polygon} c some d l other =
    by_kind (in_tree split edge) (in_cotree split edge) (is_left split edge) (one_of_three split edge) refl refl refl
  where
    g : IsGroup {X = Loops s split t} SameFreely loop_mul loop_inv (one_of s split t)
    g = free_group s split t

    edge : ℕ
    edge = edge_of s d

    S : ℕ → Loops s split t
    S = spoke s split o t polygon

    two : Loops s split t
    two = by_labels loop_mul loop_inv S (label_of polygon) (next_of s) d

    by_kind : (a b e : Bool) → OneOfThree a b e → in_tree split edge ≡ a → in_cotree split edge ≡ b → is_left split edge ≡ e
        → SameFreely (free_value s split o t polygon d) two
    by_kind a b e tree_one p q w =
        let nothing : Loops s split t = one_of s split t in
        let still : Loops s split t = quotient loop_mul loop_inv (S (label_of polygon d)) (S (label_of polygon d)) in
        let stays : label_of polygon (next_of s d) ≡ label_of polygon d = (labels_ride s split polygon d o t c some l).of_tree p in
        let here : SameFreely (value s split o t d) still =
        g.on (value s split o t d) nothing still (value_of_tree (free_equality s.mesh) split o t d l p)
        (g.turn still nothing (g.cancels (S (label_of polygon d)))) in
        subst (λ x. SameFreely x two) (sym (of_other_dart o t polygon d q))
        (subst (λ x. SameFreely (value s split o t d) (quotient loop_mul loop_inv (S (label_of polygon d)) (S x))) (sym stays) here)
    by_kind a b e left_one p q w =
        subst (λ x. SameFreely x two) (sym (of_other_dart o t polygon d q))
        (left_dart (free_equality s.mesh) split o t polygon c some d l w other)
    by_kind a b e cotree_one p q w = subst (λ x. SameFreely x two) (sym (of_cotree_dart o t polygon d q)) (g.itself two)
