-- The spokes of a polygon make quads in the group of loops, and a walk is the product of the spokes of its quad path.
use Rattle.quad_system.proofs.Common.{origin_under, target_under, dart_between, edge-twin, HasSide, side_with_number, rotation_system, origin-twin, darts_of, next_of, twin_of, origin_of, target_of, edge_of, OrientedMesh, IsOrientedSurface, rotations_of, IsDartFrom, SpokesOfSide, spokes_of_side, LabellingView, signs_of, tail_label, head_label, spokes, spokes_by_labels, quad_path, value_along, IsGroup, quotient, inverse_of_quotient, inverse_twice, labels_ride, IsWay, SameLoop, loop_mul, loop_inv, loop_one, loop_of, no_dart, first_dart, start_used, homotopy, Crosses, sides_cross, is_own_side, spoke_product, Loops, value, value_twin, spoke, group_of, dart_is_two_spokes, up, tree_ways, PolygonView, IsCutFrom, side_at, label_of, place_of, across, one_up, labelling_from, KeepsSteps, ◌≡◌, ◌⊎◌, inl, inr, ℕ, ◌<◌, true, false, not, ◌&&◌, eqb, cond, List, [], ◌∷◌, ◌++◌, refl, ap, sym, ◌∙◌, subst, arith, cases_Bool, both_ways, eqb-true, eq-eqb, and_parts, tail_of, head_of, start_under, end_under, is_flipped, Side, after_dart, SplitView, IsSplit, in_cotree, is_left, add-lt, add, minus}
use Rattle.spoke_paths.proofs.QuadWheels.{placed}
use Rattle.std.specs.Prelude.{length}
use Rattle.tree_cotree.proofs.ClassLemmas.{found_below, passes_below}
use Rattle.tree_cotree.specs.RingCounts.{any_below}
use Rattle.quad_system.proofs.PolygonLabelLemmas.{polygon_good, up_is_add, down_is_add, degree_is, LabelsOfSide, labels_of_side, flips_are}
use Rattle.quad_system.proofs.ReadingLemmas.{HasQuads, products_keep}

-- the number below a bound with a value, where there is one
pub pick : (n : ℕ) (f : ℕ → ℕ) (x : ℕ) → (any_below (λ i. eqb (f i) x) n ≡ true) ⊎ (any_below (λ i. eqb (f i) x) n ≡ false) → ℕ
pick n f x (inl h) = (found_below (λ i. eqb (f i) x) n h).0
pick n f x (inr _) = 0

pub undone : ℕ → (ℕ → ℕ) → ℕ → ℕ
undone n f x = pick n f x (cases_Bool (any_below (λ i. eqb (f i) x) n))

undone_is : (n : ℕ) (f : ℕ → ℕ) (x : ℕ) → any_below (λ i. eqb (f i) x) n ≡ true → (undone n f x < n) × (f (undone n f x) ≡ x)
unfolding undone pick
undone_is n f x there = go (cases_Bool (any_below (λ i. eqb (f i) x) n))
  where
    go : (c : (any_below (λ i. eqb (f i) x) n ≡ true) ⊎ (any_below (λ i. eqb (f i) x) n ≡ false))
        → (pick n f x c < n) × (f (pick n f x c) ≡ x)
    go (inl h) = let is = found_below (λ i. eqb (f i) x) n h in (is.1, eqb-true (f is.0) x is.2)
    go (inr off) = absurd (both_ways (any_below (λ i. eqb (f i) x) n) off there)

-- the spoke with a place
abbrev pub spoke_at : PolygonView → ℕ → ℕ
spoke_at polygon = undone polygon.degree (place_of polygon)

-- the spokes of a polygon make quads
pub polygon_quads : (s : OrientedMesh) (split : SplitView) (o : IsOrientedSurface s) (t : IsSplit s split) (polygon : PolygonView)
    (c : IsCutFrom s split polygon) → 0 < polygon.degree
    → HasQuads {X = Loops s split t} SameLoop loop_mul loop_inv (spoke s split o t polygon) polygon.degree (place_of polygon)
    (spoke_at polygon) (across (rotations_of s) polygon)
polygon_quads s split o t polygon c some = record {
  wheel = record {
    large = large;
    place_in = place_in;
    spoke_in = λ x l. (spoke_is x l).0;
    place_of_spoke = λ x l. (spoke_is x l).1;
    spoke_of_place = λ i l.
        let is = spoke_is (place_of polygon i) (place_in i l) in
        (c.places some).apart (spoke_at polygon (place_of polygon i)) i is.0 l is.1;
    partner_in = cross.below;
    partner_back = cross.back;
    one_before = falls;
  };
  around_middle = middle_quad;
}
  where
    S : ℕ → Loops s split t
    S = spoke s split o t polygon

    large : 1 < polygon.degree
    large = elim (degree_is s split polygon c some) [ inl four ↦ omega arith | inr more ↦ omega arith ]

    place_in : (i : ℕ) → i < polygon.degree → place_of polygon i < polygon.degree
    place_in = (c.places some).below

    cross : Crosses polygon.degree (across (rotations_of s) polygon)
    cross = sides_cross (rotations_of s) (after_dart (rotations_of s) (λ e. not (in_cotree split e))) (is_left split) polygon
        (rotation_system s o) (c.labels some)

    partner : ℕ → ℕ
    partner = across (rotations_of s) polygon

    falls : (a : ℕ) → a < polygon.degree
        → place_of polygon (add polygon.degree (partner a) 1) ≡ add polygon.degree (place_of polygon a) (minus polygon.degree 1)
    falls a l =
        ap (place_of polygon) (up_is_add polygon.degree (partner a) (cross.below a l))
        ∙ (c.places some).falls a l ∙ sym (down_is_add polygon.degree (place_of polygon a) (place_in a l) large)

    spoke_is : (x : ℕ) → x < polygon.degree → (spoke_at polygon x < polygon.degree) × (place_of polygon (spoke_at polygon x) ≡ x)
    spoke_is x l =
        let p = placed polygon.degree (place_of polygon) large place_in
        (λ a k. (add polygon.degree (partner a) 1, (add-lt polygon.degree (partner a) 1 (cross.below a k) large, falls a k))) x l in
        undone_is polygon.degree (place_of polygon) x
        (passes_below (λ i. eqb (place_of polygon i) x) polygon.degree p.0 p.1.0 (eq-eqb (place_of polygon p.0) x p.1.1))

    -- a side of the polygon has the value of its own spoke and the next
    side_value : (a : ℕ) → a < polygon.degree → SameLoop (value s split o t (side_at polygon a))
        (quotient loop_mul loop_inv (S a) (S (add polygon.degree a 1)))
    side_value a l =
        let d : ℕ = side_at polygon a in
        let is_side = (c.labels some).side_is_left a l in
        let tail : label_of polygon d ≡ a = (c.labels some).own_number a l in
        let head : label_of polygon (next_of s d) ≡ add polygon.degree a 1 =
        (labels_ride s split polygon d o t c some is_side.0).of_left is_side.1 ∙ ap (one_up polygon.degree) tail
        ∙ sym (up_is_add polygon.degree a l) in
        subst (λ x. SameLoop (value s split o t d) (quotient loop_mul loop_inv (S x) (S (add polygon.degree a 1)))) tail
        (subst (λ y. SameLoop (value s split o t d) (quotient loop_mul loop_inv (S (label_of polygon d)) (S y))) head
        (dart_is_two_spokes s split o t polygon c some d is_side.0))

    middle_quad : (a : ℕ) → a < polygon.degree → SameLoop (quotient loop_mul loop_inv (S a) (S (add polygon.degree a 1)))
        (quotient loop_mul loop_inv (S (add polygon.degree (across (rotations_of s) polygon a) 1)) (S (across (rotations_of s) polygon a)))
    middle_quad a l =
        let g = group_of s split t in
        let b : ℕ = across (rotations_of s) polygon a in
        let b_in : b < polygon.degree = cross.below a l in
        let d : ℕ = side_at polygon a in
        let is_side = (c.labels some).side_is_left a l in
        let twin_in : twin_of s d < darts_of s = (rotation_system s o).twin_within d is_side.0 in
        let twin_left : is_left split (edge_of s (twin_of s d)) ≡ true = ap (is_left split) (edge-twin s o d is_side.0) ∙ is_side.1 in
        let twin_side : side_at polygon b ≡ twin_of s d =
        is_own_side (rotations_of s) (after_dart (rotations_of s) (λ e. not (in_cotree split e))) (is_left split) polygon
        (c.labels some) (twin_of s d) twin_in twin_left in
        let v : Loops s split t = value s split o t d in
        let w : Loops s split t = value s split o t (twin_of s d) in
        let p : Loops s split t = quotient loop_mul loop_inv (S a) (S (add polygon.degree a 1)) in
        let q : Loops s split t = quotient loop_mul loop_inv (S b) (S (add polygon.degree b 1)) in
        let r : Loops s split t = quotient loop_mul loop_inv (S (add polygon.degree b 1)) (S b) in
        let at_twin : SameLoop w q = subst (λ x. SameLoop (value s split o t x) q) twin_side (side_value b b_in) in
        let opposite : SameLoop w (loop_inv v) = value_twin s split o t d is_side.0 in
        let twice : SameLoop (loop_inv (loop_inv v)) v = inverse_twice SameLoop loop_mul loop_inv
        (loop_one s.mesh t.parents.root t.parents.root_used) g v in
        let turned : SameLoop (loop_inv q) r = inverse_of_quotient SameLoop loop_mul loop_inv
        (loop_one s.mesh t.parents.root t.parents.root_used) g (S b) (S (add polygon.degree b 1)) in
        let v_is : SameLoop v (loop_inv q) =
        g.on v (loop_inv (loop_inv v)) (loop_inv q) (g.turn (loop_inv (loop_inv v)) v twice)
        (g.inv_same (loop_inv v) q (g.on (loop_inv v) w q (g.turn w (loop_inv v) opposite) at_twin)) in
        g.on p v r (g.turn v p (side_value a l)) (g.on v (loop_inv q) r v_is turned)

-- the same by the number of places
pub places_quads : (s : OrientedMesh) (split : SplitView) (o : IsOrientedSurface s) (t : IsSplit s split) (polygon : PolygonView)
    (c : IsCutFrom s split polygon) → 0 < polygon.degree
    → HasQuads {X = Loops s split t} SameLoop loop_mul loop_inv (spoke s split o t polygon) (length polygon.places) (place_of polygon)
    (spoke_at polygon) (across (rotations_of s) polygon)
places_quads s split o t polygon c some =
    subst (λ n. HasQuads {X = Loops s split t} SameLoop loop_mul loop_inv (spoke s split o t polygon) n (place_of polygon)
    (spoke_at polygon) (across (rotations_of s) polygon)) (sym (c.places some).each_spoke) (polygon_quads s split o t polygon c some)

-- the product of a list of spokes is kept by spurs and quads
pub loops_keep : (s : OrientedMesh) (split : SplitView) (o : IsOrientedSurface s) (t : IsSplit s split) (polygon : PolygonView)
    (c : IsCutFrom s split polygon) → 0 < polygon.degree
    → KeepsSteps polygon.places (λ v first second.
    SameLoop (spoke_product loop_mul loop_inv (loop_one s.mesh t.parents.root t.parents.root_used) (spoke s split o t polygon) v first)
    (spoke_product loop_mul loop_inv (loop_one s.mesh t.parents.root t.parents.root_used) (spoke s split o t polygon) v second))
loops_keep s split o t polygon c some =
    products_keep SameLoop loop_mul loop_inv (loop_one s.mesh t.parents.root t.parents.root_used) (group_of s split t)
    (spoke s split o t polygon) polygon.places (spoke_at polygon) (across (rotations_of s) polygon)
    (places_quads s split o t polygon c some)

-- two spokes by the labels of an edge are what the two labels are, and nothing where they are one
pub labels_product : {X : Type 0} (Same : X → X → Type 0) (mul : X → X → X) (inv : X → X) (one : X) → IsGroup Same mul inv one
    → (element : ℕ → X) (a b c d : ℕ) (more : List ℕ)
    → Same (spoke_product mul inv one element true (spokes_by_labels a b c d ++ more))
    (mul (quotient mul inv (element a) (element b)) (spoke_product mul inv one element true more))
labels_product Same mul inv one g element a b c d more = elim (cases_Bool (eqb a b && eqb c d)) [
  | inl tree ↦
      let same : a ≡ b = eqb-true a b (and_parts (eqb a b) (eqb c d) tree).0 in
      let rest = spoke_product mul inv one element true more in
      let nothing : Same (mul (quotient mul inv (element a) (element a)) rest) rest =
      g.on (mul (quotient mul inv (element a) (element a)) rest) (mul one rest) rest
      (g.mul_same (quotient mul inv (element a) (element a)) one rest rest (g.cancels (element a)) (g.itself rest)) (g.one_left rest) in
      rw tree (subst (λ x. Same rest (mul (quotient mul inv (element a) (element x)) rest)) same
      (g.turn (mul (quotient mul inv (element a) (element a)) rest) rest nothing))
  | inr other ↦
      let rest = spoke_product mul inv one element true more in
      rw other (g.turn (mul (mul (element a) (inv (element b))) rest) (mul (element a) (mul (inv (element b)) rest))
      (g.associates (element a) (inv (element b)) rest))
]

-- the side of a dart, and the spokes of that dart
pub record DartSpokes (s : OrientedMesh) (polygon : PolygonView) (d : ℕ) : Type 0 where
  pub c : ℕ
  pub e : ℕ
  pub are : spokes s.mesh (labelling_from s polygon) (origin_of s d) (origin_of s (twin_of s d)) ≡ spokes_by_labels (label_of polygon d)
      (label_of polygon (next_of s d)) c e

pub dart_spokes : (s : OrientedMesh) (split : SplitView) (polygon : PolygonView) → IsOrientedSurface s → IsSplit s split
    → IsCutFrom s split polygon → 0 < polygon.degree
    → (d : ℕ) → d < darts_of s → DartSpokes s polygon d
dart_spokes s split polygon o t cut some d l =
    let found : HasSide s.mesh d = side_with_number s.mesh d l in
    let side : Side = found.side in
    let labelling : LabellingView = labelling_from s polygon in
    let p : SpokesOfSide s.mesh labelling side = spokes_of_side s.mesh labelling side o.faces
    (polygon_good s split polygon o t cut some) found.in_mesh in
    let flip : is_flipped (signs_of labelling) side.face.0 ≡ is_flipped s.signs side.face.0 =
    flips_are s polygon side.face.0 found.in_mesh.face in
    let start : start_under s.mesh (signs_of labelling) side ≡ origin_of s d =
    ap (λ b. cond b (head_of s.mesh side) (tail_of s.mesh side)) flip ∙ sym (origin_under s side found.in_mesh)
    ∙ ap (origin_of s) found.number in
    let end : end_under s.mesh (signs_of labelling) side ≡ origin_of s (twin_of s d) =
    ap (λ b. cond b (tail_of s.mesh side) (head_of s.mesh side)) flip ∙ sym (target_under s side found.in_mesh)
    ∙ ap (target_of s) found.number
    ∙ sym (origin-twin s o d l) in
    let labels : LabelsOfSide s polygon side = labels_of_side s polygon side found.in_mesh in
    let tail : tail_label s.mesh labelling side ≡ label_of polygon d = labels.tail ∙ ap (label_of polygon) found.number in
    let head : head_label s.mesh labelling side ≡ label_of polygon (next_of s d) =
    labels.head ∙ ap (λ x. label_of polygon (next_of s x)) found.number in
    record {
      c = tail_label s.mesh labelling p.partner.partner;
      e = head_label s.mesh labelling p.partner.partner;
      are = grind (arith, spokes);
    }

module _ (s : OrientedMesh) (split : SplitView) (o : IsOrientedSurface s) (t : IsSplit s split) (polygon : PolygonView)
    (cut : IsCutFrom s split polygon) (some : 0 < polygon.degree) where
  abbrev group : IsGroup {X = Loops s split t} SameLoop loop_mul loop_inv (loop_one s.mesh t.parents.root t.parents.root_used)
  group = group_of s split t

  abbrev product : List ℕ → Loops s split t
  product path =
      spoke_product loop_mul loop_inv (loop_one s.mesh t.parents.root t.parents.root_used) (spoke s split o t polygon) true path

  -- the loop of a dart is the product of the spokes of the labels at its tail and at its head
  dart_loop : (u w d : ℕ) → IsDartFrom (rotations_of s) u w d → (way : IsWay s.mesh u w (w ∷ []))
      → SameLoop (loop_of s.mesh t.parents.root (up s split t) (tree_ways s split o t) u w (w ∷ []) way)
      (quotient loop_mul loop_inv (spoke s split o t polygon (label_of polygon d))
      (spoke s split o t polygon (label_of polygon (next_of s d))))
  dart_loop u w d from way =
      let here : Loops s split t = loop_of s.mesh t.parents.root (up s split t) (tree_ways s split o t) u w (w ∷ []) way in
      let two : Loops s split t = quotient loop_mul loop_inv (spoke s split o t polygon (label_of polygon d))
      (spoke s split o t polygon (label_of polygon (next_of s d))) in
      let val : Loops s split t = value s split o t d in
      group.on here val two (group.turn val here (value_along (homotopy s.mesh) split o t u w d from way))
      (dart_is_two_spokes s split o t polygon cut some d from.within)

  -- a walk is the product of its quad path
  pub walk_product : (u v : ℕ) (rest : List ℕ) (way : IsWay s.mesh u v rest)
      → SameLoop (loop_of s.mesh t.parents.root (up s split t) (tree_ways s split o t) u v rest way)
      (product (quad_path s.mesh (labelling_from s polygon) (u ∷ rest)))
  walk_product u v [] way = no_dart s.mesh t.parents.root (up s split t) (tree_ways s split o t) u v way
  walk_product u v (w ∷ rest) way =
      let found = dart_between s o u w way.0 in
      let d : ℕ = found.0 in
      let first_way : IsWay s.mesh u w (w ∷ []) = (way.0, (refl, start_used s.mesh w v rest way.1)) in
      let labels : DartSpokes s polygon d = dart_spokes s split polygon o t cut some d found.1.within in
      let x : ℕ = label_of polygon d in
      let y : ℕ = label_of polygon (next_of s d) in
      let more : List ℕ = quad_path s.mesh (labelling_from s polygon) (w ∷ rest) in
      let path : quad_path s.mesh (labelling_from s polygon) (u ∷ w ∷ rest) ≡ spokes_by_labels x y labels.c labels.e ++ more =
      ap (λ z. spokes s.mesh (labelling_from s polygon) z w ++ more) (sym found.1.starts)
      ∙ ap (λ z. spokes s.mesh (labelling_from s polygon) (origin_of s d) z ++ more) (sym found.1.ends)
      ∙ ap (λ (q : List ℕ). q ++ more) labels.are in
      let first : Loops s split t = loop_of s.mesh t.parents.root (up s split t) (tree_ways s split o t) u w (w ∷ []) first_way in
      let later : Loops s split t = loop_of s.mesh t.parents.root (up s split t) (tree_ways s split o t) w v rest way.1 in
      let whole : Loops s split t = loop_of s.mesh t.parents.root (up s split t) (tree_ways s split o t) u v (w ∷ rest) way in
      let two : Loops s split t = quotient loop_mul loop_inv (spoke s split o t polygon x) (spoke s split o t polygon y) in
      let others : Loops s split t = product more in
      let long : Loops s split t = product (spokes_by_labels x y labels.c labels.e ++ more) in
      let last : SameLoop long (loop_mul two others) =
      labels_product SameLoop loop_mul loop_inv (loop_one s.mesh t.parents.root t.parents.root_used) group (spoke s split o t polygon) x y
      labels.c labels.e more in
      subst (λ (q : List ℕ). SameLoop whole (product q)) (sym path)
      (group.on whole (loop_mul first later) long
      (first_dart s.mesh t.parents.root (up s split t) (tree_ways s split o t) u w v rest way first_way way.1)
      (group.on (loop_mul first later) (loop_mul two others) long
      (group.mul_same first two later others (dart_loop u w d found.1 first_way) (walk_product w v rest way.1))
      (group.turn long (loop_mul two others) last)))
