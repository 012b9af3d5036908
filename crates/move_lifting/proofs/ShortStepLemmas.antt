-- Steps on paths of spokes make them no longer, and the loop of the last side goes in along ways that are short for half of their spokes
-- and one pair more.
use Rattle.move_lifting.proofs.Common.{dart_between, rotation_system, OrientedMesh, IsOrientedSurface, rotations_of, IsCutSurface, spokes_in_front, parity, sides_cross, walk_way, IsWay, PolygonView, place_of, across, AreShortAround, HasFreeSpokes, HaveFreeSpokes, across_last, comes_back, spokes_along, IsQuadWheel, polygon_wheel, spoke_at, AtPlace, at-place, IsTurned, is-turned, quad_turned, after_path_step, from_vertex, PathStep, Turn, ◌≡◌, ◌≢◌, ◌⊎◌, inl, inr, ℕ, suc, ◌+◌, ◌*◌, ◌-◌, ◌<◌, ◌≤◌, Bool, true, false, not, List, [], ◌∷◌, ◌++◌, length, take, get_or, refl, ap, sym, ◌∙◌, subst, arith, length-append, take-append_seam, cases_Bool, eq-eqb, ne_eqb, get_or-append-add, get_or_append_left, All-cons, All, if◌then◌else◌, ◌==◌, IsWalk, darts, after_dart, SplitView, in_cotree, is_left}
use Rattle.polygon_cut.proofs.ShortFrontLemmas.{short_behind, short_behind_one, short_behind_two}
use Rattle.std.proofs.Common.{Some}
use Rattle.move_lifting.proofs.ContractLemmas.{front_below}
use Rattle.move_lifting.proofs.PathLemmas.{ends_at, quad_partner}
use Rattle.move_lifting.proofs.ReductionLemmas.{step_long}

-- no step makes a path longer
pub step_no_longer : (places : List ℕ) (step : PathStep) (path next : List ℕ) → after_path_step places step path ≡ Some next
    → length next ≤ length path
step_no_longer places step path next e = omega (arith, step_long places step path next e)

-- a dart has two spokes or none, so a walk has no more than two for each dart
dart_two : (s : OrientedMesh) (polygon : PolygonView) (d : ℕ) (path : List ℕ) → HasFreeSpokes s polygon d path → length path ≤ 2
dart_two s polygon d path h = grind arith

way_spokes : (s : OrientedMesh) → IsOrientedSurface s → (polygon : PolygonView) (spokes : ℕ → ℕ → List ℕ) → HaveFreeSpokes s polygon spokes
    → (u v : ℕ) (rest : List ℕ) → IsWay s.mesh u v rest → length (spokes_along spokes (u ∷ rest)) ≤ 2 * length rest
way_spokes s o polygon spokes free u v [] h = omega arith
way_spokes s o polygon spokes free u v (w ∷ rest) h =
    let found = dart_between s o u w h.0 in
    omega (
      arith,
      dart_two s polygon found.0 (spokes u w) (free u w found.0 found.1),
      way_spokes s o polygon spokes free w v rest h.1,
      length-append (spokes u w) (spokes_along spokes (w ∷ rest)),
    )

pub walk_spokes : (s : OrientedMesh) → IsOrientedSurface s → (polygon : PolygonView) (spokes : ℕ → ℕ → List ℕ)
    → HaveFreeSpokes s polygon spokes → (walk : List ℕ) → IsWalk s.mesh walk → length (spokes_along spokes walk) ≤ 2 * darts walk
walk_spokes s o polygon spokes free [] w = omega arith
walk_spokes s o polygon spokes free (u ∷ rest) w =
    omega (arith, way_spokes s o polygon spokes free u (get_or (u ∷ rest) (length rest) 0) rest (walk_way s.mesh u rest w))

-- half of the spokes
record HasHalf (path : List ℕ) (left : ℕ) : Type 0 where
  half : ℕ
  is : length path ≡ 2 * half + left

halves : (path : List ℕ) → ((comes_back path ≡ true) × HasHalf path 0) ⊎ ((comes_back path ≡ false) × HasHalf path 1)
halves [] = inl (refl, record { half = 0; is = refl })
halves (i ∷ path) = elim (halves path) [
  | inl even ↦ inr (ap not even.0, record { half = even.1.half; is = omega (arith, even.1.is) })
  | inr odd ↦ inl (ap not odd.0, record { half = suc odd.1.half; is = omega (arith, odd.1.is) })
]

even_half : (path : List ℕ) → comes_back path ≡ true → HasHalf path 0
even_half path is = grind (arith, halves)

odd_half : (path : List ℕ) → comes_back path ≡ false → HasHalf path 1
odd_half path is = grind (arith, halves)

-- parts of a list of numbers that are all below a bound
first_below : (n : ℕ) (xs ys : List ℕ) → All (λ i. i < n) (xs ++ ys) → All (λ i. i < n) xs
first_below n xs ys below k d l =
    subst (λ x. x < n) (get_or_append_left xs ys d k l) (below k d (omega (arith, l, length-append xs ys)))

last_below : (n : ℕ) (xs ys : List ℕ) → All (λ i. i < n) (xs ++ ys) → All (λ i. i < n) ys
last_below n xs ys below k d l =
    subst (λ x. x < n) (get_or-append-add xs ys k d) (below (length xs + k) d (omega (arith, l, length-append xs ys)))

module _ {s : OrientedMesh} {split : SplitView} {polygon : PolygonView} (is_cut : IsCutSurface s split polygon) where
  open is_cut use {valid as o, tree as t, cut, some}

  -- behind an even number of spokes
  even_short : (before after path : List ℕ) (pairs : ℕ) → path ≡ before ++ after → comes_back before ≡ true
      → All (λ i. i < polygon.degree) path → length path ≤ 2 * pairs → AreShortAround s split polygon before path (pairs + 1)
  even_short before after path pairs is even below few =
      let whole : All (λ i. i < polygon.degree) (before ++ after) = subst (λ (l : List ℕ). All (λ i. i < polygon.degree) l) is below in
      let h : HasHalf before 0 = even_half before even in
      let long : length path ≡ length before + length after = ap (λ (l : List ℕ). length l) is ∙ length-append before after in
      subst (λ (l : List ℕ). AreShortAround s split polygon before l (pairs + 1)) (sym is)
      (short_behind s split polygon before after h.half (pairs - h.half) (pairs + 1) o t cut some even
      (first_below polygon.degree before after whole) (last_below polygon.degree before after whole) (omega (arith, h.is))
      (omega (arith, h.is, long, few)) (omega (arith, h.is, long, few)))

  two_short : (before after path : List ℕ) (pairs : ℕ) → path ≡ before ++ after → comes_back before ≡ true
      → All (λ i. i < polygon.degree) path → length path ≤ 2 * pairs
      → AreShortAround s split polygon (before ++ across_last s polygon ∷ (across_last s polygon + 1) ∷ []) path (pairs + 1)
  two_short before after path pairs is even below few =
      let whole : All (λ i. i < polygon.degree) (before ++ after) = subst (λ (l : List ℕ). All (λ i. i < polygon.degree) l) is below in
      let h : HasHalf before 0 = even_half before even in
      let long : length path ≡ length before + length after = ap (λ (l : List ℕ). length l) is ∙ length-append before after in
      let front : List ℕ = before ++ across_last s polygon ∷ (across_last s polygon + 1) ∷ [] in
      subst (λ (l : List ℕ). AreShortAround s split polygon front l (pairs + 1)) (sym is)
      (short_behind_two s split polygon before after h.half (pairs - h.half) (pairs + 1) o t cut some even
      (first_below polygon.degree before after whole) (last_below polygon.degree before after whole) (omega (arith, h.is))
      (omega (arith, h.is, long, few)) (omega (arith, h.is, long, few)))

  -- behind an odd number of spokes, and one more
  odd_short : (before after path : List ℕ) (e pairs : ℕ) → path ≡ before ++ after → comes_back before ≡ false
      → All (λ i. i < polygon.degree) path → All (λ i. i < polygon.degree) (before ++ e ∷ []) → length path ≤ 2 * pairs
      → AreShortAround s split polygon (before ++ e ∷ []) path (pairs + 1)
  odd_short before after path e pairs is odd below front few =
      let whole : All (λ i. i < polygon.degree) (before ++ after) = subst (λ (l : List ℕ). All (λ i. i < polygon.degree) l) is below in
      let h : HasHalf before 1 = odd_half before odd in
      let long : length path ≡ length before + length after = ap (λ (l : List ℕ). length l) is ∙ length-append before after in
      let e_in : e < polygon.degree = last_below polygon.degree before (e ∷ []) front 0 0 (omega arith) in
      subst (λ (l : List ℕ). AreShortAround s split polygon (before ++ e ∷ []) l (pairs + 1)) (sym is)
      (short_behind_one s split polygon before e after (h.half + 1) (pairs - h.half) (pairs + 1) o t cut some odd front
      (All-cons (λ i. i < polygon.degree) e after e_in (last_below polygon.degree before after whole)) (omega (arith, h.is))
      (omega (arith, h.is, long, few)) (omega (arith, h.is, long, few)))

  -- A turn across the quad of the last side puts the loop in along short ways.
  pub front_short : (rises : Bool) (at a c : ℕ) (path next : List ℕ) (pairs : ℕ)
      → after_path_step polygon.places (Turn at a c rises) path ≡ Some next → All (λ i. i < polygon.degree) path
      → (a ≡ polygon.degree - 1) ⊎ (c ≡ polygon.degree - 1) → length path ≤ 2 * pairs
      → AreShortAround s split polygon (spokes_in_front (polygon.degree - 1) path at a c) path (pairs + 1)
  front_short rises at a c path next pairs e below which few = by which (cases_Bool flag)
    where
      z : ℕ
      z = polygon.degree - 1

      k : ℕ
      k = across_last s polygon

      flag : Bool
      flag = from_vertex at

      r : AtPlace (quad_turned polygon.places a c rises) at path next
      r = at-place (quad_turned polygon.places a c rises) at path next e

      turned : IsTurned polygon.places a c rises flag r.part r.instead
      turned = is-turned polygon.places a c rises flag r.part r.instead r.does

      q : IsQuadWheel polygon.degree (place_of polygon) (spoke_at polygon) (across (rotations_of s) polygon)
      q = polygon_wheel s split o t polygon cut some

      a_in : a < polygon.degree
      a_in = subst (λ n. a < n) (cut.places some).each_spoke turned.quad.a_below

      is : c ≡ across (rotations_of s) polygon a
      is = quad_partner is_cut turned.quad

      back : flag ≡ comes_back r.before
      back = sym (ap from_vertex r.long) ∙ sym (ends_at r.before) ∙ parity r.before

      apart : k ≢ z
      apart =
          (sides_cross (rotations_of s) (after_dart (rotations_of s) (λ i. not (in_cotree split i))) (is_left split) polygon
          (rotation_system s o) (cut.labels some)).other z (omega arith)

      front_is : take at path ≡ r.before
      front_is = ap (take at) r.path_is ∙ ap (λ n. take n (r.before ++ r.part)) (sym r.long) ∙ take-append_seam r.before r.part

      own : List ℕ
      own = spokes_in_front z path at a c

      spokes_are : (extra : List ℕ)
          → (if a == z then (if flag then [] else (c + 1) ∷ []) else (if flag then a ∷ (a + 1) ∷ [] else z ∷ [])) ≡ extra
          → own ≡ r.before ++ extra
      spokes_are extra h =
          ap (λ (l : List ℕ). l ++ (if a == z then (if flag then [] else (c + 1) ∷ []) else (if flag then a ∷ (a + 1) ∷ [] else z ∷ [])))
          front_is
          ∙ ap (λ (l : List ℕ). r.before ++ l) h

      own_below : All (λ i. i < polygon.degree) own
      own_below = front_below is_cut at a c path below turned.quad

      moved : (front : List ℕ) → own ≡ front → AreShortAround s split polygon front path (pairs + 1)
          → AreShortAround s split polygon own path (pairs + 1)
      moved front same h = subst (λ (l : List ℕ). AreShortAround s split polygon l path (pairs + 1)) (sym same) h

      append_nothing : (xs : List ℕ) → xs ++ [] ≡ xs
      append_nothing [] = refl
      append_nothing (x ∷ xs) = ap (λ (l : List ℕ). x ∷ l) (append_nothing xs)

      one_more : (x : ℕ) → own ≡ r.before ++ x ∷ [] → flag ≡ false → AreShortAround s split polygon own path (pairs + 1)
      one_more x same odd =
          moved (r.before ++ x ∷ []) same
          (odd_short r.before r.part path x pairs r.path_is (sym back ∙ odd) below
          (subst (λ (l : List ℕ). All (λ i. i < polygon.degree) l) same own_below) few)

      by : (a ≡ z) ⊎ (c ≡ z) → (flag ≡ true) ⊎ (flag ≡ false) → AreShortAround s split polygon own path (pairs + 1)
      by (inl last) (inl even) =
          moved r.before (spokes_are [] (rw (eq-eqb a z last, even) refl) ∙ append_nothing r.before)
          (even_short r.before r.part path pairs r.path_is (sym back ∙ even) below few)
      by (inl last) (inr odd) = one_more (c + 1) (spokes_are ((c + 1) ∷ []) (rw (eq-eqb a z last, odd) refl)) odd
      by (inr other) (inl even) =
          let opposite : a ≡ k = sym (ap (across (rotations_of s) polygon) is ∙ q.partner_back a a_in)
          ∙ ap (across (rotations_of s) polygon) other in
          let not_last : a ≢ z = λ last. apart (sym opposite ∙ last) in
          moved (r.before ++ k ∷ (k + 1) ∷ [])
          (spokes_are (k ∷ (k + 1) ∷ []) (rw (ne_eqb a z not_last, even) (ap (λ n. n ∷ (n + 1) ∷ []) opposite)))
          (two_short r.before r.part path pairs r.path_is (sym back ∙ even) below few)
      by (inr other) (inr odd) =
          let opposite : a ≡ k = sym (ap (across (rotations_of s) polygon) is ∙ q.partner_back a a_in)
          ∙ ap (across (rotations_of s) polygon) other in
          let not_last : a ≢ z = λ last. apart (sym opposite ∙ last) in
          one_more z (spokes_are (z ∷ []) (rw (ne_eqb a z not_last, odd) refl)) odd
