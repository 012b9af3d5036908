-- Walks on a torus: with four sides, walks with common ends are homotopic exactly where their quad paths lead the flat form to one
-- point. From one point to moves: a walk is the product of its spokes, and that product depends on the point alone.
use Rattle.quad_system.proofs.Common.{spokes_of, sum_of_pairs, origin, OrientedMesh, IsOrientedSurface, rotations_of, PutLaws, flat_wheel_of_good, quad_path_below, quad_path_in_pairs, quad_path_leads_to_sum, IsGood, LabellingView, quad_path, IsGroup, quotient, IsWay, SameLoop, loop_mul, loop_inv, loop_one, loop_of, from_loops, spoke_product, Loops, spoke, group_of, up, tree_ways, walk_way, other_way, PolygonView, IsCutFrom, place_of, across, labelling_from, ◌≡◌, ◌↔◌, inl, inr, ℕ, suc, ◌<◌, true, List, [], ◌∷◌, length, ap, sym, ◌∙◌, subst, arith, cases_eq, All, slice_index, Homotopic, IsWalk, HaveCommonEnds, SplitView, IsSplit, led, add-cases, add-lt, add, minus}
use Rattle.flat_forms.specs.FlatStates.{IsEvenPoint, IsFlatWheel, flat_next}
use Rattle.flat_forms.specs.Lemmas.FlatLaws.{flat_starts, flat_stays, flat_there_and_back, flat_across}
use Rattle.labellings.proofs.KeepingLemmas.{moves_keep}
use Rattle.labellings.specs.WalkWords.{in_pairs}
use Rattle.quad_system.proofs.PolygonLabelLemmas.{polygon_good}
use Rattle.quad_system.proofs.ReadingLemmas.{HasQuads}
use Rattle.quad_system.proofs.SpokeProductLemmas.{polygon_quads, spoke_at, walk_product}
use Rattle.quad_system.proofs.PlaneGroupLemmas.{along_first, along_second, over_firsts, over_seconds, AreBelow, balance, undo, right_off, grid, Over, over_product, over_same}

-- places that rise by one with the spokes
abbrev Rises : (ℕ → ℕ) → Type 0
Rises place = (i : ℕ) → i < 4 → place (add 4 i 1) ≡ add 4 (place i) 1

-- the side across is two on
across_two : {X : Type 0} (Same : X → X → Type 0) (mul : X → X → X) (inv : X → X) (element : ℕ → X) (place spoke_at partner : ℕ → ℕ)
    → (q : HasQuads Same mul inv element 4 place spoke_at partner) → Rises place → (a : ℕ) → a < 4 → partner a ≡ add 4 (add 4 a 1) 1
unfolding minus
across_two Same mul inv element place spoke_at partner q rises a l =
    let c : ℕ = partner a in
    let c_in : c < 4 = q.wheel.partner_in a l in
    let near : ℕ = add 4 a 1 in
    let near_in : near < 4 = add-lt 4 a 1 l (omega arith) in
    let far : ℕ = add 4 near 1 in
    let far_in : far < 4 = add-lt 4 near 1 near_in (omega arith) in
    let side : place (add 4 c 1) ≡ add 4 (place a) 3 = q.wheel.one_before a l in
    let up_c : place (add 4 c 1) ≡ add 4 (place c) 1 = rises c c_in in
    let up_a : place near ≡ add 4 (place a) 1 = rises a l in
    let up_far : place far ≡ add 4 (place near) 1 = rises near near_in in
    let p_a : place a < 4 = q.wheel.place_in a l in
    let p_c : place c < 4 = q.wheel.place_in c c_in in
    let same : place c ≡ place far = omega (
      arith,
      add-cases 4 (place c) 1,
      add-cases 4 (place a) 1,
      add-cases 4 (place a) 3,
      add-cases 4 (place near) 1,
    ) in
    sym (q.wheel.spoke_of_place c c_in) ∙ ap spoke_at same ∙ q.wheel.spoke_of_place far far_in

-- the quads of four spokes, one by one
pub record Torus {X : Type 0} (Same : X → X → Type 0) (mul : X → X → X) (inv : X → X) (e : ℕ → X) : Type 0 where
  pub first : Same (quotient mul inv (e 0) (e 1)) (quotient mul inv (e 3) (e 2))
  pub second : Same (quotient mul inv (e 1) (e 2)) (quotient mul inv (e 0) (e 3))

pub torus : {X : Type 0} (Same : X → X → Type 0) (mul : X → X → X) (inv : X → X) (element : ℕ → X) (place spoke_at partner : ℕ → ℕ)
    → (q : HasQuads Same mul inv element 4 place spoke_at partner) → Rises place → Torus Same mul inv element
unfolding add
torus Same mul inv element place spoke_at partner q rises =
    let two : partner 0 ≡ 2 = across_two Same mul inv element place spoke_at partner q rises 0 (omega arith) in
    let three : partner 1 ≡ 3 = across_two Same mul inv element place spoke_at partner q rises 1 (omega arith) in
    record {
      first = subst (λ c. Same (quotient mul inv (element 0) (element 1)) (quotient mul inv (element (add 4 c 1)) (element c))) two
          (q.around_middle 0 (omega arith));
      second = subst (λ c. Same (quotient mul inv (element 1) (element 2)) (quotient mul inv (element (add 4 c 1)) (element c))) three
          (q.around_middle 1 (omega arith));
    }

module _ {X : Type 0} (Same : X → X → Type 0) (mul : X → X → X) (inv : X → X) (one : X) (g : IsGroup Same mul inv one) (e : ℕ → X)
    (t : Torus Same mul inv e) where
  abbrev a : X
  a = quotient mul inv (e 0) (e 1)

  abbrev b : X
  b = quotient mul inv (e 1) (e 2)

  a_one : Same (mul a (e 1)) (e 0)
  a_one = undo Same mul inv one g (e 0) (e 1)

  b_two : Same (mul b (e 2)) (e 1)
  b_two = undo Same mul inv one g (e 1) (e 2)

  a_two : Same (mul a (e 2)) (e 3)
  a_two = g.on _ _ _ (g.mul_same _ _ (e 2) (e 2) t.first (g.itself (e 2))) (undo Same mul inv one g (e 3) (e 2))

  b_three : Same (mul b (e 3)) (e 0)
  b_three = g.on _ _ _ (g.mul_same _ _ (e 3) (e 3) t.second (g.itself (e 3))) (undo Same mul inv one g (e 0) (e 3))

  swap : Same (mul a b) (mul b a)
  swap =
      right_off Same mul inv one g (mul a b) (mul b a) (e 2)
      (g.on _ _ _ (g.associates a b (e 2))
      (g.on _ _ _ (g.mul_same a a (mul b (e 2)) (e 1) (g.itself a) b_two)
      (g.on _ _ _ a_one
      (g.turn _ _ (g.on _ _ _ (g.associates b a (e 2)) (g.on _ _ _ (g.mul_same b b (mul a (e 2)) (e 3) (g.itself b) a_two) b_three))))))

  -- from each spoke to spoke 0
  home : (i : ℕ) → i < 4 → Same (mul (grid mul one a b (along_first i) (along_second i)) (e i)) (e 0)
  home i l = elim (cases_eq i 0) [
    | inl is ↦ subst (λ x. Same (mul (grid mul one a b (along_first x) (along_second x)) (e x)) (e 0)) (sym is) (g.one_left (e 0))
    | inr x ↦ elim (cases_eq i 1) [
      | inl is ↦ subst (λ x. Same (mul (grid mul one a b (along_first x) (along_second x)) (e x)) (e 0)) (sym is) at_one
      | inr y ↦ elim (cases_eq i 2) [
        | inl is ↦ subst (λ x. Same (mul (grid mul one a b (along_first x) (along_second x)) (e x)) (e 0)) (sym is) at_two
        | inr z ↦
            let is : i ≡ 3 = omega arith in
            subst (λ x. Same (mul (grid mul one a b (along_first x) (along_second x)) (e x)) (e 0)) (sym is) at_three
      ]
    ]
  ]
    where
      at_one : Same (mul (mul a one) (e 1)) (e 0)
      at_one = g.on _ _ _ (g.mul_same _ _ (e 1) (e 1) (g.one_right a) (g.itself (e 1))) a_one

      at_three : Same (mul (mul b one) (e 3)) (e 0)
      at_three = g.on _ _ _ (g.mul_same _ _ (e 3) (e 3) (g.one_right b) (g.itself (e 3))) b_three

      at_two : Same (mul (mul a (mul b one)) (e 2)) (e 0)
      at_two =
          g.on _ _ _ (g.mul_same _ _ (e 2) (e 2) (g.mul_same a a _ _ (g.itself a) (g.one_right b)) (g.itself (e 2)))
          (g.on _ _ _ (g.associates a b (e 2)) (g.on _ _ _ (g.mul_same a a (mul b (e 2)) (e 1) (g.itself a) b_two) a_one))

  -- a pair of spokes
  pair_over : (i j : ℕ) → i < 4 → j < 4 → Over Same mul inv one g a b swap (quotient mul inv (e i) (e j)) (along_first i)
      (along_second i) (along_first j) (along_second j)
  pair_over i j l k =
      let far : X = grid mul one a b (along_first j) (along_second j) in
      g.on _ _ _ (g.turn _ _ (g.associates (grid mul one a b (along_first i) (along_second i)) (e i) (inv (e j))))
      (g.on _ _ _ (g.mul_same _ _ (inv (e j)) (inv (e j)) (g.on _ _ _ (home i l) (g.turn _ _ (home j k))) (g.itself (inv (e j))))
      (g.on _ _ _ (g.associates far (e j) (inv (e j)))
      (g.on _ _ _ (g.mul_same far far _ _ (g.itself far) (g.cancels (e j))) (g.one_right far))))

  -- and a product of pairs
  pairs_over : (pairs : List (ℕ × ℕ)) → AreBelow 4 pairs
      → Over Same mul inv one g a b swap (spoke_product mul inv one e true (spokes_of pairs)) (over_firsts along_first pairs)
      (over_firsts along_second pairs)
      (over_seconds along_first pairs) (over_seconds along_second pairs)
  pairs_over [] h = g.one_left one
  pairs_over (pair ∷ pairs) h =
      let rest : X = spoke_product mul inv one e true (spokes_of pairs) in
      let product =
      over_product Same mul inv one g a b swap (quotient mul inv (e pair.0) (e pair.1)) rest (along_first pair.0) (along_second pair.0)
      (along_first pair.1) (along_second pair.1)
      (over_firsts along_first pairs) (over_firsts along_second pairs) (over_seconds along_first pairs) (over_seconds along_second pairs)
      (pair_over pair.0 pair.1 h.0 h.1) (pairs_over pairs h.2) in
      g.on _ _ _ (g.mul_same _ _ _ _ (g.itself _) (g.turn _ _ (g.associates (e pair.0) (inv (e pair.1)) rest))) product

  pub same_product : (pairs others : List (ℕ × ℕ)) → AreBelow 4 pairs → AreBelow 4 others → sum_of_pairs pairs ≡ sum_of_pairs others
      → Same (spoke_product mul inv one e true (spokes_of pairs)) (spoke_product mul inv one e true (spokes_of others))
  same_product pairs others h k same =
      let even = balance pairs others h k same in
      over_same Same mul inv one g a b swap (spoke_product mul inv one e true (spokes_of pairs))
      (spoke_product mul inv one e true (spokes_of others))
      (over_firsts along_first pairs) (over_firsts along_second pairs) (over_seconds along_first pairs) (over_seconds along_second pairs)
      (over_firsts along_first others) (over_firsts along_second others) (over_seconds along_first others)
      (over_seconds along_second others)
      (pairs_over pairs h) (pairs_over others k) even.0 even.1

pairs_below : (n : ℕ) (pairs : List (ℕ × ℕ)) → All (λ i. i < n) (spokes_of pairs) → AreBelow n pairs
pairs_below n [] h = tt
pairs_below n (pair ∷ pairs) h =
    (h 0 pair.0 (omega arith), h 1 pair.1 (omega arith), pairs_below n pairs (λ k x l. h (suc (suc k)) x (omega arith)))

-- walks from one vertex that lead to one point are homotopic
one_point : (s : OrientedMesh) (split : SplitView) (polygon : PolygonView) (o : IsOrientedSurface s) (t : IsSplit s split)
    → IsCutFrom s split polygon → polygon.degree ≡ 4
    → (u v : ℕ) (rest others : List ℕ) (way : IsWay s.mesh u v rest) (along : IsWay s.mesh u v others)
    → led flat_next polygon.places origin (quad_path s.mesh (labelling_from s polygon) (u ∷ rest)) ≡ led flat_next polygon.places origin
    (quad_path s.mesh (labelling_from s polygon) (u ∷ others))
    → Homotopic s.mesh (u ∷ rest) (u ∷ others)
one_point s split polygon o t c four u v rest others way along same =
    let some : 0 < polygon.degree = omega arith in
    let labelling : LabellingView = labelling_from s polygon in
    let good : IsGood s.mesh labelling = polygon_good s split polygon o t c some in
    let flat : IsFlatWheel polygon.places = flat_wheel_of_good s.mesh labelling good four in
    let group = group_of s split t in
    let nothing : Loops s split t = loop_one s.mesh t.parents.root t.parents.root_used in
    let element : ℕ → Loops s split t = spoke s split o t polygon in
    let path : List ℕ → List ℕ = λ walk. quad_path s.mesh labelling (u ∷ walk) in
    let p : List (ℕ × ℕ) = in_pairs (path rest) in
    let q : List (ℕ × ℕ) = in_pairs (path others) in
    let below : (walk : List ℕ) → AreBelow 4 (in_pairs (path walk)) =
    λ walk. pairs_below 4 (in_pairs (path walk)) (subst (All (λ i. i < 4)) (sym (quad_path_in_pairs s.mesh labelling (u ∷ walk)))
    (subst (λ n. All (λ i. i < n) (path walk)) flat.four (quad_path_below s.mesh labelling good (u ∷ walk)))) in
    let x : Loops s split t = loop_of s.mesh t.parents.root (up s split t) (tree_ways s split o t) u v rest way in
    let y : Loops s split t = loop_of s.mesh t.parents.root (up s split t) (tree_ways s split o t) u v others along in
    let product : List ℕ → Loops s split t = spoke_product loop_mul loop_inv nothing element true in
    let sums : sum_of_pairs p ≡ sum_of_pairs q =
    sym (quad_path_leads_to_sum s.mesh labelling (u ∷ rest)) ∙ same ∙ quad_path_leads_to_sum s.mesh labelling (u ∷ others) in
    let quads : HasQuads {X = Loops s split t} SameLoop loop_mul loop_inv element 4 (place_of polygon) (spoke_at polygon)
    (across (rotations_of s) polygon) =
    subst (λ n. HasQuads {X = Loops s split t} SameLoop loop_mul loop_inv element n (place_of polygon) (spoke_at polygon)
    (across (rotations_of s) polygon)) four
    (polygon_quads s split o t polygon c some) in
    let four_quads : Torus {X = Loops s split t} SameLoop loop_mul loop_inv element =
    torus SameLoop loop_mul loop_inv element (place_of polygon) (spoke_at polygon) (across (rotations_of s) polygon) quads flat.rises in
    let equal : SameLoop (product (spokes_of p)) (product (spokes_of q)) =
    same_product SameLoop loop_mul loop_inv nothing group element four_quads p q (below rest) (below others) sums in
    let first : SameLoop x (product (spokes_of p)) =
    subst (λ w. SameLoop x (product w)) (sym (quad_path_in_pairs s.mesh labelling (u ∷ rest)))
    (walk_product s split o t polygon c some u v rest way) in
    let second : SameLoop y (product (spokes_of q)) =
    subst (λ w. SameLoop y (product w)) (sym (quad_path_in_pairs s.mesh labelling (u ∷ others)))
    (walk_product s split o t polygon c some u v others along) in
    from_loops s.mesh t.parents.root (up s split t) (tree_ways s split o t) u v rest others way along
    (group.on x (product (spokes_of p)) y first
    (group.on (product (spokes_of p)) (product (spokes_of q)) y equal (group.turn y (product (spokes_of q)) second)))

-- walks with common ends are homotopic exactly where they lead to one point
pub one_sum : (s : OrientedMesh) (split : SplitView) (polygon : PolygonView) (first second : List ℕ) → IsOrientedSurface s
    → IsSplit s split → IsCutFrom s split polygon → polygon.degree ≡ 4
    → IsWalk s.mesh first → IsWalk s.mesh second → HaveCommonEnds first second
    → Homotopic s.mesh first second
    ↔ (led flat_next polygon.places origin (quad_path s.mesh (labelling_from s polygon) first) ≡ led flat_next polygon.places origin
    (quad_path s.mesh (labelling_from s polygon) second))
one_sum s split polygon [] second o t c four w z ends = grind arith
one_sum s split polygon (u ∷ rest) [] o t c four w z ends = grind arith
one_sum s split polygon (u ∷ rest) (v ∷ others) o t c four w z ends = (
  (λ homotopic.
      let good : IsGood s.mesh (labelling_from s polygon) = polygon_good s split polygon o t c (omega arith) in
      let laws : PutLaws polygon.places flat_next (λ _. IsFlatWheel polygon.places) IsEvenPoint = record {
        stays = λ x i b l. flat_stays.belongs polygon.places x i b l;
        vertex = λ x i j b e l m. flat_stays.at_vertex polygon.places x i j b e l m;
        back = λ x i b l. flat_there_and_back polygon.places x i b l;
        quad = λ x a d b e q. flat_across polygon.places x a d b e q;
      } in
      moves_keep s.mesh (labelling_from s polygon) flat_next (λ _. IsFlatWheel polygon.places) IsEvenPoint laws o.faces good
      homotopic.0 (u ∷ rest) (v ∷ others) w homotopic.1 origin
      (flat_wheel_of_good s.mesh (labelling_from s polygon) good four, flat_starts.at_vertex)),
  (λ same.
      subst (λ x. Homotopic s.mesh (u ∷ rest) (x ∷ others)) ends.starts
      (one_point s split polygon o t c four u (slice_index (u ∷ rest) (length rest)) rest others (walk_way s.mesh u rest w)
      (other_way s.mesh u v rest others z ends)
      (same ∙ ap (λ x. led flat_next polygon.places origin (quad_path s.mesh (labelling_from s polygon) (x ∷ others))) (sym ends.starts)))),
)
