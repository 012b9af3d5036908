-- A closed walk that is led off the cotree, with a tail behind it, is the loop of its spokes, up to spurs.
use Rattle.move_lifting.proofs.Common.{walk_front, OrientedMesh, IsCutSurface, IsFreelyPath, last_of, Loops, spoke, root_is, path_list, path_is, off_walk, SameFreely, way_end, product_from, product_on, step_value, free_group, path_along, path_value, IsGroup, spoke_product, walk_way, IsWay, loop_mul, loop_inv, loop_one, PolygonView, AreWaysUp, HaveFreeSpokes, LeavesCotree, by_loop, path_loop, spokes_along, IsOffCotree, ◌≡◌, ℕ, ◌-◌, ◌<◌, true, List, [], ◌∷◌, ◌++◌, length, ap, sym, ◌∙◌, subst, arith, All, slice_index, list_keeps_walk, AreFreelyEqual, Leads, IsWalk, Move, SplitView, end_from as end_of}
use Rattle.polygon_cut.proofs.FreeMoveLemmas.{walk_value, moves_keep_value}

-- what stands behind two elements goes
cancel_behind : {X : Type 0} (Same : X → X → Type 0) (mul : X → X → X) (inv : X → X) (one : X) → IsGroup Same mul inv one → (a b r : X)
    → Same (mul a r) (mul b r) → Same a b
cancel_behind {X = X} Same mul inv one g a b r h =
    g.on a (mul (mul a r) (inv r)) b (g.turn (mul (mul a r) (inv r)) a (home a))
    (g.on (mul (mul a r) (inv r)) (mul (mul b r) (inv r)) b (g.mul_same (mul a r) (mul b r) (inv r) (inv r) h (g.itself (inv r))) (home b))
  where
    home : (x : X) → Same (mul (mul x r) (inv r)) x
    home x =
        g.on (mul (mul x r) (inv r)) (mul x (mul r (inv r))) x (g.associates x r (inv r))
        (g.on (mul x (mul r (inv r))) (mul x one) x (g.mul_same x x (mul r (inv r)) one (g.itself x) (g.cancels r)) (g.one_right x))

last_is : (u : ℕ) (rest : List ℕ) → slice_index (u ∷ rest) (length rest) ≡ last_of (u ∷ rest)
last_is u rest = ap (slice_index (u ∷ rest)) (let e : length rest ≡ length (u ∷ rest) - 1 = omega arith in e)

module _ {s : OrientedMesh} {split : SplitView} {polygon : PolygonView} (is_cut : IsCutSurface s split polygon) where
  open is_cut use {valid as o, tree as t, cut, some}

  pub starts_freely : (spokes : ℕ → ℕ → List ℕ) → HaveFreeSpokes s polygon spokes → (closed walk tail : List ℕ) (moves : List Move)
      → IsWalk s.mesh (closed ++ tail)
      → Leads s.mesh (closed ++ tail) moves (walk ++ tail) → All (LeavesCotree s split) moves → IsOffCotree s split walk → 0 < length closed
      → 0 < length walk → last_of walk ≡ last_of closed → slice_index walk 0 ≡ last_of walk
      → IsFreelyPath s split polygon (spokes_along spokes closed) walk
  starts_freely spokes free [] walk tail moves w leads keeps off closed_some walk_some ends home root ways h = grind arith
  starts_freely spokes free (u ∷ rest) [] tail moves w leads keeps off closed_some walk_some ends home root ways
      h = absurd (omega arith)
  starts_freely spokes free (u ∷ rest) (v ∷ others) tail moves w leads keeps off closed_some walk_some ends home
      root ways h =
      subst (λ x. AreFreelyEqual s.mesh (v ∷ others) (by_loop ways v v (path_loop s polygon x ways true (spokes_along spokes (u ∷ rest)))))
      (root_is s split o t root ways h)
      (subst (λ (l : List ℕ). AreFreelyEqual s.mesh (v ∷ others) (by_loop ways v v l)) loop_is
      (subst (λ x. AreFreelyEqual s.mesh (v ∷ others) (by_loop ways v x product.rest)) end_is
      (off_walk s split o t polygon ways own_ways v (slice_index (v ∷ others) (length others)) others along off product worth)))
    where
      own_ways : AreWaysUp s split t.parents.root ways
      own_ways = subst (λ x. AreWaysUp s split x ways) (sym (root_is s split o t root ways h)) h

      nothing : Loops s split t
      nothing = loop_one s.mesh t.parents.root t.parents.root_used

      g : IsGroup {X = Loops s split t} SameFreely loop_mul loop_inv nothing
      g = free_group s split t

      product : Loops s split t
      product = spoke_product loop_mul loop_inv nothing (spoke s split o t polygon) true (path_along spokes u rest)

      loop_is : product.rest ≡ path_loop s polygon t.parents.root ways true (spokes_along spokes (u ∷ rest))
      loop_is =
          sym (path_list s split o t polygon cut some ways own_ways true (path_along spokes u rest))
          ∙ ap (path_loop s polygon t.parents.root ways true) (sym (path_is spokes u rest))

      way : IsWay s.mesh u (slice_index (u ∷ rest) (length rest)) rest
      way = walk_way s.mesh u rest (walk_front s.mesh (u ∷ rest) tail (omega arith) w)

      along : IsWay s.mesh v (slice_index (v ∷ others) (length others)) others
      along = walk_way s.mesh v others
          (walk_front s.mesh (v ∷ others) tail (omega arith) (list_keeps_walk s.mesh moves (u ∷ rest ++ tail) (v ∷ others ++ tail) w leads))

      end_is : slice_index (v ∷ others) (length others) ≡ v
      end_is = last_is v others ∙ sym home

      one_end : end_of v others ≡ end_of u rest
      one_end =
          way_end s.mesh v (slice_index (v ∷ others) (length others)) others along ∙ last_is v others ∙ ends ∙ sym (last_is u rest)
          ∙ sym (way_end s.mesh u (slice_index (u ∷ rest) (length rest)) rest way)

      behind : ℕ → Loops s split t
      behind x = product_from loop_mul nothing (step_value s split o t polygon) x tail

      a : Loops s split t
      a = walk_value s split o t polygon (v ∷ others)

      b : Loops s split t
      b = walk_value s split o t polygon (u ∷ rest)

      worth : SameFreely (walk_value s split o t polygon (v ∷ others)) product
      worth =
          let r : Loops s split t = behind (end_of u rest) in
          let with_tail : Loops s split t = walk_value s split o t polygon (v ∷ others ++ tail) in
          let first_tail : Loops s split t = walk_value s split o t polygon (u ∷ rest ++ tail) in
          let kept : SameFreely first_tail with_tail =
          moves_keep_value s split o t polygon cut some moves (u ∷ rest ++ tail) (v ∷ others ++ tail) w keeps leads in
          let one : SameFreely with_tail (loop_mul a r) =
          subst (λ x. SameFreely with_tail (loop_mul a (behind x))) one_end
          (product_on SameFreely loop_mul loop_inv nothing g (step_value s split o t polygon) v others tail) in
          let two : SameFreely first_tail (loop_mul b r) = product_on SameFreely loop_mul loop_inv nothing g (step_value s split o t
          polygon)
          u rest tail in
          let same : SameFreely a b =
          cancel_behind SameFreely loop_mul loop_inv nothing g a b r
          (g.on (loop_mul a r) with_tail (loop_mul b r) (g.turn with_tail (loop_mul a r) one)
          (g.on with_tail first_tail (loop_mul b r) (g.turn first_tail with_tail kept) two)) in
          g.on a b product same (path_value s split o t polygon cut some spokes free u (slice_index (u ∷ rest) (length rest)) rest way)
