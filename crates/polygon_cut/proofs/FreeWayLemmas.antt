-- Walks and what they are worth, up to spurs: a walk off the cotree is what its darts are worth, that is the product of the spokes of its
-- darts, and the way once round the root face is the loop of the last side.
use Rattle.polygon_cut.proofs.Common.{dart_between, darts_of, next_of, origin_of, face_of, edge_of, OrientedMesh, IsOrientedSurface, rotations_of, IsDartFrom, PolygonView, IsCutFrom, side_at, label_of, across, one_up, IsOffCotree, HasFreeSpokes, ◌≡◌, inl, inr, ℕ, suc, ◌+◌, ◌-◌, ◌<◌, Bool, true, false, List, [], ◌∷◌, ◌++◌, length, get_or, refl, ap, sym, ◌∙◌, subst, arith, append_assoc, cases_eq, both_ways, nat_tests, FaceList, face_at, AreFreelyEqual, one_of_three, OneOfThree, tree_one, cotree_one, left_one, SplitView, IsSplit, in_tree, in_cotree, is_left}
use Rattle.polygon_cut.proofs.GroupLemmas.{IsGroup, quotient, inverse_unique}
use Rattle.polygon_cut.proofs.GroupWordLemmas.{Var, Mul, Inv, by_words, by_relation}
use Rattle.polygon_cut.proofs.RelatorLemmas.{spoke_product, loop_in}
use Rattle.polygon_cut.proofs.WayLemmas.{IsWay, back, start_used, way_on, way_home, HasWays, Loop, loop_mul, loop_inv, loop_one, loop_of, back_back}
use Rattle.polygon_cut.proofs.CongruenceLemmas.{before, behind, first_dart, no_dart, there_and_home, to_loops}
use Rattle.polygon_cut.proofs.FreeLoopLemmas.{SameFreely, loops_make_a_free_group, free_equality}
use Rattle.polygon_cut.proofs.LawLemmas.{labels_ride}
use Rattle.polygon_cut.proofs.TreeWayLemmas.{up, tree_ways}
use Rattle.polygon_cut.proofs.FaceRoundLemmas.{vertices_on}
use Rattle.polygon_cut.proofs.ValueLemmas.{round}
use Rattle.polygon_cut.proofs.DartLoopLemmas.{Loops, value, spoke, value_along, one_of}
use Rattle.polygon_cut.proofs.FreeSpokeLemmas.{free_group, free_value, of_other_dart, free_is_two_spokes}
use Rattle.polygon_cut.proofs.FreeRoundLemmas.{dart_from, from_is, step_value, steps_round, others_of, some_sides, others_of_last}
use Rattle.polygon_cut.proofs.FreeMoveLemmas.{walk_value}
use Rattle.polygon_cut.proofs.FreeQuadLemmas.{last_loop, spoke_across}

-- the loop of one way after another is the product
pub loop_on : (mesh : FaceList) (root : ℕ) (up : ℕ → List ℕ) (ways : HasWays mesh root up) (u v w : ℕ) (rest more : List ℕ)
    (h : IsWay mesh u v rest) (k : IsWay mesh v w more)
    (whole : IsWay mesh u w (rest ++ more))
    → SameFreely (loop_of mesh root up ways u w (rest ++ more) whole)
    (loop_mul (loop_of mesh root up ways u v rest h) (loop_of mesh root up ways v w more k))
loop_on mesh root up ways u v w rest more h k whole =
    let v_way : IsWay mesh v root (up v) = ways.way v (start_used mesh v w more k) in
    let u_home : IsWay mesh root u (back u (up u)) = way_home mesh u root (up u) (ways.way u (start_used mesh u v rest h)) in
    let shape : (back u (up u) ++ (rest ++ up v)) ++ (back v (up v) ++ (more ++ up w))
    ≡ back u (up u) ++ (rest ++ ((up v ++ back v (up v)) ++ (more ++ up w))) = simp append_assoc in
    let contract : AreFreelyEqual mesh (v ∷ ((up v ++ back v (up v)) ++ (more ++ up w))) (v ∷ (more ++ up w)) =
    before (free_equality mesh) v (up v ++ back v (up v)) [] (more ++ up w) (there_and_home (free_equality mesh) v root (up v) v_way) in
    let inner : AreFreelyEqual mesh (u ∷ (rest ++ ((up v ++ back v (up v)) ++ (more ++ up w)))) (u ∷ (rest ++ (more ++ up w))) =
    behind (free_equality mesh) u v rest ((up v ++ back v (up v)) ++ (more ++ up w)) (more ++ up w) h contract in
    let outer : AreFreelyEqual mesh (root ∷ (back u (up u) ++ (rest ++ ((up v ++ back v (up v)) ++ (more ++ up w)))))
    (root ∷ (back u (up u) ++ (rest ++ (more ++ up w)))) =
    behind (free_equality mesh) root u (back u (up u)) (rest ++ ((up v ++ back v (up v)) ++ (more ++ up w))) (rest ++ (more ++ up w)) u_home
    inner in
    let a : Loop mesh root = loop_of mesh root up ways u w (rest ++ more) whole in
    let b : Loop mesh root = loop_mul (loop_of mesh root up ways u v rest h) (loop_of mesh root up ways v w more k) in
    let product : SameFreely b a =
    subst (λ (l : List ℕ). AreFreelyEqual mesh (root ∷ l) (root ∷ a.rest)) (sym shape)
    (subst (λ (l : List ℕ). AreFreelyEqual mesh (root ∷ (back u (up u) ++ (rest ++ ((up v ++ back v (up v)) ++ (more ++ up w)))))
    (root ∷ (back u (up u) ++ l))) (sym (append_assoc rest more (up w))) outer) in
    (loops_make_a_free_group mesh root ways.root_used).turn b a product

-- the loop of the way back is the inverse
pub loop_home : (mesh : FaceList) (root : ℕ) (up : ℕ → List ℕ) (ways : HasWays mesh root up) (u v : ℕ) (rest : List ℕ)
    (h : IsWay mesh u v rest) (k : IsWay mesh v u (back u rest))
    → SameFreely (loop_of mesh root up ways v u (back u rest) k) (loop_inv (loop_of mesh root up ways u v rest h))
loop_home mesh root up ways u v rest h k =
    let g = loops_make_a_free_group mesh root ways.root_used in
    let nothing : Loop mesh root = loop_one mesh root ways.root_used in
    let a : Loop mesh root = loop_of mesh root up ways u v rest h in
    let b : Loop mesh root = loop_of mesh root up ways v u (back u rest) k in
    let round_way : IsWay mesh v v (back u rest ++ rest) = way_on mesh v u v (back u rest) rest k h in
    let stay : IsWay mesh v v [] = (refl, start_used mesh v u (back u rest) k) in
    let whole : Loop mesh root = loop_of mesh root up ways v v (back u rest ++ rest) round_way in
    let still : Loop mesh root = loop_of mesh root up ways v v [] stay in
    let contracts : AreFreelyEqual mesh (v ∷ (back u rest ++ rest)) (v ∷ []) =
    subst (λ (l : List ℕ). AreFreelyEqual mesh (v ∷ (back u rest ++ l)) (v ∷ [])) (back_back mesh u v rest h)
    (there_and_home (free_equality mesh) v u (back u rest) k) in
    let product : SameFreely (loop_mul b a) nothing =
    g.on (loop_mul b a) whole nothing (g.turn whole (loop_mul b a) (loop_on mesh root up ways v u v (back u rest) rest k h round_way))
    (g.on whole still nothing (to_loops (free_equality mesh) ways v v (back u rest ++ rest) [] round_way stay contracts)
    (no_dart (free_equality mesh) ways v v stay)) in
    inverse_unique g b a product

-- A loop put in at the end of a way: there, round, back, and on.
pub put_in : (mesh : FaceList) (root : ℕ) (up : ℕ → List ℕ) (ways : HasWays mesh root up) (u v w : ℕ) (there turn more : List ℕ)
    (h : IsWay mesh u v there) (r : IsWay mesh v v turn)
    (k : IsWay mesh u w more) (whole : IsWay mesh u w (there ++ (turn ++ (back u there ++ more))))
    → SameFreely (loop_of mesh root up ways u w (there ++ (turn ++ (back u there ++ more))) whole)
    (loop_in loop_mul loop_inv (loop_of mesh root up ways u v there h) (loop_of mesh root up ways v v turn r)
    (loop_of mesh root up ways u w more k))
put_in mesh root up ways u v w there turn more h r k whole =
    let g = loops_make_a_free_group mesh root ways.root_used in
    let home_way : IsWay mesh v u (back u there) = way_home mesh u v there h in
    let last_way : IsWay mesh v w (back u there ++ more) = way_on mesh v u w (back u there) more home_way k in
    let turn_way : IsWay mesh v w (turn ++ (back u there ++ more)) = way_on mesh v v w turn (back u there ++ more) r last_way in
    let a : Loop mesh root = loop_of mesh root up ways u v there h in
    let l : Loop mesh root = loop_of mesh root up ways v v turn r in
    let x : Loop mesh root = loop_of mesh root up ways u w more k in
    let home : Loop mesh root = loop_of mesh root up ways v u (back u there) home_way in
    let last : Loop mesh root = loop_of mesh root up ways v w (back u there ++ more) last_way in
    let from_turn : Loop mesh root = loop_of mesh root up ways v w (turn ++ (back u there ++ more)) turn_way in
    let all : Loop mesh root = loop_of mesh root up ways u w (there ++ (turn ++ (back u there ++ more))) whole in
    let last_is : SameFreely last (loop_mul (loop_inv a) x) =
    g.on last (loop_mul home x) (loop_mul (loop_inv a) x) (loop_on mesh root up ways v u w (back u there) more home_way k last_way)
    (g.mul_same home (loop_inv a) x x (loop_home mesh root up ways u v there h home_way) (g.itself x)) in
    let turn_is : SameFreely from_turn (loop_mul l (loop_mul (loop_inv a) x)) =
    g.on from_turn (loop_mul l last) (loop_mul l (loop_mul (loop_inv a) x)) (loop_on mesh root up ways v v w turn (back u there ++ more) r
    last_way turn_way)
    (g.mul_same l l last (loop_mul (loop_inv a) x) (g.itself l) last_is) in
    g.on all (loop_mul a from_turn) (loop_in loop_mul loop_inv a l x)
    (loop_on mesh root up ways u v w there (turn ++ (back u there ++ more)) h turn_way whole)
    (g.mul_same a a from_turn (loop_mul l (loop_mul (loop_inv a) x)) (g.itself a) turn_is)

-- a walk behind its first dart is off the cotree where the walk is
off_behind : (s : OrientedMesh) (split : SplitView) (u w : ℕ) (rest : List ℕ) → IsOffCotree s split (u ∷ w ∷ rest)
    → IsOffCotree s split (w ∷ rest)
off_behind s split u w rest h k d l from =
    let up_one : suc (k + 1) ≡ suc k + 1 = omega arith in
    h (suc k) d (omega arith) (subst (λ (n : ℕ). IsDartFrom (rotations_of s) (get_or (u ∷ w ∷ rest) (suc k) 0) (get_or (u ∷ w ∷ rest) n 0)
    d) up_one from)

-- A walk off the cotree is what its darts are worth.
pub off_cotree : {s : OrientedMesh} {split : SplitView} (o : IsOrientedSurface s) (t : IsSplit s split) (polygon : PolygonView) (u v : ℕ)
    (rest : List ℕ) (way : IsWay s.mesh u v rest)
    → IsOffCotree s split (u ∷ rest)
    → SameFreely (loop_of s.mesh t.parents.root (up s split t) (tree_ways s split o t) u v rest way)
    (walk_value s split o t polygon (u ∷ rest))
off_cotree {s} {split} o t polygon u v [] way off = no_dart (free_equality s.mesh) (tree_ways s split o t) u v way
off_cotree {s} {split} o t polygon u v (w ∷ rest) way off =
    let g = free_group s split t in
    let ways : HasWays s.mesh t.parents.root (up s split t) = tree_ways s split o t in
    let found = dart_between s o u w way.0 in
    let d : ℕ = found.0 in
    let is : dart_from s u w ≡ d = from_is s o u w d found.1 in
    let here : in_cotree split (edge_of s d) ≡ false = off 0 d (omega arith) found.1 in
    let one_way : IsWay s.mesh u w (w ∷ []) = (way.0, (refl, start_used s.mesh w v rest way.1)) in
    let x : Loops s split t = loop_of s.mesh t.parents.root (up s split t) ways u w (w ∷ []) one_way in
    let y : Loops s split t = loop_of s.mesh t.parents.root (up s split t) ways w v rest way.1 in
    let whole : Loops s split t = loop_of s.mesh t.parents.root (up s split t) ways u v (w ∷ rest) way in
    let val : Loops s split t = value s split o t d in
    let step : Loops s split t = step_value s split o t polygon u w in
    let step_is : val ≡ step = sym (of_other_dart o t polygon d here) ∙ ap (free_value s split o t polygon) (sym is) in
    let dart : SameFreely x step =
    subst (λ z. SameFreely x z) step_is (g.turn val x (value_along (free_equality s.mesh) split o t u w d found.1 one_way)) in
    g.on whole (loop_mul x y) (walk_value s split o t polygon (u ∷ w ∷ rest))
    (first_dart (free_equality s.mesh) ways u w v rest way one_way way.1)
    (g.mul_same x step y (walk_value s split o t polygon (w ∷ rest)) dart
    (off_cotree o t polygon w v rest way.1 (off_behind s split u w rest off)))

-- the spokes of a walk, from those of its steps
abbrev pub path_along : (ℕ → ℕ → List ℕ) → ℕ → List ℕ → List ℕ
path_along spokes u [] = []
path_along spokes u (w ∷ rest) = spokes u w ++ path_along spokes w rest

-- the last side is no cotree dart
last_off : {s : OrientedMesh} {split : SplitView} {polygon : PolygonView} → IsCutFrom s split polygon → 0 < polygon.degree
    → in_cotree split (edge_of s (side_at polygon (polygon.degree - 1))) ≡ false
last_off {s} {split} {polygon} c some =
    by_kind (in_tree split edge) (in_cotree split edge) (is_left split edge) (one_of_three split edge) refl refl
  where
    edge : ℕ
    edge = edge_of s (side_at polygon (polygon.degree - 1))

    left : is_left split edge ≡ true
    left = ((c.labels some).side_is_left (polygon.degree - 1) (omega arith)).1

    by_kind : (a b e : Bool) → OneOfThree a b e → in_cotree split edge ≡ b → is_left split edge ≡ e → in_cotree split edge ≡ false
    by_kind a b e tree_one q w = q
    by_kind a b e cotree_one q w = absurd (both_ways (is_left split edge) w left)
    by_kind a b e left_one q w = q

-- a dart and what follows, with the spokes of the dart
dart_spokes_value : {s : OrientedMesh} {split : SplitView} (o : IsOrientedSurface s) (t : IsSplit s split) {polygon : PolygonView}
    → IsCutFrom s split polygon → 0 < polygon.degree
    → {d : ℕ} {path : List ℕ} (more : List ℕ) → d < darts_of s → HasFreeSpokes s polygon d path
    → SameFreely (loop_mul (free_value s split o t polygon d)
    (spoke_product loop_mul loop_inv (one_of s split t) (spoke s split o t polygon) true more))
    (spoke_product loop_mul loop_inv (one_of s split t) (spoke s split o t polygon) true (path ++ more))
dart_spokes_value {s} {split} o t {polygon} c some {d} {path} more l h = elim (cases_eq d last) [
  | inl same ↦
      let k : ℕ = across (rotations_of s) polygon z in
      let v : Loops s split t = value s split o t last in
      let suc_k : k + 1 ≡ suc k = omega arith in
      let path_is : path ≡ suc k ∷ k ∷ [] = h.last same ∙ ap (λ x. x ∷ k ∷ []) suc_k in
      let value_is : free_value s split o t polygon d ≡ v = ap (free_value s split o t polygon) same
      ∙ of_other_dart o t polygon last (last_off c some) in
      subst (λ x. SameFreely (loop_mul x rest) (product (path ++ more))) (sym value_is)
      (subst (λ (x : List ℕ). SameFreely (loop_mul v rest) (product (x ++ more))) (sym path_is)
      (by_relation SameFreely loop_mul loop_inv (one_of s split t) g (S (suc k)) (v ∷ S k ∷ rest ∷ []) (Mul (Var 1) (Var 2))
      (Mul (Var 1) (Var 3)) (Mul (Var 0) (Mul (Inv (Var 2)) (Var 3))) (spoke_across o t c z (omega arith)) refl))
  | inr ne ↦
      let a : Loops s split t = S (label_of polygon d) in
      let b : Loops s split t = S (label_of polygon (next_of s d)) in
      let val : Loops s split t = free_value s split o t polygon d in
      let two : SameFreely (loop_mul val rest) (loop_mul (quotient loop_mul loop_inv a b) rest) =
      g.mul_same val (quotient loop_mul loop_inv a b) rest rest (free_is_two_spokes o t c some d l ne) (g.itself rest) in
      elim (h.other ne) [
        | inl both ↦
            subst (λ (x : List ℕ). SameFreely (loop_mul val rest) (product (x ++ more))) (sym both)
            (g.on (loop_mul val rest) (loop_mul (quotient loop_mul loop_inv a b) rest) (loop_mul a (loop_mul (loop_inv b) rest)) two
            (g.associates a (loop_inv b) rest))
        | inr none ↦
            let still : Loops s split t = quotient loop_mul loop_inv a a in
            let two_alike : SameFreely (loop_mul val rest) (loop_mul still rest) =
            subst (λ x. SameFreely (loop_mul val rest) (loop_mul (quotient loop_mul loop_inv a (S x)) rest)) (sym none.1) two in
            subst (λ (x : List ℕ). SameFreely (loop_mul val rest) (product (x ++ more))) (sym none.0)
            (g.on (loop_mul val rest) (loop_mul still rest) rest two_alike
            (by_words SameFreely loop_mul loop_inv (one_of s split t) g (a ∷ rest ∷ []) (Mul (Mul (Var 0) (Inv (Var 0))) (Var 1)) (Var 1)
            refl))
      ]
]
  where
    z : ℕ
    z = polygon.degree - 1

    last : ℕ
    last = side_at polygon z

    g : IsGroup {X = Loops s split t} SameFreely loop_mul loop_inv (one_of s split t)
    g = free_group s split t

    S : ℕ → Loops s split t
    S = spoke s split o t polygon

    product : List ℕ → Loops s split t
    product x = spoke_product loop_mul loop_inv (one_of s split t) S true x

    rest : Loops s split t
    rest = product more

-- What a walk is worth is the product of the spokes of its darts.
pub path_value : (s : OrientedMesh) (split : SplitView) (o : IsOrientedSurface s) (t : IsSplit s split) (polygon : PolygonView)
    → IsCutFrom s split polygon → 0 < polygon.degree
    → (spokes : ℕ → ℕ → List ℕ) → ((x y d : ℕ) → IsDartFrom (rotations_of s) x y d → HasFreeSpokes s polygon d (spokes x y))
    → (u v : ℕ) (rest : List ℕ) → IsWay s.mesh u v rest
    → SameFreely (walk_value s split o t polygon (u ∷ rest))
    (spoke_product loop_mul loop_inv (one_of s split t) (spoke s split o t polygon) true (path_along spokes u rest))
path_value s split o t polygon c some spokes each u v [] way = (free_group s split t).itself (one_of s split t)
path_value s split o t polygon c some spokes each u v (w ∷ rest) way =
    let g = free_group s split t in
    let nothing : Loops s split t = one_of s split t in
    let found = dart_between s o u w way.0 in
    let d : ℕ = found.0 in
    let is : dart_from s u w ≡ d = from_is s o u w d found.1 in
    let step : Loops s split t = step_value s split o t polygon u w in
    let x : Loops s split t = walk_value s split o t polygon (w ∷ rest) in
    let y : Loops s split t = spoke_product loop_mul loop_inv nothing (spoke s split o t polygon) true (path_along spokes w rest) in
    let here : SameFreely (loop_mul step y) (spoke_product loop_mul loop_inv nothing (spoke s split o t polygon) true
    (spokes u w ++ path_along spokes w rest)) =
    subst (λ z. SameFreely (loop_mul (free_value s split o t polygon z) y)
    (spoke_product loop_mul loop_inv nothing (spoke s split o t polygon) true (spokes u w ++ path_along spokes w rest))) (sym is)
    (dart_spokes_value o t c some (path_along spokes w rest) found.1.within (each u w d found.1)) in
    g.on (loop_mul step x) (loop_mul step y) (spoke_product loop_mul loop_inv nothing (spoke s split o t polygon) true
    (spokes u w ++ path_along spokes w rest))
    (g.mul_same step step x y (g.itself step) (path_value s split o t polygon c some spokes each w v rest way.1)) here

-- The way once round the root face from the last side is the loop of the last side.
pub root_round : {s : OrientedMesh} {split : SplitView} (o : IsOrientedSurface s) (t : IsSplit s split) {polygon : PolygonView}
    → IsCutFrom s split polygon → 0 < polygon.degree
    → (d : ℕ) → d ≡ side_at polygon (polygon.degree - 1)
    → SameFreely (walk_value s split o t polygon (origin_of s d ∷ vertices_on s (length (face_at s.mesh (face_of s d))) d))
    (last_loop s split o t polygon)
root_round {s} {split} o t {polygon} c some d is =
    let nothing : Loops s split t = one_of s split t in
    let g = free_group s split t in
    let z : ℕ = polygon.degree - 1 in
    let z_in : z < polygon.degree = omega arith in
    let S : ℕ → Loops s split t = spoke s split o t polygon in
    let v : Loops s split t = value s split o t (side_at polygon z) in
    let side = (c.labels some).side_is_left z z_in in
    let l : d < darts_of s = subst (λ x. x < darts_of s) (sym is) side.0 in
    let left : is_left split (edge_of s d) ≡ true = ap (λ x. is_left split (edge_of s x)) is ∙ side.1 in
    let three = some_sides o d l in
    let count : length (face_at s.mesh (face_of s d)) ≡ suc (others_of s d) = omega arith in
    let tail : label_of polygon d ≡ z = ap (label_of polygon) is ∙ (c.labels some).own_number z z_in in
    let round_up : one_up polygon.degree z ≡ 0 = goes_round polygon.degree some in
    let head : label_of polygon (next_of s d) ≡ 0 = (labels_ride s split polygon d o t c some l).of_left left
    ∙ ap (one_up polygon.degree) tail ∙ round_up in
    let others : Loops s split t = round loop_mul nothing (free_value s split o t polygon) (next_of s) (others_of s d) (next_of s d) in
    let others_are : SameFreely others (quotient loop_mul loop_inv (S 0) (S z)) =
    subst (λ x. SameFreely others (quotient loop_mul loop_inv (S x) (S z))) head
    (subst (λ x. SameFreely others (quotient loop_mul loop_inv (S (label_of polygon (next_of s d))) (S x))) tail
    (others_of_last o t c some d l is)) in
    let value_is : free_value s split o t polygon d ≡ v = ap (free_value s split o t polygon) is
    ∙ of_other_dart o t polygon (side_at polygon z) (last_off c some) in
    let shape : walk_value s split o t polygon (origin_of s d ∷ vertices_on s (length (face_at s.mesh (face_of s d))) d) ≡ loop_mul v others
    =
    ap (λ k. walk_value s split o t polygon (origin_of s d ∷ vertices_on s k d)) count
    ∙ steps_round loop_mul nothing (free_value s split o t polygon) o (suc (others_of s d)) d l ∙ ap (λ x. loop_mul x others) value_is in
    subst (λ x. SameFreely x (last_loop s split o t polygon)) (sym shape)
    (g.mul_same v v others (quotient loop_mul loop_inv (S 0) (S z)) (g.itself v) others_are)
  where
    goes_round : (degree : ℕ) → 0 < degree → one_up degree (degree - 1) ≡ 0
    goes_round degree some = grind (arith, nat_tests)
