-- A closed walk is freely homotopic to its loop at the root of the tree, and so to the product of the spokes of its quad path.
use Rattle.free_loops.proofs.Common.{on, end_of, end_is, parts_turn, freely, FreelyHomotopic, spokes_of, OrientedMesh, IsOrientedSurface, quad_path_in_pairs, LabellingView, quad_path, in_pairs, behind, there_and_home, back, homotopy, IsWay, way_walk, way_on, way_home, Loop, HasWays, SameLoop, loop_mul, loop_of, start_used, Loops, up, tree_ways, PolygonView, IsCutFrom, loop_of_path, walk_product, labelling_from, ◌≡◌, ℕ, ◌%◌, ◌<◌, List, [], ◌∷◌, ◌++◌, length, get_or, refl, ap, sym, ◌∙◌, subst, arith, append_assoc, append-nil, FaceList, Homotopic, SplitView, IsSplit}
use Rattle.surf_model.specs.Walks.{HaveCommonEnds, darts}
use Rattle.free_loops.proofs.LoopStepLemmas.{IsConjugacy}

pub way_ends : (mesh : FaceList) (u v : ℕ) (rest : List ℕ) → IsWay mesh u v rest → end_of u rest ≡ v
way_ends mesh u v [] h = h.0
way_ends mesh u v (w ∷ rest) h = way_ends mesh w v rest h.1

-- closed ways from one vertex are walks with common ends
pub common_ends : (mesh : FaceList) (u : ℕ) (rest others : List ℕ) → IsWay mesh u u rest → IsWay mesh u u others
    → HaveCommonEnds (u ∷ rest) (u ∷ others)
common_ends mesh u rest others h k = record { starts = refl; ends = last rest h ∙ sym (last others k) }
  where
    last : (way : List ℕ) → IsWay mesh u u way → get_or (u ∷ way) (darts (u ∷ way)) 0 ≡ u
    last way w =
        let as_many : darts (u ∷ way) ≡ length way = omega arith in
        ap (λ k. get_or (u ∷ way) k 0) as_many ∙ end_is u way ∙ way_ends mesh u u way w

-- a quad path has two spokes for each dart that has some
even_pairs : (pairs : List (ℕ × ℕ)) → length (spokes_of pairs) % 2 ≡ 0
even_pairs [] = refl
even_pairs (pair ∷ pairs) = let rest = even_pairs pairs in omega arith

pub even_path : (mesh : FaceList) (labelling : LabellingView) (walk : List ℕ) → length (quad_path mesh labelling walk) % 2 ≡ 0
even_path mesh labelling walk =
    ap (λ (l : List ℕ). length l % 2) (sym (quad_path_in_pairs mesh labelling walk))
    ∙ even_pairs (in_pairs (quad_path mesh labelling walk))

-- loops at a root, up to free homotopy
abbrev pub SameFreeLoop : {mesh : FaceList} {root : ℕ} → Loop mesh root → Loop mesh root → Type 0
SameFreeLoop {mesh} {root} a b = FreelyHomotopic mesh (root ∷ a.rest) (root ∷ b.rest)

pub loops_turn : (mesh : FaceList) (root : ℕ) → IsConjugacy {X = Loop mesh root} SameLoop loop_mul SameFreeLoop
loops_turn mesh root = record {
  same = λ x y h. freely mesh (root ∷ x.rest) (root ∷ y.rest) h;
  on = λ x y z h k. on mesh (root ∷ x.rest) (root ∷ y.rest) (root ∷ z.rest) h k;
  turned = λ x y. parts_turn mesh root root x.rest y.rest (way_ends mesh root root x.rest x.is_way);
}

-- up the tree, round the loop and down again is the walk; the loop starts at the root
pub free_loop : (mesh : FaceList) (root : ℕ) (up : ℕ → List ℕ) (ways : HasWays mesh root up) (u : ℕ) (rest : List ℕ)
    (way : IsWay mesh u u rest) → FreelyHomotopic mesh (u ∷ rest) (root ∷ (loop_of mesh root up ways u u rest way).rest)
free_loop mesh root up ways u rest way =
    let u_way : IsWay mesh u root (up u) = ways.way u (start_used mesh u u rest way) in
    let home : IsWay mesh root u (back u (up u)) = way_home mesh u root (up u) u_way in
    let there : IsWay mesh u root (rest ++ up u) = way_on mesh u u root rest (up u) way u_way in
    let long : IsWay mesh u u (rest ++ (up u ++ back u (up u))) =
    way_on mesh u u u rest (up u ++ back u (up u)) way (way_on mesh u root u (up u) (back u (up u)) u_way home) in
    let short : Homotopic mesh (u ∷ (rest ++ (up u ++ back u (up u)))) (u ∷ rest) =
    subst (λ (l : List ℕ). Homotopic mesh (u ∷ (rest ++ (up u ++ back u (up u)))) (u ∷ l)) (append-nil rest)
    (behind (homotopy mesh) u u rest (up u ++ back u (up u)) [] way (there_and_home (homotopy mesh) u root (up u) u_way)) in
    let out : Homotopic mesh (u ∷ rest) (u ∷ ((rest ++ up u) ++ back u (up u))) =
    subst (λ (l : List ℕ). Homotopic mesh (u ∷ rest) (u ∷ l)) (sym (append_assoc rest (up u) (back u (up u))))
    ((homotopy mesh).turn _ _ (way_walk mesh u u _ long) short) in
    on mesh (u ∷ rest) (u ∷ ((rest ++ up u) ++ back u (up u))) (root ∷ (back u (up u) ++ (rest ++ up u)))
    (freely mesh _ _ out) (parts_turn mesh u root (rest ++ up u) (back u (up u)) (way_ends mesh u root (rest ++ up u) there))

-- a closed walk is freely the loop of its quad path
pub free_path : (s : OrientedMesh) (split : SplitView) (o : IsOrientedSurface s) (t : IsSplit s split) (polygon : PolygonView)
    (cut : IsCutFrom s split polygon) (some : 0 < polygon.degree) (u : ℕ) (rest : List ℕ) → IsWay s.mesh u u rest
    → FreelyHomotopic s.mesh (u ∷ rest)
    (t.parents.root ∷ (loop_of_path s split o t polygon (quad_path s.mesh (labelling_from s polygon) (u ∷ rest))).rest)
free_path s split o t polygon cut some u rest way =
    let loop : Loops s split t = loop_of s.mesh t.parents.root (up s split t) (tree_ways s split o t) u u rest way in
    let path : Loops s split t = loop_of_path s split o t polygon (quad_path s.mesh (labelling_from s polygon) (u ∷ rest)) in
    on s.mesh (u ∷ rest) (t.parents.root ∷ loop.rest) (t.parents.root ∷ path.rest)
    (free_loop s.mesh t.parents.root (up s split t) (tree_ways s split o t) u rest way)
    (freely s.mesh (t.parents.root ∷ loop.rest) (t.parents.root ∷ path.rest) (walk_product s split o t polygon cut some u u rest way))
