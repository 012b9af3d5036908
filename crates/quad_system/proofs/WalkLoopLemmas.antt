-- A walk is homotopic to the loop of its quad path, with the way up the tree before it and the way down behind it.
use Rattle.quad_system.proofs.Common.{OrientedMesh, IsOrientedSurface, quad_path, one_of, SameLoop, homotopy, spoke_product, up, tree_ways, walk_way, PolygonView, IsCutFrom, AreWaysUp, by_loop, path_loop, labelling_from, ◌≡◌, ℕ, ◌-◌, ◌<◌, true, List, [], ◌∷◌, ◌++◌, length, ap, sym, ◌∙◌, subst, arith, slice_index, Homotopic, IsWalk, SplitView, IsSplit}
use Rattle.polygon_cut.proofs.CongruenceLemmas.{by_own_loop}
use Rattle.polygon_cut.proofs.DartLoopLemmas.{Loops, spoke}
use Rattle.polygon_cut.proofs.FreeLawLemmas.{root_is, path_list, by_loop_is}
use Rattle.polygon_cut.proofs.WayLemmas.{IsWay, start_used, end_used, back, loop_mul, loop_inv, loop_of}
use Rattle.quad_system.proofs.SpokeProductLemmas.{walk_product}

pub walk_loop : (s : OrientedMesh) (split : SplitView) (polygon : PolygonView) (root : ℕ) (ups : ℕ → List ℕ) (walk : List ℕ)
    → IsOrientedSurface s → IsSplit s split → IsCutFrom s split polygon → 0 < polygon.degree → AreWaysUp s split root ups
    → IsWalk s.mesh walk
    → Homotopic s.mesh walk
    (by_loop ups (slice_index walk 0) (slice_index walk (length walk - 1))
    (path_loop s polygon root ups true (quad_path s.mesh (labelling_from s polygon) walk)))
walk_loop s split polygon root ups [] o t c some h w = (let none : 0 < 0 = w.starts in absurd (omega arith))
walk_loop s split polygon root ups (u ∷ rest) o t c some h w =
    let v : ℕ = slice_index (u ∷ rest) (length rest) in
    let way : IsWay s.mesh u v rest = walk_way s.mesh u rest w in
    let path : List ℕ = quad_path s.mesh (labelling_from s polygon) (u ∷ rest) in
    let own : AreWaysUp s split t.parents.root ups = subst (λ x. AreWaysUp s split x ups) (sym (root_is s split o t root ups h)) h in
    let loop : Loops s split t = spoke_product loop_mul loop_inv (one_of s split t) (spoke s split o t polygon) true path in
    let same : SameLoop (loop_of s.mesh t.parents.root (up s split t) (tree_ways s split o t) u v rest way) loop =
    walk_product s split o t polygon c some u v rest way in
    let around : Homotopic s.mesh (u ∷ rest) (u ∷ (up s split t u ++ (loop.rest ++ back v (up s split t v)))) =
    by_own_loop (homotopy s.mesh) (tree_ways s split o t) u v rest way loop same in
    let told : Homotopic s.mesh (u ∷ rest) (by_loop ups u v loop.rest) = grind (arith, by_loop_is, start_used, end_used) in
    let list : loop.rest ≡ path_loop s polygon root ups true path =
    sym (path_list s split o t polygon c some ups own true path)
    ∙ ap (λ x. path_loop s polygon x ups true path) (root_is s split o t root ups h) in
    let at_end : length rest ≡ length (u ∷ rest) - 1 = omega arith in
    subst (λ n. Homotopic s.mesh (u ∷ rest) (by_loop ups u (slice_index (u ∷ rest) n) (path_loop s polygon root ups true path))) at_end
    (subst (λ (x : List ℕ). Homotopic s.mesh (u ∷ rest) (by_loop ups u v x)) list told)
