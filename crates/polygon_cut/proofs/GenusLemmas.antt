-- A surface has a split, and where its Euler characteristic is 2 none of its edges is left over.
use Rattle.polygon_cut.proofs.Common.{used_vertices, OrientedMesh, IsOrientedSurface, ◌≡◌, ℕ, ◌+◌, ◌*◌, List, length, sym, arith, ℤ, pos, ◌+ℤ◌, ◌-ℤ◌, FaceList, IsFaceList, is_used, Homotopic, count_below, IsSurface, AreWalkPair, exact}
use Rattle.std.proofs.lemmas.Int.{ints}
use Rattle.surf_model.specs.Genera.{AreNumbersOf, HasGenus}
use Rattle.tree_cotree.proofs.GenusLemmas.{some_split}
use Rattle.polygon_cut.proofs.SphereLemmas.{all_homotopic}

-- what is left of the genus where the Euler characteristic is 2
none_left : (v e f g : ℕ) (euler : ℤ) → v + f + 2 * g ≡ e + 2 → euler ≡ (pos v -ℤ pos e) +ℤ pos f → pos 2 -ℤ pos 0 ≡ euler → g ≡ 0
none_left v e f g euler count is two = omega (arith, ints)

pub homotopic_at_genus_0 : (mesh : FaceList) (first second : List ℕ) → IsFaceList mesh → IsSurface mesh → HasGenus mesh 0
    → AreWalkPair mesh first second → Homotopic mesh first second
unfolding used_vertices
homotopic_at_genus_0 mesh first second valid is sphere pair =
    let are : AreNumbersOf mesh sphere.0 = sphere.1 in
    let s : OrientedMesh = record { mesh = mesh; table = are.table; signs = is.orientable.0 } in
    let o : IsOrientedSurface s = record { faces = valid; table = are.is_table; closed = is.closed; coherent = is.orientable.1 } in
    let split = some_split s o in
    let count : count_below (is_used mesh) mesh.count + length mesh.faces + 2 * split.0.genus ≡ length are.table + 2 =
    exact s split.0 split.1.trees split.0.genus split.1.genus in
    let euler : sphere.0.euler ≡ (pos (count_below (is_used mesh) mesh.count) -ℤ pos (length are.table)) +ℤ pos (length mesh.faces) =
    rw (sym are.vertices, sym are.edges, sym are.faces) are.euler in
    all_homotopic s split.0 first second o split.1
    (none_left (count_below (is_used mesh) mesh.count) (length are.table) (length mesh.faces) split.0.genus sphere.0.euler count euler
    sphere.2)
    pair.first_walk pair.second_walk pair.ends
