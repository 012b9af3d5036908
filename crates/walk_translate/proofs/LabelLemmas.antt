-- The labelling of a polygon, and the genus of the surface.
use Rattle.walk_translate.proofs.Common.{OrientedMesh, IsOrientedSurface, IsGood, FaceLabels, LabellingView, signs_of, PolygonView, labelling_from, face_labels, IsFull, ◌≡◌, ℕ, ◌+◌, ◌*◌, Bool, false, List, length, refl, ap, sym, ◌∙◌, subst, arith, ints, length-map, same_lists, get_or_default, Option, Some, None, MatchOption, ℤ, pos, ◌+ℤ◌, ◌-ℤ◌, is_used, SplitView, IsSplit, IsSurfaceLabelling, HasSphereSplit, IsLabelledByCut}
use Rattle.halfedge_map.specs.DartMaps.{used_vertices}
use Rattle.quad_system.proofs.FullLemmas.{polygon_full}
use Rattle.quad_system.proofs.PolygonLabelLemmas.{polygon_good, flips_are}
use Rattle.std.proofs.lemmas.List.FromFn.{length-enumerate_from}
use Rattle.std.specs.List.{enumerate_from}
use Rattle.surf_model.specs.Genera.{HasGenus}
use Rattle.surf_model.specs.Numbers.{count_below}
use Rattle.tree_cotree.proofs.LawLemmas.{exact}

-- the labelling has the signs of the surface
signs_are : (s : OrientedMesh) (polygon : PolygonView) → IsOrientedSurface s → signs_of (labelling_from s polygon) ≡ s.signs
signs_are s polygon o =
    let faces : List FaceLabels = (labelling_from s polygon).faces in
    let many : length faces ≡ length s.mesh.faces =
    length-map (enumerate_from 0 s.mesh.faces) (λ (p : ℕ × List ℕ). face_labels s polygon p.0 (length p.1))
    ∙ length-enumerate_from 0 s.mesh.faces in
    let signs : List Bool = signs_of (labelling_from s polygon) in
    let as_many : length signs ≡ length s.mesh.faces = length-map faces (λ (x : FaceLabels). x.flipped) ∙ many in
    same_lists signs s.signs (as_many ∙ sym o.coherent.each_face)
    (λ k d l.
    get_or_default signs k d false l ∙ flips_are s polygon k (omega (arith, as_many))
    ∙ get_or_default s.signs k false d (omega (arith, as_many, o.coherent.each_face)))

-- the labelling is good
pub cut_is_good : (surface : OrientedMesh) (labelling : LabellingView) → IsOrientedSurface surface → IsLabelledByCut surface labelling
    → IsGood surface.mesh labelling
cut_is_good surface labelling o h =
    subst (IsGood surface.mesh) (sym h.labelling_is) (polygon_good surface h.split h.polygon o h.is_split h.is_cut h.some)

cut_is_full : (surface : OrientedMesh) (labelling : LabellingView) → IsOrientedSurface surface → IsLabelledByCut surface labelling
    → IsFull surface.mesh labelling
cut_is_full surface labelling o h =
    subst (IsFull surface.mesh) (sym h.labelling_is) (polygon_full surface h.split h.polygon o h.is_split h.is_cut h.some)

-- the genus of a split is that of its surface
pub genus_of_split : (s : OrientedMesh) (split : SplitView) → IsOrientedSurface s → IsSplit s split → HasGenus s.mesh split.genus
unfolding used_vertices
genus_of_split s split o t =
    let euler : ℤ = (pos (count_below (is_used s.mesh) s.mesh.count) -ℤ pos (length s.table)) +ℤ pos (length s.mesh.faces) in
    let count : count_below (is_used s.mesh) s.mesh.count + length s.mesh.faces + 2 * split.genus ≡ length s.table + 2 =
    exact s split t.trees split.genus t.genus in (
      record {
        vertices = count_below (is_used s.mesh) s.mesh.count;
        edges = length s.table;
        faces = length s.mesh.faces;
        euler = euler;
      },
      record { vertices = refl; table = s.table; is_table = o.table; edges = refl; faces = refl; euler = refl },
      omega (arith, ints, count),
    )

-- what is said of the labelling of a surface
pub surface_labelling : (surface : OrientedMesh) (found : Option LabellingView) → IsOrientedSurface surface
    → MatchOption found (HasSphereSplit surface) (IsLabelledByCut surface)
    → MatchOption found (HasGenus surface.mesh 0) (IsSurfaceLabelling surface)
surface_labelling surface None o h =
    subst (HasGenus surface.mesh) h.none (genus_of_split surface h.split o h.is_split)
surface_labelling surface (Some labelling) o h = record {
  genus = h.split.genus;
  has_genus = genus_of_split surface h.split o h.is_split;
  some = omega (arith, h.some, h.is_cut.degree);
  degree = ap (λ (l : LabellingView). l.degree) h.labelling_is ∙ h.is_cut.degree;
  signs = ap signs_of h.labelling_is ∙ signs_are surface h.polygon o;
  good = cut_is_good surface labelling o h;
  full = cut_is_full surface labelling o h;
}
