-- A surface of genus 0 is cut into a polygon without sides.
use Rattle.certify_commands.proofs.Common.{one_genus, OrientedMesh, IsOrientedSurface, PolygonView, IsCutFrom, ◌≡◌, ◌*◌, arith, HasGenus, SplitView, IsSplit}
use Rattle.walk_translate.proofs.LabelLemmas.{genus_of_split}

pub no_sides : (s : OrientedMesh) (split : SplitView) (polygon : PolygonView) → IsOrientedSurface s → IsSplit s split
    → IsCutFrom s split polygon → HasGenus s.mesh 0 → polygon.degree ≡ 0
no_sides s split polygon o t cut sphere =
    omega (arith, cut.degree, one_genus s.mesh split.genus 0 (genus_of_split s split o t) sphere)
