-- The double of a surface with boundary is a closed surface.
use Rattle.closed_doubles.proofs.Common.{double_size, double_of, IsOpenSurface, arith, FaceList, IsFaceList, IsClosed, IsOrientable, IsSurface}
use Rattle.closed_doubles.proofs.TwoSides.{double_two_sides}
use Rattle.closed_doubles.proofs.DoubleRings.{double_rings}
use Rattle.closed_doubles.proofs.JoinedDoubles.{double_joined}
use Rattle.closed_doubles.proofs.DoubleSigns.{double_orientable}

pub double_closed : (mesh : FaceList) → IsFaceList mesh → IsOpenSurface mesh → IsClosed (double_of mesh)
double_closed mesh valid is = grind (arith, double_size, double_two_sides, double_rings, double_joined)

pub double_surface : (mesh : FaceList) → IsFaceList mesh → IsOpenSurface mesh → IsOrientable mesh → IsSurface (double_of mesh)
double_surface mesh valid is signs = grind (arith, double_closed, double_orientable)
