-- The double of a polygon mesh is one.
use Rattle.doubling.proofs.Common.{edge_differs, double_of, arith, ℕ, ◌+◌, ◌<◌, [], length, subst, get_or_default, tail_used, head_used, used_below, FaceList, IsFace, IsFaceList, face_at}
use Rattle.doubling.proofs.BuildingLemmas.{face_more, face_mirror, face_quad}
use Rattle.doubling.proofs.DoubleFaces.{kinds}

double_face : (mesh : FaceList) (f : ℕ) → IsFaceList mesh → f < length (double_of mesh).faces
    → IsFace (mesh.count + mesh.count) (face_at (double_of mesh) f)
double_face mesh f valid l = grind (arith, kinds, face_more, face_mirror, face_quad, used_below, tail_used, head_used, edge_differs)

pub double_valid : (mesh : FaceList) → IsFaceList mesh → IsFaceList (double_of mesh)
double_valid mesh valid = record {
  faces = λ f d l.
      subst (IsFace (mesh.count + mesh.count)) (get_or_default (double_of mesh).faces f [] d l) (double_face mesh f valid l);
}
