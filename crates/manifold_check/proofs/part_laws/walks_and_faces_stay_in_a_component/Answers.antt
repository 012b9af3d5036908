use Rattle.manifold_check.proofs.PartPieces.{walk_same_place, face_same_place}
use Rattle.manifold_check.proofs.part_laws.walks_and_faces_stay_in_a_component.Goals as goal

pub returns : goal.returns
returns c = record {
  walk = λ mesh parts walk k h w l. walk_same_place mesh parts walk k h w l;
  face = λ mesh parts f t h l b. face_same_place mesh _ parts.places f t h.places l b;
}
