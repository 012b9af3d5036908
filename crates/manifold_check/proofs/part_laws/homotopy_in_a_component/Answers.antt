use Rattle.manifold_check.proofs.Common.{component_at}
use Rattle.manifold_check.proofs.PartPieces.{IsOfComponent, piece_of_parts}
use Rattle.manifold_check.proofs.PieceMoves.{homotopic_alike}
use Rattle.manifold_check.proofs.part_laws.homotopy_in_a_component.Goals as goal

pub returns : goal.returns
returns c = λ mesh parts part first second h l w start.
    homotopic_alike mesh (IsOfComponent parts.places part) (component_at parts part) first second
    (piece_of_parts mesh parts part h l) w start
