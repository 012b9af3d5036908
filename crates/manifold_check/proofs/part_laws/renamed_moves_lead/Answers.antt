use Rattle.manifold_check.proofs.Common.{component_at}
use Rattle.manifold_check.proofs.PartPieces.{IsOfComponent, piece_of_parts}
use Rattle.manifold_check.proofs.PieceMoves.{moves_up, greatest_alike}
use Rattle.manifold_check.proofs.part_laws.renamed_moves_lead.Goals as goal

pub returns : goal.returns
returns c = record {
  leads = λ mesh parts part first second moves h l some lead.
      moves_up mesh (IsOfComponent parts.places part) (component_at parts part) moves first second (piece_of_parts mesh parts part h l) some
      lead;
  darts = λ mesh parts part first second moves h l some lead.
      greatest_alike mesh (IsOfComponent parts.places part) (component_at parts part) moves first second
      (piece_of_parts mesh parts part h l) some lead;
}
