use Rattle.manifold_check.proofs.Common.{component_at}
use Rattle.manifold_check.proofs.PartPieces.{IsOfComponent, piece_of_parts, closed_alone, names_within}
use Rattle.manifold_check.proofs.PieceSides.{valid_alone}
use Rattle.manifold_check.proofs.PieceSurfaces.{coherent_alone}
use Rattle.manifold_check.proofs.part_laws.components_are_surfaces.Goals as goal

pub returns : goal.returns
returns c = record {
  closed = closed_alone;
  coherent = λ mesh parts part signs h l coherent.
      coherent_alone mesh (IsOfComponent parts.places part) (component_at parts part) signs (piece_of_parts mesh parts part h l) coherent;
  valid = λ mesh parts part h l valid.
      valid_alone mesh (IsOfComponent parts.places part) (component_at parts part) (piece_of_parts mesh parts part h l) valid;
  faces = names_within;
}
