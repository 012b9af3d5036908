use Rattle.manifold_check.proofs.PartPieces.{one_component, joined_one}
use Rattle.manifold_check.proofs.part_laws.one_component_is_connected.Goals as goal

pub returns-clause-connected : goal.returns-clause-connected
returns-clause-connected c = one_component

pub returns-clause-one : goal.returns-clause-one
returns-clause-one c = joined_one
