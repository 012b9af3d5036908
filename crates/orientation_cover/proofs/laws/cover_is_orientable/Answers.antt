use Rattle.orientation_cover.proofs.Common.{cover_valid, cover_orientable, told_by}
use Rattle.orientation_cover.proofs.CoverLemmas.{turning}
use Rattle.orientation_cover.proofs.TurnLemmas.{ways_turn}
use Rattle.orientation_cover.proofs.laws.cover_is_orientable.Goals as goal

pub returns-clause-mesh : goal.returns-clause-mesh
returns-clause-mesh c = λ mesh bits valid are. cover_valid mesh (turning mesh bits) valid

pub returns-clause-orientable : goal.returns-clause-orientable
returns-clause-orientable c = λ mesh bits valid are.
    cover_orientable mesh (told_by mesh bits) (turning mesh bits) valid are.ways (ways_turn mesh (told_by mesh bits) valid are.ways)
