use Rattle.renaming.proofs.RenamedSurfaces.{closed_renamed, closed_surface_renamed, coherent_renamed}
use Rattle.renaming.proofs.RenamedWalks.{joined_renamed}
use Rattle.renaming.proofs.laws.renamed_surfaces_are_surfaces.Goals as goal

pub returns-clause-manifold : goal.returns-clause-manifold
returns-clause-manifold c = closed_renamed

pub returns-clause-closed : goal.returns-clause-closed
returns-clause-closed c = closed_surface_renamed

pub returns-clause-connected : goal.returns-clause-connected
returns-clause-connected c = joined_renamed

pub returns-clause-coherent : goal.returns-clause-coherent
returns-clause-coherent c = coherent_renamed
