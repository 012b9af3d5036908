use Rattle.homotopy_c.proofs.Common.{AreSmall, IsSurfaceFault, IsOrientableSurface}
use Rattle.homotopy_c.proofs.HomologyTellings.{homology_no, homology_nothing, homology_yes}
use Rattle.homotopy_c.proofs.laws.homology_shows_what_is_homologous.Goals as goal

pub returns-clause-homologous : goal.returns-clause-homologous
returns-clause-homologous c = homology_yes IsOrientableSurface IsSurfaceFault AreSmall

pub returns-clause-apart : goal.returns-clause-apart
returns-clause-apart c = homology_no IsOrientableSurface IsSurfaceFault AreSmall

pub returns-clause-else_nothing : goal.returns-clause-else_nothing
returns-clause-else_nothing c = homology_nothing IsOrientableSurface IsSurfaceFault AreSmall
