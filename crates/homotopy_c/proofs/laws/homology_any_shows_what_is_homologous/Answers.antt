use Rattle.homotopy_c.proofs.Common.{IsOrientableCompactSurface, IsOrientableCompactFault}
use Rattle.folded_homology.specs.FoldedNumbers.{AreFolded}
use Rattle.homotopy_c.proofs.HomologyTellings.{homology_no, homology_nothing, homology_yes}
use Rattle.homotopy_c.proofs.laws.homology_any_shows_what_is_homologous.Goals as goal

pub returns-clause-homologous : goal.returns-clause-homologous
returns-clause-homologous c = homology_yes IsOrientableCompactSurface IsOrientableCompactFault AreFolded

pub returns-clause-apart : goal.returns-clause-apart
returns-clause-apart c = homology_no IsOrientableCompactSurface IsOrientableCompactFault AreFolded

pub returns-clause-else_nothing : goal.returns-clause-else_nothing
returns-clause-else_nothing c = homology_nothing IsOrientableCompactSurface IsOrientableCompactFault AreFolded
