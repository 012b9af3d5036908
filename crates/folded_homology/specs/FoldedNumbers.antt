-- How large folded numbers are.
use Rattle.std.specs.Prelude.{◌+◌}
use Rattle.homology.specs.Tallies.{AreNumbersWithin}
use Rattle.homology.specs.declared.array.HomologyNumbers.{HomologyNumbers}
use Rattle.homology.specs.declared.array.HomologyNumbers.TheVariants.{Chain, Cocycle}
use Rattle.homology.specs.declared.certificate.TheConstants.{MOST_NUMBER}

-- no number of a chain is larger in size than two numbers of a certificate together, and no number of a cocycle than one
abbrev pub AreFolded : HomologyNumbers → Type 0
AreFolded (Chain numbers) = AreNumbersWithin (MOST_NUMBER + MOST_NUMBER) numbers.items
AreFolded (Cocycle numbers) = AreNumbersWithin MOST_NUMBER numbers.items
