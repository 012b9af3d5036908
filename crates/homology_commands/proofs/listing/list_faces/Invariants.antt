use Rattle.homology_commands.proofs.Common.{number_at, ListsFaces, name_in}
use Rattle.homology_commands.proofs.listing.list_faces.Given as goal

-- the numbers of the faces so far are listed
abbrev pub invariant-loop-face : goal.invariant-loop-face
invariant-loop-face l = ListsFaces (name_in l.component) (number_at l.numbers) l.face l.lines
