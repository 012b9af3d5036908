use Rattle.text_scan.proofs.Common.{arith}
use Rattle.text_scan.proofs.ViewLemmas.{none_found, none_place, some_found, some_place, some_filled}
use Rattle.text_scan.proofs.cursor.Cursor.find_line.Goals as goal

pub returns-in_default-clause-found : goal.returns-in_default-clause-found
returns-in_default-clause-found c = grind (arith, none_found)

pub returns-in_default-clause-place : goal.returns-in_default-clause-place
returns-in_default-clause-place c = grind (arith, none_place)

pub returns-clause-found : goal.returns-clause-found
returns-clause-found c = grind (arith, some_found)

pub returns-clause-place : goal.returns-clause-place
returns-clause-place c = grind (arith, some_place)

pub returns-clause-filled : goal.returns-clause-filled
returns-clause-filled c = some_filled c.self.inside.line c.self.inside.rest.now c.in-Some.line c.in-Some.rest.now c.in-Some.ensures
