use Rattle.text_scan.proofs.Common.{arith}
use Rattle.text_scan.proofs.ViewLemmas.{few_left, few_here}
use Rattle.text_scan.proofs.cursor.Cursor.natural.Goals as goal

pub returns-in_err-value-clause-few : goal.returns-in_err-value-clause-few
returns-in_err-value-clause-few c =
    few_here c.self.inside.text.now c.self.inside.line c.self.inside.rest.now c.args.self.now c.self.view_is c.self.invariant.0
    c.self.invariant.1

pub returns-clause-few : goal.returns-clause-few
returns-clause-few c = grind (arith, few_left)
