use Rattle.commands.proofs.Common.{◌+◌, arith}
use Rattle.commands.proofs.LimitLemmas.{darts_over, nothing_over, sides_over}
use Rattle.commands.proofs.limits.Limits.first_over.Goals as goal

pub returns-then-sides-self : goal.returns-then-sides-self
returns-then-sides-self c =
    sides_over c.args.self c.args.faces.now c.args.first.now c.args.second.now c.total-sides.result c.total-sides.ensures
    c.if-sides-self.true

pub returns-then-darts-self : goal.returns-then-darts-self
returns-then-darts-self c =
    darts_over c.args.self c.args.faces.now c.args.first.now c.args.second.now c.total-sides.result
    (c.darts.result + c.darts-2.result) c.total-sides.ensures c.if-sides-self.false
    (omega (arith, c.darts.ensures.count, c.darts-2.ensures.count)) c.if-darts-self.true

pub returns : goal.returns
returns c =
    nothing_over c.args.self c.args.faces.now c.args.first.now c.args.second.now c.total-sides.result
    (c.darts.result + c.darts-2.result) c.total-sides.ensures c.if-sides-self.false
    (omega (arith, c.darts.ensures.count, c.darts-2.ensures.count)) c.if-darts-self.false
