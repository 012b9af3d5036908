use Rattle.move_checker.proofs.Outcomes.{ok_from_step, allowed_from_step, over_from_step}
use Rattle.move_checker.proofs.tape.Tape.step.Goals as goal

pub returns-clause-ok : goal.returns-clause-ok
returns-clause-ok c =
    ok_from_step c.args.faces.now c.args.self.now.peak c.args.self.now.walk c.args.mv c.make.result c.make.new.self.walk
    c.make.ensures.step

pub returns-clause-allowed : goal.returns-clause-allowed
returns-clause-allowed c =
    allowed_from_step c.args.faces.now c.args.self.now.peak c.args.self.now.walk c.args.mv c.make.result c.make.new.self.walk
    c.make.ensures.step

pub returns-clause-over : goal.returns-clause-over
returns-clause-over c =
    over_from_step c.args.faces.now c.args.self.now.peak c.args.self.now.walk c.args.mv c.make.result c.make.new.self.walk
    c.make.ensures.step
