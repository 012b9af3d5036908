use Rattle.commands.proofs.Common.{over_line, sym, ◌∙◌, ap, option_map}
use Rattle.commands.proofs.limits.Limits.check.Goals as goal

pub returns-in-None : goal.returns-in-None
returns-in-None c = ap (option_map (over_line c.args.word.now)) (sym c.first_over.ensures ∙ c.in-None.is)

pub returns-in-Some : goal.returns-in-Some
returns-in-Some c =
    let line = over_line c.args.word.now in
    (line c.in-Some.over, ap (option_map line) (sym c.first_over.ensures ∙ c.in-Some.is), c.refusal.ensures)
