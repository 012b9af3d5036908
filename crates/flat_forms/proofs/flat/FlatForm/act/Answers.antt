use Rattle.std.proofs.Common.{rules, sym, ◌∙◌}
use Rattle.flat_forms.specs.FlatStates.{IsEvenPoint}
use Rattle.flat_forms.specs.Lemmas.StepsInThePlane.{next-even, next-odd}
use Rattle.flat_forms.proofs.Within.{sums-within, differences-within}
use Rattle.flat_forms.proofs.flat.FlatForm.act.Goals as goal

pub returns-then-is_at_vertex-clause-state : goal.returns-then-is_at_vertex-clause-state
returns-then-is_at_vertex-clause-state g c =
    let s = c.args.self.now in
    let even : IsEvenPoint s = search rules in
    sums-within s c.args.spoke.0 c.self.inside.x c.self.inside.y c.step_of-right.result.0 c.step_of-right.result.1 c.self.view_is
    c.requires.room c.step_of-right.ensures.right c.step_of-right.ensures.up
    ∙ sym (next-even c.args._wheel.now s c.args.spoke.0 even)

pub returns-else-is_at_vertex-clause-state : goal.returns-else-is_at_vertex-clause-state
returns-else-is_at_vertex-clause-state g c =
    let s = c.args.self.now in
    let odd : ¬ IsEvenPoint s = search rules in
    differences-within s c.args.spoke.0 c.self.inside.x c.self.inside.y c.step_of-right.result.0 c.step_of-right.result.1 c.self.view_is
    c.requires.room c.step_of-right.ensures.right c.step_of-right.ensures.up
    ∙ sym (next-odd c.args._wheel.now s c.args.spoke.0 odd)
