use Rattle.trial_commands.proofs.Common.{in_lines, ◌++◌, List, ℕ, ap, ◌∙◌, genus_line, last_lines}
use Rattle.std.specs.Prelude.{map}
use Rattle.trial_commands.proofs.trial.lines_of.Goals as goal

pub returns : goal.returns
returns c =
    let genera = c.args.measured.now.genera.items in
    ap in_lines (c.in_ok-put_decisions.ensures
    ∙ ap (λ (l : List (List ℕ)). l ++ last_lines c.args.decisions) (c.in_ok-put_genera.ensures
    ∙ ap (λ (g : List ℕ). c.in_ok-lines.lines.items ++ map genus_line g) c.deref.ensures.value
    ∙ ap (λ (l : List (List ℕ)). l ++ map genus_line genera) c.in_ok-lines.ensures))
