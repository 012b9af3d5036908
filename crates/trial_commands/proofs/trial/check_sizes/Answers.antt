use Rattle.trial_commands.proofs.Common.{◌≡◌, true, false, sym, ◌∙◌, MOST_GENUS, LEAST_GRID, MOST_GRID, is_within}
use Rattle.trial_commands.proofs.Trying.{genus_stops, grid_stops}
use Rattle.trial_commands.proofs.trial.check_sizes.Goals as goal

pub returns-then-not-is_within-clause-end : goal.returns-then-not-is_within-clause-end
returns-then-not-is_within-clause-end c =
    let out : is_within 1 MOST_GENUS c.args.genus ≡ false = sym c.is_within.ensures ∙ c.if-not-is_within.true in
    genus_stops c.args.genus c.args.grid c.refused.result out c.refused.ensures

pub returns-then-not-is_within-2-clause-end : goal.returns-then-not-is_within-2-clause-end
returns-then-not-is_within-2-clause-end c =
    let within : is_within 1 MOST_GENUS c.args.genus ≡ true = sym c.is_within.ensures ∙ c.if-not-is_within.false in
    let out : is_within LEAST_GRID MOST_GRID c.args.grid ≡ false = sym c.is_within-2.ensures ∙ c.if-not-is_within-2.true in
    grid_stops c.args.genus c.args.grid c.refused-then-not-is_within-2.result within out c.refused-then-not-is_within-2.ensures
