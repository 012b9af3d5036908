use Rattle.homology_files.proofs.Common.{◌-◌, ap, sym, ◌∙◌, slice_get}
use Rattle.homology_files.proofs.RisingLemmas.{edge_above}
use Rattle.homology_files.proofs.words.edge_rises.Goals as goal

pub returns-else-count-eq0 : goal.returns-else-count-eq0
returns-else-count-eq0 c =
    c.comes_before.ensures ∙ edge_above c.args.numbers.now c.at.result c.args.line c.len-count.ensures.valid
    (ap (λ n. slice_get c.args.numbers.now (n - 1)) (sym c.len-count.ensures.count) ∙ c.at.ensures)
