use Rattle.homology.proofs.Common.{edge_number, AreTableNumbers, arith}
use Rattle.homology.proofs.VerdictLemmas.{cocycle_listed}
use Rattle.homology.proofs.cocycle_check.check_cocycle.Goals as goal

pub returns : goal.returns
returns c =
    let are : AreTableNumbers c.args.walks.sides.now c.deref.result.now (edge_number c.args.numbers.now) = grind arith in
    cocycle_listed c.args.walks.faces.now c.args.walks.first.now c.args.walks.second.now c.args.numbers.now c.judge_edges.result
    c.in_default.ensures.none (c.judge_edges.ensures (edge_number c.args.numbers.now) are)
