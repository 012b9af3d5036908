use Rattle.walk_files.proofs.Common.{sym, ap, ◌∙◌, err_from_is_err_and, Some, result_err, vertex_fault, edge_fault}
use Rattle.walk_files.proofs.EntryLemmas.{step_passed, step_failed, some_or, none_or}
use Rattle.walk_files.proofs.entries.check_walks.Goals as goal

pub returns-in_err-check_vertices : goal.returns-in_err-check_vertices
returns-in_err-check_vertices c = λ mesh table.
    let failed = err_from_is_err_and c.from_residual.result c.from_residual.ensures.1 in
    let first = step_failed _ (vertex_fault mesh) c.args.walks.now.walks c.loop-k.k c.at.result.now c.in_err-check_vertices.field-0.0
    (c.loop-k.invariant mesh table) c.at.ensures (c.in_err-check_vertices.ensures mesh table) in
    ap result_err failed.1 ∙ ap Some failed.2 ∙ sym (some_or _ c.in_err-check_vertices.field-0.0 _ first)

pub loop-k-preserved : goal.loop-k-preserved
loop-k-preserved c = λ mesh table.
    step_passed _ (vertex_fault mesh) c.args.walks.now.walks c.loop-k.k c.at.result.now (c.loop-k.invariant mesh table) c.at.ensures
    (c.in_ok-check_vertices.ensures mesh table)

pub returns-in_err-check_edges : goal.returns-in_err-check_edges
returns-in_err-check_edges c = λ mesh table.
    let failed = err_from_is_err_and c.from_residual-in_err-check_edges.result c.from_residual-in_err-check_edges.ensures.1 in
    let so_far = c.loop-k-2.invariant mesh table in
    let first = step_failed _ (edge_fault mesh) c.args.walks.now.walks c.loop-k-2.k c.at-in-loop-k-2.result.now
    c.in_err-check_edges.field-0.0 so_far.1 c.at-in-loop-k-2.ensures (c.in_err-check_edges.ensures mesh table) in
    ap result_err failed.1 ∙ ap Some failed.2 ∙ sym (none_or _ _ so_far.0 ∙ first)

pub loop-k-2-preserved : goal.loop-k-2-preserved
loop-k-2-preserved c = λ mesh table.
    let so_far = c.loop-k-2.invariant mesh table in (
      so_far.0,
      step_passed _ (edge_fault mesh) c.args.walks.now.walks c.loop-k-2.k c.at-in-loop-k-2.result.now so_far.1 c.at-in-loop-k-2.ensures
          (c.in_ok-check_edges.ensures mesh table),
    )
