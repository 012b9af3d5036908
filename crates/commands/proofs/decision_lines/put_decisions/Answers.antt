use Rattle.commands.proofs.Common.{decision_line, ◌∙◌, ◌∷◌, [], List, ℕ, ap, arith, get_or, length, slice_get-get_or, err_from_is_err_and, each-none, each-more, each-fails, puts-same, Homotopic, line_of}
use Rattle.surf_model.specs.declared.decisions.Answer.{Answer}
use Rattle.commands.proofs.GatheredLines.{decision_line-put, decision_word-short}
use Rattle.commands.proofs.Writing.{writes_each, writes_unput}
use Rattle.commands.proofs.decision_lines.put_decisions.Goals as goal

pub loop-decision-init : goal.loop-decision-init
loop-decision-init g c = each-none c.args.out.now c.new-piece.result decision_line c.args.decisions.now

pub put_line-requires : goal.put_line-requires
put_line-requires g c =
    omega (
      arith,
      decision_word-short (get_or c.args.decisions.now c.loop-decision.decision-index Homotopic),
      ap (length {A = ℕ}) (c.as_bytes.ensures.value ∙ c.word_of.ensures),
    )

pub returns-in_err-put_line : goal.returns-in_err-put_line
returns-in_err-put_line g c =
    let k = c.loop-decision.decision-index in
    let decision : Answer = get_or c.args.decisions.now k Homotopic in
    let here = slice_get-get_or c.args.decisions.now k Homotopic c.loop-decision-test.true in
    let failed = err_from_is_err_and c.from_residual.result c.from_residual.ensures.1 in
    let puts = puts-same
    (ap (λ (w : List ℕ). line_of (w ∷ [])) (c.as_bytes.ensures.value ∙ c.word_of.ensures) ∙ decision_line-put decision)
    c.in_err-put_line.ensures in
    writes_unput failed.1 c.new-piece.ensures (each-fails [] failed.1 c.loop-decision.invariant here puts.failed puts.only_writes)

pub loop-decision-preserved : goal.loop-decision-preserved
loop-decision-preserved g c =
    let k = c.loop-decision.decision-index in
    let decision : Answer = get_or c.args.decisions.now k Homotopic in
    let here = slice_get-get_or c.args.decisions.now k Homotopic c.loop-decision-test.true in
    let puts = puts-same
    (ap (λ (w : List ℕ). line_of (w ∷ [])) (c.as_bytes.ensures.value ∙ c.word_of.ensures) ∙ decision_line-put decision)
    c.in_ok-put_line.ensures in
    each-more c.loop-decision.invariant here puts.ok puts.only_writes

pub returns : goal.returns
returns g c =
    let out = c.write_out.ensures in
    writes_each c.write_out.new.sink c.write_out.result c.new-piece.ensures c.loop-decision.invariant c.loop-decision-test.false
    out.ok out.failed out.failed_only_on_fault (record { same_settled = out.same_settled; never_falls = out.never_falls })
