use Rattle.homotopy_arrays.proofs.JudgementLemmas.{within_limit}
use Rattle.homotopy_arrays.proofs.verify.judge.Goals as goal

pub returns : goal.returns
returns c =
    within_limit c.args.on.now.faces.now c.args.on.now.first.now c.args.on.now.second.now c.args.certificate.now c.judge_text.result
    c.if-certificate-gt-MOST_BYTES.false c.judge_text.ensures
