use Rattle.homology.proofs.Common.{number_at, List, ap, ◌∙◌, ℤ}
use Rattle.homology.proofs.VerdictLemmas.{chain_listed}
use Rattle.homology.proofs.chain_check.check_chain.Goals as goal

pub returns : goal.returns
returns c =
    chain_listed c.args.walks.faces.now c.args.walks.first.now c.args.walks.second.now c.args.numbers.now c.deref.result.now
    c.judge_faces.result c.in_default.ensures.none c.judge_faces.ensures
    (λ f. ap (λ (xs : List ℤ). number_at xs f) c.deref.ensures.value ∙ c.in_ok-of_face.ensures.numbers f)
