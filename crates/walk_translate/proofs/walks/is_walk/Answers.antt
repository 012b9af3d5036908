use Rattle.walk_translate.proofs.Common.{◌≡◌, true, get_or, ap, sym, ◌∙◌, arith, is_used}
use Rattle.walk_translate.proofs.SpokedLemmas.{told_yes, walk_of_edges}
use Rattle.walk_translate.proofs.walks.is_walk.Goals as goal

pub returns : goal.returns
returns c =
    let mesh = c.args.faces.now in
    let walk = c.args.walk.now in
    let first : is_used mesh (get_or walk 0 0) ≡ true =
    ap (is_used mesh) (sym c.at.ensures) ∙ sym (c.if-not-used.ensures.mesh mesh c.requires) in
    told_yes
    (walk_of_edges mesh walk c.darts-dart-end.ensures.starts first
    (λ k l. c.loop-dart.invariant k (omega (arith, c.loop-dart-test.false, c.darts-dart-end.ensures.count))))
