use Rattle.walk_files.proofs.Common.{FaceLabels, signs_of, subst, ◌∷◌, ap, ◌∙◌, map, arith, take_all, All-nil, err_from_is_err_and, All, decimal, puts-same, each-none, each-more, each-fails, each-all, is_flipped, line_of, sign_word, face_words, AreNumbers}
use Rattle.walk_files.proofs.DenialParts.{face_of_labelling}
use Rattle.walk_files.proofs.ListLemmas.{all-next}
use Rattle.walk_files.proofs.denial_writing.put_faces.Goals as goal

pub loop-k-init : goal.loop-k-init
loop-k-init g c = (
  each-none c.args.sink.now c.args.piece.now (λ (face : FaceLabels). line_of (face_words face)) c.args.labelling.now.faces,
  All-nil (λ (face : FaceLabels). AreNumbers face.labels),
)

pub returns-in_err-put_line-clause-puts : goal.returns-in_err-put_line-clause-puts
returns-in_err-put_line-clause-puts g c =
    let failed = err_from_is_err_and c.from_residual.result c.from_residual.ensures.1 in
    let here = face_of_labelling c.args.labelling.now c.loop-k.k (omega (arith, c.loop-k-test.true, c.faces-k-end.ensures)) in
    let line =
    ap (λ s. line_of (s ∷ map decimal c.labels.result.now)) (c.sign-sign.ensures.sign ∙ ap sign_word c.flipped.ensures)
    ∙ ap (λ ls. line_of (sign_word (is_flipped (signs_of c.args.labelling.now) c.loop-k.k) ∷ map decimal ls)) c.labels.ensures in
    let puts = puts-same line c.in_err-put_line.ensures.puts in
    each-fails _ failed.1 c.loop-k.invariant.0 here puts.failed puts.only_writes

pub loop-k-preserved : goal.loop-k-preserved
loop-k-preserved g c =
    let here = face_of_labelling c.args.labelling.now c.loop-k.k (omega (arith, c.loop-k-test.true, c.faces-k-end.ensures)) in
    let line =
    ap (λ s. line_of (s ∷ map decimal c.labels.result.now)) (c.sign-sign.ensures.sign ∙ ap sign_word c.flipped.ensures)
    ∙ ap (λ ls. line_of (sign_word (is_flipped (signs_of c.args.labelling.now) c.loop-k.k) ∷ map decimal ls)) c.labels.ensures in
    let puts = puts-same line c.in_ok-put_line.ensures.puts in
    let small = subst AreNumbers c.labels.ensures c.put_line.ensures.numbers in (
      each-more c.loop-k.invariant.0 here puts.ok puts.only_writes,
      all-next (λ (face : FaceLabels). AreNumbers face.labels) c.args.labelling.now.faces c.loop-k.k _ c.loop-k.invariant.1 here small,
    )

pub returns-clause-puts : goal.returns-clause-puts
returns-clause-puts g c = each-all c.loop-k.invariant.0 (omega (arith, c.loop-k-test.false, c.faces-k-end.ensures))

pub returns-clause-numbers : goal.returns-clause-numbers
returns-clause-numbers g c =
    subst (All (λ (face : FaceLabels). AreNumbers face.labels))
    (take_all c.loop-k.k c.args.labelling.now.faces (omega (arith, c.loop-k-test.false, c.faces-k-end.ensures))) c.loop-k.invariant.1
