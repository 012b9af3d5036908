use Rattle.homology.proofs.Common.{number_at, FaceNumber, MOST_NUMBER, ◌≡◌, ℕ, ◌<◌, ◌≤◌, List, length, set, ap, ◌∙◌, arith, get_or, common_steps, length-set, get_or_from_slice_get, unsigned_abs}
use Rattle.homology.proofs.SizeLemmas.{sent}
use Rattle.homology.proofs.ChainVerdictLemmas.{number_at-zeros}
use Rattle.homology.proofs.NumbersLemmas.{face_written, faces_small}
use Rattle.homology.proofs.numbers.numbers_by_face.Goals as goal

pub loop-k-init : goal.loop-k-init
loop-k-init c = grind (arith, number_at, number_at-zeros)

pub loop-k-preserved : goal.loop-k-preserved
loop-k-preserved c =
    let lines : List FaceNumber = c.args.numbers.now in
    let line : FaceNumber = c.at-line.result in
    let k : ℕ = c.loop-k.k in
    let within : k < length lines = omega arith in
    let is : get_or lines k line ≡ line = get_or_from_slice_get lines k line line c.at-line.ensures in
    let small : unsigned_abs line.number ≤ MOST_NUMBER = grind arith in
    let there : line.face.0 < length c.args.faces.now.faces = grind arith in (
      length-set c.loop-k.of_face.items line.face.0 _ ∙ c.loop-k.invariant.0,
      λ f. face_written lines k f line c.loop-k.of_face.items _ c.len-k-end.ensures.valid within c.at-line.ensures
          (omega (arith, there, c.loop-k.invariant.0))
          (ap (set c.loop-k.of_face.items line.face.0) (sent line.number (omega (arith, small)))) (c.loop-k.invariant.1 f),
    )

pub returns-clause-numbers : goal.returns-clause-numbers
returns-clause-numbers c = grind (arith, common_steps)

pub returns-clause-small : goal.returns-clause-small
returns-clause-small c = grind (arith, faces_small, returns-clause-numbers)
