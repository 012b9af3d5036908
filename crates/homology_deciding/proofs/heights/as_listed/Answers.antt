use Rattle.homology_deciding.proofs.Common.{OrientedMesh, sent, height_of, listed, ◌≡◌, ◌^◌, ◌<◌, ℕ, ℤ, List, length, ap, sym, ◌∙◌, subst, arith, pos, to_z, of_z, w64, length_push, unwrap_or, unsigned_abs, FaceList}
use Rattle.homology_deciding.proofs.LoopLemmas.{unwrapped_small, listed_more}
use Rattle.homology_deciding.proofs.ProofLemmas.{listed_size}
use Rattle.homology_deciding.proofs.heights.as_listed.Goals as goal
use Rattle.homology_deciding.proofs.heights.as_listed.Goals.{After-unwrap_or-height}

small : (c : After-unwrap_or-height) → unsigned_abs c.unwrap_or-height.result < 2 ^ 63
small c =
    subst (λ z. unsigned_abs z < 2 ^ 63) (sym c.unwrap_or-height.ensures)
    (unwrapped_small (height_of c.args.heights.now c.loop-face.face) (c.requires.small c.loop-face.face))

pub as_face_listed-requires-clause-small : goal.as_face_listed-requires-clause-small
as_face_listed-requires-clause-small c =
    let size = small (goal.at.as_face_listed-requires-clause-small c).After-unwrap_or-height in
    subst (λ z. unsigned_abs z < 2 ^ 63) (sym (sent c.unwrap_or-height.result size)) size

pub loop-face-preserved : goal.loop-face-preserved
loop-face-preserved c =
    let s : OrientedMesh = c.args.tree.now.surface.now in
    let face : ℕ = c.loop-face.face in
    let height : ℤ = c.unwrap_or-height.result in
    let size = small (goal.at.loop-face-preserved c).After-unwrap_or-height in
    let is : c.as_face_listed.result ≡ listed s face (unwrap_or (height_of c.args.heights.now face) (pos 0)) =
    c.as_face_listed.ensures ∙ ap (listed s face) (sent height size ∙ c.unwrap_or-height.ensures) in
    let given : to_z w64 (of_z w64 c.as_face_listed.result) ≡ c.as_face_listed.result =
    sent c.as_face_listed.result
    (subst (λ z. unsigned_abs z < 2 ^ 63) (sym (c.as_face_listed.ensures ∙ ap (listed s face) (sent height size)))
    (omega (arith, listed_size s face height, size))) in
    let given_number : ℤ = to_z w64 (of_z w64 c.as_face_listed.result) in
    let long = c.loop-face.invariant.0 in
    let pushed = c.in_ok-push.ensures.items in
    let room : face < length c.args.heights.now =
    omega (
      arith,
      c.loop-face-test.true,
      c.len-face-end.ensures.count,
      ap (λ (m : FaceList). length m.faces) c.faces.ensures.mesh,
      c.requires.each_face,
    ) in (
      omega (arith, ap (λ (xs : List ℤ). length xs) pushed, length_push c.loop-face.numbers.items given_number, long),
      listed_more s c.args.heights.now c.loop-face.numbers.items c.push.new.self.items face given_number long pushed room
          (given ∙ is) c.loop-face.invariant.1,
    )
