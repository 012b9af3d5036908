use Rattle.homotopy_arrays.proofs.Common.{ℕ, ◌+◌, ◌-◌, take, drop, get_or, arith, sym, ◌∙◌, ap, inl, inr, eqb-true, err_from_is_err_and, Ok, Err}
use Rattle.homotopy_arrays.proofs.MeshLemmas.{many_vertices, other_count, many_sides, face_end, one_face, counts_good, bad_face, all_faces}
use Rattle.homotopy_arrays.proofs.mesh.mesh_of_arrays.Goals as goal

pub returns-then-vertices-gt-MOST_VERTICES : goal.returns-then-vertices-gt-MOST_VERTICES
returns-then-vertices-gt-MOST_VERTICES c =
    inl (sym (many_vertices c.args.mesh.vertices c.args.mesh.sizes.now c.args.mesh.corners.now c.if-vertices-gt-MOST_VERTICES.true))

pub returns-then-not-add_up_to : goal.returns-then-not-add_up_to
returns-then-not-add_up_to c =
    inl (sym (other_count c.args.mesh.vertices c.args.mesh.sizes.now c.args.mesh.corners.now c.if-vertices-gt-MOST_VERTICES.false
    (sym c.add_up_to.ensures ∙ c.if-not-add_up_to.true)))

pub returns-then-corners : goal.returns-then-corners
returns-then-corners c =
    inl (sym (many_sides c.args.mesh.vertices c.args.mesh.sizes.now c.args.mesh.corners.now c.if-vertices-gt-MOST_VERTICES.false
    (sym c.add_up_to.ensures ∙ c.if-not-add_up_to.false) c.if-corners.true))

pub returns-in_err-put_face : goal.returns-in_err-put_face
returns-in_err-put_face c =
    let face : ℕ = c.loop-face.face in
    let at : ℕ = c.loop-face.at in
    let size : ℕ = get_or c.args.mesh.sizes.now face 0 in
    let p = err_from_is_err_and c.from_residual.result c.from_residual.ensures.1 in
    rw (p.1, p.2)
    (elim c.in_err-put_face.ensures.fault [
      | inl memory ↦ inr (ap Err memory)
      | inr bad ↦
          (let all = eqb-true _ _ (sym c.add_up_to.ensures ∙ c.if-not-add_up_to.false) in
          inl (sym (counts_good c.args.mesh.vertices c.args.mesh.sizes.now c.args.mesh.corners.now c.if-vertices-gt-MOST_VERTICES.false all
          c.if-corners.false
          ∙ bad_face c.args.mesh.vertices c.args.mesh.sizes.now c.args.mesh.corners.now face at c.loop-face.faces
          (take (at + size - at) (drop at c.args.mesh.corners.now)) c.in_err-put_face.field-0.0 c.loop-face-test.true
          (ap (λ (n : ℕ). take n (drop at c.args.mesh.corners.now)) (omega arith)) bad c.loop-face.invariant)))
    ])

pub loop-face-preserved : goal.loop-face-preserved
loop-face-preserved c =
    let face : ℕ = c.loop-face.face in
    let at : ℕ = c.loop-face.at in
    let size : ℕ = get_or c.args.mesh.sizes.now face 0 in
    one_face c.args.mesh.vertices c.args.mesh.sizes.now c.args.mesh.corners.now face at c.loop-face.faces c.put_face.new.faces
    (take (at + size - at) (drop at c.args.mesh.corners.now)) c.loop-face-test.true
    (face_end c.args.mesh.sizes.now c.args.mesh.corners.now face at (eqb-true _ _ (sym c.add_up_to.ensures ∙ c.if-not-add_up_to.false))
    c.loop-face.invariant.place c.loop-face-test.true)
    (ap (λ (n : ℕ). take n (drop at c.args.mesh.corners.now)) (omega arith)) c.in_ok-put_face.ensures.good c.in_ok-put_face.ensures.put
    c.loop-face.invariant

pub returns : goal.returns
returns c =
    inl (ap Ok c.finish.ensures
    ∙ sym (counts_good c.args.mesh.vertices c.args.mesh.sizes.now c.args.mesh.corners.now c.if-vertices-gt-MOST_VERTICES.false (eqb-true _ _
    (sym c.add_up_to.ensures ∙ c.if-not-add_up_to.false)) c.if-corners.false
    ∙ all_faces c.args.mesh.vertices c.args.mesh.sizes.now c.args.mesh.corners.now c.loop-face.face c.loop-face.at c.loop-face.faces
    c.loop-face-test.false c.loop-face.invariant))
