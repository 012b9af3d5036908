use Rattle.off_reader.proofs.Common.{TakesFaces, arith, sym, ap, subst, ◌∙◌, inl, inr, ◌≡◌, [], ◌∷◌, ◌++◌, err_from_is_err_and, FaceList, PendingFace, total_sides, IsFace}
use Rattle.std.proofs.Common.{Ok}
use Rattle.off_reader.proofs.RingLemmas.{ring_face, ring_room}
use Rattle.off_reader.proofs.MeshLemmas.{one_face, bad_face_line, no_face_line, all_faces}
use Rattle.off_reader.proofs.mesh.read_faces.Goals as goal

pub returns-in_err-next_line : goal.returns-in_err-next_line
returns-in_err-next_line c =
    let p = err_from_is_err_and c.from_residual.result c.from_residual.ensures.1 in
    rw (p.1, p.2)
    (inr (no_face_line c.args.header.vertices c.args.header.faces c.args.cursor.now c.loop.cursor c.loop.faces.mesh
    c.in_err-next_line.field-0.0 c.loop.counter c.loop-test.true
    c.in_err-next_line.ensures.line.0 c.in_err-next_line.ensures.line.1 c.loop.invariant.0))

pub returns-in_err-read_ring : goal.returns-in_err-read_ring
returns-in_err-read_ring c =
    let p = err_from_is_err_and c.from_residual-in_err-read_ring.result c.from_residual-in_err-read_ring.ensures.1 in
    rw (p.1, p.2)
    (elim c.in_err-read_ring.ensures.ring [
      | inl memory ↦ inl memory
      | inr bad ↦ inr (bad_face_line c.args.header.vertices c.args.header.faces c.args.cursor.now c.loop.cursor c.next_line.new.cursor
          c.loop.faces.mesh c.in_err-read_ring.field-0.0 c.loop.counter
          c.loop-test.true c.in_ok-next_line.ensures.line bad c.loop.invariant.0)
    ])

pub close-requires-clause-face : goal.close-requires-clause-face
close-requires-clause-face c =
    let ring = c.in_ok-read_ring.ensures.ring in
    let count = ap (λ (m : FaceList). m.count) (c.in_ok-read_ring.ensures.mesh ∙ c.loop.invariant.0.mesh) in
    subst (λ n. IsFace n c.read_ring.new.faces.pending) (sym count)
    (ring_face c.args.header.vertices (total_sides c.loop.faces.mesh) c.next_line.new.cursor.line c.next_line.new.cursor.words
    c.read_ring.new.faces.pending ring.0 ring.1)

pub loop-preserved : goal.loop-preserved
loop-preserved c =
    let ring = c.in_ok-read_ring.ensures.ring in
    let pending = c.read_ring.new.faces.pending in
    let grown : c.close.new.self.mesh ≡ record { count = c.loop.faces.mesh.count; faces = c.loop.faces.mesh.faces ++ pending ∷ [] } =
    ap (λ (p : PendingFace). p.mesh) c.in_ok-close.ensures.ok
    ∙ ap (λ (m : FaceList). let mesh : FaceList = record { count = m.count; faces = m.faces ++ pending ∷ [] } in
    mesh) c.in_ok-read_ring.ensures.mesh in (
      one_face c.args.header.vertices c.args.header.faces c.args.cursor.now c.loop.cursor c.next_line.new.cursor c.read_ring.new.cursor
          c.loop.faces.mesh c.close.new.self.mesh pending c.loop.counter
          c.loop-test.true c.in_ok-next_line.ensures.line c.in_ok-next_line.ensures.end ring.0 ring.1 c.in_ok-read_ring.ensures.line grown
          (ring_room c.args.header.vertices (total_sides c.loop.faces.mesh) c.next_line.new.cursor.line c.next_line.new.cursor.words pending
          ring.0 ring.1)
          c.loop.invariant.0,
      ap (λ (p : PendingFace). p.pending) c.in_ok-close.ensures.ok,
    )

pub returns : goal.returns
returns c =
    subst (λ (m : FaceList). TakesFaces c.args.header.vertices c.args.header.faces c.args.cursor.now (Ok m)) (sym c.finish.ensures)
    (all_faces c.args.header.vertices c.args.header.faces c.args.cursor.now c.loop.cursor c.loop.faces.mesh c.loop.counter
    (omega (arith, c.loop-test.false, c.loop.auto.counter-end)) c.loop.invariant.0)
