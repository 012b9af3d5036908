use Rattle.homotopy_arrays.proofs.Common.{ℕ, List, take, arith, sym, ap, subst, ◌∙◌, ◌≡◌, take_all, PendingFace, IsFace}
use Rattle.homotopy_arrays.proofs.MeshLemmas.{is_face}
use Rattle.homotopy_arrays.proofs.mesh.put_face.Goals as goal

pub close-requires-clause-face : goal.close-requires-clause-face
close-requires-clause-face c =
    let face : List ℕ = c.args.face.now in
    let whole : take c.loop-corner.corner-index face ≡ face = take_all c.loop-corner.corner-index face (omega arith) in
    let pending : c.loop-corner.faces.pending ≡ face = ap (λ (p : PendingFace). p.pending) c.loop-corner.invariant ∙ whole in
    let count : c.loop-corner.faces.mesh.count ≡ c.args.vertices =
    ap (λ (p : PendingFace). p.mesh.count) c.loop-corner.invariant ∙ c.requires.vertices in
    subst (λ (n : ℕ). IsFace n c.loop-corner.faces.pending) (sym count)
    (subst (IsFace c.args.vertices) (sym pending)
    (is_face c.args.vertices face
    (record {
      polygon = c.if-face-lt3.false;
      below = sym c.are_below.ensures ∙ c.if-not-are_below.false;
      apart = sym c.has_equal_neighbours.ensures ∙ c.if-has_equal_neighbours.false;
    })))
