use Rattle.homotopy_arrays.proofs.Common.{equal_found, differ_more, differ_all, ℕ, get_or, sym, ap, arith, ◌∙◌, eq-eqb, ne_eqb}
use Rattle.homotopy_arrays.proofs.mesh.has_equal_neighbours.Goals as goal

pub returns-then-face-corner : goal.returns-then-face-corner
returns-then-face-corner c =
    equal_found c.args.face.now c.loop-corner.corner c.loop-corner-test.true
    (eq-eqb _ _ (c.if-face-corner.true ∙ ap (λ (n : ℕ). get_or c.args.face.now n 0) c.corner_after-next.ensures.corner))

pub loop-corner-preserved : goal.loop-corner-preserved
loop-corner-preserved c =
    differ_more c.args.face.now c.loop-corner.corner c.loop-corner-test.true
    (ne_eqb _ _ (λ same. c.if-face-corner.false
    (same ∙ ap (λ (n : ℕ). get_or c.args.face.now n 0) (sym c.corner_after-next.ensures.corner)))) c.loop-corner.invariant

pub returns : goal.returns
returns c = differ_all c.args.face.now c.loop-corner.corner (omega arith) c.loop-corner.invariant
