use Rattle.homotopy_arrays.proofs.Common.{◌∙◌, length, sum, sym, eqb-false, eqb-true}
use Rattle.homotopy_arrays.proofs.kept.KeptMesh.classes.Goals as goal

pub classes_in-requires : goal.classes_in-requires
classes_in-requires c = eqb-true _ _ (sym c.add_up_to.ensures ∙ c.if-not-add_up_to.false)

pub returns-then-not-add_up_to-clause-ends : goal.returns-then-not-add_up_to-clause-ends
returns-then-not-add_up_to-clause-ends c =
    eqb-false (sum c.args.walk_sizes.now) (length c.args.walk_vertices.now) (sym c.add_up_to.ensures ∙ c.if-not-add_up_to.true)
