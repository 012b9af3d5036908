use Rattle.homotopy_arrays.proofs.Common.{IsComponentOf, ◌∙◌, subst, sym, FaceList}
use Rattle.surf_model.specs.Edges.{IsTableOf}
use Rattle.homotopy_arrays.proofs.homologies.whole_of.Goals as goal

pub returns-in-Whole-clause-faces : goal.returns-in-Whole-clause-faces
returns-in-Whole-clause-faces c = λ mesh v component. c.faces.ensures.mesh ∙ subst (IsComponentOf mesh v) c.in-Whole.is component

pub returns-in-Whole-clause-table : goal.returns-in-Whole-clause-table
returns-in-Whole-clause-table c =
    subst (λ (m : FaceList). IsTableOf m c.sides.result.now) (sym c.faces.ensures.mesh)
    (subst (IsTableOf c.in-Whole.surface.mesh) (sym c.sides.ensures.table) c.faces.ensures.valid.table)

pub returns-in-Alone-clause-faces : goal.returns-in-Alone-clause-faces
returns-in-Alone-clause-faces c = λ mesh v component. (subst (IsComponentOf mesh v) c.in-Alone.is component).1

pub returns-in-Alone-clause-table : goal.returns-in-Alone-clause-table
returns-in-Alone-clause-table c =
    let on = c.requires in (subst (IsComponentOf on.0 on.1) c.in-Alone.is on.2).0.whole.table
