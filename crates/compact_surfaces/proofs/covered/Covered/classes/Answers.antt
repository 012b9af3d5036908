use Rattle.compact_surfaces.proofs.Common.{mesh_of_finder, subst, ◌∙◌, IfErr, IfOk, FaceList, IsClassFault, AreClasses, NoWalk}
use Rattle.compact_surfaces.proofs.ClassLemmas.{classes_end, fault_end}
use Rattle.compact_surfaces.proofs.covered.Covered.classes.Goals as goal

pub lifts_of-requires-clause-walks : goal.lifts_of-requires-clause-walks
lifts_of-requires-clause-walks c = rw c.in_default.is at c.first_no_walk.ensures

pub returns-in-Some-clause-fault : goal.returns-in-Some-clause-fault
returns-in-Some-clause-fault c =
    subst (λ (m : FaceList). IsClassFault m c.args.walks.now (NoWalk c.in-Some.place)) c.self.view_is
    (rw c.in-Some.is at c.first_no_walk.ensures)

pub returns-clause-classes : goal.returns-clause-classes
returns-clause-classes c =
    subst (λ (m : FaceList). IfOk c.classes_by-numbers.result (λ numbers. AreClasses m c.args.walks.now numbers.items)) c.self.view_is
    (classes_end c.self.inside.faces (mesh_of_finder c.self.inside.finder) c.self.inside.ways c.args.walks.now c.deref.result.now
    c.len.ensures.valid c.self.invariant.ways c.self.invariant.is_cover (rw c.in_default.is at c.first_no_walk.ensures)
    (c.deref.ensures.value ∙ c.in_ok-lifts.ensures) c.classes_by-numbers.result c.classes_by-numbers.ensures.classes)

pub returns-clause-fault : goal.returns-clause-fault
returns-clause-fault c =
    subst (λ (m : FaceList). IfErr c.classes_by-numbers.result (IsClassFault m c.args.walks.now)) c.self.view_is
    (fault_end c.self.inside.faces (mesh_of_finder c.self.inside.finder) c.self.inside.ways c.args.walks.now c.deref.result.now
    c.len.ensures.valid c.self.invariant.ways c.self.invariant.is_cover (rw c.in_default.is at c.first_no_walk.ensures)
    (c.deref.ensures.value ∙ c.in_ok-lifts.ensures) c.classes_by-numbers.result c.classes_by-numbers.ensures.fault)
