use Rattle.free_forms.proofs.Common.{OpenView, IsParentEdge, subst, arith, common_steps, get_or_from_slice_get}
use Rattle.free_forms.proofs.ParentEdgeLemmas.{IsSideBetween, side_of_found, no_edge_no_parent, no_side_no_parent, is_parent}
use Rattle.free_forms.proofs.open_mesh.OpenMesh.parent_between.Goals as goal
use Rattle.free_forms.proofs.open_mesh.OpenMesh.parent_between.Goals.{After-side-side}

pub returns-in_default-clause-none : goal.returns-in_default-clause-none
returns-in_default-clause-none c =
    subst (λ (s : OpenView). IsParentEdge s c.args.u.0 c.args.v.0 → ⊥) c.self.view_is
    (no_edge_no_parent c.args.u.0 c.args.v.0 c.self.invariant.parents c.self.invariant.table_of c.in_default.ensures.none)

-- the side that is looked at joins the two vertices
between : (c : After-side-side) → IsSideBetween c.self.inside.faces c.args.u.0 c.args.v.0 c.side-side.result
between c =
    side_of_found c.in-Some.edge.0 c.loop-k.k c.args.u.0 c.args.v.0 c.side-side.result
    c.self.invariant.table_of c.in-Some.ensures.found c.in-Some.ensures.ends (omega arith) c.side-side.ensures

pub index-requires : goal.index-requires
index-requires c = grind (arith, between)

pub returns-then-index-side-clause-face : goal.returns-then-index-side-clause-face
returns-then-index-side-clause-face c = grind (arith, between)

pub returns-then-index-side-clause-parent : goal.returns-then-index-side-clause-parent
returns-then-index-side-clause-parent c = grind (arith, common_steps, between, is_parent)

pub returns-then-index-side-clause-joined : goal.returns-then-index-side-clause-joined
returns-then-index-side-clause-joined c = grind (arith, between)

pub loop-k-preserved : goal.loop-k-preserved
loop-k-preserved c = grind (arith, common_steps, between, get_or_from_slice_get)

pub returns-clause-none : goal.returns-clause-none
returns-clause-none c =
    subst (λ (s : OpenView). IsParentEdge s c.args.u.0 c.args.v.0 → ⊥) c.self.view_is
    (no_side_no_parent c.in-Some.edge.0 c.args.u.0 c.args.v.0 c.self.invariant.parents c.self.invariant.table_of
    c.in-Some.ensures.found c.in-Some.ensures.ends
    (λ j d l same. c.loop-k.invariant j d (omega (arith, l, c.sides_of-k-end.ensures, c.loop-k-test.false)) same))
