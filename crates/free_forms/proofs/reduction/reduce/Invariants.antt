use Rattle.free_forms.proofs.Common.{IsNormal, LeadsAtPeak, state_of, settled, whole, MOST_OPEN_SIDES, ◌*◌, darts}
use Rattle.free_forms.proofs.CostLemmas.{IsPaid}
use Rattle.free_forms.proofs.StepLemmas.{weight}
use Rattle.free_forms.proofs.reduction.reduce.Given as goal

abbrev pub invariant-loop-next : goal.invariant-loop-next
invariant-loop-next l = record {
  leads : LeadsAtPeak l.mesh.mesh l.walk (state_of l.reduction).list (whole (state_of l.reduction));
  normal : IsNormal l.mesh (settled (state_of l.reduction));
  paid : IsPaid l.mesh (darts l.walk * MOST_OPEN_SIDES) (state_of l.reduction);
}

abbrev pub decreases-loop-next : goal.decreases-loop-next
decreases-loop-next l = weight l.mesh (state_of l.reduction).last (state_of l.reduction).coming
