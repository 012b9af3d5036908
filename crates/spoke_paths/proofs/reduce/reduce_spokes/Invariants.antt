use Rattle.spoke_paths.proofs.Common.{PathLeads, IsShort, ◌≤◌, ◌<◌, ◌++◌, All, length, drop}
use Rattle.spoke_paths.proofs.reduce.reduce_spokes.Given as goal

abbrev pub invariant-loop-spoke : goal.invariant-loop-spoke
invariant-loop-spoke l = record {
  below : All (λ spoke. spoke < length l.wheel) l.front.items;
  short : IsShort l.wheel l.front.items;
  few : length l.front.items ≤ l.spoke-index;
  leads : PathLeads l.wheel l.fn.spokes l.steps.items (l.front.items ++ drop l.spoke-index l.fn.spokes);
}
