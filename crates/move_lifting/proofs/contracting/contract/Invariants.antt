use Rattle.move_lifting.proofs.Common.{darts_of, IsLooper, KeepsBound, ℕ, ◌+◌, ◌*◌, ◌≤◌, length, drop}
use Rattle.move_lifting.proofs.ContractLemmas.{IsContracted}
use Rattle.move_lifting.proofs.contracting.contract.Given as goal

abbrev pub invariant-loop-step : goal.invariant-loop-step
invariant-loop-step l = record {
  so_far : IsContracted l.looping.cut.now.on.surface.now l.looping.cut.now.on.split.now l.looping.cut.now.polygon.now
      l.looping.behind l.fn.track l.track l.path.items
      (drop l.step-index l.step-items);
  few : length l.path.items ≤ length l.fn.reduction.spokes.items;
  low : (pairs : ℕ) → length l.fn.reduction.spokes.items ≤ 2 * pairs
      → KeepsBound (darts_of l.looping.cut.now.on.surface.now) l.looping.behind (pairs + 1) l.fn.track.list.peak l.track.list.peak;
  looper : IsLooper l.looping.cut.now.on.surface.now l.looping.cut.now.on.split.now l.looping.cut.now.polygon.now l.looper;
}
