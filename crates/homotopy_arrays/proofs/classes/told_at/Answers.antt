use Rattle.homotopy_arrays.proofs.Common.{IsWalkIn, two_walks_fault, List, ℕ, subst, sym, Some}
use Rattle.std.specs.Prelude.{◌≡◌}
use Rattle.homotopy_arrays.proofs.classes.told_at.Goals as goal

pub fault_of-requires : goal.fault_of-requires
fault_of-requires c =
    subst (λ (w : List ℕ). IsWalkIn c.args.surface.now w → ⊥) (sym c.slice_at-list.ensures) c.requires.none.none

pub returns-in-Ok : goal.returns-in-Ok
returns-in-Ok c = (
  c.requires.sizes,
  c.requires.none,
  subst (λ (w : List ℕ). two_walks_fault c.args.surface.now w w ≡ Some c.in-Ok.fault) c.slice_at-list.ensures c.in-Ok.ensures,
)
