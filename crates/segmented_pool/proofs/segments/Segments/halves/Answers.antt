use Rattle.segmented_pool.proofs.Common.{Parts, ap}
use Rattle.segmented_pool.proofs.RowEdits.{live}
use Rattle.segmented_pool.proofs.segments.Segments.halves.Goals as goal

pub halves-requires : goal.halves-requires
halves-requires c =
    live _ _ _ c.self.invariant (ap (λ (v : Parts). v.parts) c.self.view_is) c.args.index _ c.requires c.index.ensures
