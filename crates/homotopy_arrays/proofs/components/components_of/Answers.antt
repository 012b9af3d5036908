use Rattle.closed_surfaces.proofs.Components.{signed_surface}
use Rattle.homotopy_arrays.proofs.PartLemmas.{components_told}
use Rattle.homotopy_arrays.proofs.components.components_of.Goals as goal

pub returns : goal.returns
returns c =
    let surface = c.args.surface.now in
    components_told surface.faces c.in_ok-parts.parts _ c.requires.valid (signed_surface surface c.requires) c.in_ok-parts.ensures
    c.in_ok-numbers.ensures c.in_ok-places.ensures
