-- Why a mesh is refused that is to be an orientable closed surface: the line for each fault.
use Rattle.std.specs.Prelude.{ℕ, ◌∷◌, codes, decimal, []}
use Rattle.manifold_check.specs.declared.fault.SurfaceFault.{SurfaceFault}
use Rattle.manifold_check.specs.declared.fault.SurfaceFault.TheVariants as surfaces
use Rattle.commands.specs.Answers.{Texts, NoText}
use Rattle.commands.specs.Refusals.{told}

-- the first condition of a closed manifold that fails, with its least element
abbrev pub surface_line : SurfaceFault → Texts
surface_line surfaces.NoFace = told (codes "no face" ∷ [])
surface_line (surfaces.EdgeSides low high sides) =
    told (codes "edge" ∷ decimal low.0 ∷ decimal high.0 ∷ codes "sides" ∷ decimal sides ∷ [])
surface_line (surfaces.Pinched vertex) = told (codes "vertex" ∷ decimal vertex.0 ∷ codes "pinched" ∷ [])
surface_line surfaces.OutOfMemory = NoText

-- a surface of more components than a command takes, with their number
abbrev pub components_line : ℕ → Texts
components_line count = told (codes "surface components" ∷ decimal count ∷ [])
