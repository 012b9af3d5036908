-- The lines of refusals of a mesh that is no surface, as docs/FORMATS.md lists them. Each is proved by computing.
use Rattle.std.specs.Prelude.{◌≡◌, ℕ, List, [], ◌∷◌, ◌++◌, codes, refl}
use Rattle.std.specs.Fmt.{digits}
use Rattle.manifold_check.specs.declared.fault.SurfaceFault.TheVariants as surfaces
use Rattle.surf_model.specs.declared.names.VertexName.{VertexName}
use Rattle.commands.specs.Answers.{Texts, Exactly}
use Rattle.surface_commands.specs.SurfaceRefusals.{surface_line, components_line}

abbrev written : List ℕ → Texts
written text = Exactly (text ++ 10 ∷ [])

abbrev named : ℕ → VertexName
named v = record { 0 = v }

no_surfaces :
    (surface_line surfaces.NoFace ≡ written (codes "refused: no face"))
    × (surface_line (surfaces.EdgeSides (named 1) (named 2) 3) ≡ written (codes "refused: edge 1 2 sides 3"))
    × (surface_line (surfaces.Pinched (named 4)) ≡ written (codes "refused: vertex 4 pinched"))
    × (components_line 1025 ≡ written (codes "refused: surface components 1025"))
unfolding digits
no_surfaces = (refl, refl, refl, refl)
