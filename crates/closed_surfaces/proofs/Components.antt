-- The component in which a walk lies.
use Rattle.closed_surfaces.proofs.Common.{IsSigned, IsPart, IsComponentOf, surface_of, walk_alone, ◌≡◌, ℕ, List, get_or, sym, ap, ◌∙◌, subst, Result, Ok, Err, IfOk, FaceList, IsOrientableSurface}
use Rattle.closed_surfaces.specs.declared.component.Component.{Component}
use Rattle.closed_surfaces.specs.declared.component.Component.TheVariants.{Whole, Alone}
use Rattle.closed_surfaces.specs.declared.signed_mesh.SignedMesh.{SignedMesh}
use Rattle.surf_model.specs.Walks.{IsWalk}

-- a signed mesh is an orientable closed surface
pub signed_surface : (signed : SignedMesh) → IsSigned signed → IsOrientableSurface signed.faces
signed_surface signed is = record { manifold = is.manifold; orientable = (signed.signs, is.coherent) }

pub walk_there : (mesh : FaceList) (v : ℕ) (component : Component) (walk : List ℕ) → IsComponentOf mesh v component → IsWalk mesh walk
    → get_or walk 0 0 ≡ v → IsWalk (surface_of component).mesh walk
walk_there mesh v (Whole surface) walk h w start = subst (λ (m : FaceList). IsWalk m walk) (sym h) w
walk_there mesh v (Alone part) walk h w start =
    let is : IsPart part = h.0 in
    subst (λ (m : FaceList). IsWalk m walk) (sym is.mesh)
    (walk_alone part.whole.faces part.parts part.place walk is.parts is.within (subst (λ (m : FaceList). IsWalk m walk) (sym h.1) w)
    (ap (λ (n : ℕ). get_or part.parts.places n 0) start ∙ h.2))
