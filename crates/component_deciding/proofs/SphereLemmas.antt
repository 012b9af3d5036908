-- Components of genus 0, on which any two walks with common ends are homotopic.
use Rattle.component_deciding.proofs.Common.{IsApart, Apart, IsOfComponent, closed_alone, piece_of_parts, homotopic_alike, coherent_alone, ◌≡◌, ◌↔◌, ℕ, ◌<◌, List, length, get_or, subst, arith, PartsView, AreParts, component_at, component_mesh, FaceList, IsFaceList, HasGenus, Homotopic, signs_among, IsSurface, AreWalkPair}
use Rattle.closed_surfaces.proofs.Genera.{one_genus}
use Rattle.closed_surfaces.proofs.SomeParts.{same_count, same_meshes}
use Rattle.closed_surfaces.specs.ComponentGenera.{AreGeneraOf}
use Rattle.polygon_cut.proofs.GenusLemmas.{homotopic_at_genus_0}
use Rattle.component_deciding.proofs.ComponentLemmas.{IsNumbered, component_valid}
use Rattle.component_deciding.proofs.OwnSurfaces.{own_pair}

-- genera that are told are those of the components, however these are told
pub genus_there : (mesh : FaceList) (parts : PartsView) (genera : List ℕ) (k : ℕ) → IsFaceList mesh → AreParts mesh parts
    → AreGeneraOf mesh genera → k < length parts.components
    → (k < length genera) × HasGenus (component_mesh mesh parts k) (get_or genera k 0)
genus_there mesh parts genera k valid h g l =
    let same : length g.parts.components ≡ length parts.components =
    same_count mesh _ _ g.parts.places parts.places g.are_parts.places h.places in
    let within : k < length genera = omega (arith, same, g.each, l) in (
      within,
      subst (λ (m : FaceList). HasGenus m (get_or genera k 0))
          (same_meshes mesh g.parts parts k valid g.are_parts h (omega (arith, same, l))) (g.genus k within),
    )

-- so a component is a sphere exactly where its genus is told as 0
pub told_as_sphere : (mesh : FaceList) (parts : PartsView) (genera : List ℕ) (k : ℕ) → IsFaceList mesh → AreParts mesh parts
    → AreGeneraOf mesh genera → k < length parts.components → (get_or genera k 0 ≡ 0) ↔ HasGenus (component_mesh mesh parts k) 0
told_as_sphere mesh parts genera k valid h g l =
    let there = genus_there mesh parts genera k valid h g l in (
      λ none. subst (HasGenus (component_mesh mesh parts k)) none there.1,
      λ sphere. one_genus (component_mesh mesh parts k) (get_or genera k 0) 0 there.1 sphere,
    )

pub homotopic_on_sphere : (apart : Apart) (k : ℕ) (first second : List ℕ) → IsApart apart → k < length apart.parts.components
    → HasGenus (component_mesh apart.mesh.faces apart.parts k) 0 → get_or apart.parts.places (get_or first 0 0) 0 ≡ k
    → AreWalkPair apart.mesh.faces first second → Homotopic apart.mesh.faces first second
homotopic_on_sphere apart k first second is l sphere at walks =
    let mesh : FaceList = apart.mesh.faces in
    let names : List ℕ = component_at apart.parts k in
    let alone : FaceList = component_mesh mesh apart.parts k in
    let numbered : IsNumbered mesh apart.parts apart.own k = record { parts_are = is.parts; numbers_are = is.own; within = l } in
    let piece = piece_of_parts mesh apart.parts k is.parts l in
    let surface : IsSurface alone = record {
      closed = closed_alone mesh apart.parts k is.parts l is.signed.manifold;
      orientable = (
        signs_among apart.mesh.signs names,
        coherent_alone mesh (IsOfComponent apart.parts.places k) names apart.mesh.signs piece is.signed.coherent,
      );
    } in
    (homotopic_alike mesh (IsOfComponent apart.parts.places k) names first second piece walks.first_walk at).1
    (homotopic_at_genus_0 alone first second (component_valid mesh apart.parts apart.own k numbered) surface sphere
    (own_pair mesh apart.parts apart.own k first second numbered walks at))
