-- The components of a surface, each with its numbers and its genus, and the places that are told of vertices.
use Rattle.std.proofs.Common.{◌≡◌, ◌∙◌, ◌+◌, ◌++◌, ◌∷◌, [], ◌<◌, ℕ, List, true, get_or, length, ap, inl, inr, subst, sym, arith}
use Rattle.std.specs.Prelude.{map}
use Rattle.std.specs.List.{range_with_len}
use Rattle.std.proofs.lemmas.List.{get_or_append_left, get_or_push}
use Rattle.std.proofs.lemmas.List.FromFn.{get_or-map-range_with_len, length-map-range_with_len}
use Rattle.std.proofs.lemmas.Bool.{cases_lt}
use Rattle.surf_model.proofs.EdgeLemmas.{used_below}
use Rattle.surf_model.specs.ComponentParts.{AreParts, PartsView, component_at, component_mesh}
use Rattle.surf_model.specs.Components.{ArePlacesOfComponents, HasLeastVertex, faces_of_component}
use Rattle.surf_model.specs.FaceLists.{FaceList, IsFaceList, is_used}
use Rattle.surf_model.specs.Genera.{HasGenus}
use Rattle.surf_model.specs.OrientableSurfaces.{IsOrientableSurface}
use Rattle.surf_model.specs.Submeshes.{submesh}
use Rattle.closed_surfaces.proofs.SomeParts.{same_count, same_meshes}
use Rattle.closed_surfaces.specs.ComponentGenera.{AreGeneraOf}
use Rattle.homotopy_arrays.specs.ArrayComponents.{AreComponentNumbers, AreComponentsOf, AreNumbersOfParts, AreToldPlaces, IsToldPlace, placed_mesh}
use Rattle.homotopy_arrays.specs.declared.components.SurfaceComponents.{SurfaceComponents}

-- the genera of a mesh are those of its components, however these are told
pub genera_many : (mesh : FaceList) (parts : PartsView) (genera : List ℕ) → AreParts mesh parts → AreGeneraOf mesh genera
    → length genera ≡ length parts.components
genera_many mesh parts genera are h = h.each ∙ same_count mesh _ _ h.parts.places parts.places h.are_parts.places are.places

pub genus_here : (mesh : FaceList) (parts : PartsView) (genera : List ℕ) (k : ℕ) → IsFaceList mesh → AreParts mesh parts
    → AreGeneraOf mesh genera → k < length genera → HasGenus (component_mesh mesh parts k) (get_or genera k 0)
genus_here mesh parts genera k valid are h less =
    subst (λ (m : FaceList). HasGenus m (get_or genera k 0))
    (same_meshes mesh h.parts parts k valid h.are_parts are (omega (arith, less, h.each))) (h.genus k less)

-- the places of one vertex more
pub places_more : (mesh : FaceList) (parts : PartsView) (places : List ℕ) (v place : ℕ) → length places ≡ v
    → ((w : ℕ) → w < v → IsToldPlace mesh parts w (get_or places w 0)) → IsToldPlace mesh parts v place
    → (w : ℕ) → w < v + 1 → IsToldPlace mesh parts w (get_or (places ++ place ∷ []) w 0)
places_more mesh parts places v place many before here w l =
    elim (cases_lt w v) [
      | inl less ↦
          subst (IsToldPlace mesh parts w) (sym (get_or_append_left places (place ∷ []) 0 w (omega (arith, less, many)))) (before w less)
      | inr last ↦
          (let same : v ≡ w = omega (arith, l, last) in
          subst (IsToldPlace mesh parts w) (sym (get_or_push places place 0 w (omega (arith, same, many))))
          (subst (λ (u : ℕ). IsToldPlace mesh parts u place) same here))
    ]

-- ---- the places that are told are those of the components

places_told : (mesh : FaceList) (parts : PartsView) (places : List ℕ) → IsFaceList mesh → AreParts mesh parts
    → AreToldPlaces mesh parts places
    → ArePlacesOfComponents mesh (length parts.components) places
places_told mesh parts places valid are told =
    record {
      each_vertex = told.each_vertex;
      below = λ v used. rw (same v used) (are.places.below v used);
      joined = λ u v one other. rw (same u one, same v other) (are.places.joined u v one other);
      each_place = λ k l. (let found : HasLeastVertex mesh parts.places k = are.places.each_place k l in
          record { vertex = found.vertex; least = found.least; place = same found.vertex found.least.used ∙ found.place });
      in_order = λ u v one other less. rw (same u one.used, same v other.used) (are.places.in_order u v one other less);
    }
  where
    same : (v : ℕ) → is_used mesh v ≡ true → get_or places v 0 ≡ get_or parts.places v 0
    same v used = (told.own v (omega (arith, used_below mesh v valid used, told.each_vertex))).used used

-- so the mesh of a component is the same by either
mesh_told : (mesh : FaceList) (parts : PartsView) (places : List ℕ) (k : ℕ) → IsFaceList mesh → AreParts mesh parts
    → ArePlacesOfComponents mesh (length parts.components) places → k < length parts.components
    → component_mesh mesh parts k ≡ placed_mesh mesh places k
mesh_told mesh parts places k valid are told less =
    let count : ℕ = length parts.components in
    let each : ℕ → List ℕ = faces_of_component mesh places in
    let other : PartsView = record { components = map each (range_with_len 0 count); places = places } in
    let many : length other.components ≡ count = length-map-range_with_len each 0 count in
    let here : (n : ℕ) → n < count → component_at other n ≡ each n = λ n l. get_or-map-range_with_len each 0 count n n [] l (omega arith) in
    let others : AreParts mesh other = record {
      places = subst (λ (n : ℕ). ArePlacesOfComponents mesh n places) (sym many) told;
      faces = λ n l. here n (omega (arith, l, many));
    } in
    same_meshes mesh parts other k valid are others less ∙ ap (submesh mesh) (here k less)

pub components_told : (mesh : FaceList) (parts : PartsView) (found : SurfaceComponents) → IsFaceList mesh → IsOrientableSurface mesh
    → AreParts mesh parts → AreNumbersOfParts mesh parts found.numbers.items → AreToldPlaces mesh parts found.places.items
    → AreComponentsOf mesh found
components_told mesh parts found valid is are numbers told =
    let places = places_told mesh parts found.places.items valid are told in
    record {
      surface = is;
      places = rw numbers.each places;
      unused = λ v l no. (told.own v (omega (arith, l, told.each_vertex))).unused no ∙ sym numbers.each;
      numbers = λ k d l. subst (λ (m : FaceList). AreComponentNumbers m (get_or found.numbers.items k d))
          (mesh_told mesh parts found.places.items k valid are places (omega (arith, l, numbers.each))) (numbers.own k d l);
    }
