-- Chains of faces, each joined to the next one across an edge. Odd ones exclude coherent signs.
use Rattle.std.specs.Prelude.{◌≡◌, ◌⊎◌, ℕ, ◌<◌, ◌%◌, ◌==◌, Bool, true, List, [], ◌∷◌, length, map, filter, count_by}
use Rattle.std.specs.List.{list_all}
use Rattle.surf_model.specs.FaceLists.{FaceList, FaceSide, all_sides, joins}
use Rattle.surf_model.specs.declared.chains.ChainLink.{ChainLink}

-- the sides of the link's edge, by rising face and then by rising place
abbrev pub sides_across : FaceList → ChainLink → List FaceSide
sides_across mesh link = filter (joins link.low.0 link.high.0) (all_sides mesh)

-- the faces of these sides
abbrev pub faces_across : FaceList → ChainLink → List ℕ
faces_across mesh link = map (λ side. side.face) (sides_across mesh link)

-- a link leads from its face to another: its edge has exactly two sides, one of each of the two faces
pub record LeadsTo (mesh : FaceList) (link : ChainLink) (next : ℕ) : Type 0 where
  pub ordered : link.low.0 < link.high.0
  pub faces : (faces_across mesh link ≡ link.face.0 ∷ next ∷ []) ⊎ (faces_across mesh link ≡ next ∷ link.face.0 ∷ [])

-- the face at which some links start, or another one where there are none
abbrev pub first_face : List ChainLink → ℕ → ℕ
first_face [] other = other
first_face (link ∷ links) other = link.face.0

-- each link leads to the face of the one after it, and the last one to the face given
abbrev pub LeadOnTo : FaceList → List ChainLink → ℕ → Type 0
LeadOnTo mesh [] last = Unit {0}
LeadOnTo mesh (link ∷ links) last = LeadsTo mesh link (first_face links last) × LeadOnTo mesh links last

-- whether sides that join two vertices all run the same way: they start at the same vertex
abbrev pub run_alike : List FaceSide → Bool
run_alike [] = true
run_alike (side ∷ others) = list_all (λ other. other.tail == side.tail) others

-- whether a link is turned: the two sides of its edge run the same way, as their faces list them
abbrev pub is_turned : FaceList → ChainLink → Bool
is_turned mesh link = run_alike (sides_across mesh link)

-- a chain that leads back to its first face, and has an odd number of turned links
pub record IsOddChain (mesh : FaceList) (chain : List ChainLink) : Type 0 where
  pub some_link : 0 < length chain
  pub closed : LeadOnTo mesh chain (first_face chain 0)
  pub odd : count_by (is_turned mesh) chain % 2 ≡ 1
