-- A component over its own vertices is a connected orientable closed surface, and its walks are homotopic there as on the whole mesh.
use Rattle.component_deciding.proofs.Common.{AreOwnNumbers, IsApart, IsOwnWalk, own_mesh, own_number, own_walk, Apart, OwnNumbers, IsOfComponent, closed_alone, piece_of_parts, walk_alone, walk_whole, used_down, homotopic_alike, coherent_alone, homotopic_renamed, led_back, list_restored, ends_renamed, joined_renamed, walk_renamed, IsRenamed, ◌≡◌, ◌↔◌, ℕ, ◌<◌, Bool, true, List, length, get_or, map, sym, ap, ◌∙◌, subst, All-weaker, All, Option, None, Some, map_agree, PartsView, component_at, component_mesh, EachTwoAreJoined, FaceList, IsFaceList, is_used, Homotopic, signs_among, IsClosedManifold, IsClosed, IsCoherent, IsWalk, HaveCommonEnds, AreWalkPair, Answer, IsFoundOn}
use Rattle.renaming.proofs.RenamedSurfaces.{closed_renamed, coherent_renamed}
use Rattle.component_deciding.proofs.ComponentLemmas.{IsNumbered, component_valid}
use Rattle.component_deciding.proofs.OwnLemmas.{own_renamed, used_vertex}

pub own_closed : (mesh : FaceList) (parts : PartsView) (own : OwnNumbers) (k : ℕ) → IsNumbered mesh parts own k → IsClosedManifold mesh
    → IsClosedManifold (own_mesh (component_mesh mesh parts k))
own_closed mesh parts own k h closed =
    let alone : FaceList = component_mesh mesh parts k in
    let valid : IsFaceList alone = component_valid mesh parts own k h in
    let there : IsClosed alone = closed_alone mesh parts k h.parts_are h.within closed in
    closed_renamed _ _ alone (own_mesh alone) valid (own_renamed alone valid)
    (record { some_face = there.some_face; two_sides = there.two_sides; one_ring = there.one_ring })

pub own_joined : (mesh : FaceList) (parts : PartsView) (own : OwnNumbers) (k : ℕ) → IsNumbered mesh parts own k → IsClosedManifold mesh
    → EachTwoAreJoined (own_mesh (component_mesh mesh parts k))
own_joined mesh parts own k h closed =
    let alone : FaceList = component_mesh mesh parts k in
    let valid : IsFaceList alone = component_valid mesh parts own k h in
    let there : IsClosed alone = closed_alone mesh parts k h.parts_are h.within closed in
    joined_renamed _ _ alone (own_mesh alone) valid (own_renamed alone valid) there.connected

pub own_coherent : (mesh : FaceList) (parts : PartsView) (own : OwnNumbers) (signs : List Bool) (k : ℕ) → IsNumbered mesh parts own k
    → IsCoherent mesh signs → IsCoherent (own_mesh (component_mesh mesh parts k)) (signs_among signs (component_at parts k))
own_coherent mesh parts own signs k h coherent =
    let alone : FaceList = component_mesh mesh parts k in
    let valid : IsFaceList alone = component_valid mesh parts own k h in
    coherent_renamed _ _ alone (own_mesh alone) (signs_among signs (component_at parts k)) valid (own_renamed alone valid)
    (coherent_alone mesh (IsOfComponent parts.places k) (component_at parts k) signs (piece_of_parts mesh parts k h.parts_are h.within)
    coherent)

-- the walks of a pair in a component are walks of it, and over its own vertices
pub own_pair : (mesh : FaceList) (parts : PartsView) (own : OwnNumbers) (k : ℕ) (first second : List ℕ) → IsNumbered mesh parts own k
    → AreWalkPair mesh first second → get_or parts.places (get_or first 0 0) 0 ≡ k
    → AreWalkPair (component_mesh mesh parts k) first second
own_pair mesh parts own k first second h walks at = record {
  first_walk = walk_alone mesh parts k first h.parts_are h.within walks.first_walk at;
  second_walk = walk_alone mesh parts k second h.parts_are h.within walks.second_walk
      (ap (λ v. get_or parts.places v 0) (sym walks.ends.starts) ∙ at);
  ends = walks.ends;
}

pub own_homotopic : (mesh : FaceList) (parts : PartsView) (own : OwnNumbers) (k : ℕ) (first second : List ℕ) → IsNumbered mesh parts own k
    → AreWalkPair mesh first second → get_or parts.places (get_or first 0 0) 0 ≡ k
    → Homotopic mesh first second ↔ Homotopic (own_mesh (component_mesh mesh parts k)) (own_walk (component_mesh mesh parts k) first)
    (own_walk (component_mesh mesh parts k) second)
own_homotopic mesh parts own k first second h walks at =
    let alone : FaceList = component_mesh mesh parts k in
    let valid : IsFaceList alone = component_valid mesh parts own k h in
    let there : AreWalkPair alone first second = own_pair mesh parts own k first second h walks at in
    let alike = homotopic_alike mesh (IsOfComponent parts.places k) (component_at parts k) first second
    (piece_of_parts mesh parts k h.parts_are h.within) walks.first_walk at in
    let renamed = homotopic_renamed _ _ alone (own_mesh alone) first second valid (own_renamed alone valid) there.first_walk
    there.second_walk in
    ((λ x. renamed.0 (alike.0 x)), (λ x. alike.1 (renamed.1 x)))

-- by its own numbers a pair of walks of the component is one over its own vertices
pub own_walks : (mesh : FaceList) (parts : PartsView) (own : OwnNumbers) (k : ℕ) (first second : List ℕ) → IsNumbered mesh parts own k
    → AreWalkPair mesh first second → get_or parts.places (get_or first 0 0) 0 ≡ k
    → AreWalkPair (own_mesh (component_mesh mesh parts k)) (own_walk (component_mesh mesh parts k) first)
    (own_walk (component_mesh mesh parts k) second)
own_walks mesh parts own k first second h walks at =
    let alone : FaceList = component_mesh mesh parts k in
    let valid : IsFaceList alone = component_valid mesh parts own k h in
    let there : AreWalkPair alone first second = own_pair mesh parts own k first second h walks at in
    record {
      first_walk = walk_renamed _ _ alone (own_mesh alone) first (own_renamed alone valid) there.first_walk;
      second_walk = walk_renamed _ _ alone (own_mesh alone) second (own_renamed alone valid) there.second_walk;
      ends = ends_renamed (own_number alone) first second there.first_walk.starts there.second_walk.starts there.ends;
    }

-- ---- lists of vertices of a component

abbrev pub IsThere : FaceList → PartsView → ℕ → ℕ → Type 0
IsThere mesh parts k v = (is_used mesh v ≡ true) × (get_or parts.places v 0 ≡ k)

-- the numbers of all vertices make the list over the component's own vertices
pub own_walk_is : (mesh : FaceList) (parts : PartsView) (own : OwnNumbers) (k : ℕ) (walk : List ℕ) → AreOwnNumbers mesh parts own
    → All (IsThere mesh parts k) walk
    → map (λ x. get_or own.numbers.items x 0) walk ≡ own_walk (component_mesh mesh parts k) walk
own_walk_is mesh parts own k walk h there =
    map_agree (λ x. get_or own.numbers.items x 0) (own_number (component_mesh mesh parts k)) walk
    (λ t d l. (let v : ℕ = get_or walk t d in
    h.numbered v (there t d l).0 ∙ ap (λ (j : ℕ). own_number (component_mesh mesh parts j) v) (there t d l).1))

-- and lead back from there
came_back : (mesh : FaceList) (parts : PartsView) (own : OwnNumbers) (k : ℕ) (walk : List ℕ) → IsNumbered mesh parts own k
    → All (IsThere mesh parts k) walk
    → map (used_vertex (component_mesh mesh parts k)) (own_walk (component_mesh mesh parts k) walk) ≡ walk
came_back mesh parts own k walk h there =
    let alone : FaceList = component_mesh mesh parts k in
    let leads = (own_renamed alone (component_valid mesh parts own k h)).leads_back in
    list_restored (own_number alone) (used_vertex alone) walk
    (All-weaker (IsThere mesh parts k) (λ v. used_vertex alone (own_number alone v) ≡ v)
    (λ v is. leads v (used_down mesh (IsOfComponent parts.places k) (component_at parts k) v
    (piece_of_parts mesh parts k h.parts_are h.within) is.1 is.0)) walk there)

-- so where it is a walk there, it is one of the mesh
pub walk_back : (mesh : FaceList) (parts : PartsView) (own : OwnNumbers) (k : ℕ) (walk : List ℕ) → IsNumbered mesh parts own k
    → All (IsThere mesh parts k) walk → IsWalk (own_mesh (component_mesh mesh parts k)) (own_walk (component_mesh mesh parts k) walk)
    → IsWalk mesh walk
walk_back mesh parts own k walk h there w =
    let alone : FaceList = component_mesh mesh parts k in
    let valid : IsFaceList alone = component_valid mesh parts own k h in
    let back : IsRenamed (used_vertex alone) (own_number alone) (own_mesh alone) alone =
    led_back (own_number alone) (used_vertex alone) alone (own_mesh alone) valid (own_renamed alone valid) in
    let home : IsWalk alone walk =
    subst (IsWalk alone) (came_back mesh parts own k walk h there)
    (walk_renamed (used_vertex alone) (own_number alone) (own_mesh alone) alone (own_walk alone walk) back w) in
    (walk_whole mesh parts k walk h.parts_are h.within home).0

walks_back : (mesh : FaceList) (parts : PartsView) (own : OwnNumbers) (k : ℕ) (first second : List ℕ) → IsNumbered mesh parts own k
    → All (IsThere mesh parts k) first → All (IsThere mesh parts k) second
    → AreWalkPair (own_mesh (component_mesh mesh parts k)) (own_walk (component_mesh mesh parts k) first)
    (own_walk (component_mesh mesh parts k) second)
    → AreWalkPair mesh first second
walks_back mesh parts own k first second h here there walks =
    let alone : FaceList = component_mesh mesh parts k in
    let ends : HaveCommonEnds (map (used_vertex alone) (own_walk alone first)) (map (used_vertex alone) (own_walk alone second)) =
    ends_renamed (used_vertex alone) (own_walk alone first) (own_walk alone second) walks.first_walk.starts walks.second_walk.starts
    walks.ends in
    record {
      first_walk = walk_back mesh parts own k first h here walks.first_walk;
      second_walk = walk_back mesh parts own k second h there walks.second_walk;
      ends = subst (λ (w : List ℕ). HaveCommonEnds w second) (came_back mesh parts own k first h here)
          (subst (HaveCommonEnds (map (used_vertex alone) (own_walk alone first))) (came_back mesh parts own k second h there) ends);
    }

-- what is found of two walks over its own vertices is found of them
found_there : (mesh : FaceList) (parts : PartsView) (own : OwnNumbers) (k : ℕ) (first second : List ℕ) (found : Option Answer)
    → IsNumbered mesh parts own k → get_or parts.places (get_or first 0 0) 0 ≡ k → All (IsThere mesh parts k) first
    → All (IsThere mesh parts k) second
    → IsFoundOn (own_mesh (component_mesh mesh parts k)) (own_walk (component_mesh mesh parts k) first)
    (own_walk (component_mesh mesh parts k) second) found
    → IsFoundOn mesh first second found
found_there mesh parts own k first second None h at here there none = λ walks. none (own_walks mesh parts own k first second h walks at)
found_there mesh parts own k first second (Some answer) h at here there told =
    let walks : AreWalkPair mesh first second = walks_back mesh parts own k first second h here there told.0 in
    let alike = own_homotopic mesh parts own k first second h walks at in
    (walks, ((λ homotopic. alike.1 (told.1.0 homotopic)), (λ leads. told.1.1 (alike.0 leads))))

pub found_on : (apart : Apart) (k : ℕ) (first second one other : List ℕ) (alone : FaceList) (found : Option Answer) → IsApart apart
    → k < length apart.parts.components → get_or apart.parts.places (get_or first 0 0) 0 ≡ k → IsOwnWalk apart k first one
    → IsOwnWalk apart k second other → alone ≡ own_mesh (component_mesh apart.mesh.faces apart.parts k) → IsFoundOn alone one other found
    → IsFoundOn apart.mesh.faces first second found
found_on apart k first second one other alone found is l at here there e told =
    let mesh : FaceList = apart.mesh.faces in
    let part : FaceList = component_mesh mesh apart.parts k in
    found_there mesh apart.parts apart.own k first second found
    (record { parts_are = is.parts; numbers_are = is.own; within = l }) at here.there there.there
    (subst (λ (m : FaceList). IsFoundOn m (own_walk part first) (own_walk part second) found) e
    (subst (λ (w : List ℕ). IsFoundOn alone w (own_walk part second) found) here.by_number
    (subst (λ (w : List ℕ). IsFoundOn alone one w found) there.by_number told)))
