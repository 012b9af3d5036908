-- What was found of two walks on their component, listed, shows the same of them on the whole mesh.
use Rattle.homology_commands.proofs.Common.{walk_there, IsComponentOf, IsPart, surface_of, Homologous, NotHomologous, ShowsHomology, answer_in, OrientedMesh, AreFaceNumbers, AreEdgeNumbers, face_number, edge_number, AreHomologous, IsChain, IsCocycle, number_at, EdgeNumber, FaceNumber, HomologyCert, IsFaceNamed, ListsFaces, IsAmong, ListsEdges, name_in, IsChainFor, IsCocycleFor, IsOfComponent, piece_of_parts, IsPiece, edge_up, length-submesh, ◌≡◌, ◌↔◌, inl, inr, ℕ, ◌<◌, ◌≤◌, true, false, List, length, get_or, refl, ap, ap₂, sym, ◌∙◌, subst, arith, ℤ, pos, cases_lt, filter_passes, range_with_len, All, Linked, links, component_at, IsTableOf, edge_in, FaceList, is_edge, IsWalk}
use Rattle.closed_surfaces.specs.declared.component.Component.{Component}
use Rattle.closed_surfaces.specs.declared.component.Component.TheVariants.{Whole, Alone}
use Rattle.homology.proofs.PairingLemmas.{refuted}
use Rattle.homology.specs.Verdicts.{HasFace, HasEdge}
use Rattle.std.proofs.lemmas.List.{get_or_past}
use Rattle.surf_model.proofs.TableEdgeLemmas.{IsEdgeBetween, edge_between, same_pair, table_pair}
use Rattle.homology.specs.declared.certificate.HomologyCert.TheVariants as certificates
use Rattle.homology_commands.proofs.PieceChains.{chain_alike, chain_widened}
use Rattle.homology_commands.proofs.PieceCocycles.{IsWidened, cocycle_alike, cocycle_widened, separates_widened}

-- ---- names of faces

-- the faces of a component are faces of the mesh
pub name_within : (mesh : FaceList) (v : ℕ) (component : Component) (f : ℕ) → IsComponentOf mesh v component
    → f < length (surface_of component).mesh.faces → name_in component f < length mesh.faces
name_within mesh v (Whole surface) f h l = subst (λ (m : FaceList). f < length m.faces) h l
name_within mesh v (Alone part) f h l =
    let is : IsPart part = h.0 in
    let names : List ℕ = component_at part.parts part.place in
    let long : length part.alone.mesh.faces ≡ length names =
    ap (λ (m : FaceList). length m.faces) is.mesh ∙ length-submesh part.whole.faces names in
    let few : f < length names = omega (arith, l, long) in
    subst (λ (m : FaceList). get_or names f 0 < length m.faces) h.1
    ((piece_of_parts part.whole.faces part.parts part.place is.parts is.within).each f few)

-- and their names rise
pub names_rise : (mesh : FaceList) (v : ℕ) (component : Component) (f g : ℕ) → IsComponentOf mesh v component → f < g
    → g < length (surface_of component).mesh.faces → name_in component f < name_in component g
names_rise mesh v (Whole surface) f g h less l = less
names_rise mesh v (Alone part) f g h less l =
    let is : IsPart part = h.0 in
    let names : List ℕ = component_at part.parts part.place in
    let long : length part.alone.mesh.faces ≡ length names =
    ap (λ (m : FaceList). length m.faces) is.mesh ∙ length-submesh part.whole.faces names in
    let few : g < length names = omega (arith, l, long) in
    (piece_of_parts part.whole.faces part.parts part.place is.parts is.within).rising f g less few

-- ---- chains

-- the numbers of the faces, where all faces are those of the component
whole_numbers : (surface : OrientedMesh) (numbers : List ℤ) (lines : List FaceNumber)
    → ListsFaces (name_in (Whole surface)) (number_at numbers) (length numbers) lines → (f : ℕ)
    → face_number lines f ≡ number_at numbers f
whole_numbers surface numbers lines listed f = elim (cases_lt f (length numbers)) [
  | inl less ↦ listed.each f less
  | inr past ↦
      listed.others f (λ k l e. let same : k ≡ f = e in omega (arith, l, same, past))
      ∙ sym (get_or_past numbers f (pos 0) (omega (arith, past)))
]

chain_of : (mesh : FaceList) (v : ℕ) (component : Component) (first second : List ℕ) (numbers : List ℤ) (lines : List FaceNumber)
    → IsComponentOf mesh v component → Linked (surface_of component).mesh first → Linked (surface_of component).mesh second
    → IsChainFor (surface_of component) first second numbers
    → ListsFaces (name_in component) (number_at numbers) (length numbers) lines → IsChain mesh (face_number lines) first second
chain_of mesh v (Whole surface) first second numbers lines h one two found listed =
    subst (λ (m : FaceList). IsChain m (face_number lines) first second) h
    (chain_alike surface.mesh (face_number lines) (number_at numbers) first second (whole_numbers surface numbers lines listed) found.chain)
chain_of mesh v (Alone part) first second numbers lines h one two found listed =
    let is : IsPart part = h.0 in
    let whole : FaceList = part.whole.faces in
    let names : List ℕ = component_at part.parts part.place in
    let piece : IsPiece whole (IsOfComponent part.parts.places part.place) names =
    piece_of_parts whole part.parts part.place is.parts is.within in
    let all : List ℕ = range_with_len 0 (length whole.faces) in
    let long : length numbers ≡ length names =
    found.each_face ∙ ap (λ (m : FaceList). length m.faces) is.mesh ∙ length-submesh whole names in
    let passes : (k : ℕ) → k < length names → piece.test (get_or names k 0) ≡ true =
    subst (λ (ns : List ℕ). (k : ℕ) → k < length ns → piece.test (get_or ns k 0) ≡ true) (sym piece.names_are)
    (λ k l. filter_passes piece.test all k 0 l) in
    subst (λ (m : FaceList). IsChain m (face_number lines) first second) h.1
    (chain_widened whole names piece.test piece.names_are (face_number lines) (number_at numbers)
    (λ f l off. listed.others f (λ k lk e.
    let clash : true ≡ false = sym (passes k (omega (arith, lk, long))) ∙ ap piece.test e ∙ off in
    cc))
    (λ k l. sym (listed.each k (omega (arith, l, long)))) first second
    (subst (λ (m : FaceList). Linked m first) is.mesh one) (subst (λ (m : FaceList). Linked m second) is.mesh two)
    (subst (λ (m : FaceList). IsChain m (number_at numbers) first second) is.mesh found.chain))

pub shows_chain : (mesh : FaceList) (v : ℕ) (component : Component) (first second : List ℕ) (numbers : List ℤ) (lines : List FaceNumber)
    → IsComponentOf mesh v component → IsWalk mesh first → IsWalk mesh second → get_or first 0 0 ≡ v → get_or second 0 0 ≡ v
    → IsChainFor (surface_of component) first second numbers
    → ListsFaces (name_in component) (number_at numbers) (length numbers) lines → AreFaceNumbers lines
    → ShowsHomology mesh first second (certificates.Chain lines)
shows_chain mesh v component first second numbers lines h w z starts also found listed valid =
    let there : All (HasFace mesh) lines =
    λ k d l.
    let line : FaceNumber = get_or lines k d in
    let is : IsFaceNamed (name_in component) (length numbers) line = listed.named k d l in
    subst (λ f. f < length mesh.faces) is.2 (name_within mesh v component is.0 h (omega (arith, is.1, found.each_face))) in
    record {
      holds = (
        there,
        chain_of mesh v component first second numbers lines h
            (links (surface_of component).mesh first (walk_there mesh v component first h w starts))
            (links (surface_of component).mesh second (walk_there mesh v component second h z also)) found listed,
      );
      fits = (valid, listed.fits);
      no_zeros = listed.no_zeros;
    }

-- ---- cocycles

-- what is listed are the numbers of the edges of the component, and 0 for all other pairs
widened : (surface : OrientedMesh) (first second : List ℕ) (numbers : List ℤ) (lines : List EdgeNumber)
    → IsTableOf surface.mesh surface.table → (found : IsCocycleFor surface first second numbers)
    → ListsEdges surface.table (number_at numbers) (length numbers) lines → IsWidened surface.mesh (edge_number lines) found.of_edge
widened surface first second numbers lines table found listed = record {
  agree = λ u v less edge.
      let there : IsEdgeBetween surface.table u v = edge_between surface.mesh surface.table u v table edge in
      let e : ℕ = there.edge in
      let ends = same_pair u v (edge_in surface.table e).low (edge_in surface.table e).high less
      (table.edges e _ there.in_table).ordered there.ends in
      ap₂ (λ x y. edge_number lines x y) (sym ends.0) (sym ends.1)
      ∙ listed.each e (omega (arith, there.in_table, found.each_edge.long)) ∙ found.each_edge.each e there.in_table
      ∙ ap₂ (λ x y. found.of_edge x y) ends.0 ends.1;
  off = λ u v none.
      listed.others u v (λ k l ends.
      let clash : true ≡ false =
      sym (table_pair surface.mesh surface.table k table (omega (arith, l, found.each_edge.long)))
      ∙ ap₂ (λ x y. is_edge surface.mesh x y) ends.0 ends.1 ∙ none in
      cc);
}

-- the listed pairs are edges
listed_edges : (surface : OrientedMesh) (count : ℕ) (number : ℕ → ℤ) (lines : List EdgeNumber) → IsTableOf surface.mesh surface.table
    → count ≤ length surface.table → ListsEdges surface.table number count lines → All (HasEdge surface.mesh) lines
listed_edges surface count number lines table few listed = λ k d l.
    let is : IsAmong surface.table count (get_or lines k d) = listed.among k d l in
    sym (ap₂ (λ x y. is_edge surface.mesh x y) is.2 is.3)
    ∙ table_pair surface.mesh surface.table is.0 table (omega (arith, is.1, few))

-- an edge of the component is one of the mesh
edges_there : (mesh : FaceList) (v : ℕ) (component : Component) (lines : List EdgeNumber) → IsComponentOf mesh v component
    → All (HasEdge (surface_of component).mesh) lines → All (HasEdge mesh) lines
edges_there mesh v (Whole surface) lines h all = subst (λ (m : FaceList). All (HasEdge m) lines) h all
edges_there mesh v (Alone part) lines h all =
    let is : IsPart part = h.0 in
    subst (λ (m : FaceList). All (HasEdge m) lines) h.1 (λ k d l.
    let line : EdgeNumber = get_or lines k d in
    edge_up part.whole.faces (IsOfComponent part.parts.places part.place) (component_at part.parts part.place) line.low.0 line.high.0
    (piece_of_parts part.whole.faces part.parts part.place is.parts is.within)
    (subst (λ (m : FaceList). is_edge m line.low.0 line.high.0 ≡ true) is.mesh (all k d l)))

cocycle_of : (mesh : FaceList) (v : ℕ) (component : Component) (wide narrow : ℕ → ℕ → ℤ) → IsComponentOf mesh v component
    → IsWidened (surface_of component).mesh wide narrow → IsCocycle (surface_of component).mesh narrow → IsCocycle mesh wide
cocycle_of mesh v (Whole surface) wide narrow h is cocycle =
    subst (λ (m : FaceList). IsCocycle m wide) h (cocycle_alike surface.mesh wide narrow is cocycle)
cocycle_of mesh v (Alone part) wide narrow h is cocycle =
    let this : IsPart part = h.0 in
    subst (λ (m : FaceList). IsCocycle m wide) h.1
    (cocycle_widened part.whole.faces part.parts part.place this.parts this.within wide narrow
    (subst (λ (m : FaceList). IsWidened m wide narrow) this.mesh is) (subst (λ (m : FaceList). IsCocycle m narrow) this.mesh cocycle))

pub shows_cocycle : (mesh : FaceList) (v : ℕ) (component : Component) (first second : List ℕ) (numbers : List ℤ)
    (lines : List EdgeNumber) → IsComponentOf mesh v component → IsTableOf (surface_of component).mesh (surface_of component).table
    → IsWalk mesh first → IsWalk mesh second → get_or first 0 0 ≡ v → get_or second 0 0 ≡ v
    → IsCocycleFor (surface_of component) first second numbers
    → ListsEdges (surface_of component).table (number_at numbers) (length numbers) lines → AreEdgeNumbers lines
    → ShowsHomology mesh first second (certificates.Cocycle lines)
shows_cocycle mesh v component first second numbers lines h table w z starts also found listed valid =
    let surface : OrientedMesh = surface_of component in
    let is : IsWidened surface.mesh (edge_number lines) found.of_edge = widened surface first second numbers lines table found listed in
    record {
      holds = (
        edges_there mesh v component lines h
            (listed_edges surface (length numbers) (number_at numbers) lines table (omega (arith, found.each_edge.long)) listed),
        cocycle_of mesh v component (edge_number lines) found.of_edge h is found.cocycle,
        separates_widened surface.mesh (edge_number lines) found.of_edge is first second
            (links surface.mesh first (walk_there mesh v component first h w starts))
            (links surface.mesh second (walk_there mesh v component second h z also)) found.separates,
      );
      fits = (valid, listed.fits);
      no_zeros = listed.no_zeros;
    }

-- ---- what a certificate shows

no_chain : NotHomologous ≡ Homologous → ⊥
no_chain e = cc

-- it is a chain exactly where the walks are homologous
pub answer_decides : (mesh : FaceList) (first second : List ℕ) (shown : HomologyCert) → IsWalk mesh first → IsWalk mesh second
    → ShowsHomology mesh first second shown → (answer_in shown ≡ Homologous) ↔ AreHomologous mesh first second
answer_decides mesh first second (certificates.Chain lines) w z is = ((λ e. (face_number lines, is.holds.1)), (λ h. refl))
answer_decides mesh first second (certificates.Cocycle lines) w z is = (
  (λ e. absurd (no_chain e)),
  (λ h. absurd (refuted mesh (edge_number lines) first second w z is.holds.1 is.holds.2 h.0 h.1)),
)
