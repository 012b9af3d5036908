-- What proofs of this crate cite of its definitions and of other crates, passed on from one place (by tools/imports). Declares nothing.
pub use Rattle.closed_surfaces.specs.SignedSurfaces.{IsComponentOf, IsPart, IsSigned, surface_of}
pub use Rattle.connectivity.proofs.CornerLemmas.{corner_used}
pub use Rattle.manifold_check.proofs.PartPieces.{IsOfComponent, closed_alone, names_within, one_component, piece_of_parts, walk_alone}
pub use Rattle.manifold_check.proofs.PieceSurfaces.{coherent_alone}
pub use Rattle.std.proofs.Common.{Bool, List, add-one, ap, arith, eqb, get_or, inl, inr, length, refl, rules, subst, suc, sym, true, zero, ℕ, [], ◌*◌, ◌++◌, ◌+◌, ◌-◌, ◌/◌, ◌<◌, ◌∙◌, ◌∷◌, ◌≡◌, ◌≤◌, ◌⊎◌}
pub use Rattle.std.proofs.lemmas.Bool.{cases_Bool, cases_eq, cases_lt, cases_order, eq-eqb}
pub use Rattle.std.proofs.lemmas.List.{ext_get_or, get_or-map, get_or_append_left, get_or_push, get_or_read, length-map, length_push}
pub use Rattle.std.proofs.lemmas.List.Elements.{All-head, All-tail}
pub use Rattle.std.proofs.lemmas.List.FromFn.{get_or-map-range_with_len, get_or-range_with_len, length-map-range_with_len, length-range_with_len}
pub use Rattle.std.specs.List.{range_with_len}
pub use Rattle.std.specs.Prelude.{All, Err, IfOk, Ok, Result, filter, map, max, min, pos, ℤ, ◌+ℤ◌, ◌-ℤ◌}
pub use Rattle.surf_model.proofs.EdgeTables.{some_table}
pub use Rattle.surf_model.specs.ComponentParts.{AreParts, PartsView, component_at, component_mesh}
pub use Rattle.surf_model.specs.Components.{ArePlacesOfComponents, EachTwoAreJoined, HasLeastVertex, IsLeastOfComponent, faces_of_component, place_of_face}
pub use Rattle.surf_model.specs.Edges.{Edge, IsTableOf, edge_in}
pub use Rattle.surf_model.specs.FaceLists.{FaceList, IsFace, IsFaceList, face_at, is_used}
pub use Rattle.surf_model.specs.Genera.{AreNumbersOf, HasGenus, LiesOnSphere}
pub use Rattle.surf_model.specs.OrientableSurfaces.{IsOrientableSurface}
pub use Rattle.surf_model.specs.Submeshes.{signs_among, submesh}
pub use Rattle.surf_model.specs.Surfaces.{IsClosedManifold, IsCoherent, IsOrientable, IsSurface}
pub use Rattle.surf_model.specs.declared.numbers.SurfaceNumbers.{SurfaceNumbers}
