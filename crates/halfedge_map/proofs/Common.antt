-- What proofs of this crate cite of its definitions and of other crates, passed on from one place (by tools/imports). Declares nothing.
pub use Rattle.halfedge_map.specs.DartMaps.{IsDartOfSide, StartsAtCorner, darts_of}
unfoldable pub use Rattle.halfedge_map.specs.DartMaps.{dart_at_corner, edge_of, end_corner_of, euler_of, face_of, next_of, origin_of, side_of, start_corner_of, target_of, twin_of, used_vertices}
pub use Rattle.halfedge_map.specs.Orbits.{IsReached, after_steps}
pub use Rattle.halfedge_map.specs.OrientedMeshes.{IsOrientedSurface, OrientedMesh}
pub use Rattle.halfedge_map.specs.RotationSystems.{HasSomeDart, IsDartFrom, IsDartStep, IsEdgeWithEnds, IsRotationSystem, NamesAll, rotations_of}
pub use Rattle.halfedge_map.specs.StoredDarts.{KeepOrigins, ListNexts, ListOrigins, signed}
pub use Rattle.std.proofs.Common.{Bool, List, ap, arith, cond, eqb, false, get_or, inl, inr, length, not, of_z, pos, refl, subst, suc, sym, to_z, true, w64, zero, ℕ, [], ◌&&◌, ◌++◌, ◌+ℤ◌, ◌+◌, ◌-ℤ◌, ◌-◌, ◌<◌, ◌^◌, ◌||◌, ◌∙◌, ◌∷◌, ◌≡◌, ◌≢◌, ◌≤◌, ◌⊎◌}
pub use Rattle.std.proofs.lemmas.Bool.{and_from, and_parts, both_ways, cases_Bool, cases_lt, cond-false, cond-true, eq-eqb, eqb-true}
pub use Rattle.std.proofs.lemmas.Bool.Decides.{nat_tests}
pub use Rattle.std.proofs.lemmas.Grind.{common_steps}
pub use Rattle.std.proofs.lemmas.List.{get_or-map, get_or_default, length-map}
pub use Rattle.std.proofs.lemmas.List.Folds.{Any-from_list_any, list_any_at}
pub use Rattle.std.specs.List.{list_any, range_with_len}
pub use Rattle.std.specs.Prelude.{Contains, Some, filter, find, slice_get, unwrap_or, ◌↔◌}
pub use Rattle.surf_model.proofs.NumberLemmas.{face_side, length-all_sides}
pub use Rattle.surf_model.specs.Darts.{IsSide, first_side, side_after, side_number, tail_of}
pub use Rattle.surf_model.specs.Edges.{Edge, HasEnds, IsEdgeOf, IsPairBefore, IsTableOf, edge_in, side_name}
pub use Rattle.surf_model.specs.FaceLists.{FaceList, FaceSide, IsFace, IsFaceList, face_at, joins, next_corner, total_sides}
unfoldable pub use Rattle.surf_model.specs.FaceLists.{all_sides, is_edge, is_used}
pub use Rattle.surf_model.specs.Numbers.{count_below, first_below}
pub use Rattle.surf_model.specs.Surfaces.{AreJoined, ArePartners, IsCornerAt, IsCornerOfSide, IsPath, IsStepAround, IsWalkBetween, RunOppositely, end_under, is_flipped, start_under}
pub use Rattle.surf_model.specs.declared.edges.Side.{Side}
pub use Rattle.surf_model.specs.declared.names.DartName.{DartName}
