-- What proofs of this crate cite of its definitions and of other crates, passed on from one place (by tools/imports). Declares nothing.
pub use Rattle.connectivity.proofs.CornerLemmas.{after_in_mesh, corner_end, corner_in_mesh, corner_used, used_corner}
pub use Rattle.connectivity.proofs.EdgeCounts.{before_by_table, few_of_two, sides_by_table}
pub use Rattle.connectivity.proofs.EdgeLemmas.{HasSideBetween, edge_differs, edge_swap, ends_below, side_between, used_below}
pub use Rattle.connectivity.proofs.FirstFaults.{equal_pairs, no_first_pair, no_first_used, one_pinch, same_name}
pub use Rattle.connectivity.proofs.WalkLemmas.{same_from_walk, walk_from_joined, walk_from_same}
pub use Rattle.connectivity.specs.Partitions.{AreComponents, IsEdgeStep}
pub use Rattle.manifold_check.specs.Faults.{IsFirstFault, IsLeastUnevenEdge}
pub use Rattle.manifold_check.specs.StoredParts.{AreStoredParts, face_numbers, named_face, stored_parts}
pub use Rattle.manifold_check.specs.declared.fault.SurfaceFault.{SurfaceFault}
pub use Rattle.manifold_check.specs.declared.fault.SurfaceFault.TheVariants.{EdgeSides, NoFace, OutOfMemory, Pinched}
pub use Rattle.std.proofs.Common.{Bool, List, add-one, ap, arith, cond, drop, eqb, false, get_or, inl, inr, length, length-append, refl, set, subst, suc, sym, take, true, zero, ℕ, [], ◌++◌, ◌+◌, ◌-◌, ◌<◌, ◌↔◌, ◌∙◌, ◌∷◌, ◌≡◌, ◌≢◌, ◌≤◌, ◌⊎◌}
pub use Rattle.std.proofs.lemmas.Bool.{both_ways, cases_Bool, cases_eq, cases_lt, cond-false, cond-true, eq-eqb, eqb-true}
pub use Rattle.std.proofs.lemmas.Bool.Decides.{nat_tests}
pub use Rattle.std.proofs.lemmas.Grind.{common_steps}
pub use Rattle.std.proofs.lemmas.List.{ext_get_or, get_or-drop, get_or-map, get_or-take, get_or_default, get_or_read, length-drop, length-map, length-set, length-take-le, length_push, take_all}
pub use Rattle.std.proofs.lemmas.List.Elements.{All-filter, All-head, All-map, All-tail, filter-append, filter_passes}
pub use Rattle.std.proofs.lemmas.List.FromFn.{get_or-map-range_with_len, get_or-range_with_len, length-map-range_with_len, length-range_with_len}
pub use Rattle.std.proofs.lemmas.List.Kept.{AllPairs-filter}
pub use Rattle.std.proofs.lemmas.List.Sums.{sum_by-cons, sum_by_more_le}
pub use Rattle.std.specs.List.{enumerate_from, range_with_len}
pub use Rattle.std.specs.Prelude.{All, AllPairs, Contains, Some, filter, flat_map, map, max, not, sum, sum_by, ◌&&◌}
pub use Rattle.surf_model.proofs.EdgeLemmas.{head_used, step_edge, tail_used}
pub use Rattle.surf_model.proofs.FilterLemmas.{filter-map, filter_none}
pub use Rattle.surf_model.proofs.PartsLemmas.{IsPartWithin, get_or-parts, length-parts, part_within}
pub use Rattle.surf_model.proofs.TableEdgeLemmas.{IsEdgeBetween, edge_between, sides_between_swap, sides_of_edge, table_pair}
pub use Rattle.surf_model.proofs.TableLemmas.{Contains-filter, next_within}
pub use Rattle.surf_model.proofs.TallyLemmas.{Fits, count_below-all, count_below-more, count_below-none, count_below_within, counted_more, fits_below, group_cursor_within, group_of-other, group_of_within, grouped_more, grouped_none, sides_more, sums_are_starts}
pub use Rattle.surf_model.specs.Building.{AreGrouped, IsCounted, count_below, group_of}
pub use Rattle.surf_model.specs.ComponentParts.{AreParts, PartsView, component_at, component_mesh}
pub use Rattle.surf_model.specs.Components.{ArePlacesOfComponents, EachTwoAreJoined, HasLeastVertex, IsLeastOfComponent, faces_of_component, place_of_face}
pub use Rattle.surf_model.specs.Darts.{IsSide, head_of, side_after, tail_of}
pub use Rattle.surf_model.specs.Edges.{Edge, IsEdgeOf, IsPairBefore, IsTableOf, edge_in, side_name}
pub use Rattle.surf_model.specs.FaceLists.{FaceList, FaceSide, HasFileSize, IsFace, IsFaceList, corners_from, face_at, is_edge, is_used, joins, next_corner, sides_of_face, total_sides}
unfoldable pub use Rattle.surf_model.specs.FaceLists.{all_sides}
pub use Rattle.surf_model.specs.Genera.{AreNumbersOf}
pub use Rattle.surf_model.specs.Parts.{EndsRise, parts}
pub use Rattle.surf_model.specs.Submeshes.{move_of_whole_mesh, renamed_moves, signs_among, submesh}
pub use Rattle.surf_model.specs.Surfaces.{AreJoined, AreJoinedByWalk, ArePartners, EachEdgeHasTwoSides, HasOneRing, IsClosed, IsClosedManifold, IsCoherent, IsCornerOfSide, IsPath, IsStepAround, IsWalkBetween, RunOppositely, end_under, is_flipped, sides_between, start_under}
pub use Rattle.surf_model.specs.Walks.{IsWalk, darts}
pub use Rattle.surf_model.specs.declared.edges.Side.{Side}
pub use Rattle.surf_model.specs.declared.names.FaceName.{FaceName}
pub use Rattle.surf_model.specs.declared.names.VertexName.{VertexName}
pub use Rattle.surf_model.specs.declared.numbers.SurfaceNumbers.{SurfaceNumbers}
