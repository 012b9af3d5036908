-- What proofs of this crate cite of its definitions and of other crates, passed on from one place (by tools/imports). Declares nothing.
pub use Rattle.common_ends.proofs.PeakLemmas.{greatest_both, greatest_darts-more, greatest_darts-none, greatest_darts-push, leads_nowhere, one_more, places_within}
pub use Rattle.common_ends.proofs.TrimLemmas.{AreLeft, fewer_darts, left_apart, left_leads, left_together}
pub use Rattle.common_ends.specs.Trimmed.{AreCommonDarts, put_around}
pub use Rattle.connectivity.proofs.CornerLemmas.{after_in_mesh, corner_used, number_once, partners_swap}
pub use Rattle.connectivity.proofs.EdgeCounts.{before_by_table, between_by_table, few_from_table, no_edge_no_side, sides_by_table}
pub use Rattle.connectivity.proofs.EdgeLemmas.{HasSideBetween, edge_differs, side_between, used_below}
pub use Rattle.connectivity.proofs.FirstFaults.{equal, equal_pairs, no_first_pair, no_first_used, one_pinch, same_name, up_to}
pub use Rattle.connectivity.proofs.RingLemmas.{HasPartner, IsAlone, alone_in_edge, partner_back, partner_below, partner_or_alone, partners_by_number}
pub use Rattle.connectivity.specs.Joined.{AreLeastApart, EachVertexHasOneRing, IsLeastUsed, NoEdgeHasThreeSides}
pub use Rattle.free_forms.specs.Normal.{IsNormal, IsNormalWalkOf}
pub use Rattle.free_forms.specs.OpenFaults.{IsBoundaryEdge, IsFirstCrowded, IsFirstOpenFault, IsLeastCrowdedEdge}
pub use Rattle.free_forms.specs.OpenSurfaces.{HasBoundary, IsOpenSurface}
pub use Rattle.free_forms.specs.Parents.{EndsOutside, HasFaceParents, IsParentEdge, Joins, OpenView, expansion, parent_of}
pub use Rattle.free_forms.specs.PeakedLists.{IsListWithin, IsMoveOf, LeadsAtPeak}
pub use Rattle.free_forms.specs.Reductions.{Expands, HasFaceRoom, IsStep, IsTaken, IsWayAlong, ReductionView, SkipsSpur, StepsBack, StepsOn, darts_in, settled, state_of, whole}
pub use Rattle.free_forms.specs.Searches.{Grows, IsClosedUpTo, IsFaceReached, IsParentSearch, IsStartedUpTo, NeighboursReached, SearchView, bit, parent_in, view_of_search, with_side}
pub use Rattle.free_forms.specs.declared.fault.OpenFault.{OpenFault}
pub use Rattle.free_forms.specs.declared.fault.OpenFault.TheVariants.{Apart, EdgeSides, NoBoundary, NoFace, OutOfMemory, Pinched}
pub use Rattle.free_forms.specs.declared.limits.TheConstants.{MOST_OPEN_DARTS, MOST_OPEN_SIDES, MOST_OPEN_STEPS}
pub use Rattle.std.proofs.Common.{Bool, List, ap, append_assoc, arith, drop, eqb, false, get_or, inl, inr, length, length-append, max, not, refl, set, subst, suc, sym, take, true, zero, ℕ, [], ◌*◌, ◌++◌, ◌+◌, ◌-◌, ◌<◌, ◌∙◌, ◌∷◌, ◌≡◌, ◌≢◌, ◌≤◌, ◌⊎◌}
pub use Rattle.std.proofs.lemmas.Bool.{both_ways, cases_Bool, cases_eq, cases_lt, eq-eqb, eqb-true}
pub use Rattle.std.proofs.lemmas.Bool.Decides.{nat_tests}
pub use Rattle.std.proofs.lemmas.Grind.{common_steps}
pub use Rattle.std.proofs.lemmas.List.{drop_more, get_or-map, get_or-set_other, get_or-set_same, get_or_append_left, get_or_default, length-map, length-reverse, length-set, map-append, reverse-append, take_all, take_more}
pub use Rattle.std.proofs.lemmas.List.Sums.{sum_by-cons, sum_by-set, sum_by_push}
pub use Rattle.std.proofs.lemmas.Option.{get_or_from_slice_get}
pub use Rattle.std.specs.Prelude.{All, Contains, IfSome, None, Option, Some, cond, filter, if◌then◌else◌, reverse, slice_get, sum_by, ◌==◌, ◌↔◌}
pub use Rattle.surf_model.proofs.ContextLemmas.{first_answer, one_after_another, stays_walk}
pub use Rattle.surf_model.proofs.EdgeLemmas.{ends_differ, step_within}
pub use Rattle.surf_model.proofs.PartnerLemmas.{IsEdgeOfSide, IsSideOfEdge, edge_has_side, edge_of_side, ends_agree, side_of_edge, table_edge}
pub use Rattle.surf_model.proofs.ReplacementLemmas.{by_replacing}
pub use Rattle.surf_model.proofs.RoundLemmas.{corner_after, meet}
pub use Rattle.surf_model.proofs.TableEdgeLemmas.{IsEdgeBetween, edge_between, sides_between_swap, sides_of_edge}
pub use Rattle.surf_model.proofs.TableLemmas.{Contains-filter, face_side_in, joins_swap}
pub use Rattle.surf_model.proofs.WayBackLemmas.{keeps_walk, list_keeps_ends, list_undone, undone}
pub use Rattle.surf_model.specs.Darts.{IsSide, head_of, side_after, side_number, tail_of}
pub use Rattle.surf_model.specs.Edges.{Edge, HasEnds, IsEdgeOf, IsTableOf, edge_in}
pub use Rattle.surf_model.specs.FaceLists.{FaceList, FaceSide, IsFaceList, all_sides, corners_from, face_at, is_edge, is_used, joins, next_corner, total_sides}
pub use Rattle.surf_model.specs.Moves.{Homotopic, Leads, PeakedMoves, apply, apply_all, greatest_darts}
pub use Rattle.surf_model.specs.Rewriting.{inverse_of, sides_of_move, way_back}
pub use Rattle.surf_model.specs.Surfaces.{AreJoined, AreJoinedByWalk, ArePartners, HasOneRing, IsCornerAt, IsCornerOfSide, IsPath, IsStepAround, sides_between}
pub use Rattle.surf_model.specs.Vertices.{numbers}
pub use Rattle.surf_model.specs.Walks.{AreWalkPair, IsWalk, darts}
pub use Rattle.surf_model.specs.declared.edges.Side.{Side}
pub use Rattle.surf_model.specs.declared.limits.TheConstants.{MOST_PEAK}
pub use Rattle.surf_model.specs.declared.moves.Move.{Move}
pub use Rattle.surf_model.specs.declared.moves.Move.TheVariants.{Across, Insert, Remove}
pub use Rattle.surf_model.specs.declared.names.VertexName.{VertexName}
pub use Rattle.walk_actions.proofs.Actions.{acts_exactly, crosses_any, moves_act_along, run_stays}
pub use Rattle.walk_actions.proofs.Corners.{after_add, after_back, after_more, after_within, beyond_more, corners_apart, corners_beyond, next_back}
pub use Rattle.walk_actions.proofs.Runs.{any_darts, each_any, each_any_of, each_dart, end_beyond, end_from, run-append, run-more, walked-round}
pub use Rattle.walk_actions.specs.Actions.{ActsAlong, EachDart, FacesActAsNothing, run, vertices_beyond, walked}
