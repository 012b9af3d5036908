-- What proofs of this crate cite of its definitions and of other crates, passed on from one place (by tools/imports). Declares nothing.
pub use Rattle.halfedge_map.proofs.DartLemmas.{corner-next, dart_starts, end_flipped, end_kept, face_at_number, origin_at, start_corner_within, start_flipped, start_kept}
pub use Rattle.halfedge_map.proofs.EdgeLemmas.{dart_between, edge-twin, edge_of_dart}
pub use Rattle.halfedge_map.proofs.NumberLemmas.{HasPlace, IsNumberOf, number_below, placed}
pub use Rattle.halfedge_map.proofs.OrbitLemmas.{AreAlike, IsPermutationBelow, Returns, reached_back, reached_refl, reached_step, reached_trans, returns_to, step_first, steps_add, steps_within, two_alike}
pub use Rattle.halfedge_map.proofs.SystemLemmas.{names_all, rotation_system}
pub use Rattle.halfedge_map.specs.DartMaps.{dart_at_corner, darts_of, edge_of, end_corner_of, face_of, next_of, origin_of, start_corner_of, target_of, twin_of}
unfoldable pub use Rattle.halfedge_map.specs.DartMaps.{used_vertices}
pub use Rattle.halfedge_map.specs.Orbits.{IsReached, after_steps}
pub use Rattle.halfedge_map.specs.OrientedMeshes.{IsOrientedSurface, OrientedMesh}
pub use Rattle.halfedge_map.specs.RotationSystems.{IsDartFrom, IsRotationSystem, Rotations, rotations_of}
pub use Rattle.polygon_cut.specs.Polygons.{HasFallingPlaces, IsCutByColours, IsCutFrom, IsFirstLeft, IsLabelled, KindLabels, PolygonView, across, label_of, one_down, one_up, outer_ring, place_of, side_at, turned}
pub use Rattle.polygon_cut.specs.ShortWalks.{AreShortAround, IsFreelyShort}
pub use Rattle.polygon_cut.specs.SpokeLoops.{ArePushedFreely, ArePushedWithLoop, AreWaysUp, HasFreeSpokes, HaveFreeSpokes, IsOffCotree, LeavesCotree, PutBehind, across_last, backward, by_loop, comes_back, dart_loop, last_side, last_side_loop, path_loop, put_behind, spoke_loop, spokes_along, way_back_round, way_round}
pub use Rattle.polygon_cut.specs.StoredPolygons.{IsPlacedByTurns, IsWalked, TurnsRound, left_at, left_before, without_places}
pub use Rattle.std.proofs.Common.{Bool, List, ap, append_assoc, arith, cond, eqb, false, get_or, inl, inr, length, length-append, ltb, not, refl, subst, suc, sym, true, zero, ℕ, [], ◌&&◌, ◌*◌, ◌++◌, ◌+◌, ◌-◌, ◌<◌, ◌^◌, ◌||◌, ◌∙◌, ◌∷◌, ◌≡◌, ◌≢◌, ◌≤◌, ◌⊎◌}
pub use Rattle.std.proofs.Math.ListN.{get_or-eq_default, set}
pub use Rattle.std.proofs.lemmas.Bool.{and_left, and_parts, and_right, both_ways, cases_Bool, cases_eq, cases_lt, eq-eqb, eqb-true, lt-ltb, ltb-true, or_right}
pub use Rattle.std.proofs.lemmas.Bool.Decides.{nat_tests}
pub use Rattle.std.proofs.lemmas.Grind.{common_steps}
pub use Rattle.std.proofs.lemmas.List.{append-nil, get_or-set_other, get_or-set_same, length-map, length-set, map-append}
pub use Rattle.std.specs.Prelude.{All, IsTrue, None, Option, Some, if◌then◌else◌, pos, slice_index, unwrap_or, ℤ, ◌+ℤ◌, ◌-ℤ◌}
pub use Rattle.surf_model.proofs.ContextLemmas.{list_in_context, one_after_another}
pub use Rattle.surf_model.proofs.EdgeLemmas.{edge_swap, step_within, tail_used}
pub use Rattle.surf_model.proofs.LinkLemmas.{Linked, all_more, links, none_yet, walk_from}
pub use Rattle.surf_model.proofs.ReplacementLemmas.{by_replacing}
pub use Rattle.surf_model.proofs.RoundLemmas.{corner_after}
pub use Rattle.surf_model.proofs.WayBackLemmas.{list_keeps_ends, list_keeps_walk, list_undone}
pub use Rattle.surf_model.specs.Darts.{first_side}
pub use Rattle.surf_model.specs.FaceLists.{FaceList, HasFileSize, IsFaceList, corners_from, face_at, is_edge, is_used, next_corner}
pub use Rattle.surf_model.specs.FreeWalks.{AreFreelyEqual, IsSpurMove}
pub use Rattle.surf_model.specs.Moves.{Homotopic, Leads, apply}
pub use Rattle.surf_model.specs.Numbers.{count_below, first_below}
pub use Rattle.surf_model.specs.Rewriting.{all_raised, way_back}
pub use Rattle.surf_model.specs.Surfaces.{IsPath, IsSurface, is_flipped}
pub use Rattle.surf_model.specs.Walks.{AreWalkPair, HaveCommonEnds, IsWalk, darts}
pub use Rattle.surf_model.specs.declared.moves.Move.{Move}
pub use Rattle.surf_model.specs.declared.moves.Move.TheVariants.{Across, Insert, Remove}
pub use Rattle.surf_model.specs.declared.names.DartName.{DartName}
pub use Rattle.tree_cotree.proofs.AfterLemmas.{after_permutes, go_on, turn, twin_edge}
pub use Rattle.tree_cotree.proofs.ClassLemmas.{count_less, count_none, count_same, found_below, passes_below}
pub use Rattle.tree_cotree.proofs.ColourLemmas.{colourings_have_trees, split_tells, trees_of}
pub use Rattle.tree_cotree.proofs.ExchangeLemmas.{reached_soon}
pub use Rattle.tree_cotree.proofs.LawLemmas.{count_all, exact, one_of_three, rest_has_ring, tree_has_ring}
pub use Rattle.tree_cotree.proofs.SetLemmas.{count_with, same_from_count, with_itself, with_one, with_other}
pub use Rattle.tree_cotree.proofs.SplitLemmas.{OneOfThree, cotree_one, left_one, tree_one}
pub use Rattle.tree_cotree.proofs.SplitWayLemmas.{faces_upward, few_up, parents_upward, root_below}
pub use Rattle.tree_cotree.proofs.UpwardLemmas.{no_loop, single_path}
pub use Rattle.tree_cotree.specs.ColouredTrees.{HasColouredTrees, without_ways}
pub use Rattle.tree_cotree.specs.RingCounts.{any_below}
pub use Rattle.tree_cotree.specs.RingViews.{dart_numbers}
pub use Rattle.tree_cotree.specs.SpanningTrees.{MakesOneRing, after_dart}
pub use Rattle.tree_cotree.specs.Splits.{HasTrees, IsSplit, IsStepUp, SplitView, StepsToParent, StepsUp, below_edge, in_cotree, in_tree, is_left, is_left_kind, kind_of, parent_dart}
pub use Rattle.walk_actions.proofs.Corners.{after_back, after_more, beyond_more, corners_apart, corners_beyond, once_round}
pub use Rattle.walk_actions.proofs.Runs.{end_beyond, end_from}
pub use Rattle.walk_actions.specs.Actions.{Acts, CrossesOnly, FacesActAsNothing, RoundIsNothing, run, vertices_beyond, walked}
