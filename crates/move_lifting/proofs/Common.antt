-- What proofs of this crate cite of its definitions and of other crates, passed on from one place (by tools/imports). Declares nothing.
pub use Rattle.chain_pool.specs.Chains.{Chains, IsAlike, IsEdit, IsUnder, cells_in, cells_of, cut, inserted, list_of, spliced, under}
pub use Rattle.common_ends.proofs.PeakLemmas.{greatest_both, greatest_darts-more, greatest_darts-none, greatest_raised, leads_nowhere, one_more, places_below, places_within, spur_comes, spur_goes}
pub use Rattle.common_ends.proofs.TrimLemmas.{HaveFewerDarts, fewer_darts, last_entry, left_apart, left_leads, left_together, walk_front}
pub use Rattle.halfedge_map.proofs.CornerLemmas.{corner_back}
pub use Rattle.halfedge_map.proofs.DartLemmas.{end_flipped, end_kept, face_at_number, origin_at, start_flipped, start_kept, target_at, vertex_at}
pub use Rattle.halfedge_map.proofs.EdgeLemmas.{dart_between, edge-twin}
pub use Rattle.halfedge_map.proofs.NumberLemmas.{HasPlace, IsNumberOf, number_below, placed}
pub use Rattle.halfedge_map.proofs.SystemLemmas.{names_all, rotation_system}
pub use Rattle.halfedge_map.proofs.TwinLemmas.{origin-twin}
pub use Rattle.halfedge_map.specs.DartMaps.{darts_of, edge_of, face_of, next_of, origin_of, start_corner_of, target_of, twin_of}
pub use Rattle.halfedge_map.specs.OrientedMeshes.{IsOrientedSurface, OrientedMesh}
pub use Rattle.halfedge_map.specs.RotationSystems.{IsDartFrom, IsRotationSystem, Rotations, rotations_of}
pub use Rattle.move_lifting.specs.Contractions.{IsLedFrom, LeavesNothing}
pub use Rattle.move_lifting.specs.Crossings.{GoesAlong, IsCrossed, IsFaceBelow, IsOneIn, IsStepFrom, IsStepOf, beyond}
pub use Rattle.move_lifting.specs.Cuts.{IsCutSurface}
pub use Rattle.move_lifting.specs.Lifts.{ComeMore, HasLowPeak, IsRemoval, IsShortList, LeadsAtPeak, MoreLeaveCotree, MoreRemove}
pub use Rattle.move_lifting.specs.Loads.{AreWeights, IsLedOn, StaysWithin, load_of}
pub use Rattle.move_lifting.specs.LoopFronts.{spokes_in_front}
pub use Rattle.move_lifting.specs.LoopsPutIn.{HasLoopIn, IsFreelyPath, signed_loop}
pub use Rattle.move_lifting.specs.PooledWalks.{IsAlone, IsPushed, Pooled}
pub use Rattle.move_lifting.specs.Reductions.{AreFreeSpokesOf, HasSpokesMore, IsReductionOf, spokes_of_dart, spurs_of}
pub use Rattle.move_lifting.specs.SpokeWalks.{AreLoopTurns, AreSpokeWalks, HasWalk, IsLastLoop, IsLooper, IsLooping, IsSpokeWalk, along_or_back, walks_loop}
pub use Rattle.move_lifting.specs.Tracks.{GoesOn, GrowsOrShrinks, IsNextPut, IsStepBack, TrackView, last_of}
pub use Rattle.move_lifting.specs.TurnPeaks.{KeepsBound, RisesWithTurn}
pub use Rattle.move_lifting.specs.declared.crossing.FaceStep.{FaceStep}
pub use Rattle.move_lifting.specs.declared.expanding.TheConstants.{MOST_LIFTED_DARTS, MOST_LIFTED_SIDES, MOST_LOW_PEAK, MOST_PASSED_ENTRIES, MOST_SHORT_MOVES}
pub use Rattle.move_lifting.specs.declared.lifted.Lifted.{Lifted}
pub use Rattle.polygon_cut.proofs.CongruenceLemmas.{before, behind, home_and_there, there_and_home, to_loops}
pub use Rattle.polygon_cut.proofs.DartLoopLemmas.{Loops, spoke, value}
pub use Rattle.polygon_cut.proofs.FaceRoundLemmas.{at_face}
pub use Rattle.polygon_cut.proofs.FreeLawLemmas.{backward_is, by_own_loop, last_list, last_loop_as, last_loops, led_back_round, led_round, loop_list, off_walk, parity, path_is, path_list, root_is, side_in, spoke_list, turned_parity, up_is}
pub use Rattle.polygon_cut.proofs.FreeLoopLemmas.{SameFreely, free_equality, loops_make_a_free_group}
pub use Rattle.polygon_cut.proofs.FreeProductLemmas.{product_from, product_on, way_end}
pub use Rattle.polygon_cut.proofs.FreeRoundLemmas.{dart_from, from_is, read_back, step_value}
pub use Rattle.polygon_cut.proofs.FreeSpokeLemmas.{free_group}
pub use Rattle.polygon_cut.proofs.FreeWayLemmas.{loop_home, loop_on, path_along, path_value, put_in}
pub use Rattle.polygon_cut.proofs.GroupLemmas.{IsGroup}
pub use Rattle.polygon_cut.proofs.PlaceLemmas.{Crosses, sides_cross}
pub use Rattle.polygon_cut.proofs.RelatorLemmas.{ends_at_vertex, free_spur, loop_in, loop_out, spoke_product}
pub use Rattle.polygon_cut.proofs.TreeWayLemmas.{one_path, tree_edge, tree_ways, up, up_path, up_step}
pub use Rattle.polygon_cut.proofs.WalkLemmas.{other_way, walk_way}
pub use Rattle.polygon_cut.proofs.WayLemmas.{HasWays, IsWay, Loop, back, back-append, back_back, end_used, loop_inv, loop_mul, loop_of, loop_one, start_used, way_home, way_on, way_walk}
pub use Rattle.polygon_cut.specs.Polygons.{IsCutFrom, PolygonView, across, label_of, place_of, side_at}
pub use Rattle.polygon_cut.specs.ShortWalks.{AreShortAround, IsFreelyShort}
pub use Rattle.polygon_cut.specs.SpokeLoops.{AreWaysUp, HasFreeSpokes, HaveFreeSpokes, IsOffCotree, LeavesCotree, across_last, backward, by_loop, comes_back, dart_loop, last_side, last_side_loop, path_loop, put_behind, spoke_loop, spokes_along, way_back_round, way_round}
pub use Rattle.quad_system.proofs.FreePathLemmas.{free_walk_below, free_walk_leads, places_wheel}
pub use Rattle.quad_system.proofs.PushPathLemmas.{IsQuadWheel, add_back, lower_side, upper_side}
pub use Rattle.quad_system.proofs.PushWorthLemmas.{DownWorth, down_worth, front_of_across, front_of_last, loop_of_path, polygon_wheel}
pub use Rattle.quad_system.proofs.SpokeProductLemmas.{spoke_at}
pub use Rattle.spoke_paths.proofs.Placing.{AtPlace, IsTurned, at-place, is-turned, new_way, old_way, some-turn}
pub use Rattle.spoke_paths.proofs.StepsKeep.{later-is, spokes-stay-below, spur-is}
pub use Rattle.spoke_paths.specs.PathSteps.{PathLeads, after_path_step, after_path_steps, from_spoke, quad_turned}
pub use Rattle.spoke_paths.specs.PathTurns.{HasQuads, from_vertex}
pub use Rattle.spoke_paths.specs.declared.step.PathStep.{PathStep}
pub use Rattle.spoke_paths.specs.declared.step.PathStep.TheVariants.{Spur, Turn}
pub use Rattle.std.proofs.Common.{Bool, List, Option, ap, append_assoc, arith, cond, drop, eqb, false, get_or, inl, inr, is_some, length, length-append, max, not, refl, set, subst, suc, sym, take, true, zero, ℕ, [], ◌%◌, ◌&&◌, ◌*◌, ◌++◌, ◌+◌, ◌-◌, ◌/◌, ◌<◌, ◌^◌, ◌||◌, ◌∙◌, ◌∷◌, ◌≡◌, ◌≢◌, ◌≤◌, ◌⊎◌}
pub use Rattle.std.proofs.Math.Nat.{mul-le-mul_left, mul-le-mul_right}
pub use Rattle.std.proofs.Math.Seq.{take-append_seam}
pub use Rattle.std.proofs.lemmas.Bool.{both_ways, cases_Bool, cases_eq, cases_lt, eq-eqb, eqb-true, ne_eqb, or_cases, or_left, or_right}
pub use Rattle.std.proofs.lemmas.Grind.{common_steps}
pub use Rattle.std.proofs.lemmas.List.{append-nil, drop-append-le, drop-drop, drop-map, drop_all, drop_more, get_or-append-add, get_or-drop, get_or-map, get_or-set_other, get_or-take, get_or_append_left, get_or_past, length-drop, length-map, length-reverse, length-take-le, map-append, nil_from_length, reverse-append, take-append-drop, take-append-le, take-take, take_all, take_more, take_more_same, take_rest}
pub use Rattle.std.proofs.lemmas.List.Elements.{All-append, All-cons, All-head, All-more, All-nil, All-tail, All-take}
pub use Rattle.std.proofs.lemmas.Result.{IfOk-weaker, on_ok_weaker}
pub use Rattle.std.specs.Option.{option_map}
pub use Rattle.std.specs.Prelude.{All, Err, IfOk, IsTrue, MatchOption, None, Ok, OnErr, OnOk, Result, Some, if◌then◌else◌, option_and_then, reverse, slice_index, vec_len, ◌==◌}
pub use Rattle.surf_model.proofs.ContextLemmas.{first_answer, list_in_context, one_after_another, stays_walk}
pub use Rattle.surf_model.proofs.EdgeLemmas.{edge_swap, step_within}
pub use Rattle.surf_model.proofs.FreeWalkLemmas.{one_reduced_walk, spur_list_same}
pub use Rattle.surf_model.proofs.LinkLemmas.{Linked, all_more, none_yet, round_linked, together, walk_from}
pub use Rattle.surf_model.proofs.ReplacementLemmas.{by_replacing, length-corners_from}
pub use Rattle.surf_model.proofs.RoundLemmas.{corner_after, corners_before, last_corner, meet}
pub use Rattle.surf_model.proofs.WayBackLemmas.{keeps_walk, list_keeps_ends, list_keeps_walk}
pub use Rattle.surf_model.specs.Darts.{IsSide, first_side, side_number, tail_of}
pub use Rattle.surf_model.specs.FaceLists.{FaceList, IsFace, IsFaceList, corners_from, face_at, is_edge, is_used, next_corner}
pub use Rattle.surf_model.specs.FreeWalks.{AreFreelyEqual, HasNoSpur, IsAlongTree, IsSpurMove, RankFalls}
pub use Rattle.surf_model.specs.Moves.{Homotopic, Leads, PeakedMoves, apply, apply_all, greatest_darts}
pub use Rattle.surf_model.specs.Numbers.{count_below}
pub use Rattle.surf_model.specs.Rewriting.{all_raised, raised}
pub use Rattle.surf_model.specs.Surfaces.{IsPath, is_flipped}
pub use Rattle.surf_model.specs.Vertices.{numbers}
pub use Rattle.surf_model.specs.Walks.{AreWalkPair, HaveCommonEnds, IsWalk, darts}
pub use Rattle.surf_model.specs.declared.edges.Side.{Side}
pub use Rattle.surf_model.specs.declared.moves.Move.{Move}
pub use Rattle.surf_model.specs.declared.moves.Move.TheVariants.{Across, Insert, Remove}
pub use Rattle.surf_model.specs.declared.names.DartName.{DartName}
pub use Rattle.surf_model.specs.declared.names.FaceName.{FaceName}
pub use Rattle.surf_model.specs.declared.names.VertexName.{VertexName}
pub use Rattle.tree_cotree.proofs.SearchLemmas.{option_cases}
pub use Rattle.tree_cotree.proofs.SplitWayLemmas.{above, above_path, faces_upward, not_itself, one_way_up, parents_upward, rank_step, root_below, upper_within}
pub use Rattle.tree_cotree.specs.SpanningTrees.{after_dart}
pub use Rattle.tree_cotree.specs.Splits.{IsSplit, SplitView, StepsToParent, StepsUp, below_edge, in_cotree, in_tree, is_cotree_kind, is_left, is_left_kind, is_tree_kind, kind_of, parent_dart}
pub use Rattle.turn_words.specs.FormLaws.{IsQuad, led}
pub use Rattle.walk_actions.proofs.Corners.{after_back, after_more, after_within, corners_apart, once_round}
pub use Rattle.walk_actions.proofs.Runs.{end_from}
