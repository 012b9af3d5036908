-- What proofs of this crate cite of its definitions and of other crates, passed on from one place (by tools/imports). Declares nothing.
pub use Rattle.flat_forms.specs.Pairs.{spokes_of, sum_of_pairs}
pub use Rattle.flat_forms.specs.Vectors.{origin, unit_step}
pub use Rattle.halfedge_map.proofs.DartLemmas.{corner_of_end, corner_of_start, dart_starts, end_flipped, end_kept, numbered, one_face, one_place, origin_under, start_flipped, start_kept, target_under}
pub use Rattle.halfedge_map.proofs.EdgeLemmas.{dart_between, edge-twin}
pub use Rattle.halfedge_map.proofs.NumberLemmas.{HasSide, IsNumberOf, number_below, side_with_number}
pub use Rattle.halfedge_map.proofs.SystemLemmas.{rotation_system}
pub use Rattle.halfedge_map.proofs.TwinLemmas.{origin-twin, twin-twin}
pub use Rattle.halfedge_map.proofs.VertexLemmas.{partner_is_twin}
pub use Rattle.halfedge_map.specs.DartMaps.{darts_of, edge_of, end_corner_of, next_of, origin_of, start_corner_of, target_of, twin_of}
unfoldable pub use Rattle.halfedge_map.specs.DartMaps.{dart_at_corner}
pub use Rattle.halfedge_map.specs.OrientedMeshes.{IsOrientedSurface, OrientedMesh}
pub use Rattle.halfedge_map.specs.RotationSystems.{IsDartFrom, rotations_of}
pub use Rattle.labellings.proofs.FoldLemmas.{PutLaws, labels_do, led-append, pair, pair_belongs}
pub use Rattle.labellings.proofs.SideLemmas.{HasPartner, SpokesOfSide, partner_of, spokes_of_side}
pub use Rattle.labellings.proofs.WalkWordLemmas.{flat_wheel_of_good, hyper_wheel_of_good, one_word_of_homotopic, quad_path_below, quad_path_in_pairs, quad_path_leads_to_sum}
pub use Rattle.labellings.specs.GoodLabellings.{HasShape, IsGood, MeetsLeftoverRule, MeetsSomeRule}
pub use Rattle.labellings.specs.Labellings.{FaceLabels, LabellingView, head_label, label_at, labels_at, signs_of, tail_label}
pub use Rattle.labellings.specs.QuadPaths.{quad_path, spokes, spokes_by_labels}
pub use Rattle.polygon_cut.proofs.DartLoopLemmas.{one_of, value_along}
pub use Rattle.polygon_cut.proofs.GroupLemmas.{IsGroup, inverse_of_quotient, inverse_twice, quotient}
pub use Rattle.polygon_cut.proofs.LawLemmas.{four_places, labels_ride, leftover}
pub use Rattle.polygon_cut.proofs.LoopLemmas.{IsWay, SameLoop, first_dart, from_loops, homotopy, loop_inv, loop_mul, loop_of, loop_one, no_dart, start_used}
pub use Rattle.polygon_cut.proofs.PlaceLemmas.{Crosses, sides_cross}
pub use Rattle.polygon_cut.proofs.PolygonLemmas.{is_own_side}
pub use Rattle.polygon_cut.proofs.RelatorLemmas.{ends_at_vertex, free_push, loop_in, spoke_product}
pub use Rattle.polygon_cut.proofs.SpokeLemmas.{Loops, dart_is_two_spokes, group_of, spoke, up_plain, value, value_twin}
pub use Rattle.polygon_cut.proofs.TreeWayLemmas.{tree_ways, up}
pub use Rattle.polygon_cut.proofs.WalkLemmas.{other_way, walk_way}
pub use Rattle.polygon_cut.specs.Polygons.{IsCutFrom, KindLabels, PolygonView, across, label_of, one_down, one_up, place_of, side_at}
pub use Rattle.polygon_cut.specs.SpokeLoops.{AreWaysUp, HasFreeSpokes, HaveFreeSpokes, across_last, by_loop, last_side, path_loop, spokes_along}
pub use Rattle.quad_system.specs.PolygonLabellings.{HasOneSide, IsFull, IsLeftoverSide, all_zero, at_corners, face_labels, labelling_from, numbers_alone}
pub use Rattle.spoke_paths.proofs.StepsKeep.{KeepsSteps}
pub use Rattle.spoke_paths.proofs.WordsKeep.{IsQuadWheel, partner_is, quad_of, same_word}
pub use Rattle.std.proofs.Common.{Bool, List, ap, arith, cond, drop, eqb, false, get_or, inl, inr, length, lit<, map, not, pos, refl, subst, suc, sym, take, true, zero, ℕ, [], ◌&&◌, ◌++◌, ◌+ℤ◌, ◌+◌, ◌-◌, ◌<◌, ◌^◌, ◌↔◌, ◌∙◌, ◌∷◌, ◌≡◌, ◌≢◌, ◌≤◌, ◌⊎◌}
pub use Rattle.std.proofs.lemmas.Bool.{and_parts, both_ways, cases_Bool, cases_eq, eq-eqb, eqb-true, false≢true}
pub use Rattle.std.proofs.lemmas.Bool.Decides.{nat_tests}
pub use Rattle.std.proofs.lemmas.Grind.{common_steps, same_number_lists}
pub use Rattle.std.proofs.lemmas.List.{drop-drop, drop_at, get_or-drop, get_or-map, get_or-take, length-append, length-drop, length-map, length-take-le, length_push, map-append, take_all, take_at, take_more, with_items_is}
pub use Rattle.std.proofs.lemmas.List.Elements.{All-append, All-cons, All-contains, All-from_get_or, All-nil}
pub use Rattle.std.proofs.lemmas.List.FromFn.{get_or-enumerate_from, get_or-map-range_with_len, length-enumerate_from, length-map-range_with_len}
pub use Rattle.std.proofs.lemmas.Result.{IfOk-weaker}
pub use Rattle.std.specs.List.{between, enumerate_from, list_all, range_with_len}
pub use Rattle.std.specs.Prelude.{All, if◌then◌else◌, slice_index, ◌==◌}
pub use Rattle.surf_model.proofs.EdgeLemmas.{step_within}
pub use Rattle.surf_model.specs.Darts.{IsSide, first_side, head_of, side_after, side_number, tail_of}
pub use Rattle.surf_model.specs.FaceLists.{FaceList, FaceSide, HasFileSize, IsFace, IsFaceList, face_at, joins, next_corner, total_sides}
unfoldable pub use Rattle.surf_model.specs.FaceLists.{all_sides}
pub use Rattle.surf_model.specs.Moves.{Homotopic}
pub use Rattle.surf_model.specs.Surfaces.{ArePartners, RunOppositely, end_under, is_flipped, start_under}
pub use Rattle.surf_model.specs.Walks.{HaveCommonEnds, IsWalk}
pub use Rattle.surf_model.specs.declared.edges.Side.{Side}
pub use Rattle.tree_cotree.proofs.LawLemmas.{one_of_three}
pub use Rattle.tree_cotree.proofs.SplitLemmas.{OneOfThree, cotree_one, left_one, tree_one}
pub use Rattle.tree_cotree.specs.SpanningTrees.{after_dart}
pub use Rattle.tree_cotree.specs.Splits.{IsSplit, SplitView, in_cotree, in_tree, is_left}
pub use Rattle.turn_words.specs.FormLaws.{IsQuad, led}
pub use Rattle.turn_words.specs.Lemmas.Sums.{add-cases, add-lt}
unfoldable pub use Rattle.turn_words.specs.Modulo.{add, minus}
