-- What proofs of this crate cite of its definitions and of other crates, passed on from one place (by tools/imports). Declares nothing.
pub use Rattle.std.proofs.Common.{Bool, Err, List, Ok, add-one, ap, append_assoc, ap₂, arith, cond, drop, eqb, false, get_or, inl, inr, length, length-append, ltb, map, max, min, not, refl, rules, set, slice_index_or, subst, suc, sym, take, true, vec_capacity, zero, ℕ, [], ◌&&◌, ◌*◌, ◌++◌, ◌+◌, ◌-◌, ◌/◌, ◌<◌, ◌||◌, ◌↔◌, ◌∙◌, ◌∷◌, ◌≡◌, ◌≢◌, ◌≤◌, ◌⊎◌}
pub use Rattle.std.proofs.lemmas.Bool.{and_from, and_parts, both_ways, cases_Bool, cases_eq, cases_lt, cases_order, cond-false, cond-true, eq-eqb, eqb-true, false_from_ne_true, le-leb, le-ltb, leb-true, lt-ltb, ltb-true, or_cases, or_left, or_right}
pub use Rattle.std.proofs.lemmas.Bool.Decides.{nat_tests, same_from_decides}
pub use Rattle.std.proofs.lemmas.Grind.{common_steps}
pub use Rattle.std.proofs.lemmas.List.{append-nil, drop-append-le, drop-drop, drop-map, drop_all, drop_at, drop_more, get_or-append-add, get_or-append_right, get_or-drop, get_or-map, get_or-set_other, get_or-set_same, get_or-take, get_or_append_left, get_or_default, get_or_past, get_or_push, get_or_read, length-drop, length-map, length-set, length-take-le, length_push, map-append, same_lists, take-append-drop, take-append-le, take-map, take_all, take_at, take_more}
pub use Rattle.std.proofs.lemmas.List.Concat.{flat_map-append}
pub use Rattle.std.proofs.lemmas.List.Elements.{All-append, All-cons, All-contains, All-contains_itself, All-filter, All-from_get_or, All-head, All-map, All-nil, All-push, All-same, All-tail, All-weaker, Contains-append_left, Contains-append_right, Contains-get_or, filter-append, filter_agree, filter_passes}
pub use Rattle.std.proofs.lemmas.List.Folds.{Any-from_list_any, list_any-append, list_any-from_Any, list_any_at}
pub use Rattle.std.proofs.lemmas.List.FromFn.{fill_by_all, get_or-enumerate_from, get_or-map-range_with_len, get_or-range_with_len, length-enumerate_from, length-range_with_len}
pub use Rattle.std.proofs.lemmas.List.Kept.{AllPairs-cons, AllPairs-filter}
pub use Rattle.std.proofs.lemmas.List.Quantifiers.{Any-push, all_pairs_push}
pub use Rattle.std.proofs.lemmas.List.Sorted.{Contains-permutation, IsNonDecreasingBy-from_sort, answers_always, length_permutation}
pub use Rattle.std.proofs.lemmas.List.Sums.{sum_by-append, sum_by-cons, sum_by_more, sum_by_more_le, sum_by_push}
pub use Rattle.std.specs.List.{enumerate_from, list_any, range_with_len}
pub use Rattle.std.specs.List.Sorted.{IsNonDecreasingBy, IsPermutation, IsSortedByKey, IsStableByKey, ties}
pub use Rattle.std.specs.Ordering.{is_lt, nat_cmp}
pub use Rattle.std.specs.Prelude.{All, AllPairs, Any, Contains, IfOk, IsTrue, None, Option, Result, Some, filter, flat_map, if◌then◌else◌, nat_le, nat_lt, option_and_then, sum, sum_by, ◌==◌}
pub use Rattle.surf_model.specs.Blocks.{AreBlocks, block_of, ended_side, side_block, sides_in_blocks}
pub use Rattle.surf_model.specs.Building.{AppendsGroup, AreGrouped, IsCounted, IsCutGroup, IsLasts, IsPartSorted, IsPlaced, IsRun, IsStarts, IsTableBelow, count_below, entry_of, group_among, group_of, has_ends, has_high, high_at, side_of_number}
unfoldable pub use Rattle.surf_model.specs.Building.{high_end, low_end}
pub use Rattle.surf_model.specs.Darts.{IsSide, first_side, head_of, side_number, tail_of}
pub use Rattle.surf_model.specs.EdgeDarts.{IsNextInEdge, edge_darts_of}
pub use Rattle.surf_model.specs.EdgeLists.{DartEdge, IsEdgeList, dart_count, dart_edge_in, dart_of, stored_edges, zipped_edges}
pub use Rattle.surf_model.specs.Edges.{Edge, HasEnds, IsEdgeOf, IsEndOf, IsPairBefore, IsTableOf, edge_in, side_name}
pub use Rattle.surf_model.specs.FaceLists.{FaceList, FaceSide, IsFace, IsFaceList, PendingFace, corners_from, face_at, joins, next_corner, sides_of_face, total_sides}
unfoldable pub use Rattle.surf_model.specs.FaceLists.{all_sides, is_edge, is_used}
pub use Rattle.surf_model.specs.FreeWalks.{AreFreelyEqual, HasNoSpur, IsAlongTree, IsSpurMove, RankFalls}
pub use Rattle.surf_model.specs.Links.{IsLinked, dart_at, edge_at, is_end}
pub use Rattle.surf_model.specs.Moves.{apply_all, replaced, same_walk}
unfoldable pub use Rattle.surf_model.specs.Moves.{apply}
pub use Rattle.surf_model.specs.Parts.{EndsRise, IsInPart, IsPartList, equal_ends, joined_ends, last_end, parts}
pub use Rattle.surf_model.specs.Replacements.{IsReplacement, Replaces, place_of_move}
pub use Rattle.surf_model.specs.Rewriting.{all_raised, inverse_of, raised, sides_of_move, way_back}
pub use Rattle.surf_model.specs.StoredEdges.{IsNumbering, IsStoredTable, named_edge, named_edges, part_of, side_numbered}
pub use Rattle.surf_model.specs.Surfaces.{ArePartners, sides_between}
pub use Rattle.surf_model.specs.Vertices.{numbers}
pub use Rattle.surf_model.specs.Walks.{HaveCommonEnds, IsWalk, darts}
pub use Rattle.surf_model.specs.declared.blocks.EndedSide.{EndedSide}
pub use Rattle.surf_model.specs.declared.edge_list.EdgeEnds.{EdgeEnds}
pub use Rattle.surf_model.specs.declared.edge_list.SideEntry.{SideEntry}
pub use Rattle.surf_model.specs.declared.edges.Side.{Side}
pub use Rattle.surf_model.specs.declared.limits.TheConstants.{MOST_SIDES}
pub use Rattle.surf_model.specs.declared.moves.Move.{Move}
pub use Rattle.surf_model.specs.declared.moves.Move.TheVariants.{Across, Insert, Remove}
pub use Rattle.surf_model.specs.declared.names.DartName.{DartName}
pub use Rattle.surf_model.specs.declared.names.VertexName.{VertexName}
