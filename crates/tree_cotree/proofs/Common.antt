-- What proofs of this crate cite of its definitions and of other crates, passed on from one place (by tools/imports). Declares nothing.
pub use Rattle.connectivity.proofs.Joining.{either_way, entries_own, high_at, high_gone, joined_at_ends, joined_at_high, joined_at_keeps, joined_at_other, joined_at_same, joined_keep, joined_refl, joined_step, joined_sym, joined_trans, joins_only-alone, joins_only-joined_at, least_joined_at, least_range, length-joined_at, low_at, others_own}
pub use Rattle.connectivity.specs.Classes.{AreLeastMembers, joined_at}
pub use Rattle.halfedge_map.proofs.DartLemmas.{face-next, face_at_number, next_permutes, numbered}
pub use Rattle.halfedge_map.proofs.OrbitLemmas.{AreAlike, IsPermutationBelow, Returns, reached_back, reached_keeps, reached_refl, reached_step, reached_trans, returns_to, step_first, steps_add, steps_within, two_alike}
pub use Rattle.halfedge_map.proofs.SystemLemmas.{names_all, rotation_system}
pub use Rattle.halfedge_map.specs.DartMaps.{darts_of, edge_of, face_of, next_of, origin_of, twin_of}
unfoldable pub use Rattle.halfedge_map.specs.DartMaps.{used_vertices}
pub use Rattle.halfedge_map.specs.Orbits.{IsReached, after_steps}
pub use Rattle.halfedge_map.specs.OrientedMeshes.{IsOrientedSurface, OrientedMesh}
pub use Rattle.halfedge_map.specs.RotationSystems.{IsDartFrom, IsDartStep, IsRotationSystem, NamesAll, Rotations, rotations_of}
pub use Rattle.std.proofs.Common.{Bool, List, ap, arith, cond, eqb, false, get_or, inl, inr, length, ltb, not, refl, rules, slice_index, subst, suc, sym, true, zero, ℕ, [], ◌&&◌, ◌*◌, ◌++◌, ◌+◌, ◌-◌, ◌/◌, ◌<◌, ◌||◌, ◌∙◌, ◌∷◌, ◌≡◌, ◌≢◌, ◌≤◌, ◌⊎◌}
pub use Rattle.std.proofs.Math.ListN.{set}
pub use Rattle.std.proofs.lemmas.Bool.{and_from, and_parts, and_right, both_ways, cases_Bool, cases_eq, cases_lt, cond-false, cond-true, eq-eqb, eqb-true, lt-ltb, ltb-true, not_from_false, not_from_true, or_cases, or_left, or_right}
pub use Rattle.std.proofs.lemmas.Grind.{common_steps}
pub use Rattle.std.proofs.lemmas.List.{append-nil, append_assoc, get_or-append_right, get_or-map, get_or-replicate, get_or-set_other, get_or-set_same, get_or_append_left, get_or_push, get_or_read, length-append, length-map, length-replicate, length-set, length_push, map-append, with_items_is}
pub use Rattle.std.specs.Cmp.Derive.{one_truth}
pub use Rattle.std.specs.List.{range_with_len}
pub use Rattle.std.specs.Option.{option_map, option_to_list}
pub use Rattle.std.specs.Prelude.{Contains, IfNone, IfSome, None, Option, Some, is_some, replicate, slice_get, swap}
pub use Rattle.surf_model.specs.Edges.{Edge, IsTableOf, edge_in}
pub use Rattle.surf_model.specs.FaceLists.{FaceList, IsFaceList, is_used}
pub use Rattle.surf_model.specs.Numbers.{count_below}
pub use Rattle.surf_model.specs.Surfaces.{AreJoined, IsPath, IsSurface}
pub use Rattle.surf_model.specs.declared.names.DartName.{DartName}
pub use Rattle.tree_cotree.specs.ColouredTrees.{HasColouredTrees, without_ways}
pub use Rattle.tree_cotree.specs.Colourings.{ColouringView, IsColouring, colouring_of}
pub use Rattle.tree_cotree.specs.EdgeFaces.{AreBelowEdges}
pub use Rattle.tree_cotree.specs.Graphs.{crosses, maps_of, node_in, turn_in}
pub use Rattle.tree_cotree.specs.Joinings.{AreEnds, AreSpanned, HangTogether, IsEdgeTried, bound_of, is_node_of, kind_over}
pub use Rattle.tree_cotree.specs.Markings.{AreDartsApart, AreMarked, IsMarked}
pub use Rattle.tree_cotree.specs.RingCounts.{any_below, class_count, exchanged, is_least, meets, ring_count}
pub use Rattle.tree_cotree.specs.RingViews.{AreRingsOf, ChangesByOne, RingView, dart_numbers, is_inside, rings_of}
pub use Rattle.tree_cotree.specs.Searches.{AreAdded, IsFound, IsNamed, IsNodeCrossed, IsOrder, IsSearched, LeadsBack, has_kind, kept_at, next_round_node, node_of, same_kind}
pub use Rattle.tree_cotree.specs.SpanningTrees.{IsSpanningTree, IsStepIn, MakesOneRing, StepsIn, after_dart}
pub use Rattle.tree_cotree.specs.Splits.{HasChildFaces, HasParents, HasTrees, IsSplit, SplitView, StepsToParent, StepsUp, below_edge, in_cotree, in_tree, is_cotree_kind, is_left, is_left_kind, is_tree_kind, kind_of}
pub use Rattle.tree_cotree.specs.StoredSplits.{made_split}
pub use Rattle.tree_cotree.specs.Waiting.{IsTakenOut, waiting_darts}
pub use Rattle.tree_cotree.specs.Ways.{IsRooted, IsWay, LeadsUp}
pub use Rattle.tree_cotree.specs.declared.search.Nodes.{Nodes}
pub use Rattle.tree_cotree.specs.declared.search.Nodes.TheVariants.{Faces, Vertices}
pub use Rattle.tree_cotree.specs.declared.split.Kind.{Kind}
pub use Rattle.tree_cotree.specs.declared.split.Kind.TheVariants.{Cotree, Left, Tree}
