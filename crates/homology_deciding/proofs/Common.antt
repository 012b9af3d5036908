-- What proofs of this crate cite of its definitions and of other crates, passed on from one place (by tools/imports). Declares nothing.
pub use Rattle.halfedge_map.proofs.DartLemmas.{face_at_number}
pub use Rattle.halfedge_map.proofs.EdgeLemmas.{IsAtEdge, dart_joins, edge_has_ends, leads_back, leads_on}
pub use Rattle.halfedge_map.proofs.NumberLemmas.{HasPlace, IsNumberOf, placed}
pub use Rattle.halfedge_map.proofs.SystemLemmas.{names_all, rotation_system}
pub use Rattle.halfedge_map.specs.DartMaps.{darts_of, edge_of, side_of, twin_of}
unfoldable pub use Rattle.halfedge_map.specs.DartMaps.{face_of, origin_of, target_of}
pub use Rattle.halfedge_map.specs.OrientedMeshes.{IsOrientedSurface, OrientedMesh}
pub use Rattle.halfedge_map.specs.RotationSystems.{IsDartFrom, IsRotationSystem, rotations_of}
pub use Rattle.homology.proofs.ChainVerdictLemmas.{chain_holds, left_over, within_more}
pub use Rattle.homology.proofs.SizeLemmas.{sent, size-opposite, size-share, size-sum}
pub use Rattle.homology.specs.Chains.{AreHomologous, boundary, count_difference}
pub use Rattle.homology.specs.Cocycles.{IsCocycle, Separates, dart_number, separation}
pub use Rattle.homology.specs.Sums.{along, round, share, total}
pub use Rattle.homology.specs.Tallies.{AreNumbersWithin, AreTableNumbers, GrewBy, number_at, signed_from}
pub use Rattle.homology.specs.declared.certificate.TheConstants.{MOST_NUMBER}
pub use Rattle.homology_deciding.specs.Cuts.{IsCutAt, cycle_share}
pub use Rattle.homology_deciding.specs.FaceTrees.{IsTree, IsTreeOfFaces, IsUp, IsWayUp, dart_share, face_across, way_share}
pub use Rattle.homology_deciding.specs.Heights.{AreForced, AreHeights, EndsAtHeight, height_of, listed, signed_dart_count, way_count}
pub use Rattle.homology_deciding.specs.Proofs.{IsChainFor, IsCocycleFor, IsProofFor, LeavesOf, is_chain}
pub use Rattle.homology_deciding.specs.declared.face_tree.FaceTree.{FaceTree}
pub use Rattle.std.proofs.Common.{List, ap, ap₂, arith, false, get_or, inl, inr, length, negsuc, of_z, pos, refl, rules, set, subst, suc, sym, to_z, true, w64, zero, ℕ, ℤ, [], ◌*◌, ◌++◌, ◌+ℤ◌, ◌+◌, ◌-ℤ◌, ◌<◌, ◌^◌, ◌↔◌, ◌∙◌, ◌∷◌, ◌≡◌, ◌≢◌, ◌≤◌, ◌⊎◌}
pub use Rattle.std.proofs.lemmas.Bool.{both_ways, cases_Bool, cases_eq, cases_lt, cases_order, eq-eqb, eqb-true}
pub use Rattle.std.proofs.lemmas.Bool.Decides.{nat_tests}
pub use Rattle.std.proofs.lemmas.Int.{fits_signed_from_abs, ints}
pub use Rattle.std.proofs.lemmas.List.{get_or-set_other, get_or-set_same, get_or_append_left, get_or_past, length-set, length_push}
pub use Rattle.std.specs.Prelude.{All, Err, FitsSigned, IfOk, MatchOption, None, Ok, Option, Result, Some, if◌then◌else◌, is_some, map, nat_eq, neg_ℤ, sum_by, unsigned_abs, unwrap_or, ◌&&◌, ◌==◌}
pub use Rattle.surf_model.specs.Edges.{Edge, HasEnds, edge_in}
pub use Rattle.surf_model.specs.FaceLists.{FaceList, FaceSide, HasFileSize, all_sides, face_at, joins, total_sides}
pub use Rattle.surf_model.specs.Surfaces.{IsPath, is_flipped}
pub use Rattle.surf_model.specs.Walks.{IsWalk, darts}
pub use Rattle.surf_model.specs.declared.names.DartName.{DartName}
pub use Rattle.tree_cotree.specs.Splits.{IsSplit, IsStepUp, SplitView, StepsUp, below_edge}
