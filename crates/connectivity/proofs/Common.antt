-- What proofs of this crate cite of its definitions and of other crates, passed on from one place (by tools/imports). Declares nothing.
pub use Rattle.connectivity.specs.Classes.{AreLeastMembers, HasSameRoots, IsForest, KeepsJoined, ancestor, joined_at, renamed}
unfoldable pub use Rattle.connectivity.specs.Classes.{root_of, roots_of}
pub use Rattle.connectivity.specs.Joined.{AreLeastApart, EachVertexHasOneRing, IsLeastPinch, IsLeastUsed, NoEdgeHasThreeSides}
pub use Rattle.connectivity.specs.Links.{AreCornersAcross, AreLinks, AreLinksUpTo, AreMadeJoined, HasTwoLeast, IsFirstPinched, IsJoinedAcross, IsLeastCorner, IsTrueLink, link_at, with_ring}
pub use Rattle.connectivity.specs.Partitions.{AreComponents, AreRings, IsCornerStep, IsEdgeStep, IsLeastElsewhere, JoinsOnlyByCornerSteps, JoinsOnlyBySteps}
pub use Rattle.connectivity.specs.declared.corners.Link.{Link}
pub use Rattle.connectivity.specs.declared.corners.Link.TheVariants.{NoRing, OneRing, Pinched}
pub use Rattle.std.proofs.Common.{Bool, Err, List, Ok, Result, Vec, add-one, ap, arith, below_more, eqb, false, get_or, inl, inr, length, map, max, min, refl, rules, set, subst, suc, sym, true, zero, ℕ, [], ◌++◌, ◌+◌, ◌<◌, ◌||◌, ◌∙◌, ◌∷◌, ◌≡◌, ◌≢◌, ◌≤◌, ◌⊎◌}
pub use Rattle.std.proofs.lemmas.Bool.{cases_Bool, cases_eq, cases_lt, cases_order, eq-eqb, eqb-true}
pub use Rattle.std.proofs.lemmas.Bool.Decides.{nat_tests}
pub use Rattle.std.proofs.lemmas.List.{ext_get_or, get_or-map, get_or-set_other, get_or-set_same, get_or_default, get_or_past, length-map, length-set, map-id, with_items_is}
pub use Rattle.std.proofs.lemmas.List.Folds.{Any-from_list_any, list_any-from_Any, list_any_at}
pub use Rattle.std.proofs.lemmas.List.FromFn.{get_or-map-range_with_len, get_or-range_with_len, length-range_with_len, map-range_with_len_more}
pub use Rattle.std.specs.List.{list_any, range_with_len}
pub use Rattle.std.specs.Prelude.{All, Contains, IfErr, IfNone, IfSome, MatchOption, None, OnOk, Option, Some, cond, filter}
pub use Rattle.std.specs.Vec.{with_items}
pub use Rattle.surf_model.proofs.EdgeLemmas.{ends_differ}
pub use Rattle.surf_model.proofs.NumberLemmas.{face_side, length-all_sides}
pub use Rattle.surf_model.proofs.PartnerLemmas.{IsSideOfEdge, IsWholeSide, edge_has_side, ends_agree, partners_of_edge, side_of_edge, table_edge, whole_side}
pub use Rattle.surf_model.proofs.TableEdgeLemmas.{IsEdgeBetween, edge_between, place_before, same_pair, sides_between_swap, sides_of_edge, table_pair}
pub use Rattle.surf_model.proofs.TableLemmas.{face_side_in, joins_swap, next_within}
pub use Rattle.surf_model.specs.Darts.{IsSide, first_side, head_of, side_after, side_number, tail_of}
pub use Rattle.surf_model.specs.Edges.{Edge, IsEdgeOf, IsPairBefore, IsTableOf, edge_in, side_name}
pub use Rattle.surf_model.specs.FaceLists.{FaceList, FaceSide, IsFaceList, all_sides, face_at, joins, next_corner, total_sides}
unfoldable pub use Rattle.surf_model.specs.FaceLists.{is_edge, is_used}
pub use Rattle.surf_model.specs.Surfaces.{AreJoined, AreJoinedByWalk, ArePartners, EachEdgeHasTwoSides, HasOneRing, IsCornerAt, IsCornerOfSide, IsPath, IsStepAround, IsWalkBetween, sides_between}
pub use Rattle.surf_model.specs.declared.edges.Side.{Side}
pub use Rattle.surf_model.specs.declared.names.VertexName.{VertexName}
