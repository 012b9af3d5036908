-- What proofs of this crate cite of its definitions and of other crates, passed on from one place (by tools/imports). Declares nothing.
pub use Rattle.connectivity.proofs.CornerLemmas.{after_in_mesh, corner_in_mesh, corners_there, each_across, number_below, number_once, partners_swap, step_across}
pub use Rattle.connectivity.proofs.Joining.{joined_at_ends, joined_at_keeps, joined_keep, joined_refl, joined_step, joined_sym, joined_trans, joins_only-alone, joins_only-joined_at, least_joined_at, least_range, length-joined_at}
pub use Rattle.connectivity.specs.Classes.{AreLeastMembers, KeepsJoined, joined_at}
pub use Rattle.connectivity.specs.Joined.{NoEdgeHasThreeSides}
pub use Rattle.double_covers.proofs.LiftedMoves.{cover_valid, homotopy_kept, walk_lifted}
pub use Rattle.double_covers.proofs.Sheets.{entry, length-lifted, next_sheet, sheet_at}
pub use Rattle.double_covers.proofs.WayLemmas.{apart_over, corner_of, cover_orientable, either, lead_home, sheet_told}
pub use Rattle.double_covers.specs.Covers.{AreTurns, lifted, over}
pub use Rattle.double_covers.specs.WaysRound.{AreTurnsOf, AreWaysRound}
pub use Rattle.doubling.proofs.BuildingLemmas.{corner_more, more_room}
pub use Rattle.doubling.specs.Building.{HasNoRoom, with_face}
pub use Rattle.orientation_cover.specs.Building.{first_made_faces}
pub use Rattle.orientation_cover.specs.Claims.{AreClaimClasses, AreClaimsMadeJoined, Claim, IsCarriedAcross, IsClaim, IsClaimStep, JoinsOnlyByClaimSteps, carried, claim_number, with_corners}
pub use Rattle.orientation_cover.specs.Turns.{IsSideBetween, cover_by, lift_by, turns_along}
unfoldable pub use Rattle.orientation_cover.specs.Turns.{turns_by}
pub use Rattle.orientation_cover.specs.Ways.{AreWays, IsLedToLeast, told_by}
pub use Rattle.std.proofs.Common.{Bool, List, ap, arith, false, get_or, inl, inr, length, ltb, map, min, not, refl, rules, subst, suc, sym, take, true, zero, ℕ, [], ◌&&◌, ◌++◌, ◌+◌, ◌-◌, ◌<◌, ◌∙◌, ◌∷◌, ◌≡◌, ◌≢◌, ◌≤◌, ◌⊎◌}
pub use Rattle.std.proofs.lemmas.Bool.{and_from, both_ways, cases_Bool, cases_eq, cases_lt, eq-eqb, ne_eqb}
pub use Rattle.std.proofs.lemmas.Bool.Decides.{nat_tests}
pub use Rattle.std.proofs.lemmas.Grind.{common_steps}
pub use Rattle.std.proofs.lemmas.List.{ext_get_or, take_all, take_more}
pub use Rattle.std.proofs.lemmas.List.FromFn.{get_or-map-range_with_len, length-map-range_with_len, length-range_with_len}
pub use Rattle.std.proofs.lemmas.Option.{get_or_from_slice_get}
pub use Rattle.std.specs.List.{range_with_len}
pub use Rattle.std.specs.Prelude.{Contains, Some, if◌then◌else◌, slice_get, ◌==◌, ◌↔◌}
pub use Rattle.surf_model.proofs.EdgeLemmas.{ends_differ, used_below}
pub use Rattle.surf_model.proofs.PartnerLemmas.{IsEdgeOfSide, IsSideOfEdge, IsWholeSide, edge_has_side, edge_of_side, ends_agree, partners_of_edge, side_of_edge, table_edge, whole_side}
pub use Rattle.surf_model.specs.Darts.{IsSide, head_of, side_after, side_number, tail_of}
pub use Rattle.surf_model.specs.Edges.{Edge, HasEnds, IsEdgeOf, IsTableOf, edge_in, side_name}
pub use Rattle.surf_model.specs.FaceLists.{FaceList, FaceSide, IsFace, IsFaceList, PendingFace, all_sides, face_at, joins, total_sides}
pub use Rattle.surf_model.specs.Surfaces.{AreJoined, ArePartners, IsCornerOfSide, IsPath}
pub use Rattle.surf_model.specs.declared.edges.Side.{Side}
