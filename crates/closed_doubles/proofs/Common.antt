-- What proofs of this crate cite of its definitions and of other crates, passed on from one place (by tools/imports). Declares nothing.
pub use Rattle.connectivity.proofs.CornerLemmas.{after_in_mesh, corner_below, corner_in_mesh, corner_used, corner_vertex, number_once, partners_swap, used_corner}
pub use Rattle.connectivity.proofs.EdgeLemmas.{HasSideBetween, edge_differs, edge_swap, side_between}
pub use Rattle.connectivity.proofs.Joining.{joined_refl, joined_step, joined_sym, joined_trans}
pub use Rattle.connectivity.specs.Joined.{EachVertexHasOneRing, NoEdgeHasThreeSides}
pub use Rattle.doubling.proofs.DoubleFaces.{double_size, length-mirror_face, mirror_corner, mirror_next, no_side, rim_whole, rims}
pub use Rattle.doubling.proofs.DoubleSides.{corner_over, first_head, first_tail, fourth_head, fourth_tail, kept_after, kept_head, kept_side, kept_tail, over_after, over_head, over_once, over_side_in_double, over_side_tail, quad_after, quad_in_double, quad_side, rim_in_mesh, rim_side, second_head, second_tail, side_kinds, side_over, third_head, third_tail}
pub use Rattle.doubling.proofs.KeptMoves.{kept_edge}
pub use Rattle.doubling.proofs.RepeatLemmas.{fold_kept, fold_mirror}
pub use Rattle.doubling.proofs.ValidDoubles.{double_valid}
pub use Rattle.doubling.specs.Doubles.{double_of, is_rim, mirror, mirror_face, rim_quad}
pub use Rattle.free_forms.specs.OpenSurfaces.{HasBoundary, IsOpenSurface}
pub use Rattle.std.proofs.Common.{Bool, List, ap, ap₂, arith, false, get_or, inl, inr, length, length-append, map, not, refl, subst, suc, sym, take, true, zero, ℕ, [], ◌&&◌, ◌*◌, ◌++◌, ◌+◌, ◌-◌, ◌<◌, ◌||◌, ◌∙◌, ◌∷◌, ◌≡◌, ◌≢◌, ◌≤◌, ◌⊎◌}
pub use Rattle.std.proofs.lemmas.Bool.{cases_Bool, cases_eq, cases_lt, cases_order, eq-eqb, ne_eqb}
pub use Rattle.std.proofs.lemmas.Bool.Decides.{nat_tests}
pub use Rattle.std.proofs.lemmas.Grind.{common_steps}
pub use Rattle.std.proofs.lemmas.List.{get_or-append_right, get_or-map, get_or-take, get_or_default, length-map, length-take-le}
pub use Rattle.std.proofs.lemmas.List.Elements.{All-filter, filter_passes}
pub use Rattle.std.proofs.lemmas.List.Kept.{AllPairs-filter}
pub use Rattle.std.specs.Prelude.{All, AllPairs, Contains, filter, flat_map, if◌then◌else◌, pos, ℤ, ◌+ℤ◌, ◌-ℤ◌, ◌==◌}
pub use Rattle.surf_model.proofs.EdgeLemmas.{back_within, ends_differ, head_used, step_edge, step_within, tail_used, there_and_back, used_below}
pub use Rattle.surf_model.proofs.NumberLemmas.{face_side, length-all_sides}
pub use Rattle.surf_model.proofs.PartnerLemmas.{HasSideEnds, IsWholeSide, table_edge, whole_side}
pub use Rattle.surf_model.proofs.TableEdgeLemmas.{sides_between_swap, table_pair}
pub use Rattle.surf_model.specs.Darts.{IsSide, head_of, side_after, side_number, tail_of}
pub use Rattle.surf_model.specs.Edges.{Edge, IsPairBefore, IsTableOf, edge_in, side_name}
pub use Rattle.surf_model.specs.FaceLists.{FaceList, FaceSide, IsFaceList, face_at, is_edge, is_used, joins, next_corner, sides_of_face, total_sides}
unfoldable pub use Rattle.surf_model.specs.FaceLists.{all_sides}
pub use Rattle.surf_model.specs.Surfaces.{AreJoined, ArePartners, EachEdgeHasTwoSides, HasOneRing, IsClosed, IsCoherent, IsCornerAt, IsCornerOfSide, IsOrientable, IsPath, IsStepAround, IsSurface, RunOppositely, end_under, is_flipped, sides_between, start_under}
pub use Rattle.surf_model.specs.declared.edges.Side.{Side}
pub use Rattle.walk_actions.proofs.Corners.{next_back}
