-- What proofs of this crate cite of its definitions and of other crates, passed on from one place (by tools/imports). Declares nothing.
pub use Rattle.renaming.specs.Renamings.{IsRenamed, renamed_move}
pub use Rattle.std.proofs.Common.{Bool, List, ap, arith, cond, eqb, false, get_or, inl, inr, length, map, refl, subst, suc, sym, true, zero, ℕ, [], ◌+◌, ◌-◌, ◌<◌, ◌↔◌, ◌∙◌, ◌∷◌, ◌≡◌, ◌≤◌}
pub use Rattle.std.proofs.lemmas.Bool.{eqb-true, false≢true}
pub use Rattle.std.proofs.lemmas.Bool.Decides.{nat_tests}
pub use Rattle.std.proofs.lemmas.List.{get_or-map, get_or_default, length-map, map-append, same_lists}
pub use Rattle.std.proofs.lemmas.List.Elements.{All-from_get_or, All-map, All-weaker}
pub use Rattle.std.specs.Prelude.{All, IsTrue, Some, filter, flat_map, max, not}
pub use Rattle.surf_model.proofs.EdgeLemmas.{corner_used, head_used, step_within, tail_used, used_below}
pub use Rattle.surf_model.proofs.TableLemmas.{names, names_mesh, next_within}
pub use Rattle.surf_model.specs.FaceLists.{FaceList, FaceSide, IsFace, IsFaceList, corners_from, face_at, joins, next_corner, sides_of_face, total_sides}
unfoldable pub use Rattle.surf_model.specs.FaceLists.{all_sides, is_edge, is_used}
pub use Rattle.surf_model.specs.Surfaces.{AreJoined, AreJoinedByWalk, ArePartners, EachEdgeHasTwoSides, HasOneRing, IsClosed, IsClosedManifold, IsCoherent, IsCornerAt, IsCornerOfSide, IsPath, IsStepAround, IsWalkBetween, RunOppositely, end_under, is_flipped, sides_between, start_under}
pub use Rattle.surf_model.specs.Walks.{HaveCommonEnds, IsWalk, darts}
