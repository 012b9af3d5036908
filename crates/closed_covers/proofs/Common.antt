-- What proofs of this crate cite of its definitions and of other crates, passed on from one place (by tools/imports). Declares nothing.
pub use Rattle.closed_doubles.proofs.SideSums.{below, below-add, below-alike, by_faces, face_sum, faces_sum, faces_sum-append, side_sum}
pub use Rattle.connectivity.proofs.CornerLemmas.{after_in_mesh, corner_below, corner_used, corner_vertex, used_corner}
pub use Rattle.double_covers.proofs.CoverFaces.{IsOver, all_faces, begins_on, each_over, edge_lifted, face_over, over_below, over_is}
pub use Rattle.double_covers.proofs.LiftedMoves.{cover_valid}
pub use Rattle.double_covers.proofs.Sheets.{LeadsHome, back, entry, length-lifted, sheet_at, sheets_apart, step}
pub use Rattle.double_covers.proofs.WayLemmas.{apart_over, corner_of, cover_orientable, either, lead_home, runs_across, runs_alike}
pub use Rattle.double_covers.specs.Covers.{AreTurns, cover_of, lifted, over, sheet_behind}
pub use Rattle.std.proofs.Common.{Bool, List, ap, ap₂, arith, false, get_or, inl, inr, length, map, not, refl, subst, suc, sym, true, zero, ℕ, [], ◌*◌, ◌+◌, ◌-◌, ◌<◌, ◌∙◌, ◌∷◌, ◌≡◌, ◌≢◌, ◌≤◌, ◌⊎◌}
pub use Rattle.std.proofs.lemmas.Bool.{cases_eq, eq-eqb, ne_eqb}
pub use Rattle.std.proofs.lemmas.Bool.Decides.{nat_tests}
pub use Rattle.std.specs.Prelude.{if◌then◌else◌, pos, ℤ, ◌+ℤ◌, ◌-ℤ◌, ◌==◌}
pub use Rattle.surf_model.proofs.EdgeLemmas.{ends_differ, head_used, step_edge, step_within, tail_used, used_below}
pub use Rattle.surf_model.specs.Components.{EachTwoAreJoined}
pub use Rattle.surf_model.specs.Darts.{IsSide, head_of, side_after, tail_of}
pub use Rattle.surf_model.specs.FaceLists.{FaceList, FaceSide, IsFaceList, all_sides, face_at, is_edge, is_used, next_corner, total_sides}
pub use Rattle.surf_model.specs.Surfaces.{AreJoined, AreOfOneEdge, ArePartners, EachEdgeHasTwoSides, IsClosed, IsClosedManifold, IsCornerAt, IsCornerOfSide, IsOrientable, IsPath, IsStepAround, IsSurface, RunOppositely, is_flipped, sides_between}
pub use Rattle.surf_model.specs.declared.edges.Side.{Side}
