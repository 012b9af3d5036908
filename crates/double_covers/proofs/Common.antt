-- What proofs of this crate cite of its definitions and of other crates, passed on from one place (by tools/imports). Declares nothing.
pub use Rattle.connectivity.proofs.CornerLemmas.{partners_swap, used_corner}
pub use Rattle.connectivity.proofs.EdgeLemmas.{HasSideBetween, side_between}
pub use Rattle.double_covers.specs.Covers.{AreTurns, cover_of, lifted, lifted_behind, over, sheet_behind, under}
pub use Rattle.double_covers.specs.WaysRound.{AreTurnsOf, AreWaysRound, Claim, IsClaimStep, IsTwisted}
pub use Rattle.std.proofs.Common.{Bool, List, ap, append_assoc, arith, false, get_or, inl, inr, length, length-append, map, not, refl, subst, suc, sym, take, true, zero, ℕ, [], ◌++◌, ◌+◌, ◌-◌, ◌<◌, ◌∙◌, ◌∷◌, ◌≡◌, ◌≢◌, ◌≤◌, ◌⊎◌}
pub use Rattle.std.proofs.Math.Bool.{not-not}
pub use Rattle.std.proofs.lemmas.Bool.{cases_lt, eq-eqb, ne_eqb}
pub use Rattle.std.proofs.lemmas.Bool.Decides.{nat_tests}
pub use Rattle.std.proofs.lemmas.Grind.{common_steps}
pub use Rattle.std.proofs.lemmas.List.{get_or-append_right, get_or-map, get_or_append_left, get_or_default, length-map}
pub use Rattle.std.specs.Prelude.{All, Some, if◌then◌else◌, ◌==◌, ◌↔◌}
pub use Rattle.surf_model.proofs.ContextLemmas.{first_answer, stays_walk}
pub use Rattle.surf_model.proofs.EdgeLemmas.{edge_swap, ends_differ, step_edge, step_within, used_below}
pub use Rattle.surf_model.proofs.ReplacementLemmas.{by_replacing}
pub use Rattle.surf_model.proofs.RoundLemmas.{corner_after, meet}
pub use Rattle.surf_model.specs.Darts.{IsSide, head_of, side_after, tail_of}
pub use Rattle.surf_model.specs.FaceLists.{FaceList, IsFace, IsFaceList, corners_from, face_at, is_edge, is_used, next_corner}
pub use Rattle.surf_model.specs.Moves.{Homotopic, apply, apply_all}
pub use Rattle.surf_model.specs.Replacements.{IsReplacement, Replaces, place_of_move}
pub use Rattle.surf_model.specs.Surfaces.{ArePartners, IsOrientable, IsPath, RunOppositely, is_flipped}
pub use Rattle.surf_model.specs.Walks.{IsWalk}
pub use Rattle.surf_model.specs.declared.edges.Side.{Side}
pub use Rattle.surf_model.specs.declared.moves.Move.{Move}
pub use Rattle.surf_model.specs.declared.moves.Move.TheVariants.{Across, Insert, Remove}
pub use Rattle.walk_actions.proofs.Corners.{corners_beyond, next_back, next_forth}
pub use Rattle.walk_actions.proofs.Runs.{end_beyond, end_from}
pub use Rattle.walk_actions.specs.Actions.{run, vertices_beyond, walked}
