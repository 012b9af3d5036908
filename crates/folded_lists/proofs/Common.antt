-- What proofs of this crate cite of its definitions and of other crates, passed on from one place (by tools/imports). Declares nothing.
pub use Rattle.common_ends.proofs.PeakLemmas.{greatest_darts-first, greatest_darts-more, greatest_darts-none, leads_nowhere, one_more}
pub use Rattle.double_covers.proofs.LowerMoves.{lower_move, moves_under}
pub use Rattle.doubling.proofs.DoubleFaces.{IsRimQuad, double_size, kept_face, length-mirror_face, mirrored_face, no_side, number_kinds, quad_face, rim_kind, rims}
pub use Rattle.doubling.proofs.FoldedMoves.{mirror_round, walk_folds}
pub use Rattle.doubling.specs.Doubles.{double_of, mirror_face, rim_quad, rim_quads}
pub use Rattle.doubling.specs.Folds.{fold, folded, steps_behind, without_repeats}
pub use Rattle.folded_lists.specs.FoldedLists.{IsAllowedAt, IsFoldedEntry, IsMoveBelow, LeadsFolded, StaysWithinPeak, along_edge}
pub use Rattle.std.proofs.Common.{Bool, List, ap, append_assoc, arith, drop, false, get_or, inl, inr, length, map, max, not, refl, subst, suc, sym, take, true, zero, ℕ, [], ◌++◌, ◌+◌, ◌-◌, ◌<◌, ◌∙◌, ◌∷◌, ◌≡◌, ◌≢◌, ◌≤◌, ◌⊎◌}
pub use Rattle.std.proofs.lemmas.Bool.{cases_eq, eq-eqb, ne_eqb}
pub use Rattle.std.proofs.lemmas.List.{drop_all, drop_more, get_or-append-add, get_or-map, length-append, length-map, length-take, map-append, take_all, take_at, take_more}
pub use Rattle.std.proofs.lemmas.Option.{get_or_from_slice_get}
pub use Rattle.std.specs.Prelude.{MatchOption, None, Ok, OnOk, Option, Result, Some, if◌then◌else◌, ◌%◌, ◌/◌, ◌==◌}
pub use Rattle.surf_model.proofs.ContextLemmas.{first_answer, stays_walk}
pub use Rattle.surf_model.proofs.ReplacementLemmas.{by_replacing, length-corners_from}
pub use Rattle.surf_model.specs.FaceLists.{FaceList, IsFaceList, corners_from, face_at, is_edge, next_corner}
pub use Rattle.surf_model.specs.Moves.{PeakedMoves, apply, apply_all, greatest_darts}
pub use Rattle.surf_model.specs.PeakedLists.{LeadsAtPeak}
pub use Rattle.surf_model.specs.Replacements.{IsReplacement, Replaces, place_of_move}
pub use Rattle.surf_model.specs.Walks.{IsWalk, darts}
pub use Rattle.surf_model.specs.declared.moves.Move.{Move}
pub use Rattle.surf_model.specs.declared.moves.Move.TheVariants.{Across, Insert, Remove}
pub use Rattle.surf_model.specs.declared.names.VertexName.{VertexName}
pub use Rattle.walk_actions.proofs.Runs.{end_from}
