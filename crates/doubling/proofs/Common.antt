-- What proofs of this crate cite of its definitions and of other crates, passed on from one place (by tools/imports). Declares nothing.
pub use Rattle.closed_walks.specs.FreeHomotopy.{FreeStep, FreelyHomotopic, FreelyLeads, IsClosedWalk, Moved, Rotated, after_all_free, after_free}
pub use Rattle.connectivity.proofs.EdgeLemmas.{HasSideBetween, edge_differs, side_between}
pub use Rattle.doubling.specs.Building.{EndsEarly, HasNoRoom, begun, with_face, with_faces, with_mirrors, with_quads}
pub use Rattle.doubling.specs.Doubles.{double_of, is_rim, mirror, mirror_face, rim_quad, rim_quads}
pub use Rattle.doubling.specs.Folds.{fold, folded, steps_behind, without_repeats}
pub use Rattle.doubling.specs.declared.fault.DoubleFault.{DoubleFault}
pub use Rattle.homology.specs.Chains.{AreHomologous, IsChain}
pub use Rattle.std.proofs.Common.{Bool, List, ap, append_assoc, ap₂, arith, drop, false, get_or, inl, inr, length, map, not, pos, refl, rules, subst, suc, sym, take, true, zero, ℕ, ℤ, [], ◌++◌, ◌+ℤ◌, ◌+◌, ◌-◌, ◌<◌, ◌||◌, ◌∙◌, ◌∷◌, ◌≡◌, ◌≢◌, ◌≤◌, ◌⊎◌}
pub use Rattle.std.proofs.lemmas.Bool.{cases_eq, cases_lt, eq-eqb, ne_eqb}
pub use Rattle.std.proofs.lemmas.Bool.Decides.{nat_tests}
pub use Rattle.std.proofs.lemmas.Grind.{common_steps}
pub use Rattle.std.proofs.lemmas.List.{append-nil, get_or-append_right, get_or-map, get_or-reverse, get_or_default, length-append, length-map, length-reverse, take-append-drop, take_more}
pub use Rattle.std.specs.Prelude.{Contains, Some, filter, if◌then◌else◌, nat_lt, neg_ℤ, sum_by, ◌*ℤ◌, ◌==◌, ◌↔◌}
pub use Rattle.surf_model.proofs.ContextLemmas.{first_answer, list_in_context, one_after_another, stays_walk}
pub use Rattle.surf_model.proofs.EdgeLemmas.{back_within, edge_swap, head_used, step_edge, step_within, tail_used, there_and_back, used_below}
pub use Rattle.surf_model.proofs.LinkLemmas.{Linked, links, round_linked}
pub use Rattle.surf_model.proofs.PartnerLemmas.{HasSideEnds, IsWholeSide, side_of_edge, table_edge, whole_side}
pub use Rattle.surf_model.proofs.ReplacementLemmas.{by_replacing, length-corners_from}
pub use Rattle.surf_model.proofs.RoundLemmas.{first_corner}
pub use Rattle.surf_model.proofs.SideNumberLemmas.{first_side-all, side_below, side_of_number-is}
pub use Rattle.surf_model.proofs.TableLemmas.{has_side, next_within}
pub use Rattle.surf_model.specs.Darts.{IsSide, first_side, head_of, side_after, tail_of}
pub use Rattle.surf_model.specs.Edges.{Edge, IsEdgeOf, IsTableOf, edge_in, side_name}
pub use Rattle.surf_model.specs.FaceLists.{FaceList, FaceSide, HasFileSize, IsFace, IsFaceList, PendingFace, all_sides, corners_from, face_at, is_edge, next_corner, total_sides}
unfoldable pub use Rattle.surf_model.specs.FaceLists.{is_used}
pub use Rattle.surf_model.specs.Moves.{Homotopic, Leads, apply, apply_all}
pub use Rattle.surf_model.specs.Replacements.{IsReplacement, Replaces, place_of_move}
pub use Rattle.surf_model.specs.Vertices.{numbers}
pub use Rattle.surf_model.specs.Walks.{IsWalk}
pub use Rattle.surf_model.specs.declared.edges.Side.{Side}
pub use Rattle.surf_model.specs.declared.moves.Move.{Move}
pub use Rattle.surf_model.specs.declared.moves.Move.TheVariants.{Across, Insert, Remove}
pub use Rattle.walk_actions.proofs.Corners.{corners_beyond, next_back}
pub use Rattle.walk_actions.proofs.Runs.{end_from, run-append, walked-round}
