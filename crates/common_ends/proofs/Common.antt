-- What proofs of this crate cite of its definitions and of other crates, passed on from one place (by tools/imports). Declares nothing.
pub use Rattle.common_ends.specs.Trimmed.{AreCommonDarts, between, put_around}
pub use Rattle.std.proofs.Common.{List, ap, append_assoc, arith, drop, get_or, inl, inr, length, length-append, max, refl, subst, sym, take, true, ℕ, [], ◌++◌, ◌+◌, ◌-◌, ◌<◌, ◌∙◌, ◌∷◌, ◌≡◌, ◌≤◌}
pub use Rattle.std.proofs.lemmas.List.{append-nil, drop-drop, drop-take, drop_more, get_or-append-add, get_or-drop, get_or-take, get_or_append_left, length-drop, length-take-le, map_push, take-append-drop, take-take, take_all, take_more}
pub use Rattle.std.specs.Prelude.{All, IsTrue, Some, slice_get}
pub use Rattle.surf_model.proofs.ContextLemmas.{first_answer, in_context, list_in_context, one_after_another, stays_walk}
pub use Rattle.surf_model.specs.FaceLists.{FaceList, is_edge, is_used}
pub use Rattle.surf_model.specs.Moves.{Homotopic, PeakedMoves, apply, apply_all}
unfoldable pub use Rattle.surf_model.specs.Moves.{greatest_darts}
pub use Rattle.surf_model.specs.PeakedLists.{LeadsAtPeak}
pub use Rattle.surf_model.specs.Rewriting.{all_raised, raised}
pub use Rattle.surf_model.specs.Walks.{AreWalkPair, IsWalk, darts}
pub use Rattle.surf_model.specs.declared.moves.Move.{Move}
pub use Rattle.surf_model.specs.declared.moves.Move.TheVariants.{Across, Insert, Remove}
pub use Rattle.surf_model.specs.declared.names.VertexName.{VertexName}
