-- What proofs of this crate cite of its definitions and of other crates, passed on from one place (by tools/imports). Declares nothing.
pub use Rattle.labellings.specs.GoodLabellings.{HasShape, IsGood, MeetsSomeRule, SidesMeetRule}
pub use Rattle.labellings.specs.Labellings.{FaceLabels, LabellingView, head_label, label_at, labels_at, signs_of, tail_label}
pub use Rattle.manifold_check.proofs.PartPieces.{IsOfComponent, face_same_place, piece_of_parts, walk_alone}
pub use Rattle.manifold_check.proofs.PieceLemmas.{ComesFrom, HasPlaceAmong, IsPiece, IsRenamed, comes_from, edge_of_side, face-submesh, length-submesh, renamed, renamed_side}
pub use Rattle.manifold_check.proofs.PieceSurfaces.{end_alike, flipped_alike, partners_down, start_alike}
pub use Rattle.std.proofs.Common.{Bool, List, ap, arith, cond, false, get_or, inl, inr, length, refl, replicate, subst, suc, sym, take, true, ℕ, [], ◌++◌, ◌+◌, ◌<◌, ◌↔◌, ◌∙◌, ◌∷◌, ◌≡◌, ◌≤◌, ◌⊎◌}
pub use Rattle.std.proofs.lemmas.Bool.{both_ways, cases_eq, cases_lt}
pub use Rattle.std.proofs.lemmas.List.{get_or-replicate, get_or_append_left, get_or_default, get_or_past, get_or_push, length-replicate, length_push, map-append, take-replicate, take_all, take_more}
pub use Rattle.std.specs.Prelude.{All, Contains, Option, Some}
pub use Rattle.surf_model.specs.ComponentParts.{AreParts, PartsView, component_at, component_mesh}
pub use Rattle.surf_model.specs.Darts.{IsSide, head_of, side_after, tail_of}
pub use Rattle.surf_model.specs.FaceLists.{FaceList, FaceSide, IsFaceList, face_at, is_edge}
pub use Rattle.surf_model.specs.Submeshes.{signs_among, submesh}
pub use Rattle.surf_model.specs.Surfaces.{ArePartners, IsClosedManifold, IsCoherent, RunOppositely, end_under, is_flipped, start_under}
pub use Rattle.surf_model.specs.declared.edges.Side.{Side}
pub use Rattle.widening.specs.Widened.{IsWidened}
