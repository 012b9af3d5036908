-- What proofs of this crate cite of its definitions and of other crates, passed on from one place (by tools/imports). Declares nothing.
pub use Rattle.closed_walks.specs.FreeHomotopy.{FreeStep, FreelyHomotopic, FreelyLeads, IsClosedWalk, Moved, Rotated, after_all_free, after_free}
pub use Rattle.component_deciding.specs.ComponentWords.{AreLabelledApart, IsFreeAmong, IsFreeUnder, IsOwnLabelled, IsToldAt, IsWordAmong, SeveralView, labelled_at, place_of_walk, unboxed}
pub use Rattle.component_deciding.specs.OwnVertices.{AreOwnNumbers, IsApart, IsOwnWalk, own_mesh, own_walk}
unfoldable pub use Rattle.component_deciding.specs.OwnVertices.{own_number}
pub use Rattle.component_deciding.specs.declared.apart.Apart.{Apart}
pub use Rattle.component_deciding.specs.declared.order.Placed.{Placed}
pub use Rattle.component_deciding.specs.declared.own_numbers.OwnNumbers.{OwnNumbers}
pub use Rattle.manifold_check.proofs.MeasureLemmas.{count_of_passing, place_of_used, unused_counted, used_alike, used_counted, vertices_counted}
pub use Rattle.manifold_check.proofs.PartPieces.{IsOfComponent, closed_alone, names_within, piece_of_parts, walk_alone, walk_same_place, walk_whole}
pub use Rattle.manifold_check.proofs.PieceLemmas.{IsPiece, face-submesh, length-submesh, used_down}
pub use Rattle.manifold_check.proofs.PieceMoves.{homotopic_alike}
pub use Rattle.manifold_check.proofs.PieceSurfaces.{coherent_alone}
pub use Rattle.polygon_cut.proofs.CountLemmas.{count_at_most, count_passes}
pub use Rattle.renaming.proofs.RenamedMoves.{homotopic_renamed}
pub use Rattle.renaming.proofs.RenamedSides.{led_back, list_restored, total_renamed, valid_renamed}
pub use Rattle.renaming.proofs.RenamedWalks.{ends_renamed, joined_renamed, restored, walk_renamed}
pub use Rattle.renaming.specs.Renamings.{IsRenamed}
pub use Rattle.std.proofs.Common.{Bool, Global, List, Vec, ap, ap₂, arith, cond, eqb, false, get_or, get_or-set_other, get_or-set_same, inl, inr, length, length-set, map, refl, set, slice_index, subst, suc, sym, take, true, zero, ℕ, [], ◌&&◌, ◌++◌, ◌+◌, ◌<◌, ◌↔◌, ◌∙◌, ◌∷◌, ◌≡◌, ◌≢◌, ◌≤◌}
pub use Rattle.std.proofs.lemmas.Bool.{and_right, both_ways, cases_Bool, cases_lt, eq-eqb, eqb-true, ne_eqb}
pub use Rattle.std.proofs.lemmas.List.{get_or-map, get_or_append_left, get_or_default, get_or_push, get_or_read, length-append, length-map, length_push, map-append, map_more, take_all, take_more}
pub use Rattle.std.proofs.lemmas.List.Elements.{All-push, All-weaker, filter_agree}
pub use Rattle.std.proofs.lemmas.List.Sorted.{All-permutation, Contains-permutation, IsPermutation-map, IsPermutation-refl, IsPermutation-trans, length_permutation}
pub use Rattle.std.proofs.lemmas.Result.{IfOk-weaker}
pub use Rattle.std.specs.Global.{Box}
pub use Rattle.std.specs.List.{range_with_len}
pub use Rattle.std.specs.Prelude.{All, Contains, Err, IfOk, IfSome, MatchOption, None, Ok, Option, Result, Some}
pub use Rattle.surf_model.proofs.EdgeLemmas.{corner_used, used_below}
pub use Rattle.surf_model.proofs.FilterLemmas.{map_agree}
pub use Rattle.surf_model.specs.Building.{IsCounted}
pub use Rattle.surf_model.specs.ComponentParts.{AreParts, PartsView, component_at, component_mesh}
pub use Rattle.surf_model.specs.Components.{EachTwoAreJoined}
pub use Rattle.surf_model.specs.FaceLists.{FaceList, HasFileSize, IsFace, IsFaceList, face_at, is_used, total_sides}
pub use Rattle.surf_model.specs.Genera.{HasGenus}
pub use Rattle.surf_model.specs.Moves.{Homotopic}
pub use Rattle.surf_model.specs.Submeshes.{signs_among}
pub use Rattle.surf_model.specs.Surfaces.{AreJoinedByWalk, IsClosed, IsClosedManifold, IsCoherent, IsSurface}
pub use Rattle.surf_model.specs.Vertices.{numbers}
pub use Rattle.surf_model.specs.Walks.{AreWalkPair, HaveCommonEnds, IsWalk, darts}
pub use Rattle.surf_model.specs.declared.decisions.Answer.{Answer}
pub use Rattle.surf_model.specs.declared.names.VertexName.{VertexName}
pub use Rattle.walk_translate.specs.Found.{DoDecide, IsFoundOn, IsWordFound}
pub use Rattle.walk_translate.specs.LabelledSurfaces.{IsLabelledSurface, IsWordUnder, LabelledView}
