-- What proofs of this crate cite of its definitions and of other crates, passed on from one place (by tools/imports). Declares nothing.
pub use Rattle.flat_forms.specs.FlatStates.{flat_next}
pub use Rattle.flat_forms.specs.Vectors.{Vector, origin}
pub use Rattle.halfedge_map.specs.OrientedMeshes.{IsOrientedSurface, OrientedMesh}
pub use Rattle.labellings.proofs.PathLemmas.{listed, path-next}
pub use Rattle.labellings.proofs.WalkWordLemmas.{flat_wheel_of_good, hyper_wheel_of_good, quad_path_below, quad_path_leads_to_sum}
pub use Rattle.labellings.specs.GoodLabellings.{IsGood}
pub use Rattle.labellings.specs.Labellings.{FaceLabels, LabellingView, signs_of}
pub use Rattle.labellings.specs.QuadPaths.{quad_path, spokes}
pub use Rattle.labellings.specs.Spokes.{spoke_list}
pub use Rattle.labellings.specs.WalkWords.{IsWordOf}
pub use Rattle.polygon_cut.specs.Polygons.{IsCutFrom, PolygonView}
pub use Rattle.quad_system.proofs.FlatWordLemmas.{one_sum}
pub use Rattle.quad_system.specs.PolygonLabellings.{IsFull, face_labels, labelling_from}
pub use Rattle.std.proofs.Common.{Bool, List, add-one, ap, ap₂, arith, false, get_or, inl, inr, length, of_z, refl, subst, suc, sym, take, to_z, true, w64, zero, ℕ, [], ◌*◌, ◌++◌, ◌+◌, ◌<◌, ◌∙◌, ◌∷◌, ◌≡◌, ◌≤◌, ◌⊎◌}
pub use Rattle.std.proofs.lemmas.Int.{ints}
pub use Rattle.std.proofs.lemmas.List.{append-nil, get_or_append_left, get_or_default, length-append, length-map, same_lists, take_all}
pub use Rattle.std.specs.Prelude.{All, IfSome, IsTrue, MatchOption, None, Option, Some, pos, ℤ, ◌+ℤ◌, ◌-ℤ◌, ◌↔◌}
pub use Rattle.surf_model.proofs.EdgeLemmas.{edge_swap, head_used}
pub use Rattle.surf_model.proofs.TableEdgeLemmas.{table_pair}
pub use Rattle.surf_model.specs.Edges.{Edge, HasEnds, IsTableOf, edge_in}
pub use Rattle.surf_model.specs.FaceLists.{FaceList, is_edge, is_used}
pub use Rattle.surf_model.specs.Moves.{Homotopic}
pub use Rattle.surf_model.specs.Walks.{AreWalkPair, HaveCommonEnds, IsWalk, darts}
pub use Rattle.tree_cotree.specs.Splits.{IsSplit, SplitView}
pub use Rattle.turn_words.specs.FormLaws.{led}
pub use Rattle.turn_words.specs.HyperStates.{BelongsTo, HyperState, IsEven, IsHyperWheel, empty_state, hyper_next}
pub use Rattle.turn_words.specs.declared.word.Word.TheVariants.{Flat, Turns}
pub use Rattle.walk_translate.specs.DartSpokes.{AreSpokesBelow, AreSpokesOf, spokes_kept_at}
pub use Rattle.walk_translate.specs.Found.{DoDecide}
pub use Rattle.walk_translate.specs.LabelledSurfaces.{IsLabelledSurface, IsWordUnder, LabelledView}
pub use Rattle.walk_translate.specs.SurfaceLabels.{HasSphereSplit, IsLabelledByCut, IsSurfaceLabelling}
