-- What proofs of this crate cite of its definitions and of other crates, passed on from one place (by tools/imports). Declares nothing.
pub use Rattle.closed_doubles.proofs.DoubleSigns.{double_orientable, orientable_there}
pub use Rattle.closed_walks.specs.FreeHomotopy.{FreelyHomotopic, IsClosedWalk}
pub use Rattle.compact_surfaces.specs.CompactSurfaces.{IsClosedFor, IsCompactSurface, IsOrientableCompactSurface}
pub use Rattle.compact_surfaces.specs.Faults.{IsConditionFault, IsCoverBeyond, IsFaultBehind, IsFirstCompactFault, IsLimitFault}
pub use Rattle.compact_surfaces.specs.Kept.{IsKeptClosed, first_faces}
pub use Rattle.compact_surfaces.specs.Manifolds.{has_signs, mesh_of_manifold}
pub use Rattle.compact_surfaces.specs.declared.fault.CompactFault.{CompactFault}
pub use Rattle.compact_surfaces.specs.declared.fault.CompactFault.TheVariants.{Cover, Double, EdgeSides, NoFace, OutOfMemory, Pinched}
pub use Rattle.component_deciding.specs.WordFinders.{mesh_of_finder}
pub use Rattle.connectivity.proofs.EdgeCounts.{few_of_two, no_edge_no_side}
pub use Rattle.doubling.proofs.KeptClasses.{keeps_free_homotopy, keeps_homotopy}
pub use Rattle.doubling.proofs.KeptMoves.{kept_walk}
pub use Rattle.doubling.proofs.LimitLemmas.{not_too_large, one_limit}
pub use Rattle.doubling.specs.Doubles.{double_of, mirror_face, rim_quads}
pub use Rattle.free_forms.specs.OpenSurfaces.{HasBoundary}
pub use Rattle.orientation_cover.proofs.ClassLemmas.{one_ways}
pub use Rattle.orientation_cover.proofs.LiftLemmas.{lift_is_walk, lifts_homotopic}
pub use Rattle.orientation_cover.specs.Turns.{cover_by, lift_by}
pub use Rattle.orientation_cover.specs.Ways.{AreWays}
pub use Rattle.std.proofs.Common.{Bool, List, ap, append_assoc, ap₂, arith, false, get_or, inl, inr, length, map, refl, subst, sym, take, true, ℕ, [], ◌++◌, ◌+◌, ◌<◌, ◌↔◌, ◌∙◌, ◌∷◌, ◌≡◌, ◌≤◌, ◌⊎◌}
pub use Rattle.std.proofs.lemmas.Bool.{both_ways, cases_Bool, cases_lt, cases_order}
pub use Rattle.std.proofs.lemmas.List.{get_or-map, get_or-take, get_or_default, length-map, length-take-le, map_more, take_all}
pub use Rattle.std.proofs.lemmas.Result.{err_from_is_err_and}
pub use Rattle.std.specs.Prelude.{All, Err, IfErr, IfOk, IsTrue, MatchOption, None, Ok, Option, Result, Some}
pub use Rattle.surf_model.proofs.WayBackLemmas.{list_keeps_ends}
pub use Rattle.surf_model.specs.Edges.{Edge, IsTableOf}
pub use Rattle.surf_model.specs.FaceLists.{FaceList, HasFileSize, IsFaceList, is_edge, is_used}
pub use Rattle.surf_model.specs.Moves.{Homotopic}
pub use Rattle.surf_model.specs.OrientableSurfaces.{IsOrientableSurface}
pub use Rattle.surf_model.specs.Surfaces.{IsClosedManifold, IsOrientable, sides_between}
pub use Rattle.surf_model.specs.Walks.{AreWalkPair, IsWalk, walk_at}
pub use Rattle.surf_model.specs.declared.decisions.Answer.TheVariants.{Different}
pub use Rattle.walk_classes.specs.Faults.{IsClassFault, IsFirstNoWalk}
pub use Rattle.walk_classes.specs.WalkClasses.{AreClasses, AreInOneClass, IsLeastInClass}
pub use Rattle.walk_classes.specs.declared.fault.ClassFault.TheVariants.{NoWalk}
pub use Rattle.walk_translate.specs.Found.{IsFoundOn}
